use native.Mathlib.Omega.{arith}
use Rattle.std.proofs.lemmas.Result.{err_from_is_err_and}
use Rattle.marks.proofs.Items.{left-whole, left-none, first, left-stops, left-on, left-rises, left-fits, item-words}
use Rattle.marks.proofs.undeclared.undeclared_body.Goals as goal

pub loop-item-init : goal.loop-item-init
loop-item-init c = (omega arith, λ d w. left-whole w)

pub undeclared_item-requires : goal.undeclared_item-requires
undeclared_item-requires c = (first c.loop-item-test.true (c.loop-item.invariant.1 c.args.check.declarations.stands c.requires)).item

pub returns-in_err-undeclared_item : goal.returns-in_err-undeclared_item
returns-in_err-undeclared_item c = let p = err_from_is_err_and c.from_residual.result c.from_residual.ensures.1 in
    rw (p.1, p.2)
    (λ d w. left-stops c.loop-item-test.true (c.loop-item.invariant.1 d w) (c.undeclared_item.ensures d) (c.in_err-undeclared_item.was))

pub literals_at-literal-requires : goal.literals_at-literal-requires
literals_at-literal-requires c = item-words (first c.loop-item-test.true (c.loop-item.invariant.1 c.args.check.declarations.stands c.requires)).item

pub overflow_add-literal : goal.overflow_add-literal
overflow_add-literal c = omega (arith, left-fits c.loop-item-test.true (c.loop-item.invariant.1 c.args.check.declarations.stands c.requires) c.literals_at-literal.ensures c.loop-item.invariant.0)

pub past_item-at-requires : goal.past_item-at-requires
past_item-at-requires c = item-words (first c.loop-item-test.true (c.loop-item.invariant.1 c.args.check.declarations.stands c.requires)).item

pub loop-item-preserved : goal.loop-item-preserved
loop-item-preserved c = (
  left-rises c.loop-item-test.true (c.loop-item.invariant.1 c.args.check.declarations.stands c.requires) (c.undeclared_item.ensures c.args.check.declarations.stands) c.literals_at-literal.ensures c.past_item-at.ensures c.loop-item.invariant.0,
  λ d w. left-on c.loop-item-test.true (c.loop-item.invariant.1 d w) (c.undeclared_item.ensures d) (c.in_ok-undeclared_item.was) c.literals_at-literal.ensures c.past_item-at.ensures,
)

pub returns : goal.returns
returns c = λ d w. left-none c.loop-item-test.false (c.loop-item.invariant.1 d w)
