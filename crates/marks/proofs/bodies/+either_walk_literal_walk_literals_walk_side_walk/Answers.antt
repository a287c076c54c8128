use native.Mathlib.Omega.{arith}
use Rattle.std.proofs.lemmas.Result.{err_from_is_err_and}
use mathlib.Core.Path.{ap, ◌∙◌}
use Rattle.syntax.specs.Words.{side_items}
use Rattle.marks.proofs.LiteralsLaws.{literal-room}
use Rattle.marks.proofs.Walking.{either-at, left-stops, right-at, right-literal, right-further, right-stops, both-pass, both-room, side-body, begun, turn, walk-ended, walk-stopped, further-on, rises, walk-on}
use Rattle.marks.proofs.bodies.+either_walk_literal_walk_literals_walk_side_walk.Goals as goal

pub either_walk-side_walk-requires : goal.either_walk-side_walk-requires
either_walk-side_walk-requires t c = (omega (arith, c.decreases), ((either-at c.requires.left_kind_bound.0 c.requires.literal_at).left, c.requires.left_kind_bound.1))

pub either_walk-returns-in_err-left : goal.either_walk-returns-in_err-left
either_walk-returns-in_err-left t c = let p = err_from_is_err_and c.from_residual.result c.from_residual.ensures.1 in
    rw (p.1, p.2)
    (λ d w. left-stops c.requires.left_kind_bound.0 d.list c.args.check.clause c.args.literal c.args.known (c.side_walk.ensures d) c.in_err-left.was w)

pub either_walk-side_walk-requires-2 : goal.either_walk-side_walk-requires-2
either_walk-side_walk-requires-2 t c = let f = c.in_ok-left.was in
    let l = c.side_walk in
    let d = c.args.check.declarations.stands in
    let w = c.requires.literal_at in (
      omega (arith, c.decreases, right-further c.requires.left_kind_bound.0 d.list c.args.check.clause c.args.literal c.args.known (l.ensures d) f w),
      (
        right-at c.requires.left_kind_bound.0 d.list c.args.check.clause c.args.literal c.args.known (l.ensures d) f w,
        right-literal c.requires.left_kind_bound.0 d.list c.args.check.clause c.args.literal c.args.known (l.ensures d) f w c.requires.left_kind_bound.1,
      ),
    )

pub either_walk-returns-in_err-right : goal.either_walk-returns-in_err-right
either_walk-returns-in_err-right t c = let p = err_from_is_err_and c.from_residual-in_err-right.result c.from_residual-in_err-right.ensures.1 in
    rw (p.1, p.2)
    (λ d w. right-stops c.requires.left_kind_bound.0 d.list c.args.check.clause c.args.literal c.args.known (c.side_walk.ensures d) c.in_ok-left.was (c.side_walk-2.ensures d) c.in_err-right.was w)

pub either_walk-overflow_add-result : goal.either_walk-overflow_add-result
either_walk-overflow_add-result t c = omega (arith, (both-room c.requires.left_kind_bound.0 c.args.check.declarations.stands.list c.args.check.clause c.args.literal c.args.known (c.side_walk.ensures c.args.check.declarations.stands) c.in_ok-left.was (c.side_walk-2.ensures c.args.check.declarations.stands) c.in_ok-right.was c.requires.literal_at).0)

pub either_walk-overflow_add-result-2 : goal.either_walk-overflow_add-result-2
either_walk-overflow_add-result-2 t c = omega (arith, (both-room c.requires.left_kind_bound.0 c.args.check.declarations.stands.list c.args.check.clause c.args.literal c.args.known (c.side_walk.ensures c.args.check.declarations.stands) c.in_ok-left.was (c.side_walk-2.ensures c.args.check.declarations.stands) c.in_ok-right.was c.requires.literal_at).1)

pub either_walk-overflow_add-result-3 : goal.either_walk-overflow_add-result-3
either_walk-overflow_add-result-3 t c = omega (arith, (both-room c.requires.left_kind_bound.0 c.args.check.declarations.stands.list c.args.check.clause c.args.literal c.args.known (c.side_walk.ensures c.args.check.declarations.stands) c.in_ok-left.was (c.side_walk-2.ensures c.args.check.declarations.stands) c.in_ok-right.was c.requires.literal_at).1)

pub either_walk-returns : goal.either_walk-returns
either_walk-returns t c = let l = c.side_walk in
    let r = c.side_walk-2 in
    λ d w. both-pass c.requires.left_kind_bound.0 d.list c.args.check.clause c.args.literal c.args.known (l.ensures d) c.in_ok-left.was (r.ensures d) c.in_ok-right.was c.in_both.ensures w

pub literal_walk-word_at-requires : goal.literal_walk-word_at-requires
literal_walk-word_at-requires t c = literal-room c.requires.literal_at

pub literal_walk-either_walk-requires : goal.literal_walk-either_walk-requires
literal_walk-either_walk-requires t c = (omega (arith, c.decreases), (c.requires.literal_at, (omega (arith, c.word_at.ensures, c.if-word_at-ge-LEFT_KIND.true), c.requires.literal_bound)))

pub literal_walk-returns-then-word_at-ge-LEFT_KIND : goal.literal_walk-returns-then-word_at-ge-LEFT_KIND
literal_walk-returns-then-word_at-ge-LEFT_KIND t c = c.either_walk.ensures

pub literal_walk-plain_walk-requires : goal.literal_walk-plain_walk-requires
literal_walk-plain_walk-requires t c = record { literal_at = c.requires.literal_at; p_bound = (omega (arith, c.word_at.ensures, c.if-word_at-ge-LEFT_KIND.false), c.requires.literal_bound) }

pub literal_walk-returns : goal.literal_walk-returns
literal_walk-returns t c = c.plain_walk.ensures

pub literals_walk-loop-i-init : goal.literals_walk-loop-i-init
literals_walk-loop-i-init t c = (omega arith, omega arith, c.requires.literal_bound, λ d w. begun w)

pub literals_walk-literal_walk-requires : goal.literals_walk-literal_walk-requires
literals_walk-literal_walk-requires t c = let h = c.loop-i.invariant in (omega (arith, c.decreases, h.1), ((turn c.loop-i-test.true (h.3 c.args.check.declarations.stands c.requires.body_at)).literal, h.2))

pub literals_walk-returns-in_err-walked : goal.literals_walk-returns-in_err-walked
literals_walk-returns-in_err-walked t c = let h = c.loop-i.invariant in
    let p = err_from_is_err_and c.from_residual.result c.from_residual.ensures.1 in
    rw (p.1, p.2)
    (λ d w. walk-stopped c.loop-i-test.true (h.3 d w) (c.literal_walk.ensures d) c.in_err-walked.was _ _ _)

pub literals_walk-overflow_add-i : goal.literals_walk-overflow_add-i
literals_walk-overflow_add-i t c = let h = c.loop-i.invariant in
    let a = h.3 c.args.check.declarations.stands c.requires.body_at in
    let f = c.in_ok-walked.was in
    let one = c.literal_walk in
    let on = further-on c.loop-i-test.true a (one.ensures c.args.check.declarations.stands) f in
    omega (arith, on.3)

pub literals_walk-loop-i-smaller : goal.literals_walk-loop-i-smaller
literals_walk-loop-i-smaller t c = let h = c.loop-i.invariant in
    let a = h.3 c.args.check.declarations.stands c.requires.body_at in
    let f = c.in_ok-walked.was in
    let one = c.literal_walk in
    let on = further-on c.loop-i-test.true a (one.ensures c.args.check.declarations.stands) f in
    omega (arith, on.2, on.3)

pub literals_walk-loop-i-preserved : goal.literals_walk-loop-i-preserved
literals_walk-loop-i-preserved t c = let h = c.loop-i.invariant in
    let a = h.3 c.args.check.declarations.stands c.requires.body_at in
    let f = c.in_ok-walked.was in
    let one = c.literal_walk in
    let on = further-on c.loop-i-test.true a (one.ensures c.args.check.declarations.stands) f in
    let up = rises c.loop-i-test.true a (one.ensures c.args.check.declarations.stands) f h.2 in (
      on.3,
      omega (arith, h.1, up.1),
      up.0,
      λ d w. walk-on c.loop-i-test.true (h.3 d w) (one.ensures d) f,
    )

pub literals_walk-returns : goal.literals_walk-returns
literals_walk-returns t c = λ d w. walk-ended w.count c.loop-i-test.false (c.loop-i.invariant.3 d w)

pub side_walk-word_at-requires : goal.side_walk-word_at-requires
side_walk-word_at-requires t c = c.requires.side_at.has.0

pub side_walk-overflow_add-q : goal.side_walk-overflow_add-q
side_walk-overflow_add-q t c = omega (arith, c.requires.side_at.has.0)

pub side_walk-literals_walk-requires : goal.side_walk-literals_walk-requires
side_walk-literals_walk-requires t c = (omega (arith, c.decreases, c.requires.side_at.has.0), (side-body (c.items_of_side-items.ensures ∙ ap side_items c.word_at.ensures) c.requires.side_at, omega (arith, c.requires.literal_bound)))

pub side_walk-returns : goal.side_walk-returns
side_walk-returns t c = λ d w. c.literals_walk.ensures d (side-body (c.items_of_side-items.ensures ∙ ap side_items c.word_at.ensures) w)
