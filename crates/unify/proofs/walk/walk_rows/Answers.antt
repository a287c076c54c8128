use Prim.Native.Nat.{ℕ, ◌+◌}
use native.Mathlib.Omega.{arith}
use mathlib.Core.Path.{sym, ◌∙◌, subst⁻¹}
use lib.ListN.{get_or}
use Rattle.unify.specs.Walks.{Walkable}
use Rattle.unify.proofs.Rowwise.{list_on, list-stopped, walked-on, list-end, list-pair, list_inside, list-rest}
use Rattle.unify.proofs.walk.walk_rows.Goals as goal

pub returns-then-e-p : goal.returns-then-e-p
returns-then-e-p c = record { walks = λ g. list-end c.args.nodes.now c.args.p c.args.e c.args.q g c.if-e-p.true; variable = tt }

pub begin_term-begun-requires : goal.begin_term-begun-requires
begin_term-begun-requires c = list-pair c.args.nodes.now c.args.p c.args.e c.args.q c.requires c.if-e-p.false

pub size_at-requires : goal.size_at-requires
size_at-requires c = (list_inside c.args.nodes.now c.args.p c.args.e c.args.q c.requires c.if-e-p.false).0.0

pub overflow_add-i : goal.overflow_add-i
overflow_add-i c = omega (arith, c.size_at.ensures, list_inside c.args.nodes.now c.args.p c.args.e c.args.q c.requires c.if-e-p.false)

pub size_at-requires-2 : goal.size_at-requires-2
size_at-requires-2 c = (list_inside c.args.nodes.now c.args.p c.args.e c.args.q c.requires c.if-e-p.false).0.1

pub overflow_add-j : goal.overflow_add-j
overflow_add-j c = omega (arith, c.size_at-2.ensures, list_inside c.args.nodes.now c.args.p c.args.e c.args.q c.requires c.if-e-p.false)

pub unify_list-requires : goal.unify_list-requires
unify_list-requires c = subst⁻¹ (λ (k : ℕ). Walkable c.args.nodes.now (c.args.p + k) c.args.e (c.args.q + c.size_at-2.result)) c.size_at.ensures (subst⁻¹ (λ (k : ℕ). Walkable c.args.nodes.now (c.args.p + get_or c.args.nodes.now (c.args.p + 1) 0) c.args.e (c.args.q + k)) c.size_at-2.ensures (list-rest c.args.nodes.now c.args.p c.args.e c.args.q c.requires c.if-e-p.false))

pub returns : goal.returns
returns c = record { walks = λ g. list_on c.args.nodes.now c.args.p c.args.e c.args.q g c.if-e-p.false c.begin_term-begun.result (walked-on c.begin_term-begun.result (sym c.is_err.ensures.value ∙ c.if-is_err.false)) c.begin_term-begun.ensures.walks c.size_at.result c.size_at-2.result c.size_at.ensures c.size_at-2.ensures c.unify_list.result c.unify_list.ensures.walks; variable = c.unify_list.ensures.variable }

pub returns-then-is_err : goal.returns-then-is_err
returns-then-is_err c = record { walks = λ g. list-stopped c.args.nodes.now c.args.p c.args.e c.args.q g c.if-e-p.false c.begin_term-begun.result (sym c.is_err.ensures.value ∙ c.if-is_err.true) c.begin_term-begun.ensures.walks; variable = c.begin_term-begun.ensures.variable }
