use Prim.Native.Nat.{ℕ, ◌<◌, ◌≤◌, ◌+◌}
use native.Mathlib.Omega.{arith}
use Rattle.std.specs.Prelude.{Ok, Err}
use lib.Dec.{T}
use Rattle.unify.specs.declared.walk.WalkStop.TheVariants.{Met}
use mathlib.Core.Path.{sym, ◌∙◌, subst, subst⁻¹}
use mathlib.Core.Logic.{inl, inr}
use Rattle.syntax.specs.Words.{first_name}
use Rattle.run_layout.specs.Regions.{loaded_node}
use Rattle.unify.specs.Walks.{Walkable}
use Rattle.unify.proofs.Rowwise.{pair_inside, term-met, term-clash, term-list, term-on, list-end, list_inside, list-met}
use Rattle.unify.proofs.walk.begin_term.Goals as goal

pub word_at-w-requires : goal.word_at-w-requires
word_at-w-requires c = omega (arith, pair_inside c.args.nodes.now c.args.p c.args.q c.requires)

pub word_at-z-requires : goal.word_at-z-requires
word_at-z-requires c = omega (arith, pair_inside c.args.nodes.now c.args.p c.args.q c.requires)

pub returns-then-w-lt-FIRST_NAME : goal.returns-then-w-lt-FIRST_NAME
returns-then-w-lt-FIRST_NAME c = record { walks = λ g. term-met c.args.nodes.now c.args.p c.args.q g; variable = λ l. inl (subst (λ (k : ℕ). k < first_name) c.word_at-w.ensures c.if-w-lt-FIRST_NAME.true) }

pub returns-then-z-lt-FIRST_NAME : goal.returns-then-z-lt-FIRST_NAME
returns-then-z-lt-FIRST_NAME c = record { walks = λ g. term-met c.args.nodes.now c.args.p c.args.q g; variable = λ l. inr (subst (λ (k : ℕ). k < first_name) c.word_at-z.ensures c.if-z-lt-FIRST_NAME.true) }

pub returns-then-w-z : goal.returns-then-w-z
returns-then-w-z c = record { variable = tt; walks = λ g. term-clash c.args.nodes.now c.args.p c.args.q g (subst (λ (k : ℕ). first_name ≤ k) c.word_at-w.ensures c.if-w-lt-FIRST_NAME.false) (subst (λ (k : ℕ). first_name ≤ k) c.word_at-z.ensures c.if-z-lt-FIRST_NAME.false) (λ z. c.if-w-z.true (c.word_at-w.ensures ∙ (z ∙ sym c.word_at-z.ensures))) }

pub size_at-size-requires : goal.size_at-size-requires
size_at-size-requires c = omega (arith, pair_inside c.args.nodes.now c.args.p c.args.q c.requires)

pub overflow_add-e : goal.overflow_add-e
overflow_add-e c = omega (arith, c.size_at-size.ensures, pair_inside c.args.nodes.now c.args.p c.args.q c.requires)

pub overflow_add-i : goal.overflow_add-i
overflow_add-i c = omega (arith, pair_inside c.args.nodes.now c.args.p c.args.q c.requires)

pub overflow_add-j : goal.overflow_add-j
overflow_add-j c = omega (arith, pair_inside c.args.nodes.now c.args.p c.args.q c.requires)

pub returns-then-e-i : goal.returns-then-e-i
returns-then-e-i c = record { walks = λ g. term-on c.args.nodes.now c.args.p c.args.q g c.word_at-w.result c.word_at-z.result c.size_at-size.result c.word_at-w.ensures c.word_at-z.ensures c.if-w-lt-FIRST_NAME.false c.if-z-lt-FIRST_NAME.false c.if-w-z.false c.size_at-size.ensures (Ok tt) (λ g1. list-end c.args.nodes.now (c.args.p + loaded_node) (c.args.p + c.size_at-size.result) (c.args.q + loaded_node) g1 c.if-e-i.true); variable = tt }

pub word_at-requires : goal.word_at-requires
word_at-requires c = omega (arith, list_inside c.args.nodes.now (c.args.p + loaded_node) (c.args.p + c.size_at-size.result) (c.args.q + loaded_node) (subst⁻¹ (λ (k : ℕ). Walkable c.args.nodes.now (c.args.p + loaded_node) (c.args.p + k) (c.args.q + loaded_node)) c.size_at-size.ensures (term-list c.args.nodes.now c.args.p c.args.q c.requires (subst (λ (k : ℕ). first_name ≤ k) c.word_at-w.ensures c.if-w-lt-FIRST_NAME.false) (subst (λ (k : ℕ). first_name ≤ k) c.word_at-z.ensures c.if-z-lt-FIRST_NAME.false) (sym c.word_at-w.ensures ∙ (c.if-w-z.false ∙ c.word_at-z.ensures)))) c.if-e-i.false)

pub returns-then-word_at-lt-FIRST_NAME : goal.returns-then-word_at-lt-FIRST_NAME
returns-then-word_at-lt-FIRST_NAME c = record { walks = λ g. (term-on c.args.nodes.now c.args.p c.args.q g c.word_at-w.result c.word_at-z.result c.size_at-size.result c.word_at-w.ensures c.word_at-z.ensures c.if-w-lt-FIRST_NAME.false c.if-z-lt-FIRST_NAME.false c.if-w-z.false c.size_at-size.ensures (Err (Met (c.args.p + loaded_node) (c.args.q + loaded_node))) (λ g1. list-met c.args.nodes.now (c.args.p + loaded_node) (c.args.p + c.size_at-size.result) (c.args.q + loaded_node) g1 c.if-e-i.false (c.args.p + loaded_node) (c.args.q + loaded_node) (λ v. term-met c.args.nodes.now (c.args.p + loaded_node) (c.args.q + loaded_node) v))); variable = λ l. inl (subst (λ (k : ℕ). k < first_name) c.word_at.ensures c.if-word_at-lt-FIRST_NAME.true) }

pub word_at-requires-2 : goal.word_at-requires-2
word_at-requires-2 c = omega (arith, list_inside c.args.nodes.now (c.args.p + loaded_node) (c.args.p + c.size_at-size.result) (c.args.q + loaded_node) (subst⁻¹ (λ (k : ℕ). Walkable c.args.nodes.now (c.args.p + loaded_node) (c.args.p + k) (c.args.q + loaded_node)) c.size_at-size.ensures (term-list c.args.nodes.now c.args.p c.args.q c.requires (subst (λ (k : ℕ). first_name ≤ k) c.word_at-w.ensures c.if-w-lt-FIRST_NAME.false) (subst (λ (k : ℕ). first_name ≤ k) c.word_at-z.ensures c.if-z-lt-FIRST_NAME.false) (sym c.word_at-w.ensures ∙ (c.if-w-z.false ∙ c.word_at-z.ensures)))) c.if-e-i.false)

pub returns-then-word_at-lt-FIRST_NAME-2 : goal.returns-then-word_at-lt-FIRST_NAME-2
returns-then-word_at-lt-FIRST_NAME-2 c = record { walks = λ g. (term-on c.args.nodes.now c.args.p c.args.q g c.word_at-w.result c.word_at-z.result c.size_at-size.result c.word_at-w.ensures c.word_at-z.ensures c.if-w-lt-FIRST_NAME.false c.if-z-lt-FIRST_NAME.false c.if-w-z.false c.size_at-size.ensures (Err (Met (c.args.p + loaded_node) (c.args.q + loaded_node))) (λ g1. list-met c.args.nodes.now (c.args.p + loaded_node) (c.args.p + c.size_at-size.result) (c.args.q + loaded_node) g1 c.if-e-i.false (c.args.p + loaded_node) (c.args.q + loaded_node) (λ v. term-met c.args.nodes.now (c.args.p + loaded_node) (c.args.q + loaded_node) v))); variable = λ l. inr (subst (λ (k : ℕ). k < first_name) c.word_at-2.ensures c.if-word_at-lt-FIRST_NAME-2.true) }

pub returns-then-is_big : goal.returns-then-is_big
returns-then-is_big c = record { walks = λ g. term-met c.args.nodes.now c.args.p c.args.q g; variable = λ l. absurd (subst T (sym c.if-is_big.true ∙ c.is_big.ensures l) tt) }

pub unify_list-requires : goal.unify_list-requires
unify_list-requires c = subst⁻¹ (λ (k : ℕ). Walkable c.args.nodes.now (c.args.p + loaded_node) (c.args.p + k) (c.args.q + loaded_node)) c.size_at-size.ensures (term-list c.args.nodes.now c.args.p c.args.q c.requires (subst (λ (k : ℕ). first_name ≤ k) c.word_at-w.ensures c.if-w-lt-FIRST_NAME.false) (subst (λ (k : ℕ). first_name ≤ k) c.word_at-z.ensures c.if-z-lt-FIRST_NAME.false) (sym c.word_at-w.ensures ∙ (c.if-w-z.false ∙ c.word_at-z.ensures)))

pub returns : goal.returns
returns c = record { walks = λ g. term-on c.args.nodes.now c.args.p c.args.q g c.word_at-w.result c.word_at-z.result c.size_at-size.result c.word_at-w.ensures c.word_at-z.ensures c.if-w-lt-FIRST_NAME.false c.if-z-lt-FIRST_NAME.false c.if-w-z.false c.size_at-size.ensures c.unify_list.result c.unify_list.ensures.walks; variable = c.unify_list.ensures.variable }
