use native.Mathlib.Omega.{arith}
use mathlib.Core.Path.{sym, ◌∙◌, subst, subst⁻¹}
use mathlib.Core.Logic.{inl, inr}
use Rattle.syntax.specs.Words.{first_name}
use Rattle.run_layout.specs.Regions.{loaded_node}
use Rattle.unify.specs.Walks.{Walkable}
use Rattle.std.proofs.lemmas.Result.{err_from_is_err_and}
use Rattle.unify.proofs.Rowwise.{pair_inside, term-met, term-clash, term-list, term-on, list_on, list-end, list-pair, list_inside, list_stop, list-rest}
use Prim.Native.Nat.{ℕ, ◌<◌, ◌≤◌, ◌+◌}
use lib.Dec.{T}
use lib.ListN.{get_or}
use Rattle.unify.proofs.walk.+unify_list_unify_term.Goals as goal

pub unify_list-returns-then-e-p : goal.unify_list-returns-then-e-p
unify_list-returns-then-e-p t c = record { walks = λ g. list-end c.args.nodes.now c.args.p c.args.e c.args.q g c.if-e-p.true; variable = tt }

pub unify_list-unify_term-requires : goal.unify_list-unify_term-requires
unify_list-unify_term-requires t c = (omega (arith, list_inside c.args.nodes.now c.args.p c.args.e c.args.q c.requires c.if-e-p.false), list-pair c.args.nodes.now c.args.p c.args.e c.args.q c.requires c.if-e-p.false)

pub unify_list-size_at-requires : goal.unify_list-size_at-requires
unify_list-size_at-requires t c = let args = c.args in (list_inside args.nodes.now args.p args.e args.q c.requires c.if-e-p.false).0.0

pub unify_list-overflow_add-i : goal.unify_list-overflow_add-i
unify_list-overflow_add-i t c = let args = c.args in omega (arith, c.size_at.ensures, list_inside args.nodes.now args.p args.e args.q c.requires c.if-e-p.false)

pub unify_list-size_at-requires-2 : goal.unify_list-size_at-requires-2
unify_list-size_at-requires-2 t c = let args = c.args in (list_inside args.nodes.now args.p args.e args.q c.requires c.if-e-p.false).0.1

pub unify_list-overflow_add-j : goal.unify_list-overflow_add-j
unify_list-overflow_add-j t c = let args = c.args in omega (arith, c.size_at-2.ensures, list_inside args.nodes.now args.p args.e args.q c.requires c.if-e-p.false)

pub unify_list-unify_list-requires : goal.unify_list-unify_list-requires
unify_list-unify_list-requires t c = let args = c.args in (omega (arith, c.size_at.ensures, list_inside args.nodes.now args.p args.e args.q c.requires c.if-e-p.false), subst⁻¹ (λ (k : ℕ). Walkable args.nodes.now (args.p + k) args.e (args.q + c.size_at-2.result)) c.size_at.ensures (subst⁻¹ (λ (k : ℕ). Walkable args.nodes.now (args.p + get_or args.nodes.now (args.p + 1) 0) args.e (args.q + k)) c.size_at-2.ensures (list-rest args.nodes.now args.p args.e args.q c.requires c.if-e-p.false)))

pub unify_list-returns : goal.unify_list-returns
unify_list-returns t c = let args = c.args in record { walks = λ g. list_on args.nodes.now args.p args.e args.q g c.if-e-p.false c.unify_term.result c.in_ok-unify_term.was c.unify_term.ensures.walks c.size_at.result c.size_at-2.result c.size_at.ensures c.size_at-2.ensures c.unify_list.result c.unify_list.ensures.walks; variable = c.unify_list.ensures.variable }

pub unify_term-word_at-w-requires : goal.unify_term-word_at-w-requires
unify_term-word_at-w-requires t c = (let k : _ = pair_inside c.args.nodes.now c.args.p c.args.q c.requires in omega (arith, k))

pub unify_term-word_at-z-requires : goal.unify_term-word_at-z-requires
unify_term-word_at-z-requires t c = omega (arith, pair_inside c.args.nodes.now c.args.p c.args.q c.requires)

pub unify_term-returns-then-w-lt-FIRST_NAME : goal.unify_term-returns-then-w-lt-FIRST_NAME
unify_term-returns-then-w-lt-FIRST_NAME t c = let args = c.args in record { walks = λ g. term-met args.nodes.now args.p args.q g; variable = λ l. inl (subst (λ (k : ℕ). k < first_name) c.word_at-w.ensures c.if-w-lt-FIRST_NAME.true) }

pub unify_term-returns-then-z-lt-FIRST_NAME : goal.unify_term-returns-then-z-lt-FIRST_NAME
unify_term-returns-then-z-lt-FIRST_NAME t c = let args = c.args in record { walks = λ g. term-met args.nodes.now args.p args.q g; variable = λ l. inr (subst (λ (k : ℕ). k < first_name) c.word_at-z.ensures c.if-z-lt-FIRST_NAME.true) }

pub unify_term-returns-then-w-z : goal.unify_term-returns-then-w-z
unify_term-returns-then-w-z t c = let args = c.args in record { variable = tt; walks = λ g. term-clash args.nodes.now args.p args.q g (subst (λ (k : ℕ). first_name ≤ k) c.word_at-w.ensures c.if-w-lt-FIRST_NAME.false) (subst (λ (k : ℕ). first_name ≤ k) c.word_at-z.ensures c.if-z-lt-FIRST_NAME.false) (λ z. c.if-w-z.true (c.word_at-w.ensures ∙ (z ∙ sym c.word_at-z.ensures))) }

pub unify_term-returns-then-is_big : goal.unify_term-returns-then-is_big
unify_term-returns-then-is_big t c = let args = c.args in record { walks = λ g. term-met args.nodes.now args.p args.q g; variable = λ l. absurd (subst T (sym c.if-is_big.true ∙ c.is_big.ensures l) tt) }

pub unify_term-size_at-size-requires : goal.unify_term-size_at-size-requires
unify_term-size_at-size-requires t c = let args = c.args in omega (arith, pair_inside args.nodes.now args.p args.q c.requires)

pub unify_term-overflow_add-e : goal.unify_term-overflow_add-e
unify_term-overflow_add-e t c = let args = c.args in omega (arith, c.size_at-size.ensures, pair_inside args.nodes.now args.p args.q c.requires)

pub unify_term-overflow_add-i : goal.unify_term-overflow_add-i
unify_term-overflow_add-i t c = let args = c.args in omega (arith, pair_inside args.nodes.now args.p args.q c.requires)

pub unify_term-overflow_add-j : goal.unify_term-overflow_add-j
unify_term-overflow_add-j t c = let args = c.args in omega (arith, pair_inside args.nodes.now args.p args.q c.requires)

pub unify_term-unify_list-requires : goal.unify_term-unify_list-requires
unify_term-unify_list-requires t c = let args = c.args in (omega (arith, c.size_at-size.ensures, pair_inside args.nodes.now args.p args.q c.requires), subst⁻¹ (λ (k : ℕ). Walkable args.nodes.now (args.p + loaded_node) (args.p + k) (args.q + loaded_node)) c.size_at-size.ensures (term-list args.nodes.now args.p args.q c.requires (subst (λ (k : ℕ). first_name ≤ k) c.word_at-w.ensures c.if-w-lt-FIRST_NAME.false) (subst (λ (k : ℕ). first_name ≤ k) c.word_at-z.ensures c.if-z-lt-FIRST_NAME.false) (sym c.word_at-w.ensures ∙ (c.if-w-z.false ∙ c.word_at-z.ensures))))

pub unify_term-returns : goal.unify_term-returns
unify_term-returns t c = let args = c.args in record { walks = λ g. term-on args.nodes.now args.p args.q g c.word_at-w.result c.word_at-z.result c.size_at-size.result c.word_at-w.ensures c.word_at-z.ensures c.if-w-lt-FIRST_NAME.false c.if-z-lt-FIRST_NAME.false c.if-w-z.false c.size_at-size.ensures c.unify_list.result c.unify_list.ensures.walks; variable = c.unify_list.ensures.variable }

pub unify_list-returns-in_err-unify_term : goal.unify_list-returns-in_err-unify_term
unify_list-returns-in_err-unify_term t c =
    let p = err_from_is_err_and c.from_residual.result c.from_residual.ensures.1 in
    rw (p.1, p.2) (record { walks = λ g. list_stop c.args.nodes.now c.args.p c.args.e c.args.q g c.if-e-p.false c.in_err-unify_term.field-0.0 c.in_err-unify_term.ensures.walks; variable = c.in_err-unify_term.ensures.variable })
