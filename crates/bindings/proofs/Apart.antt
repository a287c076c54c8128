-- Laws of bindings of which it is plain that they close no cycle: constants, and terms of closed copies. Assumes nothing.
use Rattle.std.proofs.Common.{◌≡◌, ℕ, zero, suc, ◌+◌, ◌*◌, ◌<◌, ◌≤◌, Bool, true, false, T, eqb, ◌⊎◌, List, length, get_or, sym, refl, ap, ◌∙◌, subst, inl, inr, arith, eqb-true}
use mathlib.Core.Path.{subst⁻¹}
use borrow.Author.Tests.{eqb-false}
use Rattle.syntax.specs.Words.{first_name}
use Rattle.machine.specs.Substitution.{Variable, same_variable, RTerm, RTerms, var, rnil, occurs, occurs_in, resolve}
use Rattle.machine.proofs.Tests.{variable-eq}
use Rattle.machine_theorems.proofs.Terms.{occurs-replace}
use Rattle.machine_theorems.proofs.Reached.{copied_copy}
use Rattle.run_layout.specs.Regions.{copies, copy_cells, cells, store_words, loaded_node}
use Rattle.run_layout.specs.Nodes.{Symbol, Node, term_at, terms_at}
use Rattle.run_layout.specs.State.{cell_of, variable_of, word_of, node_of, copy_of, cell_at, trail_at, value_of, bindings, RawStore, WithinCopies, bound_words}
use Rattle.run_layout.proofs.Nodes.{term-at, variable-at, compound-at, row_one, row-none, row_open}
use Rattle.run_layout.proofs.State.{replace-away, variable-cell, cell-eq, cell-small, resolve-unbound, copy-word, bound-cell, bound-cells}
use Rattle.bindings.specs.Plain.{Closed, Constant, Other, Plain, Closing}

-- what holds of a term's variables, and is kept by each binding, holds of the resolved term's variables
pub closed-under : (ss : List Symbol) (nodes state : List ℕ) (P : Variable → Type 0) (n : ℕ) → ((i : ℕ) → i < n → P (variable_of (trail_at state i)) → (v : Variable) → T (occurs v (value_of ss nodes (cell_at state (trail_at state i)))) → P v)
    → (t : RTerm) → ((v : Variable) → T (occurs v t) → P v) → (v : Variable) → T (occurs v (resolve (bindings ss nodes state n) t)) → P v
unfolding bindings resolve
closed-under ss nodes state P zero step t all v h = all v h
closed-under ss nodes state P (suc n) step t all v h =
    go (occurs-replace (variable_of (trail_at state n)) v (resolve (bindings ss nodes state n) (value_of ss nodes (cell_at state (trail_at state n)))) (resolve (bindings ss nodes state n) t) h)
    (λ u k w y. closed-under ss nodes state P n (λ i l. step i (omega arith)) u k w y)
  where
    in-term : (w : Variable) → T (occurs w (resolve (bindings ss nodes state n) t)) → ((u : RTerm) → ((x : Variable) → T (occurs x u) → P x) → (x : Variable) → T (occurs x (resolve (bindings ss nodes state n) u)) → P x) → P w
    in-term w y ih = ih t all w y

    go : T (occurs v (resolve (bindings ss nodes state n) (value_of ss nodes (cell_at state (trail_at state n))))) ⊎ (T (occurs v (resolve (bindings ss nodes state n) t)) × (T (same_variable (variable_of (trail_at state n)) v) → ⊥))
        → ((u : RTerm) → ((x : Variable) → T (occurs x u) → P x) → (x : Variable) → T (occurs x (resolve (bindings ss nodes state n) u)) → P x) → P v
    go (inr y) ih = in-term v y.0 ih
    go (inl y) ih = there y ih (member (occurs (variable_of (trail_at state n)) (resolve (bindings ss nodes state n) t)) refl)
      where
        member : (b : Bool) → occurs (variable_of (trail_at state n)) (resolve (bindings ss nodes state n) t) ≡ b → T (occurs (variable_of (trail_at state n)) (resolve (bindings ss nodes state n) t)) ⊎ (T (occurs (variable_of (trail_at state n)) (resolve (bindings ss nodes state n) t)) → ⊥)
        member true e = inl (subst⁻¹ T e tt)
        member false e = inr (λ k. subst T e k)

        there : T (occurs v (resolve (bindings ss nodes state n) (value_of ss nodes (cell_at state (trail_at state n))))) → ((u : RTerm) → ((x : Variable) → T (occurs x u) → P x) → (x : Variable) → T (occurs x (resolve (bindings ss nodes state n) u)) → P x)
            → T (occurs (variable_of (trail_at state n)) (resolve (bindings ss nodes state n) t)) ⊎ (T (occurs (variable_of (trail_at state n)) (resolve (bindings ss nodes state n) t)) → ⊥) → P v
        there y ih (inl k) = ih (value_of ss nodes (cell_at state (trail_at state n))) (step n (omega arith) (in-term (variable_of (trail_at state n)) k ih)) v y
        there y ih (inr k) = in-term v (subst (λ (u : RTerm). T (occurs v u)) (replace-away (variable_of (trail_at state n)) (resolve (bindings ss nodes state n) (value_of ss nodes (cell_at state (trail_at state n)))) (resolve (bindings ss nodes state n) t) k) h) ih

at_copy : (ss : List Symbol) (nodes : List ℕ) (q d : ℕ) → Node ss nodes q → (v : Variable) → T (occurs v (term_at ss nodes q d)) → v.copy ≡ d
at_copy ss nodes q d n v h = copied_copy d n.0 v (subst (λ (t : RTerm). T (occurs v t)) (term-at ss nodes q d n.0 n.1) h)

module _ (ss : List Symbol) (nodes state : List ℕ) (n k : ℕ) (store : RawStore ss nodes state n) (closed : Closed k state) where
  value-below : (i : ℕ) → i < n → (variable_of (trail_at state i)).copy < k → (v : Variable) → T (occurs v (value_of ss nodes (cell_at state (trail_at state i)))) → v.copy < k
  unfolding value_of
  value-below i l h v o =
      subst⁻¹ (λ (y : ℕ). y < k) (at_copy ss nodes (node_of (cell_at state (trail_at state i))) (copy_of (cell_at state (trail_at state i))) (store.entry i l).node v o)
      (closed.copy (trail_at state i) (omega arith))

  below : (q d : ℕ) → Node ss nodes q → d < k → (v : Variable) → T (occurs v (resolve (bindings ss nodes state n) (term_at ss nodes q d))) → v.copy < k
  below q d node l =
      closed-under ss nodes state (λ (v : Variable). v.copy < k) n value-below (term_at ss nodes q d) (λ v o. subst⁻¹ (λ (y : ℕ). y < k) (at_copy ss nodes q d node v o) l)

  apart-free : (x q d : ℕ) → Node ss nodes q → d < k → k * copy_cells ≤ x → T (occurs (variable_of x) (resolve (bindings ss nodes state n) (term_at ss nodes q d))) → ⊥
  apart-free x q d node l h o = let z : (variable_of x).copy < k = below q d node l (variable_of x) o in let y : k * copy_cells ≤ x = h in omega arith

-- a name without arguments has no variables
pub constant-bare : (ss : List Symbol) (nodes : List ℕ) (q d : ℕ) → Node ss nodes q → Constant nodes q → (v : Variable) → T (occurs v (term_at ss nodes q d)) → ⊥
constant-bare ss nodes q d node h v o =
    subst (λ (ts : RTerms). T (occurs_in v ts)) none (subst (λ (t : RTerm). T (occurs v t)) (compound-at ss nodes q node d h.0) o)
  where
    none : terms_at ss nodes (q + loaded_node) (q + get_or nodes (q + 1) 0) d ≡ rnil
    none =
        let e : get_or nodes (q + 1) 0 ≡ loaded_node = h.1 in
        row-none ss nodes (q + loaded_node) (q + get_or nodes (q + 1) 0) (row_open ss nodes q (q + get_or nodes (q + 1) 0) (row_one ss nodes q node) (omega arith) h.0) d (omega arith)

module _ (ss : List Symbol) (nodes state : List ℕ) (n x q d : ℕ) (store : RawStore ss nodes state n) (node : Node ss nodes q) (copy : d < copies) where
  constant-free : Constant nodes q → T (occurs (variable_of x) (resolve (bindings ss nodes state n) (term_at ss nodes q d))) → ⊥
  constant-free h o = closed-under ss nodes state (λ (v : Variable). ⊥) n (λ i l p v o. p) (term_at ss nodes q d) (constant-bare ss nodes q d node h) (variable_of x) o

  -- another unbound variable
  other-free : Other nodes state x q d → T (occurs (variable_of x) (resolve (bindings ss nodes state n) (term_at ss nodes q d))) → ⊥
  other-free h o =
      h.other (sym (cell-eq x (cell_of d (get_or nodes q 0)) (variable-eq (variable_of x) (variable_of (cell_of d (get_or nodes q 0))) (subst (λ (t : RTerm). T (occurs (variable_of x) t)) is o))))
    where
      is : resolve (bindings ss nodes state n) (term_at ss nodes q d) ≡ var (variable_of (cell_of d (get_or nodes q 0)))
      is =
          ap (resolve (bindings ss nodes state n)) (variable-at ss nodes q node d h.variable ∙ ap var (sym (variable-cell d (get_or nodes q 0) h.variable)))
          ∙ resolve-unbound ss nodes state n (cell_of d (get_or nodes q 0)) store (cell-small d (get_or nodes q 0) copy h.variable) h.unbound

  pub plain-free : (k : ℕ) → Closed k state → Plain nodes state x q d k → T (occurs (variable_of x) (resolve (bindings ss nodes state n) (term_at ss nodes q d))) → ⊥
  plain-free k closed (inl h) = apart-free ss nodes state n k store closed x q d node h.1 h.0
  plain-free k closed (inr (inl h)) = constant-free h
  plain-free k closed (inr (inr h)) = other-free h

-- ---- which copies are closed

pub closed_none : (state : List ℕ) → Closed 0 state
closed_none state = record { few = omega arith; copy = λ y l. absurd (let z : y < 0 = l in omega arith) }

pub closed-bound : (state : List ℕ) (n x q d k r : ℕ) → store_words ≤ length state → n < cells → x < cells → d < copies → Closed k state → Closing k x d r → Closed r (bound_words state n x (word_of q d))
closed-bound state n x q d k r long room small copy c h =
    record { few = (h.closed state c).few; copy = λ y l. at y l (eqb y x) refl }
  where
    at : (y : ℕ) → y < r * copy_cells → (b : Bool) → eqb y x ≡ b → copy_of (cell_at (bound_words state n x (word_of q d)) y) < r
    at y l true e =
        let s : y ≡ x = eqb-true y x e in
        subst⁻¹ (λ (z : ℕ). copy_of (cell_at (bound_words state n x (word_of q d)) z) < r) s
        (subst⁻¹ (λ (z : ℕ). copy_of z < r) (bound-cell state n x (word_of q d) long room small) (subst⁻¹ (λ (z : ℕ). z < r) (copy-word q d copy) (h.stays (subst (λ (z : ℕ). z < r * copy_cells) s l))))
    at y l false e =
        let f : r ≤ copies = (h.closed state c).few in
        let o : y < r * copy_cells = l in
        subst⁻¹ (λ (z : ℕ). copy_of z < r) (bound-cells state n x (word_of q d) long room small y (omega arith) (eqb-false y x e)) ((h.closed state c).copy y l)

-- what belongs to copies up to k is closed
pub closed-within : (ss : List Symbol) (nodes state : List ℕ) (n k : ℕ) → RawStore ss nodes state n → WithinCopies k state n → k < copies → Closed (k + 1) state
closed-within ss nodes state n k store w low =
    record { few = omega arith; copy = λ y l. at y l (eqb (cell_at state y) 0) refl }
  where
    at : (y : ℕ) → y < (k + 1) * copy_cells → (b : Bool) → eqb (cell_at state y) 0 ≡ b → copy_of (cell_at state y) < k + 1
    at y l true e = subst⁻¹ (λ (z : ℕ). copy_of z < k + 1) (eqb-true (cell_at state y) 0 e) (omega arith)
    at y l false e =
        let o : (i : ℕ) × (i < n) × (trail_at state i ≡ y) = store.only y (omega arith) (eqb-false (cell_at state y) 0 e) in
        subst (λ (z : ℕ). copy_of (cell_at state z) < k + 1) o.2 (let z : copy_of (cell_at state (trail_at state o.0)) ≤ k = w.copy o.0 o.1 in omega arith)
