-- Laws of dereferencing and undoing. Assumes nothing.
use Rattle.std.proofs.Common.{◌≡◌, ℕ, suc, ◌+◌, ◌-◌, ◌<◌, ◌≤◌, Bool, true, false, ltb, T, List, length, get_or, set, sym, refl, ap, ◌∙◌, subst, arith, ltb-false, ltb-true, le-ltb, lt-ltb}
use mathlib.Core.Path.{subst⁻¹}
use Rattle.syntax.specs.Words.{first_name}
use Rattle.machine.specs.Substitution.{var, resolve}
use Rattle.run_layout.specs.Regions.{copies, cells, trail, store_words, loaded_node}
use Rattle.run_layout.specs.Rooms.{Clean}
use Rattle.run_layout.specs.Nodes.{Symbol, Node, term_at}
use Rattle.run_layout.specs.State.{at_of, cell_of, variable_of, node_of, copy_of, cell_at, trail_at, value_of, bindings, TrailEntry, Acyclic, RawStore, Store, WithinCopies, BindingsKept}
use Rattle.run_layout.proofs.Nodes.{node-inside, variable-at}
use Rattle.run_layout.proofs.State.{variable-cell, cell-small, copy-small, resolve-bound, undo-raw, undo-keeps, keeps-refl, keeps-trans, few, agrees, acyclic-agrees, none-bound}
use Rattle.run_layout.specs.declared.terms.At.{At}
use Rattle.bindings.specs.Cells.{bound_at, StoredTerm, MeansSame, Dereferences, Stored, Undone}

pub bound-variable : (nodes state : List ℕ) (p c : ℕ) → get_or nodes p 0 < first_name → bound_at nodes state p c ≡ cell_at state (cell_of c (get_or nodes p 0))
unfolding bound_at
bound-variable nodes state p c l = ap (λ (b : Bool). elim b [ true ↦ cell_at state (cell_of c (get_or nodes p 0)) | false ↦ 0 ]) (lt-ltb (get_or nodes p 0) first_name l)

pub bound-name : (nodes state : List ℕ) (p c : ℕ) → first_name ≤ get_or nodes p 0 → bound_at nodes state p c ≡ 0
unfolding bound_at
bound-name nodes state p c l = ap (λ (b : Bool). elim b [ true ↦ cell_at state (cell_of c (get_or nodes p 0)) | false ↦ 0 ]) (le-ltb (get_or nodes p 0) first_name l)

-- what a bound cell's word says
pub record BoundCell (ss : List Symbol) (nodes state : List ℕ) (n x : ℕ) : Type 0 where
  pub node : Node ss nodes (node_of (cell_at state x))
  pub down : get_or nodes (node_of (cell_at state x)) 0 < first_name → cell_of (copy_of (cell_at state x)) (get_or nodes (node_of (cell_at state x)) 0) < x
  pub means : Acyclic ss nodes state n → resolve (bindings ss nodes state n) (term_at ss nodes (node_of (cell_at state x)) (copy_of (cell_at state x))) ≡ resolve (bindings ss nodes state n) (var (variable_of x))
  pub within : (k : ℕ) → WithinCopies k state n → copy_of (cell_at state x) ≤ k

pub bound-cell-is : (ss : List Symbol) (nodes state : List ℕ) (n x : ℕ) → RawStore ss nodes state n → x < cells → (cell_at state x ≡ 0 → ⊥) → BoundCell ss nodes state n x
unfolding value_of
bound-cell-is ss nodes state n x store l z =
    let o : (i : ℕ) × (i < n) × (trail_at state i ≡ x) = store.only x l z in
    let e : TrailEntry ss nodes state o.0 = store.entry o.0 o.1 in
    record {
      node = subst (λ (y : ℕ). Node ss nodes (node_of (cell_at state y))) o.2 e.node;
      down = subst (λ (y : ℕ). get_or nodes (node_of (cell_at state y)) 0 < first_name → cell_of (copy_of (cell_at state y)) (get_or nodes (node_of (cell_at state y)) 0) < y) o.2 e.down;
      means = λ f. sym (resolve-bound ss nodes state n x store l f z);
      within = λ k w. subst (λ (y : ℕ). copy_of (cell_at state y) ≤ k) o.2 (w.copy o.0 o.1);
    }

-- how far a term can lead: one more than the cell of its variable, 0 for a name
unfoldable pub depth : List ℕ → ℕ → ℕ → ℕ
depth nodes p c = elim (ltb (get_or nodes p 0) first_name) [ true ↦ suc (cell_of c (get_or nodes p 0)) | false ↦ 0 ]

pub depth-variable : (nodes : List ℕ) (p c : ℕ) → get_or nodes p 0 < first_name → depth nodes p c ≡ suc (cell_of c (get_or nodes p 0))
unfolding depth
depth-variable nodes p c l = ap (λ (b : Bool). elim b [ true ↦ suc (cell_of c (get_or nodes p 0)) | false ↦ 0 ]) (lt-ltb (get_or nodes p 0) first_name l)

pub depth-name : (nodes : List ℕ) (p c : ℕ) → first_name ≤ get_or nodes p 0 → depth nodes p c ≡ 0
unfolding depth
depth-name nodes p c l = ap (λ (b : Bool). elim b [ true ↦ suc (cell_of c (get_or nodes p 0)) | false ↦ 0 ]) (le-ltb (get_or nodes p 0) first_name l)

pub leads-begin : (nodes state : List ℕ) (p c : ℕ) (g : StoredTerm nodes state p c) → MeansSame g.known g.ss nodes state g.n p c p c
leads-begin nodes state p c g = record { node = g.node; copy = g.copy; means = λ f. refl; within = λ k w l. l }

module _ (nodes state : List ℕ) (p c q d w : ℕ) (g : StoredTerm nodes state p c) (k : MeansSame g.known g.ss nodes state g.n p c q d) (e : w ≡ bound_at nodes state q d) where
  -- a word that is not 0 is that of a variable's cell
  is-variable : (w ≡ 0 → ⊥) → get_or nodes q 0 < first_name
  is-variable z = go (ltb (get_or nodes q 0) first_name) refl
    where
      go : (b : Bool) → ltb (get_or nodes q 0) first_name ≡ b → get_or nodes q 0 < first_name
      go true t = ltb-true (get_or nodes q 0) first_name t
      go false t = absurd (z (e ∙ bound-name nodes state q d (ltb-false (get_or nodes q 0) first_name t)))

  module _ (z : w ≡ 0 → ⊥) where
    small : cell_of d (get_or nodes q 0) < cells
    small = cell-small d (get_or nodes q 0) k.copy (is-variable z)

    word : w ≡ cell_at state (cell_of d (get_or nodes q 0))
    word = e ∙ bound-variable nodes state q d (is-variable z)

    cell : BoundCell g.ss nodes state g.n (cell_of d (get_or nodes q 0))
    cell = bound-cell-is g.ss nodes state g.n (cell_of d (get_or nodes q 0)) g.store small (λ h. z (word ∙ h))

    leads-word : MeansSame g.known g.ss nodes state g.n p c (node_of w) (copy_of w)
    leads-word =
        subst⁻¹ (λ (y : ℕ). MeansSame g.known g.ss nodes state g.n p c (node_of y) (copy_of y)) word
        (record {
          node = cell.node;
          copy = copy-small (cell_at state (cell_of d (get_or nodes q 0)));
          means = λ f. cell.means (g.acyclic f) ∙ (ap (resolve (bindings g.ss nodes state g.n)) (sym (variable-at g.ss nodes q k.node d (is-variable z) ∙ sym (ap var (variable-cell d (get_or nodes q 0) (is-variable z))))) ∙ k.means f);
          within = λ j h l. cell.within j h;
        })

    depth-word : depth nodes (node_of w) (copy_of w) < depth nodes q d
    depth-word = subst⁻¹ (λ (y : ℕ). depth nodes (node_of y) (copy_of y) < depth nodes q d) word (go (ltb (get_or nodes (node_of (cell_at state (cell_of d (get_or nodes q 0)))) 0) first_name) refl)
      where
        go : (b : Bool) → ltb (get_or nodes (node_of (cell_at state (cell_of d (get_or nodes q 0)))) 0) first_name ≡ b → depth nodes (node_of (cell_at state (cell_of d (get_or nodes q 0)))) (copy_of (cell_at state (cell_of d (get_or nodes q 0)))) < depth nodes q d
        go true t =
            let l : get_or nodes (node_of (cell_at state (cell_of d (get_or nodes q 0)))) 0 < first_name = ltb-true (get_or nodes (node_of (cell_at state (cell_of d (get_or nodes q 0)))) 0) first_name t in
            let h : cell_of (copy_of (cell_at state (cell_of d (get_or nodes q 0)))) (get_or nodes (node_of (cell_at state (cell_of d (get_or nodes q 0)))) 0) < cell_of d (get_or nodes q 0) = cell.down l in
            let a : depth nodes (node_of (cell_at state (cell_of d (get_or nodes q 0)))) (copy_of (cell_at state (cell_of d (get_or nodes q 0)))) ≡ suc (cell_of (copy_of (cell_at state (cell_of d (get_or nodes q 0)))) (get_or nodes (node_of (cell_at state (cell_of d (get_or nodes q 0)))) 0)) = depth-variable nodes (node_of (cell_at state (cell_of d (get_or nodes q 0)))) (copy_of (cell_at state (cell_of d (get_or nodes q 0)))) l in
            let b : depth nodes q d ≡ suc (cell_of d (get_or nodes q 0)) = depth-variable nodes q d (is-variable z) in
            omega arith
        go false t =
            let a : depth nodes (node_of (cell_at state (cell_of d (get_or nodes q 0)))) (copy_of (cell_at state (cell_of d (get_or nodes q 0)))) ≡ 0 = depth-name nodes (node_of (cell_at state (cell_of d (get_or nodes q 0)))) (copy_of (cell_at state (cell_of d (get_or nodes q 0)))) (ltb-false (get_or nodes (node_of (cell_at state (cell_of d (get_or nodes q 0)))) 0) first_name t) in
            let b : depth nodes q d ≡ suc (cell_of d (get_or nodes q 0)) = depth-variable nodes q d (is-variable z) in
            omega arith

    pub leads-on : {a : At} → a ≡ at_of w → MeansSame g.known g.ss nodes state g.n p c a.node a.copy
    leads-on h = subst⁻¹ (λ (a : At). MeansSame g.known g.ss nodes state g.n p c a.node a.copy) h leads-word

    pub depth_falls : {a : At} → a ≡ at_of w → depth nodes a.node a.copy < depth nodes q d
    depth_falls h = subst⁻¹ (λ (a : At). depth nodes a.node a.copy < depth nodes q d) h depth-word

  pub leads-end : w ≡ 0 → Dereferences g.known g.ss nodes state g.n p c q d
  leads-end z = record { leads = k; stops = λ l. sym (bound-variable nodes state q d l) ∙ (sym e ∙ z) }

-- what `bound_at` asks
pub place : (ss : List Symbol) (nodes state : List ℕ) (n q d : ℕ) → RawStore ss nodes state n → Node ss nodes q → d < copies → (q < length nodes) × ((cells ≤ length state) × (d < copies))
place ss nodes state n q d store k l =
    let a : q + loaded_node ≤ length nodes = node-inside ss nodes q k in
    let b : store_words ≤ length state = store.long in
    (omega arith, (omega arith, l))

-- ---- undoing

pub undone-begin : (state : List ℕ) (n : ℕ) → Undone state state n n
undone-begin state n = record { keeps = keeps-refl n state; store = λ ss nodes s. s }

-- where the newest entry of a store stands
pub last_entry : (state : List ℕ) (i : ℕ) → Stored state (suc i) → (trail + i < length state) × (trail_at state i < length state)
last_entry state i s =
    let a : suc i ≤ cells = few s.ss s.nodes state (suc i) s.store in
    let b : store_words ≤ length state = s.store.long in
    let c : trail_at state i < cells = (s.store.entry i (omega arith)).cell in
    (omega arith, omega arith)

pub undone-on : (before after : List ℕ) (i n : ℕ) → Stored before n → Undone before after (suc i) n → Undone before (set after (trail_at after i) 0) i n
undone-on before after i n s u =
    record {
      keeps = keeps-trans i i before after (set after (trail_at after i) 0) (omega arith) (less u.keeps) (undo-keeps s.ss s.nodes after i (u.store s.ss s.nodes s.store));
      store = λ ss nodes st. undo-raw ss nodes after i (u.store ss nodes st);
    }
  where
    less : BindingsKept (suc i) before after → BindingsKept i before after
    less k = record { long = k.long; entry = λ j l. k.entry j (omega arith); cell = λ j l. k.cell j (omega arith); others = k.others }

pub undone-next : (before after : List ℕ) (mark i n : ℕ) → mark < i → Stored before n → Undone before after i n → Undone before (set after (trail_at after (i - 1)) 0) (i - 1) n
undone-next before after mark i n l s u = undone-on before after (i - 1) n s (subst (λ (k : ℕ). Undone before after k n) (let e : i ≡ suc (i - 1) = omega arith in e) u)

-- the entry that is undone next
pub next-entry : (before after : List ℕ) (mark i n : ℕ) → mark < i → Stored before n → Undone before after i n → (trail + (i - 1) < length after) × (trail_at after (i - 1) < length after)
next-entry before after mark i n l s u =
    last_entry after (i - 1) (record { ss = s.ss; nodes = s.nodes; store = subst (λ (k : ℕ). RawStore s.ss s.nodes after k) (let e : i ≡ suc (i - 1) = omega arith in e) (u.store s.ss s.nodes s.store) })

-- what was a store is one again
pub undone-store : (ss : List Symbol) (nodes before after : List ℕ) (mark n : ℕ) → mark ≤ n → Undone before after mark n → Store ss nodes before n → Store ss nodes after mark
undone-store ss nodes before after mark n l u s =
    record { raw = u.store ss nodes s.raw; acyclic = acyclic-agrees ss nodes before after mark (agrees mark before after u.keeps) (λ i h. s.acyclic i (omega arith)) }

-- where all entries are undone, no cell is bound
pub undone-clean : (before after : List ℕ) (n : ℕ) → Stored before n → Undone before after 0 n → Clean after
undone-clean before after n s u = none-bound s.ss s.nodes after (u.store s.ss s.nodes s.store)
