-- Laws of the search for a cycle. Assumes nothing.
use Rattle.std.proofs.Common.{◌≡◌, ℕ, suc, ◌+◌, ◌-◌, ◌^◌, ◌<◌, ◌≤◌, Bool, true, false, ◌||◌, T, eqb, ltb, ◌⊎◌, List, [], length, get_or, set, sym, refl, ap, ◌∙◌, subst, ap₂, inl, inr, arith, ltb-false, ltb-true, eqb-true}
use mathlib.Core.Path.{subst⁻¹}
use borrow.Author.Tests.{eqb-false}
use lib.ListN.{length-set}
use lib.Seq.{get_or-set_same, get_or-set_other}
use Rattle.std.proofs.Common.{Option, Some, None}
use Rattle.syntax.specs.Words.{first_name}
use Rattle.machine.specs.Substitution.{Variable, same_variable, RTerm, RTerms, var, app, rnil, rcons, occurs, occurs_in, Binding, resolve}
use Rattle.machine.proofs.Tests.{either, or_left, or_right, variable-eq, variable-refl}
use Rattle.run_layout.specs.Regions.{copies, places, cells, trail, store_words, pending, cuts_word, memo, slots, slot_count, path_of, rows, loaded_node}
use Rattle.run_layout.specs.Nodes.{Symbol, is_symbol, symbol_of, is_listed, name_of_symbol, loaded_words, is_loadable, brackets_of, Node, Row, term_at, terms_at, followed}
use Rattle.run_layout.specs.State.{at_of, cell_of, variable_of, word_of, node_of, copy_of, cell_at, trail_at, value_of, bindings, TrailEntry, ClosesCycle, Acyclic, RawStore, bound_words}
use Rattle.run_layout.proofs.Nodes.{node-inside, node_end, node-size, variable-at, variable-size, compound-at, row_one, row-one-is, row-none, row_first, row-rest, row-order, row_cons, row_open, row_opened}
use Rattle.run_layout.proofs.State.{variable-cell, cell-eq, cell-small, copy-small, room, few, raw-agrees, bind-raw, bound-cell, bound-cells, bound-others, bound-long, no-entries}
use Rattle.syntax.specs.Terms.{compound, nil, same_bytes}
use Rattle.run_layout.specs.declared.terms.At.{At}
use Rattle.bindings.specs.Cells.{StoredTerm, Undone, Stored}
use Rattle.run_layout.specs.Rooms.{Clean}
use Rattle.bindings.specs.Plain.{Constant}
use Rattle.bindings.proofs.Deref.{BoundCell, bound-cell-is}
use Rattle.bindings.proofs.Apart.{closed-under, constant-bare}
use Rattle.unify.specs.Rows.{nodes_of, rows_size}
use Rattle.unify.specs.declared.cycles.Progress.{Progress}
use Rattle.unify.specs.declared.cycles.CycleSearch.{CycleSearch}
use Rattle.unify.specs.declared.cycles.CycleSearch.TheVariants.{Cycle, NoCycle, GivenUp}
use Rattle.unify.specs.Cycles.{LeafCell, Leaf, Shallow, mark_symbols, mark_table, done_mark, pending_at, path_cell, path_place, term_end, CellSettled, Settled, Ranked, DoneCell, OpenCell, cell_size, SearchState, Searching, StayMarked, LeadsOn, Lookable, LookedTo, Found, FirstPlace, Enterable, EnteredCell, search_left, SearchedOn, SearchTurned, SearchStopped, from_start, SearchEnded, Testable, AllSearched, CycleTested, Tested, Looked}
use Rattle.unify.proofs.Rowwise.{size-cons, size-app}

-- ---- marks

mark-node : Node mark_symbols mark_table 0
unfolding mark_symbols mark_table loaded_words symbol_of is_symbol is_loadable is_listed brackets_of same_bytes
mark-node = (compound 0 [] nil, record { words = (omega arith, refl, (omega arith, refl, tt)); loadable = tt; shallow = omega arith })

mark-high : get_or mark_table 0 0 ≡ first_name
unfolding mark_table
mark-high = refl

mark-short : length mark_table ≤ places
unfolding mark_table
mark-short = omega arith

no-mark-variable : get_or mark_table 0 0 < first_name → ⊥
no-mark-variable l = let e : get_or mark_table 0 0 ≡ first_name = mark-high in omega (arith, l)

-- the table has one node
mark-zero : (p : ℕ) → Node mark_symbols mark_table p → p ≡ 0
unfolding mark_table
mark-zero p n = let a : p + loaded_node ≤ 2 = node-inside mark_symbols mark_table p n in omega arith

-- ---- a node at a time through a row

occurs-followed : (v : Variable) (ts us : RTerms) → occurs_in v (followed ts us) ≡ occurs_in v ts || occurs_in v us
unfolding followed
occurs-followed v rnil us = refl
occurs-followed v (rcons t ts) us = ap (λ (b : Bool). occurs v t || b) (occurs-followed v ts us) ∙ or_assoc (occurs v t) (occurs_in v ts) (occurs_in v us)
  where
    or_assoc : (a b c : Bool) → (a || (b || c)) ≡ ((a || b) || c)
    or_assoc true b c = refl
    or_assoc false b c = refl

-- from a node to the next: its arguments, or what stands behind a variable
pub record NodeStep (ss : List Symbol) (nodes : List ℕ) (i e d : ℕ) : Type 0 where
  pub row : Row ss nodes (i + loaded_node) e
  pub down : (v : Variable) → T (occurs_in v (terms_at ss nodes (i + loaded_node) e d)) → T (occurs_in v (terms_at ss nodes i e d))
  pub here : get_or nodes i 0 < first_name → T (occurs_in (record { copy = d; number = get_or nodes i 0 }) (terms_at ss nodes i e d))
  pub split : (v : Variable) → T (occurs_in v (terms_at ss nodes i e d)) → ((get_or nodes i 0 < first_name) × (v ≡ record { copy = d; number = get_or nodes i 0 })) ⊎ T (occurs_in v (terms_at ss nodes (i + loaded_node) e d))

pub node-step : (ss : List Symbol) (nodes : List ℕ) (i e d : ℕ) → Row ss nodes i e → i < e → NodeStep ss nodes i e d
node-step ss nodes i e d r l = go (ltb (get_or nodes i 0) first_name) refl
  where
    node : Node ss nodes i
    node = row_first ss nodes i e r l

    go : (b : Bool) → ltb (get_or nodes i 0) first_name ≡ b → NodeStep ss nodes i e d
    go true q =
        let low : get_or nodes i 0 < first_name = ltb-true (get_or nodes i 0) first_name q in
        let size : i + get_or nodes (i + 1) 0 ≡ i + 2 = ap (λ (k : ℕ). i + k) (variable-size ss nodes i node low) in
        let v0 : Variable = record { copy = d; number = get_or nodes i 0 } in
        let is : terms_at ss nodes i e d ≡ rcons (var v0) (terms_at ss nodes (i + loaded_node) e d) = row_cons ss nodes i e r d l ∙ ap₂ rcons (variable-at ss nodes i node d low) (ap (λ (k : ℕ). terms_at ss nodes k e d) size) in
        record {
          row = subst (λ (k : ℕ). Row ss nodes k e) size (row-rest ss nodes i e r l);
          down = λ v h. subst⁻¹ (λ (ts : RTerms). T (occurs_in v ts)) is (or_right (same_variable v v0) (occurs_in v (terms_at ss nodes (i + loaded_node) e d)) h);
          here = λ k. subst⁻¹ (λ (ts : RTerms). T (occurs_in v0 ts)) is (or_left (same_variable v0 v0) (occurs_in v0 (terms_at ss nodes (i + loaded_node) e d)) (variable-refl v0));
          split = λ v h. elim (either (same_variable v v0) (occurs_in v (terms_at ss nodes (i + loaded_node) e d)) (subst (λ (ts : RTerms). T (occurs_in v ts)) is h)) [ inl k ↦ inl (low, variable-eq v v0 k) | inr k ↦ inr k ];
        }
    go false q =
        let high : first_name ≤ get_or nodes i 0 = ltb-false (get_or nodes i 0) first_name q in
        let same : (v : Variable) → occurs_in v (terms_at ss nodes i e d) ≡ occurs_in v (terms_at ss nodes (i + loaded_node) e d) =
        (λ v. ap (occurs_in v) (row_cons ss nodes i e r d l)
        ∙ (ap (λ (t : RTerm). occurs v t || occurs_in v (terms_at ss nodes (i + get_or nodes (i + 1) 0) e d)) (compound-at ss nodes i node d high)
        ∙ (sym (occurs-followed v (terms_at ss nodes (i + loaded_node) (i + get_or nodes (i + 1) 0) d) (terms_at ss nodes (i + get_or nodes (i + 1) 0) e d)) ∙ ap (occurs_in v) (sym (row_opened ss nodes i e r d l high))))) in
        record {
          row = row_open ss nodes i e r l high;
          down = λ v h. subst⁻¹ T (same v) h;
          here = λ k. absurd (let z : get_or nodes i 0 < first_name = k in omega arith);
          split = λ v h. inr (subst T (same v) h);
        }

-- ---- what stays

abbrev StillDone : List ℕ → List ℕ → Type 0
StillDone before after = (y : ℕ) → y < cells → get_or before y 0 ≡ done_mark → get_or after y 0 ≡ done_mark

settled-on : (state before after : List ℕ) (v : Variable) → StillDone before after → Settled state before v → Settled state after v
settled-on state before after v still s =
    record { cell = s.cell; is = s.is; small = s.small; settled = elim s.settled [ inl z ↦ inl z | inr z ↦ inr (still s.cell s.small z) ] }

ranked-on : (state before after : List ℕ) (rank rank1 : ℕ → ℕ) (limit limit1 : ℕ) (v : Variable) → StillDone before after → ((y : ℕ) → y < cells → get_or before y 0 ≡ done_mark → rank1 y ≡ rank y) → limit ≤ limit1 → Ranked state before rank limit v → Ranked state after rank1 limit1 v
ranked-on state before after rank rank1 limit limit1 v still same l s =
    record {
      cell = s.cell;
      is = s.is;
      small = s.small;
      settled = elim s.settled [ inl z ↦ inl z | inr z ↦ inr (still s.cell s.small z.0, (let e : rank1 s.cell ≡ rank s.cell = same s.cell s.small z.0 in let o : rank s.cell < limit = z.1 in omega arith)) ];
    }

open-on : (ss : List Symbol) (nodes state before after : List ℕ) (x i : ℕ) → StillDone before after → get_or after x 0 ≡ get_or before x 0 → OpenCell ss nodes state before x i → OpenCell ss nodes state after x i
open-on ss nodes state before after x i still same o =
    record {
      cell = o.cell;
      bound = o.bound;
      marked = λ z. o.marked (sym same ∙ z);
      not_done = λ z. o.not_done (sym same ∙ z);
      row = o.row;
      clear = λ v h. elim (o.clear v h) [ inl s ↦ inl (settled-on state before after v still s) | inr s ↦ inr s ];
      inside = o.inside;
    }

open_at : (ss : List Symbol) (nodes state scratch : List ℕ) {x y i j : ℕ} → x ≡ y → i ≡ j → OpenCell ss nodes state scratch y j → OpenCell ss nodes state scratch x i
open_at ss nodes state scratch {x} {y} {i} {j} e f o = subst⁻¹ (λ (a : ℕ). OpenCell ss nodes state scratch a i) e (subst⁻¹ (λ (a : ℕ). OpenCell ss nodes state scratch y a) f o)

-- words beside marks and path change
module _ {ss : List Symbol} {nodes state : List ℕ} {n : ℕ} {before scratch : List ℕ} {p : Progress} (s : SearchState ss nodes state n before scratch p) (after : List ℕ) (long : length after ≡ length scratch)
    (kept : (j : ℕ) → j < slots → get_or after j 0 ≡ get_or scratch j 0) (same-cell : (j : ℕ) → j < p.height → path_cell after j ≡ path_cell scratch j) where
  still-done : StillDone scratch after
  still-done y l e = kept y (omega arith) ∙ e

  beside-marks : RawStore mark_symbols mark_table after p.entered
  beside-marks =
      let f : p.entered ≤ cells = few mark_symbols mark_table scratch p.entered s.marks in
      raw-agrees mark_symbols mark_table scratch after p.entered long (λ y l. kept y (omega arith))
      (record { entry = λ i l. kept (trail + i) (omega arith); cell = λ i l. (let c : trail_at scratch i < cells = (s.marks.entry i l).cell in kept (trail_at scratch i) (omega arith)) }) s.marks

  search-beside : ((j : ℕ) → j < p.height → OpenCell ss nodes state scratch (path_cell scratch j) (path_place after j)) → SearchState ss nodes state n before after p
  search-beside path =
      record {
        marks = beside-marks;
        low = s.low;
        long = long ∙ s.long;
        kept = λ j l h. kept j h ∙ s.kept j l h;
        rank = s.rank;
        most = s.most;
        done = λ y l e.
            (let d : DoneCell ss nodes state scratch s.rank s.most y = s.done y l (sym (kept y (omega arith)) ∙ e) in
            record { low = d.low; below = λ v h. ranked-on state scratch after s.rank s.rank (s.rank y) (s.rank y) v still-done (λ z a b. refl) (omega arith) (d.below v h) });
        path = λ j l.
            (let c : path_cell scratch j < cells = (s.path j l).cell in
            open_at ss nodes state after (same-cell j l) refl (open-on ss nodes state scratch after (path_cell scratch j) (path_place after j) still-done (kept (path_cell scratch j) (omega arith)) (path j l)));
        apart = λ j k l h e. s.apart j k l h (sym (same-cell j (omega arith)) ∙ (e ∙ same-cell k h));
        open_cells = λ y l a b.
            (let o : (j : ℕ) × ((j < p.height) × (path_cell scratch j ≡ y)) = s.open_cells y l (λ z. a (kept y (omega arith) ∙ z)) (λ z. b (kept y (omega arith) ∙ z)) in
            (o.0, (o.1.0, same-cell o.0 o.1.0 ∙ o.1.1)));
        falls = λ f j k l h.
            subst⁻¹ (λ (x : ℕ). cell_size ss nodes state n (path_cell after k) < cell_size ss nodes state n x) (same-cell j (omega arith))
            (subst⁻¹ (λ (x : ℕ). cell_size ss nodes state n x < cell_size ss nodes state n (path_cell scratch j)) (same-cell k h) (s.falls f j k l h));
      }

-- ---- what stands below a cell is smaller

mutual
  occurs-size : (b : List Binding) (v : Variable) (t : RTerm) → T (occurs v t) → nodes_of (resolve b (var v)) ≤ nodes_of (resolve b t)
  occurs-size b v (var w) h = let e : nodes_of (resolve b (var v)) ≡ nodes_of (resolve b (var w)) = ap (λ (x : Variable). nodes_of (resolve b (var x))) (variable-eq v w h) in omega arith
  occurs-size b v (app f ts) h = let e : nodes_of (resolve b (app f ts)) ≡ suc (rows_size b ts) = size-app b f ts in let l : nodes_of (resolve b (var v)) ≤ rows_size b ts = occurs-rows b v ts h in omega arith

  occurs-rows : (b : List Binding) (v : Variable) (ts : RTerms) → T (occurs_in v ts) → nodes_of (resolve b (var v)) ≤ rows_size b ts
  occurs-rows b v rnil h = absurd h
  occurs-rows b v (rcons t ts) h =
      let e : rows_size b (rcons t ts) ≡ nodes_of (resolve b t) + rows_size b ts = size-cons b t ts in
      elim (either (occurs v t) (occurs_in v ts) h) [ inl y ↦ (let l : nodes_of (resolve b (var v)) ≤ nodes_of (resolve b t) = occurs-size b v t y in omega arith) | inr y ↦ (let l : nodes_of (resolve b (var v)) ≤ rows_size b ts = occurs-rows b v ts y in omega arith) ]

module _ (ss : List Symbol) (nodes state : List ℕ) (n x y : ℕ) (store : RawStore ss nodes state n) (small : x < cells) (bound : cell_at state x ≡ 0 → ⊥) (small-y : y < cells) (stands : T (occurs (variable_of y) (value_of ss nodes (cell_at state x)))) (acyclic : Acyclic ss nodes state n) where
  b : List Binding
  b = bindings ss nodes state n

  here : BoundCell ss nodes state n x
  here = bound-cell-is ss nodes state n x store small bound

  abbrev q : ℕ
  q = node_of (cell_at state x)

  abbrev d : ℕ
  d = copy_of (cell_at state x)

  in-term : T (occurs (variable_of y) (term_at ss nodes q d))
  unfolding value_of
  in-term = stands

  means : nodes_of (resolve (bindings ss nodes state n) (term_at ss nodes q d)) ≡ nodes_of (resolve (bindings ss nodes state n) (var (variable_of x)))
  means = ap nodes_of (here.means acyclic)

  pub cell-falls : cell_size ss nodes state n y < cell_size ss nodes state n x
  cell-falls = go (ltb (get_or nodes q 0) first_name) refl
    where
      go : (t : Bool) → ltb (get_or nodes q 0) first_name ≡ t → cell_size ss nodes state n y < cell_size ss nodes state n x
      go true e =
          let l : get_or nodes q 0 < first_name = ltb-true (get_or nodes q 0) first_name e in
          let is : term_at ss nodes q d ≡ var (variable_of (cell_of d (get_or nodes q 0))) = variable-at ss nodes q here.node d l ∙ ap var (sym (variable-cell d (get_or nodes q 0) l)) in
          let same : y ≡ cell_of d (get_or nodes q 0) = cell-eq y (cell_of d (get_or nodes q 0)) (variable-eq (variable_of y) (variable_of (cell_of d (get_or nodes q 0))) (subst (λ (t : RTerm). T (occurs (variable_of y) t)) is in-term)) in
          let down : cell_of d (get_or nodes q 0) < x = here.down l in
          let size : nodes_of (resolve (bindings ss nodes state n) (var (variable_of y))) ≡ nodes_of (resolve (bindings ss nodes state n) (var (variable_of x))) = ap (λ (k : ℕ). nodes_of (resolve (bindings ss nodes state n) (var (variable_of k)))) same ∙ (ap (λ (t : RTerm). nodes_of (resolve (bindings ss nodes state n) t)) (sym is) ∙ means) in
          omega arith
      go false e =
          let l : first_name ≤ get_or nodes q 0 = ltb-false (get_or nodes q 0) first_name e in
          let is : term_at ss nodes q d ≡ app (name_of_symbol ss (get_or nodes q 0 - first_name)) (terms_at ss nodes (q + loaded_node) (q + get_or nodes (q + 1) 0) d) = compound-at ss nodes q here.node d l in
          let size : nodes_of (resolve (bindings ss nodes state n) (term_at ss nodes q d)) ≡ suc (rows_size (bindings ss nodes state n) (terms_at ss nodes (q + loaded_node) (q + get_or nodes (q + 1) 0) d)) = ap (λ (t : RTerm). nodes_of (resolve (bindings ss nodes state n) t)) is ∙ size-app (bindings ss nodes state n) (name_of_symbol ss (get_or nodes q 0 - first_name)) (terms_at ss nodes (q + loaded_node) (q + get_or nodes (q + 1) 0) d) in
          let less : nodes_of (resolve (bindings ss nodes state n) (var (variable_of y))) ≤ rows_size (bindings ss nodes state n) (terms_at ss nodes (q + loaded_node) (q + get_or nodes (q + 1) 0) d) = occurs-rows (bindings ss nodes state n) (variable_of y) (terms_at ss nodes (q + loaded_node) (q + get_or nodes (q + 1) 0) d) (subst (λ (t : RTerm). T (occurs (variable_of y) t)) is in-term) in
          let m : nodes_of (resolve (bindings ss nodes state n) (term_at ss nodes q d)) ≡ nodes_of (resolve (bindings ss nodes state n) (var (variable_of x))) = means in
          omega arith

-- the term of a word that is a constant has no variables
none-of : (ss : List Symbol) (nodes : List ℕ) (w : ℕ) → Node ss nodes (node_of w) → Constant nodes (node_of w) → (v : Variable) → T (occurs v (value_of ss nodes w)) → ⊥
unfolding value_of
none-of ss nodes w n k v h = constant-bare ss nodes (node_of w) (copy_of w) n k v h

-- ---- a look at a small term

-- The variables between a term's first place and i are leaves.
pub record ShallowTo {nodes state : List ℕ} {p c : ℕ} (g : StoredTerm nodes state p c) (x i : ℕ) : Type 0 where
  pub row : Row g.ss nodes i (p + get_or nodes (p + 1) 0)
  pub clear : (v : Variable) → T (occurs v (term_at g.ss nodes p c)) → Leaf nodes state x v ⊎ T (occurs_in v (terms_at g.ss nodes i (p + get_or nodes (p + 1) 0) c))

module _ {nodes state : List ℕ} {p c : ℕ} (g : StoredTerm nodes state p c) where
  pub shallow-inside : (p + 1 < length nodes) × ((p + get_or nodes (p + 1) 0 ≤ length nodes) × (length nodes ≤ places))
  shallow-inside =
      let a : p + loaded_node ≤ length nodes = node-inside g.ss nodes p g.node in
      (omega arith, (node_end g.ss nodes p g.node, g.store.small))

  pub plain-asks : (p + 1 < length nodes) × ((cells ≤ length state) × (c < copies))
  plain-asks = let a : p + 1 < length nodes = shallow-inside.0 in let b : store_words ≤ length state = g.store.long in (a, (omega arith, g.copy))

  pub shallow-begin : (x : ℕ) → ShallowTo g x p
  shallow-begin x =
      record {
        row = row_one g.ss nodes p g.node;
        clear = λ v h. inr (subst⁻¹ (λ (ts : RTerms). T (occurs_in v ts)) (row-one-is g.ss nodes p c g.node) (or_left (occurs v (term_at g.ss nodes p c)) false h));
      }

  module _ {x i : ℕ} (k : ShallowTo g x i) where
    pub shallow-end : {e : ℕ} → e ≡ p + get_or nodes (p + 1) 0 → e ≤ i → Shallow g x
    shallow-end e l v h = elim (k.clear v h) [ inl z ↦ z | inr z ↦ absurd (subst (λ (ts : RTerms). T (occurs_in v ts)) (row-none g.ss nodes i (p + get_or nodes (p + 1) 0) k.row c (omega (arith, e, l))) z) ]

    module _ {e : ℕ} (ee : e ≡ p + get_or nodes (p + 1) 0) (l : i < e) where
      on : i < p + get_or nodes (p + 1) 0
      on = omega (arith, ee, l)

      step : NodeStep g.ss nodes i (p + get_or nodes (p + 1) 0) c
      step = node-step g.ss nodes i (p + get_or nodes (p + 1) 0) c k.row on

      pub shallow-here : StoredTerm nodes state i c
      shallow-here = record { ss = g.ss; n = g.n; store = g.store; known = false; acyclic = λ f. absurd f; node = row_first g.ss nodes i (p + get_or nodes (p + 1) 0) k.row on; copy = g.copy }

      pub shallow-room : i + loaded_node ≤ length nodes
      shallow-room = node-inside g.ss nodes i (row_first g.ss nodes i (p + get_or nodes (p + 1) 0) k.row on)

      pub shallow-next : (get_or nodes i 0 < first_name → LeafCell nodes state x (cell_of c (get_or nodes i 0))) → ShallowTo g x (i + loaded_node)
      shallow-next s =
          record {
            row = step.row;
            clear = λ v h. elim (k.clear v h) [
              | inl z ↦ inl z
              | inr z ↦ elim (step.split v z) [
                | inl y ↦ inl (record { cell = cell_of c (get_or nodes i 0); is = y.1 ∙ sym (variable-cell c (get_or nodes i 0) y.0); leaf = s y.0 })
                | inr y ↦ inr y
              ]
            ];
          }

-- the cell of a variable that is bound
module _ {nodes state : List ℕ} {p c : ℕ} (g : StoredTerm nodes state p c) {w : ℕ} (ew : w ≡ get_or nodes p 0) (low : w < first_name) {y : ℕ} (ey : y ≡ cell_of c w) where
  leaf-cell : y ≡ cell_of c (get_or nodes p 0)
  leaf-cell = ey ∙ ap (cell_of c) ew

  pub leaf-inside : y < length state
  leaf-inside = let a : cell_of c w < cells = cell-small c w g.copy low in let b : store_words ≤ length state = g.store.long in omega (arith, ey)

  module _ {v : ℕ} (ev : v ≡ get_or state y 0) where
    pub leaf-term : (v ≡ 0 → ⊥) → node_of v + 1 < length nodes
    leaf-term z =
        let l : y < cells = (let a : cell_of c w < cells = cell-small c w g.copy low in omega (arith, ey)) in
        let k : BoundCell g.ss nodes state g.n y = bound-cell-is g.ss nodes state g.n y g.store l (λ q. z (ev ∙ q)) in
        let a : node_of v + loaded_node ≤ length nodes = node-inside g.ss nodes (node_of v) (subst⁻¹ (λ (i : ℕ). Node g.ss nodes (node_of i)) ev k.node) in
        omega arith

    pub leaf-is : {x : ℕ} → (y ≡ x → ⊥) → (v ≡ 0) ⊎ Constant nodes (node_of v) → LeafCell nodes state x (cell_of c (get_or nodes p 0))
    leaf-is {x} n o = subst (LeafCell nodes state x) leaf-cell (n, elim o [ inl z ↦ inl (sym ev ∙ z) | inr z ↦ inr (subst (λ (i : ℕ). Constant nodes (node_of i)) ev z) ])

pub leaf-name : (nodes state : List ℕ) (p c x : ℕ) {w : ℕ} → w ≡ get_or nodes p 0 → first_name ≤ w → get_or nodes p 0 < first_name → LeafCell nodes state x (cell_of c (get_or nodes p 0))
leaf-name nodes state p c x e l h = absurd (omega (arith, e, l, h))

-- the variable of the cell does not stand in such a term
pub shallow-free : {nodes state : List ℕ} {p c x : ℕ} (g : StoredTerm nodes state p c) → Shallow g x → T (occurs (variable_of x) (resolve (bindings g.ss nodes state g.n) (term_at g.ss nodes p c))) → ⊥
shallow-free {nodes} {state} {p} {c} {x} g s o =
    let r : Leaf nodes state x (variable_of x) = closed-under g.ss nodes state (Leaf nodes state x) g.n step (term_at g.ss nodes p c) s (variable_of x) o in
    r.leaf.0 (sym (cell-eq x r.cell r.is))
  where
    step : (i : ℕ) → i < g.n → Leaf nodes state x (variable_of (trail_at state i)) → (v : Variable) → T (occurs v (value_of g.ss nodes (cell_at state (trail_at state i)))) → Leaf nodes state x v
    step i l r v h = elim r.leaf.1 [ inl z ↦ absurd ((g.store.entry i l).bound (ap (cell_at state) (cell-eq (trail_at state i) r.cell r.is) ∙ z)) | inr z ↦ absurd (none-of g.ss nodes (cell_at state (trail_at state i)) (g.store.entry i l).node (subst⁻¹ (λ (u : ℕ). Constant nodes (node_of (cell_at state u))) (cell-eq (trail_at state i) r.cell r.is) z) v h) ]

-- ---- looking along a row

module _ {nodes state scratch : List ℕ} {a : At} {e : ℕ} (g : Lookable nodes state scratch a e) where
  pub look-begin : LookedTo g.ss nodes state scratch a e a.node
  look-begin = record { row = g.row; inside = λ v h. h; clear = λ v h. inr h }

  module _ {i : ℕ} (k : LookedTo g.ss nodes state scratch a e i) where
    pub look-end : e ≤ i → Found g i
    look-end l = record { looked = k; stop = λ o. absurd (let z : i < e = o in omega arith) }

    pub look-stop : LeadsOn nodes state scratch i a.copy → Found g i
    look-stop l = record { looked = k; stop = λ o. l }

    module _ (l : i < e) where
      pub look-inside : (i + loaded_node ≤ length nodes) × (i + loaded_node ≤ e)
      look-inside =
          let r : Row g.ss nodes (i + loaded_node) e = (node-step g.ss nodes i e a.copy k.row l).row in
          (node-inside g.ss nodes i (row_first g.ss nodes i e k.row l), row-order g.ss nodes (i + loaded_node) e r)

      pub look-next : (get_or nodes i 0 < first_name → CellSettled state scratch (cell_of a.copy (get_or nodes i 0))) → LookedTo g.ss nodes state scratch a e (i + loaded_node)
      look-next s =
          let step : NodeStep g.ss nodes i e a.copy = node-step g.ss nodes i e a.copy k.row l in
          record {
            row = step.row;
            inside = λ v h. k.inside v (step.down v h);
            clear = λ v h. elim (k.clear v h) [
              | inl z ↦ inl z
              | inr z ↦ elim (step.split v z) [
                | inl y ↦ inl (record { cell = cell_of a.copy (get_or nodes i 0); is = y.1 ∙ sym (variable-cell a.copy (get_or nodes i 0) y.0); small = cell-small a.copy (get_or nodes i 0) g.copy y.0; settled = s y.0 })
                | inr y ↦ inr y
              ]
            ];
          }

-- ---- entering a cell

module _ {nodes state scratch : List ℕ} {p : Progress} {y : ℕ} (g : Enterable nodes state scratch p y) where
  abbrev s : SearchState g.given.ss nodes state g.given.n g.given.before scratch p
  s = g.given.search

  cell-is-bound : BoundCell g.given.ss nodes state g.given.n y
  cell-is-bound = bound-cell-is g.given.ss nodes state g.given.n y g.given.store g.cell g.bound

  enter-few : p.entered < cells
  enter-few = room mark_symbols mark_table scratch p.entered y s.marks g.cell g.unmarked

  pub enter-inside : ((y < length state) × (cells ≤ length state)) × ((p.entered < cells) × ((p.height < cells) × (trail + p.entered < length scratch)))
  enter-inside =
      let a : store_words ≤ length state = g.given.store.long in
      let b : store_words ≤ length scratch = s.marks.long in
      let c : y < cells = g.cell in
      let d : p.entered < cells = enter-few in
      let h : p.height ≤ p.entered = s.low in
      ((omega arith, omega arith), (d, (omega arith, omega arith)))

  module _ {w : ℕ} (ew : w ≡ get_or state y 0) where
    term-node : Node g.given.ss nodes (node_of w)
    term-node = subst⁻¹ (λ (k : ℕ). Node g.given.ss nodes (node_of k)) ew cell-is-bound.node

    pub enter-term : (node_of w + 1 < length nodes) × (term_end nodes w < 2 ^ 64)
    enter-term =
        let a : node_of w + loaded_node ≤ length nodes = node-inside g.given.ss nodes (node_of w) term-node in
        let b : term_end nodes w ≤ length nodes = node_end g.given.ss nodes (node_of w) term-node in
        let c : length nodes ≤ places = g.given.store.small in
        (omega arith, omega arith)

    pub enter-place : {i : ℕ} → FirstPlace nodes state scratch w i → i < 2 ^ 32
    enter-place f =
        let b : term_end nodes w ≤ length nodes = node_end g.given.ss nodes (node_of w) term-node in
        let c : length nodes ≤ places = g.given.store.small in
        elim f [ inl e ↦ omega (arith, e) | inr e ↦ omega (arith, e.0) ]

    module _ {i : ℕ} (first : FirstPlace nodes state scratch w i) where
      -- the cell marked, and then its words on the path
      abbrev marked : List ℕ
      marked = bound_words scratch p.entered y (word_of 0 0)

      abbrev pub entered-words : List ℕ
      entered-words = set (set marked (path_of p.height) y) (path_of p.height + 1) i

      long-marked : length marked ≡ length scratch
      long-marked = bound-long scratch p.entered y (word_of 0 0) s.marks.long enter-few g.cell

      long-entered : length entered-words ≡ length scratch
      long-entered = length-set (set marked (path_of p.height) y) (path_of p.height + 1) i ∙ (length-set marked (path_of p.height) y ∙ long-marked)

      off-path : (j : ℕ) → (j ≡ path_of p.height → ⊥) → (j ≡ path_of p.height + 1 → ⊥) → get_or entered-words j 0 ≡ get_or marked j 0
      off-path j a c = get_or-set_other (set marked (path_of p.height) y) (path_of p.height + 1) j i 0 c ∙ get_or-set_other marked (path_of p.height) j y 0 a

      others : (j : ℕ) → store_words ≤ j → (j ≡ path_of p.height → ⊥) → (j ≡ path_of p.height + 1 → ⊥) → get_or entered-words j 0 ≡ get_or scratch j 0
      others j l a c = off-path j a c ∙ bound-others scratch p.entered y (word_of 0 0) s.marks.long enter-few g.cell j l

      pub entered-fits : path_of p.height + 1 < length marked
      entered-fits = let a : rows ≤ length scratch = g.given.roomy in let b : p.height < cells = enter-inside.1.1.0 in let c : length marked ≡ length scratch = long-marked in omega arith

      new-cell : path_cell entered-words p.height ≡ y
      new-cell = get_or-set_other (set marked (path_of p.height) y) (path_of p.height + 1) (path_of p.height) i 0 (λ e. omega arith) ∙ get_or-set_same marked (path_of p.height) y 0 (let a : path_of p.height + 1 < length marked = entered-fits in omega arith)

      new-place : path_place entered-words p.height ≡ i
      new-place = get_or-set_same (set marked (path_of p.height) y) (path_of p.height + 1) i 0 (let a : path_of p.height + 1 < length marked = entered-fits in let e : length (set marked (path_of p.height) y) ≡ length marked = length-set marked (path_of p.height) y in omega arith)

      old-cell : (j : ℕ) → j < p.height → path_cell entered-words j ≡ path_cell scratch j
      old-cell j l = others (path_of j) (omega arith) (λ e. omega arith) (λ e. omega arith)

      old-place : (j : ℕ) → j < p.height → path_place entered-words j ≡ path_place scratch j
      old-place j l = others (path_of j + 1) (omega arith) (λ e. omega arith) (λ e. omega arith)

      mark-here : get_or entered-words y 0 ≡ 1
      mark-here = (let o : y < cells = g.cell in off-path y (λ e. omega arith) (λ e. omega arith)) ∙ bound-cell scratch p.entered y (word_of 0 0) s.marks.long enter-few g.cell

      mark-other : (z : ℕ) → z < cells → (z ≡ y → ⊥) → get_or entered-words z 0 ≡ get_or scratch z 0
      mark-other z l n = off-path z (λ e. omega arith) (λ e. omega arith) ∙ bound-cells scratch p.entered y (word_of 0 0) s.marks.long enter-few g.cell z l n

      apart-from : (z : ℕ) → (get_or scratch z 0 ≡ 0 → ⊥) → z ≡ y → ⊥
      apart-from z a e = a (ap (λ (k : ℕ). get_or scratch k 0) e ∙ g.unmarked)

      still : StillDone scratch entered-words
      still z l e = mark-other z l (apart-from z (λ a. (let x : get_or scratch z 0 ≡ 2 = e in let q : get_or scratch z 0 ≡ 0 = a in omega arith))) ∙ e

      marks-marked : RawStore mark_symbols mark_table marked (suc p.entered)
      marks-marked = bind-raw mark_symbols mark_table scratch p.entered y 0 0 s.marks g.cell g.unmarked (omega arith) mark-node (λ h. absurd (no-mark-variable h))

      marks-entered : RawStore mark_symbols mark_table entered-words (p.entered + 1)
      marks-entered =
          subst (RawStore mark_symbols mark_table entered-words) (let e : suc p.entered ≡ p.entered + 1 = omega arith in e)
          (raw-agrees mark_symbols mark_table marked entered-words (suc p.entered) (length-set (set marked (path_of p.height) y) (path_of p.height + 1) i ∙ length-set marked (path_of p.height) y)
          (λ z l. off-path z (λ e. omega arith) (λ e. omega arith))
          (record {
            entry = λ j l. (let d : p.entered < cells = enter-few in off-path (trail + j) (λ e. omega arith) (λ e. omega arith));
            cell = λ j l. (let c : trail_at marked j < cells = (marks-marked.entry j l).cell in off-path (trail_at marked j) (λ e. omega arith) (λ e. omega arith));
          })
          marks-marked)

      value-is : value_of g.given.ss nodes (cell_at state y) ≡ term_at g.given.ss nodes (node_of w) (copy_of w)
      unfolding value_of
      value-is = ap (λ (k : ℕ). term_at g.given.ss nodes (node_of k) (copy_of k)) (sym ew)

      whole-row : terms_at g.given.ss nodes (node_of w) (term_end nodes w) (copy_of w) ≡ rcons (value_of g.given.ss nodes (cell_at state y)) rnil
      whole-row = row-one-is g.given.ss nodes (node_of w) (copy_of w) term-node ∙ ap (λ (t : RTerm). rcons t rnil) (sym value-is)

      -- the cell as it is opened
      opened-at : FirstPlace nodes state scratch w i → ((v : Variable) → T (occurs v (value_of g.given.ss nodes (cell_at state y))) → Settled state entered-words v ⊎ T (occurs_in v (terms_at g.given.ss nodes i (term_end nodes w) (copy_of w))))
          × ((Row g.given.ss nodes i (term_end nodes w)) × ((v : Variable) → T (occurs_in v (terms_at g.given.ss nodes i (term_end nodes w) (copy_of w))) → T (occurs v (value_of g.given.ss nodes (cell_at state y)))))
      opened-at (inl e) =
          subst⁻¹ (λ (k : ℕ). ((v : Variable) → T (occurs v (value_of g.given.ss nodes (cell_at state y))) → Settled state entered-words v ⊎ T (occurs_in v (terms_at g.given.ss nodes k (term_end nodes w) (copy_of w)))) × ((Row g.given.ss nodes k (term_end nodes w)) × ((v : Variable) → T (occurs_in v (terms_at g.given.ss nodes k (term_end nodes w) (copy_of w))) → T (occurs v (value_of g.given.ss nodes (cell_at state y)))))) e (
            (λ v h. inr (subst⁻¹ (λ (ts : RTerms). T (occurs_in v ts)) whole-row (or_left (occurs v (value_of g.given.ss nodes (cell_at state y))) false h))),
            (
              row_one g.given.ss nodes (node_of w) term-node,
              (λ v h. elim (either (occurs v (value_of g.given.ss nodes (cell_at state y))) false (subst (λ (ts : RTerms). T (occurs_in v ts)) whole-row h)) [ inl k ↦ k | inr k ↦ absurd k ]),
            ),
          )
      opened-at (inr e) =
          let size : loaded_node ≤ get_or nodes (node_of w + 1) 0 = node-size g.given.ss nodes (node_of w) term-node in
          let end : Row g.given.ss nodes (term_end nodes w) (term_end nodes w) = row-rest g.given.ss nodes (node_of w) (term_end nodes w) (row_one g.given.ss nodes (node_of w) term-node) (omega arith) in
          let z : ℕ = e.1.0 in
          let d : DoneCell g.given.ss nodes state scratch s.rank s.most z = s.done z e.1.1.0 e.1.1.1.0 in
          subst⁻¹ (λ (k : ℕ). ((v : Variable) → T (occurs v (value_of g.given.ss nodes (cell_at state y))) → Settled state entered-words v ⊎ T (occurs_in v (terms_at g.given.ss nodes k (term_end nodes w) (copy_of w)))) × ((Row g.given.ss nodes k (term_end nodes w)) × ((v : Variable) → T (occurs_in v (terms_at g.given.ss nodes k (term_end nodes w) (copy_of w))) → T (occurs v (value_of g.given.ss nodes (cell_at state y)))))) e.0 (
            (λ v h. inl (from-ranked v (d.below v (subst⁻¹ (λ (k : ℕ). T (occurs v (value_of g.given.ss nodes k))) (e.1.1.1.1 ∙ ew) h)))),
            (
              end,
              (λ v h. absurd (subst (λ (ts : RTerms). T (occurs_in v ts)) (row-none g.given.ss nodes (term_end nodes w) (term_end nodes w) end (copy_of w) (omega arith)) h)),
            ),
          )
        where
          from-ranked : {limit : ℕ} (v : Variable) → Ranked state scratch s.rank limit v → Settled state entered-words v
          from-ranked v k = record { cell = k.cell; is = k.is; small = k.small; settled = elim k.settled [ inl z ↦ inl z | inr z ↦ inr (still k.cell k.small z.0) ] }

      new-open : OpenCell g.given.ss nodes state entered-words y i
      new-open =
          subst (λ (k : ℕ). OpenAt k) ew
          (record {
            cell = g.cell;
            bound = g.bound;
            marked = λ z. (let e : get_or entered-words y 0 ≡ 1 = mark-here in let q : get_or entered-words y 0 ≡ 0 = z in omega arith);
            not_done = λ z. (let e : get_or entered-words y 0 ≡ 1 = mark-here in let q : get_or entered-words y 0 ≡ 2 = z in omega arith);
            row = subst (λ (k : ℕ). Row g.given.ss nodes i (term_end nodes k)) ew (opened-at first).1.0;
            clear = λ v h. subst (λ (k : ℕ). Settled state entered-words v ⊎ T (occurs_in v (terms_at g.given.ss nodes i (term_end nodes k) (copy_of k)))) ew ((opened-at first).0 v h);
            inside = λ v h. (opened-at first).1.1 v (subst⁻¹ (λ (k : ℕ). T (occurs_in v (terms_at g.given.ss nodes i (term_end nodes k) (copy_of k)))) ew h);
          })
        where
          OpenAt : ℕ → Type 0
          OpenAt k = OpenCell g.given.ss nodes state entered-words y i

      below-or-new : (P : ℕ → Type 0) (k : ℕ) → k < p.height + 1 → (k < p.height → P k) → P p.height → P k
      below-or-new P k l low new = go (eqb k p.height) refl
        where
          go : (t : Bool) → eqb k p.height ≡ t → P k
          go true e = subst⁻¹ P (eqb-true k p.height e) new
          go false e = low (let z : k ≡ p.height → ⊥ = eqb-false k p.height e in omega (arith, z))

      entered-path : (j : ℕ) → j < p.height + 1 → OpenCell g.given.ss nodes state entered-words (path_cell entered-words j) (path_place entered-words j)
      entered-path j l =
          below-or-new (λ (k : ℕ). OpenCell g.given.ss nodes state entered-words (path_cell entered-words k) (path_place entered-words k)) j l
          (λ o. open_at g.given.ss nodes state entered-words (old-cell j o) (old-place j o) (open-on g.given.ss nodes state scratch entered-words (path_cell scratch j) (path_place scratch j) still (mark-other (path_cell scratch j) (s.path j o).cell (apart-from (path_cell scratch j) (s.path j o).marked)) (s.path j o)))
          (open_at g.given.ss nodes state entered-words new-cell new-place new-open)

      entered-apart : (j k : ℕ) → j < k → k < p.height + 1 → path_cell entered-words j ≡ path_cell entered-words k → ⊥
      entered-apart j k l h =
          below-or-new (λ (m : ℕ). j < m → path_cell entered-words j ≡ path_cell entered-words m → ⊥) k h
          (λ o q e. s.apart j k q o (sym (old-cell j (omega arith)) ∙ (e ∙ old-cell k o)))
          (λ q e. apart-from (path_cell scratch j) (s.path j q).marked (sym (old-cell j q) ∙ (e ∙ new-cell))) l

      entered-open : (z : ℕ) → z < cells → (get_or entered-words z 0 ≡ 0 → ⊥) → (get_or entered-words z 0 ≡ done_mark → ⊥) → (j : ℕ) × ((j < p.height + 1) × (path_cell entered-words j ≡ z))
      entered-open z l a c = go (eqb z y) refl
        where
          go : (t : Bool) → eqb z y ≡ t → (j : ℕ) × ((j < p.height + 1) × (path_cell entered-words j ≡ z))
          go true e = (p.height, (omega arith, new-cell ∙ sym (eqb-true z y e)))
          go false e =
              let same : get_or entered-words z 0 ≡ get_or scratch z 0 = mark-other z l (eqb-false z y e) in
              let o : (j : ℕ) × ((j < p.height) × (path_cell scratch j ≡ z)) = s.open_cells z l (λ q. a (same ∙ q)) (λ q. c (same ∙ q)) in
              (o.0, ((let k : o.0 < p.height = o.1.0 in omega arith), old-cell o.0 o.1.0 ∙ o.1.1))

      entered-falls : Acyclic g.given.ss nodes state g.given.n → (j k : ℕ) → j < k → k < p.height + 1 → cell_size g.given.ss nodes state g.given.n (path_cell entered-words k) < cell_size g.given.ss nodes state g.given.n (path_cell entered-words j)
      entered-falls f j k l h =
          below-or-new (λ (m : ℕ). j < m → cell_size g.given.ss nodes state g.given.n (path_cell entered-words m) < cell_size g.given.ss nodes state g.given.n (path_cell entered-words j)) k h
          (λ o q. subst⁻¹ (λ (x : ℕ). cell_size g.given.ss nodes state g.given.n (path_cell entered-words k) < cell_size g.given.ss nodes state g.given.n x) (old-cell j (omega arith))
          (subst⁻¹ (λ (x : ℕ). cell_size g.given.ss nodes state g.given.n x < cell_size g.given.ss nodes state g.given.n (path_cell scratch j)) (old-cell k o) (s.falls f j k q o)))
          (λ q. subst⁻¹ (λ (x : ℕ). cell_size g.given.ss nodes state g.given.n (path_cell entered-words p.height) < cell_size g.given.ss nodes state g.given.n x) (old-cell j q)
          (subst⁻¹ (λ (x : ℕ). cell_size g.given.ss nodes state g.given.n x < cell_size g.given.ss nodes state g.given.n (path_cell scratch j)) new-cell (g.less f j q))) l

      entered-search : (left : Option ℕ) → SearchState g.given.ss nodes state g.given.n g.given.before entered-words (record { height = p.height + 1; entered = p.entered + 1; left = left })
      entered-search left =
          record {
            marks = marks-entered;
            low = (let h : p.height ≤ p.entered = s.low in omega arith);
            long = long-entered ∙ s.long;
            kept = λ j l h. others j l (λ e. omega arith) (λ e. omega arith) ∙ s.kept j l h;
            rank = s.rank;
            most = s.most;
            done = λ z l e. done-at z l e (eqb z y) refl;
            path = entered-path;
            apart = entered-apart;
            open_cells = entered-open;
            falls = entered-falls;
          }
        where
          done-at : (z : ℕ) → z < cells → get_or entered-words z 0 ≡ done_mark → (t : Bool) → eqb z y ≡ t → DoneCell g.given.ss nodes state entered-words s.rank s.most z
          done-at z l e true q = absurd (let a : get_or entered-words y 0 ≡ 2 = ap (λ (k : ℕ). get_or entered-words k 0) (sym (eqb-true z y q)) ∙ e in let c : get_or entered-words y 0 ≡ 1 = mark-here in omega arith)
          done-at z l e false q =
              let d : DoneCell g.given.ss nodes state scratch s.rank s.most z = s.done z l (sym (mark-other z l (eqb-false z y q)) ∙ e) in
              record { low = d.low; below = λ v h. ranked-on state scratch entered-words s.rank s.rank (s.rank z) (s.rank z) v still (λ k a b. refl) (omega arith) (d.below v h) }

      entered-more : StayMarked scratch entered-words
      entered-more z l a e = a (sym (mark-other z l (apart-from z a)) ∙ e)

      pub enter-done : {after : List ℕ} → after ≡ entered-words → {left : Option ℕ} → (p.left ≡ None → left ≡ None) → {r : Progress} → r ≡ record { height = p.height + 1; entered = p.entered + 1; left = left } → EnteredCell g after r
      enter-done e {left} o {r} f =
          subst⁻¹ (λ (x : List ℕ). EnteredCell g x r) e
          (subst⁻¹ (λ (x : Progress). EnteredCell g entered-words x) f
          (record { search = entered-search left; height = refl; entered = refl; limit = o; more = entered-more; here = λ z. (let a : get_or entered-words y 0 ≡ 1 = mark-here in let q : get_or entered-words y 0 ≡ 0 = z in omega arith) }))

-- the words of a cell that is entered, as they are put one after the other
pub entered-on : {marked scratch one two : List ℕ} (i j x y : ℕ) → scratch ≡ marked → one ≡ set scratch i x → two ≡ set one j y → two ≡ set (set marked i x) j y
entered-on i j x y e1 e2 e3 = e3 ∙ ap (λ (k : List ℕ). set k j y) (e2 ∙ ap (λ (k : List ℕ). set k i x) e1)

-- ---- the cell on top of the path

module _ {nodes state scratch : List ℕ} {p : Progress} (g : Searching nodes state scratch p) (some : 1 ≤ p.height) where
  abbrev t : SearchState g.ss nodes state g.n g.before scratch p
  t = g.search

  abbrev top : ℕ
  top = path_cell scratch (p.height - 1)

  under : p.height - 1 < p.height
  under = omega arith

  top-open : OpenCell g.ss nodes state scratch top (path_place scratch (p.height - 1))
  top-open = t.path (p.height - 1) under

  search-few : p.entered ≤ cells
  search-few = few mark_symbols mark_table scratch p.entered t.marks

  pub top-room : ((p.height ≤ cells) × (path_of (p.height - 1) + 1 < length scratch)) × ((cells ≤ length state) × (store_words ≤ length scratch))
  top-room =
      let a : rows ≤ length scratch = g.roomy in
      let b : p.height ≤ p.entered = t.low in
      let c : p.entered ≤ cells = search-few in
      let d : store_words ≤ length state = g.store.long in
      ((omega arith, omega arith), (omega arith, omega arith))

  top-bound : BoundCell g.ss nodes state g.n top
  top-bound = bound-cell-is g.ss nodes state g.n top g.store top-open.cell top-open.bound

  module _ {x from : ℕ} (ex : x ≡ get_or scratch (path_of (p.height - 1)) 0) (ef : from ≡ get_or scratch (path_of (p.height - 1) + 1) 0) where
    pub top-cell : x < cells
    top-cell = subst⁻¹ (λ (k : ℕ). k < cells) ex top-open.cell

    pub top-inside : x < length state
    top-inside = let a : x < cells = top-cell in let b : cells ≤ length state = top-room.1.0 in omega arith

    top-is : OpenCell g.ss nodes state scratch x from
    top-is = open_at g.ss nodes state scratch ex ef top-open

    module _ {w : ℕ} (ew : w ≡ get_or state x 0) where
      word : w ≡ cell_at state x
      word = ew

      top-node : Node g.ss nodes (node_of w)
      top-node = subst⁻¹ (λ (k : ℕ). Node g.ss nodes (node_of k)) (ew ∙ ap (cell_at state) ex) top-bound.node

      pub top-term : (node_of w + 1 < length nodes) × ((term_end nodes w ≤ length nodes) × (length nodes ≤ places))
      top-term =
          let a : node_of w + loaded_node ≤ length nodes = node-inside g.ss nodes (node_of w) top-node in
          let b : term_end nodes w ≤ length nodes = node_end g.ss nodes (node_of w) top-node in
          (omega arith, (b, g.store.small))

      pub top-look : {e : ℕ} → e ≡ term_end nodes w → Lookable nodes state scratch (record { node = from; copy = copy_of w }) e
      top-look f =
          record {
            ss = g.ss;
            row = subst⁻¹ (Row g.ss nodes from) f (subst⁻¹ (λ (k : ℕ). Row g.ss nodes from (term_end nodes k)) ew top-is.row);
            copy = copy-small w;
            long = top-room.1.0;
            roomy = (let a : store_words ≤ length scratch = top-room.1.1 in omega arith);
          }

      module _ {e i : ℕ} (f : e ≡ term_end nodes w) (found : (h : Lookable nodes state scratch (record { node = from; copy = copy_of w }) e) → Found h i) where
        looked : LookedTo g.ss nodes state scratch (record { node = from; copy = copy_of w }) e i
        unfolding top-look
        looked = (found (top-look f)).looked

        stops : i < e → LeadsOn nodes state scratch i (copy_of w)
        stops = (found (top-look f)).stop

        -- the variables of the term before place i are settled
        up-to : (v : Variable) → T (occurs v (value_of g.ss nodes (cell_at state x))) → Settled state scratch v ⊎ T (occurs_in v (terms_at g.ss nodes i (term_end nodes (cell_at state x)) (copy_of (cell_at state x))))
        up-to v h =
            elim (top-is.clear v h) [
              | inl s ↦ inl s
              | inr s ↦ elim (looked.clear v (subst⁻¹ (λ (k : ℕ). T (occurs_in v (terms_at g.ss nodes from k (copy_of w)))) f (subst⁻¹ (λ (k : ℕ). T (occurs_in v (terms_at g.ss nodes from (term_end nodes k) (copy_of k)))) ew s))) [
                | inl z ↦ inl z
                | inr z ↦ inr (subst (λ (k : ℕ). T (occurs_in v (terms_at g.ss nodes i (term_end nodes k) (copy_of k)))) ew (subst (λ (k : ℕ). T (occurs_in v (terms_at g.ss nodes i k (copy_of w)))) f z))
              ]
            ]

        within-term : (v : Variable) → T (occurs_in v (terms_at g.ss nodes i e (copy_of w))) → T (occurs v (value_of g.ss nodes (cell_at state x)))
        within-term v h =
            top-is.inside v (subst (λ (k : ℕ). T (occurs_in v (terms_at g.ss nodes from (term_end nodes k) (copy_of k)))) ew (subst (λ (k : ℕ). T (occurs_in v (terms_at g.ss nodes from k (copy_of w)))) f (looked.inside v h)))

        -- ---- it is done

        module _ (end : e ≤ i) where
          all-settled : (v : Variable) → T (occurs v (value_of g.ss nodes (cell_at state x))) → Settled state scratch v
          all-settled v h = elim (up-to v h) [ inl s ↦ s | inr s ↦ absurd (subst (λ (ts : RTerms). T (occurs_in v ts)) none s) ]
            where
              none : terms_at g.ss nodes i (term_end nodes (cell_at state x)) (copy_of (cell_at state x)) ≡ rnil
              none = subst (λ (k : ℕ). terms_at g.ss nodes i (term_end nodes k) (copy_of k) ≡ rnil) ew (subst (λ (k : ℕ). terms_at g.ss nodes i k (copy_of w) ≡ rnil) f (row-none g.ss nodes i e looked.row (copy_of w) end))

          abbrev finished : List ℕ
          finished = set scratch x done_mark

          not-top : (j : ℕ) → j < p.height - 1 → path_cell scratch j ≡ x → ⊥
          not-top j l q = t.apart j (p.height - 1) l under (q ∙ ex)

          here-done : get_or finished x 0 ≡ done_mark
          here-done = get_or-set_same scratch x done_mark 0 (let a : x < cells = top-cell in let b : store_words ≤ length scratch = top-room.1.1 in omega arith)

          elsewhere : (j : ℕ) → (j ≡ x → ⊥) → get_or finished j 0 ≡ get_or scratch j 0
          elsewhere j n = get_or-set_other scratch x j done_mark 0 n

          beyond : (j : ℕ) → cells ≤ j → get_or finished j 0 ≡ get_or scratch j 0
          beyond j l = elsewhere j (λ q. (let a : x < cells = top-cell in omega arith))

          still-so : StillDone scratch finished
          still-so z l q = go (eqb z x) refl
            where
              go : (b : Bool) → eqb z x ≡ b → get_or finished z 0 ≡ done_mark
              go true r = ap (λ (k : ℕ). get_or finished k 0) (eqb-true z x r) ∙ here-done
              go false r = elsewhere z (eqb-false z x r) ∙ q

          was-open : get_or scratch x 0 ≡ done_mark → ⊥
          was-open = top-is.not_done

          rank-after : ℕ → ℕ
          rank-after z = elim (eqb z x) [ true ↦ t.most | false ↦ t.rank z ]

          rank-here : rank-after x ≡ t.most
          unfolding rank-after
          rank-here = go (eqb x x) refl
            where
              go : (b : Bool) → eqb x x ≡ b → elim (eqb x x) [ true ↦ t.most | false ↦ t.rank x ] ≡ t.most
              go true r = ap (λ (b : Bool). elim b [ true ↦ t.most | false ↦ t.rank x ]) r
              go false r = absurd (eqb-false x x r refl)

          rank-other : (z : ℕ) → (z ≡ x → ⊥) → rank-after z ≡ t.rank z
          unfolding rank-after
          rank-other z n = go (eqb z x) refl
            where
              go : (b : Bool) → eqb z x ≡ b → elim (eqb z x) [ true ↦ t.most | false ↦ t.rank z ] ≡ t.rank z
              go true r = absurd (n (eqb-true z x r))
              go false r = ap (λ (b : Bool). elim b [ true ↦ t.most | false ↦ t.rank z ]) r

          rank-kept : (z : ℕ) → z < cells → get_or scratch z 0 ≡ done_mark → rank-after z ≡ t.rank z
          rank-kept z l q = rank-other z (λ r. was-open (ap (λ (k : ℕ). get_or scratch k 0) (sym r) ∙ q))

          finished-marks : RawStore mark_symbols mark_table finished p.entered
          finished-marks =
              record {
                long = (let a : store_words ≤ length scratch = top-room.1.1 in let e1 : length finished ≡ length scratch = length-set scratch x done_mark in omega arith);
                small = mark-short;
                entry = λ j l. entry-at j l;
                apart = λ j k l h q. t.marks.apart j k l h (sym (trail-same j) ∙ (q ∙ trail-same k));
                only = λ z l n. only_at z l n (eqb z x) refl;
              }
            where
              trail-same : (j : ℕ) → trail_at finished j ≡ trail_at scratch j
              trail-same j = beyond (trail + j) (omega arith)

              entry-at : (j : ℕ) → j < p.entered → TrailEntry mark_symbols mark_table finished j
              entry-at j l =
                  let o : TrailEntry mark_symbols mark_table scratch j = t.marks.entry j l in
                  record {
                    cell = subst⁻¹ (λ (k : ℕ). k < cells) (trail-same j) o.cell;
                    bound = λ z. bound-at (trail_at scratch j) o.bound (sym (ap (cell_at finished) (trail-same j)) ∙ z) (eqb (trail_at scratch j) x) refl;
                    node = node-at (cell_at finished (trail_at finished j)) (trail_at scratch j) o.node (ap (cell_at finished) (trail-same j)) (eqb (trail_at scratch j) x) refl;
                    down = λ z. absurd (no-mark-variable (subst (λ (k : ℕ). get_or mark_table k 0 < first_name) (mark-zero (node_of (cell_at finished (trail_at finished j))) (node-at (cell_at finished (trail_at finished j)) (trail_at scratch j) o.node (ap (cell_at finished) (trail-same j)) (eqb (trail_at scratch j) x) refl)) z));
                  }
                where
                  bound-at : (k : ℕ) → (cell_at scratch k ≡ 0 → ⊥) → cell_at finished k ≡ 0 → (b : Bool) → eqb k x ≡ b → ⊥
                  bound-at k n z true r = let a : cell_at finished k ≡ 2 = ap (cell_at finished) (eqb-true k x r) ∙ here-done in omega (arith, z)
                  bound-at k n z false r = n (sym (elsewhere k (eqb-false k x r)) ∙ z)

                  node-at : (v k : ℕ) → Node mark_symbols mark_table (node_of (cell_at scratch k)) → v ≡ cell_at finished k → (b : Bool) → eqb k x ≡ b → Node mark_symbols mark_table (node_of v)
                  node-at v k n q true r = subst⁻¹ (λ (u : ℕ). Node mark_symbols mark_table (node_of u)) (q ∙ (ap (cell_at finished) (eqb-true k x r) ∙ here-done)) mark-node
                  node-at v k n q false r = subst⁻¹ (λ (u : ℕ). Node mark_symbols mark_table (node_of u)) (q ∙ elsewhere k (eqb-false k x r)) n

              only_at : (z : ℕ) → z < cells → (cell_at finished z ≡ 0 → ⊥) → (b : Bool) → eqb z x ≡ b → (j : ℕ) × (j < p.entered) × (trail_at finished j ≡ z)
              only_at z l n true r =
                  let o : (j : ℕ) × (j < p.entered) × (trail_at scratch j ≡ z) = t.marks.only z l (λ q. top-is.marked (ap (λ (k : ℕ). get_or scratch k 0) (sym (eqb-true z x r)) ∙ q)) in
                  (o.0, o.1, trail-same o.0 ∙ o.2)
              only_at z l n false r =
                  let o : (j : ℕ) × (j < p.entered) × (trail_at scratch j ≡ z) = t.marks.only z l (λ q. n (elsewhere z (eqb-false z x r) ∙ q)) in
                  (o.0, o.1, trail-same o.0 ∙ o.2)

          finished-search : SearchState g.ss nodes state g.n g.before finished (record { height = p.height - 1; entered = p.entered; left = p.left })
          finished-search =
              record {
                marks = finished-marks;
                low = (let h : p.height ≤ p.entered = t.low in omega arith);
                long = length-set scratch x done_mark ∙ t.long;
                kept = λ j l h. beyond j (omega arith) ∙ t.kept j l h;
                rank = rank-after;
                most = suc t.most;
                done = λ z l q. done-at z l q (eqb z x) refl;
                path = λ j l. path-at j l;
                apart = λ j k l h q. t.apart j k l (omega arith) (sym (beyond (path_of j) (omega arith)) ∙ (q ∙ beyond (path_of k) (omega arith)));
                open_cells = λ z l a b. open-cell z l a b (eqb z x) refl;
                falls = λ f1 j k l h.
                    subst⁻¹ (λ (u : ℕ). cell_size g.ss nodes state g.n (path_cell finished k) < cell_size g.ss nodes state g.n u) (beyond (path_of j) (omega arith))
                    (subst⁻¹ (λ (u : ℕ). cell_size g.ss nodes state g.n u < cell_size g.ss nodes state g.n (path_cell scratch j)) (beyond (path_of k) (omega arith)) (t.falls f1 j k l (omega arith)));
              }
            where
              done-at : (z : ℕ) → z < cells → get_or finished z 0 ≡ done_mark → (b : Bool) → eqb z x ≡ b → DoneCell g.ss nodes state finished rank-after (suc t.most) z
              done-at z l q true r =
                  subst⁻¹ (DoneCell g.ss nodes state finished rank-after (suc t.most)) (eqb-true z x r)
                  (record {
                    low = (let a : rank-after x ≡ t.most = rank-here in omega arith);
                    below = λ v h. (let k : Settled state scratch v = all-settled v h in record { cell = k.cell; is = k.is; small = k.small; settled = elim k.settled [ inl a ↦ inl a | inr a ↦ inr (still-so k.cell k.small a, (let b : rank-after k.cell ≡ t.rank k.cell = rank-kept k.cell k.small a in let c : t.rank k.cell < t.most = (t.done k.cell k.small a).low in let d : rank-after x ≡ t.most = rank-here in omega arith)) ] });
                  })
              done-at z l q false r =
                  let n : z ≡ x → ⊥ = eqb-false z x r in
                  let d : DoneCell g.ss nodes state scratch t.rank t.most z = t.done z l (sym (elsewhere z n) ∙ q) in
                  let same : rank-after z ≡ t.rank z = rank-other z n in
                  record { low = (let a : t.rank z < t.most = d.low in omega arith); below = λ v h. ranked-on state scratch finished t.rank rank-after (t.rank z) (rank-after z) v still-so rank-kept (omega arith) (d.below v h) }

              path-at : (j : ℕ) → j < p.height - 1 → OpenCell g.ss nodes state finished (path_cell finished j) (path_place finished j)
              path-at j l =
                  let o : OpenCell g.ss nodes state scratch (path_cell scratch j) (path_place scratch j) = t.path j (omega arith) in
                  open_at g.ss nodes state finished (beyond (path_of j) (omega arith)) (beyond (path_of j + 1) (omega arith))
                  (open-on g.ss nodes state scratch finished (path_cell scratch j) (path_place scratch j) still-so (elsewhere (path_cell scratch j) (not-top j l)) o)

              open-cell : (z : ℕ) → z < cells → (get_or finished z 0 ≡ 0 → ⊥) → (get_or finished z 0 ≡ done_mark → ⊥) → (b : Bool) → eqb z x ≡ b → (j : ℕ) × ((j < p.height - 1) × (path_cell finished j ≡ z))
              open-cell z l a b true r = absurd (b (ap (λ (k : ℕ). get_or finished k 0) (eqb-true z x r) ∙ here-done))
              open-cell z l a b false r =
                  let n : z ≡ x → ⊥ = eqb-false z x r in
                  let o : (j : ℕ) × ((j < p.height) × (path_cell scratch j ≡ z)) = t.open_cells z l (λ q. a (elsewhere z n ∙ q)) (λ q. b (elsewhere z n ∙ q)) in
                  let below : o.0 < p.height - 1 = (let k : o.0 < p.height = o.1.0 in let m : o.0 ≡ p.height - 1 → ⊥ = (λ q. n (sym o.1.1 ∙ (ap (path_cell scratch) q ∙ sym ex))) in omega (arith, m)) in
                  (o.0, (below, beyond (path_of o.0) (omega arith) ∙ o.1.1))

          pub turn-finished : {slot : ℕ} → slots ≤ slot → slot < slots + slot_count → {mid after : List ℕ} → mid ≡ finished → after ≡ set mid slot x → SearchedOn g after (record { height = p.height - 1; entered = p.entered; left = p.left })
          turn-finished {slot} lo hi {mid} {after} em ea =
              subst⁻¹ (λ (u : List ℕ). SearchedOn g u (record { height = p.height - 1; entered = p.entered; left = p.left })) (ea ∙ ap (λ (u : List ℕ). set u slot x) em)
              (record {
                search = search-beside finished-search (set finished slot x) (length-set finished slot x) (λ j h. get_or-set_other finished slot j x 0 (λ q. omega arith)) (λ j l. get_or-set_other finished slot (path_of j) x 0 (λ q. omega arith))
                    (λ j l. open_at g.ss nodes state finished refl (get_or-set_other finished slot (path_of j + 1) x 0 (λ q. omega arith)) (finished-search.path j l));
                more = λ z l a q. more-at z l a (sym (get_or-set_other finished slot z x 0 (λ r. omega arith)) ∙ q) (eqb z x) refl;
                limit = λ o. o;
                less = (let h : p.height ≤ p.entered = t.low in omega arith);
              })
            where
              more-at : (z : ℕ) → z < cells → (get_or scratch z 0 ≡ 0 → ⊥) → get_or finished z 0 ≡ 0 → (b : Bool) → eqb z x ≡ b → ⊥
              more-at z l a q true r = let k : get_or finished z 0 ≡ 2 = ap (λ (k : ℕ). get_or finished k 0) (eqb-true z x r) ∙ here-done in omega (arith, q)
              more-at z l a q false r = a (sym (elsewhere z (eqb-false z x r)) ∙ q)

        -- ---- it leads on

        module _ (on : i < e) {v y : ℕ} (ev : v ≡ get_or nodes i 0) (ey : y ≡ cell_of (copy_of w) v) where
          leads : LeadsOn nodes state scratch i (copy_of w)
          leads = stops on

          pub next-variable : (v < first_name) × (i < length nodes)
          next-variable =
              let a : i + loaded_node ≤ length nodes = node-inside g.ss nodes i (row_first g.ss nodes i e looked.row on) in
              (subst⁻¹ (λ (k : ℕ). k < first_name) ev leads.0, omega arith)

          y-is : y ≡ cell_of (copy_of w) (get_or nodes i 0)
          y-is = ey ∙ ap (cell_of (copy_of w)) ev

          pub next-cell : y < cells
          next-cell = subst⁻¹ (λ (k : ℕ). k < cells) y-is (cell-small (copy_of w) (get_or nodes i 0) (copy-small w) leads.0)

          pub next-bound : cell_at state y ≡ 0 → ⊥
          next-bound z = leads.1.0 (ap (cell_at state) (sym y-is) ∙ z)

          next-open : get_or scratch y 0 ≡ done_mark → ⊥
          next-open z = leads.1.1 (ap (λ (k : ℕ). get_or scratch k 0) (sym y-is) ∙ z)

          next-stands : T (occurs (variable_of y) (value_of g.ss nodes (cell_at state x)))
          next-stands =
              within-term (variable_of y)
              (subst (λ (u : Variable). T (occurs_in u (terms_at g.ss nodes i e (copy_of w)))) (sym (variable-cell (copy_of w) (get_or nodes i 0) leads.0) ∙ ap variable_of (sym y-is)) ((node-step g.ss nodes i e (copy_of w) looked.row on).here leads.0))

          next-falls : Acyclic g.ss nodes state g.n → cell_size g.ss nodes state g.n y < cell_size g.ss nodes state g.n x
          next-falls = cell-falls g.ss nodes state g.n x y g.store top-is.cell top-is.bound next-cell next-stands

          -- its cell is below those of the path
          pub next-below : Acyclic g.ss nodes state g.n → (k : ℕ) → k < p.height → cell_size g.ss nodes state g.n y < cell_size g.ss nodes state g.n (path_cell scratch k)
          next-below f1 k l = go (eqb k (p.height - 1)) refl
            where
              at-top : cell_size g.ss nodes state g.n y < cell_size g.ss nodes state g.n (path_cell scratch (p.height - 1))
              at-top = subst (λ (u : ℕ). cell_size g.ss nodes state g.n y < cell_size g.ss nodes state g.n u) ex (next-falls f1)

              go : (b : Bool) → eqb k (p.height - 1) ≡ b → cell_size g.ss nodes state g.n y < cell_size g.ss nodes state g.n (path_cell scratch k)
              go true r = subst⁻¹ (λ (u : ℕ). cell_size g.ss nodes state g.n y < cell_size g.ss nodes state g.n (path_cell scratch u)) (eqb-true k (p.height - 1) r) at-top
              go false r =
                  let n : k ≡ p.height - 1 → ⊥ = eqb-false k (p.height - 1) r in
                  let a : cell_size g.ss nodes state g.n (path_cell scratch (p.height - 1)) < cell_size g.ss nodes state g.n (path_cell scratch k) = t.falls f1 k (p.height - 1) (omega (arith, n)) under in
                  let b : cell_size g.ss nodes state g.n y < cell_size g.ss nodes state g.n (path_cell scratch (p.height - 1)) = at-top in
                  omega arith

          -- it is open: a cycle
          pub turn-cycle : (get_or scratch y 0 ≡ 0 → ⊥) → Acyclic g.ss nodes state g.n → ⊥
          turn-cycle z f1 =
              let o : (j : ℕ) × ((j < p.height) × (path_cell scratch j ≡ y)) = t.open_cells y next-cell z next-open in
              let a : cell_size g.ss nodes state g.n y < cell_size g.ss nodes state g.n (path_cell scratch o.0) = next-below f1 o.0 o.1.0 in
              let b : cell_size g.ss nodes state g.n (path_cell scratch o.0) ≡ cell_size g.ss nodes state g.n y = ap (cell_size g.ss nodes state g.n) o.1.1 in
              omega arith

          -- it is entered
          module _ (unmarked : get_or scratch y 0 ≡ 0) where
            abbrev pub moved : List ℕ
            moved = set scratch (path_of (p.height - 1) + 1) i

            pub moved-low : (j : ℕ) → j < slots → get_or moved j 0 ≡ get_or scratch j 0
            moved-low j l = get_or-set_other scratch (path_of (p.height - 1) + 1) j i 0 (λ q. omega arith)

            pub moved-cell : (j : ℕ) → path_cell moved j ≡ path_cell scratch j
            moved-cell j = get_or-set_other scratch (path_of (p.height - 1) + 1) (path_of j) i 0 (λ q. omega arith)

            pub moved-search : SearchState g.ss nodes state g.n g.before moved p
            moved-search =
                search-beside t moved (length-set scratch (path_of (p.height - 1) + 1) i) moved-low (λ j l. moved-cell j) (λ j l. at j l (eqb j (p.height - 1)) refl)
              where
                here : OpenCell g.ss nodes state scratch x i
                here =
                    record {
                      cell = top-is.cell;
                      bound = top-is.bound;
                      marked = top-is.marked;
                      not_done = top-is.not_done;
                      row = subst (λ (k : ℕ). Row g.ss nodes i (term_end nodes k)) ew (subst (Row g.ss nodes i) f looked.row);
                      clear = up-to;
                      inside = λ u h. within-term u (subst⁻¹ (λ (k : ℕ). T (occurs_in u (terms_at g.ss nodes i k (copy_of w)))) f (subst⁻¹ (λ (k : ℕ). T (occurs_in u (terms_at g.ss nodes i (term_end nodes k) (copy_of k)))) ew h));
                    }

                at : (j : ℕ) → j < p.height → (b : Bool) → eqb j (p.height - 1) ≡ b → OpenCell g.ss nodes state scratch (path_cell scratch j) (path_place moved j)
                at j l true r =
                    let q : j ≡ p.height - 1 = eqb-true j (p.height - 1) r in
                    open_at g.ss nodes state scratch (ap (path_cell scratch) q ∙ sym ex) (ap (path_place moved) q ∙ get_or-set_same scratch (path_of (p.height - 1) + 1) i 0 top-room.0.1) here
                at j l false r =
                    let n : j ≡ p.height - 1 → ⊥ = eqb-false j (p.height - 1) r in
                    open_at g.ss nodes state scratch refl (get_or-set_other scratch (path_of (p.height - 1) + 1) (path_of j + 1) i 0 (λ q. n (omega arith))) (t.path j l)

            abbrev pub turn-enterable : Enterable nodes state moved p y
            turn-enterable =
                record {
                  given = record { ss = g.ss; n = g.n; before = g.before; store = g.store; roomy = (let q : length moved ≡ length scratch = length-set scratch (path_of (p.height - 1) + 1) i in let a : rows ≤ length scratch = g.roomy in omega arith); search = moved-search };
                  cell = next-cell;
                  bound = next-bound;
                  unmarked = moved-low y (let a : y < cells = next-cell in omega arith) ∙ unmarked;
                  less = λ f1 k l. subst⁻¹ (λ (u : ℕ). cell_size g.ss nodes state g.n y < cell_size g.ss nodes state g.n u) (moved-cell k) (next-below f1 k l);
                }

            pub turn-enter : {mid : List ℕ} → mid ≡ moved → Enterable nodes state mid p y
            turn-enter q = subst⁻¹ (λ (u : List ℕ). Enterable nodes state u p y) q turn-enterable

            pub turn-entered : {mid : List ℕ} → mid ≡ moved → {after : List ℕ} {r : Progress} → ((h : Enterable nodes state mid p y) → EnteredCell h after r) → SearchedOn g after r
            turn-entered {mid} q {after} {r} k =
                let d : EnteredCell turn-enterable after r = subst (λ (u : List ℕ). (h : Enterable nodes state u p y) → EnteredCell h after r) q k turn-enterable in
                record {
                  search = d.search;
                  more = λ z l a. d.more z l (λ b. a (sym (moved-low z (omega arith)) ∙ b));
                  limit = d.limit;
                  less = (let a : r.height ≡ p.height + 1 = d.height in let b : r.entered ≡ p.entered + 1 = d.entered in let c : p.entered < cells = room mark_symbols mark_table scratch p.entered y t.marks next-cell unmarked in omega arith);
                }

-- the term of a cell's word, as it is unpacked
pub at-end : (nodes : List ℕ) (w : ℕ) {z : ℕ} {a : At} → a ≡ at_of w → z ≡ get_or nodes (a.node + 1) 0 → a.node + z ≡ term_end nodes w
at-end nodes w {z} {a} ea ez = ap (λ (k : ℕ). a.node + k) ez ∙ ap (λ (u : At). u.node + get_or nodes (u.node + 1) 0) ea

pub at-copy : (w : ℕ) {a : At} → a ≡ at_of w → a.copy ≡ copy_of w
at-copy w e = ap (λ (u : At). u.copy) e

pub at-node : (w : ℕ) {a : At} → a ≡ at_of w → a.node ≡ node_of w
at-node w e = ap (λ (u : At). u.node) e

pub at-look : (w : ℕ) {nodes state scratch : List ℕ} {from e : ℕ} {a : At} → a ≡ at_of w → Lookable nodes state scratch (record { node = from; copy = copy_of w }) e → Lookable nodes state scratch (record { node = from; copy = a.copy }) e
at-look w {nodes} {state} {scratch} {from} {e} ea l = subst⁻¹ (λ (k : ℕ). Lookable nodes state scratch (record { node = from; copy = k }) e) (at-copy w ea) l

pub at-found : (w : ℕ) {nodes state scratch : List ℕ} {from e i : ℕ} {a : At} → a ≡ at_of w → ((h : Lookable nodes state scratch (record { node = from; copy = a.copy }) e) → Found h i) → (h : Lookable nodes state scratch (record { node = from; copy = copy_of w }) e) → Found h i
at-found w {nodes} {state} {scratch} {from} {e} {i} ea f = subst (λ (k : ℕ). (h : Lookable nodes state scratch (record { node = from; copy = k }) e) → Found h i) (at-copy w ea) f

pub at-cell : (w v : ℕ) {y : ℕ} {a : At} → a ≡ at_of w → y ≡ cell_of a.copy v → y ≡ cell_of (copy_of w) v
at-cell w v ea ey = ey ∙ ap (λ (k : ℕ). cell_of k v) (at-copy w ea)

-- ---- turns, and a search from one cell

pub record SearchLoop {nodes state before : List ℕ} {p : Progress} (g : Searching nodes state before p) (after : List ℕ) (q : Progress) : Type 0 where
  pub search : SearchState g.ss nodes state g.n g.before after q
  pub more : StayMarked before after
  pub limit : p.left ≡ None → q.left ≡ None

module _ {nodes state before : List ℕ} {p : Progress} (g : Searching nodes state before p) where
  pub loop-begin : SearchLoop g before p
  loop-begin = record { search = g.search; more = λ y l a. a; limit = λ o. o }

  module _ {after : List ℕ} {q : Progress} (s : SearchLoop g after q) where
    pub loop-given : Searching nodes state after q
    loop-given =
        record {
          ss = g.ss;
          n = g.n;
          before = g.before;
          store = g.store;
          roomy = (let a : rows ≤ length before = g.roomy in let e1 : length after ≡ length g.before = s.search.long in let e2 : length before ≡ length g.before = g.search.long in omega arith);
          search = s.search;
        }

    module _ (later : List ℕ) (o : Option Progress) (k : (h : Searching nodes state after q) → SearchTurned h later o) where
      loop-turned : SearchTurned loop-given later o
      loop-turned = k loop-given

      pub loop-on : {r : Progress} → o ≡ Some r → SearchLoop g later r
      unfolding loop-given
      loop-on {r} e = let x : SearchedOn loop-given later r = subst (SearchTurned loop-given later) e loop-turned in record { search = x.search; more = λ y l a. x.more y l (s.more y l a); limit = λ z. x.limit (s.limit z) }

      pub loop-falls : {r : Progress} → o ≡ Some r → search_left r < search_left q
      loop-falls {r} e = let x : SearchedOn loop-given later r = subst (SearchTurned loop-given later) e loop-turned in x.less

      pub loop-cycle : o ≡ None → SearchStopped g later q
      unfolding loop-given
      loop-cycle e =
          let x : (later ≡ after) × (Acyclic g.ss nodes state g.n → ⊥) = subst (SearchTurned loop-given later) e loop-turned in
          subst⁻¹ (λ (u : List ℕ). SearchStopped g u q) x.0 (record { search = s.search; more = s.more; limit = s.limit; cyclic = λ z w. x.1 })

    pub loop-end : q.height ≤ 0 → SearchStopped g after q
    loop-end l = record { search = s.search; more = s.more; limit = s.limit; cyclic = λ z w. absurd (let o : 1 ≤ q.height = z in omega arith) }

    -- the limit is spent
    pub loop-spent : q.left ≡ Some 0 → SearchStopped g after q
    loop-spent e = record { search = s.search; more = s.more; limit = s.limit; cyclic = λ z w. absurd (w e) }

module _ {nodes state before : List ℕ} {m x : ℕ} {left : Option ℕ} (g : Searching nodes state before (from_start m left)) where
  -- the cell is marked already
  pub search-none : (get_or before x 0 ≡ 0 → ⊥) → SearchEnded g before x (from_start m left)
  search-none z = record { search = g.search; more = λ y l a. a; here = z; limit = λ o. o; cyclic = λ q w. absurd (let o : 1 ≤ 0 = q in omega arith) }

  module _ (l : x < cells) (b : cell_at state x ≡ 0 → ⊥) (z : get_or before x 0 ≡ 0) where
    pub search-enterable : Enterable nodes state before (from_start m left) x
    search-enterable = record { given = g; cell = l; bound = b; unmarked = z; less = λ f k q. absurd (let o : k < 0 = q in omega arith) }

    module _ {mid : List ℕ} {p : Progress} (k : (h : Enterable nodes state before (from_start m left) x) → EnteredCell h mid p) where
      entered-cell : EnteredCell search-enterable mid p
      entered-cell = k search-enterable

      pub search-given : Searching nodes state mid p
      unfolding search-enterable
      search-given =
          record {
            ss = g.ss;
            n = g.n;
            before = g.before;
            store = g.store;
            roomy = (let a : rows ≤ length before = g.roomy in let e1 : length mid ≡ length g.before = entered-cell.search.long in let e2 : length before ≡ length g.before = g.search.long in omega arith);
            search = entered-cell.search;
          }

      pub search-ended : {after : List ℕ} {r : Progress} → ((h : Searching nodes state mid p) → SearchStopped h after r) → SearchEnded g after x r
      unfolding search-given search-enterable
      search-ended f = let s = f search-given in record { search = s.search; more = λ y o a. s.more y o (entered-cell.more y o a); here = s.more x l entered-cell.here; limit = λ o. s.limit (entered-cell.limit o); cyclic = s.cyclic }

-- ---- searches from the pending cells

pub record PendingLoop {nodes state before : List ℕ} {pending : ℕ} (g : Testable nodes state before pending) (limit : Option ℕ) (after : List ℕ) (m : ℕ) (left : Option ℕ) (k : ℕ) : Type 0 where
  pub search : SearchState g.ss nodes state g.n before after (from_start m left)
  pub limited : limit ≡ None → left ≡ None
  pub marked : (j : ℕ) → j < k → get_or after (pending_at before j) 0 ≡ 0 → ⊥

module _ {nodes state before : List ℕ} {count : ℕ} {limit : Option ℕ} (g : Testable nodes state before count) where
  pub pending-begin : PendingLoop g limit before 0 limit 0
  pending-begin =
      record {
        search = record {
          marks = no-entries mark_symbols mark_table before g.clean.long mark-short g.clean.zero;
          low = omega arith;
          long = refl;
          kept = λ j l h. refl;
          rank = λ y. 0;
          most = 0;
          done = λ y l e. absurd (let z : get_or before y 0 ≡ 0 = g.clean.zero y l in let k : get_or before y 0 ≡ 2 = e in omega arith);
          path = λ j l. absurd (let z : j < 0 = l in omega arith);
          apart = λ j k l h. absurd (let z : k < 0 = h in omega arith);
          open_cells = λ y l a c. absurd (a (g.clean.zero y l));
          falls = λ f j k l h. absurd (let z : k < 0 = h in omega arith);
        };
        limited = λ o. o;
        marked = λ j l. absurd (let z : j < 0 = l in omega arith);
      }

  module _ {after : List ℕ} {m k : ℕ} {left : Option ℕ} (s : PendingLoop g limit after m left k) where
    pub pending-given : Searching nodes state after (from_start m left)
    pending-given = record { ss = g.ss; n = g.n; before = before; store = g.store; roomy = (let a : rows ≤ length before = g.roomy in let e1 : length after ≡ length before = s.search.long in omega arith); search = s.search }

    pub pending-inside : k < count → pending + k < length after
    pending-inside l = let a : rows ≤ length before = g.roomy in let e1 : length after ≡ length before = s.search.long in let c : count ≤ cells = g.few in omega arith

    module _ (l : k < count) {x : ℕ} (ex : x ≡ get_or after (pending + k) 0) where
      x-is : x ≡ pending_at before k
      x-is = ex ∙ s.search.kept (pending + k) (omega arith) (let c : count ≤ cells = g.few in omega arith)

      pub pending-cell : x < cells
      pending-cell = subst⁻¹ (λ (u : ℕ). u < cells) x-is (g.cell k l)

      pub pending-bound : cell_at state x ≡ 0 → ⊥
      pending-bound z = g.bound k l (ap (cell_at state) (sym x-is) ∙ z)

      module _ {later : List ℕ} {p : Progress} (f : (h : Searching nodes state after (from_start m left)) → SearchEnded h later x p) where
        ended : SearchEnded pending-given later x p
        ended = f pending-given

        pub pending-found : 0 < p.height → AllSearched g limit later p
        unfolding pending-given
        pending-found q = record { search = ended.search; limited = λ o. ended.limit (s.limited o); cyclic = ended.cyclic; marked = λ z. absurd (omega (arith, z)) }

        pub pending-next : p.height ≤ 0 → PendingLoop g limit later p.entered p.left (k + 1)
        unfolding pending-given
        pending-next q =
            record {
              search = subst (λ (h : ℕ). SearchState g.ss nodes state g.n before later (record { height = h; entered = p.entered; left = p.left })) (let z : p.height ≡ 0 = omega arith in z) ended.search;
              limited = λ o. ended.limit (s.limited o);
              marked = λ j o. at j o (eqb j k) refl;
            }
          where
            at : (j : ℕ) → j < k + 1 → (b : Bool) → eqb j k ≡ b → get_or later (pending_at before j) 0 ≡ 0 → ⊥
            at j o true r z = ended.here (ap (λ (u : ℕ). get_or later u 0) (x-is ∙ ap (pending_at before) (sym (eqb-true j k r))) ∙ z)
            at j o false r z =
                let i : j < k = (let n : j ≡ k → ⊥ = eqb-false j k r in omega (arith, n)) in
                ended.more (pending_at before j) (g.cell j (omega arith)) (s.marked j i) z

    pub pending-end : count ≤ k → AllSearched g limit after (from_start m left)
    pending-end q = record { search = s.search; limited = s.limited; cyclic = λ z w. absurd (let o : 1 ≤ 0 = z in omega arith); marked = λ z j o. s.marked j (omega arith) }

-- ---- the test

module _ {nodes state before : List ℕ} {count : ℕ} {limit : Option ℕ} (g : Testable nodes state before count) {mid : List ℕ} {p : Progress} (k : (h : Testable nodes state before count) → AllSearched h limit mid p) where
  whole : AllSearched g limit mid p
  whole = k g

  pub test-stored : Stored mid p.entered
  test-stored = record { ss = mark_symbols; nodes = mark_table; store = whole.search.marks }

  module _ (height : p.height ≡ 0) where
    -- a marked cell is done
    marked-done : (y : ℕ) → y < cells → (get_or mid y 0 ≡ 0 → ⊥) → get_or mid y 0 ≡ done_mark
    marked-done y l a = go (eqb (get_or mid y 0) done_mark) refl
      where
        go : (b : Bool) → eqb (get_or mid y 0) done_mark ≡ b → get_or mid y 0 ≡ done_mark
        go true r = eqb-true (get_or mid y 0) done_mark r
        go false r = absurd (let o = whole.search.open_cells y l a (eqb-false (get_or mid y 0) done_mark r) in let z : o.0 < p.height = o.1.0 in omega (arith, height))

    test-free : (j : ℕ) → j < count → (i : ℕ) → i < g.n → trail_at state i ≡ pending_at before j → ClosesCycle g.ss nodes state i → ⊥
    test-free j l i h e c =
        self (closed-under g.ss nodes state below i step (value_of g.ss nodes (cell_at state (trail_at state i))) (λ v o. done.below v (subst (λ (u : ℕ). T (occurs v (value_of g.ss nodes (cell_at state u)))) e o)) (variable_of (trail_at state i)) c)
      where
        x : ℕ
        x = pending_at before j

        done : DoneCell g.ss nodes state mid whole.search.rank whole.search.most (pending_at before j)
        done = whole.search.done (pending_at before j) (g.cell j l) (marked-done (pending_at before j) (g.cell j l) (whole.marked height j l))

        below : Variable → Type 0
        below = Ranked state mid whole.search.rank (whole.search.rank (pending_at before j))

        step : (a : ℕ) → a < i → Ranked state mid whole.search.rank (whole.search.rank (pending_at before j)) (variable_of (trail_at state a)) → (v : Variable) → T (occurs v (value_of g.ss nodes (cell_at state (trail_at state a)))) → Ranked state mid whole.search.rank (whole.search.rank (pending_at before j)) v
        step a b r v o =
            elim r.settled [
              | inl z ↦ absurd ((g.store.entry a (omega arith)).bound (ap (cell_at state) (cell-eq (trail_at state a) r.cell r.is) ∙ z))
              | inr z ↦ ranked-on state mid mid whole.search.rank whole.search.rank (whole.search.rank r.cell) (whole.search.rank (pending_at before j)) v (λ y q w. w) (λ y q w. refl) (let q : whole.search.rank r.cell < whole.search.rank (pending_at before j) = z.1 in omega arith)
                  ((whole.search.done r.cell r.small z.0).below v (subst (λ (u : ℕ). T (occurs v (value_of g.ss nodes (cell_at state u)))) (cell-eq (trail_at state a) r.cell r.is) o))
            ]

        self : Ranked state mid whole.search.rank (whole.search.rank (pending_at before j)) (variable_of (trail_at state i)) → ⊥
        self r =
            elim r.settled [
              | inl z ↦ (g.store.entry i h).bound (ap (cell_at state) (cell-eq (trail_at state i) r.cell r.is) ∙ z)
              | inr z ↦ (let q : whole.search.rank r.cell < whole.search.rank (pending_at before j) = z.1 in let w : whole.search.rank r.cell ≡ whole.search.rank (pending_at before j) = ap whole.search.rank (sym (cell-eq (trail_at state i) r.cell r.is) ∙ e) in omega arith)
            ]

  module _ {after : List ℕ} (u : Undone mid after 0 p.entered) where
    unmarked : RawStore mark_symbols mark_table after 0
    unmarked = u.store mark_symbols mark_table whole.search.marks

    test-clean : Clean after
    test-clean = record { long = unmarked.long; zero = λ y l. go y l (eqb (get_or after y 0) 0) refl }
      where
        go : (y : ℕ) → y < cells → (b : Bool) → eqb (get_or after y 0) 0 ≡ b → get_or after y 0 ≡ 0
        go y l true e = eqb-true (get_or after y 0) 0 e
        go y l false e = absurd (let o : (i : ℕ) × (i < 0) × (trail_at after i ≡ y) = unmarked.only y l (eqb-false (get_or after y 0) 0 e) in let z : o.0 < 0 = o.1 in omega arith)

    -- what each way out of the test says
    tested-by : {r : CycleSearch} → (r ≡ Cycle → Acyclic g.ss nodes state g.n → ⊥) → (r ≡ NoCycle → p.height ≡ 0) → (r ≡ GivenUp → p.left ≡ Some 0) → CycleTested g limit after r
    tested-by c f u1 =
        record {
          long = u.keeps.long ∙ whole.search.long;
          clean = test-clean;
          kept = λ j l h. u.keeps.others j l ∙ whole.search.kept j l h;
          cyclic = c;
          free = λ t. test-free (f t);
          given_up = λ t o. some-none (sym (u1 t) ∙ whole.limited o);
        }
      where
        some-none : {n : ℕ} → Some n ≡ None → ⊥
        some-none e = cc

    pub test-clear : p.height ≡ 0 → CycleTested g limit after NoCycle
    test-clear e = tested-by (λ t. absurd (cc)) (λ t. e) (λ t. absurd (cc))

    pub test-spent : p.left ≡ Some 0 → CycleTested g limit after GivenUp
    test-spent e = tested-by (λ t. absurd (cc)) (λ t. absurd (cc)) (λ t. e)

    pub test-cycle : (p.height ≡ 0 → ⊥) → (p.left ≡ Some 0 → ⊥) → CycleTested g limit after Cycle
    test-cycle e o = tested-by (λ t. whole.cyclic (omega (arith, e)) o) (λ t. absurd (cc)) (λ t. absurd (cc))

-- nothing is pending
pub test-none : {nodes state scratch : List ℕ} {count : ℕ} (g : Testable nodes state scratch count) → count ≡ 0 → Tested g scratch false
test-none g z = record { long = refl; clean = g.clean; kept = λ j l h. refl; cyclic = λ t. absurd (subst T (sym t) tt); free = λ t j l. absurd (omega (arith, z, l)) }

-- a search without a limit
module _ {nodes state scratch after : List ℕ} {count : ℕ} {g : Testable nodes state scratch count} {r : CycleSearch} (k : CycleTested g None after r) where
  pub test-false : r ≡ NoCycle → Tested g after false
  test-false e = record { long = k.long; clean = k.clean; kept = k.kept; cyclic = λ t. absurd (subst T (sym t) tt); free = λ t. k.free e }

  pub test-true : (r ≡ Cycle) ⊎ (r ≡ GivenUp) → Tested g after true
  test-true (inl e) = record { long = k.long; clean = k.clean; kept = k.kept; cyclic = λ t. k.cyclic e; free = λ t. absurd (subst T t tt) }
  test-true (inr e) = absurd (k.given_up e refl)

-- a look between turns
module _ {nodes state scratch next end : List ℕ} {count : ℕ} {limit : Option ℕ} {r : CycleSearch} (g : Testable nodes state scratch count) (f : (h : Testable nodes state scratch count) → CycleTested h limit next r) (q : end ≡ set (set next memo 0) cuts_word 0) where
  look-tested : CycleTested g limit next r
  look-tested = f g

  look-is : (j : ℕ) → (j ≡ memo → ⊥) → (j ≡ cuts_word → ⊥) → get_or end j 0 ≡ get_or next j 0
  look-is j a b = ap (λ (x : List ℕ). get_or x j 0) q ∙ (get_or-set_other (set next memo 0) cuts_word j 0 0 b ∙ get_or-set_other next memo j 0 0 a)

  look-long : length end ≡ length scratch
  look-long = ap length q ∙ (length-set (set next memo 0) cuts_word 0 ∙ (length-set next memo 0 ∙ look-tested.long))

  looked-by : (o : Option ℕ) → (o ≡ None → Acyclic g.ss nodes state g.n → ⊥)
      → ((c : ℕ) → o ≡ Some c → ((c ≡ 0) × ((j : ℕ) → j < count → (i : ℕ) → i < g.n → trail_at state i ≡ pending_at scratch j → ClosesCycle g.ss nodes state i → ⊥)) ⊎ (c ≡ count)) → Looked g end o
  looked-by o c s =
      record {
        long = look-long;
        clean = record { long = (let a : store_words ≤ length scratch = g.clean.long in let b : length end ≡ length scratch = look-long in omega arith); zero = λ y l. look-is y (λ z. omega arith) (λ z. omega arith) ∙ look-tested.clean.zero y l };
        kept = λ j a b. look-is j (λ z. omega arith) (λ z. omega arith) ∙ look-tested.kept j a (omega arith);
        no_classes = ap (λ (x : List ℕ). get_or x memo 0) q ∙ (get_or-set_other (set next memo 0) cuts_word memo 0 0 (λ z. omega arith) ∙ get_or-set_same next memo 0 0 (let a : rows ≤ length scratch = g.roomy in let e : length next ≡ length scratch = look-tested.long in omega arith));
        no_cuts = ap (λ (x : List ℕ). get_or x cuts_word 0) q ∙ get_or-set_same (set next memo 0) cuts_word 0 0 (let a : rows ≤ length scratch = g.roomy in let e : length next ≡ length scratch = look-tested.long in let b : length (set next memo 0) ≡ length next = length-set next memo 0 in omega arith);
        cyclic = c;
        still = s;
      }

  pub look-cycle : r ≡ Cycle → Looked g end None
  look-cycle e = looked-by None (λ t. look-tested.cyclic e) (λ c t. absurd (cc))

  pub look-none : r ≡ NoCycle → Looked g end (Some 0)
  look-none e = looked-by (Some 0) (λ t. absurd (cc)) (λ c t. inl (some-is c t, look-tested.free e))
    where
      some-is : (c : ℕ) → Some 0 ≡ Some c → c ≡ 0
      some-is c t = cc

  pub look-given : Looked g end (Some count)
  look-given = looked-by (Some count) (λ t. absurd (cc)) (λ c t. inr (some-is c t))
    where
      some-is : (c : ℕ) → Some count ≡ Some c → c ≡ count
      some-is c t = cc

pub look-room : {nodes state scratch next : List ℕ} {count : ℕ} {limit : Option ℕ} {r : CycleSearch} (g : Testable nodes state scratch count) → ((h : Testable nodes state scratch count) → CycleTested h limit next r) → memo < length next
look-room {scratch = scratch} {next = next} g f = let a : rows ≤ length scratch = g.roomy in let e : length next ≡ length scratch = (f g).long in omega arith
