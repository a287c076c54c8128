-- Laws of short cuts. Assumes nothing.
use Prim.Native.Nat.{ℕ, suc, ◌+◌, ◌≤◌, ◌<◌}
use native.Mathlib.Omega.{arith}
use mathlib.Core.Path.{◌≡◌, refl, sym, ap, ◌∙◌, subst, subst⁻¹}
use mathlib.Core.Bool.{Bool, true, false}
use lib.Dec.{T}
use mathlib.Core.List.{List, ◌∷◌}
use Rattle.std.proofs.Common.{Option, Some, None}
use Rattle.std.specs.Option.{is_some}
use lib.Dec.{ltb, eqb}
use lib.ListN.{length, get_or, set, take, length-set}
use lib.Seq.{get_or-set_same, get_or-set_other, length-take-le, get_or-take}
use borrow.Author.Tests.{ltb-true, ltb-false, eqb-true, eqb-false}
use Rattle.syntax.specs.Words.{first_name}
use Rattle.machine.specs.Substitution.{var, replace, Binding, resolve}
use Rattle.run_layout.specs.Regions.{copies, cells, loaded_node, cut_list, cut_count, cut_of, cuts_word, memo, slots, keys, rows}
use Rattle.run_layout.specs.Halves.{half, stored}
use Rattle.run_layout.specs.Nodes.{Symbol, Node, term_at}
use Rattle.run_layout.specs.State.{at_of, cell_of, node_of, copy_of, cell_at, bindings}
use Rattle.run_layout.proofs.Nodes.{node-inside, variable-at}
use Rattle.run_layout.proofs.State.{variable-cell, cell-small, copy-small}
use Rattle.std.specs.Option.{option_or}
use Rattle.bindings.specs.Cells.{bound_at, CellTerm, MeansSame}
use Rattle.run_layout.specs.declared.terms.At.{At}
use Rattle.bindings.specs.Scratch.{Roomy}
use Rattle.bindings.proofs.Deref.{BoundCell, bound-cell-is, bound-variable, bound-name, depth, depth-variable, depth-name}
use Rattle.bindings.specs.Cuts.{cuts_made, cut_from, cut_to, cell_means, cell_at_place, Cuts, CutFrom, Cut, Cutting, KnownSame}
use Rattle.bindings.specs.Chains.{Fronted, Followable, NextOfChain, Next, Staged, Linked, ChainEnd, Shortenable, VariableAt, Eased, Followed, Both, BothFollowed, Pairable, Joined}
use Rattle.bindings.specs.declared.shortcuts.Stage.{Stage}
use Rattle.bindings.specs.declared.shortcuts.Way.{Way}
use Rattle.bindings.specs.declared.shortcuts.Ends.{Ends}

-- ---- the list

pub cuts-none : (b : List Binding) (scratch : List ℕ) → cuts_made scratch ≡ 0 → Cuts b scratch
cuts-none b scratch e = record { alike = λ j l m. absurd (let z : j < cuts_made scratch = l in omega (arith, e)) }

pub cuts-kept : (b : List Binding) (before after : List ℕ) → ((j : ℕ) → cut_list ≤ j → j < memo → get_or after j 0 ≡ get_or before j 0) → Cuts b before → Cuts b after
cuts-kept b before after w k =
    record {
      alike = λ j l m.
          (let e : cuts_made after ≡ cuts_made before = w cuts_word (omega arith) (omega arith) in
          let z : get_or after (cut_of j) 0 ≡ get_or before (cut_of j) 0 = w (cut_of j) (omega arith) (omega arith) in
          ap (λ (v : ℕ). cell_means b (half 1 v)) z ∙ (k.alike j (omega (arith, e)) m ∙ sym (ap (λ (v : ℕ). cell_means b (half 0 v)) z)));
    }

-- one binding more
pub cuts-bound : (b : List Binding) (scratch : List ℕ) (new : Binding) → Cuts b scratch → Cuts (new ∷ b) scratch
unfolding resolve
cuts-bound b scratch new k = record { alike = λ j l m. ap (replace new.variable new.term) (k.alike j l m) }

pub cut-none : (scratch : List ℕ) (x : ℕ) → Cut scratch x x
cut-none scratch x = record { is = λ b k. refl }

pub cut_at : {scratch : List ℕ} {x y j : ℕ} → CutFrom scratch x j → y ≡ cut_to scratch j → Cut scratch x y
cut_at {scratch} {x} {y} {j} k f = record { is = λ b c. sym (ap (cell_means b) k.from) ∙ (c.alike j k.below k.small ∙ sym (ap (cell_means b) f)) }

-- the same, the other way round
pub cut-back : {scratch : List ℕ} {x y : ℕ} → Cut scratch x y → Cut scratch y x
cut-back k = record { is = λ b c. sym (k.is b c) }

pub cut-to-is : {scratch : List ℕ} {x y z : ℕ} → Cut scratch x y → y ≡ z → Cut scratch x z
cut-to-is {scratch} {x} k e = subst (Cut scratch x) e k

pub cutting-full : (before : List ℕ) (x y : ℕ) → rows ≤ length before → {after : List ℕ} → after ≡ set before cuts_word 0 → Cutting before after x y
cutting-full before x y l {after} e =
    subst⁻¹ (λ (s : List ℕ). Cutting before s x y) e
    (record {
      beside = record {
        long = length-set before cuts_word 0;
        low = λ j o. get_or-set_other before cuts_word j 0 0 (λ e1. omega arith);
        counts = λ j o h. get_or-set_other before cuts_word j 0 0 (λ e1. omega arith);
        high = λ j o. get_or-set_other before cuts_word j 0 0 (λ e1. omega arith);
      };
      cuts = λ b s k. cuts-none b (set before cuts_word 0) (get_or-set_same before cuts_word 0 0 (omega arith));
    })

-- the two cells in a cut's word
word-from : (x y : ℕ) → x < cells → half 1 (stored 1 y x) ≡ x
unfolding half stored
word-from x y l = omega arith

word-to : (x y : ℕ) → y < cells → half 0 (stored 1 y x) ≡ y
unfolding half stored
word-to x y l = omega arith

module _ (before : List ℕ) (j x y : ℕ) (long : rows ≤ length before) (small : j < cut_count) (low-x : x < cells) (low-y : y < cells) where
  abbrev pub written : List ℕ
  written = set before (cut_of j) (stored 1 y x)

  pub written-at : get_or written (cut_of j) 0 ≡ stored 1 y x
  written-at = get_or-set_same before (cut_of j) (stored 1 y x) 0 (omega arith)

  pub written-other : (i : ℕ) → (i ≡ cut_of j → ⊥) → get_or written i 0 ≡ get_or before i 0
  written-other i e = get_or-set_other before (cut_of j) i (stored 1 y x) 0 e

  -- a cut of the same cell in place of another
  pub cutting-again : CutFrom before x j → {after : List ℕ} → after ≡ written → Cutting before after x y
  cutting-again k {after} e =
      subst⁻¹ (λ (s : List ℕ). Cutting before s x y) e
      (record {
        beside = record {
          long = length-set before (cut_of j) (stored 1 y x);
          low = λ i o. written-other i (λ e1. omega arith);
          counts = λ i o h. written-other i (λ e1. omega arith);
          high = λ i o. written-other i (λ e1. omega arith);
        };
        cuts = λ b s c. record { alike = λ i l m. at b s c i l m (eqb i j) refl };
      })
    where
      at : (b : List Binding) → cell_means b x ≡ cell_means b y → Cuts b before → (i : ℕ) → i < cuts_made written → i < cut_count → (t : Bool) → eqb i j ≡ t → cell_means b (cut_from written i) ≡ cell_means b (cut_to written i)
      at b s c i l m true h =
          let z : i ≡ j = eqb-true i j h in
          let w : get_or written (cut_of i) 0 ≡ stored 1 y x = ap (λ (n : ℕ). get_or written (cut_of n) 0) z ∙ written-at in
          ap (λ (v : ℕ). cell_means b (half 1 v)) w ∙ (ap (cell_means b) (word-from x y low-x) ∙ (s ∙ (sym (ap (cell_means b) (word-to x y low-y)) ∙ sym (ap (λ (v : ℕ). cell_means b (half 0 v)) w))))
      at b s c i l m false h =
          let z : i ≡ j → ⊥ = eqb-false i j h in
          let w : get_or written (cut_of i) 0 ≡ get_or before (cut_of i) 0 = written-other (cut_of i) (λ e1. z (omega arith)) in
          let n : cuts_made written ≡ cuts_made before = written-other cuts_word (λ e1. omega arith) in
          ap (λ (v : ℕ). cell_means b (half 1 v)) w ∙ (c.alike i (omega (arith, n)) m ∙ sym (ap (λ (v : ℕ). cell_means b (half 0 v)) w))

module _ (before : List ℕ) (k x y slot word : ℕ) (long : rows ≤ length before) (is : k ≡ cuts_made before) (room : k < cut_count) (low-x : x < cells) (low-y : y < cells) (low : slots ≤ slot) (high : slot < keys) where
  abbrev first : List ℕ
  first = written before k x y long room low-x low-y

  abbrev second : List ℕ
  second = set first slot word

  abbrev pub cut-words : List ℕ
  cut-words = set second cuts_word (k + 1)

  second-long : length second ≡ length before
  second-long = length-set first slot word ∙ length-set before (cut_of k) (stored 1 y x)

  -- what is neither the count nor the slot
  behind : (j : ℕ) → (j ≡ cuts_word → ⊥) → (j ≡ slot → ⊥) → get_or cut-words j 0 ≡ get_or first j 0
  behind j a c = get_or-set_other second cuts_word j (k + 1) 0 a ∙ get_or-set_other first slot j word 0 c

  other : (j : ℕ) → (j ≡ cuts_word → ⊥) → (j ≡ slot → ⊥) → (j ≡ cut_of k → ⊥) → get_or cut-words j 0 ≡ get_or before j 0
  other j a c d = behind j a c ∙ written-other before k x y long room low-x low-y j d

  new-word : get_or cut-words (cut_of k) 0 ≡ stored 1 y x
  new-word = behind (cut_of k) (λ e. omega arith) (λ e. omega arith) ∙ written-at before k x y long room low-x low-y

  made : cuts_made cut-words ≡ k + 1
  made = get_or-set_same second cuts_word (k + 1) 0 (let e : length second ≡ length before = second-long in omega arith)

  pub cutting-new : Cutting before cut-words x y
  cutting-new =
      record {
        beside = record {
          long = length-set second cuts_word (k + 1) ∙ second-long;
          low = λ j o. other j (λ e. omega arith) (λ e. omega arith) (λ e. omega arith);
          counts = λ j o h. other j (λ e. omega arith) (λ e. omega arith) (λ e. omega arith);
          high = λ j o. other j (λ e. omega arith) (λ e. omega arith) (λ e. omega arith);
        };
        cuts = λ b s c. record { alike = λ j l m. at b s c j l m (eqb j k) refl };
      }
    where
      at : (b : List Binding) → cell_means b x ≡ cell_means b y → Cuts b before → (j : ℕ) → j < cuts_made cut-words → j < cut_count → (t : Bool) → eqb j k ≡ t → cell_means b (cut_from cut-words j) ≡ cell_means b (cut_to cut-words j)
      at b s c j l m true e =
          let z : j ≡ k = eqb-true j k e in
          let w : get_or cut-words (cut_of j) 0 ≡ stored 1 y x = ap (λ (n : ℕ). get_or cut-words (cut_of n) 0) z ∙ new-word in
          ap (λ (v : ℕ). cell_means b (half 1 v)) w ∙ (ap (cell_means b) (word-from x y low-x) ∙ (s ∙ (sym (ap (cell_means b) (word-to x y low-y)) ∙ sym (ap (λ (v : ℕ). cell_means b (half 0 v)) w))))
      at b s c j l m false e =
          let z : j ≡ k → ⊥ = eqb-false j k e in
          let n : j < k = (let h : j < cuts_made cut-words = l in let q : cuts_made cut-words ≡ k + 1 = made in omega (arith, z)) in
          let w : get_or cut-words (cut_of j) 0 ≡ get_or before (cut_of j) 0 = other (cut_of j) (λ e1. omega arith) (λ e1. omega arith) (λ e1. omega arith) in
          ap (λ (v : ℕ). cell_means b (half 1 v)) w ∙ (c.alike j (omega (arith, is)) m ∙ sym (ap (λ (v : ℕ). cell_means b (half 0 v)) w))

-- a cut between two cells that are these
pub cutting-is : {before after : List ℕ} {x y u v : ℕ} → x ≡ u → y ≡ v → Cutting before after x y → Cutting before after u v
cutting-is {before} {after} {x} {y} {u} {v} e f k = subst (λ (i : ℕ). Cutting before after i v) e (subst (Cutting before after x) f k)

pub cutting-by : {before s t : List ℕ} {x y : ℕ} → s ≡ t → Cutting before t x y → Cutting before s x y
cutting-by {before} {s} {t} {x} {y} e k = subst⁻¹ (λ (u : List ℕ). Cutting before u x y) e k

-- the cell of a variable
pub cell_in : {nodes : List ℕ} {a : At} {x : ℕ} → VariableAt nodes a → x ≡ cell_at_place nodes a → x < cells
cell_in {nodes} {a} k e = let l : cell_of a.copy (get_or nodes a.node 0) < cells = cell-small a.copy (get_or nodes a.node 0) k.copy k.variable in omega (arith, e)

-- ---- only cuts change

pub eased-refl : {known : Bool} (b : List Binding) (scratch : List ℕ) → (T known → Cuts b scratch) → Eased known b scratch scratch
eased-refl b scratch k = record { beside = record { long = refl; low = λ j l. refl; counts = λ j l h. refl; high = λ j l. refl }; cuts = k }

pub eased-trans : {known : Bool} {b : List Binding} {s t u : List ℕ} → Eased known b s t → Eased known b t u → Eased known b s u
eased-trans e f =
    record {
      beside = record {
        long = f.beside.long ∙ e.beside.long;
        low = λ j l. f.beside.low j l ∙ e.beside.low j l;
        counts = λ j l h. f.beside.counts j l h ∙ e.beside.counts j l h;
        high = λ j l. f.beside.high j l ∙ e.beside.high j l;
      };
      cuts = f.cuts;
    }

pub eased-roomy : {known : Bool} {b : List Binding} {s t : List ℕ} → Eased known b s t → Roomy s → Roomy t
eased-roomy {known} {b} {s} {t} e r = let l : rows ≤ length s = r in let z : length t ≡ length s = e.beside.long in omega arith

-- ---- a next term, or none

pub none-is : (r : Option At) → is_some r ≡ false → r ≡ None
none-is None e = refl
none-is (Some a) e = absurd (cc)

pub some-is : (r : Option At) → is_some r ≡ true → r ≡ None → ⊥
some-is None e z = absurd (cc)
some-is (Some a) e z = absurd (cc)

-- ---- where a word leads

pub leads-trans : {known : Bool} {ss : List Symbol} {nodes state : List ℕ} {n p c q d q1 d1 : ℕ} → MeansSame known ss nodes state n p c q d → MeansSame known ss nodes state n q d q1 d1 → MeansSame known ss nodes state n p c q1 d1
leads-trans k m = record { node = m.node; copy = m.copy; means = λ f. m.means f ∙ k.means f; within = λ j w l. m.within j w (k.within j w l) }

-- The word w leads on from the term at p in copy c, to an earlier cell or to a name; where it is 0, nothing does.
record NextWord (known : Bool) (ss : List Symbol) (nodes state : List ℕ) (n p c w : ℕ) : Type 0 where
  stops : w ≡ 0 → get_or nodes p 0 < first_name → cell_at state (cell_of c (get_or nodes p 0)) ≡ 0
  variable : (w ≡ 0 → ⊥) → get_or nodes p 0 < first_name
  leads : (w ≡ 0 → ⊥) → MeansSame known ss nodes state n p c (node_of w) (copy_of w)
  down : (w ≡ 0 → ⊥) → get_or nodes (node_of w) 0 < first_name → cell_of (copy_of w) (get_or nodes (node_of w) 0) < cell_of c (get_or nodes p 0)

next-held : {known : Bool} {ss : List Symbol} {nodes state : List ℕ} {n p c w : ℕ} → NextWord known ss nodes state n p c w → (r : Option At) → CellTerm w r → Next known ss nodes state n p c r
next-held k None h = record { stops = λ e. k.stops h; on = λ a e. absurd (cc) }
next-held {known} {ss} {nodes} {state} {n} {p} {c} {w} k (Some x) h =
    record {
      stops = λ e. absurd (cc);
      on = λ a e. subst⁻¹ (NextOfChain known ss nodes state n p c) (let i : a ≡ at_of w = cc (h.1) in i) (record { variable = k.variable h.0; leads = k.leads h.0; down = k.down h.0 });
    }

module _ (nodes front : List ℕ) (p c : ℕ) (g : Fronted nodes front p c) where
  abbrev ss : List Symbol
  ss = g.given.ss

  abbrev b : List Binding
  b = bindings g.given.ss nodes g.state g.given.n

  pub inside : p < length nodes
  inside = let a : p + loaded_node ≤ length nodes = node-inside g.given.ss nodes p g.given.node in omega arith

  pub leads-here : MeansSame g.given.known g.given.ss nodes g.state g.given.n p c p c
  leads-here = record { node = g.given.node; copy = g.given.copy; means = λ f. refl; within = λ k w l. l }

  -- another term of the store
  abbrev pub front_at : {q d : ℕ} → MeansSame g.given.known g.given.ss nodes g.state g.given.n p c q d → Fronted nodes front q d
  front_at k = record { state = g.state; given = record { ss = g.given.ss; n = g.given.n; store = g.given.store; known = g.given.known; acyclic = g.given.acyclic; node = k.node; copy = k.copy }; long = g.long; same = g.same }

  module _ {v : ℕ} (ev : v ≡ get_or nodes p 0) where
    pub next-name : first_name ≤ v → Next g.given.known g.given.ss nodes g.state g.given.n p c None
    next-name l = record { stops = λ e h. absurd (let z : get_or nodes p 0 < first_name = h in omega (arith, ev, l)); on = λ a e. absurd (cc) }

    module _ (l : v < first_name) {x : ℕ} (ex : x ≡ cell_of c v) where
      low-here : get_or nodes p 0 < first_name
      low-here = subst (λ (k : ℕ). k < first_name) ev l

      cell-here : x ≡ cell_of c (get_or nodes p 0)
      cell-here = ex ∙ ap (cell_of c) ev

      pub next-cell : x < cells
      next-cell = let a : cell_of c v < cells = cell-small c v g.given.copy l in omega (arith, ex)

      pub next-front : x < length front
      next-front = let a : cells ≤ length front = g.long in let k : x < cells = next-cell in omega arith

      -- the term is the variable of cell x
      term_is : cell_means b x ≡ resolve b (term_at ss nodes p c)
      term_is = ap (cell_means b) cell-here ∙ ap (resolve b) (ap var (variable-cell c (get_or nodes p 0) low-here) ∙ sym (variable-at ss nodes p g.given.node c low-here))

      module _ {y w : ℕ} (same : T g.given.known → cell_means b x ≡ cell_means b y) (le : y ≤ x) (ef : w ≡ get_or front y 0) (some : w ≡ 0 → ⊥) where
        small-y : y < cells
        small-y = let k : x < cells = next-cell in omega (arith, le)

        ew : w ≡ cell_at g.state y
        ew = ef ∙ g.same y small-y

        cell : BoundCell ss nodes g.state g.given.n y
        cell = bound-cell-is ss nodes g.state g.given.n y g.given.store small-y (λ h. some (ew ∙ h))

        via-leads : MeansSame g.given.known ss nodes g.state g.given.n p c (node_of w) (copy_of w)
        via-leads =
            subst⁻¹ (λ (u : ℕ). MeansSame g.given.known ss nodes g.state g.given.n p c (node_of u) (copy_of u)) ew
            (record { node = cell.node; copy = copy-small (cell_at g.state y); means = λ f. cell.means (g.given.acyclic f) ∙ (sym (same f) ∙ term_is); within = λ j h q. cell.within j h })

        via-down : get_or nodes (node_of w) 0 < first_name → cell_of (copy_of w) (get_or nodes (node_of w) 0) < cell_of c (get_or nodes p 0)
        via-down =
            subst⁻¹ (λ (u : ℕ). get_or nodes (node_of u) 0 < first_name → cell_of (copy_of u) (get_or nodes (node_of u) 0) < cell_of c (get_or nodes p 0)) ew
            (λ q. let a : cell_of (copy_of (cell_at g.state y)) (get_or nodes (node_of (cell_at g.state y)) 0) < y = cell.down q in let e : x ≡ cell_of c (get_or nodes p 0) = cell-here in omega (arith, le))

      next-plain-word : {w : ℕ} → w ≡ get_or front x 0 → NextWord g.given.known g.given.ss nodes g.state g.given.n p c w
      next-plain-word {w} ew = record { stops = λ e h. sym (ap (cell_at g.state) cell-here) ∙ (sym (g.same x next-cell) ∙ (sym ew ∙ e)); variable = λ z. low-here; leads = λ z. via-leads (λ f. refl) (omega arith) ew z; down = λ z. via-down (λ f. refl) (omega arith) ew z }

      pub next-plain : {w : ℕ} → w ≡ get_or front x 0 → (r : Option At) → CellTerm w r → Next g.given.known g.given.ss nodes g.state g.given.n p c r
      next-plain e r h = next-held (next-plain-word e) r h

      pub next-cut : {scratch : List ℕ} {y w : ℕ} → (T g.given.known → Cuts b scratch) → Cut scratch x y → y < x → w ≡ get_or front y 0 → (w ≡ 0 → ⊥) → (r : Option At) → CellTerm w r → Next g.given.known g.given.ss nodes g.state g.given.n p c r
      next-cut {scratch} {y} {w} t k le ef some r h =
          let same : T g.given.known → cell_means b x ≡ cell_means b y = (λ f. k.is b (t f)) in
          next-held (record { stops = λ e. absurd (some e); variable = λ z. low-here; leads = λ z. via-leads same (omega (arith, le)) ef z; down = λ z. via-down same (omega (arith, le)) ef z }) r h

      -- by the cut where the cell that it leads to is bound, else by the variable's own cell
      pub next-or : {scratch : List ℕ} {y u w : ℕ} → (T g.given.known → Cuts b scratch) → Cut scratch x y → y < x → u ≡ get_or front y 0 → w ≡ get_or front x 0 → (r s : Option At) → CellTerm u r → CellTerm w s → Next g.given.known g.given.ss nodes g.state g.given.n p c (option_or r s)
      next-or t k le eu _ (Some a) s h j = next-cut t k le eu h.0 (Some a) h
      next-or t k le eu ew None s h j = next-plain ew s j

  -- the term that the variable itself is bound to
  pub next-bound : (r : Option At) → CellTerm (bound_at nodes front p c) r → Next g.given.known g.given.ss nodes g.state g.given.n p c r
  next-bound r e = go (ltb (get_or nodes p 0) first_name) refl
    where
      nothing : first_name ≤ get_or nodes p 0 → (o : Option At) → CellTerm (bound_at nodes front p c) o → Next g.given.known g.given.ss nodes g.state g.given.n p c o
      nothing l None h = next-name refl l
      nothing l (Some a) h = absurd (h.0 (bound-name nodes front p c l))

      go : (t : Bool) → ltb (get_or nodes p 0) first_name ≡ t → Next g.given.known g.given.ss nodes g.state g.given.n p c r
      go true t = let l : get_or nodes p 0 < first_name = ltb-true (get_or nodes p 0) first_name t in next-plain refl l refl (bound-variable nodes front p c l) r e
      go false t = nothing (ltb-false (get_or nodes p 0) first_name t) r e

  -- what `bound_at` asks
  pub bound-asks : (p < length nodes) × ((cells ≤ length front) × (c < copies))
  bound-asks = (inside, (g.long, g.given.copy))

-- ---- the first links

-- where something leads on, it is from a variable
on-variable : {known : Bool} {ss : List Symbol} {nodes state : List ℕ} {n p c : ℕ} (r : Option At) → Next known ss nodes state n p c r → (r ≡ None → ⊥) → get_or nodes p 0 < first_name
on-variable None k z = absurd (z refl)
on-variable (Some a) k z = (k.on a refl).variable

module _ (nodes front : List ℕ) (p c : ℕ) (g : Fronted nodes front p c) where
  -- a next term, or none
  pub lead-here : (r : Option At) → CellTerm (bound_at nodes front p c) r → Staged g.given.known g.given.ss nodes g.state g.given.n p c (record { at = record { node = p; copy = c }; next = r })
  lead-here r e = record { leads = leads-here nodes front p c g; stops = (next-bound nodes front p c g r e).stops }

  module _ {a : At} (e : CellTerm (bound_at nodes front p c) (Some a)) where
    pub lead-leads : MeansSame g.given.known g.given.ss nodes g.state g.given.n p c a.node a.copy
    lead-leads = ((next-bound nodes front p c g (Some a) e).on a refl).leads

    abbrev pub lead-on : Fronted nodes front a.node a.copy
    lead-on = front_at nodes front p c g lead-leads

    pub lead-further : {r : Stage} → ((h : Fronted nodes front a.node a.copy) → Staged h.given.known h.given.ss nodes h.state h.given.n a.node a.copy r) → Staged g.given.known g.given.ss nodes g.state g.given.n p c r
    lead-further m =
        let s : Staged g.given.known g.given.ss nodes g.state g.given.n a.node a.copy _ = m lead-on in
        record { leads = leads-trans lead-leads s.leads; stops = s.stops }

-- ---- along a chain

module _ (nodes front scratch : List ℕ) (p c : ℕ) (g : Followable nodes front scratch p c) where
  -- another term that it leads to
  abbrev pub follow-at : {q d : ℕ} → MeansSame g.from.given.known g.from.given.ss nodes g.from.state g.from.given.n p c q d → Followable nodes front scratch q d
  follow-at k = record { from = front_at nodes front p c g.from k; roomy = g.roomy; cuts = g.cuts }

-- a variable of a table
pub variable-here : {ss : List Symbol} {nodes : List ℕ} {a : At} → Node ss nodes a.node → a.copy < copies → get_or nodes a.node 0 < first_name → VariableAt nodes a
variable-here {ss} {nodes} {a} k c l = record { inside = (let e : a.node + loaded_node ≤ length nodes = node-inside ss nodes a.node k in omega arith); variable = l; copy = c }

-- a link goes down
pub next-falls : {known : Bool} {ss : List Symbol} {nodes state : List ℕ} {n p c : ℕ} {a : At} → NextOfChain known ss nodes state n p c a → depth nodes a.node a.copy < depth nodes p c
next-falls {known} {ss} {nodes} {state} {n} {p} {c} {a} k = go (ltb (get_or nodes a.node 0) first_name) refl
  where
    from : depth nodes p c ≡ suc (cell_of c (get_or nodes p 0))
    from = depth-variable nodes p c k.variable

    go : (t : Bool) → ltb (get_or nodes a.node 0) first_name ≡ t → depth nodes a.node a.copy < depth nodes p c
    go true t =
        let l : get_or nodes a.node 0 < first_name = ltb-true (get_or nodes a.node 0) first_name t in
        let d : cell_of a.copy (get_or nodes a.node 0) < cell_of c (get_or nodes p 0) = k.down l in
        let e : depth nodes a.node a.copy ≡ suc (cell_of a.copy (get_or nodes a.node 0)) = depth-variable nodes a.node a.copy l in
        let f : depth nodes p c ≡ suc (cell_of c (get_or nodes p 0)) = from in
        omega arith
    go false t =
        let e : depth nodes a.node a.copy ≡ 0 = depth-name nodes a.node a.copy (ltb-false (get_or nodes a.node 0) first_name t) in
        let f : depth nodes p c ≡ suc (cell_of c (get_or nodes p 0)) = from in
        omega arith

-- a walk that has come to a term, by way of a last variable
pub record OnWay (known : Bool) (ss : List Symbol) (nodes state : List ℕ) (n : ℕ) (p last at : At) : Type 0 where
  pub leads : MeansSame known ss nodes state n p.node p.copy last.node last.copy
  pub variable : get_or nodes last.node 0 < first_name
  pub here : MeansSame known ss nodes state n p.node p.copy at.node at.copy

module _ {nodes front scratch : List ℕ} {p next : At} (g : Linked nodes front scratch p next) where
  abbrev pub WayTo : At → At → Type 0
  WayTo last at = OnWay g.start.from.given.known g.start.from.given.ss nodes g.start.from.state g.start.from.given.n p last at

  pub way-begin : WayTo p next
  way-begin = record { leads = leads-here nodes front p.node p.copy g.start.from; variable = g.next.variable; here = g.next.leads }

  module _ {last at : At} (w : WayTo last at) where
    abbrev pub way-follow : Followable nodes front scratch at.node at.copy
    way-follow = follow-at nodes front scratch p.node p.copy g.start w.here

    module _ {r : Option At} (m : (h : Followable nodes front scratch at.node at.copy) → Next h.from.given.known h.from.given.ss nodes h.from.state h.from.given.n at.node at.copy r) where
      pub way-end : r ≡ None → ChainEnd g.start.from.given.known g.start.from.given.ss nodes g.start.from.state g.start.from.given.n p (record { last = last; end = at })
      way-end e = record { derefs = record { leads = w.here; stops = (m way-follow).stops e }; leads = w.leads; variable = w.variable }

      module _ {a : At} (e : r ≡ Some a) where
        way-link : NextOfChain g.start.from.given.known g.start.from.given.ss nodes g.start.from.state g.start.from.given.n at.node at.copy a
        way-link = (m way-follow).on a e

        pub way-next : WayTo at a
        way-next = record { leads = w.here; variable = way-link.variable; here = leads-trans w.here way-link.leads }

        pub way-falls : depth nodes a.node a.copy < depth nodes at.node at.copy
        way-falls = next-falls way-link

-- ---- a walk

pub record Walking (known : Bool) (ss : List Symbol) (nodes state : List ℕ) (n : ℕ) (before after : List ℕ) (p c q d : ℕ) : Type 0 where
  pub leads : MeansSame known ss nodes state n p c q d
  pub eased : Eased known (bindings ss nodes state n) before after

module _ {nodes front before : List ℕ} {p last : At} (g : Shortenable nodes front before p last) where
  abbrev sf : Fronted nodes front p.node p.copy
  sf = g.start.from

  abbrev sb : List Binding
  sb = bindings g.start.from.given.ss nodes g.start.from.state g.start.from.given.n

  abbrev pub WalkTo : List ℕ → At → Type 0
  WalkTo after at = Walking g.start.from.given.known g.start.from.given.ss nodes g.start.from.state g.start.from.given.n before after p.node p.copy at.node at.copy

  pub last-variable : VariableAt nodes last
  last-variable = variable-here g.leads.node g.leads.copy g.variable

  pub walk-begin : WalkTo before p
  walk-begin = record { leads = leads-here nodes front p.node p.copy g.start.from; eased = eased-refl sb before g.start.cuts }

  -- a variable of the store is that of its cell
  variable-is : {a : At} → MeansSame g.start.from.given.known g.start.from.given.ss nodes g.start.from.state g.start.from.given.n p.node p.copy a.node a.copy → get_or nodes a.node 0 < first_name
      → cell_means sb (cell_at_place nodes a) ≡ resolve sb (term_at g.start.from.given.ss nodes a.node a.copy)
  variable-is {a} k l = term_is nodes front a.node a.copy (front_at nodes front p.node p.copy g.start.from k) refl l refl

  module _ {after : List ℕ} {at : At} (w : WalkTo after at) where
    abbrev pub walk-follow : Followable nodes front after at.node at.copy
    walk-follow = record { from = front_at nodes front p.node p.copy g.start.from w.leads; roomy = eased-roomy w.eased g.start.roomy; cuts = w.eased.cuts }

    module _ {r : Option At} (m : (h : Followable nodes front after at.node at.copy) → Next h.from.given.known h.from.given.ss nodes h.from.state h.from.given.n at.node at.copy r) {a : At} (e : r ≡ Some a) where
      walk-link : NextOfChain g.start.from.given.known g.start.from.given.ss nodes g.start.from.state g.start.from.given.n at.node at.copy a
      walk-link = (m walk-follow).on a e

      pub walk-variable : VariableAt nodes at
      walk-variable = variable-here w.leads.node w.leads.copy walk-link.variable

      pub walk-falls : depth nodes a.node a.copy < depth nodes at.node at.copy
      walk-falls = next-falls walk-link

      pub walk-next : {later : List ℕ} {x y : ℕ} → x ≡ cell_at_place nodes at → y ≡ cell_at_place nodes last → Cutting after later x y → WalkTo later a
      walk-next ex ey k =
          record {
            leads = leads-trans w.leads walk-link.leads;
            eased = eased-trans w.eased
                (record {
                  beside = k.beside;
                  cuts = λ f. k.cuts sb (ap (cell_means sb) ex ∙ (variable-is w.leads walk-link.variable ∙ (w.leads.means f ∙ (sym (g.leads.means f) ∙ (sym (variable-is g.leads g.variable) ∙ sym (ap (cell_means sb) ey)))))) (w.eased.cuts f);
                });
          }

module _ {nodes front before : List ℕ} {p : At} (g : Followable nodes front before p.node p.copy) where
  pub stays : (r : Option At) → r ≡ None → ((h : Followable nodes front before p.node p.copy) → Next h.from.given.known h.from.given.ss nodes h.from.state h.from.given.n p.node p.copy r) → Followed g before p
  stays r e m = record { derefs = record { leads = leads-here nodes front p.node p.copy g.from; stops = (m g).stops e }; eased = eased-refl (bindings g.from.given.ss nodes g.from.state g.from.given.n) before g.cuts }

  module _ {r : Option At} (m : (h : Followable nodes front before p.node p.copy) → Next h.from.given.known h.from.given.ss nodes h.from.state h.from.given.n p.node p.copy r) {next : At} (e : r ≡ Some next) where
    abbrev pub linked : Linked nodes front before p next
    linked = record { start = g; next = (m g).on next e }

    module _ {w : Way} (k : (h : Linked nodes front before p next) → ChainEnd h.start.from.given.known h.start.from.given.ss nodes h.start.from.state h.start.from.given.n p w) where
      abbrev pub shortenable : Shortenable nodes front before p w.last
      shortenable = record { start = g; leads = (k linked).leads; variable = (k linked).variable }

      pub shortened : {after : List ℕ} → ((h : Shortenable nodes front before p w.last) → Eased h.start.from.given.known (bindings h.start.from.given.ss nodes h.start.from.state h.start.from.given.n) before after) → Followed g after w.end
      shortened f = record { derefs = (k linked).derefs; eased = f shortenable }

-- ---- two terms

module _ {nodes front before : List ℕ} {p q : At} (g : Both nodes front before p q) where
  abbrev pub right-from : Fronted nodes front q.node q.copy
  right-from = record { state = g.left.from.state; given = record { ss = g.left.from.given.ss; n = g.left.from.given.n; store = g.left.from.given.store; known = g.left.from.given.known; acyclic = g.left.from.given.acyclic; node = g.node; copy = g.copy }; long = g.left.from.long; same = g.left.from.same }

  module _ {after : List ℕ} {l : At} (f : (h : Followable nodes front before p.node p.copy) → Followed h after l) where
    pub first-followed : Followed g.left after l
    first-followed = f g.left

    abbrev pub far-second : Followable nodes front after q.node q.copy
    far-second = record { from = right-from; roomy = eased-roomy first-followed.eased g.left.roomy; cuts = first-followed.eased.cuts }

    pub far-done : {later : List ℕ} {r : At} → ((h : Followable nodes front after q.node q.copy) → Followed h later r) → BothFollowed g later (record { left = l; right = r })
    far-done m =
        let s = m far-second in
        record { left = first-followed.derefs; right = s.derefs; eased = eased-trans first-followed.eased s.eased }

-- the words of the cells
pub front-count : (state : List ℕ) → cells ≤ length state → cells ≡ length (take cells state)
front-count state l = sym (length-take-le cells state l)

pub front_long : (state : List ℕ) → cells ≤ length state → cells ≤ length (take cells state)
front_long state l = let e : cells ≡ length (take cells state) = front-count state l in omega arith

pub front_same : (state : List ℕ) (x : ℕ) → x < cells → get_or (take cells state) x 0 ≡ get_or state x 0
front_same state x l = get_or-take cells state x 0 l

module _ {nodes state before : List ℕ} {p q : At} (g : Both nodes state before p q) where
  abbrev pub both_right : Fronted nodes state q.node q.copy
  both_right = right-from g

  pub both-here : MeansSame g.left.from.given.known g.left.from.given.ss nodes g.left.from.state g.left.from.given.n q.node q.copy q.node q.copy
  both-here = leads-here nodes state q.node q.copy both_right

  pub both_left : MeansSame g.left.from.given.known g.left.from.given.ss nodes g.left.from.state g.left.from.given.n p.node p.copy p.node p.copy
  both_left = leads-here nodes state p.node p.copy g.left.from

  -- both further on, with the words of the cells only
  module _ {front : List ℕ} (long : cells ≤ length front) (same : (x : ℕ) → x < cells → get_or front x 0 ≡ get_or state x 0) {p1 q1 : At} (a : MeansSame g.left.from.given.known g.left.from.given.ss nodes g.left.from.state g.left.from.given.n p.node p.copy p1.node p1.copy) (a1 : MeansSame g.left.from.given.known g.left.from.given.ss nodes g.left.from.state g.left.from.given.n q.node q.copy q1.node q1.copy) where
    abbrev pub both-far : Both nodes front before p1 q1
    both-far =
        record {
          left = record {
            from = record {
              state = g.left.from.state;
              given = record { ss = g.left.from.given.ss; n = g.left.from.given.n; store = g.left.from.given.store; known = g.left.from.given.known; acyclic = g.left.from.given.acyclic; node = a.node; copy = a.copy };
              long = long;
              same = λ x l. same x l ∙ g.left.from.same x l;
            };
            roomy = g.left.roomy;
            cuts = g.left.cuts;
          };
          node = a1.node;
          copy = a1.copy;
        }

    pub both-done : {after : List ℕ} {r : Ends} → ((h : Both nodes front before p1 q1) → BothFollowed h after r) → BothFollowed g after r
    both-done m =
        let e = m both-far in
        record {
          left = record { leads = leads-trans a e.left.leads; stops = e.left.stops };
          right = record { leads = leads-trans a1 e.right.leads; stops = e.right.stops };
          eased = e.eased;
        }

  pub both-near : {l r : Stage} → Staged g.left.from.given.known g.left.from.given.ss nodes g.left.from.state g.left.from.given.n p.node p.copy l → l.next ≡ None → Staged g.left.from.given.known g.left.from.given.ss nodes g.left.from.state g.left.from.given.n q.node q.copy r → r.next ≡ None → BothFollowed g before (record { left = l.at; right = r.at })
  both-near a e a1 e1 =
      record {
        left = record { leads = a.leads; stops = a.stops e };
        right = record { leads = a1.leads; stops = a1.stops e1 };
        eased = eased-refl (bindings g.left.from.given.ss nodes g.left.from.state g.left.from.given.n) before g.left.cuts;
      }

-- ---- two variables that led to one term

pub joined-none : {nodes before : List ℕ} {p q : At} {e : Ends} → Joined nodes before before p q e
joined-none {nodes} {before} = record { beside = record { long = refl; low = λ j l. refl; counts = λ j l h. refl; high = λ j l. refl }; cuts = λ b m k. k }

module _ {nodes before : List ℕ} {p q : At} (g : Pairable nodes before p q) {w z : ℕ} (ew : w ≡ get_or nodes p.node 0) (ez : z ≡ get_or nodes q.node 0) (lw : w < first_name) (lz : z < first_name) {x y : ℕ} (ex : x ≡ cell_of p.copy w) (ey : y ≡ cell_of q.copy z) where
  pub left-cell : x < cells
  left-cell = let a : cell_of p.copy w < cells = cell-small p.copy w g.copy lw in omega (arith, ex)

  pub right-cell : y < cells
  right-cell = let a : cell_of q.copy z < cells = cell-small q.copy z g.copy_right lz in omega (arith, ey)

  left-place : x ≡ cell_at_place nodes p
  left-place = ex ∙ ap (cell_of p.copy) ew

  right-place : y ≡ cell_at_place nodes q
  right-place = ey ∙ ap (cell_of q.copy) ez

  low-left : get_or nodes p.node 0 < first_name
  low-left = subst (λ (k : ℕ). k < first_name) ew lw

  low-right : get_or nodes q.node 0 < first_name
  low-right = subst (λ (k : ℕ). k < first_name) ez lz

  module _ {e : Ends} (same : e.left ≡ e.right) {after : List ℕ} where
    pub joined-left : Cutting before after x y → Joined nodes before after p q e
    joined-left k = record { beside = k.beside; cuts = λ b m c. k.cuts b (ap (cell_means b) left-place ∙ (m same low-left low-right ∙ sym (ap (cell_means b) right-place))) c }

    pub joined-right : Cutting before after y x → Joined nodes before after p q e
    joined-right k = record { beside = k.beside; cuts = λ b m c. k.cuts b (ap (cell_means b) right-place ∙ (sym (m same low-left low-right) ∙ sym (ap (cell_means b) left-place))) c }

  pub known-same : Cut before x y → KnownSame nodes before p q
  known-same k = record { left = low-left; right = low-right; cut = subst (λ (i : ℕ). Cut before i (cell_at_place nodes q)) left-place (subst (Cut before x) right-place k) }

-- what both lead to, with the cuts that come of it
module _ {nodes state before : List ℕ} {p q : At} (g : Both nodes state before p q) {after : List ℕ} {r : Ends} (f : BothFollowed g after r) where
  pub both-pairable : Pairable nodes after p q
  both-pairable =
      record {
        inside = inside nodes state p.node p.copy g.left.from;
        inside_right = inside nodes state q.node q.copy (right-from g);
        copy = g.left.from.given.copy;
        copy_right = g.copy;
        roomy = eased-roomy f.eased g.left.roomy;
      }

  pub both-joined : {later : List ℕ} → Joined nodes after later p q r → BothFollowed g later r
  both-joined {later} k =
      record {
        left = f.left;
        right = f.right;
        eased = eased-trans f.eased
            (record {
              beside = k.beside;
              cuts = λ t. k.cuts (bindings g.left.from.given.ss nodes g.left.from.state g.left.from.given.n)
                  (λ e l h.
                  term_is nodes state p.node p.copy g.left.from refl l refl
                  ∙ (sym (f.left.leads.means t)
                  ∙ (ap (λ (a : At). resolve (bindings g.left.from.given.ss nodes g.left.from.state g.left.from.given.n) (term_at g.left.from.given.ss nodes a.node a.copy)) e
                  ∙ (f.right.leads.means t ∙ sym (term_is nodes state q.node q.copy (right-from g) refl h refl)))))
                  (f.eased.cuts t);
            });
      }
