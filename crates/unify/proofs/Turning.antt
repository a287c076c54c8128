-- Laws of a turn: the top pair's rows walked, the crossing dereferenced. Assumes nothing.
use Prim.Native.Nat.{ℕ, suc, ◌+◌, ◌-◌, ◌≤◌, ◌<◌}
use native.Mathlib.Omega.{arith}
use mathlib.Core.Path.{◌≡◌, refl, sym, ap, ap₂, ◌∙◌, subst, subst⁻¹}
use mathlib.Core.Bool.{Bool, true, false}
use mathlib.Core.List.{List, [], ◌++◌}
use lib.Dec.{ltb, eqb}
use borrow.Author.Tests.{ltb-true, ltb-false, eqb-true, eqb-false}
use mathlib.Core.Logic.{◌⊎◌, inl, inr}
use lib.ListN.{length, get_or}
use Rattle.syntax.specs.Words.{first_name}
use Rattle.machine.specs.Substitution.{RTerms, var, app, rcons, Binding, resolve}
use Rattle.run_layout.specs.Regions.{copies, cells, store_words, big_pairs, pairs, pair_of, rows, pair_size}
use Rattle.run_layout.specs.Nodes.{Node, Row, term_at, terms_at, followed, count}
use Rattle.run_layout.specs.State.{cell_of, variable_of, word_of, value_of, bindings}
use Rattle.run_layout.proofs.Nodes.{variable-at, row_first, row-rest, row_cons}
use Rattle.run_layout.proofs.State.{variable-cell, cell-small}
use Rattle.bindings.specs.Cells.{Dereferences}
use Rattle.bindings.specs.Memos.{Remembers}
use Rattle.bindings.specs.Scratch.{left_at, right_at, pair_words, SameMarks}
use Rattle.run_layout.specs.declared.terms.At.{At}
use Rattle.bindings.specs.declared.stack.Side.{Side}
use Rattle.bindings.specs.Chains.{Eased, Both, BothFollowed}
use Rattle.bindings.specs.declared.shortcuts.Ends.{Ends}
use Rattle.bindings.proofs.Remembering.{value-word, memo-kept, memo-eased, memo-remembers}
use Rattle.unify.specs.Rows.{unify_rows, nodes_of, rows_size}
use Rattle.unify.specs.Walks.{RowsBeside, Walkable, StopsAt, Walks, MetVariable}
use Rattle.unify.specs.Stacks.{end_of, whole_of, row_of, rows_of, StackSide, OpenedByCell, Stack, SameRows, no_term, WholesEqual}
use Rattle.unify.specs.Turns.{Work, UnifiedOver, bound, over, Inside, Turns, TurnGives, Crossed, PairTurned, Crossable, Crosses, Meetable, Passable, Turnable}
use Rattle.unify.specs.Walks.{RowsWalked}
use Rattle.unify.specs.declared.walk.WalkStop.{WalkStop}
use Rattle.unify.specs.declared.walk.WalkStop.TheVariants.{Clash as Differ, Met}
use Rattle.std.proofs.Common.{Ok, Err}
use Rattle.unify.specs.Turns.{Turn}
use Rattle.unify.specs.declared.solve.TurnStop.TheVariants.{Clash, Bind}
use Rattle.unify.proofs.Rules.{rows-first, rows_same, resolve-append}
use Rattle.unify.proofs.Rowwise.{size-cons, one-followed, right-some, count-one}
use Rattle.unify.proofs.Closing.{equal-cons, walk-equal, meet-equal, closes-agree, closes-terms, closes-settled, closes-less, closes-moved}
use Rattle.unify.proofs.Stacked.{pair-long, pair-others, pair-marks, pair_left, pair-right, pair-left-others, pair-right-others, left-front, right-front, rows_agree, rows-top, half-moved, stack-agrees, stack-less, height}

pub marks-trans : (a b c : List ℕ) → SameMarks a b → SameMarks b c → SameMarks a c
marks-trans a b c x y = record { long = y.long ∙ x.long; words = λ j l. y.words j l ∙ x.words j l }

-- rows that unify alike come to the same
pub turns-alike : (o : UnifiedOver) (ls rs ls' rs' : RTerms) (after : List ℕ) (t : Turn) → unify_rows (bound o) ls rs ≡ unify_rows (bound o) ls' rs' → Turns o ls' rs' after t → Turns o ls rs after t
turns-alike o ls rs ls' rs' after (Ok k) e g = record { stack = g.stack; means = e ∙ g.means; memo = g.memo; closes = g.closes }
turns-alike o ls rs ls' rs' after (Err Clash) e g = e ∙ g
turns-alike o ls rs ls' rs' after (Err (Bind k x a)) e g =
    record { stack = g.stack; cell = g.cell; unbound = g.unbound; below = g.below; node = g.node; copy = g.copy; copy_below = g.copy_below; down = g.down; stands = λ z. e ∙ g.stands z; free = λ z. e ∙ g.free z; memo = g.memo; closes = g.closes }

-- ---- two terms that are the same

module _ {nodes state scratch : List ℕ} {h : ℕ} {p q : At} (g : Crossable nodes state scratch h p q) where
  pub cross-same : resolve (bound (over g.work)) (term_at g.work.ss nodes p.node p.copy) ≡ resolve (bound (over g.work)) (term_at g.work.ss nodes q.node q.copy) → Crosses g scratch (Ok h)
  cross-same e = (
    record { long = refl; words = λ j l. refl },
    record {
      stack = g.work.stack;
      means = rows_same (bound (over g.work)) (term_at g.work.ss nodes p.node p.copy) (term_at g.work.ss nodes q.node q.copy) (rows_of g.work.ss nodes (left_at scratch) h) (rows_of g.work.ss nodes (right_at scratch) h) e;
      memo = g.work.memo;
      closes = closes-settled g.work.ss nodes (bound (over g.work)) (left_at scratch) (right_at scratch) h (term_at g.work.ss nodes p.node p.copy) (term_at g.work.ss nodes q.node q.copy) e g.closes;
    },
  )

-- ---- the crossing

module _ {nodes state scratch : List ℕ} {h : ℕ} {p q : At} (g : Crossable nodes state scratch h p q) where
  pub cross-long : cells ≤ length state
  cross-long = let l : store_words ≤ length state = g.work.store.raw.long in omega arith

  abbrev pub cross-both : Both nodes state scratch p q
  cross-both =
      record {
        left = record {
          from = record { state = state; given = record { ss = g.work.ss; n = g.n; store = g.work.store.raw; known = true; acyclic = λ f. g.work.store.acyclic; node = g.left; copy = g.copy }; long = cross-long; same = λ x l. refl };
          roomy = g.work.roomy;
          cuts = λ f. g.work.memo.cuts;
        };
        node = g.right;
        copy = g.copy_right;
      }

  module _ {p1 q1 : At} (to-left : Dereferences true g.work.ss nodes state g.n p.node p.copy p1.node p1.copy) (to-right : Dereferences true g.work.ss nodes state g.n q.node q.copy q1.node q1.copy) where
    still : (top : Side) (a a1 : At) → resolve (bound (over g.work)) (term_at g.work.ss nodes a1.node a1.copy) ≡ resolve (bound (over g.work)) (term_at g.work.ss nodes a.node a.copy) → Inside (over g.work) h top a → Inside (over g.work) h top a1
    still top a a1 e i = λ l newer.
        let b : List Binding = bound (over g.work) in
        subst⁻¹ (λ (k : ℕ). k < nodes_of (resolve (newer ++ b) (whole_of g.work.ss nodes top)))
        (ap nodes_of (resolve-append newer b (term_at g.work.ss nodes a1.node a1.copy) ∙ (ap (resolve newer) e ∙ sym (resolve-append newer b (term_at g.work.ss nodes a.node a.copy))))) (i l newer)

    crossing : (v : ℕ) → (big_pairs ≤ h → OpenedByCell (bindings g.work.ss nodes state g.n) v (term_at g.work.ss nodes p1.node p1.copy) (term_at g.work.ss nodes q1.node q1.copy)) → Crossed nodes scratch h p1 q1
    crossing v w =
        record {
          state = state;
          n = g.n;
          work = g.work;
          some = g.some;
          left = record { node = to-left.leads.node; copy = to-left.leads.copy; below = to-left.leads.within g.work.top g.work.within g.below; stops = to-left.stops };
          right = record { node = to-right.leads.node; copy = to-right.leads.copy; below = to-right.leads.within g.work.top g.work.within g.below_right; stops = to-right.stops };
          via = v;
          via_is = λ o x y. w o;
          inside = still (left_at scratch (h - 1)) p p1 (to-left.leads.means tt) g.inside;
          inside_right = still (right_at scratch (h - 1)) q q1 (to-right.leads.means tt) g.inside_right;
          closes = closes-terms g.work.ss nodes (bindings g.work.ss nodes state g.n) (left_at scratch) (right_at scratch) h (term_at g.work.ss nodes p.node p.copy) (term_at g.work.ss nodes q.node q.copy) (term_at g.work.ss nodes p1.node p1.copy) (term_at g.work.ss nodes q1.node q1.copy) (to-left.leads.means tt) (to-right.leads.means tt) g.closes;
        }

    cell-of : (i j : ℕ) → Node g.work.ss nodes i → get_or nodes i 0 < first_name → resolve (bindings g.work.ss nodes state g.n) (var (variable_of (cell_of j (get_or nodes i 0)))) ≡ resolve (bindings g.work.ss nodes state g.n) (term_at g.work.ss nodes i j)
    cell-of i j n l = ap (resolve (bindings g.work.ss nodes state g.n)) (ap var (variable-cell j (get_or nodes i 0) l) ∙ sym (variable-at g.work.ss nodes i n j l))

    pub cross-settle : Crossed nodes scratch h p1 q1
    cross-settle = crossing (via-by (ltb h big_pairs) refl).0 (via-by (ltb h big_pairs) refl).1
      where
        via-of : (get_or nodes p.node 0 < first_name) ⊎ (get_or nodes q.node 0 < first_name) → (v : ℕ) × OpenedByCell (bindings g.work.ss nodes state g.n) v (term_at g.work.ss nodes p1.node p1.copy) (term_at g.work.ss nodes q1.node q1.copy)
        via-of (inl l) =
            let s : cell_of p.copy (get_or nodes p.node 0) < cells = cell-small p.copy (get_or nodes p.node 0) g.copy l in
            (cell_of p.copy (get_or nodes p.node 0), record { small = omega arith; left_is = λ k. cell-of p.node p.copy g.left l ∙ sym (to-left.leads.means tt); right_is = λ k. absurd (let z : cells ≤ cell_of p.copy (get_or nodes p.node 0) = k in omega arith) })
        via-of (inr l) =
            let s : cell_of q.copy (get_or nodes q.node 0) < cells = cell-small q.copy (get_or nodes q.node 0) g.copy_right l in
            (cells + cell_of q.copy (get_or nodes q.node 0), record { small = omega arith; left_is = λ k. absurd (let z : cells + cell_of q.copy (get_or nodes q.node 0) < cells = k in omega arith); right_is = λ k. ap (λ (i : ℕ). resolve (bindings g.work.ss nodes state g.n) (var (variable_of i))) (let e : cells + cell_of q.copy (get_or nodes q.node 0) - cells ≡ cell_of q.copy (get_or nodes q.node 0) = omega arith in e) ∙ (cell-of q.node q.copy g.right l ∙ sym (to-right.leads.means tt)) })

        via-by : (o : Bool) → ltb h big_pairs ≡ o → (v : ℕ) × (big_pairs ≤ h → OpenedByCell (bindings g.work.ss nodes state g.n) v (term_at g.work.ss nodes p1.node p1.copy) (term_at g.work.ss nodes q1.node q1.copy))
        via-by true e = (0, λ l. absurd (let k : h < big_pairs = ltb-true h big_pairs e in omega arith))
        via-by false e = let v = via-of (g.variable (ltb-false h big_pairs e)) in (v.0, λ l. v.1)

    pub cross-end : (after : List ℕ) (t : Turn) → ((k : Crossed nodes scratch h p1 q1) → PairTurned k after t) → Crosses g after t
    unfolding cross-settle crossing
    cross-end after t s =
        let k : PairTurned cross-settle after t = s cross-settle in
        let b : List Binding = bindings g.work.ss nodes state g.n in
        let ls : RTerms = rows_of g.work.ss nodes (left_at scratch) h in
        let rs : RTerms = rows_of g.work.ss nodes (right_at scratch) h in (
          k.0,
          turns-alike (over g.work) (rcons (term_at g.work.ss nodes p.node p.copy) ls) (rcons (term_at g.work.ss nodes q.node q.copy) rs) (rcons (term_at g.work.ss nodes p1.node p1.copy) ls) (rcons (term_at g.work.ss nodes q1.node q1.copy) rs)
              after t
              (rows-first b (term_at g.work.ss nodes p.node p.copy) (term_at g.work.ss nodes q.node q.copy) (term_at g.work.ss nodes p1.node p1.copy) (term_at g.work.ss nodes q1.node q1.copy) ls rs (sym (to-left.leads.means tt)) (sym (to-right.leads.means tt))) k.1,
        )

-- ---- only short cuts change

module _ {nodes state scratch : List ℕ} {h : ℕ} {p q : At} (g : Crossable nodes state scratch h p q) {after : List ℕ} (e : Eased true (bindings g.work.ss nodes state g.n) scratch after) where
  tall : h ≤ pairs
  tall = height g.work.ss nodes (bindings g.work.ss nodes state g.n) g.work.top (left_at scratch) (right_at scratch) h g.work.stack

  left-still : (i : ℕ) → i < h → left_at after i ≡ left_at scratch i
  left-still i o = left-front scratch after e.beside.low i (let z : h ≤ pairs = tall in omega arith)

  right-still : (i : ℕ) → i < h → right_at after i ≡ right_at scratch i
  right-still i o = right-front scratch after e.beside.low i (let z : h ≤ pairs = tall in omega arith)

  abbrev eased-crossable : Crossable nodes state after h p q
  eased-crossable =
      record {
        n = g.n;
        work = record {
          ss = g.work.ss;
          top = g.work.top;
          store = g.work.store;
          within = g.work.within;
          roomy = (let z : length after ≡ length scratch = e.beside.long in let o : rows ≤ length scratch = g.work.roomy in omega arith);
          stack = stack-agrees g.work.ss nodes (bindings g.work.ss nodes state g.n) g.work.top (left_at scratch) (right_at scratch) (left_at after) (right_at after) h left-still right-still g.work.stack;
          memo = memo-eased g.work.ss nodes (bindings g.work.ss nodes state g.n) scratch g.work.memo after e;
        };
        some = g.some;
        left = g.left;
        right = g.right;
        copy = g.copy;
        copy_right = g.copy_right;
        below = g.below;
        below_right = g.below_right;
        variable = g.variable;
        inside = subst⁻¹ (λ (s : Side). Inside (over g.work) h s p) (left-still (h - 1) (omega (arith, g.some))) g.inside;
        inside_right = subst⁻¹ (λ (s : Side). Inside (over g.work) h s q) (right-still (h - 1) (omega (arith, g.some))) g.inside_right;
        closes = closes-agree g.work.ss nodes (bindings g.work.ss nodes state g.n) (left_at scratch) (right_at scratch) (left_at after) (right_at after) h (term_at g.work.ss nodes p.node p.copy) (term_at g.work.ss nodes q.node q.copy) left-still right-still g.closes;
      }

  eased-crosses : (later : List ℕ) (t : Turn) → Crosses eased-crossable later t → Crosses g later t
  eased-crosses later t k = (
    marks-trans scratch after later (record { long = e.beside.long; words = λ j l. e.beside.low j (omega arith) }) k.0,
    subst (λ (rs : RTerms). Turns (over g.work) (rcons (term_at g.work.ss nodes p.node p.copy) (rows_of g.work.ss nodes (left_at scratch) h)) (rcons (term_at g.work.ss nodes q.node q.copy) rs) later t) (rows_agree g.work.ss nodes (right_at scratch) (right_at after) h right-still)
        (subst (λ (ls : RTerms). Turns (over g.work) (rcons (term_at g.work.ss nodes p.node p.copy) ls) (rcons (term_at g.work.ss nodes q.node q.copy) (rows_of g.work.ss nodes (right_at after) h)) later t) (rows_agree g.work.ss nodes (left_at scratch) (left_at after) h left-still) k.1),
  )

module _ {nodes state scratch : List ℕ} {h : ℕ} {p q : At} (g : Crossable nodes state scratch h p q) {mid : List ℕ} {r : Ends} (f : (k : Both nodes state scratch p q) → BothFollowed k mid r) where
  ended : BothFollowed (cross-both g) mid r
  ended = f (cross-both g)

  abbrev once : Crossable nodes state mid h p q
  once = eased-crossable g ended.eased

  pub cross-settled : Crossed nodes mid h r.left r.right
  cross-settled = cross-settle once ended.left ended.right

  pub cross-done : (after : List ℕ) (t : Turn) → ((k : Crossed nodes mid h r.left r.right) → PairTurned k after t) → Crosses g after t
  cross-done after t s = eased-crosses g ended.eased after t (cross-end once ended.left ended.right after t s)

-- ---- the top pair moved past the crossing

module _ {nodes state scratch : List ℕ} {n h p q : ℕ} (w : Work nodes state scratch n h) (some : 1 ≤ h)
    (m : StopsAt w.ss nodes (left_at scratch (h - 1)).at (end_of nodes (left_at scratch (h - 1))) (right_at scratch (h - 1)).at (end_of nodes (right_at scratch (h - 1))) p q)
    (variable : big_pairs ≤ h → (get_or nodes p 0 < first_name) ⊎ (get_or nodes q 0 < first_name)) (cl : WholesEqual w.ss nodes (bindings w.ss nodes state n) (left_at scratch) (right_at scratch) h no_term no_term) where
  abbrev pub b : List Binding
  b = bindings w.ss nodes state n

  abbrev pub l0 : Side
  l0 = left_at scratch (h - 1)

  abbrev pub r0 : Side
  r0 = right_at scratch (h - 1)

  abbrev pub pa : ℕ
  pa = p + get_or nodes (p + 1) 0

  abbrev pub qa : ℕ
  qa = q + get_or nodes (q + 1) 0

  -- the two terms that are met
  abbrev pub p0 : At
  p0 = record { node = p; copy = l0.copy }

  abbrev pub q0 : At
  q0 = record { node = q; copy = r0.copy }

  abbrev pub mid : List ℕ
  mid = pair_words scratch (h - 1) (record l0 { at = pa }) (record r0 { at = qa })

  high : h ≤ pairs
  high = height w.ss nodes b w.top (left_at scratch) (right_at scratch) h w.stack

  fits : pair_of (h - 1) + pair_size ≤ length scratch
  fits = let k : h ≤ pairs = high in let o : rows ≤ length scratch = w.roomy in omega arith

  under : (h - 1) < h
  under = omega arith

  right-more : q < end_of nodes r0
  right-more = right-some nodes p (end_of nodes l0) q (record { ss = w.ss; f = end_of nodes r0; beside = m.beside }) m.some

  left-node : Node w.ss nodes p
  left-node = row_first w.ss nodes p (end_of nodes l0) m.beside.left m.some

  right-node : Node w.ss nodes q
  right-node = row_first w.ss nodes q (end_of nodes r0) m.beside.right right-more

  left-cons : (c : ℕ) → terms_at w.ss nodes p (end_of nodes l0) c ≡ rcons (term_at w.ss nodes p c) (terms_at w.ss nodes pa (end_of nodes l0) c)
  left-cons c = row_cons w.ss nodes p (end_of nodes l0) m.beside.left c m.some

  right-cons : (d : ℕ) → terms_at w.ss nodes q (end_of nodes r0) d ≡ rcons (term_at w.ss nodes q d) (terms_at w.ss nodes qa (end_of nodes r0) d)
  right-cons d = row_cons w.ss nodes q (end_of nodes r0) m.beside.right d right-more

  left-size : (x : List Binding) (c : ℕ) → rows_size x (terms_at w.ss nodes p (end_of nodes l0) c) ≡ nodes_of (resolve x (term_at w.ss nodes p c)) + rows_size x (terms_at w.ss nodes pa (end_of nodes l0) c)
  left-size x c = ap (rows_size x) (left-cons c) ∙ size-cons x (term_at w.ss nodes p c) (terms_at w.ss nodes pa (end_of nodes l0) c)

  right-size : (x : List Binding) (d : ℕ) → rows_size x (terms_at w.ss nodes q (end_of nodes r0) d) ≡ nodes_of (resolve x (term_at w.ss nodes q d)) + rows_size x (terms_at w.ss nodes qa (end_of nodes r0) d)
  right-size x d = ap (rows_size x) (right-cons d) ∙ size-cons x (term_at w.ss nodes q d) (terms_at w.ss nodes qa (end_of nodes r0) d)

  left_below : (k : ℕ) → k < h - 1 → left_at mid k ≡ left_at scratch k
  left_below k o = pair-left-others scratch (h - 1) (record l0 { at = pa }) (record r0 { at = qa }) fits k (λ e. omega arith)

  right-below : (k : ℕ) → k < h - 1 → right_at mid k ≡ right_at scratch k
  right-below k o = pair-right-others scratch (h - 1) (record l0 { at = pa }) (record r0 { at = qa }) fits k (λ e. omega arith)

  left-top : left_at mid (h - 1) ≡ record l0 { at = pa }
  left-top = pair_left scratch (h - 1) (record l0 { at = pa }) (record r0 { at = qa }) fits

  right-top : right_at mid (h - 1) ≡ record r0 { at = qa }
  right-top = pair-right scratch (h - 1) (record l0 { at = pa }) (record r0 { at = qa }) fits

  back : suc (h - 1) ≡ h
  back = omega arith

  moved-left : StackSide w.ss nodes b w.top (left_at mid) h
  moved-left = subst (StackSide w.ss nodes b w.top (left_at mid)) back
      (half-moved w.ss nodes b w.top (left_at scratch) (left_at mid) (h - 1) pa left_below left-top (row-rest w.ss nodes p (end_of nodes l0) m.beside.left m.some)
      (λ x. (let y : rows_size x (terms_at w.ss nodes p (end_of nodes l0) l0.copy) ≤ rows_size x (row_of w.ss nodes l0) = m.less x l0.copy in let z : rows_size x (terms_at w.ss nodes p (end_of nodes l0) l0.copy) ≡ nodes_of (resolve x (term_at w.ss nodes p l0.copy)) + rows_size x (terms_at w.ss nodes pa (end_of nodes l0) l0.copy) = left-size x l0.copy in omega arith))
      (subst⁻¹ (StackSide w.ss nodes b w.top (left_at scratch)) back w.stack.left))

  moved-right : StackSide w.ss nodes b w.top (right_at mid) h
  moved-right = subst (StackSide w.ss nodes b w.top (right_at mid)) back
      (half-moved w.ss nodes b w.top (right_at scratch) (right_at mid) (h - 1) qa right-below right-top (row-rest w.ss nodes q (end_of nodes r0) m.beside.right right-more)
      (λ x. (let y : rows_size x (terms_at w.ss nodes q (end_of nodes r0) r0.copy) ≤ rows_size x (row_of w.ss nodes r0) = m.less_right x r0.copy in let z : rows_size x (terms_at w.ss nodes q (end_of nodes r0) r0.copy) ≡ nodes_of (resolve x (term_at w.ss nodes q r0.copy)) + rows_size x (terms_at w.ss nodes qa (end_of nodes r0) r0.copy) = right-size x r0.copy in omega arith))
      (subst⁻¹ (StackSide w.ss nodes b w.top (right_at scratch)) back w.stack.right))

  rest-same : (i j : ℕ) → count (terms_at w.ss nodes pa (end_of nodes l0) i) ≡ count (terms_at w.ss nodes qa (end_of nodes r0) j)
  rest-same i j =
      let x : count (terms_at w.ss nodes p (end_of nodes l0) i) ≡ suc (count (terms_at w.ss nodes pa (end_of nodes l0) i)) = ap count (left-cons i) ∙ count-one (term_at w.ss nodes p i) (terms_at w.ss nodes pa (end_of nodes l0) i) in
      let y : count (terms_at w.ss nodes q (end_of nodes r0) j) ≡ suc (count (terms_at w.ss nodes qa (end_of nodes r0) j)) = ap count (right-cons j) ∙ count-one (term_at w.ss nodes q j) (terms_at w.ss nodes qa (end_of nodes r0) j) in
      let z : count (terms_at w.ss nodes p (end_of nodes l0) i) ≡ count (terms_at w.ss nodes q (end_of nodes r0) j) = m.beside.same i j in
      omega arith

  moved : Stack w.ss nodes b w.top (left_at mid) (right_at mid) h
  moved =
      record {
        left = moved-left;
        right = moved-right;
        same = λ k o i j. same_at k o i j (eqb k (h - 1)) refl;
        via = w.stack.via;
        vias = λ k o i. via-at k o i (eqb k (h - 1)) refl;
      }
    where
      same_at : (k : ℕ) → k < h → (i j : ℕ) → (z : Bool) → eqb k (h - 1) ≡ z → count (terms_at w.ss nodes (left_at mid k).at (end_of nodes (left_at mid k)) i) ≡ count (terms_at w.ss nodes (right_at mid k).at (end_of nodes (right_at mid k)) j)
      same_at k o i j true z =
          ap (λ (s : Side). count (terms_at w.ss nodes s.at (end_of nodes s) i)) (ap (left_at mid) (eqb-true k (h - 1) z) ∙ left-top)
          ∙ (rest-same i j ∙ sym (ap (λ (s : Side). count (terms_at w.ss nodes s.at (end_of nodes s) j)) (ap (right_at mid) (eqb-true k (h - 1) z) ∙ right-top)))
      same_at k o i j false z =
          let u : k < h - 1 = (let v : k ≡ h - 1 → ⊥ = eqb-false k (h - 1) z in omega (arith, v)) in
          ap (λ (s : Side). count (terms_at w.ss nodes s.at (end_of nodes s) i)) (left_below k u)
          ∙ (w.stack.same k o i j ∙ sym (ap (λ (s : Side). count (terms_at w.ss nodes s.at (end_of nodes s) j)) (right-below k u)))

      via-at : (k : ℕ) → big_pairs ≤ k → k < h → (z : Bool) → eqb k (h - 1) ≡ z → OpenedByCell b (w.stack.via k) (whole_of w.ss nodes (left_at mid k)) (whole_of w.ss nodes (right_at mid k))
      via-at k o i true z =
          let e : k ≡ h - 1 = eqb-true k (h - 1) z in
          subst⁻¹ (λ (j : ℕ). OpenedByCell b (w.stack.via j) (whole_of w.ss nodes (left_at mid j)) (whole_of w.ss nodes (right_at mid j))) e
          (subst⁻¹ (λ (s : Side). OpenedByCell b (w.stack.via (h - 1)) (whole_of w.ss nodes s) (whole_of w.ss nodes (right_at mid (h - 1)))) left-top
          (subst⁻¹ (λ (s : Side). OpenedByCell b (w.stack.via (h - 1)) (whole_of w.ss nodes l0) (whole_of w.ss nodes s)) right-top (w.stack.vias (h - 1) (omega arith) under)))
      via-at k o i false z =
          let u : k < h - 1 = (let v : k ≡ h - 1 → ⊥ = eqb-false k (h - 1) z in omega (arith, v)) in
          subst⁻¹ (λ (s : Side). OpenedByCell b (w.stack.via k) (whole_of w.ss nodes s) (whole_of w.ss nodes (right_at mid k))) (left_below k u)
          (subst⁻¹ (λ (s : Side). OpenedByCell b (w.stack.via k) (whole_of w.ss nodes (left_at scratch k)) (whole_of w.ss nodes s)) (right-below k u) (w.stack.vias k o i))

  -- the crossing's two terms and the rows behind them, equal: so are the rows
  behind : (newer : List Binding) → resolve (newer ++ b) (term_at w.ss nodes p l0.copy) ≡ resolve (newer ++ b) (term_at w.ss nodes q r0.copy) → SameRows w.ss nodes (newer ++ b) (left_at mid (h - 1)) (right_at mid (h - 1)) → SameRows w.ss nodes (newer ++ b) l0 r0
  behind newer e rows =
      meet-equal w.ss nodes l0.at (end_of nodes l0) r0.at (end_of nodes r0) p q m (newer ++ b) l0.copy r0.copy
      (ap (λ (ts : RTerms). resolve (newer ++ b) (app [] ts)) (left-cons l0.copy)
      ∙ (equal-cons (newer ++ b) (terms_at w.ss nodes pa (end_of nodes l0) l0.copy) (terms_at w.ss nodes qa (end_of nodes r0) r0.copy)
      (sym (ap (λ (s : Side). resolve (newer ++ b) (app [] (row_of w.ss nodes s))) left-top) ∙ (rows ∙ ap (λ (s : Side). resolve (newer ++ b) (app [] (row_of w.ss nodes s))) right-top))
      (term_at w.ss nodes p l0.copy) (term_at w.ss nodes q r0.copy) e
      ∙ sym (ap (λ (ts : RTerms). resolve (newer ++ b) (app [] ts)) (right-cons r0.copy))))

  moved-closes : WholesEqual w.ss nodes b (left_at mid) (right_at mid) h (term_at w.ss nodes p l0.copy) (term_at w.ss nodes q r0.copy)
  moved-closes =
      subst (λ (i : ℕ). WholesEqual w.ss nodes b (left_at mid) (right_at mid) i (term_at w.ss nodes p l0.copy) (term_at w.ss nodes q r0.copy)) back
      (closes-moved w.ss nodes b (left_at scratch) (right_at scratch) (left_at mid) (right_at mid) (h - 1) pa qa (term_at w.ss nodes p l0.copy) (term_at w.ss nodes q r0.copy) left_below right-below left-top right-top behind
      (subst⁻¹ (λ (i : ℕ). WholesEqual w.ss nodes b (left_at scratch) (right_at scratch) i no_term no_term) back cl))

  pub meet-crossable : Crossable nodes state mid h p0 q0
  meet-crossable =
      record {
        n = n;
        work = record {
          ss = w.ss;
          top = w.top;
          store = w.store;
          within = w.within;
          roomy = (let e : length mid ≡ length scratch = pair-long scratch (h - 1) (record l0 { at = pa }) (record r0 { at = qa }) fits in let o : rows ≤ length scratch = w.roomy in omega arith);
          stack = moved;
          memo = memo-kept w.ss nodes b scratch w.memo mid (λ j o. pair-others scratch (h - 1) (record l0 { at = pa }) (record r0 { at = qa }) fits j (inr (let k : h ≤ pairs = high in omega arith)));
        };
        some = some;
        left = left-node;
        right = right-node;
        copy = w.stack.left.copy (h - 1) under;
        copy_right = w.stack.right.copy (h - 1) under;
        below = w.stack.left.below (h - 1) under;
        below_right = w.stack.right.below (h - 1) under;
        variable = variable;
        inside = λ o newer. subst⁻¹ (λ (s : Side). nodes_of (resolve (newer ++ b) (term_at w.ss nodes p l0.copy)) < nodes_of (resolve (newer ++ b) (whole_of w.ss nodes s))) left-top
            (let x : rows_size (newer ++ b) (terms_at w.ss nodes p (end_of nodes l0) l0.copy) ≤ rows_size (newer ++ b) (row_of w.ss nodes l0) = m.less (newer ++ b) l0.copy in
            let y : rows_size (newer ++ b) (terms_at w.ss nodes p (end_of nodes l0) l0.copy) ≡ nodes_of (resolve (newer ++ b) (term_at w.ss nodes p l0.copy)) + rows_size (newer ++ b) (terms_at w.ss nodes pa (end_of nodes l0) l0.copy) = left-size (newer ++ b) l0.copy in
            let z : rows_size (newer ++ b) (row_of w.ss nodes l0) < nodes_of (resolve (newer ++ b) (whole_of w.ss nodes l0)) = w.stack.left.small (h - 1) (omega arith) under newer in
            omega arith);
        inside_right = λ o newer. subst⁻¹ (λ (s : Side). nodes_of (resolve (newer ++ b) (term_at w.ss nodes q r0.copy)) < nodes_of (resolve (newer ++ b) (whole_of w.ss nodes s))) right-top
            (let x : rows_size (newer ++ b) (terms_at w.ss nodes q (end_of nodes r0) r0.copy) ≤ rows_size (newer ++ b) (row_of w.ss nodes r0) = m.less_right (newer ++ b) r0.copy in
            let y : rows_size (newer ++ b) (terms_at w.ss nodes q (end_of nodes r0) r0.copy) ≡ nodes_of (resolve (newer ++ b) (term_at w.ss nodes q r0.copy)) + rows_size (newer ++ b) (terms_at w.ss nodes qa (end_of nodes r0) r0.copy) = right-size (newer ++ b) r0.copy in
            let z : rows_size (newer ++ b) (row_of w.ss nodes r0) < nodes_of (resolve (newer ++ b) (whole_of w.ss nodes r0)) = w.stack.right.small (h - 1) (omega arith) under newer in
            omega arith);
        closes = moved-closes;
      }

  -- the rows of the stack are the two terms, and then the rows of the stack moved on
  top_left : rows_of w.ss nodes (left_at scratch) h ≡ followed (row_of w.ss nodes l0) (rows_of w.ss nodes (left_at scratch) (h - 1))
  top_left = ap (rows_of w.ss nodes (left_at scratch)) (sym back) ∙ rows-top w.ss nodes (left_at scratch) (h - 1)

  top_right : rows_of w.ss nodes (right_at scratch) h ≡ followed (row_of w.ss nodes r0) (rows_of w.ss nodes (right_at scratch) (h - 1))
  top_right = ap (rows_of w.ss nodes (right_at scratch)) (sym back) ∙ rows-top w.ss nodes (right_at scratch) (h - 1)

  mid-left : rcons (term_at w.ss nodes p l0.copy) (rows_of w.ss nodes (left_at mid) h) ≡ followed (terms_at w.ss nodes p (end_of nodes l0) l0.copy) (rows_of w.ss nodes (left_at scratch) (h - 1))
  mid-left =
      ap (rcons (term_at w.ss nodes p l0.copy)) (ap (rows_of w.ss nodes (left_at mid)) (sym back) ∙ (rows-top w.ss nodes (left_at mid) (h - 1) ∙ ap₂ followed (ap (row_of w.ss nodes) left-top) (rows_agree w.ss nodes (left_at scratch) (left_at mid) (h - 1) left_below)))
      ∙ (sym (one-followed (term_at w.ss nodes p l0.copy) (terms_at w.ss nodes pa (end_of nodes l0) l0.copy) (rows_of w.ss nodes (left_at scratch) (h - 1))) ∙ ap (λ (ts : RTerms). followed ts (rows_of w.ss nodes (left_at scratch) (h - 1))) (sym (left-cons l0.copy)))

  mid-right : rcons (term_at w.ss nodes q r0.copy) (rows_of w.ss nodes (right_at mid) h) ≡ followed (terms_at w.ss nodes q (end_of nodes r0) r0.copy) (rows_of w.ss nodes (right_at scratch) (h - 1))
  mid-right =
      ap (rcons (term_at w.ss nodes q r0.copy)) (ap (rows_of w.ss nodes (right_at mid)) (sym back) ∙ (rows-top w.ss nodes (right_at mid) (h - 1) ∙ ap₂ followed (ap (row_of w.ss nodes) right-top) (rows_agree w.ss nodes (right_at scratch) (right_at mid) (h - 1) right-below)))
      ∙ (sym (one-followed (term_at w.ss nodes q r0.copy) (terms_at w.ss nodes qa (end_of nodes r0) r0.copy) (rows_of w.ss nodes (right_at scratch) (h - 1))) ∙ ap (λ (ts : RTerms). followed ts (rows_of w.ss nodes (right_at scratch) (h - 1))) (sym (right-cons r0.copy)))

  met-done : (after : List ℕ) (t : Turn) → Crosses meet-crossable after t → TurnGives w after t
  unfolding meet-crossable
  met-done after t s = (
    marks-trans scratch mid after (pair-marks scratch (h - 1) (record l0 { at = pa }) (record r0 { at = qa }) fits) s.0,
    turns-alike (over w) (rows_of w.ss nodes (left_at scratch) h) (rows_of w.ss nodes (right_at scratch) h) (rcons (term_at w.ss nodes p l0.copy) (rows_of w.ss nodes (left_at mid) h)) (rcons (term_at w.ss nodes q r0.copy) (rows_of w.ss nodes (right_at mid) h))
        after t
        (ap₂ (unify_rows b) top_left top_right ∙ (m.means b l0.copy r0.copy (rows_of w.ss nodes (left_at scratch) (h - 1)) (rows_of w.ss nodes (right_at scratch) (h - 1)) ∙ sym (ap₂ (unify_rows b) mid-left mid-right)))
        s.1,
  )

  pub meet-turned : (after : List ℕ) (t : Turn) → ((g : Crossable nodes state mid h p0 q0) → Crosses g after t) → TurnGives w after t
  meet-turned after t k = met-done after t (k meet-crossable)

  -- two terms that are the same
  pub met-same : resolve b (term_at w.ss nodes p l0.copy) ≡ resolve b (term_at w.ss nodes q r0.copy) → TurnGives w mid (Ok h)
  unfolding meet-crossable
  met-same e = met-done mid (Ok h) (cross-same meet-crossable e)

-- the same, over the sides and sizes as they are read
module _ {nodes state scratch : List ℕ} {h : ℕ} {l r : Side} (g : Meetable nodes state scratch h l r) where
  abbrev pub p : ℕ
  p = l.at

  abbrev pub q : ℕ
  q = r.at

  abbrev pub l1 : Side
  l1 = left_at scratch (h - 1)

  abbrev pub r1 : Side
  r1 = right_at scratch (h - 1)

  module _ {s z : ℕ} (es : s ≡ get_or nodes (p + 1) 0) (ez : z ≡ get_or nodes (q + 1) 0) {mid1 : List ℕ} (e : mid1 ≡ pair_words scratch (h - 1) (record l { at = p + s }) (record r { at = q + z })) where
    mid-is : mid1 ≡ pair_words scratch (h - 1) (record l1 { at = p + get_or nodes (p + 1) 0 }) (record r1 { at = q + get_or nodes (q + 1) 0 })
    mid-is =
        e ∙ (ap₂ (λ (x y : Side). pair_words scratch (h - 1) (record x { at = p + s }) (record y { at = q + z })) g.left_is g.right_is
        ∙ ap₂ (λ (i j : ℕ). pair_words scratch (h - 1) (record l1 { at = p + i }) (record r1 { at = q + j })) es ez)

    pub met_turned : (after : List ℕ) (t : Turn) → ((k : Crossable nodes state mid1 h (record { node = p; copy = l.copy }) (record { node = q; copy = r.copy })) → Crosses k after t) → TurnGives g.work after t
    met_turned after t f =
        meet-turned g.work g.some g.meets g.variable g.closes after t
        (subst (λ (i : List ℕ). (k : Crossable nodes state i h (record { node = p; copy = l1.copy }) (record { node = q; copy = r1.copy })) → Crosses k after t) mid-is
        (subst (λ (y : Side). (k : Crossable nodes state mid1 h (record { node = p; copy = l1.copy }) (record { node = q; copy = y.copy })) → Crosses k after t) g.right_is
        (subst (λ (x : Side). (k : Crossable nodes state mid1 h (record { node = p; copy = x.copy }) (record { node = q; copy = r.copy })) → Crosses k after t) g.left_is f)))

-- ---- one turn

module _ {nodes state scratch : List ℕ} {h : ℕ} (g : Turnable nodes state scratch h) {l r : Side} (el : l ≡ left_at scratch (h - 1)) (er : r ≡ right_at scratch (h - 1)) where
  top-under : h - 1 < h
  top-under = let s : 1 ≤ h = g.some in omega arith

  left-root : Node g.work.ss nodes l.root
  left-root = subst⁻¹ (λ (x : Side). Node g.work.ss nodes x.root) el (g.work.stack.left.node (h - 1) top-under)

  beside : RowsBeside g.work.ss nodes l.at (end_of nodes l) r.at (end_of nodes r)
  beside =
      record {
        left = subst⁻¹ (λ (x : Side). Row g.work.ss nodes x.at (end_of nodes x)) el (g.work.stack.left.row (h - 1) top-under);
        right = subst⁻¹ (λ (x : Side). Row g.work.ss nodes x.at (end_of nodes x)) er (g.work.stack.right.row (h - 1) top-under);
        same = λ i j. ap (λ (x : Side). count (terms_at g.work.ss nodes x.at (end_of nodes x) i)) el ∙ (g.work.stack.same (h - 1) top-under i j ∙ sym (ap (λ (x : Side). count (terms_at g.work.ss nodes x.at (end_of nodes x) j)) er));
      }

  module _ {s : ℕ} (es : s ≡ get_or nodes (l.root + 1) 0) where
    module _ (o : RowsWalked) (k : (v : Walkable nodes l.at (l.root + s) r.at) → Walks v.ss nodes l.at (l.root + s) r.at v.f o) where
      walked : Walks g.work.ss nodes l.at (end_of nodes l) r.at (end_of nodes r) o
      walked = subst (λ (i : ℕ). (v : Walkable nodes l.at (l.root + i) r.at) → Walks v.ss nodes l.at (l.root + i) r.at v.f o) es k (record { ss = g.work.ss; f = end_of nodes r; beside = beside })

      top-rows : rows_of g.work.ss nodes (left_at scratch) h ≡ followed (terms_at g.work.ss nodes l.at (end_of nodes l) l.copy) (rows_of g.work.ss nodes (left_at scratch) (h - 1))
      top-rows = let q : 1 ≤ h = g.some in ap (rows_of g.work.ss nodes (left_at scratch)) (let e : h ≡ suc (h - 1) = omega arith in e) ∙ (rows-top g.work.ss nodes (left_at scratch) (h - 1) ∙ ap (λ (x : Side). followed (row_of g.work.ss nodes x) (rows_of g.work.ss nodes (left_at scratch) (h - 1))) (sym el))

      top-rows-right : rows_of g.work.ss nodes (right_at scratch) h ≡ followed (terms_at g.work.ss nodes r.at (end_of nodes r) r.copy) (rows_of g.work.ss nodes (right_at scratch) (h - 1))
      top-rows-right = let q : 1 ≤ h = g.some in ap (rows_of g.work.ss nodes (right_at scratch)) (let e : h ≡ suc (h - 1) = omega arith in e) ∙ (rows-top g.work.ss nodes (right_at scratch) (h - 1) ∙ ap (λ (x : Side). followed (row_of g.work.ss nodes x) (rows_of g.work.ss nodes (right_at scratch) (h - 1))) (sym er))

      pub turn-pass : o ≡ (Ok tt) → Passable scratch h l r
      turn-pass e =
          record { nodes = nodes; state = state; n = g.n; work = g.work; some = g.some; left_is = el; right_is = er; walks = subst (Walks g.work.ss nodes l.at (end_of nodes l) r.at (end_of nodes r)) e walked; closes = g.closes }

      pub turn-done : (e : o ≡ (Ok tt)) (after : List ℕ) (t : Turn) → ((v : Passable scratch h l r) → TurnGives v.work after t) → TurnGives g.work after t
      unfolding turn-pass
      turn-done e after t k = k (turn-pass e)

      pub turn-clash : {f : WalkStop} → o ≡ Err f → f ≡ Differ → TurnGives g.work scratch (Err Clash)
      turn-clash e d =
          let v : Walks g.work.ss nodes l.at (end_of nodes l) r.at (end_of nodes r) (Err Differ) = subst (Walks g.work.ss nodes l.at (end_of nodes l) r.at (end_of nodes r)) (e ∙ ap Err d) walked in
          (record { long = refl; words = λ j i. refl }, ap₂ (unify_rows (bindings g.work.ss nodes state g.n)) top-rows top-rows-right ∙ v (bindings g.work.ss nodes state g.n) l.copy r.copy (rows_of g.work.ss nodes (left_at scratch) (h - 1)) (rows_of g.work.ss nodes (right_at scratch) (h - 1)))

      pub turn-met : {p q : ℕ} {f : WalkStop} → MetVariable nodes h o → o ≡ Err f → f ≡ Met p q → Meetable nodes state scratch h (record l { at = p }) (record r { at = q })
      turn-met {p} {q} kv e d =
          record {
            n = g.n;
            work = g.work;
            some = g.some;
            left_is = ap (λ (s : Side). record s { at = p }) el;
            right_is = ap (λ (s : Side). record s { at = q }) er;
            meets = subst (λ (y : Side). StopsAt g.work.ss nodes (left_at scratch (h - 1)).at (end_of nodes (left_at scratch (h - 1))) y.at (end_of nodes y) p q) er
                (subst (λ (x : Side). StopsAt g.work.ss nodes x.at (end_of nodes x) r.at (end_of nodes r) p q) el
                (subst (Walks g.work.ss nodes l.at (end_of nodes l) r.at (end_of nodes r)) (e ∙ ap Err d) walked));
            variable = subst (MetVariable nodes h) (e ∙ ap Err d) kv;
            closes = g.closes;
          }

      pub turn_end : {p q : ℕ} {f : WalkStop} (kv : MetVariable nodes h o) (e : o ≡ Err f) (d : f ≡ Met p q) (after : List ℕ) (t : Turn) → ((v : Meetable nodes state scratch h (record l { at = p }) (record r { at = q })) → TurnGives v.work after t) → TurnGives g.work after t
      unfolding turn-met
      turn_end kv e d after t k = k (turn-met kv e d)

-- ---- the top pair done

-- what two words remember is remembered of what they are
pub remembers-at : {before after : List ℕ} {x y left right : ℕ} → x ≡ left → y ≡ right → Remembers before after x y → Remembers before after left right
remembers-at {before} {after} {x} {y} {left} {right} a b k = subst (Remembers before after left) b (subst (λ (z : ℕ). Remembers before after z y) a k)

-- where nothing is remembered
pub remembers-none : (scratch : List ℕ) (left right : ℕ) → Remembers scratch scratch left right
remembers-none scratch left right = record { long = refl; words = λ j l. refl; links = λ m e k. k }

module _ {scratch : List ℕ} {h : ℕ} {l r : Side} (g : Passable scratch h l r) where
  bs : List Binding
  bs = bindings g.work.ss g.nodes g.state g.n

  back-up : suc (h - 1) ≡ h
  back-up = let s : 1 ≤ h = g.some in omega arith

  top-is : h - 1 < h
  top-is = let s : 1 ≤ h = g.some in omega arith

  not-high : h ≤ pairs
  not-high = height g.work.ss g.nodes (bindings g.work.ss g.nodes g.state g.n) g.work.top (left_at scratch) (right_at scratch) h g.work.stack

  rows-done-is : (x : List Binding) → SameRows g.work.ss g.nodes x (left_at scratch (h - 1)) (right_at scratch (h - 1))
  rows-done-is x =
      subst (λ (s : Side). SameRows g.work.ss g.nodes x s (right_at scratch (h - 1))) g.left_is
      (subst (λ (s : Side). SameRows g.work.ss g.nodes x l s) g.right_is (walk-equal g.work.ss g.nodes l.at (end_of g.nodes l) r.at (end_of g.nodes r) g.walks x l.copy r.copy))

  -- its two terms are equal
  wholes-equal : resolve (bindings g.work.ss g.nodes g.state g.n) (whole_of g.work.ss g.nodes (left_at scratch (h - 1))) ≡ resolve (bindings g.work.ss g.nodes g.state g.n) (whole_of g.work.ss g.nodes (right_at scratch (h - 1)))
  wholes-equal =
      g.closes.wholes (h - 1) top-is [] refl
      (λ j x y. subst⁻¹ (λ (i : ℕ). SameRows g.work.ss g.nodes (bindings g.work.ss g.nodes g.state g.n) (left_at scratch i) (right_at scratch i)) (let z : j ≡ h - 1 = omega arith in z) (rows-done-is (bindings g.work.ss g.nodes g.state g.n)))

  left-copy : l.copy < copies
  left-copy = subst⁻¹ (λ (x : Side). x.copy < copies) g.left_is (g.work.stack.left.copy (h - 1) top-is)

  right-copy : r.copy < copies
  right-copy = subst⁻¹ (λ (x : Side). x.copy < copies) g.right_is (g.work.stack.right.copy (h - 1) top-is)

  words-equal : resolve (bindings g.work.ss g.nodes g.state g.n) (value_of g.work.ss g.nodes (word_of l.root l.copy)) ≡ resolve (bindings g.work.ss g.nodes g.state g.n) (value_of g.work.ss g.nodes (word_of r.root r.copy))
  words-equal =
      ap (resolve (bindings g.work.ss g.nodes g.state g.n)) (value-word g.work.ss g.nodes l.root l.copy left-copy ∙ ap (whole_of g.work.ss g.nodes) g.left_is)
      ∙ (wholes-equal ∙ sym (ap (resolve (bindings g.work.ss g.nodes g.state g.n)) (value-word g.work.ss g.nodes r.root r.copy right-copy ∙ ap (whole_of g.work.ss g.nodes) g.right_is)))

  module _ {after : List ℕ} (k : Remembers scratch after (word_of l.root l.copy) (word_of r.root r.copy)) where
    left-same : (i : ℕ) → i < h → left_at after i ≡ left_at scratch i
    left-same i o = left-front scratch after (λ j w1. k.words j (omega arith)) i (let z : h ≤ pairs = not-high in omega arith)

    right-same : (i : ℕ) → i < h → right_at after i ≡ right_at scratch i
    right-same i o = right-front scratch after (λ j w1. k.words j (omega arith)) i (let z : h ≤ pairs = not-high in omega arith)

    left-under : (i : ℕ) → i < h - 1 → left_at after i ≡ left_at scratch i
    left-under i o = left-same i (omega arith)

    right-under : (i : ℕ) → i < h - 1 → right_at after i ≡ right_at scratch i
    right-under i o = right-same i (omega arith)

    rows_left : rows_of g.work.ss g.nodes (left_at scratch) h ≡ followed (row_of g.work.ss g.nodes l) (rows_of g.work.ss g.nodes (left_at after) (h - 1))
    rows_left =
        ap (rows_of g.work.ss g.nodes (left_at scratch)) (sym back-up)
        ∙ (rows-top g.work.ss g.nodes (left_at scratch) (h - 1) ∙ ap₂ followed (ap (row_of g.work.ss g.nodes) (sym g.left_is)) (sym (rows_agree g.work.ss g.nodes (left_at scratch) (left_at after) (h - 1) left-under)))

    rows_right : rows_of g.work.ss g.nodes (right_at scratch) h ≡ followed (row_of g.work.ss g.nodes r) (rows_of g.work.ss g.nodes (right_at after) (h - 1))
    rows_right =
        ap (rows_of g.work.ss g.nodes (right_at scratch)) (sym back-up)
        ∙ (rows-top g.work.ss g.nodes (right_at scratch) (h - 1) ∙ ap₂ followed (ap (row_of g.work.ss g.nodes) (sym g.right_is)) (sym (rows_agree g.work.ss g.nodes (right_at scratch) (right_at after) (h - 1) right-under)))

    pub pass-turned : TurnGives g.work after (Ok (h - 1))
    unfolding bs
    pass-turned = (
      record { long = k.long; words = λ j i. k.words j (omega arith) },
      record {
        stack = stack-agrees g.work.ss g.nodes bs g.work.top (left_at scratch) (right_at scratch) (left_at after) (right_at after) (h - 1) left-under right-under (stack-less g.work.ss g.nodes bs g.work.top (left_at scratch) (right_at scratch) h (h - 1) (omega arith) g.work.stack);
        means = ap₂ (unify_rows bs) rows_left rows_right ∙ g.walks bs l.copy r.copy (rows_of g.work.ss g.nodes (left_at after) (h - 1)) (rows_of g.work.ss g.nodes (right_at after) (h - 1));
        memo = memo-remembers g.work.ss g.nodes bs scratch g.work.memo after (word_of l.root l.copy) (word_of r.root r.copy) k words-equal;
        closes = closes-agree g.work.ss g.nodes bs (left_at scratch) (right_at scratch) (left_at after) (right_at after) (h - 1) no_term no_term left-under right-under
            (closes-less g.work.ss g.nodes bs (left_at scratch) (right_at scratch) (h - 1) (rows-done-is bs) (subst⁻¹ (λ (i : ℕ). WholesEqual g.work.ss g.nodes bs (left_at scratch) (right_at scratch) i no_term no_term) back-up g.closes));
      },
    )
