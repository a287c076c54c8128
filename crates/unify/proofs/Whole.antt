-- Laws of `unify`: the first pair laid, and the definition's answer. Assumes nothing.
use Prim.Native.Nat.{ℕ, ◌+◌, ◌≤◌, ◌<◌, ◌^◌}
use native.Mathlib.Omega.{arith}
use mathlib.Core.Path.{◌≡◌, refl, sym, ap, ap₂, ◌∙◌, subst, subst⁻¹}
use mathlib.Core.List.{List, [], ◌++◌}
use mathlib.Core.Logic.{inr}
use lib.ListN.{length, get_or, set, length-set}
use lib.Seq.{get_or-set_same, get_or-set_other}
use Rattle.machine.specs.Substitution.{RTerms, app, rnil, rcons, Binding, resolve}
use Rattle.machine.specs.Unification.{unify}
use Rattle.run_layout.specs.Regions.{copies, places, pair_of, cuts_word, memo, rows, loaded_node, pair_size}
use Rattle.run_layout.specs.Nodes.{Symbol, Node, Row, term_at, terms_at, followed, count}
use Rattle.run_layout.specs.State.{bindings}
use Rattle.run_layout.proofs.Nodes.{node-inside, row_one, row-one-is, term-at}
use Rattle.bindings.specs.Cuts.{cuts_made}
use Rattle.bindings.specs.Memos.{classes_made}
use Rattle.bindings.specs.Scratch.{left_at, right_at, pair_words, SameMarks}
use Rattle.run_layout.specs.declared.terms.At.{At}
use Rattle.bindings.specs.declared.stack.Side.{Side}
use Rattle.bindings.proofs.Remembering.{memo-none}
use Rattle.unify.specs.Rows.{unify_rows}
use Rattle.unify.specs.Stacks.{only_row, end_of, whole_of, row_of, rows_of, StackSide, Stack, no_term, WholesEqual}
use Rattle.unify.specs.Turns.{Solvable, Solved, Unifiable, UnifyGives}
use Rattle.unify.specs.declared.solve.UnifyAnswer.{UnifyAnswer}
use Rattle.unify.proofs.Rules.{rows-begin}
use Rattle.unify.proofs.Rowwise.{one-followed, none-followed, count-one}
use Rattle.unify.proofs.Closing.{equal-first, closes-first}
use Rattle.unify.proofs.Stacked.{pair-long, pair-others, pair-marks, pair_left, pair-right, rows-top}

-- one side of a stack of one pair
one-half : (ss : List Symbol) (nodes : List ℕ) (b : List Binding) (top : ℕ) (p : At) (s : ℕ → Side) → s 0 ≡ only_row p → Node ss nodes p.node → p.copy < copies → p.copy ≤ top → StackSide ss nodes b top s 1
one-half ss nodes b top p s e n l o =
    record {
      node = λ k q. subst⁻¹ (λ (x : Side). Node ss nodes x.root) (at k q) n;
      copy = λ k q. subst⁻¹ (λ (x : Side). x.copy < copies) (at k q) l;
      below = λ k q. subst⁻¹ (λ (x : Side). x.copy ≤ top) (at k q) o;
      row = λ k q. subst⁻¹ (λ (x : Side). Row ss nodes x.at (end_of nodes x)) (at k q) (row_one ss nodes p.node n);
      small = λ k a q newer. absurd (let z : k < 1 = q in omega arith);
      down = λ k a q newer. absurd (let z : k + 1 < 1 = q in omega arith);
    }
  where
    at : (k : ℕ) → k < 1 → s k ≡ only_row p
    at k q = ap s (let z : k ≡ 0 = omega arith in z) ∙ e

module _ {nodes state scratch : List ℕ} {p q : At} {n : ℕ} (g : Unifiable nodes state scratch p q n) where
  -- the memo emptied
  abbrev pub emptied : List ℕ
  emptied = set (set scratch memo 0) cuts_word 0

  emptied-long : length emptied ≡ length scratch
  emptied-long = length-set (set scratch memo 0) cuts_word 0 ∙ length-set scratch memo 0

  pub unify-forget : memo < length scratch
  unify-forget = let r : rows ≤ length scratch = g.roomy in omega arith

  module _ {blank : List ℕ} (e0 : blank ≡ emptied) where
    blank-long : length blank ≡ length scratch
    blank-long = ap length e0 ∙ emptied-long

    blank-is : (j : ℕ) → get_or blank j 0 ≡ get_or emptied j 0
    blank-is j = ap (λ (x : List ℕ). get_or x j 0) e0

    pub unify-room : (pair_of 0 + pair_size ≤ length blank) × (((p.node < 2 ^ 32) × ((p.node < 2 ^ 32) × (p.copy < 2 ^ 32))) × ((q.node < 2 ^ 32) × ((q.node < 2 ^ 32) × (q.copy < 2 ^ 32))))
    unify-room =
        let a : p.node + loaded_node ≤ length nodes = node-inside g.ss nodes p.node g.left in
        let b : q.node + loaded_node ≤ length nodes = node-inside g.ss nodes q.node g.right in
        let s : length nodes ≤ places = g.store.raw.small in
        let r : rows ≤ length scratch = g.roomy in
        let e : length blank ≡ length scratch = blank-long in
        let x : p.copy < copies = g.copy in
        let y : q.copy < copies = g.copy_right in
        (omega arith, ((omega arith, (omega arith, omega arith)), (omega arith, (omega arith, omega arith))))

    abbrev mid : List ℕ
    mid = pair_words blank 0 (only_row p) (only_row q)

    left_is : left_at mid 0 ≡ only_row p
    left_is = pair_left blank 0 (only_row p) (only_row q) unify-room.0

    right_is : right_at mid 0 ≡ only_row q
    right_is = pair-right blank 0 (only_row p) (only_row q) unify-room.0

    same_count : (i j : ℕ) → count (terms_at g.ss nodes p.node (p.node + get_or nodes (p.node + 1) 0) i) ≡ count (terms_at g.ss nodes q.node (q.node + get_or nodes (q.node + 1) 0) j)
    same_count i j = ap count (row-one-is g.ss nodes p.node i g.left) ∙ (count-one (term_at g.ss nodes p.node i) rnil ∙ (sym (count-one (term_at g.ss nodes q.node j) rnil) ∙ sym (ap count (row-one-is g.ss nodes q.node j g.right))))

    first-stack : Stack g.ss nodes (bindings g.ss nodes state n) g.top (left_at mid) (right_at mid) 1
    first-stack =
        record {
          left = one-half g.ss nodes (bindings g.ss nodes state n) g.top p (left_at mid) left_is g.left g.copy g.below;
          right = one-half g.ss nodes (bindings g.ss nodes state n) g.top q (right_at mid) right_is g.right g.copy_right g.below_right;
          same = λ k l i j.
              (let z : k ≡ 0 = omega arith in
              ap (λ (s : Side). count (terms_at g.ss nodes s.at (end_of nodes s) i)) (ap (left_at mid) z ∙ left_is) ∙ (same_count i j ∙ sym (ap (λ (s : Side). count (terms_at g.ss nodes s.at (end_of nodes s) j)) (ap (right_at mid) z ∙ right_is))));
          via = λ k. 0;
          vias = λ k a l. absurd (let z : k < 1 = l in omega arith);
        }

    no_terms : classes_made mid ≡ 0
    no_terms = pair-others blank 0 (only_row p) (only_row q) unify-room.0 memo (inr (omega arith)) ∙ (blank-is memo ∙ (get_or-set_other (set scratch memo 0) cuts_word memo 0 0 (λ e. omega arith) ∙ get_or-set_same scratch memo 0 0 unify-forget))

    no-cuts : cuts_made mid ≡ 0
    no-cuts =
        let r : rows ≤ length scratch = g.roomy in
        let e : length (set scratch memo 0) ≡ length scratch = length-set scratch memo 0 in
        pair-others blank 0 (only_row p) (only_row q) unify-room.0 cuts_word (inr (omega arith)) ∙ (blank-is cuts_word ∙ get_or-set_same (set scratch memo 0) cuts_word 0 0 (omega arith))

    -- the first pair's rows are its two terms
    first-closes : WholesEqual g.ss nodes (bindings g.ss nodes state n) (left_at mid) (right_at mid) 1 no_term no_term
    first-closes =
        closes-first g.ss nodes (bindings g.ss nodes state n) (left_at mid) (right_at mid)
        (λ newer e.
        ap (λ (s : Side). resolve (newer ++ bindings g.ss nodes state n) (whole_of g.ss nodes s)) left_is
        ∙ (equal-first (newer ++ bindings g.ss nodes state n) (term_at g.ss nodes p.node p.copy) (term_at g.ss nodes q.node q.copy) rnil rnil
        (sym (ap (λ (ts : RTerms). resolve (newer ++ bindings g.ss nodes state n) (app [] ts)) (ap (row_of g.ss nodes) left_is ∙ row-one-is g.ss nodes p.node p.copy g.left))
        ∙ (e ∙ ap (λ (ts : RTerms). resolve (newer ++ bindings g.ss nodes state n) (app [] ts)) (ap (row_of g.ss nodes) right_is ∙ row-one-is g.ss nodes q.node q.copy g.right)))
        ∙ sym (ap (λ (s : Side). resolve (newer ++ bindings g.ss nodes state n) (whole_of g.ss nodes s)) right_is)))

    first-solvable : Solvable nodes state mid n
    first-solvable =
        let m : SameMarks blank mid = pair-marks blank 0 (only_row p) (only_row q) unify-room.0 in
        let e : length mid ≡ length blank = m.long in
        let e1 : length blank ≡ length scratch = blank-long in
        let r : rows ≤ length scratch = g.roomy in
        record {
          work = record { ss = g.ss; top = g.top; store = g.store; within = g.within; roomy = omega arith; stack = first-stack; memo = memo-none g.ss nodes (bindings g.ss nodes state n) mid no_terms no-cuts };
          closes = first-closes;
          clean = record { long = omega arith; zero = λ y l. m.words y (omega arith) ∙ (blank-is y ∙ (get_or-set_other (set scratch memo 0) cuts_word y 0 0 (λ e2. omega arith) ∙ (get_or-set_other scratch memo y 0 0 (λ e2. omega arith) ∙ g.clean.zero y l))) };
        }

    pub unify-solvable : {s : List ℕ} → s ≡ mid → Solvable nodes state s n
    unify-solvable e = subst⁻¹ (λ (x : List ℕ). Solvable nodes state x n) e first-solvable

    none_rows : (s : ℕ → Side) → rows_of g.ss nodes s 0 ≡ rnil
    unfolding rows_of
    none_rows s = refl

    rows_left : rows_of g.ss nodes (left_at mid) 1 ≡ rcons (term_at g.ss nodes p.node p.copy) rnil
    rows_left =
        rows-top g.ss nodes (left_at mid) 0
        ∙ (ap₂ followed (ap (row_of g.ss nodes) left_is ∙ row-one-is g.ss nodes p.node p.copy g.left) (none_rows (left_at mid)) ∙ (one-followed (term_at g.ss nodes p.node p.copy) rnil rnil ∙ ap (rcons (term_at g.ss nodes p.node p.copy)) (none-followed rnil)))

    rows_right : rows_of g.ss nodes (right_at mid) 1 ≡ rcons (term_at g.ss nodes q.node q.copy) rnil
    rows_right =
        rows-top g.ss nodes (right_at mid) 0
        ∙ (ap₂ followed (ap (row_of g.ss nodes) right_is ∙ row-one-is g.ss nodes q.node q.copy g.right) (none_rows (right_at mid)) ∙ (one-followed (term_at g.ss nodes q.node q.copy) rnil rnil ∙ ap (rcons (term_at g.ss nodes q.node q.copy)) (none-followed rnil)))

    whole : (after later : List ℕ) (r : UnifyAnswer) → Solved first-solvable after later r → UnifyGives g after later r
    unfolding first-solvable
    whole after later r s =
        record {
          grows = s.grows;
          undone = s.undone;
          store = s.store;
          within = s.within;
          keeps = s.keeps;
          clean = s.clean;
          long = s.long ∙ (pair-long blank 0 (only_row p) (only_row q) unify-room.0 ∙ blank-long);
          answer = λ t u x y.
              ap₂ (unify (bindings g.ss nodes state n)) (sym (term-at g.ss nodes p.node p.copy t x)) (sym (term-at g.ss nodes q.node q.copy u y))
              ∙ (rows-begin (bindings g.ss nodes state n) (term_at g.ss nodes p.node p.copy) (term_at g.ss nodes q.node q.copy) ∙ (sym (ap₂ (unify_rows (bindings g.ss nodes state n)) rows_left rows_right) ∙ s.answer));
        }

    pub unify-end : {s : List ℕ} → s ≡ mid → {after later : List ℕ} {r : UnifyAnswer}
        → ((v : Solvable nodes state s n) → Solved v after later r) → UnifyGives g after later r
    unify-end e {after} {later} {r} k =
        whole after later r (subst (λ (x : List ℕ). (v : Solvable nodes state x n) → Solved v after later r) e k first-solvable)
