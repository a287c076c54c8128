-- Laws of a crossing whose two terms are dereferenced: one for each way out. Assumes nothing.
use Prim.Native.Nat.{ℕ, suc, ◌+◌, ◌-◌, ◌*◌, ◌≤◌, ◌<◌}
use native.Mathlib.Omega.{arith}
use mathlib.Core.Path.{◌≡◌, refl, sym, ap, ap₂, ◌∙◌, subst, subst⁻¹}
use mathlib.Core.Bool.{Bool, true, false}
use mathlib.Core.List.{List, [], ◌∷◌, ◌++◌}
use mathlib.Core.Option.{none}
use mathlib.Core.Logic.{inr}
use lib.Dec.{T, eqb}
use lib.ListN.{length, get_or}
use borrow.Author.Tests.{eqb-true, eqb-false}
use Rattle.syntax.specs.Words.{first_name}
use Rattle.machine.specs.Substitution.{Variable, is_later, RTerm, RTerms, var, app, rcons, occurs, Binding, resolve}
use Rattle.machine.proofs.Tests.{variable-eq}
use Rattle.machine_theorems.proofs.Terms.{resolve_all, resolve-app}
use Rattle.run_layout.specs.Regions.{copy_cells, big_pairs, pairs, pair_of, rows, loaded_node, pair_size}
use Rattle.run_layout.specs.Nodes.{Symbol, name_of_symbol, term_at, terms_at, followed, count}
use Rattle.run_layout.specs.State.{cell_of, variable_of, word_of, value_of, bindings, RawStore}
use Rattle.run_layout.proofs.Nodes.{variable-at, compound-at, same_count, other-symbol}
use Rattle.run_layout.proofs.State.{variable-cell, cell-eq, cell-small, resolve-unbound}
use Rattle.bindings.specs.Memos.{KnownEqual}
use Rattle.bindings.specs.Scratch.{left_at, right_at, pair_words, SameMarks}
use Rattle.run_layout.specs.declared.terms.At.{At}
use Rattle.bindings.specs.declared.stack.Side.{Side}
use Rattle.bindings.proofs.Remembering.{value-word, memo-kept, memo-found}
use Rattle.unify.specs.Rows.{unify_rows, nodes_of}
use Rattle.unify.specs.Stacks.{inner_row, end_of, whole_of, row_of, rows_of, OpenedByCell, Stack, no_term, WholesEqual}
use Rattle.unify.specs.Turns.{Dereferenced, Crossed, Openable, PairTurned}
use Rattle.std.proofs.Common.{Ok, Err}
use Rattle.unify.specs.Turns.{Turn}
use Rattle.unify.specs.declared.solve.TurnStop.TheVariants.{Clash, Bind}
use Rattle.unify.proofs.Rules.{rows_same, rows-open, rows-clash, rows-occurs-left, rows-occurs-right, rows-bind-left, rows-bind-right, left-is-bound, right-is-bound, left-bound, right-bound, later-cell, earlier-cell, count-resolve}
use Rattle.unify.proofs.Closing.{equal-named, closes-settled, closes-bound, closes-pushed}
use Rattle.unify.proofs.Stacked.{pair-others, pair-marks, pair_left, pair-right, pair-left-others, pair-right-others, rows_agree, rows-top, half-pushed, height}

marks-refl : (scratch : List ℕ) → SameMarks scratch scratch
marks-refl scratch = record { long = refl; words = λ j l. refl }

pub nodes-some : (t : RTerm) → 1 ≤ nodes_of t
unfolding nodes_of
nodes-some (var v) = omega arith
nodes-some (app f ts) = omega arith

never-variable : (f : List ℕ) (ts : RTerms) (v : Variable) → app f ts ≡ var v → ⊥
never-variable f ts v e = let z : ◌≡◌ {A = ℕ} 0 1 = cc in omega arith

same-variable : (v w : Variable) → var v ≡ var w → v ≡ w
same-variable v w e = cc

-- ---- what a dereferenced term is

module _ {ss : List Symbol} {nodes state : List ℕ} {n top : ℕ} {p : At} (store : RawStore ss nodes state n) (r : Dereferenced ss nodes state top p) where
  is_open : get_or nodes p.node 0 < first_name → resolve (bindings ss nodes state n) (term_at ss nodes p.node p.copy) ≡ var (variable_of (cell_of p.copy (get_or nodes p.node 0)))
  is_open l =
      ap (resolve (bindings ss nodes state n)) (variable-at ss nodes p.node r.node p.copy l ∙ ap var (sym (variable-cell p.copy (get_or nodes p.node 0) l)))
      ∙ resolve-unbound ss nodes state n (cell_of p.copy (get_or nodes p.node 0)) store (cell-small p.copy (get_or nodes p.node 0) r.copy l) (r.stops l)

  is_name : first_name ≤ get_or nodes p.node 0 → resolve (bindings ss nodes state n) (term_at ss nodes p.node p.copy) ≡ app (name_of_symbol ss (get_or nodes p.node 0 - first_name)) (resolve_all (bindings ss nodes state n) (terms_at ss nodes (p.node + loaded_node) (p.node + get_or nodes (p.node + 1) 0) p.copy))
  is_name l = ap (resolve (bindings ss nodes state n)) (compound-at ss nodes p.node r.node p.copy l) ∙ resolve-app (bindings ss nodes state n) (name_of_symbol ss (get_or nodes p.node 0 - first_name)) (terms_at ss nodes (p.node + loaded_node) (p.node + get_or nodes (p.node + 1) 0) p.copy)

module _ {nodes scratch : List ℕ} {h : ℕ} {p q : At} (g : Crossed nodes scratch h p q) where
  abbrev pub b : List Binding
  b = bindings g.work.ss nodes g.state g.n

  abbrev pub t : RTerm
  t = term_at g.work.ss nodes p.node p.copy

  abbrev pub u : RTerm
  u = term_at g.work.ss nodes q.node q.copy

  abbrev pub ls : RTerms
  ls = rows_of g.work.ss nodes (left_at scratch) h

  abbrev pub rs : RTerms
  rs = rows_of g.work.ss nodes (right_at scratch) h

  -- the term at a place, the cell of a variable, and the one bound to the other
  abbrev pub term-of : At → RTerm
  term-of a = term_at g.work.ss nodes a.node a.copy

  abbrev pub cell-at : At → ℕ
  cell-at a = cell_of a.copy (get_or nodes a.node 0)

  abbrev pub new-of : At → At → Binding
  new-of v w = record { variable = variable_of (cell-at v); term = resolve b (term-of w) }

  abbrev pub x : ℕ
  x = cell-at p

  abbrev pub y : ℕ
  y = cell-at q

  -- the name and the arguments of a term that is no variable
  abbrev pub name-at : At → List ℕ
  name-at a = name_of_symbol g.work.ss (get_or nodes a.node 0 - first_name)

  abbrev pub args-at : At → RTerms
  args-at a = terms_at g.work.ss nodes (a.node + loaded_node) (a.node + get_or nodes (a.node + 1) 0) a.copy

  -- a turn that is this one
  pub settle_as : {k : Turn} (r : Turn) → r ≡ k → PairTurned g scratch k → PairTurned g scratch r
  settle_as r e x = subst⁻¹ (λ (k : Turn). PairTurned g scratch k) e x

  -- a cell of a copy that is at most the top
  cell_below : (k m : ℕ) → k ≤ g.work.top → m < first_name → cell_of k m < (g.work.top + 1) * copy_cells
  cell_below k m l o = omega arith

  -- the variable at v bound to the term w
  bound-to : {v w : At} → Dereferenced g.work.ss nodes g.state g.work.top v → Dereferenced g.work.ss nodes g.state g.work.top w → (l : get_or nodes v.node 0 < first_name)
      → (get_or nodes w.node 0 < first_name → cell-at w < cell-at v)
      → (T (occurs (variable_of (cell-at v)) (resolve b (term-of w))) → unify_rows b (rcons t ls) (rcons u rs) ≡ none)
      → ((T (occurs (variable_of (cell-at v)) (resolve b (term-of w))) → ⊥) → (unify_rows b (rcons t ls) (rcons u rs) ≡ unify_rows (new-of v w ∷ b) ls rs) × (resolve (new-of v w ∷ b) t ≡ resolve (new-of v w ∷ b) u))
      → PairTurned g scratch (Err (Bind h (cell-at v) w))
  bound-to {v} {w} dv dw l down stands free = (
    marks-refl scratch,
    record {
      stack = g.work.stack;
      cell = cell-small v.copy (get_or nodes v.node 0) dv.copy l;
      unbound = dv.stops l;
      below = cell_below v.copy (get_or nodes v.node 0) dv.below l;
      node = dw.node;
      copy = dw.copy;
      copy_below = dw.below;
      down = down;
      stands = stands;
      free = λ z. (free z).0;
      memo = g.work.memo;
      closes = λ z. closes-bound g.work.ss nodes b (left_at scratch) (right_at scratch) h t u (new-of v w) (free z).1 g.closes;
    },
  )

  -- the left variable bound to the right term
  bind_left : get_or nodes p.node 0 < first_name → ((w : Variable) → resolve b u ≡ var w → is_later (variable_of x) w ≡ true) → (get_or nodes q.node 0 < first_name → y < x)
      → (T (occurs (variable_of x) (resolve b u)) → unify_rows b (rcons t ls) (rcons u rs) ≡ none)
      → PairTurned g scratch (Err (Bind h x q))
  bind_left l later down stands =
      bound-to g.left g.right l down stands
      (λ z. (rows-bind-left b t u ls rs (variable_of x) (is_open g.work.store.raw g.left l) (left-is-bound (variable_of x) (resolve b u) z later) z, left-bound b t u (variable_of x) (is_open g.work.store.raw g.left l) z))

  bind-right : get_or nodes q.node 0 < first_name → ((w : Variable) → resolve b t ≡ var w → is_later w (variable_of y) ≡ false) → (get_or nodes p.node 0 < first_name → x < y)
      → (T (occurs (variable_of y) (resolve b t)) → unify_rows b (rcons t ls) (rcons u rs) ≡ none)
      → PairTurned g scratch (Err (Bind h y p))
  bind-right l later down stands =
      bound-to g.right g.left l down stands
      (λ z. (rows-bind-right b t u ls rs (variable_of y) (is_open g.work.store.raw g.right l) (right-is-bound (variable_of y) (resolve b t) z later) z, right-bound b t u (variable_of y) (is_open g.work.store.raw g.right l) z))

  -- two terms that are equal already
  pub settle-equal : resolve b t ≡ resolve b u → PairTurned g scratch (Ok h)
  settle-equal e = (
    marks-refl scratch,
    record {
      stack = g.work.stack;
      means = rows_same b t u ls rs e;
      memo = g.work.memo;
      closes = closes-settled g.work.ss nodes b (left_at scratch) (right_at scratch) h t u e g.closes;
    },
  )

  -- ---- two variables

  module _ (lp : get_or nodes p.node 0 < first_name) (lq : get_or nodes q.node 0 < first_name) where
    left_is : resolve b t ≡ var (variable_of x)
    left_is = is_open g.work.store.raw g.left lp

    right_is : resolve b u ≡ var (variable_of y)
    right_is = is_open g.work.store.raw g.right lq

    pub settle-same : x ≡ y → PairTurned g scratch (Ok h)
    settle-same e = settle-equal (left_is ∙ (ap (λ (k : ℕ). var (variable_of k)) e ∙ sym right_is))

    -- the variable of a cell does not occur where that of a lower cell stands
    apart-cells : {c d : ℕ} {r : RTerm} → r ≡ var (variable_of d) → d < c → T (occurs (variable_of c) r) → ⊥
    apart-cells {c} {d} e l k = let z : c ≡ d = cell-eq c d (variable-eq (variable_of c) (variable_of d) (subst (λ (v : RTerm). T (occurs (variable_of c) v)) e k)) in omega arith

    pub settle-later : y < x → PairTurned g scratch (Err (Bind h x q))
    settle-later e = bind_left lp (λ w k. subst (λ (v : Variable). is_later (variable_of x) v ≡ true) (same-variable (variable_of y) w (sym right_is ∙ k)) (later-cell x y e)) (λ k. e) (λ k. absurd (apart-cells right_is e k))

    pub settle-earlier : x < y → PairTurned g scratch (Err (Bind h y p))
    settle-earlier e = bind-right lq (λ w k. subst (λ (v : Variable). is_later v (variable_of y) ≡ false) (same-variable (variable_of x) w (sym left_is ∙ k)) (earlier-cell y x e)) (λ k. e) (λ k. absurd (apart-cells left_is e k))

  -- ---- a variable and a name

  pub settle-left : get_or nodes p.node 0 < first_name → first_name ≤ get_or nodes q.node 0 → PairTurned g scratch (Err (Bind h x q))
  settle-left lp hq =
      let name : resolve b u ≡ app (name-at q) (resolve_all b (args-at q)) = is_name g.work.store.raw g.right hq in
      bind_left lp
      (λ w k. absurd (never-variable (name-at q) (resolve_all b (args-at q)) w (sym name ∙ k)))
      (λ k. absurd (let z : get_or nodes q.node 0 < first_name = k in omega arith))
      (λ k. rows-occurs-left b t u ls rs (variable_of x) (name-at q) (resolve_all b (args-at q)) (is_open g.work.store.raw g.left lp) name (subst (λ (v : RTerm). T (occurs (variable_of x) v)) name k))

  pub settle-right : first_name ≤ get_or nodes p.node 0 → get_or nodes q.node 0 < first_name → PairTurned g scratch (Err (Bind h y p))
  settle-right hp lq =
      let name : resolve b t ≡ app (name-at p) (resolve_all b (args-at p)) = is_name g.work.store.raw g.left hp in
      bind-right lq
      (λ w k. absurd (never-variable (name-at p) (resolve_all b (args-at p)) w (sym name ∙ k)))
      (λ k. absurd (let z : get_or nodes p.node 0 < first_name = k in omega arith))
      (λ k. rows-occurs-right b t u ls rs (variable_of y) (name-at p) (resolve_all b (args-at p)) name (is_open g.work.store.raw g.right lq) (subst (λ (v : RTerm). T (occurs (variable_of y) v)) name k))

  -- ---- two names

  module _ (hp : first_name ≤ get_or nodes p.node 0) (hq : first_name ≤ get_or nodes q.node 0) where
    abbrev al : RTerms
    al = args-at p

    abbrev ar : RTerms
    ar = args-at q

    pub settle-clash : (get_or nodes p.node 0 ≡ get_or nodes q.node 0 → ⊥) → PairTurned g scratch (Err Clash)
    settle-clash z = (
      marks-refl scratch,
      rows-clash b t u ls rs (name-at p) (name-at q) (resolve_all b al) (resolve_all b ar)
          (is_name g.work.store.raw g.left hp)
          (is_name g.work.store.raw g.right hq)
          (λ n k. other-symbol g.work.ss nodes p.node q.node p.copy q.copy g.left.node g.right.node hp hq z n (sym (count-resolve b al) ∙ (k ∙ count-resolve b ar))),
    )

    module _ (w : get_or nodes p.node 0 ≡ get_or nodes q.node 0) where
      -- the stack with the new pair, wherever its words stand
      pushed : (l r : ℕ → Side) → ((k : ℕ) → k < h → l k ≡ left_at scratch k) → l h ≡ inner_row p → ((k : ℕ) → k < h → r k ≡ right_at scratch k) → r h ≡ inner_row q → Stack g.work.ss nodes b g.work.top l r (suc h)
      pushed l r a e a1 e1 =
          record {
            left = half-pushed g.work.ss nodes b g.work.top (left_at scratch) l h p a e g.left.node g.left.copy g.left.below hp g.inside g.work.stack.left;
            right = half-pushed g.work.ss nodes b g.work.top (right_at scratch) r h q a1 e1 g.right.node g.right.copy g.right.below hq g.inside_right g.work.stack.right;
            same = λ k o i j. same_at k o i j (eqb k h) refl;
            via = λ k. pick (eqb k h) k;
            vias = λ k o i. via-at k o i (eqb k h) refl;
          }
        where
          pick : Bool → ℕ → ℕ
          pick true k = g.via
          pick false k = g.work.stack.via k

          under : (k : ℕ) → k < suc h → eqb k h ≡ false → k < h
          under k o q1 = let z : k ≡ h → ⊥ = eqb-false k h q1 in omega (arith, z)

          same_at : (k : ℕ) → k < suc h → (i j : ℕ) → (z : Bool) → eqb k h ≡ z → count (terms_at g.work.ss nodes (l k).at (end_of nodes (l k)) i) ≡ count (terms_at g.work.ss nodes (r k).at (end_of nodes (r k)) j)
          same_at k o i j true z =
              ap (λ (s : Side). count (terms_at g.work.ss nodes s.at (end_of nodes s) i)) (ap l (eqb-true k h z) ∙ e)
              ∙ (same_count g.work.ss nodes p.node q.node i j g.left.node g.right.node hp hq w ∙ sym (ap (λ (s : Side). count (terms_at g.work.ss nodes s.at (end_of nodes s) j)) (ap r (eqb-true k h z) ∙ e1)))
          same_at k o i j false z =
              ap (λ (s : Side). count (terms_at g.work.ss nodes s.at (end_of nodes s) i)) (a k (under k o z))
              ∙ (g.work.stack.same k (under k o z) i j ∙ sym (ap (λ (s : Side). count (terms_at g.work.ss nodes s.at (end_of nodes s) j)) (a1 k (under k o z))))

          via-at : (k : ℕ) → big_pairs ≤ k → k < suc h → (z : Bool) → eqb k h ≡ z → OpenedByCell b (pick z k) (whole_of g.work.ss nodes (l k)) (whole_of g.work.ss nodes (r k))
          via-at k o i true z =
              subst⁻¹ (λ (s : Side). OpenedByCell b g.via (whole_of g.work.ss nodes s) (whole_of g.work.ss nodes (r k))) (ap l (eqb-true k h z) ∙ e)
              (subst⁻¹ (λ (s : Side). OpenedByCell b g.via t (whole_of g.work.ss nodes s)) (ap r (eqb-true k h z) ∙ e1) (g.via_is (let z1 : k ≡ h = eqb-true k h z in omega arith) w hp))
          via-at k o i false z =
              subst⁻¹ (λ (s : Side). OpenedByCell b (g.work.stack.via k) (whole_of g.work.ss nodes s) (whole_of g.work.ss nodes (r k))) (a k (under k i z))
              (subst⁻¹ (λ (s : Side). OpenedByCell b (g.work.stack.via k) (whole_of g.work.ss nodes (left_at scratch k)) (whole_of g.work.ss nodes s)) (a1 k (under k i z)) (g.work.stack.vias k o (under k i z)))

      -- there is room for it
      settle-height : suc h ≤ pairs
      settle-height =
          height g.work.ss nodes b g.work.top l r (suc h) (pushed l r (λ k o. l-is k o (eqb k h) refl) (l_top (eqb h h) refl) (λ k o. r-is k o (eqb k h) refl) (r_top (eqb h h) refl))
        where
          pick : Side → Side → Bool → Side
          pick new old true = new
          pick new old false = old

          l : ℕ → Side
          l k = pick (inner_row p) (left_at scratch k) (eqb k h)

          r : ℕ → Side
          r k = pick (inner_row q) (right_at scratch k) (eqb k h)

          l-is : (k : ℕ) → k < h → (z : Bool) → eqb k h ≡ z → pick (inner_row p) (left_at scratch k) z ≡ left_at scratch k
          l-is k o true z = absurd (let i : k ≡ h = eqb-true k h z in omega arith)
          l-is k o false z = refl

          r-is : (k : ℕ) → k < h → (z : Bool) → eqb k h ≡ z → pick (inner_row q) (right_at scratch k) z ≡ right_at scratch k
          r-is k o true z = absurd (let i : k ≡ h = eqb-true k h z in omega arith)
          r-is k o false z = refl

          l_top : (z : Bool) → eqb h h ≡ z → pick (inner_row p) (left_at scratch h) z ≡ inner_row p
          l_top true z = refl
          l_top false z = absurd (eqb-false h h z refl)

          r_top : (z : Bool) → eqb h h ≡ z → pick (inner_row q) (right_at scratch h) z ≡ inner_row q
          r_top true z = refl
          r_top false z = absurd (eqb-false h h z refl)

      pub settle-room : pair_of h + pair_size ≤ length scratch
      settle-room = let k : suc h ≤ pairs = settle-height in let o : rows ≤ length scratch = g.work.roomy in omega arith

      -- arguments that are equal make the two terms equal
      opens : (newer : List Binding) → resolve (newer ++ b) (app [] al) ≡ resolve (newer ++ b) (app [] ar)
          → resolve (newer ++ b) t ≡ resolve (newer ++ b) u
      opens newer e =
          ap (resolve (newer ++ b)) (compound-at g.work.ss nodes p.node g.left.node p.copy hp)
          ∙ (equal-named (newer ++ b) al ar e (name-at p)
          ∙ sym (ap (resolve (newer ++ b)) (compound-at g.work.ss nodes q.node g.right.node q.copy hq ∙ ap (λ (k : ℕ). app (name_of_symbol g.work.ss (k - first_name)) ar) (sym w))))

      abbrev pub laid : List ℕ
      laid = pair_words scratch h (inner_row p) (inner_row q)

      pub settle-open : (after : List ℕ) → after ≡ laid → PairTurned g after (Ok (h + 1))
      settle-open after e =
          subst⁻¹ (λ (s : List ℕ). PairTurned g s (Ok (h + 1))) e
          (let l-below : (k : ℕ) → k < h → left_at laid k ≡ left_at scratch k = (λ k o. pair-left-others scratch h (inner_row p) (inner_row q) settle-room k (λ z. omega arith)) in
          let r-below : (k : ℕ) → k < h → right_at laid k ≡ right_at scratch k = (λ k o. pair-right-others scratch h (inner_row p) (inner_row q) settle-room k (λ z. omega arith)) in
          let l_top : left_at laid h ≡ inner_row p = pair_left scratch h (inner_row p) (inner_row q) settle-room in
          let r_top : right_at laid h ≡ inner_row q = pair-right scratch h (inner_row p) (inner_row q) settle-room in
          let more : suc h ≡ h + 1 = omega arith in
          let left-rows : rows_of g.work.ss nodes (left_at laid) (h + 1) ≡ followed al ls = ap (rows_of g.work.ss nodes (left_at laid)) (sym more) ∙ (rows-top g.work.ss nodes (left_at laid) h ∙ ap₂ followed (ap (row_of g.work.ss nodes) l_top) (rows_agree g.work.ss nodes (left_at scratch) (left_at laid) h l-below)) in
          let right-rows : rows_of g.work.ss nodes (right_at laid) (h + 1) ≡ followed ar rs = ap (rows_of g.work.ss nodes (right_at laid)) (sym more) ∙ (rows-top g.work.ss nodes (right_at laid) h ∙ ap₂ followed (ap (row_of g.work.ss nodes) r_top) (rows_agree g.work.ss nodes (right_at scratch) (right_at laid) h r-below)) in
          let opened : unify_rows b (rcons t ls) (rcons u rs) ≡ unify_rows b (followed al ls) (followed ar rs) = rows-open b t u ls rs (name-at p) al ar (ap (resolve b) (compound-at g.work.ss nodes p.node g.left.node p.copy hp)) (ap (resolve b) (compound-at g.work.ss nodes q.node g.right.node q.copy hq ∙ ap (λ (k : ℕ). app (name_of_symbol g.work.ss (k - first_name)) ar) (sym w))) (same_count g.work.ss nodes p.node q.node p.copy q.copy g.left.node g.right.node hp hq w) in (
            pair-marks scratch h (inner_row p) (inner_row q) settle-room,
            record {
              stack = subst (Stack g.work.ss nodes b g.work.top (left_at laid) (right_at laid)) more (pushed (left_at laid) (right_at laid) l-below l_top r-below r_top);
              means = opened ∙ sym (ap₂ (unify_rows b) left-rows right-rows);
              memo = memo-kept g.work.ss nodes b scratch g.work.memo laid (λ j o. pair-others scratch h (inner_row p) (inner_row q) settle-room j (inr (let z : suc h ≤ pairs = settle-height in omega arith)));
              closes = subst (λ (i : ℕ). WholesEqual g.work.ss nodes b (left_at laid) (right_at laid) i no_term no_term) more
                  (closes-pushed g.work.ss nodes b (left_at scratch) (right_at scratch) (left_at laid) (right_at laid) h t u l-below r-below
                  (ap (whole_of g.work.ss nodes) l_top) (ap (whole_of g.work.ss nodes) r_top)
                  (λ newer e1. opens newer (sym (ap (λ (s : Side). resolve (newer ++ b) (app [] (row_of g.work.ss nodes s))) l_top) ∙ (e1 ∙ ap (λ (s : Side). resolve (newer ++ b) (app [] (row_of g.work.ss nodes s))) r_top))) g.closes);
            },
          ))

-- the same, over the words as they are read and the cells as they are computed
module _ {nodes scratch : List ℕ} {h : ℕ} {p q : At} (g : Crossed nodes scratch h p q) {w z : ℕ} (ew : w ≡ get_or nodes p.node 0) (ez : z ≡ get_or nodes q.node 0) where
  lower : {v k : ℕ} → v ≡ k → v < first_name → k < first_name
  lower e l = subst (λ (k : ℕ). k < first_name) e l

  higher : {v k : ℕ} → v ≡ k → first_name ≤ v → first_name ≤ k
  higher e l = subst (λ (k : ℕ). first_name ≤ k) e l

  left-cell : {i : ℕ} → i ≡ cell_of p.copy w → i ≡ cell_of p.copy (get_or nodes p.node 0)
  left-cell e = e ∙ ap (cell_of p.copy) ew

  right-cell : {j : ℕ} → j ≡ cell_of q.copy z → j ≡ cell_of q.copy (get_or nodes q.node 0)
  right-cell e = e ∙ ap (cell_of q.copy) ez

  pub read_left : w < first_name → first_name ≤ z → {i : ℕ} → i ≡ cell_of p.copy w → {r : Turn} → r ≡ Err (Bind h i q) → PairTurned g scratch r
  read_left lp hq ex {r} er = settle_as g r (er ∙ ap (λ (k : ℕ). Err (Bind h k q)) (left-cell ex)) (settle-left g (lower ew lp) (higher ez hq))

  pub read-right : first_name ≤ w → z < first_name → {j : ℕ} → j ≡ cell_of q.copy z → {r : Turn} → r ≡ Err (Bind h j p) → PairTurned g scratch r
  read-right hp lq ey {r} er = settle_as g r (er ∙ ap (λ (k : ℕ). Err (Bind h k p)) (right-cell ey)) (settle-right g (higher ew hp) (lower ez lq))

  module _ (lp : w < first_name) (lq : z < first_name) {i j : ℕ} (ex : i ≡ cell_of p.copy w) (ey : j ≡ cell_of q.copy z) where
    pub read_same : i ≡ j → PairTurned g scratch (Ok h)
    read_same e = settle-same g (lower ew lp) (lower ez lq) (sym (left-cell ex) ∙ (e ∙ right-cell ey))

    pub read-earlier : i < j → {r : Turn} → r ≡ Err (Bind h j p) → PairTurned g scratch r
    read-earlier l {r} er =
        settle_as g r (er ∙ ap (λ (k : ℕ). Err (Bind h k p)) (right-cell ey))
        (settle-earlier g (lower ew lp) (lower ez lq) (omega (arith, left-cell ex, right-cell ey, l)))

    pub read-later : (i ≡ j → ⊥) → j ≤ i → {r : Turn} → r ≡ Err (Bind h i q) → PairTurned g scratch r
    read-later n o {r} er =
        settle_as g r (er ∙ ap (λ (k : ℕ). Err (Bind h k q)) (left-cell ex))
        (settle-later g (lower ew lp) (lower ez lq) (omega (arith, left-cell ex, right-cell ey, n, o)))

  pub read-clash : first_name ≤ w → first_name ≤ z → (w ≡ z → ⊥) → PairTurned g scratch (Err Clash)
  read-clash hp hq n = settle-clash g (higher ew hp) (higher ez hq) (λ e. n (ew ∙ (e ∙ sym ez)))

  pub read-openable : first_name ≤ w → first_name ≤ z → w ≡ z → Openable scratch h p q
  read-openable hp hq e = record { nodes = nodes; crossed = g; name = higher ew hp; same = sym ew ∙ (e ∙ ez) }

  pub read-open : first_name ≤ w → first_name ≤ z → w ≡ z → (after : List ℕ) (r : Turn) → ((k : Openable scratch h p q) → PairTurned k.crossed after r) → PairTurned g after r
  unfolding read-openable
  read-open hp hq e after r k = k (read-openable hp hq e)

-- ---- two names that are the same

module _ {scratch : List ℕ} {h : ℕ} {p q : At} (g : Openable scratch h p q) where
  abbrev pub bs : List Binding
  bs = bindings g.crossed.work.ss g.nodes g.crossed.state g.crossed.n

  other_name : first_name ≤ get_or g.nodes q.node 0
  other_name = subst (λ (k : ℕ). first_name ≤ k) g.same g.name

  words-equal : resolve bs (value_of g.crossed.work.ss g.nodes (word_of p.node p.copy)) ≡ resolve bs (value_of g.crossed.work.ss g.nodes (word_of q.node q.copy))
      → PairTurned g.crossed scratch (Ok h)
  words-equal e =
      settle-equal g.crossed
      (ap (resolve bs) (sym (value-word g.crossed.work.ss g.nodes p.node p.copy g.crossed.left.copy))
      ∙ (e ∙ ap (resolve bs) (value-word g.crossed.work.ss g.nodes q.node q.copy g.crossed.right.copy)))

  -- one term
  pub open-same : {x y : ℕ} → x ≡ word_of p.node p.copy → y ≡ word_of q.node q.copy → x ≡ y → PairTurned g.crossed scratch (Ok h)
  open-same a b e = words-equal (ap (λ (k : ℕ). resolve bs (value_of g.crossed.work.ss g.nodes k)) (sym a ∙ (e ∙ b)))

  -- a pair of the memo
  pub open-known : {x y : ℕ} → x ≡ word_of p.node p.copy → y ≡ word_of q.node q.copy → KnownEqual scratch x y → PairTurned g.crossed scratch (Ok h)
  open-known {y = y} a b f = words-equal (memo-found g.crossed.work.ss g.nodes bs scratch g.crossed.work.memo (word_of p.node p.copy) (word_of q.node q.copy) (subst (KnownEqual scratch (word_of p.node p.copy)) b (subst (λ (k : ℕ). KnownEqual scratch k y) a f)))

  -- there is room for the pair
  pub open-fits : suc h ≤ pairs
  open-fits = settle-height g.crossed g.name other_name g.same

  pub open_pushed : (after : List ℕ) → after ≡ pair_words scratch h (inner_row p) (inner_row q) → PairTurned g.crossed after (Ok (h + 1))
  open_pushed = settle-open g.crossed g.name other_name g.same
