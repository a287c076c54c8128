-- Laws of variables that are known to mean the same: the rows of the top pair are moved past them. Assumes nothing.
use Prim.Native.Nat.{ℕ, suc, ◌+◌, ◌-◌, ◌^◌, ◌≤◌, ◌<◌}
use native.Mathlib.Omega.{arith}
use mathlib.Core.Path.{◌≡◌, refl, sym, ap, ap₂, ◌∙◌, subst, subst⁻¹}
use mathlib.Core.Bool.{Bool, true, false}
use mathlib.Core.List.{List}
use mathlib.Core.Logic.{inl, inr}
use lib.Dec.{eqb}
use borrow.Author.Tests.{eqb-true, eqb-false}
use lib.ListN.{length, get_or}
use Rattle.std.proofs.Common.{Ok, Err}
use Rattle.syntax.specs.Words.{first_name}
use Rattle.machine.specs.Substitution.{RTerms, var, Binding, resolve}
use Rattle.run_layout.specs.Regions.{copies, places, cut_list, pairs, pair_of, pair_size, rows, loaded_node}
use Rattle.run_layout.specs.Nodes.{Symbol, Node, Row, term_at, terms_at, count}
use Rattle.run_layout.specs.State.{cell_of, variable_of}
use Rattle.run_layout.proofs.Nodes.{node-inside, node_end, variable-at, variable-size, row_first, row-order}
use Rattle.run_layout.proofs.State.{variable-cell}
use Rattle.run_layout.specs.declared.terms.At.{At}
use Rattle.bindings.specs.declared.stack.Side.{Side}
use Rattle.bindings.specs.Scratch.{left_at, right_at, pair_words, SameMarks}
use Rattle.bindings.specs.Cuts.{KnownSame}
use Rattle.bindings.specs.Chains.{Pairable}
use Rattle.bindings.proofs.Remembering.{memo-kept}
use Rattle.unify.specs.Rows.{unify_rows}
use Rattle.unify.specs.Walks.{RowsBeside, Walkable, StopsAt, Walks}
use Rattle.unify.specs.declared.walk.WalkStop.{WalkStop}
use Rattle.unify.specs.declared.walk.WalkStop.TheVariants.{Met}
use Rattle.unify.specs.Stacks.{end_of, rows_of, no_term}
use Rattle.unify.specs.Turns.{Work, UnifiedOver, bound, over, RowsLeft, Turn, TurnGives, Turnable, Meetable, moved_to}
use Rattle.unify.specs.Shapes.{SafeWork, SafeTurnable, SafeMeetable, SafeCrossable, PairFalls, TurnFalls, NoMoreLeft, TopPair, weight, mass, most_left}
use Rattle.unify.proofs.Rowwise.{right-some}
use Rattle.unify.proofs.Closing.{closes-agree}
use Rattle.unify.proofs.Stacked.{pair-others, pair-marks, pair_left, pair-right, pair-left-others, pair-right-others, rows_agree, stack-agrees}
use Rattle.unify.proofs.Shapes.{power-some, mass-agrees, rows-agreed}
use Rattle.unify.proofs.Turning.{marks-trans, turns-alike, met-same, met_turned, cross-same}
use Rattle.unify.proofs.Safe.{turn-room, safe-met}

-- ---- two terms that are the same

module _ {nodes state scratch : List ℕ} {h : ℕ} {p q : At} (g : SafeCrossable nodes state scratch h p q) where
  pub safe-same : PairFalls g.work scratch (Ok h)
  safe-same = (record { long = refl; words = λ j l. refl }, record { rows = g.work.rows; less = (let s : 0 < weight (h - 1) = power-some most_left (pairs - (h - 1)) (omega arith) in omega arith) })

-- variables known to mean the same do
known-means : (ss : List Symbol) (nodes scratch : List ℕ) (b : List Binding) (p q : At) → Node ss nodes p.node → Node ss nodes q.node → KnownSame nodes scratch p q
    → resolve b (var (variable_of (cell_of p.copy (get_or nodes p.node 0)))) ≡ resolve b (var (variable_of (cell_of q.copy (get_or nodes q.node 0))))
    → resolve b (term_at ss nodes p.node p.copy) ≡ resolve b (term_at ss nodes q.node q.copy)
known-means ss nodes scratch b p q np nq k e = sym (one p np k.left) ∙ (e ∙ one q nq k.right)
  where
    one : (a : At) → Node ss nodes a.node → get_or nodes a.node 0 < first_name → resolve b (var (variable_of (cell_of a.copy (get_or nodes a.node 0)))) ≡ resolve b (term_at ss nodes a.node a.copy)
    one a n l = ap (resolve b) (ap var (variable-cell a.copy (get_or nodes a.node 0) l) ∙ sym (variable-at ss nodes a.node n a.copy l))

-- ---- the words where the top pair is moved on

module _ (scratch : List ℕ) (h : ℕ) (some : 1 ≤ h) (low : h ≤ pairs) (fits : pair_of (h - 1) + pair_size ≤ length scratch) (i j : ℕ) where
  abbrev l1 : Side
  l1 = record (left_at scratch (h - 1)) { at = i }

  abbrev r1 : Side
  r1 = record (right_at scratch (h - 1)) { at = j }

  pub moved-top : left_at (moved_to scratch h i j) (h - 1) ≡ record (left_at scratch (h - 1)) { at = i }
  moved-top = pair_left scratch (h - 1) l1 r1 fits

  pub moved-top-right : right_at (moved_to scratch h i j) (h - 1) ≡ record (right_at scratch (h - 1)) { at = j }
  moved-top-right = pair-right scratch (h - 1) l1 r1 fits

  pub moved-under : (k : ℕ) → k < h - 1 → left_at (moved_to scratch h i j) k ≡ left_at scratch k
  moved-under k o = pair-left-others scratch (h - 1) l1 r1 fits k (λ e. omega arith)

  pub moved-under-right : (k : ℕ) → k < h - 1 → right_at (moved_to scratch h i j) k ≡ right_at scratch k
  moved-under-right k o = pair-right-others scratch (h - 1) l1 r1 fits k (λ e. omega arith)

  pub moved-marks : SameMarks scratch (moved_to scratch h i j)
  moved-marks = pair-marks scratch (h - 1) l1 r1 fits

  pub moved-rest : (x : ℕ) → cut_list ≤ x → get_or (moved_to scratch h i j) x 0 ≡ get_or scratch x 0
  moved-rest x o = pair-others scratch (h - 1) l1 r1 fits x (inr (omega arith))

-- sides that agree below the top, and at the top
by-top : (h : ℕ) (s t : ℕ → Side) → ((k : ℕ) → k < h - 1 → t k ≡ s k) → t (h - 1) ≡ s (h - 1) → (k : ℕ) → k < h → t k ≡ s k
by-top h s t a e k o = go (eqb k (h - 1)) refl
  where
    go : (z : Bool) → eqb k (h - 1) ≡ z → t k ≡ s k
    go true z = subst⁻¹ (λ (m : ℕ). t m ≡ s m) (eqb-true k (h - 1) z) e
    go false z = a k (let v : k ≡ h - 1 → ⊥ = eqb-false k (h - 1) z in omega (arith, v))

-- what is left over the same pairs
left-agrees : (o : UnifiedOver) (ls rs : RTerms) (s t : List ℕ) (h : ℕ) → ((k : ℕ) → k < h → left_at t k ≡ left_at s k) → ((k : ℕ) → k < h → right_at t k ≡ right_at s k) → ((x : ℕ) → cut_list ≤ x → get_or t x 0 ≡ get_or s x 0)
    → RowsLeft o ls rs s h → RowsLeft o ls rs t h
left-agrees o ls rs s t h a c m g =
    record {
      stack = stack-agrees o.ss o.nodes (bound o) o.top (left_at s) (right_at s) (left_at t) (right_at t) h a c g.stack;
      means = g.means ∙ sym (ap₂ (unify_rows (bound o)) (rows_agree o.ss o.nodes (left_at s) (left_at t) h a) (rows_agree o.ss o.nodes (right_at s) (right_at t) h c));
      memo = memo-kept o.ss o.nodes (bound o) s g.memo t m;
      closes = closes-agree o.ss o.nodes (bound o) (left_at s) (right_at s) (left_at t) (right_at t) h no_term no_term a c g.closes;
    }

-- ---- one turn behind another

module _ {nodes state scratch : List ℕ} {n h : ℕ} (w : Work nodes state scratch n h) {mid : List ℕ} (k : TurnGives w mid (Ok h)) where
  abbrev pub work-on : Work nodes state mid n h
  work-on = record { ss = w.ss; top = w.top; store = w.store; within = w.within; roomy = (let e : length mid ≡ length scratch = k.0.long in let o : rows ≤ length scratch = w.roomy in omega arith); stack = k.1.stack; memo = k.1.memo }

  pub then-turned : (after : List ℕ) (t : Turn) → TurnGives work-on after t → TurnGives w after t
  then-turned after t g = (
    marks-trans scratch mid after k.0 g.0,
    turns-alike (over w) (rows_of w.ss nodes (left_at scratch) h) (rows_of w.ss nodes (right_at scratch) h) (rows_of w.ss nodes (left_at mid) h) (rows_of w.ss nodes (right_at mid) h) after t k.1.means g.1,
  )

module _ {nodes state scratch : List ℕ} {n h : ℕ} (w : SafeWork nodes state scratch n h) {mid : List ℕ} (k : NoMoreLeft w mid (Ok h)) where
  abbrev pub safe-on : SafeWork nodes state mid n h
  safe-on = record { ss = w.ss; top = w.top; store = w.store; within = w.within; roomy = (let e : length mid ≡ length scratch = k.0.long in let o : rows ≤ length scratch = w.roomy in omega arith); rows = k.1.rows }

-- ---- the sides where the top pair was moved on twice

module _ (scratch : List ℕ) (h : ℕ) (some : 1 ≤ h) (low : h ≤ pairs) (fits : pair_of (h - 1) + pair_size ≤ length scratch) (i j p q s z : ℕ) (es : s ≡ loaded_node) (ez : z ≡ loaded_node) where
  abbrev pub mid : List ℕ
  mid = moved_to scratch h i j

  abbrev pub twice : List ℕ
  twice = pair_words mid (h - 1) (record (left_at mid (h - 1)) { at = p + s }) (record (right_at mid (h - 1)) { at = q + z })

  mid-fits : pair_of (h - 1) + pair_size ≤ length mid
  mid-fits = let e : length mid ≡ length scratch = (moved-marks scratch h some low fits i j).long in omega arith

  pub twice-left : (k : ℕ) → k < h → left_at (moved_to scratch h (p + loaded_node) (q + loaded_node)) k ≡ left_at twice k
  twice-left =
      by-top h (left_at twice) (left_at (moved_to scratch h (p + loaded_node) (q + loaded_node)))
      (λ k o.
      moved-under scratch h some low fits (p + loaded_node) (q + loaded_node) k o
      ∙ (sym (moved-under scratch h some low fits i j k o) ∙ sym (pair-left-others mid (h - 1) (record (left_at mid (h - 1)) { at = p + s }) (record (right_at mid (h - 1)) { at = q + z }) mid-fits k (λ e. omega arith))))
      (moved-top scratch h some low fits (p + loaded_node) (q + loaded_node)
      ∙ (ap (λ (n : ℕ). record (left_at scratch (h - 1)) { at = p + n }) (sym es)
      ∙ (sym (ap (λ (x : Side). record x { at = p + s }) (moved-top scratch h some low fits i j)) ∙ sym (pair_left mid (h - 1) (record (left_at mid (h - 1)) { at = p + s }) (record (right_at mid (h - 1)) { at = q + z }) mid-fits))))

  pub twice-right : (k : ℕ) → k < h → right_at (moved_to scratch h (p + loaded_node) (q + loaded_node)) k ≡ right_at twice k
  twice-right =
      by-top h (right_at twice) (right_at (moved_to scratch h (p + loaded_node) (q + loaded_node)))
      (λ k o.
      moved-under-right scratch h some low fits (p + loaded_node) (q + loaded_node) k o
      ∙ (sym (moved-under-right scratch h some low fits i j k o) ∙ sym (pair-right-others mid (h - 1) (record (left_at mid (h - 1)) { at = p + s }) (record (right_at mid (h - 1)) { at = q + z }) mid-fits k (λ e. omega arith))))
      (moved-top-right scratch h some low fits (p + loaded_node) (q + loaded_node)
      ∙ (ap (λ (n : ℕ). record (right_at scratch (h - 1)) { at = q + n }) (sym ez)
      ∙ (sym (ap (λ (x : Side). record x { at = q + z }) (moved-top-right scratch h some low fits i j)) ∙ sym (pair-right mid (h - 1) (record (left_at mid (h - 1)) { at = p + s }) (record (right_at mid (h - 1)) { at = q + z }) mid-fits))))

  pub twice-rest : (x : ℕ) → cut_list ≤ x → get_or (moved_to scratch h (p + loaded_node) (q + loaded_node)) x 0 ≡ get_or twice x 0
  twice-rest x o =
      moved-rest scratch h some low fits (p + loaded_node) (q + loaded_node) x o
      ∙ (sym (moved-rest scratch h some low fits i j x o) ∙ sym (pair-others mid (h - 1) (record (left_at mid (h - 1)) { at = p + s }) (record (right_at mid (h - 1)) { at = q + z }) mid-fits x (inr (omega arith))))

-- ---- the walk

module _ {nodes state scratch : List ℕ} {h : ℕ} (g : SafeTurnable nodes state scratch h) where
  abbrev l0 : Side
  l0 = left_at scratch (h - 1)

  abbrev r0 : Side
  r0 = right_at scratch (h - 1)

  pub same-begin : (k : ℕ) → k < h → left_at (moved_to scratch h (left_at scratch (h - 1)).at (right_at scratch (h - 1)).at) k ≡ left_at scratch k
  same-begin = by-top h (left_at scratch) (left_at (moved_to scratch h l0.at r0.at)) (moved-under scratch h g.some (turn-room g).1.0 (turn-room g).1.1 l0.at r0.at) (moved-top scratch h g.some (turn-room g).1.0 (turn-room g).1.1 l0.at r0.at)

  pub same-begin-right : (k : ℕ) → k < h → right_at (moved_to scratch h (left_at scratch (h - 1)).at (right_at scratch (h - 1)).at) k ≡ right_at scratch k
  same-begin-right = by-top h (right_at scratch) (right_at (moved_to scratch h l0.at r0.at)) (moved-under-right scratch h g.some (turn-room g).1.0 (turn-room g).1.1 l0.at r0.at) (moved-top-right scratch h g.some (turn-room g).1.0 (turn-room g).1.1 l0.at r0.at)

  pub safe-begin : NoMoreLeft g.work (moved_to scratch h (left_at scratch (h - 1)).at (right_at scratch (h - 1)).at) (Ok h)
  safe-begin = (
    moved-marks scratch h g.some (turn-room g).1.0 (turn-room g).1.1 l0.at r0.at,
    record {
      rows = rows-agreed g.work.ss nodes g.work.top scratch (moved_to scratch h l0.at r0.at) h same-begin same-begin-right g.work.rows;
      less = (let e : mass nodes (left_at (moved_to scratch h l0.at r0.at)) h ≡ mass nodes (left_at scratch) h = mass-agrees nodes (left_at scratch) (left_at (moved_to scratch h l0.at r0.at)) h same-begin in omega arith);
    },
  )

  top-is : h - 1 < h
  top-is = let s : 1 ≤ h = g.some in omega arith

  module _ (i j : ℕ) (k : NoMoreLeft g.work (moved_to scratch h i j) (Ok h)) where
    abbrev here : SafeWork nodes state (moved_to scratch h i j) g.n h
    here = safe-on g.work k

    top-left : left_at (moved_to scratch h i j) (h - 1) ≡ record (left_at scratch (h - 1)) { at = i }
    top-left = moved-top scratch h g.some (turn-room g).1.0 (turn-room g).1.1 i j

    top-right : right_at (moved_to scratch h i j) (h - 1) ≡ record (right_at scratch (h - 1)) { at = j }
    top-right = moved-top-right scratch h g.some (turn-room g).1.0 (turn-room g).1.1 i j

    pub walk-beside : RowsBeside g.work.ss nodes i (end_of nodes (left_at scratch (h - 1))) j (end_of nodes (right_at scratch (h - 1)))
    walk-beside =
        record {
          left = subst (λ (x : Side). Row g.work.ss nodes x.at (end_of nodes x)) top-left (k.1.rows.left.row (h - 1) top-is);
          right = subst (λ (x : Side). Row g.work.ss nodes x.at (end_of nodes x)) top-right (k.1.rows.right.row (h - 1) top-is);
          same = λ c d. ap (λ (x : Side). count (terms_at g.work.ss nodes x.at (end_of nodes x) c)) (sym top-left) ∙ (k.1.rows.same (h - 1) top-is c d ∙ ap (λ (x : Side). count (terms_at g.work.ss nodes x.at (end_of nodes x) d)) top-right);
        }

    module _ {p q : ℕ} (m : StopsAt g.work.ss nodes i (end_of nodes (left_at scratch (h - 1))) j (end_of nodes (right_at scratch (h - 1))) p q) where
      pub stop-here : StopsAt g.work.ss nodes (left_at (moved_to scratch h i j) (h - 1)).at (end_of nodes (left_at (moved_to scratch h i j) (h - 1))) (right_at (moved_to scratch h i j) (h - 1)).at (end_of nodes (right_at (moved_to scratch h i j) (h - 1))) p q
      stop-here =
          subst⁻¹ (λ (x : Side). StopsAt g.work.ss nodes x.at (end_of nodes x) (right_at (moved_to scratch h i j) (h - 1)).at (end_of nodes (right_at (moved_to scratch h i j) (h - 1))) p q) top-left
          (subst⁻¹ (λ (y : Side). StopsAt g.work.ss nodes i (end_of nodes (left_at scratch (h - 1))) y.at (end_of nodes y) p q) top-right m)

      abbrev pub meetable : SafeMeetable nodes state (moved_to scratch h i j) h (record (left_at (moved_to scratch h i j) (h - 1)) { at = p }) (record (right_at (moved_to scratch h i j) (h - 1)) { at = q })
      meetable = record { n = g.n; work = here; some = g.some; left_is = refl; right_is = refl; meets = stop-here }

      pub left-node : Node g.work.ss nodes p
      left-node = row_first g.work.ss nodes p (end_of nodes (left_at scratch (h - 1))) m.beside.left m.some

      pub right-node : Node g.work.ss nodes q
      right-node = row_first g.work.ss nodes q (end_of nodes (right_at scratch (h - 1))) m.beside.right (right-some nodes p (end_of nodes (left_at scratch (h - 1))) q (record { ss = g.work.ss; f = end_of nodes (right_at scratch (h - 1)); beside = m.beside }) m.some)

      pub stop-pairable : Pairable nodes scratch (record { node = p; copy = (left_at scratch (h - 1)).copy }) (record { node = q; copy = (right_at scratch (h - 1)).copy })
      stop-pairable =
          record {
            inside = (let a : p + loaded_node ≤ length nodes = node-inside g.work.ss nodes p left-node in omega arith);
            inside_right = (let a : q + loaded_node ≤ length nodes = node-inside g.work.ss nodes q right-node in omega arith);
            copy = g.work.rows.left.copy (h - 1) top-is;
            copy_right = g.work.rows.right.copy (h - 1) top-is;
            roomy = g.work.roomy;
          }

      module _ (same : KnownSame nodes scratch (record { node = p; copy = (left_at scratch (h - 1)).copy }) (record { node = q; copy = (right_at scratch (h - 1)).copy })) where
        pub size-left : get_or nodes (p + 1) 0 ≡ loaded_node
        size-left = variable-size g.work.ss nodes p left-node same.left

        pub size-right : get_or nodes (q + 1) 0 ≡ loaded_node
        size-right = variable-size g.work.ss nodes q right-node same.right

        abbrev pub passed : List ℕ
        passed = twice scratch h g.some (turn-room g).1.0 (turn-room g).1.1 i j p q (get_or nodes (p + 1) 0) (get_or nodes (q + 1) 0) size-left size-right

        pub passed-left : (n : ℕ) → n < h → left_at (moved_to scratch h (p + loaded_node) (q + loaded_node)) n ≡ left_at passed n
        passed-left = twice-left scratch h g.some (turn-room g).1.0 (turn-room g).1.1 i j p q (get_or nodes (p + 1) 0) (get_or nodes (q + 1) 0) size-left size-right

        pub passed-right : (n : ℕ) → n < h → right_at (moved_to scratch h (p + loaded_node) (q + loaded_node)) n ≡ right_at passed n
        passed-right = twice-right scratch h g.some (turn-room g).1.0 (turn-room g).1.1 i j p q (get_or nodes (p + 1) 0) (get_or nodes (q + 1) 0) size-left size-right

        pub passed-rest : (x : ℕ) → cut_list ≤ x → get_or (moved_to scratch h (p + loaded_node) (q + loaded_node)) x 0 ≡ get_or passed x 0
        passed-rest = twice-rest scratch h g.some (turn-room g).1.0 (turn-room g).1.1 i j p q (get_or nodes (p + 1) 0) (get_or nodes (q + 1) 0) size-left size-right

        pub passed-marks : SameMarks scratch (moved_to scratch h (p + loaded_node) (q + loaded_node))
        passed-marks = moved-marks scratch h g.some (turn-room g).1.0 (turn-room g).1.1 (p + loaded_node) (q + loaded_node)

        pub safe-next : NoMoreLeft g.work (moved_to scratch h (p + loaded_node) (q + loaded_node)) (Ok h)
        safe-next =
            let f : TurnFalls here passed (Ok h) = safe-met meetable refl refl refl passed (Ok h) (λ v. safe-same v) in
            let e : mass nodes (left_at (moved_to scratch h (p + loaded_node) (q + loaded_node))) h ≡ mass nodes (left_at passed) h = mass-agrees nodes (left_at passed) (left_at (moved_to scratch h (p + loaded_node) (q + loaded_node))) h passed-left in
            let x : mass nodes (left_at passed) h < mass nodes (left_at (moved_to scratch h i j)) h = f.1.less in
            let y : mass nodes (left_at (moved_to scratch h i j)) h < suc (mass nodes (left_at scratch) h) = k.1.less in
            (passed-marks, record { rows = rows-agreed g.work.ss nodes g.work.top passed (moved_to scratch h (p + loaded_node) (q + loaded_node)) h passed-left passed-right f.1.rows; less = omega arith })

-- the same, where no binding closes a cycle
module _ {nodes state other scratch : List ℕ} {h : ℕ} (g : Turnable nodes state scratch h) (s : SafeTurnable nodes other scratch h) where
  pub means-begin : TurnGives g.work (moved_to scratch h (left_at scratch (h - 1)).at (right_at scratch (h - 1)).at) (Ok h)
  means-begin = (
    (safe-begin s).0,
    left-agrees (over g.work) (rows_of g.work.ss nodes (left_at scratch) h) (rows_of g.work.ss nodes (right_at scratch) h) scratch (moved_to scratch h (left_at scratch (h - 1)).at (right_at scratch (h - 1)).at) h (same-begin s) (same-begin-right s)
        (moved-rest scratch h g.some (turn-room s).1.0 (turn-room s).1.1 (left_at scratch (h - 1)).at (right_at scratch (h - 1)).at)
        (record { stack = g.work.stack; means = refl; memo = g.work.memo; closes = g.closes }),
  )

  module _ (i j : ℕ) (k : TurnGives g.work (moved_to scratch h i j) (Ok h)) where
    first-left : left_at (moved_to scratch h i j) (h - 1) ≡ record (left_at scratch (h - 1)) { at = i }
    first-left = moved-top scratch h g.some (turn-room s).1.0 (turn-room s).1.1 i j

    first-right : right_at (moved_to scratch h i j) (h - 1) ≡ record (right_at scratch (h - 1)) { at = j }
    first-right = moved-top-right scratch h g.some (turn-room s).1.0 (turn-room s).1.1 i j

    pub means-beside : RowsBeside g.work.ss nodes i (end_of nodes (left_at scratch (h - 1))) j (end_of nodes (right_at scratch (h - 1)))
    means-beside =
        record {
          left = subst (λ (x : Side). Row g.work.ss nodes x.at (end_of nodes x)) first-left (k.1.stack.left.row (h - 1) (top-is s));
          right = subst (λ (x : Side). Row g.work.ss nodes x.at (end_of nodes x)) first-right (k.1.stack.right.row (h - 1) (top-is s));
          same = λ c d. ap (λ (x : Side). count (terms_at g.work.ss nodes x.at (end_of nodes x) c)) (sym first-left) ∙ (k.1.stack.same (h - 1) (top-is s) c d ∙ ap (λ (x : Side). count (terms_at g.work.ss nodes x.at (end_of nodes x) d)) first-right);
        }

    module _ {p q : ℕ} (m : StopsAt g.work.ss nodes i (end_of nodes (left_at scratch (h - 1))) j (end_of nodes (right_at scratch (h - 1))) p q)
        (same : KnownSame nodes scratch (record { node = p; copy = (left_at scratch (h - 1)).copy }) (record { node = q; copy = (right_at scratch (h - 1)).copy })) where
      node-left : Node g.work.ss nodes p
      node-left = row_first g.work.ss nodes p (end_of nodes (left_at scratch (h - 1))) m.beside.left m.some

      node-right : Node g.work.ss nodes q
      node-right = row_first g.work.ss nodes q (end_of nodes (right_at scratch (h - 1))) m.beside.right (right-some nodes p (end_of nodes (left_at scratch (h - 1))) q (record { ss = g.work.ss; f = end_of nodes (right_at scratch (h - 1)); beside = m.beside }) m.some)

      es : get_or nodes (p + 1) 0 ≡ loaded_node
      es = variable-size g.work.ss nodes p node-left same.left

      ez : get_or nodes (q + 1) 0 ≡ loaded_node
      ez = variable-size g.work.ss nodes q node-right same.right

      stop : StopsAt g.work.ss nodes (left_at (moved_to scratch h i j) (h - 1)).at (end_of nodes (left_at (moved_to scratch h i j) (h - 1))) (right_at (moved_to scratch h i j) (h - 1)).at (end_of nodes (right_at (moved_to scratch h i j) (h - 1))) p q
      stop =
          subst⁻¹ (λ (x : Side). StopsAt g.work.ss nodes x.at (end_of nodes x) (right_at (moved_to scratch h i j) (h - 1)).at (end_of nodes (right_at (moved_to scratch h i j) (h - 1))) p q) first-left
          (subst⁻¹ (λ (y : Side). StopsAt g.work.ss nodes i (end_of nodes (left_at scratch (h - 1))) y.at (end_of nodes y) p q) first-right m)

      alike : resolve (bound (over g.work)) (term_at g.work.ss nodes p (left_at (moved_to scratch h i j) (h - 1)).copy) ≡ resolve (bound (over g.work)) (term_at g.work.ss nodes q (right_at (moved_to scratch h i j) (h - 1)).copy)
      alike =
          subst⁻¹ (λ (x : Side). resolve (bound (over g.work)) (term_at g.work.ss nodes p x.copy) ≡ resolve (bound (over g.work)) (term_at g.work.ss nodes q (right_at (moved_to scratch h i j) (h - 1)).copy)) first-left
          (subst⁻¹ (λ (y : Side). resolve (bound (over g.work)) (term_at g.work.ss nodes p (left_at scratch (h - 1)).copy) ≡ resolve (bound (over g.work)) (term_at g.work.ss nodes q y.copy)) first-right
          (known-means g.work.ss nodes scratch (bound (over g.work)) (record { node = p; copy = (left_at scratch (h - 1)).copy }) (record { node = q; copy = (right_at scratch (h - 1)).copy }) node-left node-right same (same.cut.is (bound (over g.work)) g.work.memo.cuts)))

      abbrev past : List ℕ
      past = twice scratch h g.some (turn-room s).1.0 (turn-room s).1.1 i j p q (get_or nodes (p + 1) 0) (get_or nodes (q + 1) 0) es ez

      turned : TurnGives g.work past (Ok h)
      turned = then-turned g.work k past (Ok h) (met-same (work-on g.work k) g.some stop (λ o. inl same.left) k.1.closes alike)

      pub means-next : TurnGives g.work (moved_to scratch h (p + loaded_node) (q + loaded_node)) (Ok h)
      means-next = (
        moved-marks scratch h g.some (turn-room s).1.0 (turn-room s).1.1 (p + loaded_node) (q + loaded_node),
        left-agrees (over g.work) (rows_of g.work.ss nodes (left_at scratch) h) (rows_of g.work.ss nodes (right_at scratch) h) past (moved_to scratch h (p + loaded_node) (q + loaded_node)) h
            (twice-left scratch h g.some (turn-room s).1.0 (turn-room s).1.1 i j p q (get_or nodes (p + 1) 0) (get_or nodes (q + 1) 0) es ez)
            (twice-right scratch h g.some (turn-room s).1.0 (turn-room s).1.1 i j p q (get_or nodes (p + 1) 0) (get_or nodes (q + 1) 0) es ez)
            (twice-rest scratch h g.some (turn-room s).1.0 (turn-room s).1.1 i j p q (get_or nodes (p + 1) 0) (get_or nodes (q + 1) 0) es ez) turned.1,
      )

-- ---- the same, over the sides as they are read

module _ {nodes scratch : List ℕ} {h : ℕ} {l r : Side} (t : TopPair nodes scratch h l r) where
  abbrev top-l : Side
  top-l = left_at scratch (h - 1)

  abbrev top-r : Side
  top-r = right_at scratch (h - 1)

  pub begins-safe : (state : List ℕ) (s : SafeTurnable nodes state scratch h) → NoMoreLeft s.work (moved_to scratch h l.at r.at) (Ok h)
  begins-safe state s =
      subst⁻¹ (λ (x : Side). NoMoreLeft s.work (moved_to scratch h x.at r.at) (Ok h)) t.left_is (subst⁻¹ (λ (y : Side). NoMoreLeft s.work (moved_to scratch h top-l.at y.at) (Ok h)) t.right_is (safe-begin s))

  pub begins-means : (state : List ℕ) (g : Turnable nodes state scratch h) → TurnGives g.work (moved_to scratch h l.at r.at) (Ok h)
  begins-means state g =
      subst⁻¹ (λ (x : Side). TurnGives g.work (moved_to scratch h x.at r.at) (Ok h)) t.left_is (subst⁻¹ (λ (y : Side). TurnGives g.work (moved_to scratch h top-l.at y.at) (Ok h)) t.right_is (means-begin g t.given))

  module _ {size : ℕ} (es : size ≡ get_or nodes (l.root + 1) 0) where
    end-is : l.root + size ≡ end_of nodes top-l
    end-is = ap (λ (n : ℕ). l.root + n) es ∙ ap (end_of nodes) t.left_is

    module _ {i j : ℕ} (k : (state : List ℕ) (s : SafeTurnable nodes state scratch h) → NoMoreLeft s.work (moved_to scratch h i j) (Ok h)) where
      pub places-walk : Walkable nodes i (l.root + size) j
      places-walk = subst⁻¹ (λ (e : ℕ). Walkable nodes i e j) end-is (record { ss = t.given.work.ss; f = end_of nodes top-r; beside = walk-beside t.given i j (k t.state t.given) })

      module _ {f : WalkStop} {p q : ℕ} (d : f ≡ Met p q) (m : (v : Walkable nodes i (l.root + size) j) → Walks v.ss nodes i (l.root + size) j v.f (Err f)) where
        stops : (v : Walkable nodes i (end_of nodes top-l) j) → StopsAt v.ss nodes i (end_of nodes top-l) j v.f p q
        stops = subst (λ (e : ℕ). (v : Walkable nodes i e j) → StopsAt v.ss nodes i e j v.f p q) end-is (λ v. subst (λ (x : WalkStop). Walks v.ss nodes i (l.root + size) j v.f (Err x)) d (m v))

        stops-safe : (state : List ℕ) (s : SafeTurnable nodes state scratch h) → StopsAt s.work.ss nodes i (end_of nodes top-l) j (end_of nodes top-r) p q
        stops-safe state s = stops (record { ss = s.work.ss; f = end_of nodes top-r; beside = walk-beside s i j (k state s) })

        pub places-same : Pairable nodes scratch (record { node = p; copy = l.copy }) (record { node = q; copy = r.copy })
        places-same =
            subst⁻¹ (λ (x : Side). Pairable nodes scratch (record { node = p; copy = x.copy }) (record { node = q; copy = r.copy })) t.left_is
            (subst⁻¹ (λ (y : Side). Pairable nodes scratch (record { node = p; copy = top-l.copy }) (record { node = q; copy = y.copy })) t.right_is (stop-pairable t.given i j (k t.state t.given) (stops-safe t.state t.given)))

        pub places-fit : (p + loaded_node ≤ places) × (q + loaded_node ≤ places)
        places-fit =
            let a : p + loaded_node ≤ length nodes = node-inside t.given.work.ss nodes p (left-node t.given i j (k t.state t.given) (stops-safe t.state t.given)) in
            let b : q + loaded_node ≤ length nodes = node-inside t.given.work.ss nodes q (right-node t.given i j (k t.state t.given) (stops-safe t.state t.given)) in
            let c : length nodes ≤ places = t.given.work.store.small in
            (omega arith, omega arith)

        pub places-fall : l.root + size - (p + loaded_node) < l.root + size - i
        places-fall =
            let a : p < end_of nodes top-l = (stops-safe t.state t.given).some in
            let b : i ≤ p = (stops-safe t.state t.given).forward in
            let e : l.root + size ≡ end_of nodes top-l = end-is in
            omega arith

        module _ (same : KnownSame nodes scratch (record { node = p; copy = l.copy }) (record { node = q; copy = r.copy })) where
          same-top : KnownSame nodes scratch (record { node = p; copy = top-l.copy }) (record { node = q; copy = top-r.copy })
          same-top =
              subst (λ (x : Side). KnownSame nodes scratch (record { node = p; copy = x.copy }) (record { node = q; copy = top-r.copy })) t.left_is
              (subst (λ (y : Side). KnownSame nodes scratch (record { node = p; copy = l.copy }) (record { node = q; copy = y.copy })) t.right_is same)

          pub nexts-safe : (state : List ℕ) (s : SafeTurnable nodes state scratch h) → NoMoreLeft s.work (moved_to scratch h (p + loaded_node) (q + loaded_node)) (Ok h)
          nexts-safe state s = safe-next s i j (k state s) (stops-safe state s) same-top

          pub nexts-means : ((state : List ℕ) (g : Turnable nodes state scratch h) → TurnGives g.work (moved_to scratch h i j) (Ok h)) → (state : List ℕ) (g : Turnable nodes state scratch h) → TurnGives g.work (moved_to scratch h (p + loaded_node) (q + loaded_node)) (Ok h)
          nexts-means f state g = means-next g t.given i j (f state g) (stops (record { ss = g.work.ss; f = end_of nodes top-r; beside = means-beside g t.given i j (f state g) })) same-top

-- the words that are written in the end
module _ {nodes state scratch : List ℕ} {h : ℕ} (g : SafeTurnable nodes state scratch h) {l r : Side} (el : l ≡ left_at scratch (h - 1)) (er : r ≡ right_at scratch (h - 1)) where
  pub written-is : (i j : ℕ) {after : List ℕ} → after ≡ pair_words scratch (h - 1) (record l { at = i }) (record r { at = j }) → after ≡ moved_to scratch h i j
  written-is i j e = e ∙ ap₂ (λ (x y : Side). pair_words scratch (h - 1) (record x { at = i }) (record y { at = j })) el er

module _ {nodes scratch : List ℕ} {h : ℕ} (t : (state : List ℕ) × SafeTurnable nodes state scratch h) {l r : Side} (el : l ≡ left_at scratch (h - 1)) (er : r ≡ right_at scratch (h - 1)) where
  pub top-read : TopPair nodes scratch h l r
  top-read = record { state = t.0; given = t.1; left_is = el; right_is = er }

  pub written-fits : (i j : ℕ) → ((state : List ℕ) (s : SafeTurnable nodes state scratch h) → NoMoreLeft s.work (moved_to scratch h i j) (Ok h))
      → (pair_of (h - 1) + pair_size ≤ length scratch) × (((l.root < 2 ^ 32) × ((i < 2 ^ 32) × (l.copy < 2 ^ 32))) × ((r.root < 2 ^ 32) × ((j < 2 ^ 32) × (r.copy < 2 ^ 32))))
  written-fits i j k =
      let b : RowsBeside t.1.work.ss nodes i (end_of nodes (left_at scratch (h - 1))) j (end_of nodes (right_at scratch (h - 1))) = walk-beside t.1 i j (k t.0 t.1) in
      let under : h - 1 < h = top-is t.1 in
      let small : length nodes ≤ places = t.1.work.store.small in
      let a : (left_at scratch (h - 1)).root + loaded_node ≤ length nodes = node-inside t.1.work.ss nodes (left_at scratch (h - 1)).root (t.1.work.rows.left.node (h - 1) under) in
      let c : (right_at scratch (h - 1)).root + loaded_node ≤ length nodes = node-inside t.1.work.ss nodes (right_at scratch (h - 1)).root (t.1.work.rows.right.node (h - 1) under) in
      let x : end_of nodes (left_at scratch (h - 1)) ≤ length nodes = node_end t.1.work.ss nodes (left_at scratch (h - 1)).root (t.1.work.rows.left.node (h - 1) under) in
      let y : end_of nodes (right_at scratch (h - 1)) ≤ length nodes = node_end t.1.work.ss nodes (right_at scratch (h - 1)).root (t.1.work.rows.right.node (h - 1) under) in
      let i1 : i ≤ end_of nodes (left_at scratch (h - 1)) = row-order t.1.work.ss nodes i (end_of nodes (left_at scratch (h - 1))) b.left in
      let j1 : j ≤ end_of nodes (right_at scratch (h - 1)) = row-order t.1.work.ss nodes j (end_of nodes (right_at scratch (h - 1))) b.right in
      let d : (left_at scratch (h - 1)).copy < copies = t.1.work.rows.left.copy (h - 1) under in
      let e : (right_at scratch (h - 1)).copy < copies = t.1.work.rows.right.copy (h - 1) under in
      let la : l.root ≡ (left_at scratch (h - 1)).root = ap (λ (z : Side). z.root) el in
      let lb : l.copy ≡ (left_at scratch (h - 1)).copy = ap (λ (z : Side). z.copy) el in
      let ra : r.root ≡ (right_at scratch (h - 1)).root = ap (λ (z : Side). z.root) er in
      let rb : r.copy ≡ (right_at scratch (h - 1)).copy = ap (λ (z : Side). z.copy) er in
      ((turn-room t.1).1.1, ((omega arith, (omega arith, omega arith)), (omega arith, (omega arith, omega arith))))

-- what is promised of the words, of these that are the same
pub moved-means : {nodes state scratch after to : List ℕ} {h : ℕ} (g : Turnable nodes state scratch h) → after ≡ to → TurnGives g.work to (Ok h) → TurnGives g.work after (Ok h)
moved-means {h = h} g e k = subst⁻¹ (λ (x : List ℕ). TurnGives g.work x (Ok h)) e k

pub moved-safe : {nodes state scratch after to : List ℕ} {h : ℕ} (s : SafeTurnable nodes state scratch h) → after ≡ to → NoMoreLeft s.work to (Ok h) → NoMoreLeft s.work after (Ok h)
moved-safe {h = h} s e k = subst⁻¹ (λ (x : List ℕ). NoMoreLeft s.work x (Ok h)) e k

-- ---- the terms that are met, known to mean the same

module _ {nodes state scratch : List ℕ} {h : ℕ} {p q : At} (g : SafeCrossable nodes state scratch h p q) where
  pub crossed-pairable : Pairable nodes scratch p q
  crossed-pairable =
      record {
        inside = (let a : p.node + loaded_node ≤ length nodes = node-inside g.work.ss nodes p.node g.left in omega arith);
        inside_right = (let a : q.node + loaded_node ≤ length nodes = node-inside g.work.ss nodes q.node g.right in omega arith);
        copy = g.copy;
        copy_right = g.copy_right;
        roomy = g.work.roomy;
      }

  abbrev pub crossed-turnable : SafeTurnable nodes state scratch h
  crossed-turnable = record { n = g.n; work = g.work; some = g.some }

  pub falls-past : {after : List ℕ} → NoMoreLeft g.work after (Ok h) → PairFalls g.work after (Ok h)
  falls-past {after} k = (k.0, record { rows = k.1.rows; less = (let s : 0 < weight (h - 1) = power-some most_left (pairs - (h - 1)) (omega arith) in let x : mass nodes (left_at after) h < suc (mass nodes (left_at scratch) h) = k.1.less in omega arith) })

module _ {nodes state scratch : List ℕ} {h : ℕ} {l r : Side} (g : Meetable nodes state scratch h l r) {s z : ℕ} (es : s ≡ get_or nodes (l.at + 1) 0) (ez : z ≡ get_or nodes (r.at + 1) 0) {mid : List ℕ} (e : mid ≡ pair_words scratch (h - 1) (record l { at = l.at + s }) (record r { at = r.at + z })) where
  pub met-passed : KnownSame nodes mid (record { node = l.at; copy = l.copy }) (record { node = r.at; copy = r.copy }) → (after : List ℕ) → ((v : Turnable nodes state mid h) → TurnGives v.work after (Ok h)) → TurnGives g.work after (Ok h)
  met-passed same after f =
      let k : TurnGives g.work mid (Ok h) = met_turned g es ez e mid (Ok h) (λ v. cross-same v (known-means v.work.ss nodes mid (bound (over v.work)) (record { node = l.at; copy = l.copy }) (record { node = r.at; copy = r.copy }) v.left v.right same (same.cut.is (bound (over v.work)) v.work.memo.cuts))) in
      then-turned g.work k after (Ok h) (f (record { n = g.n; work = work-on g.work k; some = g.some; closes = k.1.closes }))
