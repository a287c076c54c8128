-- What functions ask and leave whether bindings close a cycle or not: rows of the stack, and how much is left of them. Assumes nothing.
use Prim.Native.Nat.{ℕ, suc, ◌+◌, ◌-◌, ◌≤◌, ◌<◌, ◌^◌}
use native.Mathlib.Omega.{arith}
use mathlib.Core.Path.{◌≡◌, refl, sym, ap, ◌∙◌, subst, subst⁻¹}
use mathlib.Core.Bool.{false}
use mathlib.Core.List.{List}
use lib.ListN.{length, get_or}
use Rattle.syntax.specs.Words.{first_name}
use Rattle.std.proofs.Common.{Ok, Err}
use Rattle.run_layout.specs.Regions.{copies, places, store_words, pairs, pair_of, rows, loaded_node, pair_size}
use Rattle.run_layout.specs.Nodes.{Node, Row, terms_at, count}
use Rattle.run_layout.specs.State.{cell_of}
use Rattle.run_layout.proofs.Nodes.{node-inside, node_end, node-size, row_first, row-rest, row-order, row_cons, same_count, compound-row}
use Rattle.run_layout.proofs.State.{cell-small}
use Rattle.run_layout.specs.declared.terms.At.{At}
use Rattle.bindings.specs.declared.stack.Side.{Side}
use Rattle.bindings.specs.declared.shortcuts.Ends.{Ends}
use Rattle.bindings.specs.Memos.{Remembers}
use Rattle.bindings.specs.Scratch.{left_at, right_at, pair_words, SameMarks}
use Rattle.bindings.specs.Chains.{Both, BothFollowed}
use Rattle.unify.specs.Walks.{RowsBeside, Walkable, StopsAt, Walks, RowsWalked}
use Rattle.unify.specs.declared.walk.WalkStop.{WalkStop}
use Rattle.unify.specs.declared.walk.WalkStop.TheVariants.{Met}
use Rattle.unify.specs.Stacks.{inner_row, end_of}
use Rattle.unify.specs.Turns.{Turn, Dereferenced}
use Rattle.unify.specs.declared.solve.TurnStop.TheVariants.{Clash, Bind}
use Rattle.unify.specs.Shapes.{SideRows, StackRows, most_left, weight, mass, SafeTurnable, SafeMeetable, SafePassable, SafeCrossable, SafeCrossed, SafeOpenable, SafeTurned, TurnFalls, PairFalls}
use Rattle.unify.proofs.Rowwise.{right-some, count-one}
use Rattle.unify.proofs.Stacked.{pair-marks, pair_left, pair-right, pair-left-others, pair-right-others, left-front, right-front}
use Rattle.unify.proofs.Shapes.{power-some, mass-agrees, mass-popped, mass-moved, mass-pushed, rows-agreed, rows-less, rows-topped}

-- ---- one turn

module _ {nodes state scratch : List ℕ} {h : ℕ} (g : SafeTurnable nodes state scratch h) where
  pub turn-room : (1 ≤ h) × ((h ≤ pairs) × (pair_of (h - 1) + pair_size ≤ length scratch))
  turn-room =
      let k : h ≤ pairs = g.work.rows.low in
      let o : rows ≤ length scratch = g.work.roomy in
      let s : 1 ≤ h = g.some in
      (s, (k, omega arith))

  module _ {l r : Side} (el : l ≡ left_at scratch (h - 1)) (er : r ≡ right_at scratch (h - 1)) where
    top-under : h - 1 < h
    top-under = let s : 1 ≤ h = g.some in omega arith

    left-root : Node g.work.ss nodes l.root
    left-root = subst⁻¹ (λ (x : Side). Node g.work.ss nodes x.root) el (g.work.rows.left.node (h - 1) top-under)

    pub turn_inside : (l.root + 1 < length nodes) × (l.root + get_or nodes (l.root + 1) 0 ≤ length nodes)
    turn_inside = let a : l.root + loaded_node ≤ length nodes = node-inside g.work.ss nodes l.root left-root in let c : l.root + get_or nodes (l.root + 1) 0 ≤ length nodes = node_end g.work.ss nodes l.root left-root in (omega arith, c)

    beside : RowsBeside g.work.ss nodes l.at (end_of nodes l) r.at (end_of nodes r)
    beside =
        record {
          left = subst⁻¹ (λ (x : Side). Row g.work.ss nodes x.at (end_of nodes x)) el (g.work.rows.left.row (h - 1) top-under);
          right = subst⁻¹ (λ (x : Side). Row g.work.ss nodes x.at (end_of nodes x)) er (g.work.rows.right.row (h - 1) top-under);
          same = λ i j. ap (λ (x : Side). count (terms_at g.work.ss nodes x.at (end_of nodes x) i)) el ∙ (g.work.rows.same (h - 1) top-under i j ∙ sym (ap (λ (x : Side). count (terms_at g.work.ss nodes x.at (end_of nodes x) j)) er));
        }

    pub turn-pass : SafePassable scratch h l r
    turn-pass = record { nodes = nodes; state = state; n = g.n; work = g.work; some = g.some; left_is = el; right_is = er }

    pub safe-turn-done : (after : List ℕ) (t : Turn) → ((v : SafePassable scratch h l r) → TurnFalls v.work after t) → TurnFalls g.work after t
    unfolding turn-pass
    safe-turn-done after t k = k turn-pass

    pub safe-turn-clash : TurnFalls g.work scratch (Err Clash)
    safe-turn-clash = (record { long = refl; words = λ j i. refl }, tt)

    module _ {s : ℕ} (es : s ≡ get_or nodes (l.root + 1) 0) where
      pub turn-walk : Walkable nodes l.at (l.root + s) r.at
      turn-walk = subst⁻¹ (λ (k : ℕ). Walkable nodes l.at (l.root + k) r.at) es (record { ss = g.work.ss; f = end_of nodes r; beside = beside })

      module _ (o : RowsWalked) (k : (v : Walkable nodes l.at (l.root + s) r.at) → Walks v.ss nodes l.at (l.root + s) r.at v.f o) where
        walked : Walks g.work.ss nodes l.at (end_of nodes l) r.at (end_of nodes r) o
        walked = subst (λ (i : ℕ). (v : Walkable nodes l.at (l.root + i) r.at) → Walks v.ss nodes l.at (l.root + i) r.at v.f o) es k (record { ss = g.work.ss; f = end_of nodes r; beside = beside })

        pub turn-met : {p q : ℕ} {f : WalkStop} → o ≡ Err f → f ≡ Met p q → SafeMeetable nodes state scratch h (record l { at = p }) (record r { at = q })
        turn-met {p} {q} e d =
            record {
              n = g.n;
              work = g.work;
              some = g.some;
              left_is = ap (λ (s : Side). record s { at = p }) el;
              right_is = ap (λ (s : Side). record s { at = q }) er;
              meets = subst (λ (y : Side). StopsAt g.work.ss nodes (left_at scratch (h - 1)).at (end_of nodes (left_at scratch (h - 1))) y.at (end_of nodes y) p q) er
                  (subst (λ (x : Side). StopsAt g.work.ss nodes x.at (end_of nodes x) r.at (end_of nodes r) p q) el
                  (subst (Walks g.work.ss nodes l.at (end_of nodes l) r.at (end_of nodes r)) (e ∙ ap Err d) walked));
            }

        pub safe-turn-met : {p q : ℕ} {f : WalkStop} (e : o ≡ Err f) (d : f ≡ Met p q) (after : List ℕ) (t : Turn) → ((v : SafeMeetable nodes state scratch h (record l { at = p }) (record r { at = q })) → TurnFalls v.work after t) → TurnFalls g.work after t
        unfolding turn-met
        safe-turn-met e d after t k = k (turn-met e d)

-- ---- the top pair done

module _ {scratch : List ℕ} {h : ℕ} {l r : Side} (g : SafePassable scratch h l r) where
  top-is : h - 1 < h
  top-is = let s : 1 ≤ h = g.some in omega arith

  pub pass-small : ((l.root < places) × (r.root < places)) × (((l.copy < copies) × (r.copy < copies)) × ((rows ≤ length scratch) × (1 ≤ h)))
  pass-small =
      let a : l.root + loaded_node ≤ length g.nodes = node-inside g.work.ss g.nodes l.root (subst⁻¹ (λ (x : Side). Node g.work.ss g.nodes x.root) g.left_is (g.work.rows.left.node (h - 1) top-is)) in
      let b : r.root + loaded_node ≤ length g.nodes = node-inside g.work.ss g.nodes r.root (subst⁻¹ (λ (x : Side). Node g.work.ss g.nodes x.root) g.right_is (g.work.rows.right.node (h - 1) top-is)) in
      let s : length g.nodes ≤ places = g.work.store.small in (
        (omega arith, omega arith),
        (
          (subst⁻¹ (λ (x : Side). x.copy < copies) g.left_is (g.work.rows.left.copy (h - 1) top-is), subst⁻¹ (λ (x : Side). x.copy < copies) g.right_is (g.work.rows.right.copy (h - 1) top-is)),
          (g.work.roomy, g.some),
        ),
      )

  pub safe-passed : {after : List ℕ} {x y : ℕ} → Remembers scratch after x y → TurnFalls g.work after (Ok (h - 1))
  safe-passed {after} k = (
    record { long = k.long; words = λ j i. k.words j (omega arith) },
    record {
      rows = rows-agreed g.work.ss g.nodes g.work.top scratch after (h - 1) left-under right-under (rows-less g.work.ss g.nodes g.work.top scratch h (h - 1) (omega arith) g.work.rows);
      less = mass-popped g.nodes (left_at scratch) (left_at after) h g.some left-under;
    },
  )
    where
      left-under : (i : ℕ) → i < h - 1 → left_at after i ≡ left_at scratch i
      left-under i o = left-front scratch after (λ j w1. k.words j (omega arith)) i (let z : h ≤ pairs = g.work.rows.low in omega arith)

      right-under : (i : ℕ) → i < h - 1 → right_at after i ≡ right_at scratch i
      right-under i o = right-front scratch after (λ j w1. k.words j (omega arith)) i (let z : h ≤ pairs = g.work.rows.low in omega arith)

-- ---- the top pair moved past the crossing

module _ {nodes state scratch : List ℕ} {h : ℕ} {l r : Side} (g : SafeMeetable nodes state scratch h l r) where
  abbrev pub l0 : Side
  l0 = left_at scratch (h - 1)

  abbrev pub r0 : Side
  r0 = right_at scratch (h - 1)

  under : h - 1 < h
  under = let s : 1 ≤ h = g.some in omega arith

  fits : pair_of (h - 1) + pair_size ≤ length scratch
  fits = let k : h ≤ pairs = g.work.rows.low in let o : rows ≤ length scratch = g.work.roomy in let s : 1 ≤ h = g.some in omega arith

  right-more : r.at < end_of nodes r0
  right-more = right-some nodes l.at (end_of nodes l0) r.at (record { ss = g.work.ss; f = end_of nodes r0; beside = g.meets.beside }) g.meets.some

  left-node : Node g.work.ss nodes l.at
  left-node = row_first g.work.ss nodes l.at (end_of nodes l0) g.meets.beside.left g.meets.some

  right-node : Node g.work.ss nodes r.at
  right-node = row_first g.work.ss nodes r.at (end_of nodes r0) g.meets.beside.right right-more

  pub met-inside : ((l.at + 1 < length nodes) × (r.at + 1 < length nodes)) × (((l.at + get_or nodes (l.at + 1) 0 < 2 ^ 32) × (r.at + get_or nodes (r.at + 1) 0 < 2 ^ 32)) × ((pair_of (h - 1) + pair_size ≤ length scratch) × ((l.root < 2 ^ 32) × ((l.copy < 2 ^ 32) × ((r.root < 2 ^ 32) × (r.copy < 2 ^ 32))))))
  met-inside =
      let a : l.at + loaded_node ≤ length nodes = node-inside g.work.ss nodes l.at left-node in
      let c : r.at + loaded_node ≤ length nodes = node-inside g.work.ss nodes r.at right-node in
      let d : l.at + get_or nodes (l.at + 1) 0 ≤ length nodes = node_end g.work.ss nodes l.at left-node in
      let e : r.at + get_or nodes (r.at + 1) 0 ≤ length nodes = node_end g.work.ss nodes r.at right-node in
      let f : l0.root + loaded_node ≤ length nodes = node-inside g.work.ss nodes l0.root (g.work.rows.left.node (h - 1) under) in
      let i1 : r0.root + loaded_node ≤ length nodes = node-inside g.work.ss nodes r0.root (g.work.rows.right.node (h - 1) under) in
      let i : length nodes ≤ places = g.work.store.small in
      let j : l0.copy < copies = g.work.rows.left.copy (h - 1) under in
      let k : r0.copy < copies = g.work.rows.right.copy (h - 1) under in
      let la : l.root ≡ l0.root = ap (λ (x : Side). x.root) g.left_is in
      let lb : l.copy ≡ l0.copy = ap (λ (x : Side). x.copy) g.left_is in
      let ra : r.root ≡ r0.root = ap (λ (x : Side). x.root) g.right_is in
      let rb : r.copy ≡ r0.copy = ap (λ (x : Side). x.copy) g.right_is in
      ((omega arith, omega arith), ((omega arith, omega arith), (fits, (omega arith, (omega arith, (omega arith, omega arith))))))

  module _ {s z : ℕ} (es : s ≡ get_or nodes (l.at + 1) 0) (ez : z ≡ get_or nodes (r.at + 1) 0) where
    abbrev lm : Side
    lm = record l { at = l.at + s }

    abbrev rm : Side
    rm = record r { at = r.at + z }

    abbrev mid : List ℕ
    mid = pair_words scratch (h - 1) lm rm

    left-below : (k : ℕ) → k < h - 1 → left_at mid k ≡ left_at scratch k
    left-below k o = pair-left-others scratch (h - 1) lm rm fits k (λ e. omega arith)

    right-below : (k : ℕ) → k < h - 1 → right_at mid k ≡ right_at scratch k
    right-below k o = pair-right-others scratch (h - 1) lm rm fits k (λ e. omega arith)

    left-top : left_at mid (h - 1) ≡ record { root = l0.root; at = l.at + s; copy = l0.copy }
    left-top = pair_left scratch (h - 1) lm rm fits ∙ ap (λ (x : Side). record x { at = l.at + s }) g.left_is

    right-top : right_at mid (h - 1) ≡ record { root = r0.root; at = r.at + z; copy = r0.copy }
    right-top = pair-right scratch (h - 1) lm rm fits ∙ ap (λ (x : Side). record x { at = r.at + z }) g.right_is

    left-rest : Row g.work.ss nodes (l.at + s) (end_of nodes l0)
    left-rest = subst⁻¹ (λ (k : ℕ). Row g.work.ss nodes (l.at + k) (end_of nodes l0)) es (row-rest g.work.ss nodes l.at (end_of nodes l0) g.meets.beside.left g.meets.some)

    right-rest : Row g.work.ss nodes (r.at + z) (end_of nodes r0)
    right-rest = subst⁻¹ (λ (k : ℕ). Row g.work.ss nodes (r.at + k) (end_of nodes r0)) ez (row-rest g.work.ss nodes r.at (end_of nodes r0) g.meets.beside.right right-more)

    rest-same : (i j : ℕ) → count (terms_at g.work.ss nodes (l.at + s) (end_of nodes l0) i) ≡ count (terms_at g.work.ss nodes (r.at + z) (end_of nodes r0) j)
    rest-same i j =
        let x : count (terms_at g.work.ss nodes l.at (end_of nodes l0) i) ≡ suc (count (terms_at g.work.ss nodes (l.at + s) (end_of nodes l0) i)) = ap count (row_cons g.work.ss nodes l.at (end_of nodes l0) g.meets.beside.left i g.meets.some) ∙ (count-one _ _ ∙ ap (λ (k : ℕ). suc (count (terms_at g.work.ss nodes (l.at + k) (end_of nodes l0) i))) (sym es)) in
        let y : count (terms_at g.work.ss nodes r.at (end_of nodes r0) j) ≡ suc (count (terms_at g.work.ss nodes (r.at + z) (end_of nodes r0) j)) = ap count (row_cons g.work.ss nodes r.at (end_of nodes r0) g.meets.beside.right j right-more) ∙ (count-one _ _ ∙ ap (λ (k : ℕ). suc (count (terms_at g.work.ss nodes (r.at + k) (end_of nodes r0) j))) (sym ez)) in
        let w : count (terms_at g.work.ss nodes l.at (end_of nodes l0) i) ≡ count (terms_at g.work.ss nodes r.at (end_of nodes r0) j) = g.meets.beside.same i j in
        omega arith

    one : (x : Side) (j : ℕ) → Node g.work.ss nodes x.root → x.copy < copies → x.copy ≤ g.work.top → Row g.work.ss nodes j (end_of nodes x) → SideRows g.work.ss nodes g.work.top (λ k. record x { at = j }) 1
    one x j n c b w = record { node = λ k q. n; copy = λ k q. c; below = λ k q. b; row = λ k q. w }

    moved-rows : StackRows g.work.ss nodes g.work.top mid h
    moved-rows =
        subst (StackRows g.work.ss nodes g.work.top mid) (let e : suc (h - 1) ≡ h = (let s1 : 1 ≤ h = g.some in omega arith) in e)
        (rows-topped g.work.ss nodes g.work.top scratch mid (h - 1) (record { root = l0.root; at = l.at + s; copy = l0.copy }) (record { root = r0.root; at = r.at + z; copy = r0.copy }) (let k : h ≤ pairs = g.work.rows.low in let s1 : 1 ≤ h = g.some in omega arith)
        left-below left-top right-below right-top
        (one l0 (l.at + s) (g.work.rows.left.node (h - 1) under) (g.work.rows.left.copy (h - 1) under) (g.work.rows.left.below (h - 1) under) left-rest)
        (one r0 (r.at + z) (g.work.rows.right.node (h - 1) under) (g.work.rows.right.copy (h - 1) under) (g.work.rows.right.below (h - 1) under) right-rest)
        rest-same (rows-less g.work.ss nodes g.work.top scratch h (h - 1) (omega arith) g.work.rows))

    pub moved-mass : mass nodes (left_at mid) h + weight (h - 1) ≤ mass nodes (left_at scratch) h
    moved-mass =
        let f : l0.at ≤ l.at = g.meets.forward in
        let n : loaded_node ≤ get_or nodes (l.at + 1) 0 = node-size g.work.ss nodes l.at left-node in
        mass-moved nodes (left_at scratch) (left_at mid) h g.some left-below (l.at + s) left-top (omega (arith, es)) (row-order g.work.ss nodes (l.at + s) (end_of nodes l0) left-rest)

    mid-marks : SameMarks scratch mid
    mid-marks = pair-marks scratch (h - 1) lm rm fits

    abbrev crossable : SafeCrossable nodes state mid h (record { node = l.at; copy = l.copy }) (record { node = r.at; copy = r.copy })
    crossable =
        record {
          n = g.n;
          work = record {
            ss = g.work.ss;
            top = g.work.top;
            store = g.work.store;
            within = g.work.within;
            roomy = (let e : length mid ≡ length scratch = mid-marks.long in let o : rows ≤ length scratch = g.work.roomy in omega arith);
            rows = moved-rows;
          };
          some = g.some;
          left = left-node;
          right = right-node;
          copy = subst⁻¹ (λ (x : Side). x.copy < copies) g.left_is (g.work.rows.left.copy (h - 1) under);
          copy_right = subst⁻¹ (λ (x : Side). x.copy < copies) g.right_is (g.work.rows.right.copy (h - 1) under);
          below = subst⁻¹ (λ (x : Side). x.copy ≤ g.work.top) g.left_is (g.work.rows.left.below (h - 1) under);
          below_right = subst⁻¹ (λ (x : Side). x.copy ≤ g.work.top) g.right_is (g.work.rows.right.below (h - 1) under);
        }

    pub met-cross : {mid1 : List ℕ} → mid1 ≡ mid → SafeCrossable nodes state mid1 h (record { node = l.at; copy = l.copy }) (record { node = r.at; copy = r.copy })
    met-cross e = subst⁻¹ (λ (k : List ℕ). SafeCrossable nodes state k h (record { node = l.at; copy = l.copy }) (record { node = r.at; copy = r.copy })) e crossable

    falls : (after : List ℕ) (t : Turn) → SafeTurned crossable.work after (mass nodes (left_at mid) h + weight (h - 1)) t → TurnFalls g.work after t
    falls after (Ok k) x = (
      record { long = x.0.long ∙ mid-marks.long; words = λ j o. x.0.words j o ∙ mid-marks.words j o },
      record { rows = x.1.rows; less = (let a : mass nodes (left_at after) k < mass nodes (left_at mid) h + weight (h - 1) = x.1.less in let b : mass nodes (left_at mid) h + weight (h - 1) ≤ mass nodes (left_at scratch) h = moved-mass in omega arith) },
    )
    falls after (Err Clash) x = (record { long = x.0.long ∙ mid-marks.long; words = λ j o. x.0.words j o ∙ mid-marks.words j o }, tt)
    falls after (Err (Bind k i a)) x = (record { long = x.0.long ∙ mid-marks.long; words = λ j o. x.0.words j o ∙ mid-marks.words j o }, x.1)

    pub safe-met : {mid1 : List ℕ} → mid1 ≡ mid → (after : List ℕ) (t : Turn) → ((v : SafeCrossable nodes state mid1 h (record { node = l.at; copy = l.copy }) (record { node = r.at; copy = r.copy })) → PairFalls v.work after t) → TurnFalls g.work after t
    safe-met e after t k =
        falls after t (subst (λ (i : List ℕ). (v : SafeCrossable nodes state i h (record { node = l.at; copy = l.copy }) (record { node = r.at; copy = r.copy })) → PairFalls v.work after t) e k crossable)

-- ---- the crossing

module _ {nodes state scratch : List ℕ} {h : ℕ} {p q : At} (g : SafeCrossable nodes state scratch h p q) where
  pub cross-both : Both nodes state scratch p q
  cross-both =
      record {
        left = record {
          from = record {
            state = state;
            given = record { ss = g.work.ss; n = g.n; store = g.work.store; known = false; acyclic = λ f. absurd f; node = g.left; copy = g.copy };
            long = (let l : store_words ≤ length state = g.work.store.long in omega arith);
            same = λ x l. refl;
          };
          roomy = g.work.roomy;
          cuts = λ f. absurd f;
        };
        node = g.right;
        copy = g.copy_right;
      }

  module _ {mid : List ℕ} {r : Ends} (f : (k : Both nodes state scratch p q) → BothFollowed k mid r) where
    ended : BothFollowed cross-both mid r
    ended = f cross-both

    left-still : (i : ℕ) → i < h → left_at mid i ≡ left_at scratch i
    left-still i o = left-front scratch mid ended.eased.beside.low i (let z : h ≤ pairs = g.work.rows.low in omega arith)

    right-still : (i : ℕ) → i < h → right_at mid i ≡ right_at scratch i
    right-still i o = right-front scratch mid ended.eased.beside.low i (let z : h ≤ pairs = g.work.rows.low in omega arith)

    pub cross-settled : SafeCrossed nodes mid h r.left r.right
    unfolding cross-both
    cross-settled =
        record {
          state = state;
          n = g.n;
          work = record {
            ss = g.work.ss;
            top = g.work.top;
            store = g.work.store;
            within = g.work.within;
            roomy = (let z : length mid ≡ length scratch = ended.eased.beside.long in let o : rows ≤ length scratch = g.work.roomy in omega arith);
            rows = rows-agreed g.work.ss nodes g.work.top scratch mid h left-still right-still g.work.rows;
          };
          some = g.some;
          left = record { node = ended.left.leads.node; copy = ended.left.leads.copy; below = ended.left.leads.within g.work.top g.work.within g.below; stops = ended.left.stops };
          right = record { node = ended.right.leads.node; copy = ended.right.leads.copy; below = ended.right.leads.within g.work.top g.work.within g.below_right; stops = ended.right.stops };
        }

    still-mass : mass nodes (left_at mid) h ≡ mass nodes (left_at scratch) h
    still-mass = mass-agrees nodes (left_at scratch) (left_at mid) h left-still

    pub safe-crossed : (after : List ℕ) (t : Turn) → ((k : SafeCrossed nodes mid h r.left r.right) → PairFalls k.work after t) → PairFalls g.work after t
    unfolding cross-settled
    safe-crossed after t k = go t (k cross-settled)
      where
        marks : SameMarks mid after → SameMarks scratch after
        marks x = record { long = x.long ∙ ended.eased.beside.long; words = λ j o. x.words j o ∙ ended.eased.beside.low j (omega arith) }

        go : (t : Turn) → PairFalls cross-settled.work after t → PairFalls g.work after t
        go (Ok k) x = (marks x.0, record { rows = x.1.rows; less = (let a : mass nodes (left_at after) k < mass nodes (left_at mid) h + weight (h - 1) = x.1.less in let b : mass nodes (left_at mid) h ≡ mass nodes (left_at scratch) h = still-mass in omega arith) })
        go (Err Clash) x = (marks x.0, tt)
        go (Err (Bind k i a)) x = (marks x.0, x.1)

-- ---- a crossing whose two terms are dereferenced

module _ {nodes scratch : List ℕ} {h : ℕ} {p q : At} (g : SafeCrossed nodes scratch h p q) where
  pub settle-inside : (p.node + loaded_node ≤ length nodes) × ((q.node + loaded_node ≤ length nodes) × (length nodes ≤ places))
  settle-inside = (node-inside g.work.ss nodes p.node g.left.node, (node-inside g.work.ss nodes q.node g.right.node, g.work.store.small))

  marks-same : SameMarks scratch scratch
  marks-same = record { long = refl; words = λ j l. refl }

  -- nothing more to do
  pub settle-same : PairFalls g.work scratch (Ok h)
  settle-same = (marks-same, record { rows = g.work.rows; less = (let s : 0 < weight (h - 1) = power-some most_left (pairs - (h - 1)) (omega arith) in omega arith) })

  pub settle-clash : PairFalls g.work scratch (Err Clash)
  settle-clash = (marks-same, tt)

  -- the variable at v bound to the term w
  bound-to : {v w : At} → Dereferenced g.work.ss nodes g.state g.work.top v → Dereferenced g.work.ss nodes g.state g.work.top w → get_or nodes v.node 0 < first_name
      → (get_or nodes w.node 0 < first_name → cell_of w.copy (get_or nodes w.node 0) < cell_of v.copy (get_or nodes v.node 0)) → PairFalls g.work scratch (Err (Bind h (cell_of v.copy (get_or nodes v.node 0)) w))
  bound-to {v} {w} dv dw l down = (
    marks-same,
    record {
      rows = g.work.rows;
      cell = cell-small v.copy (get_or nodes v.node 0) dv.copy l;
      unbound = dv.stops l;
      below = (let b : v.copy ≤ g.work.top = dv.below in omega (arith, l));
      node = dw.node;
      copy = dw.copy;
      copy_below = dw.below;
      down = down;
    },
  )

  module _ {w z : ℕ} (ew : w ≡ get_or nodes p.node 0) (ez : z ≡ get_or nodes q.node 0) where
    pub safe-left : w < first_name → {i : ℕ} → i ≡ cell_of p.copy w → ((z < first_name) → cell_of q.copy z < i) → {r : Turn} → r ≡ Err (Bind h i q) → PairFalls g.work scratch r
    safe-left l {i} ex down {r} er =
        subst⁻¹ (PairFalls g.work scratch) (er ∙ ap (λ (k : ℕ). Err (Bind h k q)) (ex ∙ ap (cell_of p.copy) ew))
        (bound-to g.left g.right (subst (λ (k : ℕ). k < first_name) ew l) (λ o. subst (λ (k : ℕ). cell_of q.copy (get_or nodes q.node 0) < k) (ex ∙ ap (cell_of p.copy) ew) (subst (λ (k : ℕ). cell_of q.copy k < i) ez (down (subst⁻¹ (λ (k : ℕ). k < first_name) ez o)))))

    pub safe-right : z < first_name → {j : ℕ} → j ≡ cell_of q.copy z → ((w < first_name) → cell_of p.copy w < j) → {r : Turn} → r ≡ Err (Bind h j p) → PairFalls g.work scratch r
    safe-right l {j} ey down {r} er =
        subst⁻¹ (PairFalls g.work scratch) (er ∙ ap (λ (k : ℕ). Err (Bind h k p)) (ey ∙ ap (cell_of q.copy) ez))
        (bound-to g.right g.left (subst (λ (k : ℕ). k < first_name) ez l) (λ o. subst (λ (k : ℕ). cell_of p.copy (get_or nodes p.node 0) < k) (ey ∙ ap (cell_of q.copy) ez) (subst (λ (k : ℕ). cell_of p.copy k < j) ew (down (subst⁻¹ (λ (k : ℕ). k < first_name) ew o)))))

    pub safe-openable : first_name ≤ w → w ≡ z → SafeOpenable scratch h p q
    safe-openable l e = record { nodes = nodes; crossed = g; name = subst (λ (k : ℕ). first_name ≤ k) ew l; same = sym ew ∙ (e ∙ ez) }

    pub safe-open : first_name ≤ w → w ≡ z → (after : List ℕ) (r : Turn) → ((k : SafeOpenable scratch h p q) → PairFalls k.crossed.work after r) → PairFalls g.work after r
    unfolding safe-openable
    safe-open l e after r k = k (safe-openable l e)

-- ---- two names that are the same

module _ {scratch : List ℕ} {h : ℕ} {p q : At} (g : SafeOpenable scratch h p q) where
  pub open-small : ((p.node + loaded_node ≤ places) × (q.node + loaded_node ≤ places)) × (((p.copy < copies) × (q.copy < copies)) × ((rows ≤ length scratch) × (h ≤ pairs)))
  open-small =
      let a : p.node + loaded_node ≤ length g.nodes = (settle-inside g.crossed).0 in
      let b : q.node + loaded_node ≤ length g.nodes = (settle-inside g.crossed).1.0 in
      let s : length g.nodes ≤ places = (settle-inside g.crossed).1.1 in
      ((omega arith, omega arith), ((g.crossed.left.copy, g.crossed.right.copy), (g.crossed.work.roomy, g.crossed.work.rows.low)))

  module _ (room : h < pairs) where
    laid-fits : pair_of h + pair_size ≤ length scratch
    laid-fits = let o : rows ≤ length scratch = g.crossed.work.roomy in omega arith

    pub open-room : (pair_of h + pair_size ≤ length scratch) × (((p.node < 2 ^ 32) × ((p.node + loaded_node < 2 ^ 32) × (p.copy < 2 ^ 32))) × ((q.node < 2 ^ 32) × ((q.node + loaded_node < 2 ^ 32) × (q.copy < 2 ^ 32))))
    open-room =
        let a : p.node + loaded_node ≤ places = open-small.0.0 in
        let b : q.node + loaded_node ≤ places = open-small.0.1 in
        let c : p.copy < copies = g.crossed.left.copy in
        let d : q.copy < copies = g.crossed.right.copy in
        (laid-fits, ((omega arith, (omega arith, omega arith)), (omega arith, (omega arith, omega arith))))

    other-name : first_name ≤ get_or g.nodes q.node 0
    other-name = subst (λ (k : ℕ). first_name ≤ k) g.same g.name

    abbrev laid : List ℕ
    laid = pair_words scratch h (inner_row p) (inner_row q)

    laid-left : (k : ℕ) → k < h → left_at laid k ≡ left_at scratch k
    laid-left k o = pair-left-others scratch h (inner_row p) (inner_row q) laid-fits k (λ z. omega arith)

    laid-right : (k : ℕ) → k < h → right_at laid k ≡ right_at scratch k
    laid-right k o = pair-right-others scratch h (inner_row p) (inner_row q) laid-fits k (λ z. omega arith)

    laid-top : left_at laid h ≡ inner_row p
    laid-top = pair_left scratch h (inner_row p) (inner_row q) laid-fits

    laid-top-right : right_at laid h ≡ inner_row q
    laid-top-right = pair-right scratch h (inner_row p) (inner_row q) laid-fits

    few : suc (end_of g.nodes (left_at laid h) - (left_at laid h).at) < most_left
    few =
        subst⁻¹ (λ (x : Side). suc (end_of g.nodes x - x.at) < most_left) laid-top
        (let d : p.node + get_or g.nodes (p.node + 1) 0 ≤ length g.nodes = node_end g.crossed.work.ss g.nodes p.node g.crossed.left.node in let s : length g.nodes ≤ places = (settle-inside g.crossed).1.1 in omega arith)

    pub open-pushed : {after : List ℕ} → after ≡ laid → PairFalls g.crossed.work after (Ok (h + 1))
    open-pushed e =
        subst⁻¹ (λ (s : List ℕ). PairFalls g.crossed.work s (Ok (h + 1))) e (
          pair-marks scratch h (inner_row p) (inner_row q) laid-fits,
          record {
            rows = subst (StackRows g.crossed.work.ss g.nodes g.crossed.work.top laid) (let m : suc h ≡ h + 1 = omega arith in m)
                (rows-topped g.crossed.work.ss g.nodes g.crossed.work.top scratch laid h (inner_row p) (inner_row q) room laid-left laid-top laid-right laid-top-right
                (one g.crossed.left (compound-row g.crossed.work.ss g.nodes p.node g.crossed.left.node g.name))
                (one g.crossed.right (compound-row g.crossed.work.ss g.nodes q.node g.crossed.right.node other-name))
                (λ c d. same_count g.crossed.work.ss g.nodes p.node q.node c d g.crossed.left.node g.crossed.right.node g.name other-name g.same) g.crossed.work.rows);
            less = subst (λ (k : ℕ). mass g.nodes (left_at laid) k < mass g.nodes (left_at scratch) h + weight (h - 1)) (let m : suc h ≡ h + 1 = omega arith in m) (mass-pushed g.nodes (left_at scratch) (left_at laid) h g.crossed.some room laid-left few);
          },
        )
      where
        one : {a : At} → Dereferenced g.crossed.work.ss g.nodes g.crossed.state g.crossed.work.top a → Row g.crossed.work.ss g.nodes (a.node + loaded_node) (a.node + get_or g.nodes (a.node + 1) 0) → SideRows g.crossed.work.ss g.nodes g.crossed.work.top (λ k. inner_row a) 1
        one d w = record { node = λ k q. d.node; copy = λ k q. d.copy; below = λ k q. d.below; row = λ k q. w }
