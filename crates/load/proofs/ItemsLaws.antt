-- Laws for the functions on one item, one for each way out. Assumes nothing.
use Prim.Native.Nat.{ℕ, suc, ◌+◌, ◌-◌, ◌*◌, ◌≤◌, ◌<◌}
use native.Mathlib.Omega.{arith}
use mathlib.Core.Path.{◌≡◌, refl, ap, ap₂, ◌∙◌}
use mathlib.Core.Bool.{Bool, true, false}
use mathlib.Core.List.{List, [], ◌∷◌}
use lib.ListN.{length, get_or, drop, length-drop}
use Rattle.syntax.specs.Terms.{Term, Atom, Clause}
use Rattle.syntax.specs.Words.{call_kind, equation_kind, left_kind, behind_kind, item_kind, side_items, program_clauses}
use Rattle.machine.specs.Machine.{is_for, first_for, next_for}
use Rattle.words.specs.Tables.{WordsAt, NodeInTable}
use Rattle.words.specs.Items.{Item, plain_call, plain_equation, plain_truth, plain_falsity, before_left, before_right, behind, item_words}
use Rattle.words.proofs.TablesLaws.{has_left, has_end}
use Rattle.words.proofs.Items.{View, view_truth, view_falsity, view_call, view_equation, view_left, view_right, view_behind, view}
use Rattle.run_layout.specs.Regions.{places, split_kind, jump_kind, next_literal, literal_from}
use Rattle.run_layout.specs.Nodes.{Symbol, loaded_words}
use Rattle.run_layout.proofs.Nodes.{size_word, words-some}
use Rattle.load.specs.declared.records.Places.{Places}
use Rattle.load.specs.Records.{put_record, side_ends}
use Rattle.load.specs.ItemsRecords.{kind_of, item_nodes, other_of}
use Rattle.load.specs.declared.next_clauses.Heads.{Heads}
use Rattle.load.specs.Search.{sought, Meant, Headed}
use Rattle.load.specs.ItemsPlaces.{SideSmall, ItemTo}
use Rattle.load.proofs.Seeking.{atom-word, atom-listed, next_is}

-- ---- nodes that stand

pub some_words : (ws : List ℕ) (n : ℕ) → n < length ws → ws ≡ [] → ⊥
some_words ws n l e = let z : length ws ≡ 0 = ap length e in omega arith

-- words that stand from a place inside end inside
pub end-inside : (nodes : List ℕ) (q : ℕ) (ws : List ℕ) → q ≤ length nodes → WordsAt nodes q ws → q + length ws ≤ length nodes
end-inside nodes q [] l h = let z : q + 0 ≤ length nodes = omega arith in z
end-inside nodes q (w ∷ ws) l h = has_end nodes q (w ∷ ws) h (some_words (w ∷ ws) 0 (omega arith))

pub loaded-fits : (ss : List Symbol) (nodes : List ℕ) (q : ℕ) (t : Term) → WordsAt nodes q (loaded_words ss t) → NodeInTable nodes q
loaded-fits ss nodes q t h =
    let e : get_or nodes (q + 1) 0 ≡ length (loaded_words ss t) = size_word ss nodes q t h in
    let m : 2 ≤ length (loaded_words ss t) = words-some ss t in
    let k : q + length (loaded_words ss t) ≤ length nodes = has_end nodes q (loaded_words ss t) h (some_words (loaded_words ss t) 0 (omega arith)) in
    (omega arith, omega arith)

-- ---- the number of a clause is small

choice-bound : (b : Bool) (j r n : ℕ) → j ≤ n → r ≤ n → elim b as (λ _. ℕ) [ true ↦ j | false ↦ r ] ≤ n
choice-bound true j r n k l = k
choice-bound false j r n k l = l

first-bound : (a : Atom) (j : ℕ) (cls : List Clause) → first_for a j cls ≤ j + length cls
unfolding first_for
first-bound a j [] = omega arith
first-bound a j (cl ∷ cls) =
    let l : first_for a (suc j) cls ≤ suc j + length cls = first-bound a (suc j) cls in
    choice-bound (is_for a cl) j (first_for a (suc j) cls) (j + suc (length cls)) (omega arith) (omega arith)

pub next-bound : {m : Meant} {h : Heads} {code : List ℕ} → Headed m h code → (a : Atom) (k : ℕ) → k ≤ h.clauses → next_for m.sh a k ≤ program_clauses + 1
unfolding next_for
next-bound {m = m} {h = h} w a k l =
    let b : first_for a (suc k) (drop k m.sh.clauses) ≤ suc k + length (drop k m.sh.clauses) = first-bound a (suc k) (drop k m.sh.clauses) in
    let n : length (drop k m.sh.clauses) ≡ length m.sh.clauses - k = length-drop k m.sh.clauses in
    let c : h.clauses ≡ length m.sh.clauses = w.count in
    let f : h.clauses ≤ program_clauses = w.few in
    omega arith

-- ---- the kind of an item's record, one law for each way out

module _ (table : List ℕ) (p word : ℕ) (e : word ≡ get_or table p 0) where
  plain_by : {x : Item} → word ≤ equation_kind → View table p x → word ≡ kind_of x
  plain_by k (view_truth q) = e ∙ q
  plain_by k (view_falsity q) = e ∙ q
  plain_by k (view_call q h) = e ∙ q
  plain_by k (view_equation q h r) = e ∙ q
  plain_by k (view_left q) = absurd (omega arith)
  plain_by k (view_right q) = absurd (omega arith)
  plain_by k (view_behind q) = absurd (omega arith)

  pub kind-plain : word ≤ equation_kind → (x : Item) → WordsAt table p (item_words x) → word ≡ kind_of x
  kind-plain k x h = plain_by k (view table p x h)

  module _ (l : equation_kind < word) (kind : ℕ) (f : kind ≡ item_kind word) where
    split_by : {x : Item} → kind ≡ left_kind → View table p x → split_kind ≡ kind_of x
    split_by k (view_truth q) = absurd (omega arith)
    split_by k (view_falsity q) = absurd (omega arith)
    split_by k (view_call q h) = absurd (omega arith)
    split_by k (view_equation q h r) = absurd (omega arith)
    split_by k (view_left q) = refl
    split_by k (view_right q) = absurd (omega arith)
    split_by k (view_behind q) = absurd (omega arith)

    pub kind-split : kind ≡ left_kind → (x : Item) → WordsAt table p (item_words x) → split_kind ≡ kind_of x
    kind-split k x h = split_by k (view table p x h)

    jump-by : {x : Item} → (kind ≡ left_kind → ⊥) → View table p x → jump_kind ≡ kind_of x
    jump-by k (view_truth q) = absurd (omega arith)
    jump-by k (view_falsity q) = absurd (omega arith)
    jump-by k (view_call q h) = absurd (omega arith)
    jump-by k (view_equation q h r) = absurd (omega arith)
    jump-by k (view_left q) = absurd (k (omega arith))
    jump-by k (view_right q) = refl
    jump-by k (view_behind q) = refl

    pub kind-jump : (kind ≡ left_kind → ⊥) → (x : Item) → WordsAt table p (item_words x) → jump_kind ≡ kind_of x
    kind-jump k x h = jump-by k (view table p x h)

-- ---- its third word, one law for each way out

module _ (table : List ℕ) (heads : Heads) (at : Places) (word : ℕ) (e : word ≡ get_or table at.read 0) (m : Meant) where
  none-by : {x : Item} → word < call_kind → View table at.read x → 0 ≡ other_of m.ss m.sh at.node at.literal x
  unfolding other_of
  none-by k (view_truth i) = refl
  none-by k (view_falsity i) = refl
  none-by k (view_call i h) = absurd (omega arith)
  none-by k (view_equation i h r) = absurd (omega arith)
  none-by k (view_left i) = absurd (omega arith)
  none-by k (view_right i) = absurd (omega arith)
  none-by k (view_behind i) = absurd (omega arith)

  inside-by : {x : Item} → word ≡ call_kind → View table at.read x → WordsAt heads.nodes.now at.node (item_nodes m.ss x) → at.node < length heads.nodes.now
  unfolding item_nodes
  inside-by k (view_truth i) s = absurd (omega arith)
  inside-by k (view_falsity i) s = absurd (omega arith)
  inside-by k (view_call {a} i h) s = (atom-word m.ss heads.nodes.now at.node a s).0
  inside-by k (view_equation i h r) s = absurd (omega arith)
  inside-by k (view_left i) s = absurd (omega arith)
  inside-by k (view_right i) s = absurd (omega arith)
  inside-by k (view_behind i) s = absurd (omega arith)

  call_by : {x : Item} {code : List ℕ} → word ≡ call_kind → View table at.read x → ItemTo m x table heads code at
      → (name r : ℕ) → name ≡ get_or heads.nodes.now at.node 0 → r ≡ sought heads.nodes.now code name (0 + 1) (heads.clauses - 0) → r ≡ other_of m.ss m.sh at.node at.literal x
  unfolding other_of item_nodes
  call_by k (view_truth i) w name r v s = absurd (omega arith)
  call_by k (view_falsity i) w name r v s = absurd (omega arith)
  call_by k (view_call {a} i h) w name r v s =
      next_is w.headed a (atom-listed m.ss a w.loadable) name 0 r (v ∙ (atom-word m.ss heads.nodes.now at.node a w.stand).1) s
  call_by k (view_equation i h j) w name r v s = absurd (omega arith)
  call_by k (view_left i) w name r v s = absurd (omega arith)
  call_by k (view_right i) w name r v s = absurd (omega arith)
  call_by k (view_behind i) w name r v s = absurd (omega arith)

  fits_by : {x : Item} → word ≡ equation_kind → View table at.read x → WordsAt heads.nodes.now at.node (item_nodes m.ss x) → NodeInTable heads.nodes.now at.node
  unfolding item_nodes
  fits_by k (view_truth i) s = absurd (omega arith)
  fits_by k (view_falsity i) s = absurd (omega arith)
  fits_by k (view_call i h) s = absurd (omega arith)
  fits_by k (view_equation {t} {u} i h r) s = loaded-fits m.ss heads.nodes.now at.node t (has_left heads.nodes.now at.node (loaded_words m.ss t) (loaded_words m.ss u) s)
  fits_by k (view_left i) s = absurd (omega arith)
  fits_by k (view_right i) s = absurd (omega arith)
  fits_by k (view_behind i) s = absurd (omega arith)

  equation-by : {x : Item} → word ≡ equation_kind → View table at.read x → WordsAt heads.nodes.now at.node (item_nodes m.ss x) → (r : ℕ) → r ≡ at.node + get_or heads.nodes.now (at.node + 1) 0 → r ≡ other_of m.ss m.sh at.node at.literal x
  unfolding other_of item_nodes
  equation-by k (view_truth i) s r v = absurd (omega arith)
  equation-by k (view_falsity i) s r v = absurd (omega arith)
  equation-by k (view_call i h) s r v = absurd (omega arith)
  equation-by k (view_equation {t} {u} i h j) s r v = v ∙ ap (λ (n : ℕ). at.node + n) (size_word m.ss heads.nodes.now at.node t (has_left heads.nodes.now at.node (loaded_words m.ss t) (loaded_words m.ss u) s))
  equation-by k (view_left i) s r v = absurd (omega arith)
  equation-by k (view_right i) s r v = absurd (omega arith)
  equation-by k (view_behind i) s r v = absurd (omega arith)

  behind-by : {x : Item} → word ≡ behind_kind → View table at.read x → (r : ℕ) → r ≡ next_literal at.literal → r ≡ other_of m.ss m.sh at.node at.literal x
  unfolding other_of
  behind-by k (view_truth i) r v = absurd (omega arith)
  behind-by k (view_falsity i) r v = absurd (omega arith)
  behind-by k (view_call i h) r v = absurd (omega arith)
  behind-by k (view_equation i h j) r v = absurd (omega arith)
  behind-by k (view_left i) r v = absurd (omega arith)
  behind-by k (view_right i) r v = absurd (omega arith)
  behind-by k (view_behind i) r v = v

  module _ (a : call_kind ≤ word) (b : word ≡ call_kind → ⊥) (c : word ≡ equation_kind → ⊥) (d : word ≡ behind_kind → ⊥) (many : ℕ) (g : many ≡ side_items word) where
    small_by : {x : Item} → View table at.read x → SideSmall x → many ≤ places
    small_by (view_truth i) s = absurd (omega arith)
    small_by (view_falsity i) s = absurd (omega arith)
    small_by (view_call i h) s = absurd (b (e ∙ i))
    small_by (view_equation i h j) s = absurd (c (e ∙ i))
    small_by (view_left {n} i) s = let z : n ≤ places = s in omega arith
    small_by (view_right {n} i) s = let z : n ≤ places = s in omega arith
    small_by (view_behind i) s = absurd (d (e ∙ i))

    side-by : {x : Item} → View table at.read x → (r : ℕ) → r ≡ literal_from at.literal (many + side_ends) → r ≡ other_of m.ss m.sh at.node at.literal x
    unfolding other_of
    side-by (view_truth i) r v = absurd (omega arith)
    side-by (view_falsity i) r v = absurd (omega arith)
    side-by (view_call i h) r v = absurd (b (e ∙ i))
    side-by (view_equation i h j) r v = absurd (c (e ∙ i))
    side-by (view_left {n} i) r v = let z : many ≡ n = omega arith in omega arith
    side-by (view_right {n} i) r v = let z : many ≡ n = omega arith in omega arith
    side-by (view_behind i) r v = absurd (d (e ∙ i))

module _ {m : Meant} {x : Item} {table : List ℕ} {heads : Heads} {code : List ℕ} {at : Places} (w : ItemTo m x table heads code at) where
  pub item-low : at.literal ≤ places
  item-low = omega (arith, w.high, w.headed.short)

  module _ {word : ℕ} (e : word ≡ get_or table at.read 0) where
    pub call-inside : word ≡ call_kind → at.node < length heads.nodes.now
    call-inside k = inside-by table heads at word e m k (view table at.read x w.has) w.stand

    pub equation-inside : word ≡ equation_kind → NodeInTable heads.nodes.now at.node
    equation-inside k = fits_by table heads at word e m k (view table at.read x w.has) w.stand

    pub side-small : call_kind ≤ word → (word ≡ call_kind → ⊥) → (word ≡ equation_kind → ⊥) → (word ≡ behind_kind → ⊥) → {many : ℕ} → many ≡ side_items word → many ≤ places
    side-small a b c d {many} g = small_by table heads at word e m a b c d many g (view table at.read x w.has) w.small

module _ {table : List ℕ} {heads : Heads} {code : List ℕ} {at : Places} {word : ℕ} (e : word ≡ get_or table at.read 0) where
  pub other_none : word < call_kind → (m : Meant) (x : Item) → ItemTo m x table heads code at → 0 ≡ other_of m.ss m.sh at.node at.literal x
  other_none k m x w = none-by table heads at word e m k (view table at.read x w.has)

  pub other-call : word ≡ call_kind → {name r : ℕ} → name ≡ get_or heads.nodes.now at.node 0 → r ≡ sought heads.nodes.now code name (0 + 1) (heads.clauses - 0)
      → (m : Meant) (x : Item) → ItemTo m x table heads code at → r ≡ other_of m.ss m.sh at.node at.literal x
  other-call k {name} {r} v s m x w = call_by table heads at word e m k (view table at.read x w.has) w name r v s

  pub other-equation : word ≡ equation_kind → {r : ℕ} → r ≡ at.node + get_or heads.nodes.now (at.node + 1) 0
      → (m : Meant) (x : Item) → ItemTo m x table heads code at → r ≡ other_of m.ss m.sh at.node at.literal x
  other-equation k {r} v m x w = equation-by table heads at word e m k (view table at.read x w.has) w.stand r v

  pub other-behind : word ≡ behind_kind → {r : ℕ} → r ≡ next_literal at.literal → (m : Meant) (x : Item) → ItemTo m x table heads code at → r ≡ other_of m.ss m.sh at.node at.literal x
  other-behind k {r} v m x w = behind-by table heads at word e m k (view table at.read x w.has) r v

  pub other-side : call_kind ≤ word → (word ≡ call_kind → ⊥) → (word ≡ equation_kind → ⊥) → (word ≡ behind_kind → ⊥) → {many r : ℕ} → many ≡ side_items word → r ≡ literal_from at.literal (many + side_ends)
      → (m : Meant) (x : Item) → ItemTo m x table heads code at → r ≡ other_of m.ss m.sh at.node at.literal x
  other-side a b c d {many} {r} g v m x w = side-by table heads at word e m a b c d many g (view table at.read x w.has) r v

-- ---- the record

kind-bound : (x : Item) → kind_of x ≤ jump_kind
kind-bound plain_truth = omega arith
kind-bound plain_falsity = omega arith
kind-bound (plain_call a) = omega arith
kind-bound (plain_equation t u) = omega arith
kind-bound (before_left n) = omega arith
kind-bound (before_right n) = omega arith
kind-bound behind = omega arith

module _ {table : List ℕ} {heads : Heads} {code : List ℕ} {at : Places} where
  other-bound : (m : Meant) (x : Item) → ItemTo m x table heads code at → other_of m.ss m.sh at.node at.literal x ≤ places * 8
  unfolding other_of item_nodes
  other-bound m plain_truth w = omega arith
  other-bound m plain_falsity w = omega arith
  other-bound m (plain_call a) w =
      let z : next_for m.sh a 0 ≤ program_clauses + 1 = next-bound w.headed a 0 (omega arith) in
      omega arith
  other-bound m (plain_equation t u) w =
      let z : at.node + length (loaded_words m.ss t) ≤ length heads.nodes.now = end-inside heads.nodes.now at.node (loaded_words m.ss t) w.node (has_left heads.nodes.now at.node (loaded_words m.ss t) (loaded_words m.ss u) w.stand) in
      omega (arith, w.headed.nodes_short)
  other-bound m (before_left n) w = let z : n ≤ places = w.small in omega (arith, item-low w)
  other-bound m (before_right n) w = let z : n ≤ places = w.small in omega (arith, item-low w)
  other-bound m behind w = omega (arith, item-low w)

  module _ {kind other : ℕ} (k : (x : Item) → WordsAt table at.read (item_words x) → kind ≡ kind_of x)
      (o : (m : Meant) (x : Item) → ItemTo m x table heads code at → other ≡ other_of m.ss m.sh at.node at.literal x) where
    pub record-ready : {m : Meant} {x : Item} → ItemTo m x table heads code at
        → (at.literal + 2 < length code) × ((kind < 4294967296) × ((at.node < 4294967296) × (other < 4294967296)))
    record-ready {m} {x} w =
        let a : next_literal at.literal ≤ length code = w.high in
        let d : at.node ≤ length heads.nodes.now = w.node in
        let f : length heads.nodes.now ≤ places = w.headed.nodes_short in
        (omega arith, (omega (arith, k x w.has, kind-bound x), (omega arith, omega (arith, o m x w, other-bound m x w))))

    pub item-put : {new : List ℕ} → new ≡ put_record code at.literal kind at.node other → (m : Meant) (x : Item) → ItemTo m x table heads code at
        → new ≡ put_record code at.literal (kind_of x) at.node (other_of m.ss m.sh at.node at.literal x)
    item-put n m x w = n ∙ ap₂ (λ (i j : ℕ). put_record code at.literal i at.node j) (k x w.has) (o m x w)
