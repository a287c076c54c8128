-- Laws for the function that goes along a body's items, one for each way out. Assumes nothing.
use Prim.Native.Nat.{ℕ, suc, ◌+◌, ◌-◌, ◌*◌, ◌≤◌, ◌<◌}
use native.Mathlib.Omega.{arith}
use mathlib.Core.Path.{◌≡◌, refl, sym, ap, ap₂, ◌∙◌, subst⁻¹}
use mathlib.Core.List.{List, [], ◌∷◌, ◌++◌}
use lib.Dec.{T}
use lib.ListN.{length, set}
use Rattle.syntax.specs.Terms.{Literal, call, equation, truth, falsity, either, Body, done, also}
use Rattle.syntax.specs.Words.{literal_length, body_length}
use Rattle.machine.proofs.Tests.{both}
use Rattle.words.specs.Tables.{WordsAt}
use Rattle.words.specs.Items.{Item, before_right, behind, item_words, items_words, literal_items, items}
use Rattle.words.proofs.TablesLaws.{has_left, has_right}
use Rattle.words.proofs.Items.{body-many, items-stand, first-stands, rest-stand}
use Rattle.run_layout.specs.Regions.{places, body_end_kind, bodies, next_literal, literal_from}
use Rattle.run_layout.specs.Nodes.{Symbol, is_loadable}
use Rattle.run_layout.specs.Program.{literal_loadable, body_loadable}
use Rattle.load.specs.declared.records.Places.{Places}
use Rattle.load.specs.Records.{put_record}
use Rattle.load.specs.ItemsRecords.{kind_of, item_nodes, other_of}
use Rattle.load.specs.ClausesRecords.{put_items, put_body}
use Rattle.load.specs.declared.next_clauses.Heads.{Heads}
use Rattle.load.specs.Search.{Meant, Headed}
use Rattle.load.specs.ItemsPlaces.{ItemLoadable, SideSmall, ItemTo}
use Rattle.load.specs.ClausesPlaces.{BodyTo}
use Rattle.load.proofs.ClausesSizes.{item-nodes, items_nodes, body-items}
use Rattle.load.proofs.ClausesWriting.{SameHeads, body-long, headed-kept, record-heads}
use Rattle.load.proofs.RecordsWriting.{record-long}
use Rattle.load.proofs.ItemsLaws.{end-inside}

-- ---- a body

abbrev AllLoadable : List Symbol → List Item → Type 0
AllLoadable ss [] = Unit {0}
AllLoadable ss (x ∷ xs) = ItemLoadable ss x × AllLoadable ss xs

abbrev AllSmall : List Item → Type 0
AllSmall [] = Unit {0}
AllSmall (x ∷ xs) = SideSmall x × AllSmall xs

-- items whose words and nodes stand at their places, with room for their records and for the end
pub record ItemsTo (m : Meant) (xs : List Item) (table : List ℕ) (heads : Heads) (code : List ℕ) (at : Places) : Type 0 where
  pub headed : Headed m heads code
  pub has : WordsAt table at.read (items_words xs)
  pub stand : WordsAt heads.nodes.now at.node (items_nodes m.ss xs)
  pub loadable : AllLoadable m.ss xs
  pub small : AllSmall xs
  pub node : at.node ≤ length heads.nodes.now
  pub low : bodies ≤ at.literal
  pub high : next_literal (literal_from at.literal (length xs)) ≤ length code

loadable-both : (ss : List Symbol) (xs ys : List Item) → AllLoadable ss xs → AllLoadable ss ys → AllLoadable ss (xs ++ ys)
loadable-both ss [] ys a b = b
loadable-both ss (x ∷ xs) ys a b = (a.0, loadable-both ss xs ys a.1 b)

small-both : (xs ys : List Item) → AllSmall xs → AllSmall ys → AllSmall (xs ++ ys)
small-both [] ys a b = b
small-both (x ∷ xs) ys a b = (a.0, small-both xs ys a.1 b)

mutual
  unfolding literal_items literal_loadable

  literal-loadable : (ss : List Symbol) (x : Literal) → T (literal_loadable ss x) → AllLoadable ss (literal_items x)
  literal-loadable ss (call a) t = (t, tt)
  literal-loadable ss (equation t u) k = (both (is_loadable ss t) (is_loadable ss u) k, tt)
  literal-loadable ss truth t = (tt, tt)
  literal-loadable ss falsity t = (tt, tt)
  literal-loadable ss (either y z) t =
      let ok : T (body_loadable ss y) × T (body_loadable ss z) = both (body_loadable ss y) (body_loadable ss z) t in
      (tt, loadable-both ss (items y) ((before_right (body_length z) ∷ items z) ++ (behind ∷ [])) (body-loadable ss y ok.0) (tt, loadable-both ss (items z) (behind ∷ []) (body-loadable ss z ok.1) (tt, tt)))

  body-loadable : (ss : List Symbol) (b : Body) → T (body_loadable ss b) → AllLoadable ss (items b)
  body-loadable ss done t = tt
  body-loadable ss (also x b) t =
      let ok : T (literal_loadable ss x) × T (body_loadable ss b) = both (literal_loadable ss x) (body_loadable ss b) t in
      loadable-both ss (literal_items x) (items b) (literal-loadable ss x ok.0) (body-loadable ss b ok.1)

mutual
  unfolding literal_items literal_length

  literal-small : (x : Literal) → literal_length x ≤ places → AllSmall (literal_items x)
  literal-small (call a) l = (tt, tt)
  literal-small (equation t u) l = (tt, tt)
  literal-small truth l = (tt, tt)
  literal-small falsity l = (tt, tt)
  literal-small (either y z) l =
      let a : body_length y ≤ places = omega arith in
      let b : body_length z ≤ places = omega arith in
      (a, small-both (items y) ((before_right (body_length z) ∷ items z) ++ (behind ∷ [])) (body-small y a) (b, small-both (items z) (behind ∷ []) (body-small z b) (tt, tt)))

  body-small : (b : Body) → body_length b ≤ places → AllSmall (items b)
  body-small done l = tt
  body-small (also x b) l = small-both (literal_items x) (items b) (literal-small x (omega arith)) (body-small b (omega arith))

-- What is left of a body's items, of which i are behind, makes the whole.
pub record BodyAhead (m : Meant) (whole table : List ℕ) (i many : ℕ) (heads : Heads) (code : List ℕ) (at : Places) : Type 0 where
  pub rest : List Item
  pub ready : ItemsTo m rest table heads code at
  pub count : i + length rest ≡ many
  pub gives : put_items m.ss m.sh at.node rest code at.literal ≡ whole

module _ {m : Meant} {b : Body} {table : List ℕ} {many : ℕ} {heads : Heads} {code : List ℕ} {at : Places} (w : BodyTo m b table many heads code at) where
  items-ready : ItemsTo m (items b) table heads code at
  items-ready =
      let g : length (items b) ≡ body_length b = body-many b in
      let c : many ≡ body_length b = w.count in
      let h : next_literal (literal_from at.literal many) ≤ length code = w.high in
      let s : length code ≤ places = w.headed.short in
      record {
        headed = w.headed;
        has = items-stand table at.read b w.has;
        stand = subst⁻¹ (WordsAt heads.nodes.now at.node) (body-items m.ss b) w.stand;
        loadable = body-loadable m.ss b w.loadable;
        small = body-small b (omega arith);
        node = w.node;
        low = w.low;
        high = omega arith;
      }

  pub body-begin : BodyAhead m (put_body m.ss m.sh at.node b code at.literal) table 0 many heads code at
  body-begin = record {
    rest = items b;
    ready = items-ready;
    count = (let e : 0 + length (items b) ≡ many = omega (arith, w.count, body-many b) in e);
    gives = refl;
  }

-- the first item and the rest
record Split (m : Meant) (x : Item) (xs : List Item) (table : List ℕ) (heads : Heads) (code : List ℕ) (at : Places) : Type 0 where
  item : ItemTo m x table heads code at
  has : WordsAt table (at.read + length (item_words x)) (items_words xs)
  stand : WordsAt heads.nodes.now (at.node + length (item_nodes m.ss x)) (items_nodes m.ss xs)
  loadable : AllLoadable m.ss xs
  small : AllSmall xs
  inside : at.node + length (item_nodes m.ss x) ≤ length heads.nodes.now
  room : next_literal (literal_from at.literal (suc (length xs))) ≤ length code

split : {m : Meant} {x : Item} {xs : List Item} {table : List ℕ} {heads : Heads} {code : List ℕ} {at : Places} → ItemsTo m (x ∷ xs) table heads code at
    → Split m x xs table heads code at
unfolding items_nodes
split {m} {x} {xs} {table} {heads} {code} {at} w =
    let h : next_literal (literal_from at.literal (suc (length xs))) ≤ length code = w.high in
    let first : WordsAt heads.nodes.now at.node (item_nodes m.ss x) = has_left heads.nodes.now at.node (item_nodes m.ss x) (items_nodes m.ss xs) w.stand in
    record {
      item = record {
        headed = w.headed;
        has = first-stands table at.read x xs w.has;
        stand = first;
        loadable = w.loadable.0;
        small = w.small.0;
        node = w.node;
        low = w.low;
        high = omega arith;
      };
      has = rest-stand table at.read x xs w.has;
      stand = has_right heads.nodes.now at.node (item_nodes m.ss x) (items_nodes m.ss xs) w.stand;
      loadable = w.loadable.1;
      small = w.small.1;
      inside = end-inside heads.nodes.now at.node (item_nodes m.ss x) w.node first;
      room = h;
    }

-- the item of a turn
pub record ItemHere (m : Meant) (table : List ℕ) (heads : Heads) (code : List ℕ) (at : Places) : Type 0 where
  pub item : Item
  pub ready : ItemTo m item table heads code at
  pub fits : at.node + length (item_nodes m.ss item) ≤ places

module _ {m : Meant} {whole table : List ℕ} {i many : ℕ} {heads : Heads} {code : List ℕ} {at : Places} where
  pub ahead-item : i < many → BodyAhead m whole table i many heads code at → ItemHere m table heads code at
  ahead-item l w = go w.rest w.ready w.count
    where
      go : (xs : List Item) → ItemsTo m xs table heads code at → i + length xs ≡ many → ItemHere m table heads code at
      go [] v c = absurd (let z : i + 0 ≡ many = c in omega arith)
      go (x ∷ xs) v c =
          let o : Split m x xs table heads code at = split v in
          record { item = x; ready = o.item; fits = omega (arith, o.inside, v.headed.nodes_short) }

  pub ahead-next : i < many → BodyAhead m whole table i many heads code at → {new : List ℕ}
      → ((m : Meant) (x : Item) → ItemTo m x table heads code at → new ≡ put_record code at.literal (kind_of x) at.node (other_of m.ss m.sh at.node at.literal x))
      → {next : ℕ} → ((x : Item) → WordsAt table at.read (item_words x) → next ≡ at.read + length (item_words x)) → {size : ℕ} → ((n : ℕ) → n * 3 + 1 * 2 ≡ (next - at.read) * 2 → size ≡ n)
      → {after : ℕ} → after ≡ next_literal at.literal → BodyAhead m whole table (i + 1) many heads new (record { read = next; node = at.node + size; literal = after })
  unfolding put_items
  ahead-next l w {new} n {next} s {size} z {after} e =
      subst⁻¹ (λ (k : ℕ). BodyAhead m whole table (i + 1) many heads new (record { read = next; node = at.node + size; literal = k })) e (go w.rest w.ready w.count w.gives)
    where
      go : (xs : List Item) → ItemsTo m xs table heads code at → i + length xs ≡ many → put_items m.ss m.sh at.node xs code at.literal ≡ whole
          → BodyAhead m whole table (i + 1) many heads new (record { read = next; node = at.node + size; literal = next_literal at.literal })
      go [] v c g = absurd (let y : i + 0 ≡ many = c in omega arith)
      go (x ∷ xs) v c g =
          let o : Split m x xs table heads code at = split v in
          let r : next ≡ at.read + length (item_words x) = s x o.item.has in
          let d : length (item_nodes m.ss x) * 3 + 1 * 2 ≡ length (item_words x) * 2 = item-nodes m.ss x in
          let size_is : size ≡ length (item_nodes m.ss x) = z (length (item_nodes m.ss x)) (omega arith) in
          let f : at.node + size ≡ at.node + length (item_nodes m.ss x) = ap (λ (k : ℕ). at.node + k) size_is in
          let new_is : new ≡ put_record code at.literal (kind_of x) at.node (other_of m.ss m.sh at.node at.literal x) = n m x o.item in
          let long : length new ≡ length code = ap length new_is ∙ record-long code at.literal (kind_of x) at.node (other_of m.ss m.sh at.node at.literal x) in
          let count : i + suc (length xs) ≡ many = c in
          let room : next_literal (literal_from at.literal (suc (length xs))) ≤ length code = o.room in
          let inside : at.node + length (item_nodes m.ss x) ≤ length heads.nodes.now = o.inside in
          let low : bodies ≤ at.literal = v.low in
          record {
            rest = xs;
            ready = record {
              headed = headed-kept long (subst⁻¹ (SameHeads code) new_is (record-heads code at.literal (kind_of x) at.node (other_of m.ss m.sh at.node at.literal x) v.low)) v.headed;
              has = subst⁻¹ (λ (k : ℕ). WordsAt table k (items_words xs)) r o.has;
              stand = subst⁻¹ (λ (k : ℕ). WordsAt heads.nodes.now k (items_nodes m.ss xs)) f o.stand;
              loadable = o.loadable;
              small = o.small;
              node = omega arith;
              low = omega arith;
              high = omega arith;
            };
            count = omega arith;
            gives = ap₂ (λ (k : ℕ) (c : List ℕ). put_items m.ss m.sh k xs c (next_literal at.literal)) f new_is ∙ g;
          }

  -- where the cursors are
  pub ahead-bounds : BodyAhead m whole table i many heads code at → (next_literal at.literal ≤ length code) × ((length code ≤ places) × (length whole ≡ length code))
  ahead-bounds w =
      let a : next_literal (literal_from at.literal (length w.rest)) ≤ length code = w.ready.high in
      (omega arith, (w.ready.headed.short, sym (ap length w.gives) ∙ body-long m.ss m.sh at.node w.rest code at.literal))

  pub ahead-end : many ≤ i → {new : List ℕ} → new ≡ set code at.literal body_end_kind → BodyAhead m whole table i many heads code at → new ≡ whole
  unfolding put_items
  ahead-end l {new} e w = go w.rest w.count w.gives
    where
      go : (xs : List Item) → i + length xs ≡ many → put_items m.ss m.sh at.node xs code at.literal ≡ whole → new ≡ whole
      go [] c g = e ∙ g
      go (x ∷ xs) c g = absurd (let z : i + suc (length xs) ≡ many = c in omega arith)

-- how far the words of an item reach, and how many its nodes take
module _ (table : List ℕ) (at next : ℕ) (s : (x : Item) → WordsAt table at (item_words x) → next ≡ at + length (item_words x)) (x : Item) (h : WordsAt table at (item_words x)) where
  pub item-behind : (at ≤ next) × (1 ≤ next - at)
  item-behind = (omega (arith, s x h), omega (arith, s x h, item-nodes [] x))

  pub item-size : (ss : List Symbol) (size : ℕ) → ((n : ℕ) → n * 3 + 1 * 2 ≡ (next - at) * 2 → size ≡ n) → size ≡ length (item_nodes ss x)
  item-size ss size z = z (length (item_nodes ss x)) (omega (arith, s x h, item-nodes ss x))
