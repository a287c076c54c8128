-- Laws of refusal 8 along the items of a body, one for each way out of the functions. Assumes nothing.
use Prim.Native.Nat.{ℕ, ◌+◌, ◌≤◌, ◌<◌}
use native.Mathlib.Omega.{arith}
use mathlib.Core.Path.{◌≡◌, refl, sym, ap, ◌∙◌, subst⁻¹}
use mathlib.Core.List.{List, [], ◌∷◌, ◌++◌, append_assoc, append-nil}
use mathlib.Core.Option.{Option, none, some}
use lib.ListN.{length, get_or}
use Rattle.syntax.specs.Terms.{Literal, Body, call, equation, truth, falsity, either, done, also, literals_in, literals_of, Declaration}
use Rattle.syntax.specs.Words.{body_length, call_kind, left_kind}
use Rattle.syntax.specs.declared.Refusal.{Refusal}
use Rattle.mode_rules.specs.Modes.{first_of, undeclared_atom, undeclared_literal, undeclared_body}
use Rattle.words.specs.Tables.{WordsAt}
use Rattle.words.specs.Items.{Item, plain_call, plain_equation, plain_truth, plain_falsity, before_left, before_right, behind, item_words, items_words, literal_items, items}
use Rattle.words.proofs.Items.{View, view_truth, view_falsity, view_call, view_equation, view_left, view_right, view_behind, view, body-many, items-stand, first-stands, rest-stand}
use Rattle.words.proofs.Items as of
use Rattle.marks.specs.Spelt.{LiteralSpelt, call_stands, either_stands, BodySpelt, also_stands}
use Rattle.marks.specs.Tables.{AtomAt, BodyAt}
use Rattle.std.specs.Prelude.{Ok, Err}
use Rattle.marks.specs.Answers.{Checked, checked_of}
use Rattle.marks.specs.Items.{literals_at, undeclared_item, ItemSpelt, ItemAt}
use Rattle.marks.proofs.Faults.{fault-stays, fine-goes, over}

-- ---- one item

pub item-words : {g table : List ℕ} {p : ℕ} → ItemAt g table p → (x : Item) × WordsAt table p (item_words x)
item-words w = (w.item, w.has)

pub item_room : {g table : List ℕ} {p : ℕ} → ItemAt g table p → p < length table
item_room {g} {table} {p} w = of.item_room table p w.item w.has

module _ (table : List ℕ) (p word : ℕ) (e : word ≡ get_or table p 0) where
  none-by : {x : Item} → left_kind ≤ word → View table p x → 0 ≡ literals_at x
  none-by k (view_truth q) = absurd (omega arith)
  none-by k (view_falsity q) = absurd (omega arith)
  none-by k (view_call q h) = absurd (omega arith)
  none-by k (view_equation q h r) = absurd (omega arith)
  none-by k (view_left q) = refl
  none-by k (view_right q) = refl
  none-by k (view_behind q) = refl

  pub no-literal : left_kind ≤ word → (x : Item) → WordsAt table p (item_words x) → 0 ≡ literals_at x
  no-literal k x h = none-by k (view table p x h)

  one-by : {x : Item} → word < left_kind → View table p x → 1 ≡ literals_at x
  one-by k (view_truth q) = refl
  one-by k (view_falsity q) = refl
  one-by k (view_call q h) = refl
  one-by k (view_equation q h r) = refl
  one-by k (view_left q) = absurd (omega arith)
  one-by k (view_right q) = absurd (omega arith)
  one-by k (view_behind q) = absurd (omega arith)

  pub one_literal : word < left_kind → (x : Item) → WordsAt table p (item_words x) → 1 ≡ literals_at x
  one_literal k x h = one-by k (view table p x h)

fine-by : {table : List ℕ} {p word : ℕ} {x : Item} → word ≡ get_or table p 0 → (word ≡ call_kind → ⊥) → View table p x → (ds : List Declaration) (c m : ℕ) → Ok tt ≡ checked_of (undeclared_item ds c m x)
fine-by e k (view_truth q) ds c m = refl
fine-by e k (view_falsity q) ds c m = refl
fine-by e k (view_call q h) ds c m = absurd (k (e ∙ q))
fine-by e k (view_equation q h r) ds c m = refl
fine-by e k (view_left q) ds c m = refl
fine-by e k (view_right q) ds c m = refl
fine-by e k (view_behind q) ds c m = refl

-- the item is a call
record CallItem (g table : List ℕ) (p : ℕ) (x : Item) : Type 0 where
  atom : AtomAt g table (p + 1)
  is : x ≡ plain_call atom.atom

module _ {g table : List ℕ} {p word : ℕ} (e : word ≡ get_or table p 0) where
  pub no_call : (word ≡ call_kind → ⊥) → (ds : List Declaration) (c m : ℕ) (w : ItemAt g table p) → Ok tt ≡ checked_of (undeclared_item ds c m w.item)
  no_call k ds c m w = fine-by e k (view table p w.item w.has) ds c m

  call_by : {x : Item} → word ≡ call_kind → View table p x → ItemSpelt g x → CallItem g table p x
  call_by k (view_truth q) s = absurd (omega arith)
  call_by k (view_falsity q) s = absurd (omega arith)
  call_by k (view_call {a} q h) s = record { atom = record { atom = a; has = h; stands = s }; is = refl }
  call_by k (view_equation q h r) s = absurd (omega arith)
  call_by k (view_left q) s = absurd (omega arith)
  call_by k (view_right q) s = absurd (omega arith)
  call_by k (view_behind q) s = absurd (omega arith)

  call-is : word ≡ call_kind → (w : ItemAt g table p) → CallItem g table p w.item
  call-is k w = call_by k (view table p w.item w.has) w.stands

  pub called_at : word ≡ call_kind → ItemAt g table p → AtomAt g table (p + 1)
  called_at k w = (call-is k w).atom

  pub called : word ≡ call_kind → (ds : List Declaration) (c m : ℕ) (f : Checked) → ((a : AtomAt g table (p + 1)) → f ≡ checked_of (undeclared_atom ds c m a.atom))
      → (w : ItemAt g table p) → f ≡ checked_of (undeclared_item ds c m w.item)
  called k ds c m f h w = h (call-is k w).atom ∙ sym (ap (λ (x : Item). checked_of (undeclared_item ds c m x)) (call-is k w).is)

-- an item counts for one literal at most
literals-few : (x : Item) → literals_at x ≤ 1
literals-few (plain_call a) = omega arith
literals-few (plain_equation t u) = omega arith
literals-few plain_truth = omega arith
literals-few plain_falsity = omega arith
literals-few (before_left n) = omega arith
literals-few (before_right n) = omega arith
literals-few behind = omega arith

item-some : (x : Item) → 1 ≤ length (item_words x)
unfolding item_words
item-some (plain_call a) = omega arith
item-some (plain_equation t u) = omega arith
item-some plain_truth = omega arith
item-some plain_falsity = omega arith
item-some (before_left n) = omega arith
item-some (before_right n) = omega arith
item-some behind = omega arith

-- ---- the items in turn

-- the first fault 8 of some items, of which the first literal has number l
unfoldable pub undeclared_items : List Declaration → ℕ → ℕ → List Item → Option Refusal
undeclared_items ds c l [] = none
undeclared_items ds c l (x ∷ xs) = first_of (undeclared_item ds c l x) (undeclared_items ds c (literals_at x + l) xs)

first-assoc : (o x y : Option Refusal) → first_of o (first_of x y) ≡ first_of (first_of o x) y
first-assoc none x y = refl
first-assoc (some r) x y = refl

first-last : (o : Option Refusal) → first_of o none ≡ o
first-last none = refl
first-last (some r) = refl

module _ (ds : List Declaration) (c : ℕ) where
  same_number : (l : ℕ) (xs : List Item) → undeclared_items ds c (0 + l) xs ≡ undeclared_items ds c l xs
  same_number l xs = ap (λ (k : ℕ). undeclared_items ds c k xs) (let e : 0 + l ≡ l = omega arith in e)

  mutual
    unfolding undeclared_items undeclared_literal literal_items literals_in

    literal-undeclared : (x : Literal) (l : ℕ) (xs : List Item)
        → undeclared_items ds c l (literal_items x ++ xs) ≡ first_of (undeclared_literal ds c l x) (undeclared_items ds c (literals_in x + l) xs)
    literal-undeclared (call a) l xs = refl
    literal-undeclared (equation t u) l xs = refl
    literal-undeclared truth l xs = refl
    literal-undeclared falsity l xs = refl
    literal-undeclared (either y z) l xs =
        let m : ℕ = literals_of y + l in
        let right : List Item = (before_right (body_length z) ∷ items z) ++ (behind ∷ []) in
        let two : undeclared_items ds c m (right ++ xs) ≡ first_of (undeclared_body ds c m z) (undeclared_items ds c (literals_of z + m) xs) =
        same_number m ((items z ++ (behind ∷ [])) ++ xs)
        ∙ ap (undeclared_items ds c m) (append_assoc (items z) (behind ∷ []) xs)
        ∙ body-undeclared z m (behind ∷ xs)
        ∙ ap (first_of (undeclared_body ds c m z)) (same_number (literals_of z + m) xs) in
        let last : literals_of z + m ≡ literals_of y + literals_of z + l = omega arith in
        same_number l ((items y ++ right) ++ xs)
        ∙ ap (undeclared_items ds c l) (append_assoc (items y) right xs)
        ∙ body-undeclared y l (right ++ xs)
        ∙ ap (first_of (undeclared_body ds c l y)) two
        ∙ first-assoc (undeclared_body ds c l y) (undeclared_body ds c m z) (undeclared_items ds c (literals_of z + m) xs)
        ∙ ap (λ (k : ℕ). first_of (first_of (undeclared_body ds c l y) (undeclared_body ds c m z)) (undeclared_items ds c k xs)) last

    body-undeclared : (b : Body) (l : ℕ) (xs : List Item)
        → undeclared_items ds c l (items b ++ xs) ≡ first_of (undeclared_body ds c l b) (undeclared_items ds c (literals_of b + l) xs)
    body-undeclared done l xs = sym (same_number l xs)
    body-undeclared (also x b) l xs =
        let m : ℕ = literals_in x + l in
        let last : literals_of b + m ≡ literals_in x + literals_of b + l = omega arith in
        ap (undeclared_items ds c l) (append_assoc (literal_items x) (items b) xs)
        ∙ literal-undeclared x l (items b ++ xs)
        ∙ ap (first_of (undeclared_literal ds c l x)) (body-undeclared b m xs)
        ∙ first-assoc (undeclared_literal ds c l x) (undeclared_body ds c m b) (undeclared_items ds c (literals_of b + m) xs)
        ∙ ap (λ (k : ℕ). first_of (first_of (undeclared_literal ds c l x) (undeclared_body ds c m b)) (undeclared_items ds c k xs)) last

  whole-undeclared : (b : Body) (l : ℕ) → undeclared_body ds c l b ≡ undeclared_items ds c l (items b)
  unfolding undeclared_items
  whole-undeclared b l =
      sym (ap (undeclared_items ds c l) (sym (append-nil (items b))) ∙ body-undeclared b l [] ∙ first-last (undeclared_body ds c l b))

-- each item is one of the text
abbrev ItemsStand : List ℕ → List Item → Type 0
ItemsStand g [] = Unit {0}
ItemsStand g (x ∷ xs) = ItemSpelt g x × ItemsStand g xs

module _ (g : List ℕ) where
  stand-append : (xs ys : List Item) → ItemsStand g xs → ItemsStand g ys → ItemsStand g (xs ++ ys)
  stand-append [] ys h k = k
  stand-append (x ∷ xs) ys h k = (h.0, stand-append xs ys h.1 k)

  mutual
    unfolding literal_items

    literal-stands : (x : Literal) → LiteralSpelt g x → ItemsStand g (literal_items x)
    literal-stands (call a) (call_stands k) = (k, tt)
    literal-stands (equation t u) k = (tt, tt)
    literal-stands truth k = (tt, tt)
    literal-stands falsity k = (tt, tt)
    literal-stands (either y z) (either_stands ky kz) =
        (tt, stand-append (items y) ((before_right (body_length z) ∷ items z) ++ (behind ∷ [])) (body-stands y ky) (tt, stand-append (items z) (behind ∷ []) (body-stands z kz) (tt, tt)))

    body-stands : (b : Body) → BodySpelt g b → ItemsStand g (items b)
    body-stands done k = tt
    body-stands (also x b) (also_stands k ks) = stand-append (literal_items x) (items b) (literal-stands x k) (body-stands b ks)

-- ---- refusal 8 along a body

-- what is left of it, behind i items, at a place before the literal of that number
pub record Left (ds : List Declaration) (c : ℕ) (g table : List ℕ) (at i many literal : ℕ) (whole : Option Refusal) : Type 0 where
  pub rest : List Item
  pub has : WordsAt table at (items_words rest)
  pub count : many ≡ i + length rest
  pub stand : ItemsStand g rest
  pub same : whole ≡ undeclared_items ds c literal rest

pub left-whole : {ds : List Declaration} {c : ℕ} {g table : List ℕ} {p many : ℕ} (w : BodyAt g table p many) → Left ds c g table p 0 many 1 (undeclared_body ds c 1 w.body)
left-whole {ds} {c} {g} {table} {p} w = record {
  rest = items w.body;
  has = items-stand table p w.body w.has;
  count = omega (arith, w.count, body-many w.body);
  stand = body-stands g w.body w.stands;
  same = whole-undeclared ds c w.body 1;
}

-- the first item and the others
pub record First (g table : List ℕ) (at i many : ℕ) (xs : List Item) : Type 0 where
  pub item : ItemAt g table at
  pub others : List Item
  pub is : xs ≡ item.item ∷ others
  pub has : WordsAt table (at + length (item_words item.item)) (items_words others)
  pub count : many ≡ i + 1 + length others
  pub stand : ItemsStand g others

first-by : (g table : List ℕ) (at i many : ℕ) (xs : List Item) → i < many → WordsAt table at (items_words xs) → many ≡ i + length xs → ItemsStand g xs → First g table at i many xs
first-by g table at i many [] l h e k = absurd (omega arith)
first-by g table at i many (x ∷ xs) l h e k = record {
  item = record { item = x; has = first-stands table at x xs h; stands = k.0 };
  others = xs;
  is = refl;
  has = rest-stand table at x xs h;
  count = omega arith;
  stand = k.1;
}

module _ {ds : List Declaration} {c : ℕ} {g table : List ℕ} {at i many literal : ℕ} {whole : Option Refusal} where
  pub left-none : many ≤ i → Left ds c g table at i many literal whole → Ok tt ≡ checked_of whole
  unfolding undeclared_items
  left-none l a = sym (ap checked_of (a.same ∙ ap (undeclared_items ds c literal) (over i many a.rest l a.count)))

  module _ (l : i < many) (a : Left ds c g table at i many literal whole) where
    pub first : First g table at i many a.rest
    first = first-by g table at i many a.rest l a.has a.count a.stand

    whole_is : whole ≡ first_of (undeclared_item ds c literal first.item.item) (undeclared_items ds c (literals_at first.item.item + literal) first.others)
    unfolding undeclared_items
    whole_is = a.same ∙ ap (undeclared_items ds c literal) first.is

    module _ {f : Checked} (ef : (w : ItemAt g table at) → f ≡ checked_of (undeclared_item ds c literal w.item)) where
      pub left-stops : {r : Refusal} → f ≡ Err r → Err r ≡ checked_of whole
      left-stops t =
          fault-stays (undeclared_item ds c literal first.item.item) (undeclared_items ds c (literals_at first.item.item + literal) first.others) (ef first.item) t
          ∙ sym (ap checked_of whole_is)

      pub left-on : f ≡ Ok tt → {gone next : ℕ} → ((x : Item) → WordsAt table at (item_words x) → gone ≡ literals_at x)
          → ((x : Item) → WordsAt table at (item_words x) → next ≡ at + length (item_words x)) → Left ds c g table next (i + 1) many (literal + gone) whole
      left-on t {gone} {next} m n =
          let k : literals_at first.item.item + literal ≡ literal + gone = omega (arith, m first.item.item first.item.has) in
          record {
            rest = first.others;
            has = subst⁻¹ (λ (j : ℕ). WordsAt table j (items_words first.others)) (n first.item.item first.item.has) first.has;
            count = omega (arith, first.count);
            stand = first.stand;
            same =
                whole_is
                ∙ fine-goes (undeclared_item ds c literal first.item.item) (undeclared_items ds c (literals_at first.item.item + literal) first.others) (ef first.item) t
                ∙ ap (λ (j : ℕ). undeclared_items ds c j first.others) k;
          }

      -- the place and the number rise together
      pub left-rises : {gone next : ℕ} → ((x : Item) → WordsAt table at (item_words x) → gone ≡ literals_at x)
          → ((x : Item) → WordsAt table at (item_words x) → next ≡ at + length (item_words x)) → literal ≤ at + 1 → literal + gone ≤ next + 1
      left-rises m n k =
          let x : Item = first.item.item in
          omega (arith, m x first.item.has, n x first.item.has, literals-few x, item-some x)

    pub left-fits : {gone : ℕ} → ((x : Item) → WordsAt table at (item_words x) → gone ≡ literals_at x) → literal ≤ at + 1 → literal + gone ≤ length table + 1
    left-fits m k = omega (arith, m first.item.item first.item.has, literals-few first.item.item, item_room first.item)
