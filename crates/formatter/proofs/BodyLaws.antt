-- Laws of items and bodies written from a table, one for each way out of the functions. Assumes nothing.
use Prim.Native.Nat.{ℕ, suc, ◌+◌, ◌-◌, ◌*◌, ◌≤◌, ◌<◌}
use native.Mathlib.Omega.{arith}
use mathlib.Core.Path.{◌≡◌, refl, sym, ap, ◌∙◌, subst, subst⁻¹}
use mathlib.Core.Bool.{Bool, true, false}
use mathlib.Core.List.{List, [], ◌∷◌, ◌++◌}
use lib.ListN.{length, get_or, length-append}
use Rattle.syntax.specs.Terms.{Term, Atom, term_of, Literal, call, equation, truth, falsity, either, Body, done, also, true_name, fail_name}
use Rattle.syntax.specs.Words.{truth_kind, falsity_kind, call_kind, equation_kind, left_kind, right_kind, item_kind, term_words, atom_words, body_words, body_length}
use Rattle.words.specs.Buffers.{Appended}
use Rattle.words.specs.Tables.{WordsAt}
use Rattle.words.specs.Items.{Item, plain_call, plain_equation, plain_truth, plain_falsity, before_left, before_right, behind, item_words, items_words, literal_items, items}
use Rattle.words.proofs.BuffersLaws.{then, spelt}
use Rattle.words.proofs.TablesLaws.{size_is, has-inside}
use Rattle.words.proofs.Items.{View, view_truth, view_falsity, view_call, view_equation, view_left, view_right, view_behind, view, body-many, body-words, items-stand, first-stands, rest-stand}
use Rattle.words.proofs.Items as of
use Rattle.marks.specs.Spelt.{TermSpelt, LiteralSpelt, call_stands, equation_stands, either_stands, BodySpelt, also_stands}
use Rattle.marks.specs.Tables.{BodyAt}
use Rattle.format_rules.specs.Writing.{term_text, atom_text, body_text}
use Rattle.formatter.specs.Tables.{SpeltTermAt, ItemSpelt, SpeltItemAt, word_room}
use Rattle.formatter.specs.Texts.{comma, is_behind_literal, item_text}
use Rattle.formatter.proofs.TermLaws.{term_then, term_short, behind_term}
use Rattle.formatter.proofs.ItemTexts.{items_text, whole_body}
use Rattle.formatter.proofs.Progress.{Before, in_turn, AppendedBut, begun, further, all_done}

pub item_room : {s table : List ℕ} {p : ℕ} → SpeltItemAt s table p → p < length table
item_room {s} {table} {p} w = of.item_room table p w.item w.has

-- ---- a literal

module _ {table : List ℕ} {p kind : ℕ} (e : kind ≡ get_or table p 0) where
  true_by : {x : Item} → kind ≡ truth_kind → View table p x → item_text false x [] ≡ true_name
  unfolding item_text
  true_by k (view_truth q) = refl
  true_by k (view_falsity q) = absurd (omega arith)
  true_by k (view_call q h) = absurd (omega arith)
  true_by k (view_equation q h r) = absurd (omega arith)
  true_by k (view_left q) = absurd (omega arith)
  true_by k (view_right q) = absurd (omega arith)
  true_by k (view_behind q) = absurd (omega arith)

  fail_by : {x : Item} → kind ≡ falsity_kind → View table p x → item_text false x [] ≡ fail_name
  unfolding item_text
  fail_by k (view_truth q) = absurd (omega arith)
  fail_by k (view_falsity q) = refl
  fail_by k (view_call q h) = absurd (omega arith)
  fail_by k (view_equation q h r) = absurd (omega arith)
  fail_by k (view_left q) = absurd (omega arith)
  fail_by k (view_right q) = absurd (omega arith)
  fail_by k (view_behind q) = absurd (omega arith)

-- an equation: its two sides
record Sides (s table : List ℕ) (p : ℕ) (x : Item) : Type 0 where
  left : SpeltTermAt s table (p + 1)
  right : SpeltTermAt s table (p + 1 + get_or table (p + 1 + 1) 0)
  is : item_text false x [] ≡ term_text left.term (61 ∷ term_text right.term [])

module _ {s table : List ℕ} {p kind : ℕ} (e : kind ≡ get_or table p 0) where
  pub true_written : {out new : List ℕ} {at past : ℕ} → kind ≡ truth_kind → Appended out at true_name new past → (w : SpeltItemAt s table p) → Appended out at (item_text false w.item []) new past
  true_written k q w = spelt (true_by e k (view table p w.item w.has)) q

  pub fail_written : {out new : List ℕ} {at past : ℕ} → kind ≡ falsity_kind → Appended out at fail_name new past → (w : SpeltItemAt s table p) → Appended out at (item_text false w.item []) new past
  fail_written k q w = spelt (fail_by e k (view table p w.item w.has)) q

  -- a call is one term
  call_by : {x : Item} → kind ≡ call_kind → View table p x → ItemSpelt s x → (u : SpeltTermAt s table (p + 1)) × (item_text false x [] ≡ term_text u.term [])
  unfolding item_text atom_text term_text
  call_by k (view_truth q) z = absurd (omega arith)
  call_by k (view_falsity q) z = absurd (omega arith)
  call_by k (view_call {a} q h) z = (record { term = term_of a; has = h; stands = z }, refl)
  call_by k (view_equation q h r) z = absurd (omega arith)
  call_by k (view_left q) z = absurd (omega arith)
  call_by k (view_right q) z = absurd (omega arith)
  call_by k (view_behind q) z = absurd (omega arith)

  pub call_written : {out new : List ℕ} {at past : ℕ} → kind ≡ call_kind → ((u : SpeltTermAt s table (p + 1)) → Appended out at (term_text u.term []) new past)
      → (w : SpeltItemAt s table p) → Appended out at (item_text false w.item []) new past
  call_written k q w = let o = call_by k (view table p w.item w.has) w.stands in spelt o.1 (q o.0)

  -- a literal that is neither true nor fail begins with a term
  left_by : {x : Item} → (kind ≡ truth_kind → ⊥) → (kind ≡ falsity_kind → ⊥) → kind ≤ equation_kind → View table p x → ItemSpelt s x → SpeltTermAt s table (p + 1)
  left_by t f l (view_truth q) z = absurd (t (e ∙ q))
  left_by t f l (view_falsity q) z = absurd (f (e ∙ q))
  left_by t f l (view_call {a} q h) z = record { term = term_of a; has = h; stands = z }
  left_by t f l (view_equation {t = u} q h r) z = record { term = u; has = h; stands = z.0 }
  left_by t f l (view_left q) z = absurd (omega arith)
  left_by t f l (view_right q) z = absurd (omega arith)
  left_by t f l (view_behind q) z = absurd (omega arith)

  module _ (t : kind ≡ truth_kind → ⊥) (f : kind ≡ falsity_kind → ⊥) (l : get_or table p 0 ≤ equation_kind) where
    pub left_term : SpeltItemAt s table p → SpeltTermAt s table (p + 1)
    left_term w = left_by t f (omega (arith, e, l)) (view table p w.item w.has) w.stands

    sides_by : {x : Item} → (kind ≡ call_kind → ⊥) → View table p x → ItemSpelt s x → Sides s table p x
    unfolding item_text
    sides_by c (view_truth q) z = absurd (t (e ∙ q))
    sides_by c (view_falsity q) z = absurd (f (e ∙ q))
    sides_by c (view_call q h) z = absurd (c (e ∙ q))
    sides_by c (view_equation {t = u} {u = v} q h r) z = record {
      left = record { term = u; has = h; stands = z.0 };
      right = record { term = v; has = subst⁻¹ (λ (k : ℕ). WordsAt table (p + 1 + k) (term_words v)) (size_is table (p + 1) u h) r; stands = z.1 };
      is = refl;
    }
    sides_by c (view_left q) z = absurd (omega arith)
    sides_by c (view_right q) z = absurd (omega arith)
    sides_by c (view_behind q) z = absurd (omega arith)

    module _ (c : kind ≡ call_kind → ⊥) {right : ℕ} (n : right ≡ p + 1 + get_or table (p + 1 + 1) 0) where
      sides : (w : SpeltItemAt s table p) → Sides s table p w.item
      sides w = sides_by c (view table p w.item w.has) w.stands

      pub right_term : SpeltItemAt s table p → SpeltTermAt s table right
      right_term w = subst⁻¹ (SpeltTermAt s table) n (sides w).right

      pub equation_written : {out one two new : List ℕ} {at past later end : ℕ} → ((u : SpeltTermAt s table (p + 1)) → Appended out at (term_text u.term []) one past)
          → Appended one past (61 ∷ []) two later → ((u : SpeltTermAt s table right) → Appended two later (term_text u.term []) new end)
          → (w : SpeltItemAt s table p) → Appended out at (item_text false w.item []) new end
      equation_written {two = two} {new = new} {later = later} {end = end} q sign r w =
          let o : Sides s table p w.item = sides w in
          let other : Appended two later (term_text o.right.term []) new end = subst (λ (k : ℕ). (u : SpeltTermAt s table k) → Appended two later (term_text u.term []) new end) n r o.right in
          spelt (o.is ∙ term_then o.left.term (61 ∷ term_text o.right.term [])) (then (q o.left) (then sign other))

-- ---- an item

comma_then : (b : Bool) (rest : List ℕ) → comma b rest ≡ comma b [] ++ rest
comma_then true rest = refl
comma_then false rest = refl

-- what an item is by its first word: whether a literal stands behind it, and what is written
record Shown (started : Bool) (x : Item) (followed : Bool) (text : List ℕ) : Type 0 where
  followed_is : followed ≡ is_behind_literal x
  text_is : item_text started x [] ≡ text

module _ {table : List ℕ} {p word : ℕ} (e : word ≡ get_or table p 0) (started : Bool) where
  literal_by : {x : Item} → word ≤ equation_kind → View table p x → Shown started x true (comma started [] ++ item_text false x [])
  unfolding item_text
  literal_by l (view_truth q) = record { followed_is = refl; text_is = comma_then started true_name }
  literal_by l (view_falsity q) = record { followed_is = refl; text_is = comma_then started fail_name }
  literal_by l (view_call {a} q h) = record { followed_is = refl; text_is = comma_then started (atom_text a []) }
  literal_by l (view_equation {t = t} {u = u} q h r) = record { followed_is = refl; text_is = comma_then started (term_text t (61 ∷ term_text u [])) }
  literal_by l (view_left q) = absurd (omega arith)
  literal_by l (view_right q) = absurd (omega arith)
  literal_by l (view_behind q) = absurd (omega arith)

  module _ (g : equation_kind < word) {kind : ℕ} (ek : kind ≡ item_kind word) where
    left_by_kind : {x : Item} → kind ≡ left_kind → View table p x → Shown started x false (comma started [] ++ (40 ∷ []))
    unfolding item_text
    left_by_kind k (view_truth q) = absurd (omega arith)
    left_by_kind k (view_falsity q) = absurd (omega arith)
    left_by_kind k (view_call q h) = absurd (omega arith)
    left_by_kind k (view_equation q h r) = absurd (omega arith)
    left_by_kind k (view_left q) = record { followed_is = refl; text_is = comma_then started (40 ∷ []) }
    left_by_kind k (view_right q) = absurd (omega arith)
    left_by_kind k (view_behind q) = absurd (omega arith)

    right_by_kind : {x : Item} → kind ≡ right_kind → View table p x → Shown started x false (59 ∷ [])
    unfolding item_text
    right_by_kind k (view_truth q) = absurd (omega arith)
    right_by_kind k (view_falsity q) = absurd (omega arith)
    right_by_kind k (view_call q h) = absurd (omega arith)
    right_by_kind k (view_equation q h r) = absurd (omega arith)
    right_by_kind k (view_left q) = absurd (omega arith)
    right_by_kind k (view_right q) = record { followed_is = refl; text_is = refl }
    right_by_kind k (view_behind q) = absurd (omega arith)

    end_by_kind : {x : Item} → (kind ≡ left_kind → ⊥) → (kind ≡ right_kind → ⊥) → View table p x → Shown started x true (41 ∷ [])
    unfolding item_text
    end_by_kind d k (view_truth q) = absurd (omega arith)
    end_by_kind d k (view_falsity q) = absurd (omega arith)
    end_by_kind d k (view_call q h) = absurd (omega arith)
    end_by_kind d k (view_equation q h r) = absurd (omega arith)
    end_by_kind d k (view_left q) = absurd (d (omega arith))
    end_by_kind d k (view_right q) = absurd (k (omega arith))
    end_by_kind d k (view_behind q) = record { followed_is = refl; text_is = refl }

module _ {s table : List ℕ} {p word : ℕ} (e : word ≡ get_or table p 0) (started : Bool) where
  module _ (l : word ≤ equation_kind) where
    pub literal_written : {out one new : List ℕ} {at past end : ℕ} → Appended out at (comma started []) one past → ((w : SpeltItemAt s table p) → Appended one past (item_text false w.item []) new end)
        → (w : SpeltItemAt s table p) → Appended out at (item_text started w.item []) new end
    literal_written q r w = spelt (literal_by e started l (view table p w.item w.has)).text_is (then q (r w))

    pub behind_a_literal : (w : SpeltItemAt s table p) → true ≡ is_behind_literal w.item
    behind_a_literal w = (literal_by e started l (view table p w.item w.has)).followed_is

  module _ (g : equation_kind < word) {kind : ℕ} (ek : kind ≡ item_kind word) where
    module _ (k : kind ≡ left_kind) where
      left_shown : (w : SpeltItemAt s table p) → Shown started w.item false (comma started [] ++ (40 ∷ []))
      left_shown w = left_by_kind e started g ek k (view table p w.item w.has)

      pub left_written : {out one new : List ℕ} {at past end : ℕ} → Appended out at (comma started []) one past → Appended one past (40 ∷ []) new end
          → (w : SpeltItemAt s table p) → Appended out at (item_text started w.item []) new end
      left_written q r w = spelt (left_shown w).text_is (then q r)

      pub before_a_left_side : (w : SpeltItemAt s table p) → false ≡ is_behind_literal w.item
      before_a_left_side w = (left_shown w).followed_is

    module _ (k : kind ≡ right_kind) where
      right_shown : (w : SpeltItemAt s table p) → Shown started w.item false (59 ∷ [])
      right_shown w = right_by_kind e started g ek k (view table p w.item w.has)

      pub right_written : {out new : List ℕ} {at end : ℕ} → Appended out at (59 ∷ []) new end → (w : SpeltItemAt s table p) → Appended out at (item_text started w.item []) new end
      right_written q w = spelt (right_shown w).text_is q

      pub before_a_right_side : (w : SpeltItemAt s table p) → false ≡ is_behind_literal w.item
      before_a_right_side w = (right_shown w).followed_is

    module _ (d : kind ≡ left_kind → ⊥) (k : kind ≡ right_kind → ⊥) where
      end_shown : (w : SpeltItemAt s table p) → Shown started w.item true (41 ∷ [])
      end_shown w = end_by_kind e started g ek d k (view table p w.item w.has)

      pub end_written : {out new : List ℕ} {at end : ℕ} → Appended out at (41 ∷ []) new end → (w : SpeltItemAt s table p) → Appended out at (item_text started w.item []) new end
      end_written q w = spelt (end_shown w).text_is q

      pub behind_a_bracket : (w : SpeltItemAt s table p) → true ≡ is_behind_literal w.item
      behind_a_bracket w = (end_shown w).followed_is

-- ---- items, one behind the other

-- what follows stands behind
pub atom_then : (a : Atom) → Before (atom_text a)
unfolding atom_text term_text
atom_then a rest = term_then (term_of a) rest

sides_then : (t u : Term) → Before (λ rest. term_text t (61 ∷ term_text u rest))
sides_then t u = in_turn (term_text t) (λ rest. 61 ∷ term_text u rest) (term_then t) (λ rest. ap (λ (w : List ℕ). 61 ∷ w) (term_then u rest))

after_comma : (b : Bool) (text : List ℕ → List ℕ) → Before text → Before (λ rest. comma b (text rest))
after_comma true text f rest = ap (λ (w : List ℕ). 44 ∷ w) (f rest)
after_comma false text f rest = f rest

item_then : (b : Bool) (x : Item) → Before (item_text b x)
unfolding item_text
item_then b (plain_call a) rest = after_comma b (atom_text a) (atom_then a) rest
item_then b (plain_equation t u) rest = after_comma b (λ more. term_text t (61 ∷ term_text u more)) (sides_then t u) rest
item_then b plain_truth rest = after_comma b (λ more. true_name ++ more) (λ more. refl) rest
item_then b plain_falsity rest = after_comma b (λ more. fail_name ++ more) (λ more. refl) rest
item_then b (before_left n) rest = after_comma b (λ more. 40 ∷ more) (λ more. refl) rest
item_then b (before_right n) rest = refl
item_then b behind rest = refl

items_then : (b : Bool) (xs : List Item) → Before (items_text b xs)
unfolding items_text
items_then b [] rest = refl
items_then b (x ∷ xs) rest = in_turn (item_text b x) (items_text (is_behind_literal x) xs) (item_then b x) (items_then (is_behind_literal x) xs) rest

pub body_then : (b : Body) → Before (body_text b)
body_then b rest = sym (whole_body b rest) ∙ items_then false (items b) rest ∙ ap (λ (w : List ℕ). w ++ rest) (whole_body b [])

-- a word of the table is room for so many bytes
comma_short : (b : Bool) (text : List ℕ) → length (comma b text) ≤ suc (length text)
comma_short true text = omega arith
comma_short false text = omega arith

-- items whose terms are terms of the text
abbrev pub AllSpelt : List ℕ → List Item → Type 0
AllSpelt s [] = Unit {0}
AllSpelt s (x ∷ xs) = ItemSpelt s x × AllSpelt s xs

module _ (s : List ℕ) where
  pub atom_short : (a : Atom) → TermSpelt s (term_of a) → length (atom_text a []) + 8 ≤ word_room * length (atom_words a)
  unfolding atom_text term_text
  atom_short a k = omega (arith, term_short s (term_of a) k)

  item_short : (b : Bool) (x : Item) → ItemSpelt s x → length (item_text b x []) ≤ word_room * length (item_words x)
  unfolding item_text item_words
  item_short b (plain_call a) k = omega (arith, comma_short b (atom_text a []), atom_short a k)
  item_short b (plain_equation t u) k =
      omega (arith, comma_short b (term_text t (61 ∷ term_text u [])), behind_term t (61 ∷ term_text u []), term_short s t k.0, term_short s u k.1, length-append (term_words t) (term_words u))
  item_short b plain_truth k = omega (arith, comma_short b (true_name ++ []))
  item_short b plain_falsity k = omega (arith, comma_short b (fail_name ++ []))
  item_short b (before_left n) k = omega (arith, comma_short b (40 ∷ []))
  item_short b (before_right n) k = omega arith
  item_short b behind k = omega arith

  all_append : (xs ys : List Item) → AllSpelt s xs → AllSpelt s ys → AllSpelt s (xs ++ ys)
  all_append [] ys h k = k
  all_append (x ∷ xs) ys h k = (h.0, all_append xs ys h.1 k)

  mutual
    unfolding literal_items

    literal_spelt : (l : Literal) → LiteralSpelt s l → AllSpelt s (literal_items l)
    literal_spelt (call a) (call_stands k) = (k, tt)
    literal_spelt (equation t u) (equation_stands k h) = ((k, h), tt)
    literal_spelt truth k = (tt, tt)
    literal_spelt falsity k = (tt, tt)
    literal_spelt (either y z) (either_stands ky kz) =
        (tt, all_append (items y) ((before_right (body_length z) ∷ items z) ++ (behind ∷ [])) (body_spelt y ky) (tt, all_append (items z) (behind ∷ []) (body_spelt z kz) (tt, tt)))

    pub body_spelt : (b : Body) → BodySpelt s b → AllSpelt s (items b)
    body_spelt done k = tt
    body_spelt (also l b) (also_stands k ks) = all_append (literal_items l) (items b) (literal_spelt l k) (body_spelt b ks)

  items_short : (b : Bool) (xs : List Item) → AllSpelt s xs → length (items_text b xs []) ≤ word_room * length (items_words xs)
  unfolding items_text items_words
  items_short b [] k = omega arith
  items_short b (x ∷ xs) k =
      omega (
        arith,
        ap length (item_then b x (items_text (is_behind_literal x) xs [])),
        length-append (item_text b x []) (items_text (is_behind_literal x) xs []),
        item_short b x k.0,
        items_short (is_behind_literal x) xs k.1,
        length-append (item_words x) (items_words xs),
      )

  pub body_short : (b : Body) → BodySpelt s b → length (body_text b []) ≤ word_room * length (body_words b)
  body_short b k = omega (arith, ap length (whole_body b []), ap length (body-words b), items_short false (items b) (body_spelt b k))

item_some : (x : Item) → 0 < length (item_words x)
unfolding item_words
item_some (plain_call a) = omega arith
item_some (plain_equation t u) = omega arith
item_some plain_truth = omega arith
item_some plain_falsity = omega arith
item_some (before_left n) = omega arith
item_some (before_right n) = omega arith
item_some behind = omega arith

-- what is left of the items, of which i are written
pub record ItemsAhead (s table : List ℕ) (place i many : ℕ) : Type 0 where
  pub rest : List Item
  has : WordsAt table place (items_words rest)
  count : i + length rest ≡ many
  stand : AllSpelt s rest

abbrev pub items_begin : {s table : List ℕ} {p many : ℕ} → BodyAt s table p many → ItemsAhead s table p 0 many
items_begin {s} {table} {p} w = record {
  rest = items w.body;
  has = items-stand table p w.body w.has;
  count = omega (arith, w.count, body-many w.body);
  stand = body_spelt s w.body w.stands;
}

-- the first of them and the others
record Parted (s table : List ℕ) (place i many : ℕ) (xs : List Item) : Type 0 where
  first : SpeltItemAt s table place
  others : List Item
  is : xs ≡ first.item ∷ others
  has : WordsAt table (place + length (item_words first.item)) (items_words others)
  count : i + 1 + length others ≡ many
  stand : AllSpelt s others

parted_by : (s table : List ℕ) (place i many : ℕ) (xs : List Item) → i < many → WordsAt table place (items_words xs) → i + length xs ≡ many → AllSpelt s xs → Parted s table place i many xs
parted_by s table place i many [] l h c k = absurd (omega arith)
parted_by s table place i many (x ∷ xs) l h c k = record {
  first = record { item = x; has = first-stands table place x xs h; stands = k.0 };
  others = xs;
  is = refl;
  has = rest-stand table place x xs h;
  count = omega arith;
  stand = k.1;
}

none_left : {s table : List ℕ} {place i many : ℕ} → many ≤ i → (a : ItemsAhead s table place i many) → a.rest ≡ []
none_left {i = i} {many = many} l a = by a.rest a.count
  where
    by : (xs : List Item) → i + length xs ≡ many → xs ≡ []
    by [] e = refl
    by (x ∷ xs) e = absurd (omega arith)

-- ---- a body, written but for the items ahead

abbrev pub BodyWritten : {s table : List ℕ} {place i many : ℕ} → ItemsAhead s table place i many → Body → Bool → List ℕ → ℕ → List ℕ → ℕ → Type 0
BodyWritten a b started old from new to = AppendedBut old from (body_text b []) (items_text started a.rest []) new to

pub body_begun : {s table : List ℕ} {p many : ℕ} (w : BodyAt s table p many) {old : List ℕ} {from : ℕ} → (a : ItemsAhead s table p 0 many) × BodyWritten a w.body false old from old from
body_begun w = (items_begin w, begun (sym (whole_body w.body [])))

module _ {s table : List ℕ} {place i many : ℕ} where
  module _ (l : i < many) where
    parted : (a : ItemsAhead s table place i many) → Parted s table place i many a.rest
    parted a = parted_by s table place i many a.rest l a.has a.count a.stand

    pub next_item : ItemsAhead s table place i many → SpeltItemAt s table place
    next_item a = (parted a).first

    pub item_words_at : ItemsAhead s table place i many → (x : Item) × WordsAt table place (item_words x)
    item_words_at a = ((next_item a).item, (next_item a).has)

    -- the item that was written
    module _ (started : Bool) {next : ℕ} (n : (x : Item) → WordsAt table place (item_words x) → next ≡ place + length (item_words x)) {new after : List ℕ} {to end : ℕ}
        (q : (w : SpeltItemAt s table place) → Appended new to (item_text started w.item []) after end) where
      pub room_left : {bound : ℕ} → ItemsAhead s table place i many → to + word_room * (length table - place) ≤ bound → end + word_room * (length table - next) ≤ bound
      room_left a h =
          let x : SpeltItemAt s table place = next_item a in
          omega (
            arith,
            h,
            n x.item x.has,
            (q x).past,
            item_short s started x.item x.stands,
            has-inside table place (item_words x.item) x.has (item_some x.item),
          )

      pub body_further : {follows : Bool} → ((w : SpeltItemAt s table place) → follows ≡ is_behind_literal w.item) → (b : Body) {old : List ℕ} {from : ℕ}
          → (a : ItemsAhead s table place i many) × BodyWritten a b started old from new to → (a : ItemsAhead s table next (i + 1) many) × BodyWritten a b follows old from after end
      unfolding items_text
      body_further {follows} f b w =
          let o : Parted s table place i many w.0.rest = parted w.0 in (
            record { rest = o.others; has = subst⁻¹ (λ (k : ℕ). WordsAt table k (items_words o.others)) (n o.first.item o.first.has) o.has; count = o.count; stand = o.stand },
            further
                (ap (λ (xs : List Item). items_text started xs []) o.is
                ∙ item_then started o.first.item (items_text (is_behind_literal o.first.item) o.others [])
                ∙ ap (λ (c : Bool). item_text started o.first.item [] ++ items_text c o.others []) (sym (f o.first)))
                w.1 (q o.first),
          )

  pub body_ended : many ≤ i → (b : Body) (started : Bool) {old new : List ℕ} {from to : ℕ} → (a : ItemsAhead s table place i many) × BodyWritten a b started old from new to
      → Appended old from (body_text b []) new to
  unfolding items_text
  body_ended l b started w = all_done (ap (λ (xs : List Item). items_text started xs []) (none_left l w.0)) w.1
