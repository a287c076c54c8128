-- Laws of the items of a body: they are its words, as many as `body_length` says, and how a loop goes along them. Assumes nothing.
use Prim.Native.Nat.{ℕ, suc, ◌+◌, ◌≤◌, ◌<◌}
use native.Mathlib.Omega.{arith}
use mathlib.Core.Path.{◌≡◌, refl, sym, ap, ap₂, ◌∙◌, subst, subst⁻¹}
use mathlib.Core.List.{List, [], ◌∷◌, ◌++◌, append-nil, append_assoc}
use lib.ListN.{length, get_or, length-append}
use Rattle.syntax.specs.Terms.{Term, Atom, term_of, Literal, call, equation, truth, falsity, either, Body, done, also}
use Rattle.syntax.specs.Words.{truth_kind, falsity_kind, call_kind, equation_kind, left_kind, right_kind, behind_kind, marker, term_words, atom_words, literal_length, body_length, literal_words, body_words}
use Rattle.words.specs.Tables.{WordsAt, NodeInTable}
use Rattle.words.specs.Items.{Item, plain_call, plain_equation, plain_truth, plain_falsity, before_left, before_right, behind, item_words, items_words, literal_items, items, ItemsAt}
use Rattle.words.proofs.TablesLaws.{has_left, has_right, size_is, term_inside}

-- ---- the items of a body are its words

items-append : (xs ys : List Item) → items_words (xs ++ ys) ≡ items_words xs ++ items_words ys
unfolding items_words
items-append [] ys = refl
items-append (x ∷ xs) ys = ap (λ (w : List ℕ). item_words x ++ w) (items-append xs ys) ∙ sym (append_assoc (item_words x) (items_words xs) (items_words ys))

mutual
  unfolding literal_items items_words item_words literal_words

  literal-words : (x : Literal) → items_words (literal_items x) ≡ literal_words x
  literal-words (call a) = append-nil (call_kind ∷ atom_words a)
  literal-words (equation t u) = append-nil (equation_kind ∷ (term_words t ++ term_words u))
  literal-words truth = refl
  literal-words falsity = refl
  literal-words (either y z) =
      items-append (before_left (body_length y) ∷ items y) ((before_right (body_length z) ∷ items z) ++ (behind ∷ []))
      ∙ ap₂ (λ (v w : List ℕ). (marker left_kind (body_length y) ∷ v) ++ w) (body-words y)
      (items-append (before_right (body_length z) ∷ items z) (behind ∷ [])
      ∙ ap (λ (w : List ℕ). (marker right_kind (body_length z) ∷ w) ++ (behind_kind ∷ [])) (body-words z))

  pub body-words : (b : Body) → items_words (items b) ≡ body_words b
  body-words done = refl
  body-words (also x b) = items-append (literal_items x) (items b) ∙ ap₂ (λ (v w : List ℕ). v ++ w) (literal-words x) (body-words b)

mutual
  unfolding literal_items literal_length

  pub literal-many : (x : Literal) → length (literal_items x) ≡ literal_length x
  literal-many (call a) = refl
  literal-many (equation t u) = refl
  literal-many truth = refl
  literal-many falsity = refl
  literal-many (either y z) =
      let a : length (items y) ≡ body_length y = body-many y in
      let b : length (items z) ≡ body_length z = body-many z in
      let l : length (items y ++ ((before_right (body_length z) ∷ items z) ++ (behind ∷ []))) ≡ length (items y) + length ((before_right (body_length z) ∷ items z) ++ (behind ∷ [])) =
      length-append (items y) ((before_right (body_length z) ∷ items z) ++ (behind ∷ [])) in
      let r : length (items z ++ (behind ∷ [])) ≡ length (items z) + 1 = length-append (items z) (behind ∷ []) in
      omega arith

  pub body-many : (b : Body) → length (items b) ≡ body_length b
  body-many done = refl
  body-many (also x b) =
      let l : length (literal_items x ++ items b) ≡ length (literal_items x) + length (items b) = length-append (literal_items x) (items b) in
      omega (arith, literal-many x, body-many b)

-- so a body that stands is its items that stand
pub items-stand : (table : List ℕ) (p : ℕ) (b : Body) → WordsAt table p (body_words b) → WordsAt table p (items_words (items b))
items-stand table p b h = subst⁻¹ (WordsAt table p) (body-words b) h

-- the first of some items, and those behind it
pub first-stands : (table : List ℕ) (p : ℕ) (x : Item) (xs : List Item) → WordsAt table p (items_words (x ∷ xs)) → WordsAt table p (item_words x)
unfolding items_words
first-stands table p x xs h = has_left table p (item_words x) (items_words xs) h

pub rest-stand : (table : List ℕ) (p : ℕ) (x : Item) (xs : List Item) → WordsAt table p (items_words (x ∷ xs)) → WordsAt table (p + length (item_words x)) (items_words xs)
unfolding items_words
rest-stand table p x xs h = has_right table p (item_words x) (items_words xs) h

-- ---- an item by its first word

pub data View (table : List ℕ) (p : ℕ) : Item → Type 0 where
  view_truth : get_or table p 0 ≡ truth_kind → View table p plain_truth
  view_falsity : get_or table p 0 ≡ falsity_kind → View table p plain_falsity
  view_call : {a : Atom} → get_or table p 0 ≡ call_kind → WordsAt table (p + 1) (atom_words a) → View table p (plain_call a)
  view_equation : {t u : Term} → get_or table p 0 ≡ equation_kind → WordsAt table (p + 1) (term_words t) → WordsAt table (p + 1 + length (term_words t)) (term_words u)
      → View table p (plain_equation t u)
  view_left : {n : ℕ} → get_or table p 0 ≡ marker left_kind n → View table p (before_left n)
  view_right : {n : ℕ} → get_or table p 0 ≡ marker right_kind n → View table p (before_right n)
  view_behind : get_or table p 0 ≡ behind_kind → View table p behind

pub view : (table : List ℕ) (p : ℕ) (x : Item) → WordsAt table p (item_words x) → View table p x
unfolding item_words
view table p plain_truth h = view_truth h.1
view table p plain_falsity h = view_falsity h.1
view table p (plain_call a) h = view_call h.1 h.2
view table p (plain_equation t u) h =
    view_equation h.1 (has_left table (p + 1) (term_words t) (term_words u) h.2) (has_right table (p + 1) (term_words t) (term_words u) h.2)
view table p (before_left n) h = view_left h.1
view table p (before_right n) h = view_right h.1
view table p behind h = view_behind h.1

pub item_room : (table : List ℕ) (p : ℕ) (x : Item) → WordsAt table p (item_words x) → p < length table
unfolding item_words
item_room table p plain_truth h = h.0
item_room table p plain_falsity h = h.0
item_room table p (plain_call a) h = h.0
item_room table p (plain_equation t u) h = h.0
item_room table p (before_left n) h = h.0
item_room table p (before_right n) h = h.0
item_room table p behind h = h.0

-- ---- the place past an item, one law for each way out

module _ (table : List ℕ) (p word : ℕ) (e : word ≡ get_or table p 0) where
  one-word : {x : Item} → (word ≡ call_kind → ⊥) → (word ≡ equation_kind → ⊥) → View table p x → p + 1 ≡ p + length (item_words x)
  unfolding item_words
  one-word k m (view_truth q) = refl
  one-word k m (view_falsity q) = refl
  one-word k m (view_call q h) = absurd (k (e ∙ q))
  one-word k m (view_equation q h r) = absurd (m (e ∙ q))
  one-word k m (view_left q) = refl
  one-word k m (view_right q) = refl
  one-word k m (view_behind q) = refl

  pub past-none : word < call_kind → (x : Item) → WordsAt table p (item_words x) → p + 1 ≡ p + length (item_words x)
  past-none k x h = one-word (λ q. omega arith) (λ q. omega arith) (view table p x h)

  pub past-marker : equation_kind < word → (x : Item) → WordsAt table p (item_words x) → p + 1 ≡ p + length (item_words x)
  past-marker k x h = one-word (λ q. omega arith) (λ q. omega arith) (view table p x h)

  module _ (l : call_kind ≤ word) (m : word ≤ equation_kind) where
    first-by : {x : Item} → View table p x → NodeInTable table (p + 1)
    first-by (view_truth q) = absurd (omega arith)
    first-by (view_falsity q) = absurd (omega arith)
    first-by (view_call {a} q h) = term_inside table (p + 1) (term_of a) h
    first-by (view_equation {t} {u} q h r) = term_inside table (p + 1) t h
    first-by (view_left q) = absurd (omega arith)
    first-by (view_right q) = absurd (omega arith)
    first-by (view_behind q) = absurd (omega arith)

    pub first-inside : (x : Item) → WordsAt table p (item_words x) → NodeInTable table (p + 1)
    first-inside x h = first-by (view table p x h)

    module _ (next : ℕ) (n : next ≡ p + 1 + get_or table (p + 1 + 1) 0) where
      call_by : {x : Item} → word ≡ call_kind → View table p x → next ≡ p + length (item_words x)
      unfolding item_words
      call_by k (view_truth q) = absurd (omega arith)
      call_by k (view_falsity q) = absurd (omega arith)
      call_by k (view_call {a} q h) = let z : get_or table (p + 1 + 1) 0 ≡ length (atom_words a) = size_is table (p + 1) (term_of a) h in omega arith
      call_by k (view_equation q h r) = absurd (omega arith)
      call_by k (view_left q) = absurd (omega arith)
      call_by k (view_right q) = absurd (omega arith)
      call_by k (view_behind q) = absurd (omega arith)

      pub past-call : word ≡ call_kind → (x : Item) → WordsAt table p (item_words x) → next ≡ p + length (item_words x)
      past-call k x h = call_by k (view table p x h)

      module _ (d : word ≡ call_kind → ⊥) where
        right_by : {x : Item} → View table p x → NodeInTable table next
        right_by (view_truth q) = absurd (omega arith)
        right_by (view_falsity q) = absurd (omega arith)
        right_by (view_call q h) = absurd (d (omega arith))
        right_by (view_equation {t} {u} q h r) =
            let z : get_or table (p + 1 + 1) 0 ≡ length (term_words t) = size_is table (p + 1) t h in
            let y : p + 1 + length (term_words t) ≡ next = omega arith in
            term_inside table next u (subst (λ (i : ℕ). WordsAt table i (term_words u)) y r)
        right_by (view_left q) = absurd (omega arith)
        right_by (view_right q) = absurd (omega arith)
        right_by (view_behind q) = absurd (omega arith)

        pub right-inside : (x : Item) → WordsAt table p (item_words x) → NodeInTable table next
        right-inside x h = right_by (view table p x h)

        equation-by : {x : Item} → View table p x → next + get_or table (next + 1) 0 ≡ p + length (item_words x)
        unfolding item_words
        equation-by (view_truth q) = absurd (omega arith)
        equation-by (view_falsity q) = absurd (omega arith)
        equation-by (view_call q h) = absurd (d (omega arith))
        equation-by (view_equation {t} {u} q h r) =
            let z : get_or table (p + 1 + 1) 0 ≡ length (term_words t) = size_is table (p + 1) t h in
            let y : p + 1 + length (term_words t) ≡ next = omega arith in
            let v : get_or table (next + 1) 0 ≡ length (term_words u) = size_is table next u (subst (λ (i : ℕ). WordsAt table i (term_words u)) y r) in
            let s : length (term_words t ++ term_words u) ≡ length (term_words t) + length (term_words u) = length-append (term_words t) (term_words u) in
            omega arith
        equation-by (view_left q) = absurd (omega arith)
        equation-by (view_right q) = absurd (omega arith)
        equation-by (view_behind q) = absurd (omega arith)

        pub past-equation : (stop : ℕ) → stop ≡ next + get_or table (next + 1) 0 → (x : Item) → WordsAt table p (item_words x) → stop ≡ p + length (item_words x)
        past-equation stop s x h = s ∙ equation-by (view table p x h)

-- ---- the place past a body

-- What is left of a body's items, of which i are behind, ends at stop.
pub record ItemsOn (table : List ℕ) (at i many stop : ℕ) : Type 0 where
  pub rest : List Item
  pub has : WordsAt table at (items_words rest)
  pub count : i + length rest ≡ many
  pub ends : at + length (items_words rest) ≡ stop

pub on-begin : (table : List ℕ) (p many : ℕ) (b : Body) → ItemsAt table p many b → ItemsOn table p 0 many (p + length (body_words b))
on-begin table p many b w = record {
  rest = items b;
  has = items-stand table p b w.has;
  count = (let e : 0 + length (items b) ≡ many = omega (arith, body-many b, w.many) in e);
  ends = ap (λ (ws : List ℕ). p + length ws) (body-words b);
}

module _ (table : List ℕ) (at i many stop : ℕ) (l : i < many) where
  first-in : (xs : List Item) → WordsAt table at (items_words xs) → i + length xs ≡ many → (x : Item) × WordsAt table at (item_words x)
  first-in [] h e = absurd (let z : i + 0 ≡ many = e in omega arith)
  first-in (x ∷ xs) h e = (x, first-stands table at x xs h)

  next-in : (next : ℕ) → ((x : Item) → WordsAt table at (item_words x) → next ≡ at + length (item_words x))
      → (xs : List Item) → WordsAt table at (items_words xs) → i + length xs ≡ many → at + length (items_words xs) ≡ stop → ItemsOn table next (i + 1) many stop
  unfolding items_words
  next-in next n [] h e s = absurd (let z : i + 0 ≡ many = e in omega arith)
  next-in next n (x ∷ xs) h e s =
      let q : next ≡ at + length (item_words x) = n x (first-stands table at x xs h) in
      let z : length (item_words x ++ items_words xs) ≡ length (item_words x) + length (items_words xs) = length-append (item_words x) (items_words xs) in
      let y : at + length (item_words x ++ items_words xs) ≡ stop = s in
      let c : i + suc (length xs) ≡ many = e in
      record { rest = xs; has = subst⁻¹ (λ (k : ℕ). WordsAt table k (items_words xs)) q (rest-stand table at x xs h); count = omega arith; ends = omega arith }

module _ {table : List ℕ} {at i many stop : ℕ} (l : i < many) where
  pub on-first : ItemsOn table at i many stop → (x : Item) × WordsAt table at (item_words x)
  on-first w = first-in table at i many stop l w.rest w.has w.count

  pub on-next : {next : ℕ} → ItemsOn table at i many stop → ((x : Item) → WordsAt table at (item_words x) → next ≡ at + length (item_words x)) → ItemsOn table next (i + 1) many stop
  on-next {next} w n = next-in table at i many stop l next n w.rest w.has w.count w.ends

pub on-end : {table : List ℕ} {at i many stop : ℕ} → many ≤ i → ItemsOn table at i many stop → at ≡ stop
unfolding items_words
on-end {table} {at} {i} {many} {stop} l w = go w.rest w.count w.ends
  where
    go : (xs : List Item) → i + length xs ≡ many → at + length (items_words xs) ≡ stop → at ≡ stop
    go [] e s = let z : at + 0 ≡ stop = s in omega arith
    go (x ∷ xs) e s = absurd (let z : i + suc (length xs) ≡ many = e in omega arith)
