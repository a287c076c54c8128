-- Laws of the nodes of terms, literals and bodies one behind the other, as they were read. Assumes nothing.
use Prim.Native.Nat.{ℕ, suc, ◌+◌, ◌*◌, ◌/◌, ◌≤◌, ◌<◌}
use native.Mathlib.Omega.{arith}
use mathlib.Core.Path.{◌≡◌, refl, sym, ap, ap₂, ◌∙◌}
use mathlib.Core.List.{List, [], ◌∷◌, ◌++◌, append-nil, append_assoc}
use lib.ListN.{length, length-append}
use Rattle.syntax.specs.Limits.{word_bytes, arguments, variables}
use Rattle.syntax.specs.Terms.{Term, Terms, variable, compound, nil, cons, arity, term_of, Literal, Body, call, equation, truth, falsity, either, done, also}
use Rattle.syntax.specs.Words.{truth_kind, falsity_kind, call_kind, equation_kind, left_kind, right_kind, behind_kind, marker, functor, term_words, terms_words, body_words, body_length, program_bytes}
use Rattle.marks.specs.Spelt.{TermSpelt, TermsSpelt, stands_variable, stands_compound, stand_nil, stand_cons, LiteralSpelt, call_stands, equation_stands, truth_stands, falsity_stands, either_stands, BodySpelt, done_stands, also_stands}
use Rattle.words.specs.Items.{Item, plain_call, plain_equation, plain_truth, plain_falsity, before_left, before_right, behind, item_words, items_words, literal_items, items}
use Rattle.words.proofs.Items.{body-words}
use Rattle.load.specs.Flat.{NodeAsRead, parsed_words, term_parsed, terms_parsed, literal_parsed, body_parsed, flat_words, flat_what, flat_all, AllFit}

-- ---- runs

pub parsed-append : (xs ys : List NodeAsRead) → parsed_words (xs ++ ys) ≡ parsed_words xs ++ parsed_words ys
unfolding parsed_words
parsed-append [] ys = refl
parsed-append (x ∷ xs) ys = ap (λ (l : List ℕ). x.what ∷ x.size ∷ x.byte ∷ l) (parsed-append xs ys)

pub flat_append : (text : ℕ) (xs ys : List NodeAsRead) → flat_words (flat_all text (xs ++ ys)) ≡ flat_words (flat_all text xs) ++ flat_words (flat_all text ys)
unfolding flat_words flat_all
flat_append text [] ys = refl
flat_append text (x ∷ xs) ys = ap (λ (l : List ℕ). flat_what text x.what x.byte ∷ (x.size / 3 * 2) ∷ l) (flat_append text xs ys)

-- two words for three
pub flat-length : (text : ℕ) (xs : List NodeAsRead) → length (flat_words (flat_all text xs)) * 3 ≡ length (parsed_words xs) * 2
unfolding flat_words flat_all parsed_words
flat-length text [] = refl
flat-length text (x ∷ xs) = let e : length (flat_words (flat_all text xs)) * 3 ≡ length (parsed_words xs) * 2 = flat-length text xs in omega arith

-- ---- the words of terms are those of their nodes

mutual
  unfolding term_words term_parsed parsed_words

  pub term-words : (t : Term) → term_words t ≡ parsed_words (term_parsed t)
  term-words (variable n b) = refl
  term-words (compound b f ts) = ap (λ (l : List ℕ). functor (arity ts) (length f) ∷ (3 + length (terms_words ts)) ∷ b ∷ l) (terms-words ts)

  pub terms-words : (ts : Terms) → terms_words ts ≡ parsed_words (terms_parsed ts)
  terms-words nil = refl
  terms-words (cons t ts) = ap₂ (λ (a b : List ℕ). a ++ b) (term-words t) (terms-words ts) ∙ sym (parsed-append (term_parsed t) (terms_parsed ts))

-- ---- an item: its first word, and then its nodes

unfoldable pub item_parsed : Item → List NodeAsRead
item_parsed (plain_call a) = term_parsed (term_of a)
item_parsed (plain_equation t u) = term_parsed t ++ term_parsed u
item_parsed plain_truth = []
item_parsed plain_falsity = []
item_parsed (before_left n) = []
item_parsed (before_right n) = []
item_parsed behind = []

unfoldable pub items_parsed : List Item → List NodeAsRead
items_parsed [] = []
items_parsed (x ∷ xs) = item_parsed x ++ items_parsed xs

unfoldable pub first_word : Item → ℕ
first_word (plain_call a) = call_kind
first_word (plain_equation t u) = equation_kind
first_word plain_truth = truth_kind
first_word plain_falsity = falsity_kind
first_word (before_left n) = marker left_kind n
first_word (before_right n) = marker right_kind n
first_word behind = behind_kind

pub item-words : (x : Item) → item_words x ≡ first_word x ∷ parsed_words (item_parsed x)
unfolding item_words item_parsed parsed_words first_word
item-words (plain_call a) = ap (λ (x : List ℕ). call_kind ∷ x) (term-words (term_of a))
item-words (plain_equation t u) =
    ap (λ (x : List ℕ). equation_kind ∷ x) (ap₂ (λ (a b : List ℕ). a ++ b) (term-words t) (term-words u) ∙ sym (parsed-append (term_parsed t) (term_parsed u)))
item-words plain_truth = refl
item-words plain_falsity = refl
item-words (before_left n) = refl
item-words (before_right n) = refl
item-words behind = refl

pub item-long : (x : Item) → length (item_words x) ≡ suc (length (parsed_words (item_parsed x)))
item-long x = ap length (item-words x)

-- ---- the nodes of a body are those of its items

items-append : (xs ys : List Item) → items_parsed (xs ++ ys) ≡ items_parsed xs ++ items_parsed ys
unfolding items_parsed
items-append [] ys = refl
items-append (x ∷ xs) ys = ap (λ (l : List NodeAsRead). item_parsed x ++ l) (items-append xs ys) ∙ sym (append_assoc (item_parsed x) (items_parsed xs) (items_parsed ys))

mutual
  unfolding literal_items items_parsed item_parsed literal_parsed

  literal-parsed : (x : Literal) → items_parsed (literal_items x) ≡ literal_parsed x
  literal-parsed (call a) = append-nil (term_parsed (term_of a))
  literal-parsed (equation t u) = append-nil (term_parsed t ++ term_parsed u)
  literal-parsed truth = refl
  literal-parsed falsity = refl
  literal-parsed (either y z) =
      items-append (before_left (body_length y) ∷ items y) ((before_right (body_length z) ∷ items z) ++ (behind ∷ []))
      ∙ ap₂ (λ (v w : List NodeAsRead). v ++ w) (body-parsed y)
      (items-append (before_right (body_length z) ∷ items z) (behind ∷ []) ∙ (append-nil (items_parsed (items z)) ∙ body-parsed z))

  pub body-parsed : (b : Body) → items_parsed (items b) ≡ body_parsed b
  body-parsed done = refl
  body-parsed (also x b) = items-append (literal_items x) (items b) ∙ ap₂ (λ (v w : List NodeAsRead). v ++ w) (literal-parsed x) (body-parsed b)

items-long : (xs : List Item) → length (parsed_words (items_parsed xs)) ≤ length (items_words xs)
unfolding items_parsed items_words parsed_words
items-long [] = (let z : 0 ≤ 0 = omega arith in z)
items-long (x ∷ xs) =
    let h : length (parsed_words (items_parsed xs)) ≤ length (items_words xs) = items-long xs in
    let a : length (parsed_words (item_parsed x ++ items_parsed xs)) ≡ length (parsed_words (item_parsed x)) + length (parsed_words (items_parsed xs)) =
    ap length (parsed-append (item_parsed x) (items_parsed xs)) ∙ length-append (parsed_words (item_parsed x)) (parsed_words (items_parsed xs)) in
    let d : length (item_words x ++ items_words xs) ≡ length (item_words x) + length (items_words xs) = length-append (item_words x) (items_words xs) in
    let l : length (item_words x) ≡ suc (length (parsed_words (item_parsed x))) = item-long x in
    let y : length (parsed_words (item_parsed x ++ items_parsed xs)) ≤ length (item_words x ++ items_words xs) = omega arith in
    y

pub body-long : (b : Body) → length (parsed_words (body_parsed b)) ≤ length (body_words b)
body-long b =
    let l : length (parsed_words (items_parsed (items b))) ≤ length (items_words (items b)) = items-long (items b) in
    let v : length (parsed_words (items_parsed (items b))) ≡ length (parsed_words (body_parsed b)) = ap (λ (xs : List NodeAsRead). length (parsed_words xs)) (body-parsed b) in
    let w : length (items_words (items b)) ≡ length (body_words b) = ap length (body-words b) in
    omega arith

-- ---- what was read fits the words of a copied node

fit_append : (xs ys : List NodeAsRead) → AllFit xs → AllFit ys → AllFit (xs ++ ys)
fit_append [] ys f g = g
fit_append (x ∷ xs) ys f g = (f.0, fit_append xs ys f.1 g)

module _ (s : List ℕ) (short : length s ≤ program_bytes) where
  mutual
    unfolding term_parsed

    pub term_fits : (t : Term) → TermSpelt s t → AllFit (term_parsed t)
    term_fits (variable n b) (stands_variable k) = (λ l. absurd (let z : n < variables = k in omega arith), tt)
    term_fits (compound b f ts) (stands_compound n k a) =
        (λ l. (let i : b + length f ≤ length s = n.inside in omega arith, let j : length f ≤ word_bytes = n.short in let m : arity ts ≤ arguments = k in omega arith), terms-fit ts a)

    pub terms-fit : (ts : Terms) → TermsSpelt s ts → AllFit (terms_parsed ts)
    terms-fit nil stand_nil = tt
    terms-fit (cons t ts) (stand_cons a b) = fit_append (term_parsed t) (terms_parsed ts) (term_fits t a) (terms-fit ts b)

  mutual
    unfolding literal_parsed

    literal-fits : (l : Literal) → LiteralSpelt s l → AllFit (literal_parsed l)
    literal-fits (call a) (call_stands k) = term_fits (term_of a) k
    literal-fits (equation t u) (equation_stands j k) = fit_append (term_parsed t) (term_parsed u) (term_fits t j) (term_fits u k)
    literal-fits truth truth_stands = tt
    literal-fits falsity falsity_stands = tt
    literal-fits (either y z) (either_stands j k) = fit_append (body_parsed y) (body_parsed z) (body-fits y j) (body-fits z k)

    pub body-fits : (b : Body) → BodySpelt s b → AllFit (body_parsed b)
    body-fits done done_stands = tt
    body-fits (also x b) (also_stands j k) = fit_append (literal_parsed x) (body_parsed b) (literal-fits x j) (body-fits b k)
