-- A body written item after item is the body's writing. Assumes nothing.
use Prim.Native.Nat.{ℕ}
use mathlib.Core.Path.{◌≡◌, refl, sym, ap, ◌∙◌}
use mathlib.Core.Bool.{Bool, true, false}
use mathlib.Core.List.{List, [], ◌∷◌, ◌++◌, append_assoc, append-nil}
use Rattle.syntax.specs.Terms.{Literal, call, equation, truth, falsity, either, Body, done, also}
use Rattle.syntax.specs.Words.{body_length}
use Rattle.words.specs.Items.{Item, before_right, behind, literal_items, items}
use Rattle.format_rules.specs.Writing.{literal_text, body_text, further_text}
use Rattle.formatter.specs.Texts.{comma, is_behind_literal, item_text}

-- items, one behind the other
unfoldable pub items_text : Bool → List Item → List ℕ → List ℕ
items_text started [] rest = rest
items_text started (x ∷ xs) rest = item_text started x (items_text (is_behind_literal x) xs rest)

-- a body has a literal
begun : Body → Bool
begun done = false
begun (also l b) = true

mutual
  unfolding items_text item_text literal_items literal_text body_text further_text begun

  literal_text_is : (l : Literal) (started : Bool) (xs : List Item) (rest : List ℕ) → items_text started (literal_items l ++ xs) rest ≡ comma started (literal_text l (items_text true xs rest))
  literal_text_is (call a) started xs rest = refl
  literal_text_is (equation t u) started xs rest = refl
  literal_text_is truth started xs rest = refl
  literal_text_is falsity started xs rest = refl
  literal_text_is (either y z) started xs rest =
      ap (λ (w : List ℕ). comma started (40 ∷ w))
      (ap (λ (is : List Item). items_text false is rest) (append_assoc (items y) ((before_right (body_length z) ∷ items z) ++ (behind ∷ [])) xs)
      ∙ body_text_is y (((before_right (body_length z) ∷ items z) ++ (behind ∷ [])) ++ xs) rest
      ∙ ap (λ (w : List ℕ). body_text y (59 ∷ w))
      (ap (λ (is : List Item). items_text false is rest) (append_assoc (items z) (behind ∷ []) xs) ∙ body_text_is z (behind ∷ xs) rest))

  body_text_is : (b : Body) (xs : List Item) (rest : List ℕ) → items_text false (items b ++ xs) rest ≡ body_text b (items_text (begun b) xs rest)
  body_text_is done xs rest = refl
  body_text_is (also l b) xs rest =
      ap (λ (is : List Item). items_text false is rest) (append_assoc (literal_items l) (items b) xs)
      ∙ literal_text_is l false (items b ++ xs) rest ∙ ap (literal_text l) (further_text_is b xs rest)

  further_text_is : (b : Body) (xs : List Item) (rest : List ℕ) → items_text true (items b ++ xs) rest ≡ further_text b (items_text true xs rest)
  further_text_is done xs rest = refl
  further_text_is (also l b) xs rest =
      ap (λ (is : List Item). items_text true is rest) (append_assoc (literal_items l) (items b) xs)
      ∙ literal_text_is l true (items b ++ xs) rest ∙ ap (λ (w : List ℕ). 44 ∷ literal_text l w) (further_text_is b xs rest)

pub whole_body : (b : Body) (rest : List ℕ) → items_text false (items b) rest ≡ body_text b rest
unfolding items_text
whole_body b rest = ap (λ (is : List Item). items_text false is rest) (sym (append-nil (items b))) ∙ body_text_is b [] rest
