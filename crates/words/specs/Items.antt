-- A body as a loop goes along it: its items, which are plain literals and the words of brackets, one behind the other.
use Rattle.std.specs.Prelude.{ℕ, ◌≡◌, List, [], ◌∷◌, ◌++◌}
use Rattle.syntax.specs.Terms.{Term, Atom, Literal, call, equation, truth, falsity, either, Body, done, also}
use Rattle.syntax.specs.Words.{term_words, atom_words, truth_kind, falsity_kind, call_kind, equation_kind, marker, body_length}
use Rattle.syntax.specs.Words.{left_kind, right_kind, behind_kind}
use Rattle.syntax.specs.Words.{body_words}
use Rattle.words.specs.Tables.{WordsAt}

-- A plain literal; or a word of a bracket: before its left side or its right side, with the number of items of that side, or behind the bracket.
pub data Item : Type 0 where
  plain_call : Atom → Item
  plain_equation : Term → Term → Item
  plain_truth : Item
  plain_falsity : Item
  before_left : ℕ → Item
  before_right : ℕ → Item
  behind : Item

-- its words in a table
unfoldable pub item_words : Item → List ℕ
item_words (plain_call a) = call_kind ∷ atom_words a
item_words (plain_equation t u) = equation_kind ∷ (term_words t ++ term_words u)
item_words plain_truth = truth_kind ∷ []
item_words plain_falsity = falsity_kind ∷ []
item_words (before_left n) = marker left_kind n ∷ []
item_words (before_right n) = marker right_kind n ∷ []
item_words behind = behind_kind ∷ []

unfoldable pub items_words : List Item → List ℕ
items_words [] = []
items_words (x ∷ xs) = item_words x ++ items_words xs

-- the items of a literal, and of a body
unfoldable mutual
  pub literal_items : Literal → List Item
  literal_items (call a) = plain_call a ∷ []
  literal_items (equation t u) = plain_equation t u ∷ []
  literal_items truth = plain_truth ∷ []
  literal_items falsity = plain_falsity ∷ []
  literal_items (either y z) = (before_left (body_length y) ∷ items y) ++ ((before_right (body_length z) ∷ items z) ++ (behind ∷ []))

  pub items : Body → List Item
  items done = []
  items (also x b) = literal_items x ++ items b

-- a body of so many items stands from p on
pub record ItemsAt (table : List ℕ) (p count : ℕ) (b : Body) : Type 0 where
  pub has : WordsAt table p (body_words b)
  pub many : count ≡ body_length b
