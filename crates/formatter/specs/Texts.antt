-- What is written of the arguments of a term, and of a body as a loop goes along it.
use Rattle.std.specs.Prelude.{ℕ, Bool, true, false, List, [], ◌∷◌, ◌++◌}
use Rattle.syntax.specs.Terms.{Terms, nil, cons, true_name, fail_name}
use Rattle.words.specs.Items.{Item, plain_call, plain_equation, plain_truth, plain_falsity, before_left, before_right, behind}
use Rattle.format_rules.specs.Writing.{term_text, more_text, atom_text}

-- terms behind an opening bracket, and the closing one
abbrev pub terms_text : Terms → List ℕ
terms_text nil = []
terms_text (cons t ts) = term_text t (more_text ts [])

-- a comma, where a literal stands before
abbrev pub comma : Bool → List ℕ → List ℕ
comma true rest = 44 ∷ rest
comma false rest = rest

-- whether a literal stands before what follows an item
abbrev pub is_behind_literal : Item → Bool
is_behind_literal (plain_call a) = true
is_behind_literal (plain_equation t u) = true
is_behind_literal plain_truth = true
is_behind_literal plain_falsity = true
is_behind_literal (before_left n) = false
is_behind_literal (before_right n) = false
is_behind_literal behind = true

-- an item, before which a literal stands or not
unfoldable pub item_text : Bool → Item → List ℕ → List ℕ
item_text started (plain_call a) rest = comma started (atom_text a rest)
item_text started (plain_equation t u) rest = comma started (term_text t (61 ∷ term_text u rest))
item_text started plain_truth rest = comma started (true_name ++ rest)
item_text started plain_falsity rest = comma started (fail_name ++ rest)
item_text started (before_left n) rest = comma started (40 ∷ rest)
item_text started (before_right n) rest = 59 ∷ rest
item_text started behind rest = 41 ∷ rest
