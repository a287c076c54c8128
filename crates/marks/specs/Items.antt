-- Items of a body that stand in a table.
use Rattle.std.specs.Prelude.{ℕ, List}
use Rattle.std.proofs.Math.Option.{Option, none}
use Rattle.syntax.specs.Terms.{term_of, Declaration}
use Rattle.syntax.specs.declared.Refusal.{Refusal}
use Rattle.mode_rules.specs.Modes.{undeclared_atom}
use Rattle.words.specs.Tables.{WordsAt}
use Rattle.words.specs.Items.{Item, plain_call, plain_equation, plain_truth, plain_falsity, before_left, before_right, behind, item_words}
use Rattle.marks.specs.Spelt.{TermSpelt}
use Rattle.marks.specs.declared.declarations.ReadText.{ReadText}

-- how many literals an item counts for: a word of a bracket counts for none
abbrev pub literals_at : Item → ℕ
literals_at (plain_call a) = 1
literals_at (plain_equation t u) = 1
literals_at plain_truth = 1
literals_at plain_falsity = 1
literals_at (before_left n) = 0
literals_at (before_right n) = 0
literals_at behind = 0

-- an item's fault 8, as literal l of clause c
abbrev pub undeclared_item : List Declaration → ℕ → ℕ → Item → Option Refusal
undeclared_item ds c l (plain_call a) = undeclared_atom ds c l a
undeclared_item ds c l (plain_equation t u) = none
undeclared_item ds c l plain_truth = none
undeclared_item ds c l plain_falsity = none
undeclared_item ds c l (before_left n) = none
undeclared_item ds c l (before_right n) = none
undeclared_item ds c l behind = none

-- an item that is a call is one of the text
abbrev pub ItemSpelt : List ℕ → Item → Type 0
ItemSpelt g (plain_call a) = TermSpelt g (term_of a)
ItemSpelt g (plain_equation t u) = Unit {0}
ItemSpelt g plain_truth = Unit {0}
ItemSpelt g plain_falsity = Unit {0}
ItemSpelt g (before_left n) = Unit {0}
ItemSpelt g (before_right n) = Unit {0}
ItemSpelt g behind = Unit {0}

-- an item of a body of the text g stands at p
pub record ItemAt (g table : List ℕ) (p : ℕ) : Type 0 where
  pub item : Item
  pub has : WordsAt table p (item_words item)
  pub stands : ItemSpelt g item

abbrev pub ItemIn : ReadText → ℕ → Type 0
ItemIn r p = ItemAt r.text.now r.table.now p
