-- Sides of a bracket that stand in a table.
use Rattle.std.specs.Prelude.{ℕ, ◌<◌, List}
use Rattle.syntax.specs.Terms.{Body}
use Rattle.syntax.specs.Words.{side_words, item_kinds}
use Rattle.words.specs.Tables.{WordsAt}
use Rattle.marks.specs.Spelt.{BodySpelt}
use Rattle.marks.specs.declared.declarations.ReadText.{ReadText}

-- a side of a bracket of the text g stands at p, with the word before it
pub record SideAt (g table : List ℕ) (p : ℕ) : Type 0 where
  pub body : Body
  pub kind : ℕ
  pub small : kind < item_kinds
  pub has : WordsAt table p (side_words kind body)
  pub stands : BodySpelt g body

abbrev pub SideIn : ReadText → ℕ → Type 0
SideIn r p = SideAt r.text.now r.table.now p
