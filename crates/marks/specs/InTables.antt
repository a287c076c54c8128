-- What stands in the words of a sheet's declarations, and of a text that was read, as the code holds them.
use Rattle.std.specs.Prelude.{ℕ}
use Rattle.marks.specs.Tables.{DeclarationsAt, PairAt, PairsAt, AtomAt, LiteralAt, BodyAt, ClauseAt}
use Rattle.marks.specs.declared.declarations.Declarations.{Declarations}
use Rattle.marks.specs.declared.declarations.ReadText.{ReadText}

-- the words of the declarations are those of as many declarations of the text
abbrev pub DeclarationsIn : Declarations → Type 0
DeclarationsIn d = DeclarationsAt d.text.now d.words.now d.count

-- an atom of the text stands at p
abbrev pub AtomIn : ReadText → ℕ → Type 0
AtomIn r p = AtomAt r.text.now r.table.now p

-- two terms stand at p and at q, or as many from p to stop and from q on
abbrev pub PairIn : ReadText → ℕ → ℕ → Type 0
PairIn r p q = PairAt r.text.now r.table.now p q

abbrev pub PairsIn : ReadText → ℕ → ℕ → ℕ → Type 0
PairsIn r p stop q = PairsAt r.text.now r.table.now p stop q

-- a literal stands at p, so many literals from p on, a clause at p
abbrev pub LiteralIn : ReadText → ℕ → Type 0
LiteralIn r p = LiteralAt r.text.now r.table.now p

abbrev pub BodyIn : ReadText → ℕ → ℕ → Type 0
BodyIn r p literals = BodyAt r.text.now r.table.now p literals

abbrev pub ClauseIn : ReadText → ℕ → Type 0
ClauseIn r p = ClauseAt r.text.now r.table.now p
