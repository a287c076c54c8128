-- Brackets, as the functions of this crate read them.
use Rattle.std.specs.Prelude.{ℕ, suc, List}
use Rattle.syntax.specs.Limits.{literals}
use Rattle.syntax.specs.Terms.{Literal, Body}
use Rattle.syntax.specs.declared.TokenKind.{TokenKind}
use Rattle.syntax.specs.Reading.{Cursor, Read, read_to, read_sides}

-- a side of a bracket up to a token of a kind, with so many brackets left
abbrev pub read_side : ℕ → List ℕ → TokenKind → Cursor → Read Body
read_side left s end st = read_to left s end (suc literals) st

-- a bracket, which is at hand, with so many brackets left inside it
abbrev pub bracket_at : ℕ → List ℕ → Cursor → Read Literal
bracket_at left s st = read_sides (λ end st1. read_side left s end st1) s st
