-- How many alternatives a pile can have: with so many below, an alternative's path bounds how many literals are left.
use Rattle.std.specs.Prelude.{ℕ, suc, ◌+◌, ◌*◌, ◌≤◌, ◌<◌, List, [], ◌∷◌, length}
use Rattle.syntax.specs.Limits.{literals}
use Rattle.syntax.specs.Terms.{Literal, call, equation, truth, falsity, either, Body, done, also, literals_in, literals_of, Clause}
use Rattle.machine.specs.Machine.{Pending, Alternative, path}

-- no side of a bracket is empty: as reading gives them
abbrev mutual
  pub LiteralFilled : Literal → Type 0
  LiteralFilled (call a) = Unit {0}
  LiteralFilled (equation t u) = Unit {0}
  LiteralFilled truth = Unit {0}
  LiteralFilled falsity = Unit {0}
  LiteralFilled (either y z) = ((0 < literals_of y) × BodyFilled y) × ((0 < literals_of z) × BodyFilled z)

  pub BodyFilled : Body → Type 0
  BodyFilled done = Unit {0}
  BodyFilled (also l b) = LiteralFilled l × BodyFilled b

-- a body as reading gives it
pub record BodyShort (b : Body) : Type 0 where
  pub few : literals_of b ≤ literals
  pub filled : BodyFilled b

abbrev pub ClausesShort : List Clause → Type 0
ClausesShort [] = Unit {0}
ClausesShort (cl ∷ cls) = BodyShort cl.body × ClausesShort cls

-- how many literals are left, those of brackets counted
unfoldable pub left_of : List Pending → ℕ
left_of [] = 0
left_of (p ∷ ps) = literals_in p.literal + left_of ps

abbrev pub AllFilled : List Pending → Type 0
AllFilled [] = Unit {0}
AllFilled (p ∷ ps) = LiteralFilled p.literal × AllFilled ps

-- an alternative with so many below it
pub record LowOver (below : ℕ) (a : Alternative) : Type 0 where
  pub few : below + left_of a.literals ≤ literals * suc (path a)
  pub height : suc below ≤ literals * suc (path a)
  pub filled : AllFilled a.literals

abbrev pub Low : List Alternative → Type 0
Low [] = Unit {0}
Low (a ∷ below) = LowOver (length below) a × Low below
