-- The number of a mark, as it stands in a declaration's word.
use Rattle.std.specs.Prelude.{ℕ, Option, Some, None}
use Rattle.syntax.specs.Reading.{Sign, mark, no_mark}
use Rattle.syntax.specs.Words.{mark_number}

-- the number of the mark that a token is, if it is one
abbrev pub number_of_sign : Sign → Option ℕ
number_of_sign (mark m) = Some (mark_number m)
number_of_sign no_mark = None
