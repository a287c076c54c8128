-- The first declaration at fault, as the code answers it.
use Rattle.std.specs.Prelude.{ℕ, List, [], get_or, Option, Some, None}
use Rattle.std.proofs.Math.Option as maybe
use Rattle.std.proofs.Math.Option.{none, some}
use Rattle.syntax.specs.Terms.{Declaration}

-- its byte, if there is one
abbrev pub repeat_of : maybe.Option ℕ → Option ℕ
repeat_of none = None
repeat_of (some b) = Some b

-- the i-th of some declarations
abbrev pub nth_declaration : List Declaration → ℕ → Declaration
nth_declaration ds i = get_or ds i (record { at = 0; name = []; marks = [] })
