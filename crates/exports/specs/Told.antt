-- What the search and the test for at most one line tell, as lists of numbers. Unused places are 0, as in RULES.
use Rattle.std.specs.Prelude.{ℕ, List, [], ◌∷◌, ◌++◌, Option, Some, None}
use Rattle.syntax.specs.declared.Text.TheVariants.{Sheet}
use Rattle.marks.specs.declared.lookup.Lookup.{Lookup}
use Rattle.output.specs.FaultsNumbers.{fault_numbers}
use Rattle.output.specs.Numbers.{no_fault}
use Rattle.determinacy.specs.declared.Determinacy.{Determinacy}
use Rattle.determinacy.specs.declared.Determinacy.TheVariants.{Yes, No, Refused}

-- a search: 1 where an entry matches, and its place; how many entries were compared
abbrev pub place_numbers : Option ℕ → ℕ → List ℕ
place_numbers (Some place) compared = 1 ∷ place ∷ compared ∷ []
place_numbers None compared = 0 ∷ 0 ∷ compared ∷ []

abbrev pub lookup_numbers : Lookup → List ℕ
lookup_numbers found = place_numbers found.place found.compared

-- a test: the sheet's fault, then 1 for a yes, or the two clauses of a no
abbrev pub determinacy_numbers : Determinacy → List ℕ
determinacy_numbers Yes = no_fault ++ (1 ∷ 0 ∷ 0 ∷ [])
determinacy_numbers (No first second) = no_fault ++ (0 ∷ first ∷ second ∷ [])
determinacy_numbers (Refused refusal) = fault_numbers Sheet refusal ++ (0 ∷ 0 ∷ 0 ∷ [])
