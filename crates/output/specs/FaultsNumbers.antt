-- A refusal as a list of numbers, for callers in other languages. Unused places are 0, as in RULES.
use Rattle.std.specs.Prelude.{ℕ, List, [], ◌∷◌}
use Rattle.syntax.specs.Refusals.{numbers_of}
use Rattle.syntax.specs.declared.Refusal.{Refusal}
use Rattle.syntax.specs.declared.Text.{Text}
use Rattle.syntax.specs.declared.Text.TheVariants.{Sheet, Goal, Trace, Workings, Neither}
use Rattle.mode_rules.specs.Checking.{name_span}

-- "it also says which of the two texts was at fault, neither for 1"
abbrev pub text_number : Text → ℕ
text_number Neither = 0
text_number Sheet = 1
text_number Goal = 2
text_number Trace = 3
text_number Workings = 4

-- a refusal, in the order in which the programs print it: the text at fault, number, byte, clause, literal, argument, byte and length of the name
unfoldable pub fault_numbers : Text → Refusal → List ℕ
fault_numbers text refusal =
    text_number text ∷
    (numbers_of refusal).number ∷
    (numbers_of refusal).byte ∷
    (numbers_of refusal).clause ∷
    (numbers_of refusal).literal ∷
    (numbers_of refusal).argument ∷
    (name_span refusal).0 ∷
    (name_span refusal).1 ∷ []
