-- What the theorem of determinacy asks for can be had: the example of RULES, with the runner's settings.
use Prim.Native.Nat.{ℕ}
use mathlib.Core.Path.{refl, subst}
use mathlib.Core.Bool.{false}
use mathlib.Core.List.{List}
use lib.Dec.{T}
use Rattle.syntax.specs.Quote.{bytes}
use Rattle.syntax.specs.Terms.{Goal}
use Rattle.syntax.specs.Verdicts.{Outcome, refused, accepted}
use Rattle.machine.specs.Determinacy.{without_brackets, AtMostOneLine}
use Rattle.machine.specs.Runs.{RunSettings, run_outcome, run_text}
use Rattle.machine.proofs.DeterminacyCases.{told}
use Rattle.machine_theorems.proofs.AtMostOne.{at-most-one-line}

abbrev plus : List ℕ
plus = bytes ":- mode plus(+,+,-). plus(z,N,N). plus(s(M),N,s(P)) :- plus(M,N,P)."

abbrev goal : List ℕ
goal = bytes "plus(s(z),z,X)."

abbrev WithoutBrackets : Outcome Goal → Type 0
WithoutBrackets (refused r) = ⊥
WithoutBrackets (accepted g) = T (without_brackets g.body)

abbrev settings : RunSettings
settings = record { allowance = 65536; wanted = 16; stored = false }

pub example : AtMostOneLine (run_text (run_outcome plus goal settings 4096))
unfolding told
example = at-most-one-line plus goal refl (λ g e. subst WithoutBrackets e tt) settings 4096
