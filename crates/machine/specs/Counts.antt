-- Open inputs and open outputs, tallied over the list of steps from the goal alone (RULES, "No result is left open").
use Rattle.std.specs.Prelude.{ℕ, zero, suc, ◌+◌, Bool, true, false, not, ◌&&◌, ◌||◌, List, [], ◌∷◌, leb, eqb, length}
use Rattle.syntax.specs.Terms.{Atom, Literal, call, equation, truth, falsity, either, Mark, input, output, Sheet, Goal}
use Rattle.mode_rules.specs.Modes.{marks_for, count_faulty, list_of}
use Rattle.machine.specs.Substitution.{copied, closed, Binding, resolve}
use Rattle.machine.specs.Machine.{Pending, Call, Alternative, path, outcome, step, start}

-- The arguments with a mark, of an atom of copy c, that have an unbound variable: with the bindings put in, a variable is left.
unfoldable pub open_arguments : Sheet → Mark → List Binding → ℕ → Atom → ℕ
open_arguments sh m b c a = count_faulty m (λ t. closed (resolve b (copied c t))) (marks_for sh.declarations a) (list_of a.args)

-- ---- open inputs: a call is taken up at each step that finds it first

-- of a literal of copy c
unfoldable pub inputs_of : Sheet → List Binding → ℕ → Literal → ℕ
inputs_of sh b c (call a) = open_arguments sh input b c a
inputs_of sh b c (equation t u) = 0
inputs_of sh b c truth = 0
inputs_of sh b c falsity = 0
inputs_of sh b c (either y z) = 0

-- of the first of some literals
unfoldable pub inputs_first : Sheet → List Binding → List Pending → ℕ
inputs_first sh b [] = 0
inputs_first sh b (p ∷ ps) = inputs_of sh b p.copy p.literal

-- those of the step that works on an alternative
unfoldable pub open_inputs : Sheet → Alternative → ℕ
open_inputs sh a = inputs_first sh a.bindings a.literals

-- ---- open outputs

-- Copy j is copy k, or was made for calls of copy k, at whatever depth. The newest of the calls is the one that copy `length calls` was made for.
-- For example: copy 1 was made for a call of the goal (copy 0), copy 2 for a call of copy 1, copy 3 for a call of the goal, so the calls, newest first,
-- are of the copies 0, 1, 0. Copy 2 is within copy 1: the call that it was made for is of copy 1, and copy 1 is within itself. Copy 3 is not: the call
-- that it was made for is of copy 0, which was made for none and is not copy 1 (computed: `CountCases.within-example`).
unfoldable pub is_within : List Call → ℕ → ℕ → Bool
is_within [] k j = eqb j k
is_within (c ∷ cs) k j = elim (eqb j (suc (length cs))) [ true ↦ eqb j k || is_within cs k c.copy | false ↦ is_within cs k j ]

-- a literal is left of copy k, or of a copy made for calls of it
unfoldable pub is_left : List Call → ℕ → List Pending → Bool
is_left calls k [] = false
is_left calls k (p ∷ ps) = is_within calls k p.copy || is_left calls k ps

-- the alternative has copy k, and shows that the call it was made for has succeeded
unfoldable pub shows : Alternative → ℕ → Bool
shows a k = leb k (path a) && not (is_left a.calls k a.literals)

-- it shows it newly: the alternative that it came of did not
unfoldable pub shows_newly : Alternative → Alternative → ℕ → Bool
shows_newly before after k = shows after k && not (shows before k)

unfoldable pub count_if : Bool → ℕ → ℕ
count_if true n = n
count_if false n = 0

-- of those calls of an alternative that it newly shows to have succeeded, the - arguments that have an unbound variable in it
unfoldable pub outputs_over : Sheet → Alternative → Alternative → List Call → ℕ
outputs_over sh before after [] = 0
outputs_over sh before after (c ∷ cs) =
    count_if (shows_newly before after (suc (length cs))) (open_arguments sh output after.bindings c.copy c.atom) + outputs_over sh before after cs

-- over the alternatives that came of one in a step: one that went is not among them
unfoldable pub open_outputs : Sheet → Alternative → List Alternative → ℕ
open_outputs sh before [] = 0
open_outputs sh before (after ∷ more) = outputs_over sh before after after.calls + open_outputs sh before more

-- ---- the tally

pub record Tally : Type 0 where
  pub pile : List Alternative
  pub inputs : ℕ
  pub outputs : ℕ

-- one step, counted; there is none without an alternative
unfoldable pub counted_on : Sheet → Tally → List Alternative → Tally
counted_on sh t [] = t
counted_on sh t (a ∷ below) =
    record { pile = step sh (a ∷ below); inputs = t.inputs + open_inputs sh a; outputs = t.outputs + open_outputs sh a (outcome sh a) }

unfoldable pub counted_step : Sheet → Tally → Tally
counted_step sh t = counted_on sh t t.pile

-- after n steps from the goal alone, with both counts at zero
unfoldable pub tally : Sheet → Goal → ℕ → Tally
tally sh g zero = record { pile = start sh g; inputs = 0; outputs = 0 }
tally sh g (suc n) = counted_step sh (tally sh g n)
