-- Runs in the first order of ends, where `wanted` came before `done`; REQUESTS (vii) turned the two round.
use Rattle.std.specs.Prelude.{ℕ, zero, suc, ◌+◌, Bool, true, false, ◌&&◌, List, [], ◌∷◌, leb, ltb, eqb, length}
use Rattle.syntax.specs.Terms.{Sheet, Goal}
use Rattle.machine.specs.Runs.{RunEnd, Wanted, Done, Steps, Full, Deep, Progress, is_empty, is_answer, next_line, goes_deeper, Ending, first_end, advance}
use Rattle.machine.specs.Runs.{Ended, end_or, begun}

abbrev pub endings_earlier : Sheet → Goal → ℕ → ℕ → ℕ → Progress → List Ending
endings_earlier sh g wanted room left p =
    record { kind = Wanted; applies = leb wanted p.answers } ∷
    record { kind = Done; applies = is_empty p.pile } ∷
    record { kind = Steps; applies = eqb left 0 } ∷
    record { kind = Full; applies = is_answer p.pile && ltb room (length p.text + length (next_line g p.pile)) } ∷
    record { kind = Deep; applies = goes_deeper sh p.pile } ∷ []

unfoldable pub run_from_earlier : Sheet → Goal → ℕ → ℕ → ℕ → Progress → Ended
run_from_earlier sh g wanted room zero p = end_or p (first_end (endings_earlier sh g wanted room 0 p)) (λ _. record { kind = Steps; at = p })
run_from_earlier sh g wanted room (suc left) p =
    end_or p (first_end (endings_earlier sh g wanted room (suc left) p)) (λ _. run_from_earlier sh g wanted room left (advance sh g p))

unfoldable pub run_earlier : Sheet → Goal → ℕ → ℕ → ℕ → Ended
run_earlier sh g allowance wanted room = run_from_earlier sh g wanted room allowance (begun sh g)

-- "Their kind turns from `wanted` to `done`": of a run that ended by the wanted count, where no alternative is left.
unfoldable pub turned_kind : RunEnd → Bool → RunEnd
turned_kind Wanted true = Done
turned_kind Wanted false = Wanted
turned_kind Done b = Done
turned_kind Steps b = Steps
turned_kind Full b = Full
turned_kind Deep b = Deep

-- "Lines, counts and steps are the same."
abbrev pub turned : Ended → Ended
turned e = record { kind = turned_kind e.kind (is_empty e.at.pile); at = e.at }
