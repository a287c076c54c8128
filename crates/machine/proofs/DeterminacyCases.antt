-- Computed cases of the test of REQUESTS (xii), from the text of a sheet to the answer.
use Prim.Native.Nat.{ℕ}
use Prim.Native.String.{String}
use mathlib.Core.Path.{◌≡◌, refl}
use mathlib.Core.List.{List, [], ◌∷◌, map}
use Rattle.syntax.specs.Quote.{bytes}
use Rattle.syntax.specs.declared.Refusal.TheVariants.{Misplaced, Unwritten, OpenOutput}
use Rattle.machine.specs.Determinacy.{is_bracket, without_brackets, first_bracketed, kept_if, inputs_by, inputs, join_on, joined, is_joined, joins, overlaps, first_overlap, first_pair, against, Judged, declined, single, several, judged_by, judged_from, judged}
use Rattle.machine.proofs.Compute.{computed}

-- what is judged of a sheet, every definition on the way opened
unfoldable pub told : List ℕ → Judged
unfolding computed is_bracket without_brackets first_bracketed kept_if inputs_by inputs join_on joined is_joined joins overlaps first_overlap first_pair against judged_by judged_from judged
told sheet = judged sheet

pub record Case : Type 0 where
  pub sheet : List ℕ
  pub expected : Judged

abbrev judging : String → Judged → Case
judging sheet expected = record { sheet = bytes sheet; expected = expected }

abbrev cases : List Case
cases =
    -- the example of RULES; a sheet without clauses; one clause without + arguments
    judging ":- mode plus(+,+,-). plus(z,N,N). plus(s(M),N,s(P)) :- plus(M,N,P)." single ∷
    judging "" single ∷
    judging ":-mode seen(*,*,*)." single ∷
    judging ":-mode p(-). p(a)." single ∷
    -- jointly, with occurs check; the variables of two clauses are apart, those of one are not
    judging ":-mode p(+,+). p(X,X). p(Y,f(Y))." single ∷
    judging ":-mode p(+,+). p(X,X). p(a,b)." single ∷
    judging ":-mode p(+,+). p(a,X). p(X,b)." (several 1 2) ∷
    judging ":-mode p(+). p(f(X)). p(X)." (several 1 2) ∷
    judging ":-mode p(+,+). p(X,f(X)). p(f(Y),Y)." single ∷
    judging ":-mode p(+,+). p(X,f(Y)). p(Y,X)." (several 1 2) ∷
    -- + arguments alone; none of them is a no
    judging ":-mode p(+,-). p(a,b). p(a,c)." (several 1 2) ∷
    judging ":-mode p(-,+). p(b,a). p(b,c)." single ∷
    judging ":-mode p(*,+). p(b,a). p(c,a)." (several 1 2) ∷
    judging ":-mode p. p. p." (several 1 2) ∷
    judging ":-mode p(-). p(a). p(b)." (several 1 2) ∷
    -- numerals without leading zeros
    judging ":-mode p(+). p(1). p(01)." (several 1 2) ∷
    judging ":-mode p(+). p(1). p(10)." single ∷
    -- clauses of one predicate, wherever they stand; the first pair
    judging ":-mode p(+). p(a). p(b). p(a)." (several 1 3) ∷
    judging ":-mode p(+). p(a). p(b). p(b). p(a)." (several 1 4) ∷
    judging ":-mode p(+). :-mode q(+). p(a). q(a). p(b). q(X). p(b)." (several 2 4) ∷
    judging ":-mode p(+). :-mode p(+,+). :-mode q(+). p(a). p(a,b). q(a)." single ∷
    -- no goal need reach them
    judging ":-mode p. :-mode q. p. q. q." (several 2 3) ∷
    -- brackets
    judging ":-mode p. p :- (true;fail)." (several 1 0) ∷
    judging ":-mode p. :-mode q. q. q. p :- true, (true;fail)." (several 3 0) ∷
    -- the sheet's refusals come first, 16 too
    judging "p(" (declined (Misplaced 2)) ∷
    judging ":-mode p. :-mode q. p. p." (declined (Unwritten 17)) ∷
    judging ":-mode p(-). p(X). p(X)." (declined (OpenOutput 15 1 1 13 1)) ∷
    []

all-cases : map (λ (c : Case). told c.sheet) cases ≡ map (λ (c : Case). c.expected) cases
unfolding told
all-cases = refl
