-- The list of cases of RULES, those with a star and the two without: what the two programs print for its texts, and its outputs.
use Rattle.std.specs.Prelude.{ℕ, List, [], ◌∷◌}
use Rattle.syntax.specs.Quote.{bytes}
use Rattle.starred_cases.specs.Programs.{checker, runner}

-- what the programs print for the texts of the list, the runner with an empty trace
unfoldable pub printed : List (List ℕ)
printed =
    checker (bytes ":- mode plus(+,+,-).\nplus(z,N,N).\nplus(s(M),N,s(P)) :- plus(M,N,P).\n")
    ∷ checker (bytes ":- mode plus(+,-,+).\nplus(z,N,N).\nplus(s(M),N,s(P)) :- plus(M,N,P).\n")
    ∷ checker (bytes ":- mode plus(-,+,+).\nplus(z,N,N).\nplus(s(M),N,s(P)) :- plus(M,N,P).\n")
    ∷ checker (bytes ":- mode plus(+,-,-).\nplus(z,N,N).\nplus(s(M),N,s(P)) :- plus(M,N,P).\n")
    ∷ checker (bytes "")
    ∷ checker (bytes ":- mode p(-). p(X) :- fail.")
    ∷ checker (bytes ":- mode p(-). p(X) :- true.")
    ∷ checker (bytes ":- mode p(-). p(X) :- a = b.")
    ∷ checker (bytes ":- mode p(-). p(X) :- f(X,Y) = f(Y,a).")
    ∷ checker (bytes ":- mode next(+,-). :- mode ends(+,-). next(off,rinse). ends(S,T) :- next(U,T).")
    ∷ checker (bytes ":- mode next(+,-). :- mode ends(+,-). next(off,rinse). ends(S,T) :- next(S,U).")
    ∷ checker (bytes "p(.")
    ∷ checker (bytes ":- mode p(+). :- mode p(-).")
    ∷ runner (bytes ":- mode plus(+,+,-).\nplus(z,N,N).\nplus(s(M),N,s(P)) :- plus(M,N,P).\n") (bytes "plus(s(z),z,X).") []
    ∷ runner (bytes "") (bytes "X = f(X).") []
    ∷ runner (bytes "") (bytes "true.") []
    ∷ []

-- the list's outputs
unfoldable pub expected : List (List ℕ)
expected =
    bytes "accepted 1 2\n"
    ∷ bytes "accepted 1 2\n"
    ∷ bytes "accepted 1 2\n"
    ∷ bytes "refused sheet 10 28 1 0 2 plus\n"
    ∷ bytes "accepted 0 0\n"
    ∷ bytes "accepted 1 1\n"
    ∷ bytes "refused sheet 10 16 1 0 1 p\n"
    ∷ bytes "accepted 1 1\n"
    ∷ bytes "accepted 1 1\n"
    ∷ bytes "refused sheet 9 73 2 1 1 next\n"
    ∷ bytes "refused sheet 10 62 2 0 2 ends\n"
    ∷ bytes "refused sheet 5 2 0 0 0\n"
    ∷ bytes "refused sheet 7 22 0 0 0\n"
    ∷ bytes "X = s(z)\nend done 1 7\n"
    ∷ bytes "end done 0 1\n"
    ∷ bytes "yes\nend done 1 2\n"
    ∷ []
