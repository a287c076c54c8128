-- Computed cases: the starred cases of checking in RULES, the traps of REQUESTS, the order of the refusals, and (i), (ii), (iii), (x) and (xiv).
use Prim.Native.Nat.{ℕ}
use Prim.Native.String.{String}
use mathlib.Core.Path.{◌≡◌, refl}
use mathlib.Core.Bool.{true}
use mathlib.Core.List.{List, [], ◌∷◌, map}
use Rattle.std.proofs.Common.{Ok, Err}
use Rattle.syntax.specs.Quote.{bytes}
use Rattle.syntax.specs.Bytes.{class_of, in_word, in_numeral}
use Rattle.syntax.specs.Tokens.{skipped, run_length, word, dash_first, token_of_class, token_from, token_place, token_at}
use Rattle.syntax.specs.Terms.{same_bytes, literal_of, literals_in}
use Rattle.syntax.specs.Numerals.{trimmed}
use Rattle.syntax.specs.Reading.{and_then, cursor_at, next, wrong_number, wrong, beyond, full, variable_number, is_anonymous, with_new, new_variable, old_variable, read_variable, atom_with, read_atom_with, term_with, read_term_with, arguments_after, read_arguments, read_list, read_term, read_atom, read_right, after_atom, after_term, literal_with, plain_with, read_plain, body_after, read_body_with, read_sides, read_literal, read_to, read_body, clause_after, read_clause, marks_after, marks_with, read_marks, declaration_end, declaration_from, is_mode, after_neck, read_declaration, item_with, read_items, at_start, read_sheet, goal_end, read_goal, declares, repeats, first_repeat}
use Rattle.syntax.specs.Reading.{marks_read as marks_behind}
use Rattle.syntax.specs.Refusals.{five, numbers_of}
use Rattle.syntax.specs.Verdicts.{without_repeats, sheet_from, goal_from, sheet_of, goal_outcome, sheet_verdict}
use Rattle.syntax.specs.declared.Five.{Five}
use Rattle.syntax.specs.Verdicts.{Verdict}
use Rattle.syntax.specs.declared.Text.{Text}
use Rattle.syntax.specs.declared.Text.TheVariants.{Sheet, Goal}
use Rattle.mode_rules.specs.Modes.{none_ground, everything, is_ground, open_unless, open_byte, ground_term, ground_both, equate_variable, equate_same, equate, further, go_over, passes, settle, marks_of, or_no_marks, marks_for, same_mark, if_marked, first_open, ground_if, ground_marked, undeclared, undeclared_atom, undeclared_literal, undeclared_body, undeclared_clause, undeclared_clauses, undeclared_in_sheet, undeclared_in_goal, open_input, open_output, unless_fault, walk_on, in_both, call_walk, literal_walk, body_fault, start_known, head_fault, clause_fault, clauses_fault, sheet_fault, walk_fault, goal_fault}
use Rattle.mode_rules.specs.Written.{is_written, first_unwritten, unwritten}
use Rattle.mode_rules.specs.Checking.{faultless, checked_from, checked_with, verdict_with, check_verdict, checked_goal_from, checked_goal, goal_answer, check_goal_from, check_goal_verdict, fault_name}

-- what the checker prints, before it is spelt
data Answer : Type 0 where
  accepted : ℕ → ℕ → Answer
  refused : Text → Five → List ℕ → Answer

abbrev answer : List ℕ → List ℕ → Verdict → Answer
answer s g (Ok counts) = accepted counts.declarations counts.clauses
answer s g (Err fault) = refused fault.text (numbers_of fault.refusal) (fault_name s g (Err fault))

-- a sheet, one with REQUESTS (x)'s mark, or a sheet and a goal, with the answer
data Case : Type 0 where
  sheet : String → Answer → Case
  stored : String → Answer → Case
  goal : String → String → Answer → Case

abbrev told : Case → Answer
told (sheet s a) = a
told (stored s a) = a
told (goal s g a) = a

abbrev answered : Case → Answer
answered (sheet s a) = answer (bytes s) [] (check_verdict (bytes s))
answered (stored s a) = answer (bytes s) [] (verdict_with true (bytes s))
answered (goal s g a) = answer (bytes s) (bytes g) (check_goal_verdict (bytes s) (bytes g))

abbrev cases : List Case
cases =
    -- the starred cases of checking, in the order of the list
    sheet ":- mode plus(+,+,-).\nplus(z,N,N).\nplus(s(M),N,s(P)) :- plus(M,N,P).\n" (accepted 1 2)
    ∷ sheet ":- mode plus(+,-,+).\nplus(z,N,N).\nplus(s(M),N,s(P)) :- plus(M,N,P).\n" (accepted 1 2)
    ∷ sheet ":- mode plus(-,+,+).\nplus(z,N,N).\nplus(s(M),N,s(P)) :- plus(M,N,P).\n" (accepted 1 2)
    ∷ sheet ":- mode plus(+,-,-).\nplus(z,N,N).\nplus(s(M),N,s(P)) :- plus(M,N,P).\n" (refused Sheet (five 10 28 1 0 2) (bytes "plus"))
    ∷ sheet "" (accepted 0 0)
    ∷ sheet ":- mode p(-). p(X) :- fail." (accepted 1 1)
    ∷ sheet ":- mode p(-). p(X) :- true." (refused Sheet (five 10 16 1 0 1) (bytes "p"))
    ∷ sheet ":- mode p(-). p(X) :- a = b." (accepted 1 1)
    ∷ sheet ":- mode p(-). p(X) :- f(X,Y) = f(Y,a)." (accepted 1 1)
    ∷ sheet ":- mode next(+,-). :- mode ends(+,-). next(off,rinse). ends(S,T) :- next(U,T)." (refused Sheet (five 9 73 2 1 1) (bytes "next"))
    ∷ sheet ":- mode next(+,-). :- mode ends(+,-). next(off,rinse). ends(S,T) :- next(S,U)." (refused Sheet (five 10 62 2 0 2) (bytes "ends"))
    -- the traps: outputs before inputs, * head arguments, reading on after `fail`
    ∷ sheet ":- mode p(+,-). :- mode q(*). q(X) :- p(X,X). p(a,a)." (refused Sheet (five 9 40 1 1 1) (bytes "p"))
    ∷ sheet ":- mode p(*,-). p(X,X)." (refused Sheet (five 10 20 1 0 2) (bytes "p"))
    ∷ sheet ":- mode p(-). :- mode q(+). p(X) :- fail, q(Y). q(a)." (accepted 2 2)
    ∷ sheet ":- mode p(-). :- mode q(+). p(X) :- true, q(Y). q(a)." (refused Sheet (five 9 44 1 2 1) (bytes "q"))
    -- equations: pairs from the left, a variable inside the other side, clashes at the top and below
    ∷ sheet ":- mode p(-). p(X) :- f(Y,X) = f(a,Y)." (accepted 1 1)
    ∷ sheet ":- mode p(-). p(X) :- X = f(X)." (refused Sheet (five 10 16 1 0 1) (bytes "p"))
    ∷ sheet ":- mode p(-). p(X) :- f(X) = Y, Y = f(a)." (refused Sheet (five 10 16 1 0 1) (bytes "p"))
    ∷ sheet ":- mode p(-). p(X) :- Y = f(a), f(X) = Y." (accepted 1 1)
    ∷ sheet ":- mode p(-). p(X) :- a = 1." (accepted 1 1)
    ∷ sheet ":- mode p(-). p(X) :- f(Y) = f(Y,Z)." (accepted 1 1)
    ∷ sheet ":- mode p(-). p(X) :- f(g(Y),a) = f(g(Y),b)." (accepted 1 1)
    ∷ sheet ":- mode p(-). p(X) :- f(a) = f(a)." (refused Sheet (five 10 16 1 0 1) (bytes "p"))
    -- REQUESTS (xiv): an equation is gone over again from what the last pass left, other literals are not; three passes, nested pairs, an
    -- equation that stays unknown, an input; one refused with 10 where a single pass leads to 9, and one at a later literal
    ∷ sheet ":-mode p(-). p(X) :- f(X,Y,Z) = f(Y,Z,a)." (accepted 1 1)
    ∷ sheet ":-mode p(-). p(X) :- X = Y, Y = a." (refused Sheet (five 10 15 1 0 1) (bytes "p"))
    ∷ sheet ":-mode p(-). p(X) :- f(X,Y) = f(Y,Z), Z = a." (refused Sheet (five 10 15 1 0 1) (bytes "p"))
    ∷ sheet ":-mode p(-). p(X):-f(X,Y)=f(Y,Z)." (refused Sheet (five 10 15 1 0 1) (bytes "p"))
    ∷ sheet ":-mode p(-). p(X) :- f(X,g(Y,h(Z))) = f(Y,g(Z,h(a)))." (accepted 1 1)
    ∷ sheet ":-mode p(+). p(X) :- f(Y,Z) = f(Z,X), p(f(Y,Z))." (accepted 1 1)
    ∷ sheet ":-mode p(-). :-mode q(+). p(X) :- f(Y,Z) = f(Z,a), q(Y). q(X)." (refused Sheet (five 10 28 1 0 1) (bytes "p"))
    ∷ sheet ":-mode p(-). :-mode q(+). p(X) :- f(Y,Z) = f(Z,a), q(Y), q(X). q(X)." (refused Sheet (five 9 59 1 3 1) (bytes "q"))
    ∷ goal ":-mode p(+). p(a)." "f(X,Y) = f(Y,a), p(X)." (accepted 1 1)
    -- * arguments give and ask nothing; `_` is a variable of its own; the lowest argument of the first fault
    ∷ sheet ":- mode p(*). :- mode q(-). p(X). q(X) :- p(X)." (refused Sheet (five 10 36 2 0 1) (bytes "q"))
    ∷ sheet ":- mode p(+). :- mode q(+). p(X). q(_) :- p(_)." (refused Sheet (five 9 44 2 1 1) (bytes "p"))
    ∷ sheet ":- mode p(*,+,+). :- mode q(-). q(X) :- p(X,Y,X). p(a,a,a)." (refused Sheet (five 9 44 1 1 2) (bytes "p"))
    ∷ sheet ":- mode p(-). :- mode q(+). p(X). p(X) :- q(X). q(a)." (refused Sheet (five 10 30 1 0 1) (bytes "p"))
    -- REQUESTS (ii): the first open variable in the argument, where it stands there; nested, twice, anonymous, in a goal
    ∷ sheet ":-mode p(+). p(X) :- Y = Z, p(f(X,g(Z),Y))." (refused Sheet (five 9 36 1 2 1) (bytes "p"))
    ∷ sheet ":-mode p(-,-). p(X,f(a,Y,X)) :- X=b." (refused Sheet (five 10 23 1 0 2) (bytes "p"))
    ∷ sheet ":-mode p(*,-). p(X,f(a,g(X)))." (refused Sheet (five 10 25 1 0 2) (bytes "p"))
    ∷ sheet ":-mode p(-). p(f(X,X))." (refused Sheet (five 10 17 1 0 1) (bytes "p"))
    ∷ sheet ":-mode p(-). p(f(_,_))." (refused Sheet (five 10 17 1 0 1) (bytes "p"))
    ∷ goal ":-mode p(+). p(a)." "X=a,p(f(X,_))." (refused Goal (five 9 10 0 2 1) (bytes "p"))
    -- 8 over the whole sheet before 9 and 10: head before body, left to right; a predicate has a number of arguments; declarations may follow
    ∷ sheet "p :- q. r." (refused Sheet (five 8 0 1 0 0) (bytes "p"))
    ∷ sheet ":- mode p. p :- true, a = b, qq, r. s." (refused Sheet (five 8 0 1 3 0) (bytes "qq"))
    ∷ sheet ":- mode p(+). :- mode r. r :- p(X). s." (refused Sheet (five 8 0 2 0 0) (bytes "s"))
    ∷ sheet "true." (refused Sheet (five 8 0 1 0 0) (bytes "true"))
    ∷ sheet ":- mode p(+). p." (refused Sheet (five 8 0 1 0 0) (bytes "p"))
    ∷ sheet "p(a). :- mode p(+)." (accepted 1 1)
    -- REQUESTS (iii): 1 and 01 are the same, so their equation is no clash; names are not touched
    ∷ sheet ":- mode p(-). p(X) :- 1 = 01." (refused Sheet (five 10 16 1 0 1) (bytes "p"))
    ∷ sheet ":- mode p(+). p(X) :- 1 = 01, p(Y)." (refused Sheet (five 9 32 1 2 1) (bytes "p"))
    ∷ sheet ":- mode p(-). p(X) :- 00 = 000." (refused Sheet (five 10 16 1 0 1) (bytes "p"))
    ∷ sheet ":- mode p(-). p(X) :- 1 = 10." (accepted 1 1)
    ∷ sheet ":- mode p(-). p(X) :- a1 = a01." (accepted 1 1)
    -- 7 before 8; refusals up to 7 hand back no name
    ∷ sheet "q. :- mode p(+). :- mode p(-)." (refused Sheet (five 7 25 0 0 0) [])
    -- REQUESTS (x): the first declared predicate without a clause, name and number of arguments; `seen` with three is exempt
    ∷ sheet ":-mode p. :-mode q. p." (refused Sheet (five 16 17 0 0 0) [])
    ∷ sheet ":-mode p. :-mode q. :-mode r. q." (refused Sheet (five 16 7 0 0 0) [])
    ∷ sheet ":-mode p. :-mode p(+). p(a)." (refused Sheet (five 16 7 0 0 0) [])
    ∷ sheet ":-mode seen(+,+,+)." (accepted 1 0)
    ∷ sheet ":-mode seen(+,+)." (refused Sheet (five 16 7 0 0 0) [])
    ∷ sheet ":-mode seem(+,+,+)." (refused Sheet (five 16 7 0 0 0) [])
    -- 7 and 8 before it, 9 and 10 behind it; with the mark it is passed over
    ∷ sheet ":-mode p. :-mode p." (refused Sheet (five 7 17 0 0 0) [])
    ∷ sheet ":-mode p(-). :-mode q. p(X) :- r." (refused Sheet (five 8 0 1 1 0) (bytes "r"))
    ∷ sheet ":-mode p(-). :-mode q. p(X)." (refused Sheet (five 16 20 0 0 0) [])
    ∷ sheet ":-mode p(+). :-mode q. p(X) :- p(Y)." (refused Sheet (five 16 20 0 0 0) [])
    ∷ stored ":-mode p. :-mode p." (refused Sheet (five 7 17 0 0 0) [])
    ∷ stored ":-mode p(-). :-mode q. p(X) :- r." (refused Sheet (five 8 0 1 1 0) (bytes "r"))
    ∷ stored ":-mode p(-). :-mode q. p(X)." (refused Sheet (five 10 25 1 0 1) (bytes "p"))
    ∷ stored ":-mode p(+). :-mode q. p(X) :- p(Y)." (refused Sheet (five 9 33 1 1 1) (bytes "p"))
    ∷ stored ":-mode p. :-mode q. p." (accepted 2 1)
    ∷ goal ":-mode p." "p." (refused Sheet (five 16 7 0 0 0) [])
    -- REQUESTS (i): known ground after a bracket is what both sides leave so, each from what was before it; numbers run through both sides
    ∷ sheet ":-mode p(-). p(X) :- (X = a; true)." (refused Sheet (five 10 15 1 0 1) (bytes "p"))
    ∷ sheet ":-mode p(-). p(X) :- (true; X = a)." (refused Sheet (five 10 15 1 0 1) (bytes "p"))
    ∷ sheet ":-mode p(-). p(X) :- (X = a; fail)." (accepted 1 1)
    ∷ sheet ":-mode p(-). p(X) :- (X = a; X = b)." (accepted 1 1)
    ∷ sheet ":-mode p(-). p(X) :- (Y = X, Y = a; Y = a), X = Y." (accepted 1 1)
    ∷ sheet ":-mode p(+). p(X) :- (Y = a; p(Y))." (refused Sheet (five 9 31 1 2 1) (bytes "p"))
    ∷ sheet ":-mode p(+). p(X) :- (true; p(Y)), p(Z)." (refused Sheet (five 9 30 1 2 1) (bytes "p"))
    ∷ sheet ":-mode p(+). p(X) :- ((true; true), true; p(X)), p(Z)." (refused Sheet (five 9 51 1 5 1) (bytes "p"))
    ∷ sheet ":-mode p. p :- (true; q), r." (refused Sheet (five 8 0 1 2 0) (bytes "q"))
    ∷ sheet "p :- (true)." (refused Sheet (five 5 10 0 0 0) [])
    ∷ sheet "(a;b):-c." (refused Sheet (five 5 0 0 0 0) [])
    ∷ goal ":-mode p(+). p(a)." "(X = a; Y = b), p(X)." (refused Goal (five 9 18 0 3 1) (bytes "p"))
    ∷ goal ":-mode p(+). p(a)." "(X = a; X = b), p(X)." (accepted 1 1)
    -- goals: the sheet first, then 2 to 6, 8 and 9
    ∷ goal ":- mode plus(+,+,-).\nplus(z,N,N).\nplus(s(M),N,s(P)) :- plus(M,N,P).\n" "plus(s(z),z,X)." (accepted 1 2)
    ∷ goal ":- mode plus(+,+,-). plus(z,z,z)." "X = a, plus(X,Y,Z)." (refused Goal (five 9 14 0 2 2) (bytes "plus"))
    ∷ goal ":- mode p(-). :- mode q(+). p(a). q(a)." "p(X), q(X), true, qqq(X), q(Y)." (refused Goal (five 8 0 0 4 0) (bytes "qqq"))
    ∷ goal ":- mode q(+). q(a)." "fail, q(X)." (accepted 1 1)
    ∷ goal ":- mode p(-). p(X)." "p(" (refused Sheet (five 10 16 1 0 1) (bytes "p"))
    ∷ goal "" "" (refused Goal (five 5 0 0 0 0) [])
    ∷ []

-- each case gets the answer that it is told with
as-told : map answered cases ≡ map told cases
unfolding literals_in trimmed class_of in_word in_numeral skipped run_length word dash_first token_of_class token_from token_place token_at same_bytes literal_of and_then cursor_at next wrong_number wrong beyond full variable_number is_anonymous with_new new_variable old_variable read_variable atom_with read_atom_with term_with read_term_with arguments_after read_arguments read_list read_term read_atom read_right after_atom after_term literal_with plain_with read_plain body_after read_body_with read_sides read_literal read_to read_body clause_after read_clause marks_after marks_with read_marks marks_behind declaration_end declaration_from is_mode after_neck read_declaration item_with read_items at_start read_sheet goal_end read_goal declares repeats first_repeat without_repeats sheet_from goal_from sheet_of goal_outcome sheet_verdict none_ground everything is_ground ground_term ground_both equate_variable equate_same equate further go_over passes settle marks_of or_no_marks marks_for same_mark open_unless open_byte if_marked first_open ground_if ground_marked undeclared undeclared_atom undeclared_literal undeclared_body undeclared_clause undeclared_clauses undeclared_in_sheet undeclared_in_goal open_input open_output unless_fault walk_on in_both call_walk literal_walk body_fault start_known head_fault clause_fault clauses_fault sheet_fault walk_fault goal_fault is_written first_unwritten unwritten faultless checked_from checked_with verdict_with checked_goal_from checked_goal goal_answer check_goal_from check_goal_verdict fault_name
as-told = refl
