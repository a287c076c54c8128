-- Computed cases of the definitions: each number from 2 to 7, ties at one byte, every limit of the table of RULES that a short text meets, and the five
-- numbers of some refusals.
use Prim.Native.Nat.{ℕ}
use mathlib.Core.Path.{◌≡◌, refl}
use mathlib.Core.List.{List, [], ◌∷◌, map}
use lib.ListN.{replicate}
use Rattle.syntax.specs.Quote.{bytes}
use Rattle.syntax.specs.Bytes.{class_of, in_word, in_numeral}
use Rattle.syntax.specs.Tokens.{skipped, run_length, word, dash_first, token_of_class, token_from, token_place, token_at}
use Rattle.syntax.specs.Terms.{same_bytes, literal_of}
use Rattle.syntax.specs.Reading.{and_then, cursor_at, next, wrong_number, wrong, beyond, full, variable_number, is_anonymous, with_new, new_variable, old_variable, read_variable, atom_with, read_atom_with, term_with, read_term_with, arguments_after, read_arguments, read_list, read_term, read_atom, read_right, after_atom, after_term, literal_with, plain_with, read_plain, read_literal, body_after, read_body_with, read_sides, read_to, read_body, clause_after, read_clause, marks_after, marks_with, read_marks, marks_read, declaration_end, declaration_from, is_mode, after_neck, read_declaration, item_with, read_items, at_start, read_sheet, goal_end, read_goal, declares, repeats, first_repeat}
use Rattle.syntax.specs.Refusals.{five, numbers_of}
use Rattle.syntax.specs.Verdicts.{without_repeats, sheet_from, goal_from, sheet_of, goal_outcome, sheet_verdict, goal_verdict, read_verdict, read_goal_verdict}
use Rattle.syntax.specs.Verdicts.{Verdict}
use Rattle.syntax.specs.Verdicts.{Accepted, Refused}
use Rattle.syntax.specs.declared.Text.TheVariants.{Sheet, Goal}
use Rattle.syntax.specs.declared.Five.{Five}
use Rattle.syntax.specs.declared.Refusal.{Refusal}
use Rattle.syntax.specs.declared.Refusal.TheVariants.{TooLong, NoToken, Overlong, Misplaced, OverLimit, Repeated, Undeclared, OpenInput, OpenOutput, Unwritten}

-- texts of sheets, and the answers to them
sheets : List (List ℕ)
sheets =
    (bytes ":- mode plus(+,+,-).\nplus(z,N,N).\nplus(s(M),N,s(P)) :- plus(M,N,P).\n")
    ∷ (bytes "")
    ∷ (bytes "% no line feed")
    ∷ (bytes "p(.")
    ∷ (bytes ":- mode p(+). :- mode p(-).")
    ∷ (bytes ":- mode p(+). :- mode p.")
    ∷ (bytes ":- mode true.")
    ∷ (bytes ":- mode true(*).")
    ∷ (bytes ":- mode mode(+). mode(mode).")
    ∷ (bytes ":- mode a01. :- mode a1.")
    ∷ (bytes "p(1a).")
    ∷ (bytes ":--mode p.")
    ∷ (bytes ": - mode p.")
    ∷ (bytes "p :- X.")
    ∷ (bytes "p = q.")
    ∷ (bytes "p :- a = b = c.")
    ∷ (bytes "p() .")
    ∷ (bytes "p( % x\n")
    ∷ (bytes "p(a,a,a,a,a,a,a,a).")
    ∷ (bytes "p(a,a,a,a,a,a,a,a,)")
    ∷ (bytes "p(a,a,a,a,a,a,a,a,a)")
    ∷ (bytes "p(a,a,a,a,a,a,a,a,!)")
    ∷ (bytes "p(a,a,a,a,a,a,a,a,aaaaaaaaaaaaaaaaaaaaaaaaaaaaaaaa)")
    ∷ (bytes "aaaaaaaaaaaaaaaaaaaaaaaaaaaaaaa.")
    ∷ (bytes "p :- aaaaaaaaaaaaaaaaaaaaaaaaaaaaaaaa.")
    ∷ (bytes "p(f(f(f(f(f(f(f(f(f(f(f(f(f(f(f(a)))))))))))))))).")
    ∷ (bytes "p(f(f(f(f(f(f(f(f(f(f(f(f(f(f(f(f(a")
    ∷ (bytes "p :- a,a,a,a,a,a,a,a,a,a,a,a,a,a,a,a.")
    ∷ (bytes "p :- a,a,a,a,a,a,a,a,a,a,a,a,a,a,a,a,X")
    ∷ (bytes "p :- a(_,_,_,_,_,_,_,_),a(_,_,_,_,_,_,_,_),a(_,_,_,_,_,_,_,_),a(_,_,_,_,_,_,_,_),a(_,_,_,_,_,_,_,_),a(_,_,_,_,_,_,_,_),a(_,_,_,_,_,_,_,_),a(_,_,_,_,_,_,_,_).")
    ∷ (bytes "p :- a(_,_,_,_,_,_,_,_),a(_,_,_,_,_,_,_,_),a(_,_,_,_,_,_,_,_),a(_,_,_,_,_,_,_,_),a(_,_,_,_,_,_,_,_),a(_,_,_,_,_,_,_,_),a(_,_,_,_,_,_,_,_),a(_,_,_,_,_,_,_,_),a(_")
    ∷ (bytes "p(_,_,_,_,_,_,_,_) :- a(_,_,_,_,_,_,_,_),a(_,_,_,_,_,_,_,_),a(_,_,_,_,_,_,_,_),a(_,_,_,_,_,_,_,_),a(_,_,_,_,_,_,_,_),a(_,_,_,_,_,_,_,_),a(_,_,_,_,_,_,_,_), X")
    ∷ (bytes "(a;b):-c.")
    ∷ (bytes "p :- a;b.")
    ∷ (bytes "p :- (a;b), (c,d;((e;f);g)).")
    ∷ (bytes "p :- a,a,a,a,a,a,a,a,a,a,a,a,a,a,a,a,().")
    ∷ (bytes "p :- a,a,a,a,a,a,a,a,a,a,a,a,a,a,a,a,(a;a).")
    ∷ (bytes "p :- a,a,a,a,a,a,a,a,a,a,a,a,a,a,(a;a).")
    ∷ (bytes "p :- (((((((((((((((((a")
    ∷ (bytes "p :- ((((((((((((((((q(a)")
    ∷ (bytes "p :- ((((((((((((((((q;q")
    ∷ []

sheet-answers : List Verdict
sheet-answers =
    Accepted 1 2
    ∷ Accepted 0 0
    ∷ Accepted 0 0
    ∷ Refused Sheet (Misplaced 2)
    ∷ Refused Sheet (Repeated 22)
    ∷ Accepted 2 0
    ∷ Refused Sheet (Repeated 8)
    ∷ Accepted 1 0
    ∷ Accepted 1 1
    ∷ Accepted 2 0
    ∷ Refused Sheet (Misplaced 3)
    ∷ Refused Sheet (Misplaced 2)
    ∷ Refused Sheet (NoToken 0)
    ∷ Refused Sheet (Misplaced 6)
    ∷ Refused Sheet (Misplaced 2)
    ∷ Refused Sheet (Misplaced 11)
    ∷ Refused Sheet (Misplaced 2)
    ∷ Refused Sheet (Misplaced 7)
    ∷ Accepted 0 1
    ∷ Refused Sheet (Misplaced 18)
    ∷ Refused Sheet (OverLimit 18)
    ∷ Refused Sheet (NoToken 18)
    ∷ Refused Sheet (Overlong 18)
    ∷ Accepted 0 1
    ∷ Refused Sheet (Overlong 5)
    ∷ Accepted 0 1
    ∷ Refused Sheet (OverLimit 33)
    ∷ Accepted 0 1
    ∷ Refused Sheet (OverLimit 37)
    ∷ Accepted 0 1
    ∷ Refused Sheet (OverLimit 159)
    ∷ Refused Sheet (OverLimit 156)
    ∷ Refused Sheet (Misplaced 0)
    ∷ Refused Sheet (Misplaced 6)
    ∷ Accepted 0 1
    ∷ Refused Sheet (Misplaced 38)
    ∷ Refused Sheet (OverLimit 38)
    ∷ Accepted 0 1
    ∷ Refused Sheet (OverLimit 21)
    ∷ Refused Sheet (OverLimit 22)
    ∷ Refused Sheet (Misplaced 24)
    ∷ []

-- texts of goals, and the answers to them
goals : List (List ℕ)
goals =
    (bytes "")
    ∷ (bytes "true.")
    ∷ (bytes "p(X), X = f(Y).")
    ∷ (bytes "p. q.")
    ∷ (bytes "p. !")
    ∷ (bytes "(true).")
    ∷ (bytes "(true;true;true).")
    ∷ (bytes "(true;).")
    ∷ (bytes "(true;true) = X.")
    ∷ (bytes "true;true.")
    ∷ (bytes "((X=a;X=b);X=c).")
    ∷ []

goal-answers : List Verdict
goal-answers =
    Refused Goal (Misplaced 0)
    ∷ Accepted 0 0
    ∷ Accepted 0 0
    ∷ Refused Goal (Misplaced 3)
    ∷ Refused Goal (NoToken 3)
    ∷ Refused Goal (Misplaced 5)
    ∷ Refused Goal (Misplaced 10)
    ∷ Refused Goal (Misplaced 6)
    ∷ Refused Goal (Misplaced 12)
    ∷ Refused Goal (Misplaced 4)
    ∷ Accepted 0 0
    ∷ []

-- refusals, and the five numbers of each: an input not known ground in literal 3 of clause 2, argument 1, its variable at byte 40; an output in its head
refusals : List Refusal
refusals = OverLimit 40 ∷ Undeclared 2 3 30 5 ∷ OpenInput 40 2 3 1 30 5 ∷ OpenOutput 40 2 1 30 5 ∷ Unwritten 40 ∷ []

refusal-numbers : List Five
refusal-numbers = five 6 40 0 0 0 ∷ five 8 0 2 3 0 ∷ five 9 40 2 3 1 ∷ five 10 40 2 0 1 ∷ five 16 40 0 0 0 ∷ []

numbered : map numbers_of refusals ≡ refusal-numbers
unfolding refusals refusal-numbers
numbered = refl

-- a sheet of one byte too many, and one at the most
long : ℕ → List ℕ
long n = replicate n 32

read-sheets : map read_verdict sheets ≡ sheet-answers
unfolding sheets sheet-answers class_of in_word in_numeral skipped run_length word dash_first token_of_class token_from token_place token_at same_bytes literal_of and_then cursor_at next wrong_number wrong beyond full variable_number is_anonymous with_new new_variable old_variable read_variable atom_with read_atom_with term_with read_term_with arguments_after read_arguments read_list read_term read_atom read_right after_atom after_term literal_with plain_with read_plain read_literal body_after read_body_with read_sides read_to read_body clause_after read_clause marks_after marks_with read_marks marks_read declaration_end declaration_from is_mode after_neck read_declaration item_with read_items at_start read_sheet goal_end read_goal declares repeats first_repeat without_repeats sheet_from goal_from sheet_of goal_outcome sheet_verdict goal_verdict read_verdict read_goal_verdict
read-sheets = refl

read-goals : map read_goal_verdict goals ≡ goal-answers
unfolding goals goal-answers class_of in_word in_numeral skipped run_length word dash_first token_of_class token_from token_place token_at same_bytes literal_of and_then cursor_at next wrong_number wrong beyond full variable_number is_anonymous with_new new_variable old_variable read_variable atom_with read_atom_with term_with read_term_with arguments_after read_arguments read_list read_term read_atom read_right after_atom after_term literal_with plain_with read_plain read_literal body_after read_body_with read_sides read_to read_body clause_after read_clause marks_after marks_with read_marks marks_read declaration_end declaration_from is_mode after_neck read_declaration item_with read_items at_start read_sheet goal_end read_goal declares repeats first_repeat without_repeats sheet_from goal_from sheet_of goal_outcome sheet_verdict goal_verdict read_verdict read_goal_verdict
read-goals = refl

too_long : read_goal_verdict (long 1025) ≡ Refused Goal TooLong
unfolding long class_of in_word in_numeral skipped run_length word dash_first token_of_class token_from token_place token_at same_bytes literal_of and_then cursor_at next wrong_number wrong beyond full variable_number is_anonymous with_new new_variable old_variable read_variable atom_with read_atom_with term_with read_term_with arguments_after read_arguments read_list read_term read_atom read_right after_atom after_term literal_with plain_with read_plain read_literal body_after read_body_with read_sides read_to read_body clause_after read_clause marks_after marks_with read_marks marks_read declaration_end declaration_from is_mode after_neck read_declaration item_with read_items at_start read_sheet goal_end read_goal declares repeats first_repeat without_repeats sheet_from goal_from sheet_of goal_outcome sheet_verdict goal_verdict read_verdict read_goal_verdict
too_long = refl

not-too-long : read_goal_verdict (long 1024) ≡ Refused Goal (Misplaced 1024)
unfolding long class_of in_word in_numeral skipped run_length word dash_first token_of_class token_from token_place token_at same_bytes literal_of and_then cursor_at next wrong_number wrong beyond full variable_number is_anonymous with_new new_variable old_variable read_variable atom_with read_atom_with term_with read_term_with arguments_after read_arguments read_list read_term read_atom read_right after_atom after_term literal_with plain_with read_plain read_literal body_after read_body_with read_sides read_to read_body clause_after read_clause marks_after marks_with read_marks marks_read declaration_end declaration_from is_mode after_neck read_declaration item_with read_items at_start read_sheet goal_end read_goal declares repeats first_repeat without_repeats sheet_from goal_from sheet_of goal_outcome sheet_verdict goal_verdict read_verdict read_goal_verdict
not-too-long = refl
