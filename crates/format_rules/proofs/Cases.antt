-- Computed cases: sheets read and written afresh, and the room that a writing needs. Assumes nothing.
use mathlib.Core.Path.{◌≡◌, refl}
use mathlib.Core.List.{List, [], ◌∷◌, map}
use Prim.Native.Nat.{ℕ}
use Rattle.syntax.specs.Quote.{bytes}
use Rattle.syntax.specs.Terms.{Sheet}
use Rattle.syntax.specs.Numerals.{trimmed}
use Rattle.syntax.specs.Bytes.{class_of, in_word, in_numeral}
use Rattle.syntax.specs.Tokens.{skipped, run_length, word, dash_first, token_of_class, token_from, token_place, token_at}
use Rattle.syntax.specs.Reading.{and_then, cursor_at, next, wrong_number, wrong, beyond, full, variable_number, is_anonymous, with_new, new_variable, old_variable, read_variable, atom_with, read_atom_with, term_with, read_term_with, arguments_after, read_arguments, read_list, read_term, read_atom, read_right, after_atom, after_term, literal_with, plain_with, read_plain, read_literal, body_after, read_body_with, read_sides, read_to, read_body, clause_after, read_clause, marks_after, marks_with, read_marks, marks_read, declaration_end, declaration_from, is_mode, after_neck, read_declaration, item_with, read_items, at_start, read_sheet, declares, repeats, first_repeat}
use Rattle.syntax.specs.Verdicts.{without_repeats, sheet_from, sheet_of}
use Rattle.syntax.specs.Terms.{same_bytes, literal_of}
use Rattle.syntax.specs.Verdicts.{Outcome, refused, accepted}
use Rattle.words.specs.Buffers.{digits, decimal}
use Rattle.syntax.specs.declared.Refusal.TheVariants.{OutputTooLong}
use Rattle.format_rules.specs.Formatting.{fitting}
use Rattle.format_rules.specs.Writing.{variable_name, term_text, list_text, more_text, atom_text, literal_text, body_text, further_text, tail_text, clause_text, more_marks, marks_text, declaration_text, declarations_text, clauses_text, formatted}

-- the writing of what is read; nothing where it is refused
abbrev written : Outcome Sheet → List ℕ
written (refused r) = []
written (accepted sh) = formatted sh

abbrev afresh : List ℕ → List ℕ
afresh s = written (sheet_of s)

sheets : List (List ℕ)
sheets =
    bytes "p(X,_):-q,(Y=X;_=007). :-mode q. :-mode p(*,*). q."
    ∷ bytes ":-mode p.p."
    ∷ bytes ":-mode p(*). p(X) :- 1 = 01."
    ∷ bytes "p(_,_)."
    ∷ bytes "p(X,Y)."
    ∷ bytes "p(00,a01,_,_X,_1,_X)."
    ∷ bytes "p:-true. p. p:-fail,(true;((a;b),c;f(X,g(X,Y))=Y))."
    ∷ bytes ""
    ∷ []

writings : List (List ℕ)
writings =
    bytes ":- mode q.\n:- mode p(*,*).\np(V1,V2):-q,(V3=V1;V4=7).\nq.\n"
    ∷ bytes ":- mode p.\np.\n"
    ∷ bytes ":- mode p(*).\np(V1):-1=1.\n"
    ∷ bytes "p(V1,V2).\n"
    ∷ bytes "p(V1,V2).\n"
    ∷ bytes "p(0,a01,V1,V2,V3,V2).\n"
    ∷ bytes "p:-true.\np.\np:-fail,(true;((a;b),c;f(V1,g(V1,V2))=V2)).\n"
    ∷ bytes ""
    ∷ []

written_so : map afresh sheets ≡ writings
unfolding sheets writings trimmed class_of in_word in_numeral skipped run_length word dash_first token_of_class token_from token_place token_at and_then cursor_at next wrong_number wrong beyond full variable_number is_anonymous with_new new_variable old_variable read_variable atom_with read_atom_with term_with read_term_with arguments_after read_arguments read_list read_term read_atom read_right after_atom after_term literal_with plain_with read_plain read_literal body_after read_body_with read_sides read_to read_body clause_after read_clause marks_after marks_with read_marks marks_read declaration_end declaration_from is_mode after_neck read_declaration item_with read_items at_start read_sheet declares repeats first_repeat without_repeats sheet_from sheet_of same_bytes literal_of digits decimal variable_name term_text list_text more_text atom_text literal_text body_text further_text tail_text clause_text more_marks marks_text declaration_text declarations_text clauses_text formatted
written_so = refl

-- and again
twice : map afresh writings ≡ writings
unfolding writings trimmed class_of in_word in_numeral skipped run_length word dash_first token_of_class token_from token_place token_at and_then cursor_at next wrong_number wrong beyond full variable_number is_anonymous with_new new_variable old_variable read_variable atom_with read_atom_with term_with read_term_with arguments_after read_arguments read_list read_term read_atom read_right after_atom after_term literal_with plain_with read_plain read_literal body_after read_body_with read_sides read_to read_body clause_after read_clause marks_after marks_with read_marks marks_read declaration_end declaration_from is_mode after_neck read_declaration item_with read_items at_start read_sheet declares repeats first_repeat without_repeats sheet_from sheet_of same_bytes literal_of digits decimal variable_name term_text list_text more_text atom_text literal_text body_text further_text tail_text clause_text more_marks marks_text declaration_text declarations_text clauses_text formatted
twice = refl

-- ---- the room

small : List ℕ
small = bytes ":- mode p.\np.\n"

-- as many bytes as are written are enough, and one less is not
exact_fit : fitting 14 small ≡ accepted small
unfolding small fitting
exact_fit = refl

one_byte_less : fitting 13 small ≡ refused OutputTooLong
unfolding small fitting
one_byte_less = refl
