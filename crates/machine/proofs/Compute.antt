-- All definitions that a run over texts goes through, opened at once.
use Prim.Native.Nat.{ℕ}
use mathlib.Core.List.{List}
use mathlib.Core.Option.{Option, none, some}
use Rattle.syntax.specs.Bytes.{class_of, in_word, in_numeral}
use Rattle.syntax.specs.Tokens.{skipped, run_length as run_of, word, dash_first, token_of_class, token_from, token_place, token_at}
use Rattle.syntax.specs.Terms.{same_bytes, literal_of, literals_in, Sheet, Goal}
use Rattle.syntax.specs.Numerals.{trimmed}
use Rattle.syntax.specs.Reading.{and_then, cursor_at, next, wrong_number, wrong, beyond, full, variable_number, is_anonymous, with_new, new_variable, old_variable, read_variable, atom_with, read_atom_with, term_with, read_term_with, arguments_after, read_arguments, read_list, read_term, read_atom, read_right, after_atom, after_term, literal_with, plain_with, read_plain, body_after, read_body_with, read_sides, read_literal, read_to, read_body, clause_after, read_clause, marks_after, marks_with, read_marks, marks_read, declaration_end, declaration_from, is_mode, after_neck, read_declaration, item_with, read_items, at_start, read_sheet, goal_end, read_goal, declares, repeats, first_repeat}
use Rattle.syntax.specs.Verdicts.{Outcome, refused, accepted, without_repeats, sheet_from, goal_from, sheet_of, goal_outcome}
use Rattle.mode_rules.specs.Modes.{none_ground, everything, is_ground, open_unless, open_byte, ground_term, ground_both, equate_variable, equate_same, equate, further, go_over, passes, settle, marks_of as marks_of_atom, or_no_marks, marks_for, same_mark, faulty, if_marked, first_open, one_more, count_faulty, ground_if, ground_marked, undeclared, undeclared_atom, undeclared_literal, undeclared_body, undeclared_clause, undeclared_clauses, undeclared_in_sheet, undeclared_in_goal, open_input, open_output, unless_fault, walk_on, in_both, call_walk, literal_walk, body_fault, start_known, head_fault, clause_fault, clauses_fault, sheet_fault, walk_fault, goal_fault}
use Rattle.mode_rules.specs.Written.{is_written, first_unwritten, unwritten}
use Rattle.mode_rules.specs.Checking.{faultless, checked_from, checked_with, checked_goal_from, checked_goal}
use Rattle.machine.specs.Substitution.{resolve, is_bound}
use Rattle.machine.specs.Unification.{differ_variables, differ_mixed, or_else, differ, bound, rounds, unify}
use Rattle.machine.specs.Machine.{pending, first_for, next_for, next_of, topmost, nth_clause, clause_at, gone, equated, moved_on, laid, tried, on_top, called, worked, worked_on, outcome, step, start, pile_after}
use Rattle.words.specs.Buffers.{digits, decimal}
use Rattle.machine.specs.Answers.{bytes_then, spelt, place_of, numbered, bytes_of, is_anonymous as is_blank_name, all_anonymous, values_from, line}
use Rattle.machine.specs.Counts.{open_arguments, inputs_of, inputs_first, open_inputs, is_within, is_left, shows, shows_newly, count_if, outputs_over, open_outputs, Tally, counted_on, counted_step, tally}
use Rattle.machine.specs.Traces.{banded_of, bare_of, found_of, record_before, filled, records_from, records_of, facts_from, facts_of, facts_in, number_part, elapsed_part, band_part, fact_text, fact_clause, fact_clauses, with_facts, if_over, declares_seen, unseen, records_fault, trace_fault, over_trace, over_traced, traced_outcome}
use Rattle.machine.specs.Runs.{is_empty, is_answer, line_with, next_line, is_there, tries_with, tries_first, goes_deeper, first_end, one_if, advance, end_or, run_from, begun, run, RunSettings, RunOutcome, reported, over_goal, over_sheet, in_range, run_outcome}

unfoldable pub computed : List ℕ → List ℕ → RunSettings → ℕ → RunOutcome
unfolding literals_in trimmed class_of in_word in_numeral skipped run_of word dash_first token_of_class token_from token_place token_at same_bytes literal_of and_then cursor_at next wrong_number wrong beyond full variable_number is_anonymous with_new new_variable old_variable read_variable atom_with read_atom_with term_with read_term_with arguments_after read_arguments read_list read_term read_atom read_right after_atom after_term literal_with plain_with read_plain body_after read_body_with read_sides read_literal read_to read_body clause_after read_clause marks_after marks_with read_marks marks_read declaration_end declaration_from is_mode after_neck read_declaration item_with read_items at_start read_sheet goal_end read_goal declares repeats first_repeat without_repeats sheet_from goal_from sheet_of goal_outcome none_ground everything is_ground ground_term ground_both equate_variable equate_same equate further go_over passes settle marks_of_atom or_no_marks marks_for same_mark faulty open_unless open_byte if_marked first_open one_more count_faulty ground_if ground_marked undeclared undeclared_atom undeclared_literal undeclared_body undeclared_clause undeclared_clauses undeclared_in_sheet undeclared_in_goal open_input open_output unless_fault walk_on in_both call_walk literal_walk body_fault start_known head_fault clause_fault clauses_fault sheet_fault walk_fault goal_fault is_written first_unwritten unwritten faultless checked_from checked_with checked_goal_from checked_goal resolve is_bound differ_variables differ_mixed or_else differ bound rounds unify pending first_for next_for next_of topmost nth_clause clause_at gone equated moved_on laid tried on_top called worked worked_on outcome step start pile_after bytes_then spelt digits decimal place_of numbered bytes_of is_blank_name all_anonymous values_from line is_empty is_answer line_with next_line is_there tries_with tries_first goes_deeper first_end one_if advance end_or run_from begun run reported over_goal over_sheet in_range run_outcome open_arguments inputs_of inputs_first open_inputs is_within is_left shows shows_newly count_if outputs_over open_outputs counted_on counted_step tally
computed sheet goal asked room = run_outcome sheet goal asked room

-- The same with a trace.
unfoldable pub computed_traced : List ℕ → List ℕ → List ℕ → RunSettings → ℕ → RunOutcome
unfolding computed banded_of bare_of found_of record_before filled records_from records_of facts_from facts_of facts_in number_part elapsed_part band_part fact_text fact_clause fact_clauses with_facts if_over declares_seen unseen records_fault trace_fault over_trace over_traced traced_outcome
computed_traced sheet goal trace asked room = traced_outcome sheet goal trace asked room

-- Both counts after n steps, of texts free of faults 2 to 7, whether the modes accept them or not.
abbrev pub Counted : Type 0
Counted = Option (record { inputs : ℕ; outputs : ℕ })

abbrev counts_of : Tally → Counted
counts_of t = some (record { inputs = t.inputs; outputs = t.outputs })

abbrev over_goals : ℕ → Sheet → Outcome Goal → Counted
over_goals n sh (refused r) = none
over_goals n sh (accepted g) = counts_of (tally sh g n)

abbrev over_sheets : List ℕ → ℕ → Outcome Sheet → Counted
over_sheets goal n (refused r) = none
over_sheets goal n (accepted sh) = over_goals n sh (goal_outcome goal)

unfoldable pub counted : List ℕ → List ℕ → ℕ → Counted
unfolding computed
counted sheet goal n = over_sheets goal n (sheet_of sheet)
