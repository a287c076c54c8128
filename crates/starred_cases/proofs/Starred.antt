-- One claim about the list of cases of RULES, by evaluation of the definitions. Assumes nothing.
use mathlib.Core.Path.{◌≡◌, refl}
use Rattle.starred_cases.specs.Programs.{checker, runner, verdict_line, run_lines}
use Rattle.starred_cases.specs.Cases.{printed, expected}
use Rattle.syntax.specs.Bytes
use Rattle.syntax.specs.Reading
use Rattle.syntax.specs.Terms
use Rattle.syntax.specs.Tokens
use Rattle.syntax.specs.Verdicts
use Rattle.mode_rules.specs.Checking
use Rattle.mode_rules.specs.Modes
use Rattle.mode_rules.specs.Written
use Rattle.machine.specs.Answers
use Rattle.machine.specs.Machine
use Rattle.machine.specs.Runs
use Rattle.machine.specs.Substitution
use Rattle.machine.specs.Traces
use Rattle.machine.specs.Unification
use Rattle.words.specs.Buffers
use Rattle.output.specs.Lines
use Rattle.output.specs.Reports

pub starred : printed ≡ expected
unfolding printed expected checker runner verdict_line run_lines Bytes.class_of Bytes.in_word Bytes.in_numeral Reading.and_then Reading.cursor_at Reading.next Reading.wrong_number Reading.wrong Reading.beyond Reading.full Reading.variable_number Reading.is_anonymous Reading.with_new Reading.new_variable Reading.old_variable Reading.read_variable Reading.atom_with Reading.read_atom_with Reading.term_with Reading.read_term_with Reading.arguments_after Reading.read_arguments Reading.read_list Reading.read_term Reading.read_atom Reading.read_right Reading.after_atom Reading.after_term Reading.literal_with Reading.plain_with Reading.read_plain Reading.body_after Reading.read_body_with Reading.read_sides Reading.read_literal Reading.read_to Reading.read_body Reading.clause_after Reading.read_clause Reading.marks_after Reading.marks_with Reading.read_marks Reading.marks_read Reading.declaration_end Reading.declaration_from Reading.is_mode Reading.after_neck Reading.read_declaration Reading.item_with Reading.read_items Reading.at_start Reading.read_sheet Reading.goal_end Reading.read_goal Reading.declares Reading.repeats Reading.first_repeat Terms.same_bytes Terms.literal_of Terms.literals_in Tokens.skipped Tokens.run_length Tokens.word Tokens.dash_first Tokens.token_of_class Tokens.token_from Tokens.token_place Tokens.token_at Verdicts.without_repeats Verdicts.sheet_from Verdicts.goal_from Verdicts.sheet_of Verdicts.goal_outcome Verdicts.sheet_verdict Verdicts.goal_verdict Verdicts.read_verdict Verdicts.read_goal_verdict Written.is_written Written.first_unwritten Written.unwritten Checking.faultless Checking.checked_from Checking.checked_with Checking.verdict_with Checking.checked_goal_from Checking.checked_goal Checking.goal_answer Checking.check_goal_from Checking.check_goal_verdict Checking.fault_name Modes.none_ground Modes.everything Modes.is_ground Modes.ground_term Modes.ground_both Modes.equate_variable Modes.equate_same Modes.equate Modes.further Modes.go_over Modes.passes Modes.settle Modes.marks_of Modes.or_no_marks Modes.marks_for Modes.same_mark Modes.open_unless Modes.open_byte Modes.if_marked Modes.first_open Modes.faulty Modes.one_more Modes.count_faulty Modes.ground_if Modes.ground_marked Modes.undeclared Modes.undeclared_atom Modes.undeclared_literal Modes.undeclared_body Modes.undeclared_clause Modes.undeclared_clauses Modes.undeclared_in_sheet Modes.undeclared_in_goal Modes.open_input Modes.open_output Modes.unless_fault Modes.walk_on Modes.in_both Modes.call_walk Modes.literal_walk Modes.body_fault Modes.start_known Modes.head_fault Modes.clause_fault Modes.clauses_fault Modes.sheet_fault Modes.walk_fault Modes.goal_fault Answers.bytes_then Answers.spelt Answers.place_of Answers.numbered Answers.bytes_of Answers.is_anonymous Answers.all_anonymous Answers.values_from Answers.line Machine.pending Machine.first_for Machine.next_for Machine.next_of Machine.topmost Machine.nth_clause Machine.clause_at Machine.gone Machine.equated Machine.moved_on Machine.laid Machine.tried Machine.on_top Machine.called Machine.worked Machine.worked_on Machine.outcome Machine.step Machine.start Machine.pile_after Runs.is_empty Runs.is_answer Runs.line_with Runs.next_line Runs.is_there Runs.tries_with Runs.tries_first Runs.goes_deeper Runs.first_end Runs.one_if Runs.advance Runs.advanced Runs.end_or Runs.run_from Runs.begun Runs.run Runs.reported Runs.over_goal Runs.in_range Traces.records_from Traces.records_of Traces.facts_of Traces.facts_in Traces.fact_clauses Traces.with_facts Traces.if_over Traces.unseen Traces.records_fault Traces.trace_fault Traces.over_trace Traces.over_traced Traces.traced_outcome Substitution.resolve Substitution.is_bound Unification.differ_variables Unification.differ_mixed Unification.or_else Unification.differ Unification.bound Unification.rounds Unification.unify Buffers.digits Buffers.decimal Lines.line_of Reports.report_line
starred = refl
