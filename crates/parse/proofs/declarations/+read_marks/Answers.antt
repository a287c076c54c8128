use mathlib.Core.Path.{sym, ◌∙◌}
use Rattle.std.proofs.lemmas.Result.{err_from_is_err_and}
use Rattle.parse.proofs.MarkLaws.{marks-none, marks-full, mark-small, marks-wrong, marks-last, marks-behind, marks-small, marks-more}
use Rattle.parse.proofs.declarations.+read_marks.Goals as goal

pub returns-in_default : goal.returns-in_default
returns-in_default t c = let args = c.args in marks-none args.s.now args.k args.st c.wrong.result (sym c.mark_number.ensures ∙ c.in_default.is) c.wrong.ensures

pub returns-then-k-eq0 : goal.returns-then-k-eq0
returns-then-k-eq0 t c = let args = c.args in marks-full args.s.now args.k args.st c.in-Some.m (sym c.mark_number.ensures ∙ c.in-Some.is) c.beyond.result c.if-k-eq0.true c.beyond.ensures

pub returns-in_err-more-in-Comma : goal.returns-in_err-more-in-Comma
returns-in_err-more-in-Comma t c = let args = c.args in
    let p = err_from_is_err_and c.from_residual.result c.from_residual.ensures.1 in
    rw (p.1, p.2) (marks-behind args.s.now args.k args.st c.in-Some.m (sym c.mark_number.ensures ∙ c.in-Some.is) c.if-k-eq0.false c.next-after.result c.requires.cursor_inside c.next-after.ensures c.next-behind.result c.requires.k_le_arguments c.in-Comma.is c.next-behind.ensures _ c.in_err-more-in-Comma.ensures)

pub marked-requires : goal.marked-requires
marked-requires t c = let args = c.args in record { marks_bound = marks-small args.s.now args.k args.st c.in-Some.m (sym c.mark_number.ensures ∙ c.in-Some.is) c.if-k-eq0.false c.next-after.result c.requires.cursor_inside c.next-after.ensures c.next-behind.result c.requires.k_le_arguments c.in-Comma.is c.next-behind.ensures _ c.in_ok-more-in-Comma.ensures; m_lt_mark_numbers = mark-small args.s.now args.k args.st c.in-Some.m (sym c.mark_number.ensures ∙ c.in-Some.is) }

pub returns-in_ok-more-in-Comma : goal.returns-in_ok-more-in-Comma
returns-in_ok-more-in-Comma t c = let args = c.args in marks-more args.s.now args.k args.st c.in-Some.m (sym c.mark_number.ensures ∙ c.in-Some.is) c.if-k-eq0.false c.next-after.result c.requires.cursor_inside c.next-after.ensures c.next-behind.result c.requires.k_le_arguments c.in-Comma.is c.next-behind.ensures _ c.in_ok-more-in-Comma.ensures c.marked.result c.marked.ensures

pub returns-in-Close : goal.returns-in-Close
returns-in-Close t c = let args = c.args in marks-last args.s.now args.k args.st c.in-Some.m (sym c.mark_number.ensures ∙ c.in-Some.is) c.if-k-eq0.false c.next-after.result c.requires.cursor_inside c.next-after.ensures c.next.result c.in-Close.is c.next.ensures

pub returns-in_default-kind : goal.returns-in_default-kind
returns-in_default-kind t c = let args = c.args in marks-wrong args.s.now args.k args.st c.in-Some.m (sym c.mark_number.ensures ∙ c.in-Some.is) c.if-k-eq0.false c.next-after.result c.requires.cursor_inside c.next-after.ensures c.wrong-in_default-kind.result c.in_default-kind.not-Comma c.in_default-kind.not-Close c.wrong-in_default-kind.ensures
