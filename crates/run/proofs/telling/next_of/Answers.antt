use mathlib.Core.Path.{sym, ◌∙◌}
use Rattle.run.proofs.AnswerLaws.{next-over, next-answer, next-deep, next-step}
use Rattle.run.proofs.telling.next_of.Goals as goal

pub returns-then-is_answer : goal.returns-then-is_answer
returns-then-is_answer c = λ nodes w. next-answer c.args.wanted c.args.answers c.args.left c.ended.ensures w c.in_default.is (sym c.if-is_answer.true ∙ c.is_answer.ensures nodes w)

pub returns-then-goes_deeper : goal.returns-then-goes_deeper
returns-then-goes_deeper c = λ nodes w. next-deep c.args.wanted c.args.answers c.args.left c.ended.ensures w c.in_default.is (sym c.if-is_answer.false ∙ c.is_answer.ensures nodes w) (sym c.if-goes_deeper.true ∙ c.goes_deeper.ensures nodes w)

pub returns-in-Some : goal.returns-in-Some
returns-in-Some c = λ nodes w. next-over c.args.wanted c.args.answers c.args.left c.ended.ensures w c.in-Some.is

pub returns : goal.returns
returns c = λ nodes w. next-step c.args.wanted c.args.answers c.args.left c.ended.ensures w c.in_default.is (sym c.if-is_answer.false ∙ c.is_answer.ensures nodes w) (sym c.if-goes_deeper.false ∙ c.goes_deeper.ensures nodes w)
