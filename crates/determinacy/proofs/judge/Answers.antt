-- `determinacy::judge` meets its contract: each way out is a law of `JudgeLaws`. Assumes nothing.
use Rattle.determinacy.proofs.JudgeLaws.{clauses-in, bracket-judged, pairs-judged}
use Rattle.determinacy.proofs.judge.Goals as goal

pub bracketed_clause-requires : goal.bracketed_clause-requires
bracketed_clause-requires c = clauses-in c.requires

pub returns-in-Some : goal.returns-in-Some
returns-in-Some c = λ w. bracket-judged c.bracketed_clause.ensures w c.in-Some.is

pub judge_pairs-requires : goal.judge_pairs-requires
judge_pairs-requires c = c.requires

pub returns : goal.returns
returns c = λ w. pairs-judged c.bracketed_clause.ensures w c.in_default.is c.judge_pairs.ensures
