use Rattle.std.proofs.Common.{rules}
use Rattle.lex.proofs.PositionsLaws.{tokens-past, turn-first, turn, turn_inside, turn-stays, turn_last}
use Rattle.lex.proofs.positions.past_tokens.Goals as goal

pub returns-then-text-from : goal.returns-then-text-from
returns-then-text-from c = search (tokens-past, rules)

pub loop-init : goal.loop-init
loop-init c = search (turn-first, rules)

pub returns-then-past-at : goal.returns-then-past-at
returns-then-past-at c = search (turn-stays, rules)

pub loop-preserved : goal.loop-preserved
loop-preserved c = search (turn, turn_inside, rules)

pub returns : goal.returns
returns c = search (turn_last, rules)
