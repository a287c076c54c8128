use Rattle.std.proofs.Common.{rules, arith}
use Rattle.lex.proofs.ScanningLaws.{ahead-first, ahead-blank, ahead-percent, ahead-feed, ahead-comment, ahead-end, ahead-token}
use Rattle.lex.proofs.scanning.skip.Goals as goal
use Rattle.lex.proofs.scanning.skip.Goals.{in-Blank, in-Percent+else-s-at-2+then-s-at-eq-LINE_FEED}

pub token-init : goal.token-init
token-init c = search (ahead-first, rules)

pub comment-init : goal.comment-init
comment-init c = search (ahead-percent, rules)

pub comment-preserved : goal.comment-preserved
comment-preserved c = search (ahead-comment, rules)

pub token-smaller : goal.token-smaller
token-smaller c = elim c.match-class.branch [ in-Blank w ↦ omega arith | in-Percent+else-s-at-2+then-s-at-eq-LINE_FEED w ↦ omega arith ]

pub token-preserved : goal.token-preserved
token-preserved c =
    elim c.match-class.branch [
      | in-Blank w ↦ (omega arith, rw w.at-is (search (ahead-blank, rules)))
      | in-Percent+else-s-at-2+then-s-at-eq-LINE_FEED w ↦ (omega arith, rw w.at-is (search (ahead-feed, rules)))
    ]

pub returns-then-s-at : goal.returns-then-s-at
returns-then-s-at c = search (ahead-end, rules)

pub returns-then-s-at-2 : goal.returns-then-s-at-2
returns-then-s-at-2 c = search (ahead-end, rules)

pub returns-in_default : goal.returns-in_default
returns-in_default c = search (ahead-token, rules)
