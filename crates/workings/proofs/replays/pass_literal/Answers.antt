use Rattle.workings.proofs.LiteralLaws.{passable, not-passed, passed}
use Rattle.workings.proofs.replays.pass_literal.Goals as goal

pub go_through-requires : goal.go_through-requires
go_through-requires c = passable c.requires

pub returns-in_default : goal.returns-in_default
returns-in_default c = λ w. not-passed w _ _ _ c.go_through.ensures c.in_default.is

pub returns : goal.returns
returns c = λ w. passed w _ _ _ c.go_through.ensures c.in-Some.pile c.in-Some.is
