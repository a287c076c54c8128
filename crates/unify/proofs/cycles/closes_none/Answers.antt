use mathlib.Core.Logic.{inl, inr}
use Rattle.unify.proofs.CycleLaws.{plain-asks}
use Rattle.unify.proofs.cycles.closes_none.Goals as goal

pub is_plain-requires : goal.is_plain-requires
is_plain-requires c = plain-asks c.requires

pub returns-then-is_plain : goal.returns-then-is_plain
returns-then-is_plain c = λ g t. inl (c.is_plain.ensures c.if-is_plain.true)

pub returns : goal.returns
returns c = λ g t. inr (c.is_shallow.ensures g t)
