-- `determinacy::brackets::has_bracket` meets its contract. The invariant: what is left of the body has a bracket exactly where the whole has. Assumes nothing.
use Prim.Native.Nat.{◌-◌}
use Rattle.syntax.specs.Terms.{Body}
use Rattle.words.specs.Items.{ItemsAt}
use Rattle.determinacy.proofs.BracketLaws.{BodyOn}
use Rattle.determinacy.proofs.brackets.has_bracket.Given as goal

abbrev pub invariant-loop : goal.invariant-loop
invariant-loop l =
    (b : Body) → ItemsAt l.table l.p l.items b → BodyOn l.table l.at (l.items - l.counter) b
