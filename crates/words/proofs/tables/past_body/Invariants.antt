-- `words::tables::past_body` meets its contract. The invariant: what is left of the body ends where the whole does. Assumes nothing.
use Prim.Native.Nat.{◌+◌}
use lib.ListN.{length}
use Rattle.syntax.specs.Terms.{Body}
use Rattle.syntax.specs.Words.{body_words}
use Rattle.words.specs.Items.{ItemsAt}
use Rattle.words.proofs.Items.{ItemsOn}
use Rattle.words.proofs.tables.past_body.Given as goal

abbrev pub invariant-loop : goal.invariant-loop
invariant-loop l =
    (b : Body) → ItemsAt l.table l.p l.items b → ItemsOn l.table l.at l.counter l.items (l.p + length (body_words b))
