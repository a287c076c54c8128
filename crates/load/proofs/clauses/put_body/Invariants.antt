-- `load::clauses::put_body` meets its contract. The invariant: what is left of the body makes the whole (`BodyAhead`). Assumes nothing.
use Rattle.syntax.specs.Terms.{Body}
use Rattle.load.specs.Search.{Meant}
use Rattle.load.specs.ClausesRecords.{put_body}
use Rattle.load.specs.ClausesPlaces.{BodyTo}
use Rattle.load.proofs.Turns.{BodyAhead}
use Rattle.load.proofs.clauses.put_body.Given as goal

abbrev pub invariant-loop-item : goal.invariant-loop-item
invariant-loop-item l =
    (m : Meant) (b : Body) → BodyTo m b l.table l.items l.heads l.initial.code l.fn.at
    → BodyAhead m (put_body m.ss m.sh l.fn.at.node b l.initial.code l.fn.at.literal) l.table l._item l.items l.heads l.code (record { read = l.read; node = l.node; literal = l.literal })
