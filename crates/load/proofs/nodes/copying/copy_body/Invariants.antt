-- `load::nodes::copying::copy_body` meets its contract. The invariant: what is left of the body gives the whole (`Going`). Assumes nothing.
use mathlib.Core.Path.{◌≡◌}
use lib.ListN.{length}
use Rattle.load.specs.Flat.{number_of, body_parsed, flat_words, flat_all, BodyHere}
use Rattle.load.proofs.Bodies.{Going}
use Rattle.load.proofs.nodes.copying.copy_body.Given as goal

abbrev pub invariant-loop-item : goal.invariant-loop-item
invariant-loop-item l =
    ((length l.nodes ≡ length l.initial.nodes) × ((w : BodyHere l.table l.from l.items) → Going l.table l.items (number_of l.source) l.initial.nodes l.at (flat_words (flat_all (number_of l.source) (body_parsed w.body))) l.nodes l.p l.q l._item))
