use Prim.Native.Nat.{◌+◌, ◌-◌}
use Rattle.run.proofs.GoingLaws.{Going}
use Rattle.run.proofs.turns.turn.Given as goal

abbrev pub invariant-loop-kind : goal.invariant-loop-kind
invariant-loop-kind l =
    Going l.loaded (record { state = l.initial.state; scratch = l.initial.scratch; text = l.initial.text }) l.fn.carried l.k l.wanted
    (record { state = l.state; scratch = l.scratch; text = l.text })
    (record { height = l.pile.height; trail = l.pile.trail; answers = l.answers; steps = l.steps; at = l.at; kind = l.fn.carried.kind })

abbrev pub decreases-loop-kind : goal.decreases-loop-kind
decreases-loop-kind l =
    l.fn.carried.steps + l.k - l.steps
