use native.Mathlib.Omega.{arith}
use mathlib.Core.Path.{refl, ◌∙◌}
use Rattle.workings.proofs.LoopLaws.{startable, starts, goes, stops, answers, some-left, moves-on}
use Rattle.workings.proofs.replays.replay.Goals as goal

pub start-requires : goal.start-requires
start-requires c = startable c.requires

pub loop-next-init : goal.loop-next-init
loop-next-init c = record { state_long = c.start.auto.state; scratch_long = refl; on = λ w. starts w c.args.workings.now c.start.ensures }

pub next_move-requires : goal.next_move-requires
next_move-requires c = goes c.loop-next.invariant c.requires

pub returns-in-Answer : goal.returns-in-Answer
returns-in-Answer c = λ w. answers c.loop-next.invariant w _ _ _ c.next_move.ensures c.in-Answer.pile c.in-Answer.is

pub returns-in-Stopped : goal.returns-in-Stopped
returns-in-Stopped c = λ w. stops c.loop-next.invariant w _ _ _ c.next_move.ensures c.in-Stopped.bytes c.in-Stopped.is

pub overflow_sub-left : goal.overflow_sub-left
overflow_sub-left c = some-left c.loop-next.invariant c.requires _ _ _ c.next_move.ensures c.in-On.next c.in-On.is

pub loop-next-smaller : goal.loop-next-smaller
loop-next-smaller c = omega (arith, some-left c.loop-next.invariant c.requires _ _ _ c.next_move.ensures c.in-On.next c.in-On.is)

pub loop-next-preserved : goal.loop-next-preserved
loop-next-preserved c =
    record {
      state_long = c.next_move.auto.state ∙ c.loop-next.invariant.state_long;
      scratch_long = c.next_move.auto.scratch ∙ c.loop-next.invariant.scratch_long;
      on = λ w. moves-on c.loop-next.invariant w _ _ _ c.next_move.ensures c.in-On.next c.in-On.is;
    }
