-- `pilvaust::reading::read_goal_text` meets its contract: each way out is a law of `ReadingEntries`. Assumes nothing.
use Prim.Native.Nat.{◌≤◌}
use mathlib.Core.Path.{sym, ◌∙◌}
use lib.ListN.{length}
use borrow.Author.Tests.{ltb-true, ltb-false}
use Rattle.syntax.specs.Limits.{goal_bytes}
use Rattle.pilvaust.proofs.ReadingEntries.{goal-long, goal-faults, goal_accepted}
use native.Mathlib.Omega.{arith}
use Rattle.pilvaust.proofs.reading.read_goal_text.Goals as goal

pub returns-then-is_too_long : goal.returns-then-is_too_long
returns-then-is_too_long c = goal-long c.args.goal.now c.args.table.now c.fault_in.result (ltb-true goal_bytes (length c.args.goal.now) (sym c.is_too_long.ensures ∙ c.if-is_too_long.true)) c.fault_in.ensures

pub read_goal-requires : goal.read_goal-requires
read_goal-requires c = let short : length c.args.goal.now ≤ goal_bytes = (ltb-false goal_bytes (length c.args.goal.now) (sym c.is_too_long.ensures ∙ c.if-is_too_long.false)) in
    record { s_len_bound = omega arith; variables_in_bounds = (omega (arith, c.requires.0), c.requires.1) }

pub returns-in-Err : goal.returns-in-Err
returns-in-Err c = goal-faults c.args.goal.now c.read_goal.new.table (ltb-false goal_bytes (length c.args.goal.now) (sym c.is_too_long.ensures ∙ c.if-is_too_long.false)) _ c.in-Err.ensures _ c.fault_in-in-Err.ensures

pub returns-in-Ok : goal.returns-in-Ok
returns-in-Ok c = goal_accepted c.args.goal.now c.read_goal.new.table (ltb-false goal_bytes (length c.args.goal.now) (sym c.is_too_long.ensures ∙ c.if-is_too_long.false)) _ c.in-Ok.ensures (omega (arith, c.read_goal.auto.table, c.requires.0))
