use Rattle.unify.proofs.Turning.{turn-done, turn-clash, turn_end}
use Rattle.unify.proofs.Safe.{turn-room, turn_inside, turn-walk, turn-pass, turn-met, safe-turn-done, safe-turn-clash, safe-turn-met}
use native.Mathlib.Omega.{arith}
use Rattle.unify.proofs.solve.next_turn.Goals as goal

pub overflow_mul-base : goal.overflow_mul-base
overflow_mul-base c = omega (arith, turn-room c.requires)

pub overflow_add-base : goal.overflow_add-base
overflow_add-base c = omega (arith, turn-room c.requires)

pub side_at-l-requires : goal.side_at-l-requires
side_at-l-requires c = omega (arith, turn-room c.requires)

pub overflow_add-base-2 : goal.overflow_add-base-2
overflow_add-base-2 c = omega (arith, turn-room c.requires)

pub side_at-r-requires : goal.side_at-r-requires
side_at-r-requires c = omega (arith, turn-room c.requires)

pub size_at-size-requires : goal.size_at-size-requires
size_at-size-requires c = (turn_inside c.requires c.side_at-l.ensures c.side_at-r.ensures).0

pub overflow_add-e : goal.overflow_add-e
overflow_add-e c = omega (arith, c.size_at-size.ensures, turn_inside c.requires c.side_at-l.ensures c.side_at-r.ensures)

pub walk_rows-found-requires : goal.walk_rows-found-requires
walk_rows-found-requires c = turn-walk c.requires c.side_at-l.ensures c.side_at-r.ensures c.size_at-size.ensures

pub pass-requires : goal.pass-requires
pass-requires c = turn-pass c.requires c.side_at-l.ensures c.side_at-r.ensures

pub meet-requires : goal.meet-requires
meet-requires c = turn-met c.requires c.side_at-l.ensures c.side_at-r.ensures c.size_at-size.ensures c.walk_rows-found.result c.walk_rows-found.ensures.walks c.in-Err-Met.is (rw c.in-Err-Met.is at c.in-Err-Met.field-0-is)

pub returns-in-Ok : goal.returns-in-Ok
returns-in-Ok c =
    record {
      means = λ g. turn-done g c.side_at-l.ensures c.side_at-r.ensures c.size_at-size.ensures c.walk_rows-found.result c.walk_rows-found.ensures.walks c.in-Ok.is c.pass.new.scratch c.pass.result c.pass.ensures.means;
      safe = λ s. safe-turn-done s c.side_at-l.ensures c.side_at-r.ensures c.pass.new.scratch c.pass.result c.pass.ensures.safe;
    }

pub returns-in-Err-Clash : goal.returns-in-Err-Clash
returns-in-Err-Clash c =
    record {
      means = λ g. turn-clash g c.side_at-l.ensures c.side_at-r.ensures c.size_at-size.ensures c.walk_rows-found.result c.walk_rows-found.ensures.walks c.in-Err-Clash.is (rw c.in-Err-Clash.is at c.in-Err-Clash.field-0-is);
      safe = λ s. safe-turn-clash s c.side_at-l.ensures c.side_at-r.ensures;
    }

pub returns-in-Err-Met : goal.returns-in-Err-Met
returns-in-Err-Met c =
    record {
      means = λ g. turn_end g c.side_at-l.ensures c.side_at-r.ensures c.size_at-size.ensures c.walk_rows-found.result c.walk_rows-found.ensures.walks c.walk_rows-found.ensures.variable c.in-Err-Met.is (rw c.in-Err-Met.is at c.in-Err-Met.field-0-is) c.meet.new.scratch c.meet.result c.meet.ensures.means;
      safe = λ s. safe-turn-met s c.side_at-l.ensures c.side_at-r.ensures c.size_at-size.ensures c.walk_rows-found.result c.walk_rows-found.ensures.walks c.in-Err-Met.is (rw c.in-Err-Met.is at c.in-Err-Met.field-0-is) c.meet.new.scratch c.meet.result c.meet.ensures.safe;
    }
