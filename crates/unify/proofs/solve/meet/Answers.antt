use native.Mathlib.Omega.{arith}
use Rattle.std.proofs.Common.{Ok}
use Rattle.unify.proofs.Turning.{met_turned}
use Rattle.unify.proofs.Safe.{met-inside, met-cross, safe-met}
use Rattle.unify.proofs.Passing.{crossed-pairable, crossed-turnable, falls-past, met-passed}
use Rattle.unify.proofs.solve.meet.Goals as goal

pub size_at-requires : goal.size_at-requires
size_at-requires c = (met-inside c.requires).0.0

pub overflow_add-i : goal.overflow_add-i
overflow_add-i c = omega (arith, c.size_at.ensures, met-inside c.requires)

pub size_at-requires-2 : goal.size_at-requires-2
size_at-requires-2 c = (met-inside c.requires).0.1

pub overflow_add-j : goal.overflow_add-j
overflow_add-j c = omega (arith, c.size_at-2.ensures, met-inside c.requires)

pub put_pair-requires : goal.put_pair-requires
put_pair-requires c = omega (arith, c.size_at-2.ensures, c.size_at.ensures, met-inside c.requires)

pub is_known-requires : goal.is_known-requires
is_known-requires c = crossed-pairable (met-cross c.requires c.size_at.ensures c.size_at-2.ensures c.put_pair.ensures)

pub pass_same-requires : goal.pass_same-requires
pass_same-requires c = (c.args.state.now, crossed-turnable (met-cross c.requires c.size_at.ensures c.size_at-2.ensures c.put_pair.ensures))

pub returns-then-is_known : goal.returns-then-is_known
returns-then-is_known c =
    record {
      means = λ g. met-passed g c.size_at.ensures c.size_at-2.ensures c.put_pair.ensures (c.is_known.ensures c.if-is_known.true) c.pass_same.new.scratch (c.pass_same.ensures.means c.args.state.now);
      safe = λ s. safe-met s c.size_at.ensures c.size_at-2.ensures c.put_pair.ensures c.pass_same.new.scratch (Ok c.args.h) (λ v. falls-past v (c.pass_same.ensures.safe c.args.state.now (crossed-turnable v)));
    }

pub cross-requires : goal.cross-requires
cross-requires c = met-cross c.requires c.size_at.ensures c.size_at-2.ensures c.put_pair.ensures

pub returns : goal.returns
returns c =
    record {
      means = λ g. met_turned g c.size_at.ensures c.size_at-2.ensures c.put_pair.ensures c.cross.new.scratch c.cross.result c.cross.ensures.means;
      safe = λ s. safe-met s c.size_at.ensures c.size_at-2.ensures c.put_pair.ensures c.cross.new.scratch c.cross.result c.cross.ensures.safe;
    }
