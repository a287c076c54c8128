use native.Mathlib.Omega.{arith}
use Rattle.unify.proofs.Safe.{turn_inside}
use Rattle.unify.proofs.Passing.{begins-safe, begins-means, places-walk, places-same, places-fit, places-fall, nexts-safe, nexts-means}
use Rattle.unify.proofs.solve.past_same.Goals as goal

pub size_at-requires : goal.size_at-requires
size_at-requires c = (turn_inside c.requires.given c.requires.left_is c.requires.right_is).0

pub loop-left-init : goal.loop-left-init
loop-left-init c = (begins-safe c.requires, begins-means c.requires)

pub walk_rows-requires : goal.walk_rows-requires
walk_rows-requires c = places-walk c.requires c.size_at.ensures c.loop-left.invariant.0

pub is_same-requires : goal.is_same-requires
is_same-requires c = places-same c.requires c.size_at.ensures c.loop-left.invariant.0 c.in-Err-Met.field-0-is c.in-Err-Met.ensures.walks

pub returns-then-not-is_same : goal.returns-then-not-is_same
returns-then-not-is_same c = record { means = c.loop-left.invariant.1; safe = c.loop-left.invariant.0 }

pub overflow_add-i : goal.overflow_add-i
overflow_add-i c = omega (arith, places-fit c.requires c.size_at.ensures c.loop-left.invariant.0 c.in-Err-Met.field-0-is c.in-Err-Met.ensures.walks)

pub overflow_add-j : goal.overflow_add-j
overflow_add-j c = omega (arith, places-fit c.requires c.size_at.ensures c.loop-left.invariant.0 c.in-Err-Met.field-0-is c.in-Err-Met.ensures.walks)

pub loop-left-smaller : goal.loop-left-smaller
loop-left-smaller c = places-fall c.requires c.size_at.ensures c.loop-left.invariant.0 c.in-Err-Met.field-0-is c.in-Err-Met.ensures.walks

pub loop-left-preserved : goal.loop-left-preserved
loop-left-preserved c = (
  nexts-safe c.requires c.size_at.ensures c.loop-left.invariant.0 c.in-Err-Met.field-0-is c.in-Err-Met.ensures.walks (c.is_same.ensures c.if-not-is_same.false),
  nexts-means c.requires c.size_at.ensures c.loop-left.invariant.0 c.in-Err-Met.field-0-is c.in-Err-Met.ensures.walks (c.is_same.ensures c.if-not-is_same.false) c.loop-left.invariant.1,
)

pub returns-in_default : goal.returns-in_default
returns-in_default c = record { means = c.loop-left.invariant.1; safe = c.loop-left.invariant.0 }

pub returns-in_default-2 : goal.returns-in_default-2
returns-in_default-2 c = record { means = c.loop-left.invariant.1; safe = c.loop-left.invariant.0 }
