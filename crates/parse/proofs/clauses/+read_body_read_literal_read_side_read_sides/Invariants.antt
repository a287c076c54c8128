-- `parse::clauses::read_body`, `parse::clauses::read_literal`, `parse::clauses::read_side`, `parse::clauses::read_sides` meet their contracts: each way out is a law of `BodyLaws` or
-- `SideLaws`. Each has fewer brackets left than the one that called it, or stands lower among the four at as many. Assumes nothing.
use Prim.Native.Nat.{◌+◌, ◌*◌}
use Rattle.parse.proofs.clauses.+read_body_read_literal_read_side_read_sides.Given as goal

abbrev pub decreases-read_body : goal.decreases-read_body
decreases-read_body l = l.left * 30 + 1 + l.k

abbrev pub decreases-read_literal : goal.decreases-read_literal
decreases-read_literal l = l.left * 30

abbrev pub decreases-read_side : goal.decreases-read_side
decreases-read_side l = l.left * 30 + 28

abbrev pub decreases-read_sides : goal.decreases-read_sides
decreases-read_sides l = l.left * 30 + 29
