-- `parse::declarations::read_marks` meets its contract: each way out is a law of `MarkLaws`. Assumes nothing.

use Rattle.parse.proofs.declarations.+read_marks.Given as goal

abbrev pub decreases-read_marks : goal.decreases-read_marks
decreases-read_marks l = l.k
