-- The digits of n / 10, then the last digit. The measure is n.

use Rattle.words.proofs.buffers.+append_decimal.Given as goal

abbrev pub decreases-append_decimal : goal.decreases-append_decimal
decreases-append_decimal l = l.n
