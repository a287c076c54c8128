use native.Mathlib.Omega.{arith}
use mathlib.Core.Path.{refl}
use Rattle.answers.proofs.WalkLaws.{turn-close, turn_inside, turn_end, turn_small, turn-facing, turn-spelt, top-room, counting-on}
use Rattle.answers.proofs.Solution.turn.Goals as goal

pub returns-then-place-row : goal.returns-then-place-row
returns-then-place-row c = let pre = c.requires.height_nonzero in let row = c.row_at-row.ensures in record { told = (λ ss n met rest s h. turn-close s pre.0 refl row.place row.last c.if-place-row.true met rest h c.append_byte-past.ensures); near = (omega (arith, c.append_byte-past.ensures.past), (omega (arith, c.append_byte-past.ensures.past), omega arith)) }

pub past-next-requires : goal.past-next-requires
past-next-requires c = let row = c.row_at-row.ensures in let inside = turn_inside c.requires.some_setting.is c.requires.height_nonzero.0 refl row.place row.last row.copy c.if-place-row.false in (omega arith, turn_end c.requires.some_setting.is c.requires.height_nonzero.0 refl row.place row.last row.copy c.if-place-row.false)

pub move_row-requires : goal.move_row-requires
move_row-requires c = let pre = c.requires in let row = c.row_at-row.ensures in (top-room pre.some_setting.is pre.height_nonzero.0 refl, omega (arith, c.past-next.ensures, turn_small pre.some_setting.is pre.height_nonzero.0 refl row.place row.last row.copy c.if-place-row.false))

pub append_term-requires : goal.append_term-requires
append_term-requires c = let pre = c.requires in let row = c.row_at-row.ensures in let append-byte2 = c.append_byte-past-2 in record { some_facing = record { ss = pre.some_setting.ss; n = pre.some_setting.n; is = turn-facing pre.some_setting.is pre.height_nonzero.0 refl row.place row.last row.copy c.if-place-row.false c.past-next.ensures c.move_row.ensures pre.height_nonzero.1.1.1 }; counting = counting-on pre.height_nonzero.1.0 pre.height_nonzero.1.1.0 (omega (arith, append-byte2.ensures.past)) (omega (arith, append-byte2.ensures.past)) }

pub returns : goal.returns
returns c = let pre = c.requires.height_nonzero in let row = c.row_at-row.ensures in let unequal = c.if-place-row.false in let append-byte2 = c.append_byte-past-2 in let append-term = c.append_term in let next = c.past-next.ensures in record { told = (λ ss n met rest s h. turn-spelt s pre.0 refl row.place row.last row.copy unequal next c.move_row.ensures met rest row.more c.separator-mark.ensures append-byte2.ensures (append-term.ensures.told ss n met rest (turn-facing s pre.0 refl row.place row.last row.copy unequal next c.move_row.ensures pre.1.1.1) h)); near = (omega (arith, append-byte2.ensures.past, append-term.ensures.near.0), (omega (arith, append-byte2.ensures.past, append-term.ensures.near.1.0), append-term.ensures.near.1.1)) }
