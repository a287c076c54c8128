use native.Mathlib.Omega.{arith}
use Rattle.std.proofs.lemmas.Result.{err_from_is_err_and}
use Rattle.parse.proofs.Starts.{kind-eq, kind-not_eq, kind-ne, kind-not_ne}
use Rattle.parse.proofs.BodyLaws.{body-none, body-fault, body-ready, body-few, body-behind, body_more, body-last, body-wrong}
use Rattle.parse.proofs.SideLaws.{literal-plain, literal-deep, literal-sides, side-ready, side-fault, side-asked, side-given, left-ready, left-fault, right-ready, right-fault, close-asked, bracket-given, no_end}
use Rattle.parse.proofs.clauses.+read_body_read_literal_read_side_read_sides.Goals as goal

pub read_body-returns-then-k-eq0 : goal.read_body-returns-then-k-eq0
read_body-returns-then-k-eq0 t c = let args = c.args in body-none args.left args.s.now args.end args.k args.st args.table.now args.n c.wrong.result c.if-k-eq0.true c.wrong.ensures

pub read_body-returns-in_err-r : goal.read_body-returns-in_err-r
read_body-returns-in_err-r t c = let args = c.args in
    let p = err_from_is_err_and c.from_residual.result c.from_residual.ensures.1 in
    rw (p.1, p.2) (body-fault args.left args.end args.k args.s.now args.st args.table.now args.n c.read_literal.new.table c.if-k-eq0.false _ c.in_err-r.ensures)

pub read_body-read_body-requires : goal.read_body-read_body-requires
read_body-read_body-requires t c = let args = c.args in (omega arith, (body-ready args.left args.end args.k args.s.now args.st args.table.now args.n c.read_literal.new.table c.if-k-eq0.false _ c.requires.room_to_read c.in_ok-r.ensures c.next-behind.result (kind-eq c.if-eq.ensures) c.next-behind.ensures c.read_literal.auto.table, c.requires.fact))

pub read_body-returns-in_err-more : goal.read_body-returns-in_err-more
read_body-returns-in_err-more t c = let args = c.args in
    let p = err_from_is_err_and c.from_residual-in_err-more.result c.from_residual-in_err-more.ensures.1 in
    rw (p.1, p.2) (body-behind args.left args.end args.k args.s.now args.st args.table.now args.n c.read_literal.new.table c.if-k-eq0.false _ c.requires.room_to_read c.in_ok-r.ensures c.read_body.new.table c.next-behind.result _ (kind-eq c.if-eq.ensures) c.next-behind.ensures c.in_err-more.ensures)

pub read_body-counted-requires : goal.read_body-counted-requires
read_body-counted-requires t c = let args = c.args in body-few args.left args.end args.k args.s.now args.st args.table.now args.n c.read_literal.new.table c.if-k-eq0.false _ c.requires.room_to_read c.in_ok-r.ensures c.read_body.new.table c.next-behind.result _ c.next-behind.ensures c.in_ok-more.ensures

pub read_body-returns-then-eq : goal.read_body-returns-then-eq
read_body-returns-then-eq t c = let args = c.args in body_more args.left args.end args.k args.s.now args.st args.table.now args.n c.read_literal.new.table c.if-k-eq0.false _ c.requires.room_to_read c.in_ok-r.ensures c.read_body.new.table c.next-behind.result _ c.counted.result (kind-eq c.if-eq.ensures) c.next-behind.ensures c.in_ok-more.ensures c.counted.ensures

pub read_body-returns-then-eq-2 : goal.read_body-returns-then-eq-2
read_body-returns-then-eq-2 t c = let args = c.args in body-last args.left args.end args.k args.s.now args.st args.table.now args.n c.read_literal.new.table c.if-k-eq0.false _ c.requires.room_to_read c.in_ok-r.ensures c.requires.fact c.next.result (kind-not_eq c.if-eq.ensures) (kind-eq c.if-eq-2.ensures) c.next.ensures

pub read_body-returns : goal.read_body-returns
read_body-returns t c = let args = c.args in body-wrong args.left args.end args.k args.s.now args.st args.table.now args.n c.read_literal.new.table c.if-k-eq0.false _ c.requires.room_to_read c.in_ok-r.ensures c.wrong-2.result (kind-not_eq c.if-eq.ensures) (kind-not_eq c.if-eq-2.ensures) c.wrong-2.ensures

pub read_literal-returns-then-ne : goal.read_literal-returns-then-ne
read_literal-returns-then-ne t c = let args = c.args in literal-plain args.left args.s.now args.st args.table.now c.read_plain.new.table args.n c.read_plain.result (kind-ne c.if-ne.ensures) c.read_plain.ensures

pub read_literal-returns-then-left-eq0 : goal.read_literal-returns-then-left-eq0
read_literal-returns-then-left-eq0 t c = let args = c.args in literal-deep args.left args.s.now args.st args.table.now args.table.now args.n c.beyond.result (kind-not_ne c.if-ne.ensures) c.if-left-eq0.true c.beyond.ensures

pub read_literal-read_sides-requires : goal.read_literal-read_sides-requires
read_literal-read_sides-requires t c = (omega arith, (c.requires, kind-not_ne c.if-ne.ensures))

pub read_literal-returns : goal.read_literal-returns
read_literal-returns t c = let args = c.args in literal-sides args.left args.s.now args.st args.table.now c.read_sides.new.table args.n c.read_sides.result (kind-not_ne c.if-ne.ensures) c.if-left-eq0.false c.read_sides.ensures

pub read_side-read_body-requires : goal.read_side-read_body-requires
read_side-read_body-requires t c = let args = c.args in (omega arith, (side-ready args.left args.end args.kind c.requires.room_to_read c.requires.fact.1, c.requires.fact.0))

pub read_side-returns-in_err-r : goal.read_side-returns-in_err-r
read_side-returns-in_err-r t c = let args = c.args in
    let p = err_from_is_err_and c.from_residual.result c.from_residual.ensures.1 in
    rw (p.1, p.2) (side-fault args.left args.end args.kind c.requires.room_to_read c.requires.fact.1 c.read_body.new.table _ c.in_err-r.ensures)

pub read_side-open_side-requires : goal.read_side-open_side-requires
read_side-open_side-requires t c = let args = c.args in side-asked args.left args.end args.kind c.requires.room_to_read c.requires.fact.1 c.read_body.new.table _ c.read_body.auto.table c.in_ok-r.ensures

pub read_side-returns : goal.read_side-returns
read_side-returns t c = let args = c.args in side-given args.left args.end args.kind c.requires.room_to_read c.requires.fact.1 c.read_body.new.table _ c.read_body.auto.table c.in_ok-r.ensures c.open_side.new.table c.open_side.result c.open_side.ensures.0 c.open_side.ensures.1

pub read_sides-read_side-requires : goal.read_sides-read_side-requires
read_sides-read_side-requires t c = let args = c.args in (omega arith, (left-ready args.left c.requires.room_to_read c.requires.kind_value c.next-past.ensures, (no_end.0, omega arith)))

pub read_sides-returns-in_err-y : goal.read_sides-returns-in_err-y
read_sides-returns-in_err-y t c = let args = c.args in
    let p = err_from_is_err_and c.from_residual.result c.from_residual.ensures.1 in
    rw (p.1, p.2) (left-fault args.left c.requires.room_to_read c.requires.kind_value c.next-past.ensures c.read_side.new.table _ c.in_err-y.ensures)

pub read_sides-read_side-requires-2 : goal.read_sides-read_side-requires-2
read_sides-read_side-requires-2 t c = let args = c.args in (omega arith, (right-ready args.left c.requires.room_to_read c.requires.kind_value c.next-past.ensures c.read_side.new.table _ c.read_side.auto.table c.in_ok-y.ensures, (no_end.1.0, omega arith)))

pub read_sides-returns-in_err-z : goal.read_sides-returns-in_err-z
read_sides-returns-in_err-z t c = let args = c.args in
    let p = err_from_is_err_and c.from_residual-in_err-z.result c.from_residual-in_err-z.ensures.1 in
    rw (p.1, p.2) (right-fault args.left c.requires.room_to_read c.requires.kind_value c.next-past.ensures c.read_side.new.table _ c.read_side.auto.table c.in_ok-y.ensures c.read_side-2.new.table _ c.in_err-z.ensures)

pub read_sides-close_sides-requires : goal.read_sides-close_sides-requires
read_sides-close_sides-requires t c = let args = c.args in close-asked args.left c.requires.room_to_read c.requires.kind_value c.next-past.ensures c.read_side.new.table _ c.read_side.auto.table c.in_ok-y.ensures c.read_side-2.new.table _ c.read_side-2.auto.table c.in_ok-z.ensures

pub read_sides-returns : goal.read_sides-returns
read_sides-returns t c = let args = c.args in bracket-given args.left c.requires.room_to_read c.requires.kind_value c.next-past.ensures c.read_side.new.table _ c.read_side.auto.table c.in_ok-y.ensures c.read_side-2.new.table _ c.read_side-2.auto.table c.in_ok-z.ensures c.close_sides.new.table c.close_sides.ensures.1 c.close_sides.result c.close_sides.ensures.0
