-- `parse::declarations::read_declared` meets its contract: each way out is a law of `MarkLaws`. Assumes nothing.
use Rattle.std.proofs.lemmas.Result.{err_from_is_err_and}
use Rattle.parse.proofs.Starts.{kind-ne, kind-not_ne}
use Rattle.parse.proofs.MarkLaws.{declared-wrong, declared-fault, declared-standing, declared-stop, declared-asked, declared-end}
use native.Mathlib.Omega.{arith}
use Rattle.parse.proofs.declarations.read_declared.Goals as goal

pub returns-then-ne : goal.returns-then-ne
returns-then-ne c = declared-wrong c.args.s.now c.args.st c.args.table.now c.args.n c.requires.cursor_inside c.wrong.result (kind-ne c.if-ne.ensures) c.wrong.ensures

pub returns-in_err-r : goal.returns-in_err-r
returns-in_err-r c =
    let p = err_from_is_err_and c.from_residual.result c.from_residual.ensures.1 in
    rw (p.1, p.2) (declared-fault c.args.s.now c.args.st c.args.table.now c.args.n c.requires.cursor_inside c.next-past.result (kind-not_ne c.if-ne.ensures) c.next-past.ensures _ c.in_err-r.ensures)

pub returns-then-ne-2 : goal.returns-then-ne-2
returns-then-ne-2 c = declared-stop c.args.s.now c.args.st c.args.table.now c.args.n c.requires.cursor_inside c.next-past.result (kind-not_ne c.if-ne.ensures) c.next-past.ensures _ c.in_ok-r.ensures c.wrong-then-ne-2.result (kind-ne c.if-ne-2.ensures) c.wrong-then-ne-2.ensures

pub next-end-requires : goal.next-end-requires
next-end-requires c = declared-standing c.args.s.now c.args.st c.args.table.now c.args.n c.requires.cursor_inside c.next-past.result (kind-not_ne c.if-ne.ensures) c.next-past.ensures _ c.in_ok-r.ensures

pub put_three-requires : goal.put_three-requires
put_three-requires c = (declared-asked c.args.s.now c.args.st c.args.table.now c.args.n c.requires.cursor_inside c.next-past.result (kind-not_ne c.if-ne.ensures) c.next-past.ensures _ c.in_ok-r.ensures c.requires.declaration_size_in_bounds).0

pub put-requires : goal.put-requires
put-requires c = (omega (arith, c.put_three.auto.table, c.requires.declaration_size_in_bounds), (declared-asked c.args.s.now c.args.st c.args.table.now c.args.n c.requires.cursor_inside c.next-past.result (kind-not_ne c.if-ne.ensures) c.next-past.ensures _ c.in_ok-r.ensures c.requires.declaration_size_in_bounds).1)

pub returns : goal.returns
returns c = declared-end c.args.s.now c.args.st c.args.table.now c.args.n c.requires.cursor_inside c.next-past.result (kind-not_ne c.if-ne.ensures) c.next-past.ensures _ c.in_ok-r.ensures c.next-end.result c.put_three.new.table c.put.new.table c.requires.declaration_size_in_bounds (kind-not_ne c.if-ne-2.ensures) c.next-end.ensures c.put_three.ensures c.put.ensures
