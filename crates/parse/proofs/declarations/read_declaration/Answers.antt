-- `parse::declarations::read_declaration` meets its contract: each way out is a law of `MarkLaws`. Assumes nothing.
use Rattle.parse.proofs.Starts.{kind-eq, kind-not_eq}
use Rattle.parse.proofs.MarkLaws.{declaration-wrong, declaration-other, declaration-mode}
use Rattle.parse.proofs.declarations.read_declaration.Goals.{else-eq-via-then-eq+else-is_mode, else-eq-via-else-eq}
use Rattle.parse.proofs.declarations.read_declaration.Goals as goal

pub returns-then-is_mode : goal.returns-then-is_mode
returns-then-is_mode c = declaration-mode c.args.s.now c.args.st c.next-past.result c.args.table.now c.args.n c.next-past.ensures (kind-eq c.if-eq.ensures) c.is_mode.result c.is_mode.ensures c.next.result c.read_declared.new.table c.read_declared.result c.if-is_mode.true c.next.ensures c.read_declared.ensures

pub returns : goal.returns
returns c = elim c.else-eq.branch [
  | else-eq-via-then-eq+else-is_mode w ↦ declaration-other c.args.s.now c.args.st c.next-past.result c.args.table.now c.args.n c.next-past.ensures (kind-eq w.if-eq.ensures) w.is_mode.result w.is_mode.ensures c.wrong.result w.if-is_mode.false c.wrong.ensures
  | else-eq-via-else-eq w ↦ declaration-wrong c.args.s.now c.args.st c.next-past.result c.args.table.now c.args.n c.next-past.ensures c.wrong.result (kind-not_eq w.if-eq.ensures) c.wrong.ensures
]
