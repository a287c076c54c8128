use lib.Dec.{lit<}
use native.Mathlib.Omega.{arith}
use Rattle.std.proofs.lemmas.Result.{err_from_is_err_and}
use Rattle.parse.proofs.Starts.{kind-ne, kind-not_ne}
use Rattle.parse.proofs.TermLaws.{atom-bare, atom-deep, atom-fault, atom-list, list-ready, close-ready, term-name, arguments-full, arguments-fault, arguments-ready, arguments-few, arguments-behind, arguments-more, arguments-last, arguments-wrong}
use borrow.Author.Rules.{rules}
use Rattle.parse.proofs.terms.+read_arguments_read_atom_read_term.Goals as goal

pub read_arguments-returns-then-k-eq0 : goal.read_arguments-returns-then-k-eq0
read_arguments-returns-then-k-eq0 t c = let args = c.args in arguments-full args.left args.s.now args.k args.st args.table.now args.n c.full.result c.if-k-eq0.true c.full.ensures

pub read_arguments-returns-in_err-r : goal.read_arguments-returns-in_err-r
read_arguments-returns-in_err-r t c = let args = c.args in
    let p = err_from_is_err_and c.from_residual.result c.from_residual.ensures.1 in
    rw (p.1, p.2) (arguments-fault args.left args.s.now args.k args.st args.table.now c.read_term.new.table args.n c.if-k-eq0.false _ c.in_err-r.ensures)

pub read_arguments-read_arguments-requires : goal.read_arguments-read_arguments-requires
read_arguments-read_arguments-requires t c = let args = c.args in (omega arith, arguments-ready args.left args.s.now args.k args.st args.table.now c.read_term.new.table args.n c.if-k-eq0.false _ c.requires c.in_ok-r.ensures c.next-behind.result c.in-Comma.is c.next-behind.ensures c.read_term.auto.table)

pub read_arguments-returns-in_err-more-in-Comma : goal.read_arguments-returns-in_err-more-in-Comma
read_arguments-returns-in_err-more-in-Comma t c = let args = c.args in
    let p = err_from_is_err_and c.from_residual-in_err-more-in-Comma.result c.from_residual-in_err-more-in-Comma.ensures.1 in
    rw (p.1, p.2) (arguments-behind args.left args.s.now args.k args.st args.table.now c.read_term.new.table args.n c.if-k-eq0.false _ c.requires c.in_ok-r.ensures c.read_arguments.new.table c.next-behind.result _ c.in-Comma.is c.next-behind.ensures c.in_err-more-in-Comma.ensures)

pub read_arguments-counted-requires : goal.read_arguments-counted-requires
read_arguments-counted-requires t c = let args = c.args in (arguments-few args.left args.s.now args.k args.st args.table.now c.read_term.new.table args.n c.if-k-eq0.false _ c.requires c.in_ok-r.ensures c.read_arguments.new.table c.next-behind.result _ c.next-behind.ensures c.in_ok-more-in-Comma.ensures, lit< tt)

pub read_arguments-returns-in_ok-more-in-Comma : goal.read_arguments-returns-in_ok-more-in-Comma
read_arguments-returns-in_ok-more-in-Comma t c = let args = c.args in arguments-more args.left args.s.now args.k args.st args.table.now c.read_term.new.table args.n c.if-k-eq0.false _ c.requires c.in_ok-r.ensures c.read_arguments.new.table c.next-behind.result _ c.counted.result c.in-Comma.is c.next-behind.ensures c.in_ok-more-in-Comma.ensures c.counted.ensures

pub read_arguments-returns-in-Close : goal.read_arguments-returns-in-Close
read_arguments-returns-in-Close t c = let args = c.args in arguments-last args.left args.s.now args.k args.st args.table.now c.read_term.new.table args.n c.if-k-eq0.false _ c.requires c.in_ok-r.ensures c.next.result c.in-Close.is c.next.ensures

pub read_arguments-returns-in_default : goal.read_arguments-returns-in_default
read_arguments-returns-in_default t c = let args = c.args in arguments-wrong args.left args.s.now args.k args.st args.table.now c.read_term.new.table args.n c.if-k-eq0.false _ c.requires c.in_ok-r.ensures c.wrong.result c.in_default.not-Comma c.in_default.not-Close c.wrong.ensures

pub read_atom-returns-then-ne : goal.read_atom-returns-then-ne
read_atom-returns-then-ne t c = let args = c.args in atom-bare args.left args.s.now args.st args.table.now args.n c.requires.room_to_read c.leaf.result c.leaf.new.table c.next-past.result c.pack_functor-what.result c.next-past.ensures (kind-ne c.if-ne.ensures) c.pack_functor-what.ensures c.leaf.ensures

pub read_atom-returns-then-left-eq0 : goal.read_atom-returns-then-left-eq0
read_atom-returns-then-left-eq0 t c = let args = c.args in atom-deep args.left args.s.now args.st args.table.now args.n c.requires.room_to_read c.beyond.result c.next-past.result c.next-past.ensures (kind-not_ne c.if-ne.ensures) c.if-left-eq0.true c.beyond.ensures

pub read_atom-read_arguments-requires : goal.read_atom-read_arguments-requires
read_atom-read_arguments-requires t c = let args = c.args in (omega arith, list-ready args.left args.s.now args.st args.table.now args.table.now args.table.now args.n c.next-past.result c.next-inner.result c.requires.room_to_read c.requires.kind_value c.next-past.ensures (kind-not_ne c.if-ne.ensures) c.if-left-eq0.false c.next-inner.ensures)

pub read_atom-returns-in_err-r : goal.read_atom-returns-in_err-r
read_atom-returns-in_err-r t c = let args = c.args in
    let p = err_from_is_err_and c.from_residual.result c.from_residual.ensures.1 in
    rw (p.1, p.2) (atom-fault args.left args.s.now args.st args.table.now c.read_arguments.new.table c.read_arguments.new.table args.n c.next-past.result c.next-inner.result c.requires.room_to_read c.requires.kind_value c.next-past.ensures (kind-not_ne c.if-ne.ensures) c.if-left-eq0.false c.next-inner.ensures _ c.in_err-r.ensures)

pub read_atom-close-requires : goal.read_atom-close-requires
read_atom-close-requires t c = let args = c.args in close-ready args.left args.s.now args.st args.table.now c.read_arguments.new.table c.read_arguments.new.table args.n c.next-past.result c.next-inner.result c.requires.room_to_read c.requires.kind_value c.next-past.ensures (kind-not_ne c.if-ne.ensures) c.if-left-eq0.false c.next-inner.ensures _ c.in_ok-r.ensures c.read_arguments.auto.table

pub read_atom-returns : goal.read_atom-returns
read_atom-returns t c = let args = c.args in atom-list args.left args.s.now args.st args.table.now c.close.new.table c.read_arguments.new.table args.n c.next-past.result c.next-inner.result c.requires.room_to_read c.requires.kind_value c.next-past.ensures (kind-not_ne c.if-ne.ensures) c.if-left-eq0.false c.next-inner.ensures _ c.in_ok-r.ensures c.read_arguments.auto.table c.close.result c.close.ensures.0 c.close.ensures.1

pub read_term-returns-in-Name : goal.read_term-returns-in-Name
read_term-returns-in-Name t c = search (term-name, rules)
