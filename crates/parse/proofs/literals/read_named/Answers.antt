-- `parse::literals::read_named` meets its contract: each way out is a law of `LiteralLaws`. Assumes nothing.
use mathlib.Core.Path.{refl}
use Rattle.std.proofs.lemmas.Result.{err_from_is_err_and}
use Rattle.syntax.specs.Terms.{term_of}
use Rattle.syntax.specs.Reading.{read_atom, after_atom, literal_with}
use Rattle.parse.specs.Gives.{cursor_of, atom_form}
use Rattle.parse.proofs.Starts.{kind-eq, kind-not_eq}
use Rattle.parse.proofs.LiteralLaws.{first-fault, first-ready, first-equation, alone-asked, named-alone}
use Rattle.parse.proofs.literals.read_named.Goals as goal

pub returns-in_err-r : goal.returns-in_err-r
unfolding literal_with
returns-in_err-r c =
    let p = err_from_is_err_and c.from_residual.result c.from_residual.ensures.1 in
    rw (p.1, p.2) (first-fault c.requires.room_to_read atom_form (read_atom c.args.left c.args.s.now (cursor_of c.args.s.now c.args.table.now c.args.st)) (after_atom c.args.left c.args.s.now) c.read_atom.new.table _ c.in_err-r.ensures)

pub read_right-requires : goal.read_right-requires
read_right-requires c =
    let both = first-ready c.requires.room_to_read term_of (read_atom c.args.left c.args.s.now (cursor_of c.args.s.now c.args.table.now c.args.st)) c.read_atom.new.table _ c.read_atom.auto.table c.in_ok-r.ensures (kind-eq c.if-eq.ensures) in
    record { room_to_read = both.0; kind_value = both.1 }

pub returns-then-eq : goal.returns-then-eq
unfolding literal_with after_atom
returns-then-eq c = first-equation c.requires.room_to_read term_of (read_atom c.args.left c.args.s.now (cursor_of c.args.s.now c.args.table.now c.args.st)) c.read_atom.new.table _ c.read_atom.auto.table c.in_ok-r.ensures c.args.left (after_atom c.args.left c.args.s.now) (λ a end. refl) c.read_right.new.table c.read_right.result (kind-eq c.if-eq.ensures) c.read_right.ensures

pub alone-requires : goal.alone-requires
alone-requires c = record {
  cursor_inside = c.requires.room_to_read.standing;
  n_bound = alone-asked c.requires.room_to_read c.args.left c.read_atom.new.table _ c.read_atom.auto.table c.in_ok-r.ensures;
}

pub returns : goal.returns
returns c = named-alone c.requires.room_to_read c.args.left c.read_atom.new.table _ c.read_atom.auto.table c.in_ok-r.ensures c.alone.new.table c.alone.result (kind-not_eq c.if-eq.ensures) c.alone.ensures
