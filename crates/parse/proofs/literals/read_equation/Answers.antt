-- `parse::literals::read_equation` meets its contract: each way out is a law of `LiteralLaws`. Assumes nothing.
use mathlib.Core.Path.{refl}
use Rattle.std.proofs.lemmas.Result.{err_from_is_err_and}
use Rattle.syntax.specs.Terms.{Term}
use Rattle.syntax.specs.Reading.{read_term, after_term, literal_with}
use Rattle.parse.specs.Gives.{cursor_of, term_form}
use Rattle.parse.proofs.Starts.{kind-eq, kind-not_eq}
use Rattle.parse.proofs.LiteralLaws.{first-fault, first-ready, first-equation, equation-wrong}
use Rattle.parse.proofs.literals.read_equation.Goals as goal

pub returns-in_err-r : goal.returns-in_err-r
unfolding literal_with
returns-in_err-r c =
    let p = err_from_is_err_and c.from_residual.result c.from_residual.ensures.1 in
    rw (p.1, p.2) (first-fault c.requires term_form (read_term c.args.left c.args.s.now (cursor_of c.args.s.now c.args.table.now c.args.st)) (after_term c.args.left c.args.s.now) c.read_term.new.table _ c.in_err-r.ensures)

pub read_right-requires : goal.read_right-requires
read_right-requires c =
    let both = first-ready c.requires (λ (t : Term). t) (read_term c.args.left c.args.s.now (cursor_of c.args.s.now c.args.table.now c.args.st)) c.read_term.new.table _ c.read_term.auto.table c.in_ok-r.ensures (kind-eq c.if-eq.ensures) in
    record { room_to_read = both.0; kind_value = both.1 }

pub returns-then-eq : goal.returns-then-eq
unfolding literal_with after_term
returns-then-eq c = first-equation c.requires (λ (t : Term). t) (read_term c.args.left c.args.s.now (cursor_of c.args.s.now c.args.table.now c.args.st)) c.read_term.new.table _ c.read_term.auto.table c.in_ok-r.ensures c.args.left (after_term c.args.left c.args.s.now) (λ t end. refl) c.read_right.new.table c.read_right.result (kind-eq c.if-eq.ensures) c.read_right.ensures

pub returns : goal.returns
returns c = equation-wrong c.requires c.args.left c.read_term.new.table _ c.read_term.auto.table c.in_ok-r.ensures c.wrong.result (kind-not_eq c.if-eq.ensures) c.wrong.ensures
