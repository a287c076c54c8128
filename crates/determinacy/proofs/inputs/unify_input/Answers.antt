-- `determinacy::inputs::unify_input` meets its contract. Assumes nothing.
use Rattle.determinacy.proofs.JoinLaws.{unifiable, meets-other, meets-input}
use Rattle.determinacy.proofs.inputs.unify_input.Goals as goal

pub returns-then-first_mark-ne-INPUT : goal.returns-then-first_mark-ne-INPUT
returns-then-first_mark-ne-INPUT c = λ w. meets-other c.args.args.marks c.first_mark.ensures c.if-first_mark-ne-INPUT.true w

pub unify-requires : goal.unify-requires
unify-requires c = unifiable c.requires

pub returns : goal.returns
returns c = λ w. meets-input c.args.args.marks c.first_mark.ensures c.if-first_mark-ne-INPUT.false c.unify.ensures w
