-- `marks::repeats::is_repeat` meets its contract: each way out is a law of `RepeatsLaws`. Assumes nothing.
use mathlib.Core.Path.{sym, ap, ◌∙◌}
use borrow.Author.Tests.{ne_eqb}
use Rattle.syntax.specs.declared.Entry.{Entry}
use Rattle.marks.proofs.RepeatsLaws.{earlier-at, name-inside, repeat-earlier, repeat-marked, repeat-true, repeat-fail}
use Rattle.marks.proofs.repeats.is_repeat.Goals as goal

pub name_of-name-requires : goal.name_of-name-requires
name_of-name-requires c = c.requires

pub name_bytes-bytes-requires : goal.name_bytes-bytes-requires
name_bytes-bytes-requires c = name-inside c.args.declarations.text.now c.args.declarations.words.now c.args.declarations.count c.args.declarations.stands c.args.i c.requires c.name_of-name.result.at c.name_of-name.result.len c.name_of-name.result.arguments (ap (λ (n : Entry). n.at) c.name_of-name.ensures) (ap (λ (n : Entry). n.len) c.name_of-name.ensures) (ap (λ (n : Entry). n.arguments) c.name_of-name.ensures)

pub invariant_of-earlier : goal.invariant_of-earlier
invariant_of-earlier c = record { stands = earlier-at c.args.declarations.text.now c.args.declarations.words.now c.args.declarations.count c.args.declarations.stands c.args.i c.requires }

pub returns-then-is_some : goal.returns-then-is_some
returns-then-is_some c = λ w. c.if-is_some.true ∙ repeat-earlier c.args.declarations.text.now c.args.declarations.words.now c.args.declarations.count w c.args.i c.requires c.name_of-name.result.at c.name_of-name.result.len c.name_of-name.result.arguments (ap (λ (n : Entry). n.at) c.name_of-name.ensures) (ap (λ (n : Entry). n.len) c.name_of-name.ensures) (ap (λ (n : Entry). n.arguments) c.name_of-name.ensures) c.name_bytes-bytes.result.now c.name_bytes-bytes.ensures c.find.result c.find.ensures (sym c.is_some.ensures ∙ c.if-is_some.true)

pub returns-else-name-eq0 : goal.returns-else-name-eq0
returns-else-name-eq0 c = λ w. ne_eqb _ _ c.if-name-eq0.false ∙ repeat-marked c.args.declarations.text.now c.args.declarations.words.now c.args.declarations.count w c.args.i c.requires c.name_of-name.result.at c.name_of-name.result.len c.name_of-name.result.arguments (ap (λ (n : Entry). n.at) c.name_of-name.ensures) (ap (λ (n : Entry). n.len) c.name_of-name.ensures) (ap (λ (n : Entry). n.arguments) c.name_of-name.ensures) c.name_bytes-bytes.result.now c.name_bytes-bytes.ensures c.find.result c.find.ensures (sym c.is_some.ensures ∙ c.if-is_some.false) c.if-name-eq0.false

pub is_true-requires : goal.is_true-requires
is_true-requires c = name-inside c.args.declarations.text.now c.args.declarations.words.now c.args.declarations.count c.args.declarations.stands c.args.i c.requires c.name_of-name.result.at c.name_of-name.result.len c.name_of-name.result.arguments (ap (λ (n : Entry). n.at) c.name_of-name.ensures) (ap (λ (n : Entry). n.len) c.name_of-name.ensures) (ap (λ (n : Entry). n.arguments) c.name_of-name.ensures)

pub returns-then-is_true : goal.returns-then-is_true
returns-then-is_true c = λ w. c.if-is_true.true ∙ repeat-true c.args.declarations.text.now c.args.declarations.words.now c.args.declarations.count w c.args.i c.requires c.name_of-name.result.at c.name_of-name.result.len c.name_of-name.result.arguments (ap (λ (n : Entry). n.at) c.name_of-name.ensures) (ap (λ (n : Entry). n.len) c.name_of-name.ensures) (ap (λ (n : Entry). n.arguments) c.name_of-name.ensures) c.name_bytes-bytes.result.now c.name_bytes-bytes.ensures c.find.result c.find.ensures (sym c.is_some.ensures ∙ c.if-is_some.false) c.if-name-eq0.true c.is_true.result c.is_true.ensures c.if-is_true.true

pub is_fail-requires : goal.is_fail-requires
is_fail-requires c = name-inside c.args.declarations.text.now c.args.declarations.words.now c.args.declarations.count c.args.declarations.stands c.args.i c.requires c.name_of-name.result.at c.name_of-name.result.len c.name_of-name.result.arguments (ap (λ (n : Entry). n.at) c.name_of-name.ensures) (ap (λ (n : Entry). n.len) c.name_of-name.ensures) (ap (λ (n : Entry). n.arguments) c.name_of-name.ensures)

pub returns-else-is_true : goal.returns-else-is_true
returns-else-is_true c = λ w. repeat-fail c.args.declarations.text.now c.args.declarations.words.now c.args.declarations.count w c.args.i c.requires c.name_of-name.result.at c.name_of-name.result.len c.name_of-name.result.arguments (ap (λ (n : Entry). n.at) c.name_of-name.ensures) (ap (λ (n : Entry). n.len) c.name_of-name.ensures) (ap (λ (n : Entry). n.arguments) c.name_of-name.ensures) c.name_bytes-bytes.result.now c.name_bytes-bytes.ensures c.find.result c.find.ensures (sym c.is_some.ensures ∙ c.if-is_some.false) c.if-name-eq0.true c.is_true.result c.is_true.ensures c.if-is_true.false c.is_fail.result c.is_fail.ensures
