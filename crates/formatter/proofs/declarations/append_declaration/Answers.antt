-- `formatter::declarations::append_declaration` meets its contract. Assumes nothing.
use native.Mathlib.Omega.{arith}
use mathlib.Core.Path.{ap}
use Rattle.syntax.specs.declared.Entry.{Entry}
use Rattle.formatter.proofs.TermLaws.{part_short}
use Rattle.formatter.proofs.DeclarationLaws.{says, name_inside, packed, few_marks, marks_near, declaration_written}
use Rattle.formatter.proofs.declarations.append_declaration.Goals as goal

pub overflow_mul-i : goal.overflow_mul-i
overflow_mul-i c = omega (arith, (says c.requires.stands).inside)

pub overflow_add-i : goal.overflow_add-i
overflow_add-i c = omega (arith, (says c.requires.stands).inside)

pub word_at-marks-requires : goal.word_at-marks-requires
word_at-marks-requires c = (says c.requires.stands).inside

pub append_part-past_name-requires : goal.append_part-past_name-requires
append_part-past_name-requires c =
    let e = c.name_of-name.ensures in
    let k = name_inside (ap (λ (x : Entry). x.at) e) (ap (λ (x : Entry). x.len) e) (ap (λ (x : Entry). x.arguments) e) c.word_at-marks.ensures c.requires.stands in
    (k.0, omega (arith, k.1, c.append_all-past_mode.ensures.past, c.requires.low.1))

pub append_marks-past_marks-requires-clause-few : goal.append_marks-past_marks-requires-clause-few
append_marks-past_marks-requires-clause-few c =
    let e = c.name_of-name.ensures in
    let k = name_inside (ap (λ (x : Entry). x.at) e) (ap (λ (x : Entry). x.len) e) (ap (λ (x : Entry). x.arguments) e) c.word_at-marks.ensures c.requires.stands in
    let few = few_marks (ap (λ (x : Entry). x.at) e) (ap (λ (x : Entry). x.len) e) (ap (λ (x : Entry). x.arguments) e) c.word_at-marks.ensures c.requires.stands in
    (few, omega (arith, k.1, c.append_all-past_mode.ensures.past, c.append_part-past_name.ensures.past, part_short c.args.declarations.text.now c.name_of-name.result.at c.name_of-name.result.len, c.requires.low.1))

pub append_marks-past_marks-requires-clause-packed : goal.append_marks-past_marks-requires-clause-packed
append_marks-past_marks-requires-clause-packed c =
    let e = c.name_of-name.ensures in
    let k = packed (ap (λ (x : Entry). x.at) e) (ap (λ (x : Entry). x.len) e) (ap (λ (x : Entry). x.arguments) e) c.word_at-marks.ensures c.requires.stands in
    (c.requires.stands.declaration.marks, k.0, k.1)

pub append_all-requires : goal.append_all-requires
append_all-requires c =
    let e = c.name_of-name.ensures in
    let k = name_inside (ap (λ (x : Entry). x.at) e) (ap (λ (x : Entry). x.len) e) (ap (λ (x : Entry). x.arguments) e) c.word_at-marks.ensures c.requires.stands in
    let near = marks_near (ap (λ (x : Entry). x.at) e) (ap (λ (x : Entry). x.len) e) (ap (λ (x : Entry). x.arguments) e) c.word_at-marks.ensures c.append_marks-past_marks.ensures c.requires.stands in
    omega (arith, near, k.1, c.append_all-past_mode.ensures.past, c.append_part-past_name.ensures.past, part_short c.args.declarations.text.now c.name_of-name.result.at c.name_of-name.result.len, c.requires.low.1)

pub returns : goal.returns
returns c =
    let e = c.name_of-name.ensures in
    declaration_written (ap (λ (x : Entry). x.at) e) (ap (λ (x : Entry). x.len) e) (ap (λ (x : Entry). x.arguments) e) c.word_at-marks.ensures c.append_marks-past_marks.ensures
    c.append_all-past_mode.ensures c.append_part-past_name.ensures c.append_all.ensures
