-- `load::next_clauses::next_for` meets its contract. Assumes nothing.
use Rattle.std.proofs.Common.{◌≡◌, get_or, arith, rules, tests}
use mathlib.Core.Path.{◌∙◌}
use Rattle.std.proofs.lemmas.Iterator.{first_from_Range}
use Rattle.run_layout.specs.Program.{head_at}
use Rattle.load.proofs.Seeking.{seek-first}
use Rattle.load.proofs.next_clauses.next_for.Goals as goal

pub returns : goal.returns
returns c =
    let nodes = c.args.heads.nodes.now in
    let code = c.args.code.now in
    c.unwrap_or.ensures ∙ seek-first nodes code c.args.word c.args.k c.args.heads.clauses c.requires.k_le_clauses c.find.result
    (first_from_Range _ _ _ _ (λ i. get_or nodes (head_at code i) 0 ≡ c.args.word) (λ i. get_or nodes (head_at code i) 0 ≡ c.args.word → ⊥) c.find.ensures.ran
    (λ x q k. grind (arith, tests))
    (λ x q k. (search rules, grind (arith, tests))))
