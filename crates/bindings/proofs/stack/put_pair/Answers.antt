use Rattle.std.proofs.Common.{ℕ, ◌+◌, List, ap, ◌∙◌}
use Rattle.run_layout.specs.Regions.{side_size, pair_of}
use Rattle.bindings.specs.Scratch.{stack_side_words, pair_words}
use Rattle.bindings.proofs.stack.put_pair.Goals as goal

pub returns : goal.returns
unfolding pair_words
returns c = c.put_side-2.ensures ∙ ap (λ (s : List ℕ). stack_side_words s (pair_of c.args.k + side_size) c.args.r) c.put_side.ensures
