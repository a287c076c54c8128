use Rattle.workings.proofs.DueLaws.{due-room, due-inside, not-a-bracket, side-takable, side-made, misfit}
use Rattle.workings.proofs.choices.take_named_side.Goals as goal

pub top_at-s-requires : goal.top_at-s-requires
top_at-s-requires c = due-room c.requires

pub word_at-requires : goal.word_at-requires
word_at-requires c = due-inside c.requires c.top_at-s.ensures

pub returns-then-word_at-ne-SPLIT_KIND : goal.returns-then-word_at-ne-SPLIT_KIND
returns-then-word_at-ne-SPLIT_KIND c = λ w. misfit w _ _ _ (not-a-bracket w c.top_at-s.ensures c.word_at.ensures c.if-word_at-ne-SPLIT_KIND.true c.args.right)

pub take_side-requires : goal.take_side-requires
take_side-requires c = side-takable c.requires c.top_at-s.ensures c.word_at.ensures c.if-word_at-ne-SPLIT_KIND.false

pub returns : goal.returns
returns c = λ w. side-made w c.top_at-s.ensures c.word_at.ensures c.if-word_at-ne-SPLIT_KIND.false _ _ _ _ c.take_side.ensures
