use Rattle.bindings.proofs.ShortcutsLaws.{far-second, far-done}
use Rattle.bindings.proofs.shortcuts.follow_far.Goals as goal

pub walk_on-left-requires : goal.walk_on-left-requires
walk_on-left-requires c = c.requires.left

pub walk_on-right-requires : goal.walk_on-right-requires
walk_on-right-requires c = far-second c.requires c.walk_on-left.ensures

pub returns : goal.returns
returns c = λ g. far-done g c.walk_on-left.ensures c.walk_on-right.ensures
