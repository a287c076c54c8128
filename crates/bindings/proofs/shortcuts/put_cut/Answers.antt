use Rattle.bindings.proofs.ShortcutsLaws.{cutting-again}
use Rattle.bindings.proofs.shortcuts.put_cut.Goals as goal

pub returns-in-Some : goal.returns-in-Some
returns-in-Some c = cutting-again c.args.scratch.now c.in-Some.j c.args.x c.args.y c.requires.0 c.in-Some.ensures.small c.requires.1.0 c.requires.1.1 c.in-Some.ensures c.write_cut.ensures
