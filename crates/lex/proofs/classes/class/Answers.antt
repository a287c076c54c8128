-- The table of the source is the rule's values at the 256 bytes, which antt computes once; the law `value` carries it to each byte.
use Rattle.std.proofs.Common.{refl, arith}
use Rattle.syntax.specs.Bytes.{class_of}
use Rattle.syntax.specs.declared.Class.TheVariants.{Nothing}
use Rattle.lex.specs.declared.classes.bytes.TheConstants.{CLASSES}
use Rattle.lex.proofs.Table.{value}
use Rattle.lex.proofs.classes.class.Goals as goal

pub returns : goal.returns
unfolding class_of
returns c = value class_of Nothing CLASSES 256 c.args.b refl (omega arith)
