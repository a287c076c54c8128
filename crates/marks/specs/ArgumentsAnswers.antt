-- The definition's answer as the code gives it.
use Rattle.std.specs.Prelude.{Option, Some, None}
use Rattle.std.proofs.Math.Option as maybe
use Rattle.std.proofs.Math.Option.{none, some}
use Rattle.mode_rules.specs.Modes.{OpenArgument}
use Rattle.marks.specs.declared.arguments.FirstOpen.{FirstOpen}

-- no open argument, or the first one
abbrev pub first_open_of : maybe.Option OpenArgument → Option FirstOpen
first_open_of none = None
first_open_of (some o) = Some (record { argument = o.argument; byte = o.byte })
