-- A reader that counts a literal.
use Rattle.std.specs.Prelude.{◌+◌}
use Rattle.syntax.specs.Limits.{literals}
use Rattle.syntax.specs.declared.ParserState.{ParserState}

-- the state with one literal more
abbrev pub with_literal : ParserState → ParserState
with_literal st = record { token = st.token; count = st.count; literals = st.literals + 1 }
