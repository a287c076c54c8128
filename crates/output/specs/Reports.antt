-- The line that ends a run (RULES, "Two programs and what they print"), as a list of bytes.
use Rattle.std.specs.Prelude.{ℕ, List, [], ◌∷◌, ◌++◌}
use Rattle.words.specs.Buffers.{number}
use Rattle.syntax.specs.Quote.{bytes}
use Rattle.syntax.specs.declared.RunEnd.{RunEnd}
use Rattle.syntax.specs.declared.RunEnd.TheVariants.{Wanted, Done, Steps, Full, Deep}

-- the kinds of end by number
abbrev pub kind_number : RunEnd → ℕ
kind_number Wanted = 0
kind_number Done = 1
kind_number Steps = 2
kind_number Full = 3
kind_number Deep = 4

-- how a run ended
abbrev pub kind_word : RunEnd → List ℕ
kind_word Wanted = bytes "wanted"
kind_word Done = bytes "done"
kind_word Steps = bytes "steps"
kind_word Full = bytes "full"
kind_word Deep = bytes "deep"

-- the line that ends a run: its kind, the answers written and the steps
unfoldable pub report_line : RunEnd → ℕ → ℕ → List ℕ
report_line kind answers steps = bytes "end " ++ kind_word kind ++ number answers ++ number steps ++ (10 ∷ [])
