-- The limits of RULES: the most that may be of each thing.
use Rattle.std.specs.Prelude.{ℕ, ◌+◌}

-- ---- the table of "How a sheet is spelt"

-- bytes of a sheet
abbrev pub sheet_bytes : ℕ
sheet_bytes = 16384

-- bytes of a goal
abbrev pub goal_bytes : ℕ
goal_bytes = 1024

-- bytes of a name, a variable or a numeral
abbrev pub word_bytes : ℕ
word_bytes = 31

-- the lengths that such a word can have, 0 among them: a length is packed below this
abbrev pub lengths : ℕ
lengths = word_bytes + 1

-- brackets open at once
abbrev pub brackets : ℕ
brackets = 16

-- arguments or marks in a list
abbrev pub arguments : ℕ
arguments = 8

-- variables in a clause or goal (REQUESTS (viii): "A clause or goal may have 64.")
abbrev pub variables : ℕ
variables = 64

-- literals in a body or goal
abbrev pub literals : ℕ
literals = 16

-- declarations in a sheet
abbrev pub declarations : ℕ
declarations = 64

-- clauses in a sheet
abbrev pub clauses : ℕ
clauses = 256

-- ---- traces (REQUESTS (ix): "more than 192 kind 1 records or 16,384 bytes")

-- bytes of a trace
abbrev pub trace_bytes : ℕ
trace_bytes = 16384

-- records of kind 1, each of which is a fact
abbrev pub most_facts : ℕ
most_facts = 192

-- ---- runs

-- calls on a path: a call at this path goes no deeper
abbrev pub longest_path : ℕ
longest_path = 255

-- steps that a run may be allowed
abbrev pub most_steps : ℕ
most_steps = 65536

-- answers that may be wanted
abbrev pub most_answers : ℕ
most_answers = 64
