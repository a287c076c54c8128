-- What the functions promise: bytes appended, and what is still to be spelt.
use Rattle.std.specs.Prelude.{ℕ, min, ◌+◌, ◌*◌, ◌<◌, ◌≤◌, ◌^◌, ◌≡◌, Bool, cond, List, [], ◌∷◌, ◌++◌, length, get_or}
use Rattle.syntax.specs.Limits.{variables}
use Rattle.syntax.specs.Words.{first_name}
use Rattle.run_layout.specs.Regions.{copies, places, deepest, open_size}
use Rattle.syntax.specs.Quote.{bytes}
use Rattle.syntax.specs.Spans.{names_from}
use Rattle.words.specs.Buffers.{Appended}
use Rattle.machine.specs.Substitution.{Variable, RTerm, var, Binding, resolve}
use Rattle.machine.specs.Answers.{Piece, unbound, numbered, bytes_of}
use Rattle.run_layout.specs.Nodes.{Symbol, Node, term_at}
use Rattle.run_layout.specs.State.{variable_of, bindings, Store}
use Rattle.run_layout.specs.SymbolNames.{SymbolsSpelt}
use Rattle.answers.specs.Words.{Named, Numbers, Rows, left_to_spell, depth}
use Rattle.answers.specs.declared.Solution.{Solution}

-- A cell's number, before any pieces.
pub record VariableNumbered (met : List Variable) (x : ℕ) (numbers : List ℕ) (r : ℕ) : Type 0 where
  pub met_after : List Variable
  pub numbers_after : Numbers numbers met_after
  pub is : (ps : List Piece) → bytes_of met (unbound (variable_of x) ∷ ps) ≡ numbered r (bytes_of met_after ps)

-- What is written: a text up to a position, and the table of the numbers that its variables have.
pub record Written : Type 0 where
  pub numbers : List ℕ
  pub out : List ℕ
  pub at : ℕ

-- a table of numbers, and a text up to a position
abbrev pub written : List ℕ → List ℕ → ℕ → Written
written numbers out at = record { numbers = numbers; out = out; at = at }

-- Bytes are appended, and with what the pieces that are left give they are the whole.
pub record SpeltSoFar (whole : List ℕ) (before after : Written) (ps : List Piece) : Type 0 where
  pub words : List ℕ
  pub put : Appended before.out before.at words after.out after.at
  pub met : List Variable
  pub numbers_are : Numbers after.numbers met
  pub is : whole ≡ words ++ bytes_of met ps

-- ---- the walk

-- the bindings of a solution
abbrev pub bindings_of : List Symbol → ℕ → Solution → List Binding
bindings_of ss n sol = bindings ss sol.nodes.now sol.state.now n

-- the names of its variables
abbrev pub names_of : Solution → List (List ℕ)
names_of sol = names_from sol.goal.now sol.names.now 0 sol.count

-- The table numbers some variables.
pub record SomeNumbers (numbers : List ℕ) : Type 0 where
  pub met : List Variable
  pub numbers_are : Numbers numbers met

-- The same, and positions fit.
pub record Counting (numbers : List ℕ) (at : ℕ) : Type 0 where
  pub met : List Variable
  pub numbers_are : Numbers numbers met
  pub near : at + 100 < 2 ^ 64

-- A stack of so many words, or of a row for each bracket that can be open at once.
abbrev pub Ample : List ℕ → ℕ → Type 0
Ample stack words = min (deepest * open_size) words ≤ length stack

-- A term at p, a name or an unbound variable, with a stack that has room for one more row where the term opens a bracket.
pub record Heading (ss : List Symbol) (b : List Binding) (sol : Solution) (stack : List ℕ) (p c height : ℕ) : Type 0 where
  pub node : Node ss sol.nodes.now p
  pub copy : c < copies
  pub small : length sol.nodes.now ≤ places
  pub names : SymbolsSpelt ss sol.symbols.now sol.sheet.now sol.goal.now
  pub free : get_or sol.nodes.now p 0 < first_name → resolve b (term_at ss sol.nodes.now p c) ≡ term_at ss sol.nodes.now p c
  pub rows : Rows ss sol.nodes.now b stack height
  pub shallow : depth (resolve b (term_at ss sol.nodes.now p c)) + height ≤ deepest
  pub room : Ample stack (height * open_size + open_size)

pub record SomeHeading (sol : Solution) (stack : List ℕ) (p c height : ℕ) : Type 0 where
  pub ss : List Symbol
  pub b : List Binding
  pub is : Heading ss b sol stack p c height

-- The words mean a store, the symbols are spelt, and the rows stand.
pub record Setting (ss : List Symbol) (n : ℕ) (sol : Solution) (stack : List ℕ) (height : ℕ) : Type 0 where
  pub store : Store ss sol.nodes.now sol.state.now n
  pub names : SymbolsSpelt ss sol.symbols.now sol.sheet.now sol.goal.now
  pub rows : Rows ss sol.nodes.now (bindings_of ss n sol) stack height

-- and a term at p is next
pub record Facing (ss : List Symbol) (n : ℕ) (sol : Solution) (stack : List ℕ) (p c height : ℕ) : Type 0 where
  pub setting : Setting ss n sol stack height
  pub node : Node ss sol.nodes.now p
  pub copy : c < copies
  pub shallow : depth (resolve (bindings_of ss n sol) (term_at ss sol.nodes.now p c)) + height ≤ deepest
  pub room : Ample stack (height * open_size + open_size)

pub record SomeFacing (sol : Solution) (stack : List ℕ) (p c height : ℕ) : Type 0 where
  pub ss : List Symbol
  pub n : ℕ
  pub is : Facing ss n sol stack p c height

pub record SomeSetting (sol : Solution) (stack : List ℕ) (height : ℕ) : Type 0 where
  pub ss : List Symbol
  pub n : ℕ
  pub is : Setting ss n sol stack height

-- Where a walk is: what is written, and a stack of so many rows.
pub record Walk : Type 0 where
  pub text : Written
  pub stack : List ℕ
  pub height : ℕ

-- the same, and a stack of so many rows
abbrev pub walked : List ℕ → List ℕ → List ℕ → ℕ → ℕ → Walk
walked numbers stack out at height = record { text = written numbers out at; stack = stack; height = height }

-- Bytes are appended, and the rest is on the stack.
pub record Spelling (ss : List Symbol) (nodes : List ℕ) (b : List Binding) (whole : List ℕ) (before : Written) (after : Walk) (rest : List Piece) : Type 0 where
  pub told : SpeltSoFar whole before after.text (left_to_spell ss nodes b after.stack after.height rest)
  pub rows : Rows ss nodes b after.stack after.height

-- All is spelt, or the limit is passed, as it is by the whole; the table numbers some variables either way.
pub record SpeltToLimit (limit : ℕ) (whole : List ℕ) (before after : Written) (rest : List Piece) : Type 0 where
  pub done : after.at ≤ limit → SpeltSoFar whole before after rest
  pub over : limit < after.at → limit < before.at + length whole
  pub numbers_are : SomeNumbers after.numbers

-- an open bracket, or a comma
abbrev pub separator_of : Bool → ℕ
separator_of more = cond more 44 40

-- ---- the goal's variables

-- the value of the goal's variable i
abbrev pub value_in : List Binding → ℕ → RTerm
value_in b i = resolve b (var (record { copy = 0; number = i }))

-- the goal's variable i, whose value opens at most so many brackets at once as a value can
pub record Valued (ss : List Symbol) (n : ℕ) (sol : Solution) (stack : List ℕ) (i : ℕ) : Type 0 where
  pub setting : Setting ss n sol stack 0
  pub low : i < variables
  pub shallow : depth (value_in (bindings_of ss n sol) i) ≤ deepest

pub record SomeValued (sol : Solution) (stack : List ℕ) (i : ℕ) : Type 0 where
  pub ss : List Symbol
  pub n : ℕ
  pub is : Valued ss n sol stack i

-- what stands before a variable: nothing before the first
abbrev pub gap : Bool → List ℕ
gap more = cond more (bytes ", ") []

-- all of the goal's variables
pub record Values (ss : List Symbol) (n : ℕ) (sol : Solution) (stack : List ℕ) : Type 0 where
  pub setting : Setting ss n sol stack 0
  pub named : Named sol.goal.now sol.names.now sol.count
  pub shallow : (i : ℕ) → i < sol.count → depth (value_in (bindings_of ss n sol) i) ≤ deepest

pub record SomeValues (sol : Solution) (stack : List ℕ) : Type 0 where
  pub ss : List Symbol
  pub n : ℕ
  pub is : Values ss n sol stack

-- The whole stands in the buffer, or the limit is passed, as it is by the whole.
pub record Lined (limit : ℕ) (whole old : List ℕ) (at : ℕ) (new : List ℕ) (next : ℕ) : Type 0 where
  pub done : next ≤ limit → Appended old at whole new next
  pub over : limit < next → limit < at + length whole
