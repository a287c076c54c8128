-- Terms, atoms, literals, clauses, declarations, sheets and goals, as they are read (RULES, "How a sheet is spelt").
use Rattle.std.specs.Prelude.{ℕ, suc, ◌+◌, Bool, true, false, cond, ◌&&◌, List, [], ◌∷◌, eqb}
use Rattle.syntax.specs.Quote.{bytes}

-- A variable has its number in the clause and the byte where it stands. A name has the byte where it stands, its bytes and its arguments;
-- a numeral is a name of digits without arguments.
mutual
  pub data Term : Type 0 where
    variable : ℕ → ℕ → Term
    compound : ℕ → List ℕ → Terms → Term

  pub data Terms : Type 0 where
    nil : Terms
    cons : Term → Terms → Terms

abbrev pub arity : Terms → ℕ
arity nil = 0
arity (cons t ts) = suc (arity ts)

-- a name with its arguments: byte, bytes, arguments
pub record Atom : Type 0 where
  pub at : ℕ
  pub name : List ℕ
  pub args : Terms

abbrev pub term_of : Atom → Term
term_of a = compound a.at a.name a.args

mutual
  -- REQUESTS (i): "A literal may be a bracket holding two bodies with a semicolon between."
  pub data Literal : Type 0 where
    call : Atom → Literal
    equation : Term → Term → Literal
    truth : Literal
    falsity : Literal
    either : Body → Body → Literal

  -- literals from left to right
  pub data Body : Type 0 where
    done : Body
    also : Literal → Body → Body

-- How many literals a literal counts for: "the literals inside count towards 16 and carry the literal numbers, left to right; brackets themselves do
-- neither".
unfoldable mutual
  pub literals_in : Literal → ℕ
  literals_in (call a) = 1
  literals_in (equation t u) = 1
  literals_in truth = 1
  literals_in falsity = 1
  literals_in (either y z) = literals_of y + literals_of z

  pub literals_of : Body → ℕ
  literals_of done = 0
  literals_of (also l b) = literals_in l + literals_of b

-- the marks + - *
pub data Mark : Type 0 where
  input output free : Mark

pub record Declaration : Type 0 where
  pub at : ℕ
  pub name : List ℕ
  pub marks : List Mark

-- a clause, and how many variables it has
pub record Clause : Type 0 where
  pub head : Atom
  pub body : Body
  pub variables : ℕ

pub record Sheet : Type 0 where
  pub declarations : List Declaration
  pub clauses : List Clause

-- a goal, and the names of its variables by their numbers
pub record Goal : Type 0 where
  pub body : Body
  pub names : List (List ℕ)

-- the same bytes
unfoldable pub same_bytes : List ℕ → List ℕ → Bool
same_bytes [] [] = true
same_bytes [] (b ∷ bs) = false
same_bytes (a ∷ r) [] = false
same_bytes (a ∷ r) (b ∷ bs) = eqb a b && same_bytes r bs

-- whether two names or numerals are the same
abbrev pub same_name : List ℕ → List ℕ → Bool
same_name a b = same_bytes a b

-- a predicate is a name together with its number of arguments
abbrev pub same_predicate : List ℕ → ℕ → List ℕ → ℕ → Bool
same_predicate name m other n = eqb m n && same_name name other

-- the names `true`, `fail` and `mode`
abbrev pub true_name : List ℕ
true_name = bytes "true"

abbrev pub fail_name : List ℕ
fail_name = bytes "fail"

abbrev pub mode_name : List ℕ
mode_name = bytes "mode"

-- the predicate of a logger's records, `seen` with three arguments (REQUESTS (ix) and (x))
abbrev pub seen_name : List ℕ
seen_name = bytes "seen"

abbrev pub seen_arguments : ℕ
seen_arguments = 3

-- the bare atoms `true` and `fail` are truth and falsehood; every other atom is a call
unfoldable pub literal_of : Atom → Literal
literal_of a =
    cond (same_predicate a.name (arity a.args) true_name 0) truth
    (cond (same_predicate a.name (arity a.args) fail_name 0) falsity (call a))
