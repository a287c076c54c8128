-- What stands in a text: every name is the text's bytes at its place, every variable's number and every list are within the limits of RULES.
use Rattle.std.specs.Prelude.{ℕ, ◌+◌, ◌≤◌, ◌<◌, ◌≡◌, List, [], ◌∷◌, length}
use Rattle.syntax.specs.Terms.{Term, Terms, variable, compound, nil, cons, arity, Atom, term_of, Literal, Body, call, equation, truth, falsity, either, done}
use Rattle.syntax.specs.Terms.{also, Declaration, Clause, Sheet, Goal}
use Rattle.syntax.specs.Tokens.{spelling}
use Rattle.syntax.specs.Limits.{variables, arguments, word_bytes}

-- a name is the text's bytes at its place, no more of them than a name may have
pub record NameAt (s : List ℕ) (at : ℕ) (name : List ℕ) : Type 0 where
  pub spelt : name ≡ spelling s at (length name)
  pub inside : at + length name ≤ length s
  pub short : length name ≤ word_bytes

-- the numbers of a term's variables are below the most that a clause has
mutual
  pub data Numbered : Term → Type 0 where
    numbered_variable : {n at : ℕ} → n < variables → Numbered (variable n at)
    numbered_compound : {at : ℕ} {f : List ℕ} {ts : Terms} → AllNumbered ts → Numbered (compound at f ts)

  pub data AllNumbered : Terms → Type 0 where
    numbered_nil : AllNumbered nil
    numbered_cons : {t : Term} {ts : Terms} → Numbered t → AllNumbered ts → AllNumbered (cons t ts)

mutual
  pub data TermSpelt (s : List ℕ) : Term → Type 0 where
    stands_variable : {n at : ℕ} → n < variables → TermSpelt s (variable n at)
    stands_compound : {at : ℕ} {f : List ℕ} {ts : Terms} → NameAt s at f → arity ts ≤ arguments → TermsSpelt s ts → TermSpelt s (compound at f ts)

  pub data TermsSpelt (s : List ℕ) : Terms → Type 0 where
    stand_nil : TermsSpelt s nil
    stand_cons : {t : Term} {ts : Terms} → TermSpelt s t → TermsSpelt s ts → TermsSpelt s (cons t ts)

mutual
  pub data LiteralSpelt (s : List ℕ) : Literal → Type 0 where
    call_stands : {a : Atom} → TermSpelt s (term_of a) → LiteralSpelt s (call a)
    equation_stands : {t u : Term} → TermSpelt s t → TermSpelt s u → LiteralSpelt s (equation t u)
    truth_stands : LiteralSpelt s truth
    falsity_stands : LiteralSpelt s falsity
    either_stands : {y z : Body} → BodySpelt s y → BodySpelt s z → LiteralSpelt s (either y z)

  pub data BodySpelt (s : List ℕ) : Body → Type 0 where
    done_stands : BodySpelt s done
    also_stands : {l : Literal} {b : Body} → LiteralSpelt s l → BodySpelt s b → BodySpelt s (also l b)

pub record ClauseSpelt (s : List ℕ) (c : Clause) : Type 0 where
  pub head : TermSpelt s (term_of c.head)
  pub body : BodySpelt s c.body

pub data ClausesSpelt (s : List ℕ) : List Clause → Type 0 where
  no_clauses : ClausesSpelt s []
  clause_stands : {c : Clause} {cs : List Clause} → ClauseSpelt s c → ClausesSpelt s cs → ClausesSpelt s (c ∷ cs)

pub record DeclarationSpelt (s : List ℕ) (d : Declaration) : Type 0 where
  pub name : NameAt s d.at d.name
  pub few : length d.marks ≤ arguments

pub data DeclarationsSpelt (s : List ℕ) : List Declaration → Type 0 where
  no_declarations : DeclarationsSpelt s []
  declaration_stands : {d : Declaration} {ds : List Declaration}
      → DeclarationSpelt s d
      → DeclarationsSpelt s ds
      → DeclarationsSpelt s (d ∷ ds)

pub record SheetSpelt (s : List ℕ) (sh : Sheet) : Type 0 where
  pub declarations : DeclarationsSpelt s sh.declarations
  pub clauses : ClausesSpelt s sh.clauses

-- a goal stands in its own text
abbrev pub GoalSpelt : List ℕ → Goal → Type 0
GoalSpelt s g = BodySpelt s g.body
