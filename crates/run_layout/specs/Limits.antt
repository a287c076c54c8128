-- The limits of RULES on what was read: clauses in a sheet, literals in a body or goal, brackets open at once. And no side of a bracket is empty.
use Rattle.std.specs.Prelude.{ℕ, suc, ◌+◌, ◌*◌, ◌≤◌, List, [], ◌∷◌, length}
use Rattle.syntax.specs.Limits.{clauses, brackets, most_facts}
use Rattle.syntax.specs.Terms.{term_of, Literal, call, equation, truth, falsity, either, Body, done, also, Clause, Sheet, Goal}
use Rattle.syntax.specs.Words.{body_length, program_clauses}
use Rattle.machine.specs.Low.{BodyShort}
use Rattle.run_layout.specs.Regions.{most_items}
use Rattle.run_layout.specs.Nodes.{brackets_of}

abbrev mutual
  pub LiteralLimited : Literal → Type 0
  LiteralLimited (call a) = brackets_of (term_of a) ≤ brackets
  LiteralLimited (equation t u) = (brackets_of t ≤ brackets) × (brackets_of u ≤ brackets)
  LiteralLimited truth = Unit {0}
  LiteralLimited falsity = Unit {0}
  LiteralLimited (either y z) = EachLimited y × EachLimited z

  pub EachLimited : Body → Type 0
  EachLimited done = Unit {0}
  EachLimited (also x b) = LiteralLimited x × EachLimited b

pub record BodyLimited (b : Body) : Type 0 where
  pub each : EachLimited b
  pub short : BodyShort b

pub record ClauseLimited (cl : Clause) : Type 0 where
  pub head : brackets_of (term_of cl.head) ≤ brackets
  pub body : BodyLimited cl.body

abbrev pub ClausesLimited : List Clause → Type 0
ClausesLimited [] = Unit {0}
ClausesLimited (cl ∷ cls) = ClauseLimited cl × ClausesLimited cls

pub record SheetLimited (sh : Sheet) : Type 0 where
  pub few : length sh.clauses ≤ clauses
  pub clauses : ClausesLimited sh.clauses

-- the records of some clauses' bodies, each with its end
unfoldable pub body_records : List Clause → ℕ
body_records [] = 0
body_records (cl ∷ cls) = suc (body_length cl.body) + body_records cls

-- A program: a sheet with the facts of a trace behind its own clauses. A fact has an empty body: no record but its end.
pub record ProgramLimited (sh : Sheet) : Type 0 where
  pub few : length sh.clauses ≤ program_clauses
  pub room : body_records sh.clauses ≤ clauses * (most_items + 1) + most_facts
  pub clauses : ClausesLimited sh.clauses

abbrev pub GoalLimited : Goal → Type 0
GoalLimited g = BodyLimited g.body
