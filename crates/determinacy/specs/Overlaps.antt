-- What the functions on two clauses of one predicate are given, and what they promise.
use Rattle.std.specs.Prelude.{ℕ, zero, suc, ◌≡◌, Bool, List, T, drop, Option as Told, Some, None}
use Rattle.std.proofs.Math.Option.{some}
use Rattle.syntax.specs.Terms.{Clause, Sheet, Goal}
use Rattle.syntax.specs.Words.{marks_number}
use Rattle.mode_rules.specs.Modes.{marks_for}
use Rattle.machine.specs.Machine.{is_for, clause_at}
use Rattle.machine.specs.Determinacy.{overlaps, first_overlap}
use Rattle.run_layout.specs.Nodes.{Symbol}
use Rattle.run_layout.specs.State.{Store}
use Rattle.run_layout.specs.Program.{Program}
use Rattle.bindings.specs.Scratch.{Roomy}
use Rattle.run_layout.specs.Rooms.{Clean}
use Rattle.determinacy.specs.Clauses.{told_number}

-- ---- the next clause of a predicate

-- a clause's number as the code tells it, where 0 says that there is none
unfoldable pub some_number : ℕ → Told ℕ
some_number zero = None
some_number (suc n) = Some (suc n)

-- ---- two clauses

-- no bindings, and no cell marked
pub record NothingBound (ss : List Symbol) (nodes state scratch : List ℕ) : Type 0 where
  pub store : Store ss nodes state 0
  pub roomy : Roomy scratch
  pub clean : Clean scratch

-- clause i of a loaded sheet, and the marks of its predicate in one number
pub record ClauseOf (nodes code state scratch : List ℕ) (i marks : ℕ) : Type 0 where
  pub ss : List Symbol
  pub sh : Sheet
  pub g : Goal
  pub program : Program ss sh g nodes code
  pub blank : NothingBound ss nodes state scratch
  pub clause : Clause
  pub there : clause_at sh i ≡ some clause
  pub number : marks ≡ marks_number (marks_for sh.declarations clause.head)

-- and clause j of the same predicate
pub record PairOf (nodes code state scratch : List ℕ) (i j marks : ℕ) : Type 0 where
  pub one : ClauseOf nodes code state scratch i marks
  pub other : Clause
  pub there : clause_at one.sh j ≡ some other
  pub predicate : T (is_for one.clause.head other)

-- the definition's answer, and no bindings again
pub record OverlapAnswer {nodes code before scratch : List ℕ} {i j marks : ℕ} (w : PairOf nodes code before scratch i j marks) (after later : List ℕ)
    (r : Bool) : Type 0 where
  pub is : r ≡ overlaps w.one.sh.declarations w.one.clause w.other
  pub blank : NothingBound w.one.ss nodes after later

-- the first clause behind clause i that overlaps with it, and no bindings again
pub record FirstBehind {nodes code before scratch : List ℕ} {i marks : ℕ} (w : ClauseOf nodes code before scratch i marks) (after later : List ℕ)
    (r : Told ℕ) : Type 0 where
  pub is : r ≡ told_number (first_overlap w.sh.declarations w.clause (suc i) (drop i w.sh.clauses))
  pub blank : NothingBound w.ss nodes after later
