-- What the functions on the arguments of two clauses are given, and what they promise.
use Rattle.std.specs.Prelude.{ℕ, ◌+◌, ◌≡◌, Bool, true, false, List, length}
use Rattle.std.proofs.Math.Option.{Option, some}
use Rattle.syntax.specs.Terms.{Term, Terms, arity, Mark}
use Rattle.syntax.specs.Words.{marks_number}
use Rattle.mode_rules.specs.Modes.{list_of}
use Rattle.machine.specs.Substitution.{copied, Binding}
use Rattle.machine.specs.Unification.{unify}
use Rattle.machine.specs.Determinacy.{inputs_by, joined}
use Rattle.run_layout.specs.Nodes.{Symbol, Node, TermLoaded, TermsLoaded, loaded_all}
use Rattle.run_layout.specs.State.{bindings, Store, WithinCopies}
use Rattle.bindings.specs.Scratch.{Roomy}
use Rattle.run_layout.specs.Rooms.{Clean}
use Rattle.unify.specs.Turns.{answered}
use Rattle.unify.specs.declared.solve.UnifyAnswer.{UnifyAnswer}

-- the copies of the two clauses, "with variables kept apart"
abbrev pub left_copy : ℕ
left_copy = 1

abbrev pub right_copy : ℕ
right_copy = 2

-- ---- one pair of arguments

-- the bindings that make two arguments equal, where they are looked at; else those that there are
unfoldable pub unify_if : Bool → List Binding → Term → Term → Option (List Binding)
unify_if true b t u = unify b (copied left_copy t) (copied right_copy u)
unify_if false b t u = some b

-- Two arguments stand in the table, with n bindings of the two copies; scratch words with room, no cell marked.
pub record Paired (nodes state scratch : List ℕ) (p q n : ℕ) : Type 0 where
  pub ss : List Symbol
  pub left : Node ss nodes p
  pub right : Node ss nodes q
  pub store : Store ss nodes state n
  pub within : WithinCopies right_copy state n
  pub roomy : Roomy scratch
  pub clean : Clean scratch

-- the words after two arguments were looked at or passed over
pub record InputUnified {nodes before scratch : List ℕ} {p q n : ℕ} (w : Paired nodes before scratch p q n) (after later : List ℕ) (b : Bool)
    (r : UnifyAnswer) : Type 0 where
  pub store : Store w.ss nodes after r.trail
  pub within : WithinCopies right_copy after r.trail
  pub clean : Clean later
  pub long : length later ≡ length scratch
  pub answer : (t u : Term) → TermLoaded w.ss nodes p t → TermLoaded w.ss nodes q u → unify_if b (bindings w.ss nodes before n) t u
      ≡ answered r.equal (bindings w.ss nodes after r.trail)

-- ---- the arguments of two heads

-- Arguments of two clauses from p to stop and from q on, as many, with n bindings; and the marks for them in one number.
pub record Joinable (nodes state scratch : List ℕ) (p stop q marks n : ℕ) : Type 0 where
  pub ss : List Symbol
  pub left : Terms
  pub right : Terms
  pub left_stand : TermsLoaded ss nodes p left
  pub right_stand : TermsLoaded ss nodes q right
  pub ends : stop ≡ p + length (loaded_all ss left)
  pub alike : arity left ≡ arity right
  pub listed : List Mark
  pub number : marks ≡ marks_number listed
  pub store : Store ss nodes state n
  pub within : WithinCopies right_copy state n
  pub roomy : Roomy scratch
  pub clean : Clean scratch

-- The words then mean the bindings that join those marked +, or there are none.
pub record InputsJoined {nodes before scratch : List ℕ} {p stop q marks n : ℕ} (w : Joinable nodes before scratch p stop q marks n) (after later : List ℕ)
    (r : UnifyAnswer) : Type 0 where
  pub store : Store w.ss nodes after r.trail
  pub clean : Clean later
  pub long : length later ≡ length scratch
  pub answer : joined (bindings w.ss nodes before n) (inputs_by w.listed (list_of w.left)) (inputs_by w.listed (list_of w.right))
      ≡ answered r.equal (bindings w.ss nodes after r.trail)
