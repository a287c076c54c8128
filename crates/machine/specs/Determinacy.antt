-- At most one answer (REQUESTS (xii)): the test of a sheet, what it says, and what follows of its runs. The test is the simplest of source document
-- 004: clauses are mutually exclusive by the unification of their inputs with the call's (definitions 3 and 4), and then every predicate is
-- deterministic (theorem 1).
use Rattle.std.specs.Prelude.{ℕ, suc, ◌<◌, ◌≡◌, Bool, true, false, not, ◌&&◌, List, [], ◌∷◌, ◌⊎◌, T}
use Rattle.std.proofs.Math.Option.{Option, none, some}
use Rattle.syntax.specs.Terms.{Term, Atom, Literal, call, equation, truth, falsity, either, Body, done, also, Mark, input, Declaration, Clause, Sheet, Goal}
use Rattle.syntax.specs.Verdicts.{Outcome, refused, accepted, goal_outcome}
use Rattle.syntax.specs.declared.Refusal.{Refusal}
use Rattle.mode_rules.specs.Modes.{same_mark, marks_for, list_of}
use Rattle.mode_rules.specs.Checking.{checked_sheet}
use Rattle.words.specs.Feeds.{InLines}
use Rattle.machine.specs.Substitution.{copied, Binding}
use Rattle.machine.specs.Unification.{unify}
use Rattle.machine.specs.Unifiers.{Substitution, apply}
use Rattle.machine.specs.Machine.{is_for, clause_at}
use Rattle.machine.specs.Answers.{line}
use Rattle.machine.specs.Runs.{Report}

-- ---- brackets

unfoldable pub is_bracket : Literal → Bool
is_bracket (call a) = false
is_bracket (equation t u) = false
is_bracket truth = false
is_bracket falsity = false
is_bracket (either y z) = true

unfoldable pub without_brackets : Body → Bool
without_brackets done = true
without_brackets (also l b) = not (is_bracket l) && without_brackets b

-- the number of the first of some clauses, numbered from n, that has a bracket
unfoldable pub first_bracketed : ℕ → List Clause → Option ℕ
first_bracketed n [] = none
first_bracketed n (cl ∷ cls) = elim (without_brackets cl.body) [ true ↦ first_bracketed (suc n) cls | false ↦ some n ]

-- ---- + arguments

unfoldable pub kept_if : Bool → Term → List Term → List Term
kept_if true t ts = t ∷ ts
kept_if false t ts = ts

-- of some arguments those marked +
unfoldable pub inputs_by : List Mark → List Term → List Term
inputs_by [] ts = []
inputs_by (k ∷ ks) [] = []
inputs_by (k ∷ ks) (t ∷ ts) = kept_if (same_mark input k) t (inputs_by ks ts)

-- the + arguments of an atom, by the sheet's declarations
unfoldable pub inputs : List Declaration → Atom → List Term
inputs ds a = inputs_by (marks_for ds a) (list_of a.args)

-- ---- a common instance

-- A substitution makes the terms of two lists equal, pair by pair; "variables kept apart": those of the first list are of copy 1, those of the second of
-- copy 2. Two clauses of one predicate have as many + arguments.
unfoldable pub Equal : Substitution → List Term → List Term → Type 0
Equal σ [] us = Unit {0}
Equal σ (t ∷ ts) [] = Unit {0}
Equal σ (t ∷ ts) (u ∷ us) = (apply σ (copied 1 t) ≡ apply σ (copied 2 u)) × Equal σ ts us

-- "taken jointly": one substitution for all pairs
abbrev pub Common : List Term → List Term → Type 0
Common ts us = (σ : Substitution) × Equal σ ts us

-- "have no common instance": no substitution makes them equal
abbrev pub NoCommon : List Term → List Term → Type 0
NoCommon ts us = (σ : Substitution) → Equal σ ts us → ⊥

-- the same by unification: bindings that make all pairs equal, each pair unified under the bindings of those before it
unfoldable pub join_on : Option (List Binding) → (List Binding → Option (List Binding)) → Option (List Binding)
join_on none next = none
join_on (some b) next = next b

unfoldable pub joined : List Binding → List Term → List Term → Option (List Binding)
joined b [] us = some b
joined b (t ∷ ts) [] = some b
joined b (t ∷ ts) (u ∷ us) = join_on (unify b (copied 1 t) (copied 2 u)) (λ b1. joined b1 ts us)

unfoldable pub is_joined : Option (List Binding) → Bool
is_joined none = false
is_joined (some b) = true

-- from no bindings
unfoldable pub joins : List Term → List Term → Bool
joins ts us = is_joined (joined [] ts us)

-- ---- the test

-- two clauses of one predicate whose + arguments have a common instance; with no + argument they have one
unfoldable pub overlaps : List Declaration → Clause → Clause → Bool
overlaps ds cl other = is_for cl.head other && joins (inputs ds cl.head) (inputs ds other.head)

-- the number of the first of some clauses, numbered from n, that overlaps with a clause
unfoldable pub first_overlap : List Declaration → Clause → ℕ → List Clause → Option ℕ
first_overlap ds cl n [] = none
first_overlap ds cl n (x ∷ xs) = elim (overlaps ds cl x) [ true ↦ some n | false ↦ first_overlap ds cl (suc n) xs ]

-- the numbers of two clauses
pub record Pair : Type 0 where
  pub first : ℕ
  pub second : ℕ

-- the first pair of some clauses, numbered from n, that overlap: the lowest first clause that overlaps with a later one, and the first of those
unfoldable pub first_pair : List Declaration → ℕ → List Clause → Option Pair
first_pair ds n [] = none
first_pair ds n (cl ∷ cls) =
    elim (first_overlap ds cl (suc n) cls) [ none ↦ first_pair ds (suc n) cls | some m ↦ some (record { first = n; second = m }) ]

-- What speaks against a sheet: the first clause that has a bracket, with 0 for a second; else the first pair that overlaps.
unfoldable pub against : Sheet → Option Pair
against sh =
    elim (first_bracketed 1 sh.clauses) [ none ↦ first_pair sh.declarations 1 sh.clauses | some n ↦ some (record { first = n; second = 0 }) ]

unfoldable pub is_nothing : Option Pair → Bool
is_nothing none = true
is_nothing (some p) = false

-- yes or no
unfoldable pub determinate : Sheet → Bool
determinate sh = is_nothing (against sh)

-- "no bracket of (i) and, for each pair of clauses of one predicate, their + arguments taken jointly and with variables kept apart have no common
-- instance": what a yes says
pub record Determinate (sh : Sheet) : Type 0 where
  pub plain : (n : ℕ) (cl : Clause) → clause_at sh n ≡ some cl → T (without_brackets cl.body)
  pub exclusive : (m n : ℕ) (cl other : Clause) → m < n → clause_at sh m ≡ some cl → clause_at sh n ≡ some other → T (is_for cl.head other)
      → NoCommon (inputs sh.declarations cl.head) (inputs sh.declarations other.head)

-- a pair of numbers comes before another: by its first, then by its second
abbrev pub Before : ℕ → ℕ → Pair → Type 0
Before m n p = (m < p.first) ⊎ ((m ≡ p.first) × (n < p.second))

-- What a no names where no clause has a bracket: two clauses of one predicate whose + arguments have a common instance, and no two such come before.
pub record FirstOverlap (sh : Sheet) (p : Pair) : Type 0 where
  pub cl : Clause
  pub other : Clause
  pub later : p.first < p.second
  pub one : clause_at sh p.first ≡ some cl
  pub two : clause_at sh p.second ≡ some other
  pub predicate : T (is_for cl.head other)
  pub common : Common (inputs sh.declarations cl.head) (inputs sh.declarations other.head)
  pub none_before : (m n : ℕ) (x y : Clause) → m < n → Before m n p → clause_at sh m ≡ some x → clause_at sh n ≡ some y → T (is_for x.head y)
      → NoCommon (inputs sh.declarations x.head) (inputs sh.declarations y.head)

-- else: a clause with a bracket, and none before it has one
pub record FirstBracket (sh : Sheet) (n : ℕ) : Type 0 where
  pub cl : Clause
  pub there : clause_at sh n ≡ some cl
  pub bracket : T (without_brackets cl.body) → ⊥
  pub none_before : (m : ℕ) (x : Clause) → m < n → clause_at sh m ≡ some x → T (without_brackets x.body)

abbrev pub NamesFirst : Sheet → Pair → Type 0
NamesFirst sh p = ((p.second ≡ 0) × FirstBracket sh p.first) ⊎ FirstOverlap sh p

-- ---- over texts

-- yes; no, with what speaks against it; or the sheet's refusal: "Sheet refusals come first, as before", and there is no mark
pub data Judged : Type 0 where
  declined : Refusal → Judged
  single : Judged
  several : ℕ → ℕ → Judged

unfoldable pub judged_by : Option Pair → Judged
judged_by none = single
judged_by (some p) = several p.first p.second

unfoldable pub judged_from : Outcome Sheet → Judged
judged_from (refused r) = declined r
judged_from (accepted sh) = judged_by (against sh)

unfoldable pub judged : List ℕ → Judged
judged sheet = judged_from (checked_sheet sheet)

-- a goal that, if it can be read, has no bracket
abbrev pub PlainGoal : List ℕ → Type 0
PlainGoal goal = (g : Goal) → goal_outcome goal ≡ accepted g → T (without_brackets g.body)

-- ---- at most one line

-- of a run of a goal, by its answers and its text: no answer and nothing written, or one answer and its line
abbrev pub AtMostOne : Goal → ℕ → List ℕ → Type 0
AtMostOne g answers text = ((answers ≡ 0) × (text ≡ [])) ⊎ ((answers ≡ 1) × ((b : List Binding) × (text ≡ line g b)))

-- the same of a run over texts, by its report and text, with the line feeds of the text
pub record AtMostOneOver (goal : List ℕ) (r : Report) (text : List ℕ) : Type 0 where
  pub g : Goal
  pub goal_read : goal_outcome goal ≡ accepted g
  pub one : AtMostOne g r.answers text
  pub lines : InLines r.answers text

-- "writes at most one line": nothing, or a text with one line feed, which it ends behind
abbrev pub AtMostOneLine : List ℕ → Type 0
AtMostOneLine text = (text ≡ []) ⊎ InLines 1 text
