-- Laws of clauses, sheets and goals in a table, one for each way out of the functions. Assumes nothing.
use Prim.Native.Nat.{ℕ, suc, ◌+◌}
use mathlib.Core.Path.{◌≡◌, refl, sym, ap, ◌∙◌}
use mathlib.Core.List.{List, [], ◌∷◌}
use mathlib.Core.Option.{Option, none, some}
use lib.ListN.{length, get_or}
use Rattle.syntax.specs.Terms.{Atom, Mark, input, output, Declaration, Clause}
use Rattle.syntax.specs.Words.{term_words, mark_number, marks_number}
use Rattle.syntax.specs.declared.Refusal.{Refusal}
use Rattle.mode_rules.specs.Modes.{Known, none_ground, marks_for, list_of, first_open, ground_marked, open_output, undeclared_body, undeclared_in_goal, start_known, head_fault, clause_fault, clauses_fault, goal_fault, walk_fault, Walk, body_fault}
use Rattle.marks.specs.Tables.{TermAt, MarkedAt, JudgedAt, DeclarationsAt, AtomAt, BodyAt, ClauseAt, ClausesAt, SheetAt, GoalAt}
use Rattle.std.specs.Prelude.{Result, Ok, Err}
use Rattle.marks.specs.Answers.{Checked, checked_of}
use Rattle.marks.specs.BodiesAnswers.{walk_of}
use Rattle.marks.proofs.Judging.{judged-marked}
use Rattle.marks.proofs.LiteralsLaws.{judged-at}
use Rattle.marks.proofs.Faults.{fault-stays, fine-goes}
use Rattle.marks.proofs.UndeclaredClauses.{head-at, body_at}

-- ---- refusals 9 and 10 of a clause

stopped_by : (ds : List Declaration) (c : ℕ) (h : Atom) {w : Result Known Refusal} {r : Refusal} {x : Walk} → walk_of w ≡ x → w ≡ Err r → Err r ≡ checked_of (head_fault ds c h x)
unfolding head_fault
stopped_by ds c h e t = ap (λ (z : Walk). checked_of (head_fault ds c h z)) (ap walk_of (sym t) ∙ e)

passed-by : (ds : List Declaration) (c : ℕ) (h : Atom) {w : Result Known Refusal} {τ : Known} {x : Walk} → walk_of w ≡ x → w ≡ Ok τ
    → checked_of (open_output c h (first_open output τ (marks_for ds h) (list_of h.args) 1)) ≡ checked_of (head_fault ds c h x)
unfolding head_fault
passed-by ds c h e t = ap (λ (z : Walk). checked_of (head_fault ds c h z)) (ap walk_of (sym t) ∙ e)

module _ (s declared : List ℕ) (n : ℕ) (g table : List ℕ) (p c marks : ℕ)
    (em : (d : DeclarationsAt s declared n) (w : AtomAt g table (p + 3)) → marks ≡ marks_number (marks_for d.list w.atom))
    (literals : ℕ) (el : literals ≡ get_or table (p + 2) 0) (first : ℕ) (e1 : (u : TermAt table (p + 3)) → first ≡ p + 3 + length (term_words u.term)) where
  abbrev pub head-judged : DeclarationsAt s declared n → ClauseAt g table p → JudgedAt table (p + 3) marks
  head-judged d w = judged-at s declared n g table (p + 3) marks em d (head-at w)

  abbrev pub head-marked : (m : Mark) → DeclarationsAt s declared n → ClauseAt g table p → MarkedAt table (p + 3 + 3) first marks (mark_number m)
  head-marked m d w = judged-marked table (p + 3) marks first e1 m (head-judged d w)

  module _ (start : Known) (es : (u : MarkedAt table (p + 3 + 3) first marks 1) → start ≡ ground_marked u.wanted u.listed (list_of u.terms) none_ground)
      (w : Result Known Refusal) (ew : (d : DeclarationsAt s declared n) (b : BodyAt g table first literals) → walk_of w ≡ body_fault d.list c 1 start b.body) where
    walked : (d : DeclarationsAt s declared n) (u : ClauseAt g table p) → walk_of w ≡ body_fault d.list c 1 (start_known d.list u.clause.head) u.clause.body
    unfolding start_known
    walked d u =
        ew d (body_at g table p literals el first e1 u)
        ∙ ap (λ (τ : Known). body_fault d.list c 1 τ u.clause.body) (es (head-marked input d u))

    pub clause-stopped : {r : Refusal} → w ≡ Err r → (d : DeclarationsAt s declared n) (u : ClauseAt g table p) → Err r ≡ checked_of (clause_fault d.list c u.clause)
    unfolding clause_fault
    clause-stopped t d u = stopped_by d.list c u.clause.head (walked d u) t

    pub clause-passed : {τ : Known} → w ≡ Ok τ → {r : Checked}
        → ((j : JudgedAt table (p + 3) marks) → r ≡ checked_of (open_output c j.atom (first_open output τ j.listed (list_of j.atom.args) 1)))
        → (d : DeclarationsAt s declared n) (u : ClauseAt g table p) → r ≡ checked_of (clause_fault d.list c u.clause)
    unfolding clause_fault
    clause-passed t h d u = h (head-judged d u) ∙ passed-by d.list c u.clause.head (walked d u) t

-- ---- the clauses in turn

pub faults-none : (ds : List Declaration) (k : ℕ) → clauses_fault ds k [] ≡ none
unfolding clauses_fault
faults-none ds k = refl

pub faults-go : (ds : List Declaration) (k : ℕ) (x : Clause) (xs : List Clause)
    → clauses_fault ds k (x ∷ xs) ≡ elim (clause_fault ds k x) as (λ _. Option Refusal) [ none ↦ clauses_fault ds (suc k) xs | some r ↦ some r ]
unfolding clauses_fault
faults-go ds k x xs = refl

-- ---- sheets and goals

abbrev pub sheet-declarations : {s declared : List ℕ} {n : ℕ} {table : List ℕ} {cs : ℕ} → SheetAt s declared n table cs → DeclarationsAt s declared n
sheet-declarations w = record { list = w.sheet.declarations; has = w.has_declarations; count = w.declarations_count; stand = w.stands.declarations }

abbrev pub sheet-clauses : {s declared : List ℕ} {n : ℕ} {table : List ℕ} {cs : ℕ} → SheetAt s declared n table cs → ClausesAt s table 0 cs
sheet-clauses w = record { list = w.sheet.clauses; has = w.has_clauses; count = w.clauses_count; stand = w.stands.clauses }

abbrev pub goal-declarations : {s declared : List ℕ} {n : ℕ} {g table : List ℕ} {literals : ℕ} → GoalAt s declared n g table literals → DeclarationsAt s declared n
goal-declarations w = record { list = w.sheet.declarations; has = w.has_declarations; count = w.declarations_count; stand = w.declarations_stand }

abbrev pub goal-body : {s declared : List ℕ} {n : ℕ} {g table : List ℕ} {literals : ℕ} → GoalAt s declared n g table literals → BodyAt g table 0 literals
goal-body w = record { body = w.goal.body; has = w.has_body; count = w.literals_count; stands = w.stands }

module _ (s declared : List ℕ) (n : ℕ) (g table : List ℕ) (literals : ℕ) {f : Checked}
    (ef : (d : DeclarationsAt s declared n) (w : BodyAt g table 0 literals) → f ≡ checked_of (undeclared_body d.list 0 1 w.body)) where
  pub goal-undeclared : {r : Refusal} → f ≡ Err r → (w : GoalAt s declared n g table literals) → Err r ≡ checked_of (goal_fault w.sheet w.goal)
  unfolding goal_fault undeclared_in_goal
  goal-undeclared t w =
      fault-stays (undeclared_in_goal w.sheet w.goal) (walk_fault (body_fault w.sheet.declarations 0 1 none_ground w.goal.body)) (ef (goal-declarations w) (goal-body w)) t

  module _ (t : f ≡ Ok tt) (r : Result Known Refusal) (h : (d : DeclarationsAt s declared n) (w : BodyAt g table 0 literals) → walk_of r ≡ body_fault d.list 0 1 none_ground w.body) where
    goal-walk : (w : GoalAt s declared n g table literals) → checked_of (walk_fault (walk_of r)) ≡ checked_of (goal_fault w.sheet w.goal)
    unfolding goal_fault undeclared_in_goal
    goal-walk w =
        ap (λ (z : Walk). checked_of (walk_fault z)) (h (goal-declarations w) (goal-body w))
        ∙ sym (ap checked_of (fine-goes (undeclared_in_goal w.sheet w.goal) (walk_fault (body_fault w.sheet.declarations 0 1 none_ground w.goal.body)) (ef (goal-declarations w) (goal-body w)) t))

    pub goal-stopped : {q : Refusal} → r ≡ Err q → (w : GoalAt s declared n g table literals) → Err q ≡ checked_of (goal_fault w.sheet w.goal)
    unfolding walk_fault
    goal-stopped e w = sym (ap (λ (x : Result Known Refusal). checked_of (walk_fault (walk_of x))) e) ∙ goal-walk w

    pub goal-walked : {τ : Known} → r ≡ Ok τ → (w : GoalAt s declared n g table literals) → Ok tt ≡ checked_of (goal_fault w.sheet w.goal)
    unfolding walk_fault
    goal-walked e w = sym (ap (λ (x : Result Known Refusal). checked_of (walk_fault (walk_of x))) e) ∙ goal-walk w
