-- Laws of checking a sheet and a goal: one for each way out of the functions. Assumes nothing.
use Prim.Native.Nat.{ℕ, ◌≤◌}
use native.Mathlib.Omega.{arith}
use mathlib.Core.Path.{◌≡◌, refl, sym, ap, ap₂, ◌∙◌, subst}
use mathlib.Core.Bool.{Bool, true, false}
use mathlib.Core.List.{List, []}
use mathlib.Core.Option.{Option, none, some}
use lib.Dec.{leb}
use lib.ListN.{length}
use Rattle.syntax.specs.Limits.{sheet_bytes, declarations}
use Rattle.syntax.specs.Terms.{Sheet, Goal}
use Rattle.syntax.specs.Reading.{Read, fault, ok, read_sheet, first_repeat}
use Rattle.syntax.specs.Words.{declarations_words}
use Rattle.syntax.specs.Verdicts.{Outcome, refused, accepted, without_repeats, sheet_from, sheet_of, sheet_verdict, read_verdict, goal_outcome, goal_verdict}
use Rattle.syntax.specs.declared.Text.{Text}
use Rattle.syntax.specs.declared.Text.TheVariants.{Sheet as in_sheet, Goal as in_goal}
use Rattle.syntax.specs.declared.Refusal.{Refusal}
use Rattle.syntax.specs.declared.Refusal.TheVariants.{TooLong}
use Rattle.syntax.specs.Verdicts.{Verdict}
use Rattle.syntax.specs.Verdicts.{Accepted, Refused}
use Rattle.mode_rules.specs.Modes.{sheet_fault, goal_fault}
use Rattle.mode_rules.specs.Checking.{faultless, checked_from, checked_with, checked_sheet, verdict_with, check_verdict, checked_goal_from, checked_goal, goal_answer, check_goal_from, check_goal_verdict}
use Rattle.marks.specs.Spelt.{SheetSpelt, DeclarationsSpelt}
use Rattle.words.specs.Tables.{WordsAt}
use Rattle.marks.specs.Tables.{SheetAt, GoalAt, DeclarationsAt}
use Rattle.std.specs.Prelude.{Ok, Err}
use Rattle.syntax.specs.declared.Fault.{Fault}
use Rattle.marks.specs.Answers.{Checked, checked_of}
use Rattle.pilvaust.specs.Tables.{Tabled, GoalInTable, GoalTabled, SheetTabled}
use Rattle.pilvaust.specs.declared.reading.GoalRead.{GoalRead}
use Rattle.marks.specs.Flags.{DeclaredOnce}
use Rattle.marks.proofs.Accepted.{read-few}
use Rattle.pilvaust.proofs.ReadingLaws.{never}
use Rattle.pilvaust.proofs.ReadingEntries.{counted-by, refused-by, counted-sheet, refused-sheet}

same : {A : Type 0} (a b : A) → ◌≡◌ {A = Outcome A} (accepted a) (accepted b) → a ≡ b
same a b e = cc

-- no fault, or the fault, as the definition has it
pub fine-none : (o : Option Refusal) → ◌≡◌ {A = Checked} (Ok tt) (checked_of o) → o ≡ none
fine-none none e = refl
fine-none (some r) e = absurd (let z : ◌≡◌ {A = ℕ} 0 1 = cc in omega arith)

pub fault-some : (o : Option Refusal) (q : Refusal) → ◌≡◌ {A = Checked} (Err q) (checked_of o) → o ≡ some q
fault-some none q e = absurd (let z : ◌≡◌ {A = ℕ} 0 1 = cc in omega arith)
fault-some (some r) q e = ap some (let z : r ≡ q = cc in z)

-- ---- a sheet

-- what reading accepts: each predicate is declared once, and there are no more declarations than there may be
once-accepted : (s : List ℕ) (sh : Sheet) → sheet_of s ≡ accepted sh → (first_repeat [] sh.declarations ≡ none) × (length sh.declarations ≤ declarations)
unfolding sheet_of
once-accepted s sh e = by (leb (length s) sheet_bytes) e
  where
    Once : Sheet → Type 0
    Once x = (first_repeat [] x.declarations ≡ none) × (length x.declarations ≤ declarations)

    unrepeated : (x : Sheet) (o : Option ℕ) → without_repeats x o ≡ accepted sh → (o ≡ none) × (x ≡ sh)
    unrepeated x none q = unfold without_repeats in (refl, same x sh q)
    unrepeated x (some b) q = unfold without_repeats in absurd (never _ sh q)

    from : (r : Read Sheet) → read_sheet s ≡ r → sheet_from r ≡ accepted sh → Once sh
    from (fault n b) p q = unfold sheet_from in absurd (never _ sh q)
    from (ok x st) p q = unfold sheet_from in
        let u : (first_repeat [] x.declarations ≡ none) × (x ≡ sh) = unrepeated x (first_repeat [] x.declarations) q in
        subst Once u.1 (u.0, read-few s x st p)

    by : (b : Bool) → ◌≡◌ {A = Outcome Sheet} (elim b [ true ↦ sheet_from (read_sheet s) | false ↦ refused TooLong ]) (accepted sh) → Once sh
    by true q = from (read_sheet s) refl q
    by false q = absurd (never TooLong sh q)

module _ (stored : Bool) (s declared table : List ℕ) (v : Verdict) (e : v ≡ read_verdict s) (holds : (sh : Sheet) → sheet_of s ≡ accepted sh → Tabled s declared table sh) where
  pub checked_refused : (t : Text) (q : Refusal) → v ≡ Refused t q
      → (v ≡ verdict_with stored s) × ((sh : Sheet) → checked_with stored s ≡ accepted sh → Tabled s declared table sh)
  unfolding verdict_with read_verdict checked_with checked_from
  checked_refused t q f =
      let o : (sheet_of s ≡ refused q) × (t ≡ in_sheet) = refused-sheet s v t q e f in
      let c : checked_from stored (sheet_of s) ≡ refused q = ap (checked_from stored) o.0 in
      (e ∙ ap sheet_verdict (o.0 ∙ sym c), λ sh a. absurd (never q sh (sym c ∙ a)))

  module _ (n k : ℕ) (f : v ≡ Accepted n k) where
    of : (sh : Sheet) × (sheet_of s ≡ accepted sh) × (n ≡ length sh.declarations) × (k ≡ length sh.clauses)
    of = counted-sheet s v n k e f

    tabled : Tabled s declared table of.0
    tabled = holds of.0 of.1

    sheet-stands-at : SheetAt s declared n table k
    sheet-stands-at = record {
      sheet = of.0;
      has_declarations = subst (λ (x : Sheet). WordsAt declared 0 (declarations_words x.declarations)) tabled.is tabled.stands.has_declarations;
      declarations_count = of.2;
      has_clauses = subst (λ (x : Sheet). WordsAt table 0 (Rattle.syntax.specs.Words.clauses_words x.clauses)) tabled.is tabled.stands.has_clauses;
      clauses_count = of.3;
      stands = subst (SheetSpelt s) tabled.is tabled.stands.stands;
    }

    pub declared-once : DeclaredOnce s declared n table k
    unfolding sheet-stands-at
    declared-once =
        let o : (first_repeat [] of.0.declarations ≡ none) × (length of.0.declarations ≤ declarations) = once-accepted s of.0 of.1 in
        record { stands = sheet-stands-at; few = omega (arith, o.1, of.2); once = o.0 }

    module _ (ck : Checked) (ec : (w : DeclaredOnce s declared n table k) → ck ≡ checked_of (sheet_fault stored w.stands.sheet)) where
      checked : ck ≡ checked_of (sheet_fault stored of.0)
      unfolding sheet-stands-at declared-once
      checked = ec declared-once

      pub checked-fine : ck ≡ Ok tt → (Accepted n k ≡ verdict_with stored s) × ((sh : Sheet) → checked_with stored s ≡ accepted sh → Tabled s declared table sh)
      unfolding verdict_with read_verdict checked_with checked_from faultless
      checked-fine g =
          let c : checked_from stored (sheet_of s) ≡ accepted of.0 = ap (checked_from stored) of.1 ∙ ap (faultless of.0) (fine-none (sheet_fault stored of.0) (sym g ∙ checked)) in
          (sym f ∙ e ∙ ap sheet_verdict (of.1 ∙ sym c), λ sh a. subst (Tabled s declared table) (same of.0 sh (sym c ∙ a)) tabled)

      pub checked-fault : (q : Refusal) → ck ≡ Err q → (u : Fault) → u ≡ record { text = in_sheet; refusal = q }
          → (◌≡◌ {A = Verdict} (Err u) (verdict_with stored s)) × ((sh : Sheet) → checked_with stored s ≡ accepted sh → Tabled s declared table sh)
      unfolding verdict_with checked_with checked_from faultless sheet_verdict
      checked-fault q g u h =
          let c : checked_from stored (sheet_of s) ≡ refused q = ap (checked_from stored) of.1 ∙ ap (faultless of.0) (fault-some (sheet_fault stored of.0) q (sym g ∙ checked)) in
          (ap (λ (x : Fault). Err x) h ∙ ap sheet_verdict (sym c), λ sh a. absurd (never q sh (sym c ∙ a)))

-- ---- a goal over a sheet

pub over-declarations : {s declared : List ℕ} {n k : ℕ} → SheetTabled s declared n k → DeclarationsAt s declared n
over-declarations w = record { list = w.sheet.declarations; has = w.has; count = w.count; stand = w.stand }

pub goal-refused-by : (o : Outcome Goal) (t : Text) (q : Refusal) → goal_verdict o ≡ Refused t q → (o ≡ refused q) × (t ≡ in_goal)
unfolding goal_verdict
goal-refused-by (refused r) t q e =
    let z : ◌≡◌ {A = Fault} (record { text = in_goal; refusal = r }) (record { text = t; refusal = q }) = cc in
    (ap refused (ap (λ (x : Fault). x.refusal) z), sym (ap (λ (x : Fault). x.text) z))
goal-refused-by (accepted g) t q e = absurd (let z : ◌≡◌ {A = ℕ} 0 1 = cc in omega arith)

goal-accepted-by : (o : Outcome Goal) (n k : ℕ) → goal_verdict o ≡ Accepted n k → (g : Goal) × (o ≡ accepted g)
unfolding goal_verdict
goal-accepted-by (refused r) n k e = absurd (let z : ◌≡◌ {A = ℕ} 0 1 = cc in omega arith)
goal-accepted-by (accepted g) n k e = (g, refl)

module _ (s declared : List ℕ) (n k : ℕ) (g table : List ℕ) where
  pub over-refused : (f : Fault) → GoalTabled g table (Err f) → (w : SheetTabled s declared n k) → ◌≡◌ {A = Verdict} (Err f) (goal_answer w.sheet (checked_goal w.sheet g))
  unfolding checked_goal checked_goal_from goal_answer
  over-refused f t w =
      let o : (goal_outcome g ≡ refused f.refusal) × (f.text ≡ in_goal) = goal-refused-by (goal_outcome g) f.text f.refusal (sym t) in
      ap (λ (y : Text). Refused y f.refusal) o.1 ∙ sym (ap (λ (y : Outcome Goal). goal_answer w.sheet (checked_goal_from w.sheet y)) o.0)

  module _ (r : GoalRead) (t : GoalTabled g table (Ok r)) where
    pub goal-of : (x : Goal) × (goal_outcome g ≡ accepted x)
    goal-of = (t.0, t.1)

    pub standing : GoalInTable g table r.literals r.count goal-of.0
    unfolding goal-of
    standing = t.2

    pub goal-stands-at : SheetTabled s declared n k → GoalAt s declared n g table r.literals
    goal-stands-at w = record {
      sheet = w.sheet;
      goal = goal-of.0;
      has_declarations = w.has;
      declarations_count = w.count;
      declarations_stand = w.stand;
      has_body = standing.has;
      literals_count = standing.count;
      stands = standing.stands;
    }

    module _ (ck : Checked) (ec : (w : GoalAt s declared n g table r.literals) → ck ≡ checked_of (goal_fault w.sheet w.goal)) where
      pub checked-over : (w : SheetTabled s declared n k) → ck ≡ checked_of (goal_fault w.sheet goal-of.0)
      unfolding goal-stands-at
      checked-over w = ec (goal-stands-at w)

      pub over-fine : ck ≡ Ok tt → (w : SheetTabled s declared n k) → Accepted n k ≡ goal_answer w.sheet (checked_goal w.sheet g)
      unfolding checked_goal checked_goal_from goal_answer faultless sheet_verdict
      over-fine h w =
          ap₂ Accepted w.count w.clauses
          ∙ sym (ap (λ (y : Outcome Goal). goal_answer w.sheet (checked_goal_from w.sheet y)) goal-of.1 ∙ ap (λ (y : Option Refusal). goal_answer w.sheet (faultless goal-of.0 y)) (fine-none (goal_fault w.sheet goal-of.0) (sym h ∙ checked-over w)))

      pub over-fault : (q : Refusal) → ck ≡ Err q → (w : SheetTabled s declared n k) → Refused in_goal q ≡ goal_answer w.sheet (checked_goal w.sheet g)
      unfolding checked_goal checked_goal_from goal_answer faultless
      over-fault q h w = sym (ap (λ (y : Outcome Goal). goal_answer w.sheet (checked_goal_from w.sheet y)) goal-of.1 ∙ ap (λ (y : Option Refusal). goal_answer w.sheet (faultless goal-of.0 y)) (fault-some (goal_fault w.sheet goal-of.0) q (sym h ∙ checked-over w)))

-- ---- both texts

pub checked-refused-by : (o : Outcome Sheet) (t : Text) (q : Refusal) → sheet_verdict o ≡ Refused t q → (o ≡ refused q) × (t ≡ in_sheet)
checked-refused-by o t q e = refused-by o t q e

module _ (stored : Bool) (s declared table : List ℕ) (v : Verdict) (e : v ≡ verdict_with stored s)
    (holds : (sh : Sheet) → checked_with stored s ≡ accepted sh → Tabled s declared table sh) (n k : ℕ) (f : v ≡ Accepted n k) where
  pub checked-sheet : (sh : Sheet) × (checked_with stored s ≡ accepted sh) × (n ≡ length sh.declarations) × (k ≡ length sh.clauses)
  unfolding verdict_with
  checked-sheet = counted-by (checked_with stored s) n k (sym e ∙ f)

  pub checked-tabled : Tabled s declared table checked-sheet.0
  checked-tabled = holds checked-sheet.0 checked-sheet.1

-- checking, which gives no mark
module _ (s declared table g : List ℕ) (v : Verdict) (e : v ≡ check_verdict s) (holds : (sh : Sheet) → checked_sheet s ≡ accepted sh → Tabled s declared table sh) where
  pub both-refused : (t : Text) (q : Refusal) → v ≡ Refused t q → v ≡ check_goal_verdict s g
  unfolding check_goal_verdict verdict_with check_goal_from
  both-refused t q f =
      let o : (checked_sheet s ≡ refused q) × (t ≡ in_sheet) = refused-by (checked_sheet s) t q (sym e ∙ f) in
      f ∙ ap (λ (y : Text). Refused y q) o.1 ∙ sym (ap (check_goal_from g) o.0)

  module _ (n k : ℕ) (f : v ≡ Accepted n k) where
    of-checked : (sh : Sheet) × (checked_sheet s ≡ accepted sh) × (n ≡ length sh.declarations) × (k ≡ length sh.clauses)
    of-checked = checked-sheet false s declared table v e holds n k f

    in_tables : Tabled s declared table of-checked.0
    in_tables = holds of-checked.0 of-checked.1

    pub over-at : SheetTabled s declared n k
    over-at = record {
      sheet = of-checked.0;
      has = subst (λ (x : Sheet). WordsAt declared 0 (declarations_words x.declarations)) in_tables.is in_tables.stands.has_declarations;
      count = of-checked.2;
      clauses = of-checked.3;
      stand = subst (λ (x : Sheet). DeclarationsSpelt s x.declarations) in_tables.is in_tables.stands.stands.declarations;
    }

    pub both-answered : (u : Verdict) → ((w : SheetTabled s declared n k) → u ≡ goal_answer w.sheet (checked_goal w.sheet g)) → u ≡ check_goal_verdict s g
    unfolding check_goal_verdict check_goal_from over-at
    both-answered u h = h over-at ∙ sym (ap (check_goal_from g) of-checked.1)
