-- Laws of the test of a sheet for at most one answer: one for each way out of `determinate`. Assumes nothing.
use Prim.Native.Nat.{ℕ, ◌≤◌}
use native.Mathlib.Omega.{arith}
use mathlib.Core.Path.{◌≡◌, refl, sym, ap, ◌∙◌}
use mathlib.Core.Bool.{false}
use mathlib.Core.List.{List}
use lib.ListN.{length}
use Rattle.syntax.specs.Terms.{Sheet}
use Rattle.syntax.specs.Words.{sheet_words}
use Rattle.syntax.specs.Verdicts.{Outcome, refused, accepted}
use Rattle.syntax.specs.declared.Text.{Text}
use Rattle.syntax.specs.declared.Text.TheVariants.{Sheet as in_sheet}
use Rattle.syntax.specs.declared.Refusal.{Refusal}
use Rattle.syntax.specs.Verdicts.{Verdict}
use Rattle.syntax.specs.Verdicts.{Accepted, Refused}
use Rattle.mode_rules.specs.Checking.{checked_sheet, check_verdict, verdict_with}
use Rattle.marks.specs.Tables.{SheetAt, DeclarationsAt}
use Rattle.machine.specs.Determinacy.{Judged, declined, single, several, PlainGoal, AtMostOneLine, against, judged_by, judged_from, judged}
use Rattle.machine.specs.Runs.{RunSettings, run_outcome, run_text}
use Rattle.machine_theorems.proofs.AtMostOne.{at-most-one-line}
use Rattle.run_layout.proofs.Limits.{checked-sheet-limited}
use Rattle.pilvaust.specs.Tables.{Tabled}
use Rattle.pilvaust.proofs.ReadingEntries.{refused-by}
use Rattle.pilvaust.proofs.SheetLaws.{sheet_short, accepted-sheet, sheet-at}
use Rattle.determinacy.specs.Told.{told}
use Rattle.determinacy.specs.Tables.{SheetReady}
use Rattle.determinacy.specs.declared.Determinacy.{Determinacy}
use Rattle.determinacy.specs.declared.Determinacy.TheVariants.{Yes, Refused as declined-by}

told-refused : (q : Refusal) → told (judged_from (refused q)) ≡ declined-by q
unfolding told judged_from
told-refused q = refl

told-accepted : (sh : Sheet) → told (judged_from (accepted sh)) ≡ told (judged_by (against sh))
unfolding judged_from
told-accepted sh = refl

module _ (s declared table : List ℕ) (v : Verdict) (ev : v ≡ check_verdict s) (holds : (sh : Sheet) → checked_sheet s ≡ accepted sh → Tabled s declared table sh) where
  pub sheet-declined : (x : Text) (q : Refusal) → v ≡ Refused x q → declined-by q ≡ told (judged s)
  unfolding verdict_with judged
  sheet-declined x q h =
      let o : (checked_sheet s ≡ refused q) × (x ≡ in_sheet) = refused-by (checked_sheet s) x q (sym ev ∙ h) in
      sym (ap (λ (y : Outcome Sheet). told (judged_from y)) o.0 ∙ told-refused q)

  module _ (n k : ℕ) (h : v ≡ Accepted n k) (short : length table ≤ sheet_words) where
    abbrev of : (sh : Sheet) × (checked_sheet s ≡ accepted sh) × (n ≡ length sh.declarations) × (k ≡ length sh.clauses)
    of = accepted-sheet false s declared table v ev holds n k h

    pub judgeable : SheetReady s declared n table k
    unfolding sheet-at
    judgeable = record {
      stands = sheet-at false s declared table v ev holds n k h;
      limits = checked-sheet-limited false s of.0 of.1;
      short = sheet_short false s of.0 of.1;
      table_short = short;
    }

    pub declared-at : DeclarationsAt s declared n
    declared-at =
        let at : SheetAt s declared n table k = sheet-at false s declared table v ev holds n k h in
        record { list = at.sheet.declarations; has = at.has_declarations; count = at.declarations_count; stand = at.stands.declarations }

    pub sheet-judged : (r : Determinacy) → ((w : SheetReady s declared n table k) → r ≡ told (judged_by (against w.stands.sheet))) → r ≡ told (judged s)
    unfolding judgeable judged sheet-at
    sheet-judged r f = f judgeable ∙ sym (ap (λ (y : Outcome Sheet). told (judged_from y)) of.1 ∙ told-accepted of.0)

told-yes : (j : Judged) → told j ≡ Yes → j ≡ single
unfolding told
told-yes (declined r) e = absurd (let z : ◌≡◌ {A = ℕ} 0 1 = cc in omega arith)
told-yes single e = refl
told-yes (several m n) e = absurd (let z : ◌≡◌ {A = ℕ} 0 1 = cc in omega arith)

-- what a yes says of every run over the sheet
pub one-line : (s : List ℕ) {answer : Determinacy} → answer ≡ told (judged s) → (goal : List ℕ) → answer ≡ Yes → PlainGoal goal → (asked : RunSettings) (room : ℕ)
    → AtMostOneLine (run_text (run_outcome s goal asked room))
one-line s e goal y plain asked room = at-most-one-line s goal (told-yes (judged s) (sym e ∙ y)) plain asked room
