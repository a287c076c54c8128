-- Laws of a sheet written afresh: one for each way out of `format`. Assumes nothing.
use Prim.Native.Nat.{ℕ, ◌≤◌}
use native.Mathlib.Omega.{arith}
use mathlib.Core.Path.{◌≡◌, refl, sym, ap, ◌∙◌}
use mathlib.Core.Bool.{Bool, true, false, ◌&&◌}
use mathlib.Core.List.{List}
use lib.ListN.{length}
use Rattle.std.specs.Prelude.{Result, Ok, Err}
use borrow.Author.Tests.{leb-true}
use lib.Dec.{leb}
use Rattle.syntax.specs.Limits.{sheet_bytes, declarations}
use Rattle.syntax.specs.Terms.{Sheet}
use Rattle.syntax.specs.Words.{sheet_words}
use Rattle.syntax.specs.Verdicts.{Outcome, refused, accepted, Verdict, Accepted, Refused}
use Rattle.syntax.specs.declared.Fault.{Fault}
use Rattle.syntax.specs.declared.Text.TheVariants.{Sheet as in_sheet}
use Rattle.syntax.specs.declared.Refusal.{Refusal}
use Rattle.syntax.specs.declared.Refusal.TheVariants.{OutputTooLong}
use Rattle.mode_rules.specs.Checking.{checked_with, checked_sheet, verdict_with, check_verdict}
use Rattle.mode_theorems.proofs.Accepting.{checked-sheet}
use Rattle.marks.specs.Tables.{SheetAt, DeclarationsAt}
use Rattle.marks.proofs.Accepted.{read-few}
use Rattle.marks.proofs.ClausesSheets.{sheet-declarations}
use Rattle.format_rules.specs.Writing.{formatted}
use Rattle.format_rules.specs.Formatting.{fitting, formatting_from, formatting, format_answer, format_buffer}
use Rattle.formatter.specs.Tables.{SheetReady}
use Rattle.formatter.specs.Sheets.{length_of}
use Rattle.pilvaust.specs.Tables.{Tabled}
use Rattle.pilvaust.proofs.ReadingEntries.{refused-by}
use Rattle.pilvaust.proofs.SheetLaws.{accepted-sheet, sheet-at}

-- what is written is no longer than the room
fits_room : (room : ℕ) (w : List ℕ) (n : ℕ) → ◌≡◌ {A = Result ℕ Fault} (Ok n) (format_answer (fitting room w)) → n ≤ room
unfolding fitting
fits_room room w n e = by (leb (length w) sheet_bytes) (leb (length w) room) refl e
  where
    by : (a b : Bool) → leb (length w) room ≡ b
        → ◌≡◌ {A = Result ℕ Fault} (Ok n) (format_answer (elim (a && b) as (λ _. Outcome (List ℕ)) [ true ↦ accepted w | false ↦ refused OutputTooLong ])) → n ≤ room
    by true true f q = let z : n ≡ length w = cc in omega (arith, leb-true (length w) room f)
    by true false f q = absurd (let z : ◌≡◌ {A = ℕ} 0 1 = cc in omega arith)
    by false b f q = absurd (let z : ◌≡◌ {A = ℕ} 0 1 = cc in omega arith)

-- the length and the fault, by what is written
told_length : (o : Outcome (List ℕ)) (n : ℕ) → ◌≡◌ {A = Result ℕ Refusal} (Ok n) (length_of o) → ◌≡◌ {A = Result ℕ Fault} (Ok n) (format_answer o)
told_length (refused r) n e = absurd (let z : ◌≡◌ {A = ℕ} 0 1 = cc in omega arith)
told_length (accepted w) n e = ap (λ (k : ℕ). Ok k) (let z : n ≡ length w = cc in z)

told_fault : (o : Outcome (List ℕ)) (q : Refusal) → ◌≡◌ {A = Result ℕ Refusal} (Err q) (length_of o) → ◌≡◌ {A = Result ℕ Fault} (Err (record { text = in_sheet; refusal = q })) (format_answer o)
told_fault (refused r) q e = ap (λ (x : Refusal). Err (record { text = in_sheet; refusal = x })) (let z : q ≡ r = cc in z)
told_fault (accepted w) q e = absurd (let z : ◌≡◌ {A = ℕ} 0 1 = cc in omega arith)

module _ (s declared table : List ℕ) (v : Verdict) (ev : v ≡ check_verdict s) (holds : (sh : Sheet) → checked_sheet s ≡ accepted sh → Tabled s declared table sh) where
  module _ (f : Fault) (h : v ≡ Err f) (room : ℕ) where
    declined : (checked_sheet s ≡ refused f.refusal) × (f.text ≡ in_sheet)
    unfolding verdict_with
    declined = refused-by (checked_sheet s) f.text f.refusal (sym ev ∙ h)

    refused_is : formatting room s ≡ refused f.refusal
    unfolding formatting formatting_from
    refused_is = ap (formatting_from room) declined.0

    pub sheet_declined : ◌≡◌ {A = Result ℕ Fault} (Err f) (format_answer (formatting room s))
    sheet_declined = ap (λ x. Refused x f.refusal) declined.1 ∙ sym (ap format_answer refused_is)

    pub sheet_untouched : (out : List ℕ) → out ≡ format_buffer (formatting room s) out
    sheet_untouched out = sym (ap (λ (o : Outcome (List ℕ)). format_buffer o out) refused_is)

  module _ (n k : ℕ) (h : v ≡ Accepted n k) (short : length table ≤ sheet_words) where
    of : (sh : Sheet) × (checked_sheet s ≡ accepted sh) × (n ≡ length sh.declarations) × (k ≡ length sh.clauses)
    of = accepted-sheet false s declared table v ev holds n k h

    few : length of.0.declarations ≤ declarations
    few = checked-sheet s (λ sh. length sh.declarations ≤ declarations) (read-few s) false of.0 of.1

    pub ready : SheetReady s declared n table k
    unfolding sheet-at of
    ready = record { stands = sheet-at false s declared table v ev holds n k h; few = omega (arith, few, of.2); short = short }

    pub declared_at : DeclarationsAt s declared n
    declared_at = sheet-declarations ready.stands

    module _ (room : ℕ) where
      accepted_is : formatting room s ≡ fitting room (formatted ready.stands.sheet)
      unfolding formatting formatting_from ready sheet-at of
      accepted_is = ap (formatting_from room) of.1

      module _ {r : Result ℕ Refusal} (e : (w : SheetReady s declared n table k) → r ≡ length_of (fitting room (formatted w.stands.sheet))) where
        pub sheet_length : (m : ℕ) → r ≡ Ok m → ◌≡◌ {A = Result ℕ Fault} (Ok m) (format_answer (formatting room s))
        sheet_length m g = told_length (fitting room (formatted ready.stands.sheet)) m (sym g ∙ e ready) ∙ sym (ap format_answer accepted_is)

        pub sheet_within : (m : ℕ) → r ≡ Ok m → m ≤ room
        sheet_within m g = fits_room room (formatted ready.stands.sheet) m (told_length (fitting room (formatted ready.stands.sheet)) m (sym g ∙ e ready))

        pub sheet_fault : (q : Refusal) → r ≡ Err q → (u : Fault) → u ≡ record { text = in_sheet; refusal = q } → ◌≡◌ {A = Result ℕ Fault} (Err u) (format_answer (formatting room s))
        sheet_fault q g u eu =
            ap (λ (x : Fault). Err x) eu ∙ told_fault (fitting room (formatted ready.stands.sheet)) q (sym g ∙ e ready) ∙ sym (ap format_answer accepted_is)

      pub sheet_buffer : (out : List ℕ) {new : List ℕ} → ((w : SheetReady s declared n table k) → new ≡ format_buffer (fitting room (formatted w.stands.sheet)) out) → new ≡ format_buffer (formatting room s) out
      sheet_buffer out e = e ready ∙ sym (ap (λ (o : Outcome (List ℕ)). format_buffer o out) accepted_is)
