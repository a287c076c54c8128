-- Laws of a whole sheet written: measured, then written where it fits. Assumes nothing.
use Prim.Native.Nat.{ℕ}
use native.Mathlib.Omega.{arith}
use mathlib.Core.Path.{◌≡◌, sym, ap, ◌∙◌}
use mathlib.Core.Bool.{Bool, true, false, ◌&&◌}
use mathlib.Core.List.{List, []}
use lib.Dec.{leb}
use lib.ListN.{length}
use Rattle.std.specs.Prelude.{Result, Ok, Err}
use Rattle.syntax.specs.Limits.{sheet_bytes}
use Rattle.syntax.specs.Verdicts.{Outcome, refused, accepted}
use Rattle.syntax.specs.declared.Refusal.{Refusal}
use Rattle.syntax.specs.declared.Refusal.TheVariants.{OutputTooLong}
use Rattle.words.specs.Buffers.{Appended}
use Rattle.words.proofs.BuffersLaws.{then, spelt}
use Rattle.marks.specs.Tables.{DeclarationsAt, ClausesAt}
use Rattle.marks.proofs.ClausesSheets.{sheet-declarations, sheet-clauses}
use Rattle.format_rules.specs.Writing.{declarations_text, clauses_text, formatted}
use Rattle.format_rules.specs.Formatting.{fitting, format_buffer}
use Rattle.formatter.specs.Tables.{SheetReady}
use Rattle.formatter.specs.Sheets.{length_of}
use Rattle.formatter.proofs.DeclarationLaws.{declarations_then}

module _ {s declared : List ℕ} {n : ℕ} {table : List ℕ} {clauses : ℕ} where
  pub sheet_written : {out one new : List ℕ} {past end : ℕ} → ((d : DeclarationsAt s declared n) → Appended out 0 (declarations_text d.list []) one past)
      → ((c : ClausesAt s table 0 clauses) → Appended one past (clauses_text c.list) new end) → (w : SheetReady s declared n table clauses) → Appended out 0 (formatted w.stands.sheet) new end
  unfolding formatted
  sheet_written q r w =
      spelt (declarations_then w.stands.sheet.declarations (clauses_text w.stands.sheet.clauses)) (then (q (sheet-declarations w.stands)) (r (sheet-clauses w.stands)))

  module _ {b : List ℕ} {m : ℕ} (q : (w : SheetReady s declared n table clauses) → Appended [] 0 (formatted w.stands.sheet) b m) (room : ℕ) {fit : Bool}
      (e : fit ≡ (leb m sheet_bytes && leb m room)) where
    fit_is : (w : SheetReady s declared n table clauses) → fit ≡ (leb (length (formatted w.stands.sheet)) sheet_bytes && leb (length (formatted w.stands.sheet)) room)
    fit_is w = e ∙ ap (λ (k : ℕ). leb k sheet_bytes && leb k room) (let z : m ≡ length (formatted w.stands.sheet) = omega (arith, (q w).past) in z)

    by_fit : (w : SheetReady s declared n table clauses) {c : Bool} → fit ≡ c
        → fitting room (formatted w.stands.sheet) ≡ elim c as (λ _. Outcome (List ℕ)) [ true ↦ accepted (formatted w.stands.sheet) | false ↦ refused OutputTooLong ]
    unfolding fitting
    by_fit w f = ap (λ (x : Bool). elim x as (λ _. Outcome (List ℕ)) [ true ↦ accepted (formatted w.stands.sheet) | false ↦ refused OutputTooLong ]) (sym (fit_is w) ∙ f)

    module _ (f : fit ≡ false) where
      pub refused_is : (w : SheetReady s declared n table clauses) → ◌≡◌ {A = Result ℕ Refusal} (Err OutputTooLong) (length_of (fitting room (formatted w.stands.sheet)))
      refused_is w = sym (ap length_of (by_fit w f))

      pub nothing_written : (w : SheetReady s declared n table clauses) (out : List ℕ) → out ≡ format_buffer (fitting room (formatted w.stands.sheet)) out
      nothing_written w out = sym (ap (λ (o : Outcome (List ℕ)). format_buffer o out) (by_fit w f))

    module _ (f : fit ≡ true) {out new : List ℕ} {end : ℕ} (r : (w : SheetReady s declared n table clauses) → Appended out 0 (formatted w.stands.sheet) new end) where
      pub length_is : (w : SheetReady s declared n table clauses) → ◌≡◌ {A = Result ℕ Refusal} (Ok end) (length_of (fitting room (formatted w.stands.sheet)))
      length_is w = ap (λ (k : ℕ). Ok k) (let z : end ≡ length (formatted w.stands.sheet) = omega (arith, (r w).past) in z) ∙ sym (ap length_of (by_fit w f))

      pub buffer_is : (w : SheetReady s declared n table clauses) → new ≡ format_buffer (fitting room (formatted w.stands.sheet)) out
      buffer_is w = (r w).text ∙ sym (ap (λ (o : Outcome (List ℕ)). format_buffer o out) (by_fit w f))
