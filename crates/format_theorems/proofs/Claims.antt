-- The theorems about writings. Assumes nothing.
use Prim.Native.Nat.{ℕ, ◌≤◌}
use native.Mathlib.Omega.{arith}
use mathlib.Core.Path.{◌≡◌, refl, sym, ap, ap₂, ◌∙◌, subst}
use mathlib.Core.Bool.{Bool, true, false, ◌&&◌}
use mathlib.Core.List.{List, []}
use mathlib.Core.Option.{Option, none, some}
use lib.Dec.{leb}
use lib.ListN.{length}
use borrow.Author.Tests.{le-leb, leb-true}
use Rattle.syntax.specs.Limits.{sheet_bytes}
use Rattle.syntax.specs.Terms.{Sheet}
use Rattle.syntax.specs.Reading.{Cursor, Read, fault, ok, read_sheet, first_repeat}
use Rattle.syntax.specs.Verdicts.{Outcome, refused, accepted, without_repeats, sheet_from, sheet_of}
use Rattle.syntax.specs.declared.Refusal.{Refusal}
use Rattle.syntax.specs.declared.Refusal.TheVariants.{TooLong, OutputTooLong}
use Rattle.mode_rules.specs.Modes.{sheet_fault}
use Rattle.mode_rules.specs.Checking.{faultless, checked_from, checked_with, checked_sheet}
use Rattle.format_rules.specs.Writing.{formatted}
use Rattle.format_rules.specs.Plain.{plain, SameButForPlaces}
use Rattle.format_rules.specs.Formatting.{fitting, formatting_from, formatting}
use Rattle.format_rules.specs.Claims.{TextsSameButForPlaces, EqualExactlyButForNames, WrittenAgainTheSame, ReadBackTheSame}
use Rattle.format_theorems.proofs.Variables.{both}
use Rattle.format_theorems.proofs.Sheets.{ReadBack, sheet_back}
use Rattle.format_theorems.proofs.Fitting.{read_fits}
use Rattle.format_theorems.proofs.Places.{agree_same}
use Rattle.format_theorems.proofs.Names.{agree_if_same, same_if_agree}
use Rattle.format_theorems.proofs.Acceptance.{faultless_too, unrepeated_too}

-- ---- what an accepted text is

-- what was read, and no fault was found in it
record Accepts (s : List ℕ) (sh : Sheet) : Type 0 where
  after : Cursor
  read : read_sheet s ≡ ok sh after
  unrepeated : first_repeat [] sh.declarations ≡ none
  faultless : sheet_fault false sh ≡ none
  short : length s ≤ sheet_bytes

no_refusal : {A B : Type 0} {r : Refusal} {a : A} → ◌≡◌ {A = Outcome A} (refused r) (accepted a) → B
no_refusal e = let w : ◌≡◌ {A = ℕ} 0 1 = cc in absurd (omega arith)

same_accepted : {A : Type 0} {a b : A} → ◌≡◌ {A = Outcome A} (accepted a) (accepted b) → a ≡ b
same_accepted e = cc

module _ {s : List ℕ} {sh : Sheet} where
  by_faults : (x : Sheet) (st : Cursor) (o : Option Refusal) → read_sheet s ≡ ok x st → first_repeat [] x.declarations ≡ none → length s ≤ sheet_bytes → sheet_fault false x ≡ o
      → faultless x o ≡ accepted sh → Accepts s sh
  unfolding faultless
  by_faults x st (some r) r1 r2 l f e = no_refusal e
  by_faults x st none r1 r2 l f e =
      let same : x ≡ sh = same_accepted e in
      record {
        after = st;
        read = r1 ∙ ap (λ (y : Sheet). ok y st) same;
        unrepeated = subst (λ (y : Sheet). first_repeat [] y.declarations ≡ none) same r2;
        faultless = subst (λ (y : Sheet). sheet_fault false y ≡ none) same f;
        short = l;
      }

  by_repeats : (x : Sheet) (st : Cursor) (o : Option ℕ) → read_sheet s ≡ ok x st → length s ≤ sheet_bytes → first_repeat [] x.declarations ≡ o
      → checked_from false (without_repeats x o) ≡ accepted sh → Accepts s sh
  unfolding checked_from without_repeats
  by_repeats x st (some b) r1 l f e = no_refusal e
  by_repeats x st none r1 l f e = by_faults x st (sheet_fault false x) r1 f l refl e

  by_read : (r : Read Sheet) → read_sheet s ≡ r → length s ≤ sheet_bytes → checked_from false (sheet_from r) ≡ accepted sh → Accepts s sh
  unfolding sheet_from checked_from
  by_read (fault n b) q l e = no_refusal e
  by_read (ok x st) q l e = by_repeats x st (first_repeat [] x.declarations) q l refl e

  by_length : (b : Bool) → leb (length s) sheet_bytes ≡ b
      → checked_from false (elim b as (λ _. Outcome Sheet) [ true ↦ sheet_from (read_sheet s) | false ↦ refused TooLong ]) ≡ accepted sh → Accepts s sh
  unfolding checked_from
  by_length true q e = by_read (read_sheet s) refl (leb-true (length s) sheet_bytes q) e
  by_length false q e = no_refusal e

  accepts : checked_sheet s ≡ accepted sh → Accepts s sh
  unfolding checked_with sheet_of
  accepts e = by_length (leb (length s) sheet_bytes) refl e

  is_accepted : Accepts s sh → checked_sheet s ≡ accepted sh
  unfolding checked_with sheet_of sheet_from without_repeats checked_from faultless
  is_accepted a =
      ap (λ (b : Bool). checked_from false (elim b as (λ _. Outcome Sheet) [ true ↦ sheet_from (read_sheet s) | false ↦ refused TooLong ])) (le-leb (length s) sheet_bytes a.short)
      ∙ ap (λ (r : Read Sheet). checked_from false (sheet_from r)) a.read
      ∙ ap (λ (o : Option ℕ). checked_from false (without_repeats sh o)) a.unrepeated
      ∙ ap (λ (o : Option Refusal). faultless sh o) a.faultless

-- ---- the writing of an accepted text

-- it is accepted, and its sheet agrees
record Again (sh : Sheet) : Type 0 where
  sheet : Sheet
  accepted : checked_sheet (formatted sh) ≡ accepted sheet
  agrees : SameButForPlaces sheet sh

again : (s : List ℕ) {sh : Sheet} → checked_sheet s ≡ accepted sh → length (formatted sh) ≤ sheet_bytes → Again sh
again s {sh} e l =
    let a : Accepts s sh = accepts e in
    let b : ReadBack sh = sheet_back sh (read_fits s sh a.after a.read) in
    record {
      sheet = b.item;
      accepted = is_accepted (record { after = b.after; read = b.read; unrepeated = unrepeated_too b.item sh b.same a.unrepeated; faultless = faultless_too false b.item sh b.same a.faultless; short = l });
      agrees = b.same;
    }

-- equal writings are those of sheets that agree: reading is a function
equal_agree : (s t : List ℕ) {x y : Sheet} → checked_sheet s ≡ accepted x → checked_sheet t ≡ accepted y → formatted x ≡ formatted y → SameButForPlaces x y
equal_agree s t {x} {y} e f q =
    let a : Accepts s x = accepts e in
    let c : Accepts t y = accepts f in
    let b : ReadBack x = sheet_back x (read_fits s x a.after a.read) in
    let d : ReadBack y = sheet_back y (read_fits t y c.after c.read) in
    let same : ok b.item b.after ≡ ok d.item d.after = sym b.read ∙ ap read_sheet q ∙ d.read in
    let one : b.item ≡ d.item = cc in
    sym b.same ∙ ap plain one ∙ d.same

-- ---- the claims

-- what was written: the sheet that was accepted, and that its writing fits
record Wrote (room : ℕ) (s w : List ℕ) : Type 0 where
  sheet : Sheet
  accepted : checked_sheet s ≡ accepted sheet
  writing : formatted sheet ≡ w
  short : length w ≤ sheet_bytes

wrote_fitting : (room : ℕ) {w v : List ℕ} → fitting room v ≡ accepted w → (v ≡ w) × (length w ≤ sheet_bytes)
unfolding fitting
wrote_fitting room {w} {v} e = by (leb (length v) sheet_bytes && leb (length v) room) refl e
  where
    by : (b : Bool) → (leb (length v) sheet_bytes && leb (length v) room) ≡ b → elim b as (λ _. Outcome (List ℕ)) [ true ↦ accepted v | false ↦ refused OutputTooLong ] ≡ accepted w
        → (v ≡ w) × (length w ≤ sheet_bytes)
    by true q f =
        let same : v ≡ w = same_accepted f in
        (same, subst (λ (x : List ℕ). length x ≤ sheet_bytes) same (leb-true (length v) sheet_bytes (both (leb (length v) sheet_bytes) (leb (length v) room) q).0))
    by false q f = no_refusal f

wrote_from : (room : ℕ) {s w : List ℕ} (o : Outcome Sheet) → checked_sheet s ≡ o → formatting_from room o ≡ accepted w → Wrote room s w
unfolding formatting_from
wrote_from room (refused r) q e = no_refusal e
wrote_from room (accepted sh) q e = let f = wrote_fitting room e in record { sheet = sh; accepted = q; writing = f.0; short = f.1 }

wrote : (room : ℕ) {s w : List ℕ} → formatting room s ≡ accepted w → Wrote room s w
unfolding formatting
wrote room {s = s} e = wrote_from room (checked_sheet s) refl e

fits : (room : ℕ) (w : List ℕ) → length w ≤ sheet_bytes → length w ≤ room → fitting room w ≡ accepted w
unfolding fitting
fits room w l h =
    ap₂ (λ (a b : Bool). elim (a && b) as (λ _. Outcome (List ℕ)) [ true ↦ accepted w | false ↦ refused OutputTooLong ]) (le-leb (length w) sheet_bytes l) (le-leb (length w) room h)

pub read_back_the_same : ReadBackTheSame
read_back_the_same room s w e =
    let a : Wrote room s w = wrote room e in
    let b : Again a.sheet = again s a.accepted (subst (λ (x : List ℕ). length x ≤ sheet_bytes) (sym a.writing) a.short) in
    record { one = b.sheet; two = a.sheet; one_accepted = subst (λ (x : List ℕ). checked_sheet x ≡ accepted b.sheet) a.writing b.accepted; two_accepted = a.accepted; same = b.agrees }

pub written_again_the_same : WrittenAgainTheSame
unfolding formatting formatting_from
written_again_the_same room space s w e l =
    let a : Wrote room s w = wrote room e in
    let b : Again a.sheet = again s a.accepted (subst (λ (x : List ℕ). length x ≤ sheet_bytes) (sym a.writing) a.short) in
    let c : checked_sheet w ≡ accepted b.sheet = subst (λ (x : List ℕ). checked_sheet x ≡ accepted b.sheet) a.writing b.accepted in
    ap (formatting_from space) c ∙ ap (fitting space) (agree_same b.sheet a.sheet b.agrees ∙ a.writing) ∙ fits space w a.short l

-- equal outputs are those of sheets that are the same but for places, and only of those
EqualExactlyButForPlaces : Type 0
EqualExactlyButForPlaces = (room space : ℕ) (s t w v : List ℕ) → formatting room s ≡ accepted w → formatting space t ≡ accepted v
    → (w ≡ v → TextsSameButForPlaces s t) × (TextsSameButForPlaces s t → w ≡ v)

equal_exactly_but_for_places : EqualExactlyButForPlaces
unfolding EqualExactlyButForPlaces
equal_exactly_but_for_places room space s t w v e f =
    let a : Wrote room s w = wrote room e in
    let b : Wrote space t v = wrote space f in (
      (λ q. record { one = a.sheet; two = b.sheet; one_accepted = a.accepted; two_accepted = b.accepted; same = equal_agree s t a.accepted b.accepted (a.writing ∙ q ∙ sym b.writing) }),
      (λ c.
          let x : a.sheet ≡ c.one = same_accepted (sym a.accepted ∙ c.one_accepted) in
          let y : c.two ≡ b.sheet = same_accepted (sym c.two_accepted ∙ b.accepted) in
          sym a.writing ∙ ap formatted x ∙ agree_same c.one c.two c.same ∙ ap formatted y ∙ b.writing),
    )

-- the same, said by renamings
pub equal_exactly_but_for_names : EqualExactlyButForNames
unfolding EqualExactlyButForPlaces
equal_exactly_but_for_names room space s t w v e f =
    let both_ways = equal_exactly_but_for_places room space s t w v e f in (
      (λ q. let a = both_ways.0 q in record { one = a.one; two = a.two; one_accepted = a.one_accepted; two_accepted = a.two_accepted; same = same_if_agree a.one a.two a.same }),
      (λ c.
          let x : Accepts s c.one = accepts c.one_accepted in
          let y : Accepts t c.two = accepts c.two_accepted in
          both_ways.1 (record {
            one = c.one;
            two = c.two;
            one_accepted = c.one_accepted;
            two_accepted = c.two_accepted;
            same = agree_if_same c.one c.two (read_fits s c.one x.after x.read) (read_fits t c.two y.after y.read) c.same;
          })),
    )
