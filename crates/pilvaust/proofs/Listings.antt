-- Laws of listings: what stands in the table is written over a list as `overlay` says. Assumes nothing.
use Prim.Native.Nat.{ℕ, ◌*◌, ◌≤◌, ◌<◌, zero-le}
use native.Mathlib.Omega.{arith}
use mathlib.Core.Path.{◌≡◌, refl, sym, ap, ap₂, ◌∙◌, subst}
use mathlib.Core.Bool.{Bool, cond}
use mathlib.Core.List.{List, [], ◌∷◌}
use lib.ListN.{length}
use lib.Dec.{leb}
use borrow.Author.Tests.{lt-leb}
use Rattle.syntax.specs.Terms.{Sheet}
use Rattle.syntax.specs.Limits.{declarations}
use Rattle.syntax.specs.Words.{declaration_size, declared_words, declarations_words}
use Rattle.syntax.specs.Verdicts.{Outcome, refused, accepted, sheet_of, sheet_verdict, read_verdict, nth_entry}
use Rattle.syntax.specs.declared.Text.TheVariants.{Sheet as in_sheet}
use Rattle.syntax.specs.declared.Refusal.{Refusal}
use Rattle.syntax.specs.Verdicts.{Verdict}
use Rattle.syntax.specs.Verdicts.{Accepted, Refused}
use Rattle.syntax.specs.declared.Entry.{Entry}
use Rattle.std.specs.Prelude.{Some, None}
use Rattle.mode_rules.specs.Checking.{checked_sheet, verdict_with, check_verdict}
use Rattle.words.specs.Tables.{WordsAt}
use Rattle.pilvaust.specs.Tables.{Tabled}
use Rattle.output.specs.Listings.{overlay, declared_of, listed_of, pasted, ListingOf}
use Rattle.words.specs.Tables.{entry_from}
use Rattle.output.proofs.ListingsLaws.{least_by, pasted-overlay}
use Rattle.pilvaust.proofs.ReadingLaws.{four-words}
use Rattle.pilvaust.proofs.ReadingEntries.{entry-from, long-by}

-- ---- listings

module _ (s words table : List ℕ) (size : declared_words ≡ length words) (room : ℕ) where
  module _ (sh : Sheet) (t : Tabled s words table sh) where
    abbrev n : ℕ
    n = length sh.declarations

    abbrev m : ℕ
    m = cond (leb n room) n room

    has : WordsAt words 0 (declarations_words sh.declarations)
    has = subst (λ (x : Sheet). WordsAt words 0 (declarations_words x.declarations)) t.is t.stands.has_declarations

    few : n ≤ declarations
    few =
        let l : length (declarations_words sh.declarations) ≤ length words = long-by words (declarations_words sh.declarations) has in
        let f : length (declarations_words sh.declarations) ≡ declaration_size * n = four-words sh.declarations in
        let z : declared_words ≡ length words = size in
        omega arith

    each : (i : ℕ) → i < n → nth_entry sh.declarations i ≡ Some (entry_from words i)
    each i h = entry-from words sh.declarations 0 i (declaration_size * i) (omega arith) has ∙ ap (λ (b : Bool). cond b None (Some (entry_from words i))) (lt-leb n i h)

    lists-sheet : ListingOf (accepted sh) room (record { verdict = Accepted n (length sh.clauses); count = m; words = words })
    unfolding sheet_verdict declared_of
    lists-sheet =
        let l : (m ≤ n) × (m ≤ room) × (m < n → room ≤ m) = least_by n room (leb n room) refl in
        let a : m ≤ n = l.0 in
        let f : n ≤ declarations = few in
        let z : m ≤ declarations = omega arith in
        record { is = refl; size = size; short = z; within = l.1; fills = λ es e. pasted-overlay (entry_from words) es sh.declarations m each a (subst (λ (x : ℕ). m ≤ x) (sym e) l.1) (λ h. subst (λ (x : ℕ). x ≤ m) (sym e) (l.2 h)) }

  lists-refused : (r : Refusal) → ListingOf (refused r) room (record { verdict = Refused in_sheet r; count = 0; words = words })
  unfolding sheet_verdict declared_of pasted overlay
  lists-refused r = record { is = refl; size = size; short = zero-le; within = zero-le; fills = λ es e. kept es }
    where
      kept : (es : List Entry) → pasted (entry_from words) 0 es ≡ overlay es []
      kept [] = refl
      kept (x ∷ xs) = refl

  lists-by : (o : Outcome Sheet) → ((sh : Sheet) → o ≡ accepted sh → Tabled s words table sh) → ListingOf o room (record { verdict = sheet_verdict o; count = listed_of (sheet_verdict o) room; words = words })
  unfolding sheet_verdict listed_of
  lists-by (refused r) h = lists-refused r
  lists-by (accepted sh) h = lists-sheet sh (h sh refl)

  pub lists : (o : Outcome Sheet) (v : Verdict) (k : ℕ) → v ≡ sheet_verdict o → ((sh : Sheet) → o ≡ accepted sh → Tabled s words table sh) → k ≡ listed_of v room → ListingOf o room (record { verdict = v; count = k; words = words })
  lists o v k e h c = subst (λ (x : Verdict × ℕ). ListingOf o room (record { verdict = x.0; count = x.1; words = words })) (ap₂ (λ (x : Verdict) (y : ℕ). (x, y)) (sym e) (sym (c ∙ ap (λ (x : Verdict). listed_of x room) e))) (lists-by o h)

  pub read-lists : (v : Verdict) (k : ℕ) → v ≡ read_verdict s → ((sh : Sheet) → sheet_of s ≡ accepted sh → Tabled s words table sh) → k ≡ listed_of v room → ListingOf (sheet_of s) room (record { verdict = v; count = k; words = words })
  unfolding read_verdict
  read-lists v k e h c = lists (sheet_of s) v k e h c

  pub check-lists : (v : Verdict) (k : ℕ) → v ≡ check_verdict s → ((sh : Sheet) → checked_sheet s ≡ accepted sh → Tabled s words table sh) → k ≡ listed_of v room → ListingOf (checked_sheet s) room (record { verdict = v; count = k; words = words })
  unfolding verdict_with
  check-lists v k e h c = lists (checked_sheet s) v k e h c
