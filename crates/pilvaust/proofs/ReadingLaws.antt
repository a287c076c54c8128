-- Laws of reading a sheet whole: one for each way out of `pilvaust::reading::read_text`. Assumes nothing.
use Prim.Native.Nat.{ℕ, ◌*◌, ◌≤◌, ◌<◌}
use native.Mathlib.Omega.{arith}
use mathlib.Core.Path.{◌≡◌, refl, sym, ap, ap₂, ◌∙◌, subst}
use mathlib.Core.Bool.{Bool, true, false}
use mathlib.Core.List.{List, [], ◌∷◌}
use mathlib.Core.Option.{Option, none, some}
use lib.ListN.{length}
use Rattle.std.specs.Prelude.{Ok, Err, Some, None}
use Rattle.std.specs.Prelude.{Option as OptionOf}
use borrow.Author.Tests.{le-leb, lt-leb}
use Rattle.syntax.specs.Limits.{sheet_bytes}
use Rattle.syntax.specs.Terms.{Sheet, Declaration}
use Rattle.syntax.specs.Reading.{Read, fault, ok, read_sheet, first_repeat}
use Rattle.syntax.specs.Words.{declarations_words, clauses_words, declaration_words, declaration_size}
use Rattle.syntax.specs.Verdicts.{Outcome, refused, accepted, sheet_from, without_repeats, sheet_of, sheet_verdict, read_verdict}
use Rattle.syntax.specs.Reading.{Cursor}
use Rattle.syntax.specs.declared.Text.TheVariants.{Sheet as in_sheet}
use Rattle.syntax.specs.declared.Refusal.{Refusal}
use Rattle.syntax.specs.declared.Refusal.TheVariants.{TooLong, Repeated}
use Rattle.syntax.specs.Verdicts.{Verdict}
use Rattle.syntax.specs.Verdicts.{Accepted}
use Rattle.parse.specs.Sheets.{LoadGiven, Parses}
use Rattle.parse.specs.declared.sheets.SheetParsed.{SheetParsed}
use Rattle.parse.specs.declared.sheets.SheetFault.{SheetFault}
use Rattle.syntax.specs.declared.Fault.{Fault}
use Rattle.words.specs.Tables.{WordsAt}
use Rattle.marks.specs.Tables.{DeclarationsAt, SheetAt}
use Rattle.marks.specs.Repeating.{repeat_of}
use Rattle.pilvaust.specs.Tables.{Tabled}
use Rattle.marks.proofs.Accepted.{read-stands}
use Rattle.words.proofs.TablesLaws.{has-taken}

-- the four words of each declaration
pub four-words : (ds : List Declaration) → length (declarations_words ds) ≡ declaration_size * length ds
unfolding declarations_words declaration_words
four-words [] = refl
four-words (d ∷ ds) = let h : length (declarations_words ds) ≡ declaration_size * length ds = four-words ds in omega arith

-- ---- the answer to a sheet

pub never : {A : Type 0} (r : Refusal) (x : A) → ◌≡◌ {A = Outcome A} (refused r) (accepted x) → ⊥
never r x e = let z : ◌≡◌ {A = ℕ} 0 1 = cc in omega arith

-- what `read_text` promises of an answer
abbrev pub Answered : List ℕ → List ℕ → List ℕ → Verdict → Type 0
Answered s declared table v = (v ≡ read_verdict s) × ((sh : Sheet) → sheet_of s ≡ accepted sh → Tabled s declared table sh)

answer-refused : (s declared table : List ℕ) (q : Refusal) (f : Fault) → sheet_of s ≡ refused q → f ≡ record { text = in_sheet; refusal = q } → Answered s declared table (Err f)
unfolding read_verdict sheet_verdict
answer-refused s declared table q f e h = (ap (λ (x : Fault). Err x) h ∙ ap sheet_verdict (sym e), λ sh a. absurd (never q sh (sym e ∙ a)))

pub sheet-long : (s declared table : List ℕ) (f : Fault) → sheet_bytes < length s → f ≡ record { text = in_sheet; refusal = TooLong } → Answered s declared table (Err f)
sheet-long s declared table f h e = answer-refused s declared table TooLong f is e
  where
    is : sheet_of s ≡ refused TooLong
    is = unfold sheet_of in ap (λ (b : Bool). elim b as (λ _. Outcome Sheet) [ true ↦ sheet_from (read_sheet s) | false ↦ refused TooLong ]) (lt-leb (length s) sheet_bytes h)

module _ (s declared table : List ℕ) (short : length s ≤ sheet_bytes) where
  sheet-from : sheet_of s ≡ sheet_from (read_sheet s)
  unfolding sheet_of
  sheet-from = ap (λ (b : Bool). elim b as (λ _. Outcome Sheet) [ true ↦ sheet_from (read_sheet s) | false ↦ refused TooLong ]) (le-leb (length s) sheet_bytes short)

  pub sheet-fault : (stop : SheetFault) → Parses s declared table (Err stop) (read_sheet s) → (f : Fault) → f ≡ record { text = in_sheet; refusal = stop.refusal } → Answered s declared table (Err f)
  unfolding sheet_from
  sheet-fault stop g f ef = answer-refused s declared table stop.refusal f (by (read_sheet s) refl g) ef
    where
      by : (d : Read Sheet) → read_sheet s ≡ d → Parses s declared table (Err stop) d → sheet_of s ≡ refused stop.refusal
      by (fault k b) e h = sheet-from ∙ ap sheet_from e ∙ ap refused (sym h.is)
      by (ok sh end) e h = absurd h

  module _ (r : SheetParsed) (g : Parses s declared table (Ok r) (read_sheet s)) where
    read_by : (d : Read Sheet) → read_sheet s ≡ d → Parses s declared table (Ok r) d → (sh : Sheet) × (end : Cursor) × (read_sheet s ≡ ok sh end) × LoadGiven declared table r sh
    read_by (fault k b) e h = absurd h
    read_by (ok sh end) e h = (sh, end, e, h)

    read : (sh : Sheet) × (end : Cursor) × (read_sheet s ≡ ok sh end) × LoadGiven declared table r sh
    read = read_by (read_sheet s) refl g

    has_declarations : WordsAt declared 0 (declarations_words read.0.declarations)
    has_declarations = has-taken declared (declaration_size * r.declarations) (declarations_words read.0.declarations) read.3.holds.declared_is

    has_clauses : WordsAt table 0 (clauses_words read.0.clauses)
    has_clauses = has-taken table r.used (clauses_words read.0.clauses) read.3.holds.table_is

    pub declarations-at : DeclarationsAt s declared r.declarations
    declarations-at = record {
      list = read.0.declarations;
      has = has_declarations;
      count = read.3.holds.ds_is;
      stand = (read-stands s read.0 read.1 read.2).declarations;
    }

    sheet-at : SheetAt s declared (length read.0.declarations) table (length read.0.clauses)
    sheet-at = record {
      sheet = read.0;
      has_declarations = has_declarations;
      declarations_count = refl;
      has_clauses = has_clauses;
      clauses_count = refl;
      stands = read-stands s read.0 read.1 read.2;
    }

    from-repeat : sheet_of s ≡ without_repeats read.0 (first_repeat [] read.0.declarations)
    unfolding sheet_from
    from-repeat = sheet-from ∙ ap sheet_from read.2

    module _ (p : OptionOf ℕ) (ep : (w : DeclarationsAt s declared r.declarations) → p ≡ repeat_of (first_repeat [] w.list)) where
      repeat-is : p ≡ repeat_of (first_repeat [] read.0.declarations)
      unfolding declarations-at
      repeat-is = ep declarations-at

      repeat-by : (o : Option ℕ) (byte : ℕ) → Some byte ≡ repeat_of o → without_repeats read.0 o ≡ refused (Repeated byte)
      unfolding without_repeats
      repeat-by none byte e = absurd (let q : ◌≡◌ {A = ℕ} 0 1 = cc in omega arith)
      repeat-by (some b) byte e = let q : byte ≡ b = cc in ap (λ (k : ℕ). refused (Repeated k)) (sym q)

      pub sheet-repeats : (byte : ℕ) → p ≡ Some byte → (f : Fault) → f ≡ record { text = in_sheet; refusal = Repeated byte } → Answered s declared table (Err f)
      sheet-repeats byte e f ef = answer-refused s declared table (Repeated byte) f (from-repeat ∙ repeat-by (first_repeat [] read.0.declarations) byte (sym e ∙ repeat-is)) ef

      none-by : (o : Option ℕ) → None ≡ repeat_of o → without_repeats read.0 o ≡ accepted read.0
      unfolding without_repeats
      none-by none e = refl
      none-by (some b) e = absurd (let q : ◌≡◌ {A = ℕ} 0 1 = cc in omega arith)

      accepted-is : p ≡ None → sheet_of s ≡ accepted read.0
      accepted-is e = from-repeat ∙ none-by (first_repeat [] read.0.declarations) (sym e ∙ repeat-is)

      same-sheet : (a b : Sheet) → ◌≡◌ {A = Outcome Sheet} (accepted a) (accepted b) → a ≡ b
      same-sheet a b e = cc

      pub sheet_accepted : p ≡ None → Answered s declared table (Accepted r.declarations r.clauses)
      unfolding read_verdict sheet_verdict
      sheet_accepted e = (
        ap₂ Accepted read.3.holds.ds_is read.3.holds.cs_is ∙ ap sheet_verdict (sym (accepted-is e)),
        λ sh a. subst (Tabled s declared table) (same-sheet read.0 sh (sym (accepted-is e) ∙ a)) (record { stands = sheet-at; is = unfold sheet-at in refl }),
      )
