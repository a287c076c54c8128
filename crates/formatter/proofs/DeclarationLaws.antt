-- Laws of declarations written from their words. Assumes nothing.
use Prim.Native.Nat.{ℕ, ◌+◌, ◌*◌, ◌≤◌, ◌<◌}
use native.Mathlib.Omega.{arith}
use mathlib.Core.Path.{◌≡◌, refl, sym, ap, ap₂, ◌∙◌, subst}
use mathlib.Core.List.{List, [], ◌∷◌, ◌++◌}
use lib.ListN.{length, get_or, length-append}
use Rattle.syntax.specs.Tokens.{spelling}
use Rattle.syntax.specs.Limits.{arguments, word_bytes}
use Rattle.syntax.specs.Quote.{bytes}
use Rattle.syntax.specs.Terms.{Mark, Declaration}
use Rattle.syntax.specs.Words.{declaration_size, mark_number, marks_number, first_mark, other_marks, declaration_words, declarations_words}
use Rattle.syntax.proofs.Words.{marks-first, marks-others}
use Rattle.words.specs.Buffers.{Appended}
use Rattle.words.specs.Tables.{WordsAt}
use Rattle.words.proofs.BuffersLaws.{nothing, then, spelt}
use Rattle.words.proofs.TablesLaws.{has_left, has_right}
use Rattle.marks.specs.Spelt.{DeclarationSpelt, DeclarationsSpelt, declaration_stands}
use Rattle.marks.specs.Tables.{DeclarationAt, DeclarationsAt}
use Rattle.format_rules.specs.Writing.{mark_byte, more_marks, marks_text, end_text, declaration_text, declarations_text}
use Rattle.formatter.specs.Tables.{declaration_room}
use Rattle.formatter.proofs.Progress.{Before, in_turn, behind_bytes, AppendedBut, begun, further, ended, all_done}

-- ---- marks

-- marks in one number
abbrev pub Packed : ℕ → ℕ → List Mark → Type 0
Packed marks count ms = (marks ≡ marks_number ms) × (count ≡ length ms)

pub no_marks : {at : ℕ} {out : List ℕ} {count : ℕ} → count ≡ 0 → (ms : List Mark) → count ≡ length ms → Appended out at (marks_text ms []) out at
unfolding marks_text
no_marks {at} {out} z [] e = nothing out at
no_marks z (m ∷ ms) e = absurd (omega arith)

-- what is left of some marks, of which i are written
pub record MarksAhead (left i count : ℕ) : Type 0 where
  pub rest : List Mark
  number : left ≡ marks_number rest
  some : i + length rest ≡ count

pub first_of : {marks count : ℕ} → (count ≡ 0 → ⊥) → (ms : List Mark) → Packed marks count ms → {first : ℕ} → first ≡ first_mark marks → (m : Mark) × (first ≡ mark_number m)
first_of d [] e f = absurd (d e.1)
first_of d (m ∷ ms) e f = (m, f ∙ ap first_mark e.0 ∙ marks-first m ms)

pub next_of : {left i count : ℕ} → i < count → MarksAhead left i count → {first : ℕ} → first ≡ first_mark left → (m : Mark) × (first ≡ mark_number m)
next_of {left} {i} {count} l a = by a.rest a.number a.some
  where
    by : (ms : List Mark) → left ≡ marks_number ms → i + length ms ≡ count → {first : ℕ} → first ≡ first_mark left → (m : Mark) × (first ≡ mark_number m)
    by [] n s f = absurd (omega arith)
    by (m ∷ ms) n s f = (m, f ∙ ap first_mark n ∙ marks-first m ms)

-- written but for the marks ahead
abbrev pub MarksWritten : {left i count : ℕ} → MarksAhead left i count → List Mark → List ℕ → ℕ → List ℕ → ℕ → Type 0
MarksWritten a ms old from new to = AppendedBut old from (marks_text ms []) (more_marks a.rest []) new to

module _ {first byte : ℕ} (b : (m : Mark) → first ≡ mark_number m → byte ≡ mark_byte m) {old one new : List ℕ} {from past to : ℕ} where
  pub marks_begun : {marks left count : ℕ} → (count ≡ 0 → ⊥) → first ≡ first_mark marks → left ≡ other_marks marks → Appended old from (40 ∷ []) one past → Appended one past (byte ∷ []) new to
      → (ms : List Mark) → marks ≡ marks_number ms → count ≡ length ms → (a : MarksAhead left 1 count) × MarksWritten a ms old from new to
  unfolding marks_text
  marks_begun d f o q r [] n e = absurd (d e)
  marks_begun d f o q r (m ∷ ms) n e = (
    record { rest = ms; number = o ∙ ap other_marks n ∙ marks-others m ms; some = omega arith },
    record {
      done = 40 ∷ byte ∷ [];
      appended = then q r;
      is = ap (λ (k : ℕ). 40 ∷ k ∷ more_marks ms []) (sym (b m (f ∙ ap first_mark n ∙ marks-first m ms)));
    },
  )

  -- a comma and a mark
  pub marks_further : {left others i count : ℕ} → i < count → first ≡ first_mark left → others ≡ other_marks left → Appended old from (44 ∷ []) one past → Appended one past (byte ∷ []) new to
      → (ms : List Mark) {start : List ℕ} {begin : ℕ} → (a : MarksAhead left i count) × MarksWritten a ms start begin old from → (a : MarksAhead others (i + 1) count) × MarksWritten a ms start begin new to
  unfolding more_marks
  marks_further {left} {others} {i} {count} l f o q r ms {start} {begin} w = by w.0.rest w.0.number w.0.some w.1
    where
      by : (xs : List Mark) → left ≡ marks_number xs → i + length xs ≡ count → AppendedBut start begin (marks_text ms []) (more_marks xs []) old from
          → (a : MarksAhead others (i + 1) count) × MarksWritten a ms start begin new to
      by [] n s w1 = absurd (omega arith)
      by (m ∷ xs) n s w1 = (
        record { rest = xs; number = o ∙ ap other_marks n ∙ marks-others m xs; some = omega arith },
        further (ap (λ (k : ℕ). 44 ∷ k ∷ more_marks xs []) (sym (b m (f ∙ ap first_mark n ∙ marks-first m xs)))) w1 (then q r),
      )

pub marks_ended : {left i count : ℕ} → count ≤ i → (ms : List Mark) {old new after : List ℕ} {from to end : ℕ} → (a : MarksAhead left i count) × MarksWritten a ms old from new to
    → Appended new to (41 ∷ []) after end → Appended old from (marks_text ms []) after end
unfolding more_marks
marks_ended {left} {i} {count} l ms {old} {new} {after} {from} {to} {end} w q = by w.0.rest w.0.some w.1
  where
    by : (xs : List Mark) → i + length xs ≡ count → AppendedBut old from (marks_text ms []) (more_marks xs []) new to → Appended old from (marks_text ms []) after end
    by [] s w1 = ended refl w1 q
    by (m ∷ xs) s w1 = absurd (omega arith)

-- what follows stands behind, and so many bytes they are
more_then : (ms : List Mark) → Before (more_marks ms)
unfolding more_marks
more_then [] rest = refl
more_then (m ∷ ms) rest = ap (λ (w : List ℕ). 44 ∷ mark_byte m ∷ w) (more_then ms rest)

marks_then : (ms : List Mark) → Before (marks_text ms)
unfolding marks_text
marks_then [] rest = refl
marks_then (m ∷ ms) rest = ap (λ (w : List ℕ). 40 ∷ mark_byte m ∷ w) (more_then ms rest)

more_short : (ms : List Mark) → length (more_marks ms []) ≡ 1 + 2 * length ms
unfolding more_marks
more_short [] = refl
more_short (m ∷ ms) = omega (arith, more_short ms)

marks_short : (ms : List Mark) → length (marks_text ms []) ≤ 1 + 2 * length ms
unfolding marks_text
marks_short [] = omega arith
marks_short (m ∷ ms) = omega (arith, more_short ms)

-- ---- one declaration

marks_end : (ms : List Mark) → Before (λ rest. marks_text ms (end_text rest))
marks_end ms = in_turn (marks_text ms) end_text (marks_then ms) (λ more. refl)

declaration_then : (d : Declaration) → Before (declaration_text d)
unfolding declaration_text
declaration_then d =
    behind_bytes (bytes ":- mode ") (λ rest. d.name ++ marks_text d.marks (end_text rest))
    (behind_bytes d.name (λ rest. marks_text d.marks (end_text rest)) (marks_end d.marks))

declaration_short : {s : List ℕ} (d : Declaration) → DeclarationSpelt s d → length (declaration_text d []) ≤ declaration_room
unfolding declaration_text
declaration_short d k =
    omega (
      arith,
      length-append d.name (marks_text d.marks (end_text [])),
      ap length (marks_then d.marks (end_text [])),
      length-append (marks_text d.marks []) (end_text []),
      marks_short d.marks,
      k.name.short,
      k.few,
    )

-- what its words say
pub record Says (s words : List ℕ) (p : ℕ) (d : Declaration) : Type 0 where
  pub inside : p + 3 < length words
  pub place : get_or words p 0 ≡ d.at
  pub long : get_or words (p + 1) 0 ≡ length d.name
  pub many : get_or words (p + 2) 0 ≡ length d.marks
  pub marks : get_or words (p + 3) 0 ≡ marks_number d.marks

pub says : {s words : List ℕ} {p : ℕ} (w : DeclarationAt s words p) → Says s words p w.declaration
unfolding declaration_words
says {s} {words} {p} w =
    let two : p + 1 + 1 ≡ p + 2 = omega arith in
    let three : p + 1 + 1 + 1 ≡ p + 3 = omega arith in
    record {
      inside = subst (λ (k : ℕ). k < length words) three w.has.2.2.2.0;
      place = w.has.1;
      long = w.has.2.1;
      many = subst (λ (k : ℕ). get_or words k 0 ≡ length w.declaration.marks) two w.has.2.2.1;
      marks = subst (λ (k : ℕ). get_or words k 0 ≡ marks_number w.declaration.marks) three w.has.2.2.2.1;
    }

module _ {s words : List ℕ} {p at len count marks : ℕ} (ea : at ≡ get_or words p 0) (el : len ≡ get_or words (p + 1) 0) (ec : count ≡ get_or words (p + 2) 0) (em : marks ≡ get_or words (p + 3) 0) where
  pub name_inside : DeclarationAt s words p → (at + len ≤ length s) × (len ≤ word_bytes)
  name_inside w = omega (arith, (says w).place, (says w).long, w.stands.name.inside, w.stands.name.short)

  pub packed : (w : DeclarationAt s words p) → Packed marks count w.declaration.marks
  packed w = (em ∙ (says w).marks, ec ∙ (says w).many)

  pub few_marks : DeclarationAt s words p → count ≤ arguments
  few_marks w = omega (arith, (says w).many, w.stands.few)

  module _ {two three : List ℕ} {later behind : ℕ} (m : (ms : List Mark) → marks ≡ marks_number ms → count ≡ length ms → Appended two later (marks_text ms []) three behind) where
    pub marks_near : DeclarationAt s words p → behind ≤ later + 17
    marks_near w =
        let k = packed w in omega (arith, (m w.declaration.marks k.0 k.1).past, marks_short w.declaration.marks, w.stands.few)

    pub declaration_written : {old one new : List ℕ} {from past end : ℕ} → Appended old from (bytes ":- mode ") one past → Appended one past (spelling s at len) two later
        → Appended three behind (46 ∷ 10 ∷ []) new end → (w : DeclarationAt s words p) → Appended old from (declaration_text w.declaration []) new end
    unfolding declaration_text
    declaration_written q n r w =
        let d : Declaration = w.declaration in
        let k = packed w in
        let name : d.name ≡ spelling s at len = w.stands.name.spelt ∙ ap₂ (λ (a l : ℕ). spelling s a l) (sym (ea ∙ (says w).place)) (sym (el ∙ (says w).long)) in
        spelt (ap₂ (λ (x y : List ℕ). bytes ":- mode " ++ (x ++ y)) name (marks_then d.marks (end_text []))) (then q (then n (then (m d.marks k.0 k.1) r)))

-- ---- the declarations in turn

-- what is left of the declarations, of which i are written
pub record DeclarationsAhead (s words : List ℕ) (i many : ℕ) : Type 0 where
  pub rest : List Declaration
  has : WordsAt words (declaration_size * i) (declarations_words rest)
  count : i + length rest ≡ many
  stand : DeclarationsSpelt s rest

record Parted (s words : List ℕ) (i many : ℕ) (ds : List Declaration) : Type 0 where
  first : DeclarationAt s words (declaration_size * i)
  others : List Declaration
  is : ds ≡ first.declaration ∷ others
  has : WordsAt words (declaration_size * (i + 1)) (declarations_words others)
  count : i + 1 + length others ≡ many
  stand : DeclarationsSpelt s others

parted_by : (s words : List ℕ) (i many : ℕ) (ds : List Declaration) → i < many → WordsAt words (declaration_size * i) (declarations_words ds) → i + length ds ≡ many → DeclarationsSpelt s ds
    → Parted s words i many ds
unfolding declarations_words declaration_words
parted_by s words i many [] l h c k = absurd (omega arith)
parted_by s words i many (d ∷ ds) l h c (declaration_stands k ks) = record {
  first = record { declaration = d; has = has_left words (declaration_size * i) (declaration_words d) (declarations_words ds) h; stands = k };
  others = ds;
  is = refl;
  has =
      subst (λ (p : ℕ). WordsAt words p (declarations_words ds)) (let e : declaration_size * i + 4 ≡ declaration_size * (i + 1) = omega arith in e)
      (has_right words (declaration_size * i) (declaration_words d) (declarations_words ds) h);
  count = omega arith;
  stand = ks;
}

none_left : {s words : List ℕ} {i many : ℕ} → many ≤ i → (a : DeclarationsAhead s words i many) → a.rest ≡ []
none_left {i = i} {many = many} l a = by a.rest a.count
  where
    by : (ds : List Declaration) → i + length ds ≡ many → ds ≡ []
    by [] e = refl
    by (d ∷ ds) e = absurd (omega arith)

-- written but for the declarations ahead
abbrev pub DeclarationsWritten : {s words : List ℕ} {i many : ℕ} → DeclarationsAhead s words i many → List Declaration → List ℕ → List ℕ → ℕ → Type 0
DeclarationsWritten a ds old new to = AppendedBut old 0 (declarations_text ds []) (declarations_text a.rest []) new to

pub declarations_begun : {s words : List ℕ} {many : ℕ} (w : DeclarationsAt s words many) {old : List ℕ} → (a : DeclarationsAhead s words 0 many) × DeclarationsWritten a w.list old old 0
declarations_begun w = (record { rest = w.list; has = w.has; count = omega (arith, w.count); stand = w.stand }, begun refl)

-- what follows some declarations stands behind them
pub declarations_then : (ds : List Declaration) → Before (declarations_text ds)
unfolding declarations_text
declarations_then [] rest = refl
declarations_then (d ∷ ds) rest = in_turn (declaration_text d) (declarations_text ds) (declaration_then d) (declarations_then ds) rest

module _ {s words : List ℕ} {i many : ℕ} where
  module _ (l : i < many) where
    parted : (a : DeclarationsAhead s words i many) → Parted s words i many a.rest
    parted a = parted_by s words i many a.rest l a.has a.count a.stand

    pub next_declaration : DeclarationsAhead s words i many → DeclarationAt s words (declaration_size * i)
    next_declaration a = (parted a).first

    -- the declaration that was written
    module _ {new after : List ℕ} {to end : ℕ} (q : (w : DeclarationAt s words (declaration_size * i)) → Appended new to (declaration_text w.declaration []) after end) where
      pub room_left : DeclarationsAhead s words i many → to ≤ declaration_room * i → end ≤ declaration_room * (i + 1)
      room_left a h = let x = (parted a).first in omega (arith, (q x).past, declaration_short x.declaration x.stands)

      pub declarations_further : (ds : List Declaration) {old : List ℕ} → (a : DeclarationsAhead s words i many) × DeclarationsWritten a ds old new to
          → (a : DeclarationsAhead s words (i + 1) many) × DeclarationsWritten a ds old after end
      unfolding declarations_text
      declarations_further ds w =
          let o : Parted s words i many w.0.rest = parted w.0 in (
            record { rest = o.others; has = o.has; count = o.count; stand = o.stand },
            further (ap (λ (xs : List Declaration). declarations_text xs []) o.is ∙ declaration_then o.first.declaration (declarations_text o.others [])) w.1 (q o.first),
          )

  pub declarations_ended : many ≤ i → (ds : List Declaration) {old new : List ℕ} {to : ℕ} → (a : DeclarationsAhead s words i many) × DeclarationsWritten a ds old new to
      → Appended old 0 (declarations_text ds []) new to
  unfolding declarations_text
  declarations_ended l ds w = all_done (ap (λ (xs : List Declaration). declarations_text xs []) (none_left l w.0)) w.1
