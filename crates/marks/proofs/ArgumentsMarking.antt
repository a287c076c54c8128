-- Laws of the arguments of one mark, one for each way out of the functions. Assumes nothing.
use Prim.Native.Nat.{ℕ, suc, ◌+◌, ◌≤◌, ◌<◌}
use native.Mathlib.Numerals.{add-one}
use native.Mathlib.Omega.{arith}
use mathlib.Core.Path.{◌≡◌, refl, sym, ap, ap₂, ◌∙◌, subst⁻¹}
use mathlib.Core.Bool.{Bool, true, false}
use mathlib.Core.List.{List, [], ◌∷◌}
use mathlib.Core.Option.{Option, none, some}
use lib.Dec.{eqb}
use lib.ListN.{length, get_or, length-append}
use borrow.Author.Tests.{eq-eqb, ne_eqb}
use Rattle.syntax.specs.Terms.{Term, Terms, nil, cons, Mark, input, output, free}
use Rattle.syntax.specs.Words.{term_words, terms_words, mark_number, marks_number, first_mark, other_marks}
use Rattle.syntax.proofs.Words.{mark-some, marks-first, marks-others}
use Rattle.mode_rules.specs.Modes.{Known, open_byte, same_mark, list_of, if_marked, OpenArgument, first_open, ground_if, ground_marked, ground_term}
use Rattle.marks.specs.Spelt.{AllNumbered, numbered_cons}
use Rattle.words.specs.Tables.{WordsAt}
use Rattle.marks.specs.Tables.{TermAt, TermsAt, MarkedAt}
use Rattle.marks.specs.Answers.{groundness_of}
use Rattle.marks.specs.ArgumentsAnswers.{first_open_of}
use Rattle.std.specs.Prelude.{Option as Perhaps, Some, None}
use Rattle.marks.specs.declared.arguments.FirstOpen.{FirstOpen}
use Rattle.words.proofs.TablesLaws.{has_left, has_right, has-inside}
use Rattle.marks.proofs.Places.{sized, past-ends, cons-long, Parted, parted}

-- ---- arguments with a mark

same_number : (m k : Mark) → eqb (mark_number k) (mark_number m) ≡ same_mark m k
unfolding same_mark
same_number input input = refl
same_number input output = refl
same_number input free = refl
same_number output input = refl
same_number output output = refl
same_number output free = refl
same_number free input = refl
same_number free output = refl
same_number free free = refl

-- an open argument of number n, or what comes after it
abbrev open_or : Option ℕ → ℕ → Option OpenArgument → Option OpenArgument
open_or o n rest = elim o as (λ _. Option OpenArgument) [ none ↦ rest | some b ↦ some (record { argument = n; byte = b }) ]

-- the first argument, and the others from `next` on with the marks `left`
pub record Marked (table : List ℕ) (p stop marks mark next left : ℕ) (m : Mark) (ms : List Mark) (ts : Terms) : Type 0 where
  pub first : TermAt table p
  pub rest : MarkedAt table next stop left mark
  pub fault_is : (τ : Known) (n : ℕ)
      → first_open m τ ms (list_of ts) n ≡ open_or (if_marked (eqb (first_mark marks) mark) (open_byte τ first.term)) n (first_open rest.wanted τ rest.listed (list_of rest.terms) (suc n))
  pub ground_is : (τ : Known) → ground_marked m ms (list_of ts) τ ≡ ground_marked rest.wanted rest.listed (list_of rest.terms) (ground_if (eqb (first_mark marks) mark) first.term τ)

-- the mark of the first argument, and what is left of the marks
record Lowest (marks mark : ℕ) (m : Mark) (ms : List Mark) (t : Term) (ts : Terms) : Type 0 where
  left : List Mark
  number : other_marks marks ≡ marks_number left
  fault_is : (τ : Known) (n : ℕ)
      → first_open m τ ms (t ∷ list_of ts) n ≡ open_or (if_marked (eqb (first_mark marks) mark) (open_byte τ t)) n (first_open m τ left (list_of ts) (suc n))
  ground_is : (τ : Known) → ground_marked m ms (t ∷ list_of ts) τ ≡ ground_marked m left (list_of ts) (ground_if (eqb (first_mark marks) mark) t τ)

no-marks : (marks mark : ℕ) (m : Mark) (t : Term) (ts : Terms) → marks ≡ marks_number [] → mark ≡ mark_number m → Lowest marks mark m [] t ts
unfolding marks_number first_open if_marked ground_marked ground_if
no-marks marks mark m t ts em ew =
    let no : eqb (first_mark marks) mark ≡ false = ne_eqb (first_mark marks) mark (λ e. omega (arith, mark-some m)) in
    record {
      left = [];
      number = omega arith;
      fault_is = λ τ n. sym (ap (λ (b : Bool). open_or (if_marked b (open_byte τ t)) n none) no);
      ground_is = λ τ. sym (ap (λ (b : Bool). ground_if b t τ) no);
    }

one-mark : (marks mark : ℕ) (m k : Mark) (ks : List Mark) (t : Term) (ts : Terms) → marks ≡ marks_number (k ∷ ks) → mark ≡ mark_number m → Lowest marks mark m (k ∷ ks) t ts
unfolding first_open if_marked ground_marked ground_if
one-mark marks mark m k ks t ts em ew =
    let is : eqb (first_mark marks) mark ≡ same_mark m k = ap₂ eqb (ap first_mark em ∙ marks-first k ks) ew ∙ same_number m k in
    record {
      left = ks;
      number = ap other_marks em ∙ marks-others k ks;
      fault_is = λ τ n. sym (ap (λ (b : Bool). open_or (if_marked b (open_byte τ t)) n (first_open m τ ks (list_of ts) (suc n))) is);
      ground_is = λ τ. sym (ap (λ (b : Bool). ground_marked m ks (list_of ts) (ground_if b t τ)) is);
    }

lowest-of : (marks mark : ℕ) (m : Mark) (ms : List Mark) (t : Term) (ts : Terms) → marks ≡ marks_number ms → mark ≡ mark_number m → Lowest marks mark m ms t ts
lowest-of marks mark m [] t ts em ew = no-marks marks mark m t ts em ew
lowest-of marks mark m (k ∷ ks) t ts em ew = one-mark marks mark m k ks t ts em ew

marked_by : (table : List ℕ) (p stop marks mark next left : ℕ) (m : Mark) (ms : List Mark) (ts : Terms) → p < stop → ((u : TermAt table p) → next ≡ p + length (term_words u.term))
    → left ≡ other_marks marks → WordsAt table p (terms_words ts) → stop ≡ p + length (terms_words ts) → AllNumbered ts → marks ≡ marks_number ms → mark ≡ mark_number m
    → Marked table p stop marks mark next left m ms ts
unfolding term_words
marked_by table p stop marks mark next left m ms nil l n el h e k em ew = absurd (omega arith)
marked_by table p stop marks mark next left m ms (cons t ts) l n el h e (numbered_cons k ks) em ew =
    let o : Lowest marks mark m ms t ts = lowest-of marks mark m ms t ts em ew in
    let first : TermAt table p = record { term = t; has = has_left table p (term_words t) (terms_words ts) h; numbered = k } in
    let on : next ≡ p + length (term_words t) = n first in
    record {
      first = first;
      rest = record {
        terms = ts;
        has = subst⁻¹ (λ (j : ℕ). WordsAt table j (terms_words ts)) on (has_right table p (term_words t) (terms_words ts) h);
        ends = omega (arith, length-append (term_words t) (terms_words ts));
        numbered = ks;
        listed = o.left;
        number = el ∙ o.number;
        wanted = m;
        wanted_is = ew;
      };
      fault_is = o.fault_is;
      ground_is = o.ground_is;
    }

none-marked : (ms : List Mark) (m : Mark) (ts : Terms) (p stop : ℕ) → stop ≤ p → stop ≡ p + length (terms_words ts)
    → ((τ : Known) (n : ℕ) → first_open m τ ms (list_of ts) n ≡ none) × ((τ : Known) → ground_marked m ms (list_of ts) τ ≡ τ)
unfolding first_open ground_marked
none-marked [] m ts p stop l e = ((λ τ n. refl), (λ τ. refl))
none-marked (k ∷ ks) m nil p stop l e = ((λ τ n. refl), (λ τ. refl))
none-marked (k ∷ ks) m (cons t ts) p stop l e = absurd (omega (arith, cons-long t ts))

-- the test of an argument, by its mark
pub other-passes : {table : List ℕ} {p mark k : ℕ} (τ : Known) (marks : ℕ) → k ≡ first_mark marks → (k ≡ mark → ⊥) → (w : TermAt table p) → None ≡ groundness_of (if_marked (eqb (first_mark marks) mark) (open_byte τ w.term))
unfolding if_marked
other-passes {mark = mark} τ marks e n w = sym (ap (λ (b : Bool). groundness_of (if_marked b (open_byte τ w.term))) (ne_eqb (first_mark marks) mark (λ q. n (e ∙ q))))

pub same-tested : {table : List ℕ} {p mark k : ℕ} (τ : Known) (marks : ℕ) → k ≡ first_mark marks → k ≡ mark → {g : Perhaps ℕ} → ((w : TermAt table p) → g ≡ groundness_of (open_byte τ w.term))
    → (w : TermAt table p) → g ≡ groundness_of (if_marked (eqb (first_mark marks) mark) (open_byte τ w.term))
unfolding if_marked
same-tested {mark = mark} τ marks e q h w = h w ∙ sym (ap (λ (b : Bool). groundness_of (if_marked b (open_byte τ w.term))) (eq-eqb (first_mark marks) mark (sym e ∙ q)))

abbrev pub open-at : ℕ → ℕ → Perhaps FirstOpen
open-at argument byte = Some (record { argument = argument; byte = byte })

or-found : (o : Option ℕ) (n b : ℕ) (rest : Option OpenArgument) → groundness_of o ≡ Some b → open-at n b ≡ first_open_of (open_or o n rest)
or-found none n b rest e = let z : ◌≡◌ {A = ℕ} 0 1 = cc in absurd (omega arith)
or-found (some i) n b rest e = let k : i ≡ b = cc in ap (open-at n) (sym k)

or-rest : (o : Option ℕ) (n : ℕ) (rest : Option OpenArgument) → groundness_of o ≡ None → first_open_of rest ≡ first_open_of (open_or o n rest)
or-rest none n rest e = refl
or-rest (some i) n rest e = let z : ◌≡◌ {A = ℕ} 0 1 = cc in absurd (omega arith)

abbrev terms-of : {table : List ℕ} {p stop marks mark : ℕ} → MarkedAt table p stop marks mark → TermsAt table p stop
terms-of w = record { terms = w.terms; has = w.has; ends = w.ends; numbered = w.numbered }

module _ {table : List ℕ} {p stop marks mark : ℕ} where
  pub none_open : (τ : Known) (number : ℕ) → stop ≤ p → (w : MarkedAt table p stop marks mark) → None ≡ first_open_of (first_open w.wanted τ w.listed (list_of w.terms) number)
  none_open τ number l w = sym (ap first_open_of ((none-marked w.listed w.wanted w.terms p stop l w.ends).0 τ number))

  pub none-given : (τ : Known) → stop ≤ p → (w : MarkedAt table p stop marks mark) → τ ≡ ground_marked w.wanted w.listed (list_of w.terms) τ
  none-given τ l w = sym ((none-marked w.listed w.wanted w.terms p stop l w.ends).1 τ)

  module _ (l : p < stop) where
    pub marked-first : MarkedAt table p stop marks mark → TermAt table p
    marked-first w = (parted l (terms-of w)).first

    pub marked-further : {next : ℕ} → next ≡ p + get_or table (p + 1) 0 → MarkedAt table p stop marks mark → (p + 3 ≤ next) × ((next ≤ stop) × (stop ≤ length table))
    marked-further n w =
        let q : Parted table p stop w.terms = parted l (terms-of w) in
        omega (arith, (sized table p q.first).is, (sized table p q.first).long, q.rest.ends, w.ends, has-inside table p (terms_words w.terms) w.has (omega (arith, w.ends)))

    module _ {next left : ℕ} (n : next ≡ p + get_or table (p + 1) 0) (el : left ≡ other_marks marks) where
      marked : (w : MarkedAt table p stop marks mark) → Marked table p stop marks mark next left w.wanted w.listed w.terms
      marked w = marked_by table p stop marks mark next left w.wanted w.listed w.terms l (past-ends n) el w.has w.ends w.numbered w.number w.wanted_is

      pub marked-rest : MarkedAt table p stop marks mark → MarkedAt table next stop left mark
      marked-rest w = (marked w).rest

      pub open-on : (τ : Known) (number : ℕ) {more : ℕ} {g : Perhaps ℕ} → ((w : TermAt table p) → g ≡ groundness_of (if_marked (eqb (first_mark marks) mark) (open_byte τ w.term))) → g ≡ None → more ≡ number + 1
          → {r : Perhaps FirstOpen} → ((w : MarkedAt table next stop left mark) → r ≡ first_open_of (first_open w.wanted τ w.listed (list_of w.terms) more))
          → (w : MarkedAt table p stop marks mark) → r ≡ first_open_of (first_open w.wanted τ w.listed (list_of w.terms) number)
      open-on τ number h e em k w =
          let q : Marked table p stop marks mark next left w.wanted w.listed w.terms = marked w in
          k q.rest
          ∙ ap (λ (j : ℕ). first_open_of (first_open q.rest.wanted τ q.rest.listed (list_of q.rest.terms) j)) (em ∙ add-one number)
          ∙ or-rest (if_marked (eqb (first_mark marks) mark) (open_byte τ q.first.term)) number (first_open q.rest.wanted τ q.rest.listed (list_of q.rest.terms) (suc number)) (sym (h q.first) ∙ e)
          ∙ sym (ap first_open_of (q.fault_is τ number))

      given-on : (τ : Known) (b : Bool) (σ r : Known) (w : MarkedAt table p stop marks mark) → eqb (first_mark marks) mark ≡ b → σ ≡ ground_if b (marked w).first.term τ
          → ((u : MarkedAt table next stop left mark) → r ≡ ground_marked u.wanted u.listed (list_of u.terms) σ)
          → r ≡ ground_marked w.wanted w.listed (list_of w.terms) τ
      given-on τ b σ r w e es k =
          let q : Marked table p stop marks mark next left w.wanted w.listed w.terms = marked w in
          k q.rest
          ∙ ap (ground_marked q.rest.wanted q.rest.listed (list_of q.rest.terms)) (es ∙ ap (λ (x : Bool). ground_if x q.first.term τ) (sym e))
          ∙ sym (q.ground_is τ)

      pub given-same : (τ : Known) {k : ℕ} → k ≡ first_mark marks → k ≡ mark → {σ r : Known} → ((u : TermAt table p) → σ ≡ ground_term u.term τ)
          → ((u : MarkedAt table next stop left mark) → r ≡ ground_marked u.wanted u.listed (list_of u.terms) σ)
          → (w : MarkedAt table p stop marks mark) → r ≡ ground_marked w.wanted w.listed (list_of w.terms) τ
      unfolding ground_if
      given-same τ ek e {σ} {r} h k w = given-on τ true σ r w (eq-eqb (first_mark marks) mark (sym ek ∙ e)) (h (marked w).first) k

      pub given-other : (τ : Known) {k : ℕ} → k ≡ first_mark marks → (k ≡ mark → ⊥) → {r : Known}
          → ((u : MarkedAt table next stop left mark) → r ≡ ground_marked u.wanted u.listed (list_of u.terms) τ)
          → (w : MarkedAt table p stop marks mark) → r ≡ ground_marked w.wanted w.listed (list_of w.terms) τ
      unfolding ground_if
      given-other τ ek e {r} k w = given-on τ false τ r w (ne_eqb (first_mark marks) mark (λ q. e (ek ∙ q))) refl k

    pub found-open : (τ : Known) (number : ℕ) {g : Perhaps ℕ} → ((w : TermAt table p) → g ≡ groundness_of (if_marked (eqb (first_mark marks) mark) (open_byte τ w.term))) → {byte : ℕ} → g ≡ Some byte
        → (w : MarkedAt table p stop marks mark) → open-at number byte ≡ first_open_of (first_open w.wanted τ w.listed (list_of w.terms) number)
    found-open τ number h {byte} e w =
        let q : Marked table p stop marks mark (p + get_or table (p + 1) 0) (other_marks marks) w.wanted w.listed w.terms = marked refl refl w in
        or-found (if_marked (eqb (first_mark marks) mark) (open_byte τ q.first.term)) number byte (first_open q.rest.wanted τ q.rest.listed (list_of q.rest.terms) (suc number)) (sym (h q.first) ∙ e)
        ∙ sym (ap first_open_of (q.fault_is τ number))
