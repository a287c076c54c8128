-- Laws of the faults of a call and of a head, one for each way out of the functions. Assumes nothing.
use Prim.Native.Nat.{ℕ, ◌+◌, ◌≤◌, ◌<◌}
use native.Mathlib.Omega.{arith}
use mathlib.Core.Path.{◌≡◌, refl, sym, ap, ap₂, ◌∙◌, subst, subst⁻¹}
use mathlib.Core.List.{List}
use mathlib.Core.Option.{Option, none, some}
use lib.ListN.{length}
use Rattle.syntax.specs.Terms.{Atom, term_of, Mark}
use Rattle.syntax.specs.Words.{term_words, mark_number}
use Rattle.syntax.specs.declared.Refusal.TheVariants.{OpenInput, OpenOutput}
use Rattle.mode_rules.specs.Modes.{Known, list_of, OpenArgument, first_open, open_input, open_output}
use Rattle.marks.specs.Spelt.{numbered_compound}
use Rattle.marks.specs.Tables.{TermAt, NamedAt, MarkedAt, JudgedAt}
use Rattle.marks.specs.Answers.{checked_of, atom_name}
use Rattle.marks.specs.ArgumentsAnswers.{first_open_of}
use Rattle.marks.specs.declared.arguments.FirstOpen.{FirstOpen}
use Rattle.std.specs.Prelude.{Option as Perhaps, Some, None, Ok, Err}
use Rattle.syntax.specs.declared.Entry.{Entry}
use Rattle.marks.proofs.Places.{Says, says, sized}

-- ---- the first open argument

call_none : (c l : ℕ) (a : Atom) (o : Option OpenArgument) → first_open_of o ≡ None → Ok tt ≡ checked_of (open_input c l a o)
unfolding open_input
call_none c l a none e = refl
call_none c l a (some o) e = let z : ◌≡◌ {A = ℕ} 0 1 = cc in absurd (omega arith)

head-none : (c : ℕ) (a : Atom) (o : Option OpenArgument) → first_open_of o ≡ None → Ok tt ≡ checked_of (open_output c a o)
unfolding open_output
head-none c a none e = refl
head-none c a (some o) e = let z : ◌≡◌ {A = ℕ} 0 1 = cc in absurd (omega arith)

some-open : (o : Option OpenArgument) (f : FirstOpen) → first_open_of o ≡ Some f → o ≡ some (record { argument = f.argument; byte = f.byte })
some-open none f e = let z : ◌≡◌ {A = ℕ} 0 1 = cc in absurd (omega arith)
some-open (some o) f e =
    let g : ◌≡◌ {A = FirstOpen} (record { argument = o.argument; byte = o.byte }) f = cc in
    ap₂ (λ (x y : ℕ). some (record { argument = x; byte = y })) (ap (λ (x : FirstOpen). x.argument) g) (ap (λ (x : FirstOpen). x.byte) g)

-- ---- an atom with its marks

pub judged : {table : List ℕ} {p marks : ℕ} (w : JudgedAt table p marks) → Says table p w.atom
judged {table} {p} w = says table p w.atom w.has

abbrev pub judged-name : {table : List ℕ} {p marks : ℕ} → JudgedAt table p marks → NamedAt table p
judged-name w = record { atom = w.atom; has = w.has; short = w.short }

abbrev pub judged-term : {table : List ℕ} {p marks : ℕ} → JudgedAt table p marks → TermAt table p
judged-term w = record { term = term_of w.atom; has = w.has; numbered = numbered_compound w.numbered }

pub judged-room : {table : List ℕ} {p marks : ℕ} → JudgedAt table p marks → p + 2 < length table
judged-room w = (judged w).inside

module _ (table : List ℕ) (p marks stop : ℕ) (s : (u : TermAt table p) → stop ≡ p + length (term_words u.term)) where
  abbrev pub judged-marked : (m : Mark) → JudgedAt table p marks → MarkedAt table (p + 3) stop marks (mark_number m)
  judged-marked m w = record {
    terms = w.atom.args;
    has = (judged w).has;
    ends = omega (arith, s (judged-term w), (judged w).size);
    numbered = w.numbered;
    listed = w.listed;
    number = w.number;
    wanted = m;
    wanted_is = refl;
  }

  pub judged-number : JudgedAt table p marks → 1 + stop ≤ length table + (p + 3)
  judged-number w = omega (arith, s (judged-term w), (sized table p (judged-term w)).inside)

  -- the same of a mark's number
  pub mark-judged : {mark : ℕ} (m : Mark) → mark ≡ mark_number m → JudgedAt table p marks → MarkedAt table (p + 3) stop marks mark
  mark-judged m e w = subst⁻¹ (MarkedAt table (p + 3) stop marks) e (judged-marked m w)

  pub first-judged : {mark : ℕ} (τ : Known) {r : Perhaps FirstOpen}
      → ((u : MarkedAt table (p + 3) stop marks mark) → r ≡ first_open_of (first_open u.wanted τ u.listed (list_of u.terms) 1))
      → (w : JudgedAt table p marks) (m : Mark) → mark ≡ mark_number m → r ≡ first_open_of (first_open m τ w.listed (list_of w.atom.args) 1)
  first-judged τ {r} er w m e =
      subst (λ (k : ℕ). (u : MarkedAt table (p + 3) stop marks k) → r ≡ first_open_of (first_open u.wanted τ u.listed (list_of u.terms) 1)) e er (judged-marked m w)

module _ {table : List ℕ} {p marks : ℕ} (τ : Known) (m : Mark) (r : Perhaps FirstOpen)
    (er : (w : JudgedAt table p marks) → r ≡ first_open_of (first_open m τ w.listed (list_of w.atom.args) 1)) where
  pub call-fine : r ≡ None → (c l : ℕ) (w : JudgedAt table p marks)
      → Ok tt ≡ checked_of (open_input c l w.atom (first_open m τ w.listed (list_of w.atom.args) 1))
  call-fine e c l w = call_none c l w.atom (first_open m τ w.listed (list_of w.atom.args) 1) (sym (er w) ∙ e)

  pub head-fine : r ≡ None → (c : ℕ) (w : JudgedAt table p marks)
      → Ok tt ≡ checked_of (open_output c w.atom (first_open m τ w.listed (list_of w.atom.args) 1))
  head-fine e c w = head-none c w.atom (first_open m τ w.listed (list_of w.atom.args) 1) (sym (er w) ∙ e)

  module _ (f : FirstOpen) (e : r ≡ Some f) (name : Entry) (en : (w : NamedAt table p) → name ≡ atom_name w.atom) where
    is_open : (w : JudgedAt table p marks) → first_open m τ w.listed (list_of w.atom.args) 1 ≡ some (record { argument = f.argument; byte = f.byte })
    is_open w = some-open (first_open m τ w.listed (list_of w.atom.args) 1) f (sym (er w) ∙ e)

    at_is : (w : JudgedAt table p marks) → name.at ≡ w.atom.at
    at_is w = ap (λ (x : Entry). x.at) (en (judged-name w))

    len_is : (w : JudgedAt table p marks) → name.len ≡ length w.atom.name
    len_is w = ap (λ (x : Entry). x.len) (en (judged-name w))

    pub call-faulty : (c l : ℕ) (w : JudgedAt table p marks)
        → Err (OpenInput f.byte c l f.argument name.at name.len) ≡ checked_of (open_input c l w.atom (first_open m τ w.listed (list_of w.atom.args) 1))
    unfolding open_input
    call-faulty c l w =
        ap₂ (λ (a k : ℕ). Err (OpenInput f.byte c l f.argument a k)) (at_is w) (len_is w)
        ∙ sym (ap (λ (o : Option OpenArgument). checked_of (open_input c l w.atom o)) (is_open w))

    pub head-faulty : (c : ℕ) (w : JudgedAt table p marks)
        → Err (OpenOutput f.byte c f.argument name.at name.len) ≡ checked_of (open_output c w.atom (first_open m τ w.listed (list_of w.atom.args) 1))
    unfolding open_output
    head-faulty c w =
        ap₂ (λ (a k : ℕ). Err (OpenOutput f.byte c f.argument a k)) (at_is w) (len_is w)
        ∙ sym (ap (λ (o : Option OpenArgument). checked_of (open_output c w.atom o)) (is_open w))
