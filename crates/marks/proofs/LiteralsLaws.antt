-- Laws of literals in a table that are no brackets, one for each way out of the functions. Assumes nothing.
use Prim.Native.Nat.{ℕ, zero, suc, ◌+◌, ◌≤◌, ◌<◌}
use native.Mathlib.Omega.{arith}
use mathlib.Core.Path.{◌≡◌, refl, sym, ap, ◌∙◌, subst, subst⁻¹}
use mathlib.Core.List.{List, ◌++◌}
use mathlib.Core.Option.{Option, none, some}
use lib.ListN.{length, get_or, length-append}
use Rattle.syntax.specs.Terms.{Term, Atom, term_of, Literal, Body, call, equation, truth, falsity, either, literals_in, input, output, Declaration}
use Rattle.syntax.specs.Words.{term_words, atom_words, literal_words, literal_length, body_length, marker, marks_number, truth_kind, falsity_kind, call_kind, equation_kind, left_kind}
use Rattle.syntax.specs.declared.Refusal.{Refusal}
use Rattle.mode_rules.specs.Modes.{Known, everything, marks_for, list_of, first_open, ground_marked, settle, open_input, Walk, faulted, known, unless_fault, call_walk, literal_walk}
use Rattle.marks.specs.Spelt.{TermSpelt, LiteralSpelt, call_stands, equation_stands, either_stands, BodySpelt}
use Rattle.words.specs.Tables.{WordsAt}
use Rattle.marks.specs.Tables.{TermAt, PairAt, MarkedAt, JudgedAt, DeclarationsAt, AtomAt, LiteralAt}
use Rattle.std.specs.Prelude.{Result, Ok, Err}
use Rattle.marks.specs.Answers.{Checked, checked_of}
use Rattle.marks.specs.LiteralsAnswers.{WalkPassed, PastLiteral}
use Rattle.marks.specs.declared.literals.Passed.{Passed}
use Rattle.words.proofs.TablesLaws.{has_left, has_right}
use Rattle.marks.proofs.Places.{numbered, all-numbered}
use Rattle.marks.proofs.Marking.{in-text}
use Rattle.marks.proofs.Judging.{judged-marked}

-- ---- answers

-- a walk that meets no fault, and one that does
pub passes-ok : (x : Passed) {w : Walk} {next items literal : ℕ} → known x.known ≡ w → x.next ≡ next → x.items ≡ items → x.literal ≡ literal → WalkPassed (Ok x) w next items literal
passes-ok x e n i l = record {
  walk = e;
  next_is = λ y q. let z : x ≡ y = same q in ap (λ (u : Passed). u.next) (sym z) ∙ n;
  items_are = λ y q. let z : x ≡ y = same q in ap (λ (u : Passed). u.items) (sym z) ∙ i;
  literal_is = λ y q. let z : x ≡ y = same q in ap (λ (u : Passed). u.literal) (sym z) ∙ l;
}
  where
    same : {y : Passed} → ◌≡◌ {A = Result Passed Refusal} (Ok x) (Ok y) → x ≡ y
    same q = cc

pub passes-err : (r : Refusal) {w : Walk} (next items literal : ℕ) → faulted r ≡ w → WalkPassed (Err r) w next items literal
passes-err r next items literal e = record {
  walk = e;
  next_is = λ x q. no q;
  items_are = λ x q. no q;
  literal_is = λ x q. no q;
}
  where
    no : {A : Type 0} {x : Passed} → ◌≡◌ {A = Result Passed Refusal} (Err r) (Ok x) → A
    no q = let y : ◌≡◌ {A = ℕ} 0 1 = cc in absurd (omega arith)

-- a call's fault, or what is known after it, as the walk has them
call-faulted : (o : Option Refusal) {f : Checked} {r : Refusal} (σ : Known) → f ≡ checked_of o → f ≡ Err r → faulted r ≡ unless_fault o σ
unfolding unless_fault
call-faulted none {f} {r} σ e t = let z : ◌≡◌ {A = Checked} (Ok tt) (Err r) = sym e ∙ t in let y : ◌≡◌ {A = ℕ} 0 1 = cc in absurd (omega arith)
call-faulted (some q) {f} {r} σ e t = let z : ◌≡◌ {A = Checked} (Err r) (Err q) = sym t ∙ e in let y : r ≡ q = cc in ap faulted y

call-passes : (o : Option Refusal) {f : Checked} {τ σ : Known} → f ≡ checked_of o → f ≡ Ok tt → τ ≡ σ → known τ ≡ unless_fault o σ
unfolding unless_fault
call-passes none e t es = ap known es
call-passes (some q) e t es = let z : ◌≡◌ {A = Checked} (Ok tt) (Err q) = sym t ∙ e in let y : ◌≡◌ {A = ℕ} 0 1 = cc in absurd (omega arith)

-- ---- literals

-- a literal by its first word
pub data View (g table : List ℕ) (p : ℕ) : Literal → Type 0 where
  view_truth : get_or table p 0 ≡ truth_kind → View g table p truth
  view_falsity : get_or table p 0 ≡ falsity_kind → View g table p falsity
  view_call : {a : Atom} → get_or table p 0 ≡ call_kind → WordsAt table (p + 1) (atom_words a) → TermSpelt g (term_of a) → View g table p (call a)
  view_equation : {t u : Term} → get_or table p 0 ≡ equation_kind → WordsAt table (p + 1) (term_words t) → WordsAt table (p + 1 + length (term_words t)) (term_words u) → TermSpelt g t → TermSpelt g u
      → View g table p (equation t u)
  view_either : {y z : Body} → get_or table p 0 ≡ marker left_kind (body_length y) → WordsAt table p (literal_words (either y z)) → BodySpelt g y → BodySpelt g z
      → View g table p (either y z)

view-by : (g table : List ℕ) (p : ℕ) (l : Literal) → WordsAt table p (literal_words l) → LiteralSpelt g l → View g table p l
unfolding literal_words
view-by g table p truth h k = view_truth h.1
view-by g table p falsity h k = view_falsity h.1
view-by g table p (call a) h (call_stands k) = view_call h.1 h.2 k
view-by g table p (equation t u) h (equation_stands kt ku) =
    view_equation h.1 (has_left table (p + 1) (term_words t) (term_words u) h.2) (has_right table (p + 1) (term_words t) (term_words u) h.2) kt ku
view-by g table p (either y z) h (either_stands ky kz) = view_either h.1 h ky kz

pub view : {g table : List ℕ} {p : ℕ} (w : LiteralAt g table p) → View g table p w.literal
view {g} {table} {p} w = view-by g table p w.literal w.has w.stands

room_of : (table : List ℕ) (p : ℕ) (x : Literal) → WordsAt table p (literal_words x) → p < length table
unfolding literal_words
room_of table p truth h = h.0
room_of table p falsity h = h.0
room_of table p (call a) h = h.0
room_of table p (equation t u) h = h.0
room_of table p (either y z) h = h.0

pub literal-room : {g table : List ℕ} {p : ℕ} → LiteralAt g table p → p < length table
literal-room {g} {table} {p} w = room_of table p w.literal w.has

-- the literal at p is a call
pub record CallAt (g table : List ℕ) (p : ℕ) (l : Literal) : Type 0 where
  pub atom : AtomAt g table (p + 1)
  pub is : l ≡ call atom.atom

-- the literal at p is an equation
pub record EquationAt (g table : List ℕ) (p : ℕ) (l : Literal) : Type 0 where
  pub left : TermAt table (p + 1)
  pub pair : PairAt g table (p + 1) (p + 1 + length (term_words left.term))
  pub left_is : pair.left ≡ left.term
  pub is : l ≡ equation pair.left pair.right

-- a literal that is no bracket is one item and counts for one literal
record Plain (l : Literal) : Type 0 where
  one-item : literal_length l ≡ 1
  one_literal : literals_in l ≡ 1

plain_by : {g table : List ℕ} {p : ℕ} {l : Literal} → get_or table p 0 < left_kind → View g table p l → Plain l
unfolding literal_length literals_in
plain_by s (view_truth q) = record { one-item = refl; one_literal = refl }
plain_by s (view_falsity q) = record { one-item = refl; one_literal = refl }
plain_by s (view_call q h k) = record { one-item = refl; one_literal = refl }
plain_by s (view_equation q ht hu kt ku) = record { one-item = refl; one_literal = refl }
plain_by s (view_either q h ky kz) = absurd (omega arith)

plain_passes : {g table : List ℕ} {p : ℕ} (s : get_or table p 0 < left_kind) (ds : List Declaration) (c m : ℕ) (τ σ : Known) {next : ℕ} (w : LiteralAt g table p)
    → known σ ≡ literal_walk ds c m τ w.literal → next ≡ p + length (literal_words w.literal)
    → PastLiteral (Ok (record { known = σ; next = next; items = 1; literal = m + 1 })) ds c m τ p w.literal
plain_passes s ds c m τ σ w e n =
    let q : Plain w.literal = plain_by s (view w) in
    passes-ok _ e n (sym q.one-item) (omega (arith, q.one_literal))

module _ {g table : List ℕ} {p : ℕ} (kind : ℕ) (e : kind ≡ get_or table p 0) (most : get_or table p 0 < left_kind) where
  truth-by : {l : Literal} → kind ≡ truth_kind → View g table p l → l ≡ truth
  truth-by k (view_truth q) = refl
  truth-by k (view_falsity q) = absurd (omega arith)
  truth-by k (view_call q h s) = absurd (omega arith)
  truth-by k (view_equation q ht hu st su) = absurd (omega arith)
  truth-by k (view_either q h sy sz) = absurd (omega arith)

  pub truth-is : kind ≡ truth_kind → (w : LiteralAt g table p) → w.literal ≡ truth
  truth-is k w = truth-by k (view w)

  falsity-by : {l : Literal} → kind ≡ falsity_kind → View g table p l → l ≡ falsity
  falsity-by k (view_truth q) = absurd (omega arith)
  falsity-by k (view_falsity q) = refl
  falsity-by k (view_call q h s) = absurd (omega arith)
  falsity-by k (view_equation q ht hu st su) = absurd (omega arith)
  falsity-by k (view_either q h sy sz) = absurd (omega arith)

  pub falsity-is : kind ≡ falsity_kind → (w : LiteralAt g table p) → w.literal ≡ falsity
  falsity-is k w = falsity-by k (view w)

  call_by : {l : Literal} → kind ≡ call_kind → View g table p l → CallAt g table p l
  call_by k (view_truth q) = absurd (omega arith)
  call_by k (view_falsity q) = absurd (omega arith)
  call_by k (view_call {a} q h s) = record { atom = record { atom = a; has = h; stands = s }; is = refl }
  call_by k (view_equation q ht hu st su) = absurd (omega arith)
  call_by k (view_either q h sy sz) = absurd (omega arith)

  pub call-is : kind ≡ call_kind → (w : LiteralAt g table p) → CallAt g table p w.literal
  call-is k w = call_by k (view w)

  pub atom-at : kind ≡ call_kind → LiteralAt g table p → AtomAt g table (p + 1)
  atom-at k w = (call-is k w).atom

  -- ---- the walk past it
  module _ (ds : List Declaration) (c m : ℕ) (τ : Known) where
    pub walked-truth : kind ≡ truth_kind → (w : LiteralAt g table p)
        → PastLiteral (Ok (record { known = τ; next = p + 1; items = 1; literal = m + 1 })) ds c m τ p w.literal
    unfolding literal_walk literal_words
    walked-truth k w =
        let one : length (literal_words w.literal) ≡ 1 = ap (λ (x : Literal). length (literal_words x)) (truth-is k w) in
        plain_passes most ds c m τ τ w (sym (ap (literal_walk ds c m τ) (truth-is k w))) (omega arith)

    pub walked-falsity : kind ≡ falsity_kind → (w : LiteralAt g table p)
        → PastLiteral (Ok (record { known = everything; next = p + 1; items = 1; literal = m + 1 })) ds c m τ p w.literal
    unfolding literal_walk literal_words
    walked-falsity k w =
        let one : length (literal_words w.literal) ≡ 1 = ap (λ (x : Literal). length (literal_words x)) (falsity-is k w) in
        plain_passes most ds c m τ everything w (sym (ap (literal_walk ds c m τ) (falsity-is k w))) (omega arith)

    pub walked_call : kind ≡ call_kind → (r : Result Passed Refusal)
        → ((a : AtomAt g table (p + 1)) → WalkPassed r (call_walk ds c m τ a.atom) (p + 1 + length (atom_words a.atom)) 1 (m + 1))
        → (w : LiteralAt g table p) → PastLiteral r ds c m τ p w.literal
    unfolding literal_walk literal_words
    walked_call k r h w =
        let q : CallAt g table p w.literal = call-is k w in
        let one : Plain w.literal = plain_by most (view w) in
        let words : length (literal_words w.literal) ≡ suc (length (atom_words q.atom.atom)) = ap (λ (x : Literal). length (literal_words x)) q.is in
        record {
          walk = (h q.atom).walk ∙ sym (ap (literal_walk ds c m τ) q.is);
          next_is = λ x t. omega (arith, (h q.atom).next_is x t);
          items_are = λ x t. (h q.atom).items_are x t ∙ sym one.one-item;
          literal_is = λ x t. omega (arith, (h q.atom).literal_is x t, one.one_literal);
        }

  module _ (least : call_kind ≤ kind) where
    term-by : {l : Literal} → View g table p l → TermAt table (p + 1)
    term-by (view_truth q) = absurd (omega arith)
    term-by (view_falsity q) = absurd (omega arith)
    term-by (view_call {a} q h s) = record { term = term_of a; has = h; numbered = numbered s }
    term-by (view_equation {t} q ht hu st su) = record { term = t; has = ht; numbered = numbered st }
    term-by (view_either q h sy sz) = absurd (omega arith)

    pub first-term : LiteralAt g table p → TermAt table (p + 1)
    first-term w = term-by (view w)

    module _ (k : kind ≡ call_kind → ⊥) where
      equation-by : {l : Literal} → View g table p l → EquationAt g table p l
      equation-by (view_truth q) = absurd (omega arith)
      equation-by (view_falsity q) = absurd (omega arith)
      equation-by (view_call q h s) = absurd (k (e ∙ q))
      equation-by (view_equation {t} {u} q ht hu st su) = record {
        left = record { term = t; has = ht; numbered = numbered st };
        pair = record { left = t; right = u; has_left = ht; has_right = hu; left_stands = st; right_stands = su };
        left_is = refl;
        is = refl;
      }
      equation-by (view_either q h sy sz) = absurd (omega arith)

      module _ (next : ℕ) (n : (u : TermAt table (p + 1)) → next ≡ p + 1 + length (term_words u.term)) where
        pub equation-at : (w : LiteralAt g table p) → EquationAt g table p w.literal
        equation-at w = equation-by (view w)

        pub sides-at : LiteralAt g table p → PairAt g table (p + 1) next
        sides-at w = subst⁻¹ (PairAt g table (p + 1)) (n (equation-at w).left) (equation-at w).pair

        abbrev pub right-term : LiteralAt g table p → TermAt table next
        right-term w = record {
          term = (equation-at w).pair.right;
          has = subst⁻¹ (λ (j : ℕ). WordsAt table j (term_words (equation-at w).pair.right)) (n (equation-at w).left) (equation-at w).pair.has_right;
          numbered = numbered (equation-at w).pair.right_stands;
        }

        pub walked-equation : (ds : List Declaration) (c m : ℕ) (τ after : Known) → ((u : PairAt g table (p + 1) next) → after ≡ settle u.left u.right τ)
            → {stop : ℕ} → ((u : TermAt table next) → stop ≡ next + length (term_words u.term)) → (w : LiteralAt g table p)
            → PastLiteral (Ok (record { known = after; next = stop; items = 1; literal = m + 1 })) ds c m τ p w.literal
        unfolding literal_walk literal_words
        walked-equation ds c m τ after h {stop} b w =
            let q : EquationAt g table p w.literal = equation-at w in
            let r : (u : PairAt g table (p + 1) (p + 1 + length (term_words q.left.term))) → after ≡ settle u.left u.right τ =
            subst (λ (j : ℕ). (u : PairAt g table (p + 1) j) → after ≡ settle u.left u.right τ) (n q.left) h in
            let words : length (literal_words w.literal) ≡ suc (length (term_words q.pair.left ++ term_words q.pair.right)) =
            ap (λ (x : Literal). length (literal_words x)) q.is in
            let both : length (term_words q.pair.left ++ term_words q.pair.right) ≡ length (term_words q.pair.left) + length (term_words q.pair.right) =
            length-append (term_words q.pair.left) (term_words q.pair.right) in
            let same : length (term_words q.pair.left) ≡ length (term_words q.left.term) = ap (λ (t : Term). length (term_words t)) q.left_is in
            let ends : stop ≡ next + length (term_words q.pair.right) = b (right-term w) in
            plain_passes most ds c m τ after w (ap known (r q.pair) ∙ sym (ap (literal_walk ds c m τ) q.is)) (omega (arith, n q.left))

-- ---- a call

module _ (s declared : List ℕ) (n : ℕ) (g table : List ℕ) (p marks : ℕ)
    (em : (d : DeclarationsAt s declared n) (w : AtomAt g table p) → marks ≡ marks_number (marks_for d.list w.atom)) where
  abbrev pub judged-at : DeclarationsAt s declared n → AtomAt g table p → JudgedAt table p marks
  judged-at d w = record {
    atom = w.atom;
    has = w.has;
    numbered = all-numbered (in-text w).stand;
    short = (in-text w).name-at.short;
    listed = marks_for d.list w.atom;
    number = em d w;
  }

  module _ (τ : Known) (c l : ℕ) {f : Checked}
      (ef : (u : JudgedAt table p marks) → f ≡ checked_of (open_input c l u.atom (first_open input τ u.listed (list_of u.atom.args) 1))) where
    pub walked-fault : {r : Refusal} → f ≡ Err r → (d : DeclarationsAt s declared n) (w : AtomAt g table p)
        → WalkPassed (Err r) (call_walk d.list c l τ w.atom) (p + length (atom_words w.atom)) 1 (l + 1)
    unfolding call_walk
    walked-fault {r} e d w = passes-err r _ _ _ (call-faulted _ (ground_marked output (marks_for d.list w.atom) (list_of w.atom.args) τ) (ef (judged-at d w)) e)

    pub walked-past : f ≡ Ok tt → (stop : ℕ) → ((u : TermAt table p) → stop ≡ p + length (term_words u.term)) → (after : Known)
        → ((u : MarkedAt table (p + 3) stop marks 2) → after ≡ ground_marked u.wanted u.listed (list_of u.terms) τ)
        → (d : DeclarationsAt s declared n) (w : AtomAt g table p)
        → WalkPassed (Ok (record { known = after; next = stop; items = 1; literal = l + 1 })) (call_walk d.list c l τ w.atom) (p + length (atom_words w.atom)) 1 (l + 1)
    unfolding call_walk
    walked-past e stop es after h d w =
        passes-ok _ (call-passes _ (ef (judged-at d w)) e (h (judged-marked table p marks stop es output (judged-at d w))))
        (es (record { term = term_of w.atom; has = w.has; numbered = numbered w.stands })) refl refl

-- a first word that is neither 0 nor 1
pub at_least : (kind : ℕ) → (kind ≡ truth_kind → ⊥) → (kind ≡ falsity_kind → ⊥) → call_kind ≤ kind
at_least zero a b = absurd (a refl)
at_least (suc zero) a b = absurd (b refl)
at_least (suc (suc k)) a b = omega arith
