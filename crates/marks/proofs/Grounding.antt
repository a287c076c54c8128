-- Laws of the ground test and of making variables ground, one for each way out of the functions. Assumes nothing.
use Prim.Native.Nat.{ℕ, ◌+◌, ◌≤◌, ◌<◌}
use native.Mathlib.Omega.{arith}
use mathlib.Core.Path.{◌≡◌, refl, sym, ap, ap₂, ◌∙◌, subst, subst⁻¹}
use mathlib.Core.Bool.{Bool, true, false}
use mathlib.Core.List.{List, []}
use mathlib.Core.Option.{Option, none, some}
use lib.ListN.{length, get_or, set}
use Rattle.syntax.specs.Terms.{Term, Terms, variable, compound}
use Rattle.syntax.specs.Words.{term_words, first_name, node_words}
use Rattle.mode_rules.specs.Modes.{Known, open_unless, open_byte, open_byte_of, ground_term, ground_terms}
use Rattle.words.specs.Tables.{WordsAt}
use Rattle.words.proofs.TablesLaws.{node}
use Rattle.marks.specs.Tables.{TermAt, TermsAt}
use Rattle.marks.specs.Answers.{groundness_of}
use Rattle.std.specs.Prelude.{Option as Groundness, Some, None}
use Rattle.marks.proofs.Places.{Opened, opened, none_left, Parted, parted}

-- ---- one term

test_by : (table : List ℕ) (p : ℕ) (τ : Known) (t : Term) → WordsAt table p (term_words t) → get_or table p 0 < first_name
    → open_unless (get_or τ (get_or table p 0) false) (get_or table (p + 2) 0) ≡ open_byte τ t
unfolding term_words open_byte
test_by table p τ (variable n at) h l = ap₂ (λ (k b : ℕ). open_unless (get_or τ k false) b) h.1 (node table p n node_words at [] h).third
test_by table p τ (compound at f ts) h l = absurd (omega (arith, h.1))

stored-by : (table : List ℕ) (p : ℕ) (τ : Known) (t : Term) → WordsAt table p (term_words t) → get_or table p 0 < first_name → set τ (get_or table p 0) true ≡ ground_term t τ
unfolding term_words ground_term
stored-by table p τ (variable n at) h l = ap (λ (k : ℕ). set τ k true) h.1
stored-by table p τ (compound at f ts) h l = absurd (omega (arith, h.1))

module _ (table : List ℕ) (p : ℕ) (τ : Known) (v : ℕ) (e : v ≡ get_or table p 0) where
  tested : v < first_name → (w : TermAt table p) → open_unless (get_or τ v false) (get_or table (p + 2) 0) ≡ open_byte τ w.term
  tested l w = ap (λ (k : ℕ). open_unless (get_or τ k false) (get_or table (p + 2) 0)) e ∙ test_by table p τ w.term w.has (omega arith)

  pub variable-ground : v < first_name → get_or τ v false ≡ true → (w : TermAt table p) → None ≡ groundness_of (open_byte τ w.term)
  unfolding open_unless
  variable-ground l k w = sym (ap (λ (b : Bool). groundness_of (open_unless b (get_or table (p + 2) 0))) k) ∙ ap groundness_of (tested l w)

  pub variable-open : v < first_name → get_or τ v false ≡ false → (byte : ℕ) → byte ≡ get_or table (p + 2) 0 → (w : TermAt table p) → Some byte ≡ groundness_of (open_byte τ w.term)
  unfolding open_unless
  variable-open l k byte eb w = ap Some eb ∙ sym (ap (λ (b : Bool). groundness_of (open_unless b (get_or table (p + 2) 0))) k) ∙ ap groundness_of (tested l w)

  pub stored : v < first_name → (w : TermAt table p) → set τ v true ≡ ground_term w.term τ
  stored l w = ap (λ (k : ℕ). set τ k true) e ∙ stored-by table p τ w.term w.has (omega arith)

  module _ (stop : ℕ) (l : first_name ≤ v) (s : (w : TermAt table p) → stop ≡ p + length (term_words w.term)) where
    pub test-inner : (g : Groundness ℕ) → ((u : TermsAt table (p + 3) stop) → g ≡ groundness_of (open_byte_of τ u.terms)) → (w : TermAt table p) → g ≡ groundness_of (open_byte τ w.term)
    unfolding open_byte
    test-inner g h w =
        let o : Opened table p stop w.term = opened v stop e l w (s w) in
        h o.inner ∙ sym (ap (λ (t : Term). groundness_of (open_byte τ t)) o.is)

    pub stored-inner : (σ : Known) → ((u : TermsAt table (p + 3) stop) → σ ≡ ground_terms u.terms τ) → (w : TermAt table p) → σ ≡ ground_term w.term τ
    unfolding ground_term
    stored-inner σ h w =
        let o : Opened table p stop w.term = opened v stop e l w (s w) in
        h o.inner ∙ sym (ap (λ (t : Term). ground_term t τ) o.is)

-- ---- lists of terms

-- the first of two tests that finds an open variable
then-open : (o p : Option ℕ) (b : ℕ) → groundness_of o ≡ Some b → groundness_of (elim o as (λ _. Option ℕ) [ none ↦ p | some i ↦ some i ]) ≡ groundness_of o
then-open none p b e = let z : ◌≡◌ {A = ℕ} 0 1 = cc in absurd (omega arith)
then-open (some i) p b e = refl

then-rest : (o p : Option ℕ) → groundness_of o ≡ None → groundness_of (elim o as (λ _. Option ℕ) [ none ↦ p | some i ↦ some i ]) ≡ groundness_of p
then-rest none p e = refl
then-rest (some i) p e = let z : ◌≡◌ {A = ℕ} 0 1 = cc in absurd (omega arith)

module _ (table : List ℕ) (p stop : ℕ) (τ : Known) where
  pub none-tested : stop ≤ p → (w : TermsAt table p stop) → None ≡ groundness_of (open_byte_of τ w.terms)
  unfolding open_byte
  none-tested l w = sym (ap (λ (ts : Terms). groundness_of (open_byte_of τ ts)) (none_left l w))

  pub none-stored : stop ≤ p → (w : TermsAt table p stop) → τ ≡ ground_terms w.terms τ
  unfolding ground_term
  none-stored l w = sym (ap (λ (ts : Terms). ground_terms ts τ) (none_left l w))

  module _ (l : p < stop) where
    pub first-open : (g : Groundness ℕ) → ((u : TermAt table p) → g ≡ groundness_of (open_byte τ u.term)) → (b : ℕ) → g ≡ Some b → (w : TermsAt table p stop) → g ≡ groundness_of (open_byte_of τ w.terms)
    unfolding open_byte
    first-open g h b f w =
        let q : Parted table p stop w.terms = parted l w in
        h q.first
        ∙ sym (then-open (open_byte τ q.first.term) (open_byte_of τ q.rest.terms) b (sym (h q.first) ∙ f))
        ∙ sym (ap (λ (ts : Terms). groundness_of (open_byte_of τ ts)) q.is)

    module _ (next : ℕ) (n : (u : TermAt table p) → next ≡ p + length (term_words u.term)) where
      pub rest_at : TermsAt table p stop → TermsAt table next stop
      rest_at w = let q : Parted table p stop w.terms = parted l w in subst⁻¹ (λ (k : ℕ). TermsAt table k stop) (n q.first) q.rest

      -- what holds of the others from `next` on holds of them where they stand
      moved : (P : Terms → Type 0) → ((u : TermsAt table next stop) → P u.terms) → (w : TermsAt table p stop) → P (parted l w).rest.terms
      moved P h w =
          subst (λ (k : ℕ). (u : TermsAt table k stop) → P u.terms) (n (parted l w).first) h (parted l w).rest

      pub rest-tested : (g : Groundness ℕ) → ((u : TermAt table p) → g ≡ groundness_of (open_byte τ u.term)) → g ≡ None → (r : Groundness ℕ) → ((u : TermsAt table next stop) → r ≡ groundness_of (open_byte_of τ u.terms)) → (w : TermsAt table p stop) → r ≡ groundness_of (open_byte_of τ w.terms)
      unfolding open_byte
      rest-tested g h f r k w =
          let q : Parted table p stop w.terms = parted l w in
          moved (λ (ts : Terms). r ≡ groundness_of (open_byte_of τ ts)) k w
          ∙ sym (then-rest (open_byte τ q.first.term) (open_byte_of τ q.rest.terms) (sym (h q.first) ∙ f))
          ∙ sym (ap (λ (ts : Terms). groundness_of (open_byte_of τ ts)) q.is)

      pub rest-stored : (σ : Known) → ((u : TermAt table p) → σ ≡ ground_term u.term τ) → (r : Known) → ((u : TermsAt table next stop) → r ≡ ground_terms u.terms σ) → (w : TermsAt table p stop) → r ≡ ground_terms w.terms τ
      unfolding ground_term
      rest-stored σ h r k w =
          let q : Parted table p stop w.terms = parted l w in
          moved (λ (ts : Terms). r ≡ ground_terms ts σ) k w ∙ ap (ground_terms q.rest.terms) (h q.first) ∙ sym (ap (λ (ts : Terms). ground_terms ts τ) q.is)
