-- Laws of names in a table and of equations, one for each way out of the functions. Assumes nothing.
use Prim.Native.Nat.{ℕ, suc, ◌+◌, ◌≤◌, ◌<◌}
use native.Mathlib.Omega.{arith}
use mathlib.Core.Path.{◌≡◌, refl, sym, ap, ap₂, ◌∙◌, subst, subst⁻¹}
use mathlib.Core.Bool.{Bool, true, false, ◌&&◌}
use mathlib.Core.List.{List}
use lib.Dec.{eqb}
use lib.ListN.{length, get_or, take, drop, length-append}
use borrow.Author.Tests.{eq-eqb, eqb-true}
use Rattle.syntax.specs.Terms.{Term, Terms, variable, compound, nil, cons, arity, same_bytes, same_predicate}
use Rattle.syntax.specs.Words.{term_words, terms_words, first_name, functor, functor_arity, functor_length}
use Rattle.syntax.proofs.Words.{functor-arity, functor-length}
use Rattle.mode_rules.specs.Modes.{Known, everything, equate_variable, equate_same, equate, equate_all}
use Rattle.marks.specs.Functors.{same_functor}
use Rattle.words.specs.Tables.{WordsAt}
use Rattle.marks.specs.Tables.{TermAt, PairAt, PairsAt}
use Rattle.marks.specs.Spelt.{NameAt, TermSpelt, TermsSpelt, stands_variable, stands_compound, stand_cons}
use Rattle.marks.proofs.Places.{numbered, cons-long, sized}
use Rattle.words.proofs.TablesLaws.{Node, node, has_left, has_right}
use Rattle.marks.proofs.LookupLaws.{lengths_differ}

-- ---- the two terms

abbrev pub left_at : {s table : List ℕ} {p q : ℕ} → PairAt s table p q → TermAt table p
left_at w = record { term = w.left; has = w.has_left; numbered = numbered w.left_stands }

abbrev pub right-at : {s table : List ℕ} {p q : ℕ} → PairAt s table p q → TermAt table q
right-at w = record { term = w.right; has = w.has_right; numbered = numbered w.right_stands }

-- ---- names

-- a term that is no variable, and what its words say
pub record Named (s table : List ℕ) (p : ℕ) (t : Term) : Type 0 where
  pub at : ℕ
  pub name : List ℕ
  pub args : Terms
  pub is : t ≡ compound at name args
  pub inside : p + 2 < length table
  pub what : get_or table p 0 ≡ functor (arity args) (length name)
  pub place : get_or table (p + 2) 0 ≡ at
  pub name-at : NameAt s at name
  pub has : WordsAt table (p + 3) (terms_words args)
  pub stand : TermsSpelt s args

pub named : (s table : List ℕ) (p : ℕ) (t : Term) → WordsAt table p (term_words t) → TermSpelt s t → first_name ≤ get_or table p 0 → Named s table p t
unfolding term_words
named s table p (variable n at) h (stands_variable k) l = absurd (omega (arith, h.1))
named s table p (compound at f ts) h (stands_compound n a k) l =
    let o : Node table p _ _ at (terms_words ts) = node table p _ _ _ _ h in
    record {
      at = at;
      name = f;
      args = ts;
      is = refl;
      inside = o.inside;
      what = o.first;
      place = o.third;
      name-at = n;
      has = o.rest;
      stand = k;
    }

-- the length of the name, and the number of arguments
pub len_is : {s table : List ℕ} {p : ℕ} {t : Term} (v : ℕ) → v ≡ get_or table p 0 → (n : Named s table p t) → functor_length v ≡ length n.name
len_is v e n = ap functor_length (e ∙ n.what) ∙ functor-length (arity n.args) (length n.name) (omega (arith, n.name-at.short))

pub arity-is : {s table : List ℕ} {p : ℕ} {t : Term} (v : ℕ) → v ≡ get_or table p 0 → (n : Named s table p t) → functor_arity v ≡ arity n.args
arity-is v e n = ap functor_arity (e ∙ n.what) ∙ functor-arity (arity n.args) (length n.name) (omega (arith, n.name-at.short))

pub name-inside : {s table : List ℕ} {p : ℕ} {t : Term} (v a len : ℕ) → v ≡ get_or table p 0 → a ≡ get_or table (p + 2) 0 → len ≡ functor_length v → (n : Named s table p t) → a + len ≤ length s
name-inside v a len e f el n = omega (arith, len_is v e n, n.place, n.name-at.inside)

pub name-is : {s table : List ℕ} {p : ℕ} {t : Term} (v a len : ℕ) → v ≡ get_or table p 0 → a ≡ get_or table (p + 2) 0 → len ≡ functor_length v → (n : Named s table p t)
    → take len (drop a s) ≡ n.name
name-is {s} v a len e f el n = ap₂ (λ (l k : ℕ). take l (drop k s)) (el ∙ len_is v e n) (f ∙ n.place) ∙ sym n.name-at.spelt

differ : (f : List ℕ) (m : ℕ) (g : List ℕ) (n : ℕ) (t : Bool) → eqb m n ≡ t → (functor m (length f) ≡ functor n (length g) → ⊥) → same_predicate f m g n ≡ false
differ f m g n true e h =
    let same : m ≡ n = eqb-true m n e in
    ap₂ (λ (x y : Bool). x && y) e (lengths_differ f g (λ l. h (omega arith)))
differ f m g n false e h = ap (λ (x : Bool). x && same_bytes f g) e

module _ {s table : List ℕ} {p q v x : ℕ} (ev : v ≡ get_or table p 0) (ex : x ≡ get_or table q 0) (l : (first_name ≤ get_or table p 0) × (first_name ≤ get_or table q 0)) where
  left-named : (w : PairAt s table p q) → Named s table p w.left
  left-named w = named s table p w.left w.has_left w.left_stands l.0

  right-named : (w : PairAt s table p q) → Named s table q w.right
  right-named w = named s table q w.right w.has_right w.right_stands l.1

  pub functors-differ : (v ≡ x → ⊥) → (w : PairAt s table p q) → false ≡ same_functor w.left w.right
  functors-differ d w =
      let a : Named s table p w.left = left-named w in
      let b : Named s table q w.right = right-named w in
      sym (ap₂ same_functor a.is b.is ∙ differ a.name (arity a.args) b.name (arity b.args) _ refl (λ e. d (ev ∙ a.what ∙ e ∙ sym b.what ∙ sym ex)))

  module _ (e : v ≡ x) {a b len : ℕ} (ea : a ≡ get_or table (p + 2) 0) (eb : b ≡ get_or table (q + 2) 0) (el : len ≡ functor_length v) where
    pub functors-inside : PairAt s table p q → (a + len ≤ length s) × (b + len ≤ length s)
    functors-inside w =
        (name-inside v a len ev ea el (left-named w), name-inside v b len (e ∙ ex) eb el (right-named w))

    pub functors-same : {r : Bool} → r ≡ same_bytes (take len (drop a s)) (take len (drop b s)) → (w : PairAt s table p q) → r ≡ same_functor w.left w.right
    functors-same h w =
        let m : Named s table p w.left = left-named w in
        let n : Named s table q w.right = right-named w in
        let k : arity m.args ≡ arity n.args = sym (arity-is v ev m) ∙ arity-is v (e ∙ ex) n in
        h ∙ ap₂ same_bytes (name-is v a len ev ea el m) (name-is v b len (e ∙ ex) eb el n)
        ∙ sym (ap₂ same_functor m.is n.is ∙ ap (λ (t : Bool). t && same_bytes m.name n.name) (eq-eqb _ _ k))

-- ---- equations

pub open-left : (table : List ℕ) (p : ℕ) (τ : Known) (t u : Term) → WordsAt table p (term_words t) → get_or table p 0 < first_name → equate_variable t u τ ≡ equate t u τ
unfolding term_words equate
open-left table p τ (variable n at) u h l = refl
open-left table p τ (compound at f ts) u h l = absurd (omega (arith, h.1))

pub open-right : (table : List ℕ) (q : ℕ) (τ : Known) (t u : Term) → WordsAt table q (term_words u) → get_or table q 0 < first_name → equate_variable t u τ ≡ equate t u τ
unfolding term_words equate
open-right table q τ (variable n at) u h l = refl
open-right table q τ (compound at f ts) (variable m bt) h l = refl
open-right table q τ (compound at f ts) (compound bt g us) h l = absurd (omega (arith, h.1))

module _ (s table : List ℕ) (p q : ℕ) (τ : Known) (v : ℕ) where
  pub equated-left : v ≡ get_or table p 0 → v < first_name → (r : Known) → ((t : TermAt table p) (u : TermAt table q) → r ≡ equate_variable t.term u.term τ) → (w : PairAt s table p q) → r ≡ equate w.left w.right τ
  equated-left e l r h w = h (left_at w) (right-at w) ∙ open-left table p τ w.left w.right w.has_left (omega arith)

  pub equated-right : v ≡ get_or table q 0 → v < first_name → (r : Known) → ((t : TermAt table p) (u : TermAt table q) → r ≡ equate_variable t.term u.term τ) → (w : PairAt s table p q) → r ≡ equate w.left w.right τ
  equated-right e l r h w = h (left_at w) (right-at w) ∙ open-right table q τ w.left w.right w.has_right (omega arith)

-- two names: what their equation does, by whether they are the same
by-functor : (t u : Term) (τ : Known) (x : Bool) → same_functor t u ≡ x → (at : ℕ) (f : List ℕ) (ts : Terms) → t ≡ compound at f ts → (bt : ℕ) (g : List ℕ) (us : Terms) → u ≡ compound bt g us → equate t u τ ≡ equate_same x (λ σ. equate_all ts us σ) τ
unfolding equate
by-functor t u τ x e at f ts et bt g us eu =
    ap₂ (λ (a b : Term). equate a b τ) et eu
    ∙ ap (λ (y : Bool). equate_same y (λ σ. equate_all ts us σ) τ) (sym (ap₂ same_functor et eu) ∙ e)

arities : (t u : Term) → same_functor t u ≡ true → (at : ℕ) (f : List ℕ) (ts : Terms) → t ≡ compound at f ts → (bt : ℕ) (g : List ℕ) (us : Terms) → u ≡ compound bt g us → arity ts ≡ arity us
arities t u e at f ts et bt g us eu = by (eqb (arity ts) (arity us)) refl (sym (ap₂ same_functor et eu) ∙ e)
  where
    by : (b : Bool) → eqb (arity ts) (arity us) ≡ b → (eqb (arity ts) (arity us) && same_bytes f g) ≡ true → arity ts ≡ arity us
    by true k h = eqb-true _ _ k
    by false k h = let z : (false && same_bytes f g) ≡ true = sym (ap (λ (y : Bool). y && same_bytes f g) k) ∙ h in let y : ◌≡◌ {A = ℕ} 0 1 = cc in absurd (omega arith)

-- two names and the lists of their arguments
pub record Descent (s table : List ℕ) (p stop q : ℕ) (t u : Term) (τ : Known) : Type 0 where
  pub pairs : PairsAt s table (p + 3) stop (q + 3)
  pub is : equate t u τ ≡ equate_all pairs.left pairs.right τ

module _ (s table : List ℕ) (p q : ℕ) (τ : Known) (v x : ℕ) (ev : v ≡ get_or table p 0) (ex : x ≡ get_or table q 0) (lv : first_name ≤ v) (lx : first_name ≤ x) (b : Bool) (eb : (w : PairAt s table p q) → b ≡ same_functor w.left w.right) where
  pub clashed : b ≡ false → (w : PairAt s table p q) → everything ≡ equate w.left w.right τ
  unfolding equate_same
  clashed h w =
      let m : Named s table p w.left = named s table p w.left w.has_left w.left_stands (omega arith) in
      let n : Named s table q w.right = named s table q w.right w.has_right w.right_stands (omega arith) in
      sym (by-functor w.left w.right τ false (sym (eb w) ∙ h) m.at m.name m.args m.is n.at n.name n.args n.is)

  module _ (h : b ≡ true) (stop : ℕ) (es : (u : TermAt table p) → stop ≡ p + length (term_words u.term)) where
    descent : (w : PairAt s table p q) → Descent s table p stop q w.left w.right τ
    unfolding equate_same term_words
    descent w =
        let m : Named s table p w.left = named s table p w.left w.has_left w.left_stands (omega arith) in
        let n : Named s table q w.right = named s table q w.right w.has_right w.right_stands (omega arith) in
        let same : same_functor w.left w.right ≡ true = sym (eb w) ∙ h in
        let size : stop ≡ p + suc (suc (suc (length (terms_words m.args)))) = es (left_at w) ∙ ap (λ (t : Term). p + length (term_words t)) m.is in
        record {
          pairs = record {
            left = m.args;
            right = n.args;
            has_left = m.has;
            has_right = n.has;
            left_ends = omega arith;
            alike = arities w.left w.right same m.at m.name m.args m.is n.at n.name n.args n.is;
            left_stand = m.stand;
            right_stand = n.stand;
          };
          is = by-functor w.left w.right τ true same m.at m.name m.args m.is n.at n.name n.args n.is;
        }

    pub pairs-at : PairAt s table p q → PairsAt s table (p + 3) stop (q + 3)
    pairs-at w = (descent w).pairs

    pub descended : (r : Known) → ((u : PairsAt s table (p + 3) stop (q + 3)) → r ≡ equate_all u.left u.right τ) → (w : PairAt s table p q) → r ≡ equate w.left w.right τ
    descended r k w = k (descent w).pairs ∙ sym (descent w).is

-- ---- two lists of terms

pub record Split (s table : List ℕ) (p stop q : ℕ) (ts us : Terms) : Type 0 where
  pub first : PairAt s table p q
  pub rest : PairsAt s table (p + length (term_words first.left)) stop (q + length (term_words first.right))
  pub left_is : ts ≡ cons first.left rest.left
  pub right_is : us ≡ cons first.right rest.right

split_by : (s table : List ℕ) (p stop q : ℕ) (ts us : Terms) → p < stop → WordsAt table p (terms_words ts) → WordsAt table q (terms_words us) → stop ≡ p + length (terms_words ts)
    → arity ts ≡ arity us → TermsSpelt s ts → TermsSpelt s us → Split s table p stop q ts us
unfolding term_words
split_by s table p stop q nil us l ht hu e a kt ku = absurd (omega arith)
split_by s table p stop q (cons t ts) nil l ht hu e a kt ku = absurd (omega arith)
split_by s table p stop q (cons t ts) (cons u us) l ht hu e a (stand_cons kt kts) (stand_cons ku kus) = record {
  first = record {
    left = t;
    right = u;
    has_left = has_left table p (term_words t) (terms_words ts) ht;
    has_right = has_left table q (term_words u) (terms_words us) hu;
    left_stands = kt;
    right_stands = ku;
  };
  rest = record {
    left = ts;
    right = us;
    has_left = has_right table p (term_words t) (terms_words ts) ht;
    has_right = has_right table q (term_words u) (terms_words us) hu;
    left_ends = omega (arith, length-append (term_words t) (terms_words ts));
    alike = omega arith;
    left_stand = kts;
    right_stand = kus;
  };
  left_is = refl;
  right_is = refl;
}

none-pairs : (p stop : ℕ) (ts us : Terms) (τ : Known) → stop ≤ p → stop ≡ p + length (terms_words ts) → arity ts ≡ arity us → τ ≡ equate_all ts us τ
unfolding equate
none-pairs p stop nil nil τ l e a = refl
none-pairs p stop nil (cons u us) τ l e a = absurd (omega arith)
none-pairs p stop (cons t ts) us τ l e a = absurd (omega (arith, cons-long t ts))

module _ (s table : List ℕ) (p stop q : ℕ) (τ : Known) where
  pub none-equated : stop ≤ p → (w : PairsAt s table p stop q) → τ ≡ equate_all w.left w.right τ
  none-equated l w = none-pairs p stop w.left w.right τ l w.left_ends w.alike

  module _ (l : p < stop) where
    pub split : (w : PairsAt s table p stop q) → Split s table p stop q w.left w.right
    split w = split_by s table p stop q w.left w.right l w.has_left w.has_right w.left_ends w.alike w.left_stand w.right_stand

    pub pair_fits : PairsAt s table p stop q → p + get_or table (p + 1) 0 ≤ stop
    pair_fits w = omega (arith, (sized table p (left_at (split w).first)).is, (split w).rest.left_ends)

    module _ (next other : ℕ) (en : (u : TermAt table p) → next ≡ p + length (term_words u.term)) (eo : (u : TermAt table q) → other ≡ q + length (term_words u.term)) where
      pub pair-further : PairsAt s table p stop q → (p < next) × (next ≤ stop)
      pair-further w = omega (arith, en (left_at (split w).first), (sized table p (left_at (split w).first)).long, (split w).rest.left_ends)

      pub others-at : PairsAt s table p stop q → PairsAt s table next stop other
      others-at w =
          subst⁻¹ (λ (k : ℕ). PairsAt s table k stop other) (en (left_at (split w).first))
          (subst⁻¹ (λ (k : ℕ). PairsAt s table (p + length (term_words (split w).first.left)) stop k) (eo (right-at (split w).first)) (split w).rest)

      pub others-equated : (σ : Known) → ((u : PairAt s table p q) → σ ≡ equate u.left u.right τ) → (r : Known) → ((u : PairsAt s table next stop other) → r ≡ equate_all u.left u.right σ) → (w : PairsAt s table p stop q) → r ≡ equate_all w.left w.right τ
      unfolding equate
      others-equated σ h r k w =
          let z : Split s table p stop q w.left w.right = split w in
          let k1 : (u : PairsAt s table (p + length (term_words z.first.left)) stop (q + length (term_words z.first.right))) → r ≡ equate_all u.left u.right σ =
          subst (λ (j : ℕ). (u : PairsAt s table (p + length (term_words z.first.left)) stop j) → r ≡ equate_all u.left u.right σ) (eo (right-at z.first))
          (subst (λ (j : ℕ). (u : PairsAt s table j stop other) → r ≡ equate_all u.left u.right σ) (en (left_at z.first)) k) in
          k1 z.rest ∙ ap (equate_all z.rest.left z.rest.right) (h z.first) ∙ sym (ap₂ (λ (ts us : Terms). equate_all ts us τ) z.left_is z.right_is)
