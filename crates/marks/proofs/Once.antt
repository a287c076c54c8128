-- Where no declaration repeats an earlier one, a head has one declaration or none. Assumes nothing.
use Prim.Native.Nat.{ℕ, zero, suc, ◌<◌}
use native.Mathlib.Omega.{arith}
use mathlib.Core.Path.{◌≡◌, refl, sym, ap, ap₂, ◌∙◌, subst⁻¹}
use mathlib.Core.Bool.{Bool, true, false, ◌&&◌, ◌||◌, false≢true}
use mathlib.Core.List.{List, [], ◌∷◌, ◌++◌}
use mathlib.Core.Option.{Option, none, some}
use Rattle.std.specs.Prelude.{Option as Place, Some, None, option_map}
use lib.Dec.{eqb, ltb}
use lib.ListN.{length}
use borrow.Author.Tests.{eqb-true, eqb-false, ltb-true, ltb-false}
use Rattle.syntax.specs.Terms.{arity, Atom, Declaration, same_bytes, same_predicate}
use Rattle.syntax.specs.Reading.{declares, repeats, first_repeat}
use Rattle.marks.specs.Answers.{position}
use Rattle.marks.specs.Repeating.{nth_declaration}
use Rattle.marks.specs.Flags.{OnlyDeclaration}

-- ---- predicates

and_both : (a b : Bool) → (a && b) ≡ true → (a ≡ true) × (b ≡ true)
and_both true b e = (refl, e)
and_both false b e = absurd (false≢true e)

or-neither : (a b : Bool) → (a || b) ≡ false → (a ≡ false) × (b ≡ false)
or-neither true b e = absurd (false≢true (sym e))
or-neither false b e = (refl, e)

bytes_same : (a b : List ℕ) → same_bytes a b ≡ true → a ≡ b
unfolding same_bytes
bytes_same [] [] e = refl
bytes_same [] (y ∷ b) e = absurd (false≢true e)
bytes_same (x ∷ a) [] e = absurd (false≢true e)
bytes_same (x ∷ a) (y ∷ b) e =
    let h : (eqb x y ≡ true) × (same_bytes a b ≡ true) = and_both (eqb x y) (same_bytes a b) e in
    ap₂ (λ (k : ℕ) (l : List ℕ). k ∷ l) (eqb-true x y h.0) (bytes_same a b h.1)

-- a declaration is one of a predicate
abbrev pub of : Declaration → List ℕ → ℕ → Bool
of d name n = same_predicate d.name (length d.marks) name n

-- of two declarations of one predicate the first is one of the second's
one-predicate : (d e : Declaration) (name : List ℕ) (n : ℕ) → of d name n ≡ true → of e name n ≡ true → of d e.name (length e.marks) ≡ true
one-predicate d e name n p q =
    let h : (eqb (length e.marks) n ≡ true) × (same_bytes e.name name ≡ true) = and_both (eqb (length e.marks) n) (same_bytes e.name name) q in
    ap₂ (λ (x : List ℕ) (k : ℕ). of d x k) (bytes_same e.name name h.1) (eqb-true (length e.marks) n h.0) ∙ p

-- ---- no declaration repeats an earlier one

declares-append : (a b : List Declaration) (name : List ℕ) (n : ℕ) → declares (a ++ b) name n ≡ false → (declares a name n ≡ false) × (declares b name n ≡ false)
unfolding declares
declares-append [] b name n e = (refl, e)
declares-append (d ∷ a) b name n e =
    let h : (of d name n ≡ false) × (declares (a ++ b) name n ≡ false) = or-neither (of d name n) (declares (a ++ b) name n) e in
    let g : (declares a name n ≡ false) × (declares b name n ≡ false) = declares-append a b name n h.1 in
    (ap₂ (λ (x y : Bool). x || y) h.0 g.0, g.1)

-- the first of some declarations repeats none, and neither do the others
unrepeated : (earlier : List Declaration) (d : Declaration) (ds : List Declaration) → first_repeat earlier (d ∷ ds) ≡ none
    → (declares earlier d.name (length d.marks) ≡ false) × (first_repeat (earlier ++ (d ∷ [])) ds ≡ none)
unfolding first_repeat repeats
unrepeated earlier d ds e = by (declares earlier d.name (length d.marks)) _ refl e
  where
    by : (a b : Bool) → declares earlier d.name (length d.marks) ≡ a
        → ◌≡◌ {A = Option ℕ} (elim (a || b) [ true ↦ some d.at | false ↦ first_repeat (earlier ++ (d ∷ [])) ds ]) none
        → (declares earlier d.name (length d.marks) ≡ false) × (first_repeat (earlier ++ (d ∷ [])) ds ≡ none)
    by true b p q = absurd (let z : ◌≡◌ {A = ℕ} 0 1 = cc in omega arith)
    by false true p q = absurd (let z : ◌≡◌ {A = ℕ} 0 1 = cc in omega arith)
    by false false p q = (p, q)

-- none of them is declared earlier
fresh : (earlier ds : List Declaration) → first_repeat earlier ds ≡ none → (j : ℕ) → j < length ds
    → declares earlier (nth_declaration ds j).name (length (nth_declaration ds j).marks) ≡ false
fresh earlier [] e j h = absurd (omega arith)
fresh earlier (d ∷ ds) e zero h = (unrepeated earlier d ds e).0
fresh earlier (d ∷ ds) e (suc j) h =
    (declares-append earlier (d ∷ []) (nth_declaration ds j).name (length (nth_declaration ds j).marks) (fresh (earlier ++ (d ∷ [])) ds (unrepeated earlier d ds e).1 j (omega arith))).0

apart : (earlier ds : List Declaration) → first_repeat earlier ds ≡ none → (i j : ℕ) → i < j → j < length ds
    → of (nth_declaration ds i) (nth_declaration ds j).name (length (nth_declaration ds j).marks) ≡ false
apart earlier [] e i j l h = absurd (omega arith)
apart earlier (d ∷ ds) e i zero l h = absurd (omega arith)
apart earlier (d ∷ ds) e zero (suc j) l h = unfold declares in
    (or-neither (of d (nth_declaration ds j).name (length (nth_declaration ds j).marks)) false
    (declares-append earlier (d ∷ []) (nth_declaration ds j).name (length (nth_declaration ds j).marks) (fresh (earlier ++ (d ∷ [])) ds (unrepeated earlier d ds e).1 j (omega arith))).1).0
apart earlier (d ∷ ds) e (suc i) (suc j) l h = apart (earlier ++ (d ∷ [])) ds (unrepeated earlier d ds e).1 i j (omega arith) (omega arith)

-- ---- the declaration of a head

module _ (ds : List Declaration) (once : first_repeat [] ds ≡ none) (name : List ℕ) (n : ℕ) where
  not-before : (i j : ℕ) → i < j → j < length ds → of (nth_declaration ds i) name n ≡ true → of (nth_declaration ds j) name n ≡ true → ⊥
  not-before i j l h p q = false≢true (sym (apart [] ds once i j l h) ∙ one-predicate (nth_declaration ds i) (nth_declaration ds j) name n p q)

  only_one : (i j : ℕ) → i < length ds → j < length ds → of (nth_declaration ds i) name n ≡ true → of (nth_declaration ds j) name n ≡ true → i ≡ j
  only_one i j hi hj p q = by (ltb i j) (ltb j i) refl refl
    where
      by : (a b : Bool) → ltb i j ≡ a → ltb j i ≡ b → i ≡ j
      by true b x y = absurd (not-before i j (ltb-true i j x) hj p q)
      by false true x y = absurd (not-before j i (ltb-true j i y) hi q p)
      by false false x y = omega (arith, ltb-false i j x, ltb-false j i y)

  -- where one declaration is of the predicate, no other is
  pub one_found : (j : ℕ) → j < length ds → of (nth_declaration ds j) name n ≡ true → (i : ℕ) → i < length ds → of (nth_declaration ds i) name n ≡ eqb i j
  one_found j hj q i hi = by (eqb i j) refl (of (nth_declaration ds i) name n) refl
    where
      by : (a : Bool) → eqb i j ≡ a → (b : Bool) → of (nth_declaration ds i) name n ≡ b → of (nth_declaration ds i) name n ≡ eqb i j
      by true x b y = ap (λ (k : ℕ). of (nth_declaration ds k) name n) (eqb-true i j x) ∙ q ∙ sym x
      by false x true y = absurd (eqb-false i j x (only_one i j hi hj y q))
      by false x false y = y ∙ sym x

-- ---- the search

-- a place behind the first one is that of another declaration
behind : (o : Place ℕ) (k : ℕ) → option_map suc o ≡ Some k → (j : ℕ) × ((o ≡ Some j) × (k ≡ suc j))
behind None k e = let y : ◌≡◌ {A = ℕ} 0 1 = cc in absurd (omega arith)
behind (Some j) k e = let z : k ≡ suc j = cc in (j, (refl, z))

nowhere : (o : Place ℕ) → option_map suc o ≡ None → o ≡ None
nowhere None e = refl
nowhere (Some j) e = let y : ◌≡◌ {A = ℕ} 0 1 = cc in absurd (omega arith)

-- it comes to a declaration of the predicate
abbrev Hits : List Declaration → List ℕ → ℕ → ℕ → Type 0
Hits ds name n k = (k < length ds) × (of (nth_declaration ds k) name n ≡ true)

position-hits : (ds : List Declaration) (name : List ℕ) (n k : ℕ) → position ds name n ≡ Some k → Hits ds name n k
unfolding position
position-hits [] name n k h = let y : ◌≡◌ {A = ℕ} 0 1 = cc in absurd (omega arith)
position-hits (d ∷ ds) name n k h = by (of d name n) refl h (λ j q. position-hits ds name n j q)
  where
    by : (b : Bool) → of d name n ≡ b → elim b as (λ _. Place ℕ) [ true ↦ Some 0 | false ↦ option_map suc (position ds name n) ] ≡ Some k
        → ((j : ℕ) → position ds name n ≡ Some j → (j < length ds) × (of (nth_declaration ds j) name n ≡ true))
        → (k < suc (length ds)) × (of (nth_declaration (d ∷ ds) k) name n ≡ true)
    by true e m more = let z : k ≡ 0 = cc in subst⁻¹ (λ (j : ℕ). (j < suc (length ds)) × (of (nth_declaration (d ∷ ds) j) name n ≡ true)) z (omega arith, e)
    by false e m more =
        let o : (j : ℕ) × ((position ds name n ≡ Some j) × (k ≡ suc j)) = behind (position ds name n) k m in
        let q : (o.0 < length ds) × (of (nth_declaration ds o.0) name n ≡ true) = more o.0 o.1.0 in
        subst⁻¹ (λ (j : ℕ). (j < suc (length ds)) × (of (nth_declaration (d ∷ ds) j) name n ≡ true)) o.1.1 (omega (arith, q.0), q.1)

-- or to no place, where none is of it
position-misses : (ds : List Declaration) (name : List ℕ) (n : ℕ) → position ds name n ≡ None → (i : ℕ) → i < length ds → of (nth_declaration ds i) name n ≡ false
unfolding position
position-misses [] name n h i l = absurd (omega arith)
position-misses (d ∷ ds) name n h i l = by (of d name n) refl h (position-misses ds name n) i l
  where
    by : (b : Bool) → of d name n ≡ b → elim b as (λ _. Place ℕ) [ true ↦ Some 0 | false ↦ option_map suc (position ds name n) ] ≡ None
        → (position ds name n ≡ None → (k : ℕ) → k < length ds → of (nth_declaration ds k) name n ≡ false)
        → (i : ℕ) → i < suc (length ds) → of (nth_declaration (d ∷ ds) i) name n ≡ false
    by true e m more i l = let y : ◌≡◌ {A = ℕ} 0 1 = cc in absurd (omega arith)
    by false e m more zero l = e
    by false e m more (suc i) l = more (nowhere (position ds name n) m) i (omega arith)

module _ (ds : List Declaration) (once : first_repeat [] ds ≡ none) (a : Atom) where
  pub near-finds : (r : ℕ) → r < length ds → of (nth_declaration ds r) a.name (arity a.args) ≡ true → OnlyDeclaration ds a (Some r)
  near-finds r h q = record {
    low = λ k e. (let z : k ≡ r = cc in omega arith);
    only = one_found ds once a.name (arity a.args) r h q;
  }

  pub search-finds : (r : Place ℕ) → r ≡ position ds a.name (arity a.args) → OnlyDeclaration ds a r
  search-finds None e = record {
    low = λ k q. (let y : ◌≡◌ {A = ℕ} 0 1 = cc in absurd (omega arith));
    only = position-misses ds a.name (arity a.args) (sym e);
  }
  search-finds (Some k) e = let h : Hits ds a.name (arity a.args) k = position-hits ds a.name (arity a.args) k (sym e) in near-finds k h.0 h.1
