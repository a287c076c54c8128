-- V1 to V64: each is a variable's word, and no two are the same; so a variable is found again by its name among those met. Assumes nothing.
use Prim.Native.Nat.{ℕ, zero, suc, ◌+◌, ◌-◌, ◌*◌, ◌≤◌, ◌<◌}
use native.Mathlib.Nat.{zero-add}
use native.Mathlib.Omega.{arith}
use mathlib.Core.Path.{◌≡◌, refl, sym, ap, ◌∙◌}
use mathlib.Core.Bool.{Bool, true, false, ◌&&◌}
use mathlib.Core.List.{List, [], ◌∷◌, ◌++◌}
use mathlib.Core.Option.{Option, none, some}
use lib.Dec.{eqb, leb}
use lib.ListN.{length, length-append}
use borrow.Author.Tests.{eqb-true, leb-true, eq-eqb}
use Rattle.syntax.specs.Limits.{variables}
use Rattle.syntax.specs.Bytes.{class_of, in_word}
use Rattle.syntax.specs.Tokens.{run_length}
use Rattle.syntax.specs.Terms.{same_bytes, same_name}
use Rattle.syntax.specs.Reading.{variable_number}
use Rattle.words.specs.Buffers.{digits, decimal}
use Rattle.format_rules.specs.Writing.{variable_name}
use Rattle.format_theorems.proofs.Tokens.{IsVariable}

-- ---- one computed test of all

-- the number that such a name gives
value : ℕ → List ℕ → ℕ
value n [] = n
value n (d ∷ ds) = value (10 * n + (d - 48)) ds

number_of : List ℕ → ℕ
number_of [] = 0
number_of (b ∷ ds) = value 0 ds

tested : ℕ → Bool
tested i = eqb (number_of (variable_name i)) (suc i) && (eqb (run_length in_word (decimal (suc i))) (length (decimal (suc i))) && leb (length (decimal (suc i))) 2)

all_below : ℕ → (ℕ → Bool) → Bool
all_below zero f = true
all_below (suc n) f = f n && all_below n f

all-true : all_below 64 tested ≡ true
unfolding all_below tested number_of value variable_name decimal digits run_length in_word
all-true = refl

pub both : (a b : Bool) → a && b ≡ true → (a ≡ true) × (b ≡ true)
both true b e = (refl, e)
both false b e = let w : ◌≡◌ {A = ℕ} 0 1 = cc in absurd (omega arith)

below : (f : ℕ → Bool) (n i : ℕ) → all_below n f ≡ true → i < n → f i ≡ true
unfolding all_below
below f zero i e h = absurd (omega arith)
below f (suc n) i e h = by (eqb i n) refl (λ l. below f n i (both (f n) (all_below n f) e).1 l)
  where
    apart : eqb i n ≡ false → i ≡ n → ⊥
    apart z y = let w : true ≡ false = sym (eq-eqb i n y) ∙ z in let v : ◌≡◌ {A = ℕ} 0 1 = cc in omega arith

    by : (t : Bool) → eqb i n ≡ t → (i < n → f i ≡ true) → f i ≡ true
    by true q k = ap f (eqb-true i n q) ∙ (both (f n) (all_below n f) e).0
    by false q k = let z : i ≡ n → ⊥ = apart q in k (omega arith)

pass : (i : ℕ) → i < variables → tested i ≡ true
pass i h = below tested 64 i all-true h

-- ---- a variable's word

pub is_variable : (i : ℕ) → i < variables → IsVariable (variable_name i)
unfolding tested variable_name class_of
is_variable i h =
    let t = both (eqb (number_of (variable_name i)) (suc i)) (eqb (run_length in_word (decimal (suc i))) (length (decimal (suc i))) && leb (length (decimal (suc i))) 2) (pass i h) in
    let u = both (eqb (run_length in_word (decimal (suc i))) (length (decimal (suc i)))) (leb (length (decimal (suc i))) 2) t.1 in
    let few : length (decimal (suc i)) ≤ 2 = leb-true (length (decimal (suc i))) 2 u.1 in
    record {
      first = 86;
      others = decimal (suc i);
      whole = refl;
      begins = refl;
      class = refl;
      run = eqb-true (run_length in_word (decimal (suc i))) (length (decimal (suc i))) u.0;
      short = omega (arith, few);
    }

number-is : (i : ℕ) → i < variables → number_of (variable_name i) ≡ suc i
unfolding tested
number-is i h = eqb-true (number_of (variable_name i)) (suc i) (both (eqb (number_of (variable_name i)) (suc i)) (eqb (run_length in_word (decimal (suc i))) (length (decimal (suc i))) && leb (length (decimal (suc i))) 2) (pass i h)).0

-- it is longer than `_`
pub not_one : (i : ℕ) → i < variables → 2 ≤ length (variable_name i)
unfolding variable_name number_of value
not_one i h = by (decimal (suc i)) (number-is i h)
  where
    by : (ds : List ℕ) → number_of (86 ∷ ds) ≡ suc i → 2 ≤ length (86 ∷ ds)
    by [] e = absurd (omega arith)
    by (d ∷ ds) e = omega arith

-- ---- names that are the same

pub same-true : (a b : List ℕ) → same_bytes a b ≡ true → a ≡ b
unfolding same_bytes
same-true [] [] e = refl
same-true [] (y ∷ ys) e = let w : ◌≡◌ {A = ℕ} 0 1 = cc in absurd (omega arith)
same-true (x ∷ xs) [] e = let w : ◌≡◌ {A = ℕ} 0 1 = cc in absurd (omega arith)
same-true (x ∷ xs) (y ∷ ys) e =
    let t = both (eqb x y) (same_bytes xs ys) e in
    let h : x ≡ y = eqb-true x y t.0 in
    let r : xs ≡ ys = same-true xs ys t.1 in
    cc

same-self : (a : List ℕ) → same_bytes a a ≡ true
unfolding same_bytes
same-self [] = refl
same-self (x ∷ xs) = rw (eq-eqb x x refl) (same-self xs)

differ : (i j : ℕ) → i < variables → j < variables → (i ≡ j → ⊥) → same_name (variable_name i) (variable_name j) ≡ false
differ i j h k n = by (same_bytes (variable_name i) (variable_name j)) refl
  where
    by : (t : Bool) → same_bytes (variable_name i) (variable_name j) ≡ t → t ≡ false
    by false e = refl
    by true e =
        let q : suc i ≡ suc j = sym (number-is i h) ∙ ap number_of (same-true (variable_name i) (variable_name j) e) ∙ number-is j k in
        absurd (n (omega arith))

-- ---- the names met, in order

-- V1 to the m-th
pub names_to : ℕ → List (List ℕ)
names_to zero = []
names_to (suc m) = names_to m ++ (variable_name m ∷ [])

pub names-more : (m : ℕ) → names_to m ++ (variable_name m ∷ []) ≡ names_to (suc m)
unfolding names_to
names-more m = refl

pub names-none : names_to 0 ≡ []
unfolding names_to
names-none = refl

pub names-long : (m : ℕ) → length (names_to m) ≡ m
unfolding names_to
names-long zero = refl
names-long (suc m) = let h : length (names_to m) ≡ m = names-long m in omega (arith, h, length-append (names_to m) (variable_name m ∷ []))

found-before : (name : List ℕ) (j : ℕ) (xs ys : List (List ℕ)) (v : ℕ) → variable_number name j xs ≡ some v → variable_number name j (xs ++ ys) ≡ some v
unfolding variable_number
found-before name j [] ys v e = let w : ◌≡◌ {A = ℕ} 0 1 = cc in absurd (omega arith)
found-before name j (x ∷ xs) ys v e = by (same_name x name) e (λ q. found-before name (suc j) xs ys v q)
  where
    by : (t : Bool) → elim t as (λ _. Option ℕ) [ true ↦ some j | false ↦ variable_number name (suc j) xs ] ≡ some v
        → (variable_number name (suc j) xs ≡ some v → variable_number name (suc j) (xs ++ ys) ≡ some v)
        → elim t as (λ _. Option ℕ) [ true ↦ some j | false ↦ variable_number name (suc j) (xs ++ ys) ] ≡ some v
    by true q h = q
    by false q h = h q

found-behind : (name : List ℕ) (j k : ℕ) (xs ys : List (List ℕ)) → variable_number name j xs ≡ none → k ≡ j + length xs
    → variable_number name j (xs ++ ys) ≡ variable_number name k ys
unfolding variable_number
found-behind name j k [] ys e q = let z : j ≡ k = omega arith in ap (λ (n : ℕ). variable_number name n ys) z
found-behind name j k (x ∷ xs) ys e q = by (same_name x name) e (λ z. found-behind name (suc j) k xs ys z (omega arith))
  where
    by : (t : Bool) → elim t as (λ _. Option ℕ) [ true ↦ some j | false ↦ variable_number name (suc j) xs ] ≡ none
        → (variable_number name (suc j) xs ≡ none → variable_number name (suc j) (xs ++ ys) ≡ variable_number name k ys)
        → elim t as (λ _. Option ℕ) [ true ↦ some j | false ↦ variable_number name (suc j) (xs ++ ys) ] ≡ variable_number name k ys
    by true z h = let w : ◌≡◌ {A = ℕ} 0 1 = cc in absurd (omega arith)
    by false z h = h z

one-found : (name : List ℕ) (k : ℕ) (x : List ℕ) → same_name x name ≡ true → variable_number name k (x ∷ []) ≡ some k
unfolding variable_number
one-found name k x e = ap (λ (t : Bool). elim t as (λ _. Option ℕ) [ true ↦ some k | false ↦ none ]) e

one-not : (name : List ℕ) (k : ℕ) (x : List ℕ) → same_name x name ≡ false → variable_number name k (x ∷ []) ≡ none
unfolding variable_number
one-not name k x e = ap (λ (t : Bool). elim t as (λ _. Option ℕ) [ true ↦ some k | false ↦ none ]) e

none-there : (name : List ℕ) (k : ℕ) → variable_number name k [] ≡ none
unfolding variable_number
none-there name k = refl

-- a variable that was not met
pub not_met : (i m : ℕ) → m ≤ i → i < variables → variable_number (variable_name i) 0 (names_to m) ≡ none
unfolding names_to
not_met i zero h l = none-there (variable_name i) 0
not_met i (suc m) h l =
    found-behind (variable_name i) 0 m (names_to m) (variable_name m ∷ []) (not_met i m (omega arith) l) (sym (names-long m) ∙ sym (zero-add (length (names_to m))))
    ∙ one-not (variable_name i) m (variable_name m) (differ m i (omega arith) l (λ e. omega arith))

-- and one that was
pub was_met : (i m : ℕ) → i < m → m ≤ variables → variable_number (variable_name i) 0 (names_to m) ≡ some i
unfolding names_to
was_met i zero h l = absurd (omega arith)
was_met i (suc m) h l = by (eqb i m) refl (λ q. was_met i m q (omega arith))
  where
    by : (t : Bool) → eqb i m ≡ t → (i < m → variable_number (variable_name i) 0 (names_to m) ≡ some i)
        → variable_number (variable_name i) 0 (names_to m ++ (variable_name m ∷ [])) ≡ some i
    by true q k =
        let e : i ≡ m = eqb-true i m q in
        found-behind (variable_name i) 0 m (names_to m) (variable_name m ∷ []) (not_met i m (omega arith) (omega arith)) (sym (names-long m) ∙ sym (zero-add (length (names_to m))))
        ∙ one-found (variable_name i) m (variable_name m) (ap (λ (x : ℕ). same_name (variable_name m) (variable_name x)) e ∙ same-self (variable_name m))
        ∙ ap some (sym e)
    by false q k =
        let apart : i ≡ m → ⊥ = λ (y : i ≡ m). (let w : true ≡ false = sym (eq-eqb i m y) ∙ q in let v : ◌≡◌ {A = ℕ} 0 1 = cc in omega arith) in
        found-before (variable_name i) 0 (names_to m) (variable_name m ∷ []) i (k (omega (arith, apart)))
