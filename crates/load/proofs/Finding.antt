-- Laws of the list of symbols: where a symbol is first. Assumes nothing.
use Prim.Native.Nat.{ℕ, zero, suc, ◌+◌, ◌-◌, ◌≤◌, ◌<◌}
use native.Mathlib.Numerals.{add-one}
use native.Mathlib.Omega.{arith}
use mathlib.Core.Path.{◌≡◌, refl, sym, ap, ap₂, ◌∙◌, subst}
use mathlib.Core.Bool.{Bool, true, false, not, ◌&&◌, ◌||◌}
use mathlib.Core.List.{List, [], ◌∷◌, ◌++◌, append_assoc, append-nil}
use mathlib.Core.Logic.{◌⊎◌, inl, inr}
use Rattle.std.specs.Prelude.{Option, None, Some, MatchOption, IfNone, IfSome}
use lib.Dec.{T, eqb, ltb, eqb_refl, ltb→lt, nltb→le}
use lib.ListN.{length, get_or, length-append}
use lib.Seq.{get_or_at}
use Rattle.machine.proofs.Tests.{and, or_left, or_right}
use Rattle.syntax.specs.Terms.{same_bytes}
use Rattle.run_layout.specs.Nodes.{Symbol, is_symbol, symbol_of, is_listed}
use Rattle.load.specs.Symbols.{symbol_at, symbols_of}

-- ---- lists of symbols

pub is_true : (b : Bool) → T b → b ≡ true
is_true true t = refl
is_true false t = absurd t

pub decide : (b : Bool) → T b ⊎ (b ≡ false)
decide true = inl tt
decide false = inr refl

true-false : {A : Type 0} → true ≡ false → A
true-false e = absurd (subst T e tt)

or_assoc : (a b c : Bool) → (a || (b || c)) ≡ ((a || b) || c)
or_assoc true b c = refl
or_assoc false b c = refl

pub listed-append : (ss us : List Symbol) (f : List ℕ) (n : ℕ) → is_listed (ss ++ us) f n ≡ (is_listed ss f n || is_listed us f n)
unfolding is_listed
listed-append [] us f n = refl
listed-append (s ∷ ss) us f n = ap (λ (b : Bool). is_symbol f n s || b) (listed-append ss us f n) ∙ or_assoc (is_symbol f n s) (is_listed ss f n) (is_listed us f n)

pub stays-listed : (ss us : List Symbol) (f : List ℕ) (n : ℕ) → T (is_listed ss f n) → T (is_listed (ss ++ us) f n)
stays-listed ss us f n h = subst T (sym (listed-append ss us f n)) (or_left (is_listed ss f n) (is_listed us f n) h)

pub symbol-stays : (ss us : List Symbol) (f : List ℕ) (n : ℕ) → T (is_listed ss f n) → symbol_of (ss ++ us) f n ≡ symbol_of ss f n
unfolding symbol_of is_listed
symbol-stays [] us f n h = absurd h
symbol-stays (s ∷ ss) us f n h = go (is_symbol f n s) h (λ k. symbol-stays ss us f n k)
  where
    go : (a : Bool) → T (a || is_listed ss f n) → (T (is_listed ss f n) → symbol_of (ss ++ us) f n ≡ symbol_of ss f n)
        → ◌≡◌ {A = ℕ} (elim a [ true ↦ 0 | false ↦ suc (symbol_of (ss ++ us) f n) ]) (elim a [ true ↦ 0 | false ↦ suc (symbol_of ss f n) ])
    go true k ih = refl
    go false k ih = ap suc (ih k)

pub symbol-new : (ss us : List Symbol) (f : List ℕ) (n : ℕ) → is_listed ss f n ≡ false → symbol_of (ss ++ us) f n ≡ length ss + symbol_of us f n
unfolding symbol_of is_listed
symbol-new [] us f n h = (let e : symbol_of us f n ≡ 0 + symbol_of us f n = omega arith in e)
symbol-new (s ∷ ss) us f n h = go (is_symbol f n s) h (λ k. symbol-new ss us f n k)
  where
    go : (a : Bool) → (a || is_listed ss f n) ≡ false → (is_listed ss f n ≡ false → symbol_of (ss ++ us) f n ≡ length ss + symbol_of us f n)
        → ◌≡◌ {A = ℕ} (elim a [ true ↦ 0 | false ↦ suc (symbol_of (ss ++ us) f n) ]) (suc (length ss) + symbol_of us f n)
    go true k ih = true-false k
    go false k ih = let z : symbol_of (ss ++ us) f n ≡ length ss + symbol_of us f n = ih k in let y : suc (symbol_of (ss ++ us) f n) ≡ suc (length ss) + symbol_of us f n = omega arith in y

pub symbol-none : (ss : List Symbol) (f : List ℕ) (n : ℕ) → is_listed ss f n ≡ false → symbol_of ss f n ≡ length ss
unfolding symbol_of is_listed
symbol-none [] f n h = refl
symbol-none (s ∷ ss) f n h = go (is_symbol f n s) h (λ k. symbol-none ss f n k)
  where
    go : (a : Bool) → (a || is_listed ss f n) ≡ false → (is_listed ss f n ≡ false → symbol_of ss f n ≡ length ss)
        → ◌≡◌ {A = ℕ} (elim a [ true ↦ 0 | false ↦ suc (symbol_of ss f n) ]) (suc (length ss))
    go true k ih = true-false k
    go false k ih = ap suc (ih k)

pub symbol_low : (ss : List Symbol) (f : List ℕ) (n : ℕ) → T (is_listed ss f n) → symbol_of ss f n < length ss
unfolding symbol_of is_listed
symbol_low [] f n h = absurd h
symbol_low (s ∷ ss) f n h = go (is_symbol f n s) h (λ k. symbol_low ss f n k)
  where
    go : (a : Bool) → T (a || is_listed ss f n) → (T (is_listed ss f n) → symbol_of ss f n < length ss)
        → (elim a as (λ _. ℕ) [ true ↦ 0 | false ↦ suc (symbol_of ss f n) ]) < suc (length ss)
    go true k ih = omega arith
    go false k ih = let z : symbol_of ss f n < length ss = ih k in let y : suc (symbol_of ss f n) < suc (length ss) = omega arith in y

pub symbol-one : (s : Symbol) (f : List ℕ) (n : ℕ) → is_symbol f n s ≡ true → symbol_of (s ∷ []) f n ≡ 0
unfolding symbol_of
symbol-one s f n e = ap (λ (a : Bool). elim a as (λ _. ℕ) [ true ↦ 0 | false ↦ suc 0 ]) e

-- a symbol is itself
same_self : (l : List ℕ) → T (same_bytes l l)
unfolding same_bytes
same_self [] = tt
same_self (x ∷ xs) = and (eqb x x) (same_bytes xs xs) (eqb_refl x) (same_self xs)

pub self-symbol : (f : List ℕ) (n : ℕ) → is_symbol f n (record { name = f; arguments = n }) ≡ true
unfolding is_symbol
self-symbol f n = is_true (eqb n n && same_bytes f f) (and (eqb n n) (same_bytes f f) (eqb_refl n) (same_self f))

pub listed-one : (s : Symbol) (f : List ℕ) (n : ℕ) → is_listed (s ∷ []) f n ≡ (is_symbol f n s || false)
unfolding is_listed
listed-one s f n = refl

pub below_or : (i n : ℕ) → (i < n) ⊎ (n ≤ i)
below_or i n = go (ltb i n) refl
  where
    go : (b : Bool) → ltb i n ≡ b → (i < n) ⊎ (n ≤ i)
    go true e = inl (ltb→lt i n (subst T (sym e) tt))
    go false e = inr (nltb→le i n (subst (λ (b : Bool). T (not b)) (sym e) tt))

-- ---- the symbols of a table

module _ (sheet goal symbols : List ℕ) where
  pub length_symbols : (k : ℕ) → length (symbols_of sheet goal symbols k) ≡ k
  unfolding symbols_of
  length_symbols zero = refl
  length_symbols (suc k) =
      let e : length (symbols_of sheet goal symbols k) ≡ k = length_symbols k in
      let a : length (symbols_of sheet goal symbols k ++ (symbol_at sheet goal symbols k ∷ [])) ≡ length (symbols_of sheet goal symbols k) + 1 = length-append (symbols_of sheet goal symbols k) (symbol_at sheet goal symbols k ∷ []) in
      let y : length (symbols_of sheet goal symbols k ++ (symbol_at sheet goal symbols k ∷ [])) ≡ suc k = omega arith in y

  split : (k d count : ℕ) → count ≡ k + d → (more : List Symbol) × (symbols_of sheet goal symbols count ≡ symbols_of sheet goal symbols k ++ more)
  unfolding symbols_of
  split k zero count e = ([], ap (symbols_of sheet goal symbols) (let z : count ≡ k = omega arith in z) ∙ sym (append-nil (symbols_of sheet goal symbols k)))
  split k (suc d) zero e = absurd (omega arith)
  split k (suc d) (suc c) e =
      let r : (more : List Symbol) × (symbols_of sheet goal symbols c ≡ symbols_of sheet goal symbols k ++ more) = split k d c (let z : c ≡ k + d = omega arith in z) in (
        r.0 ++ (symbol_at sheet goal symbols c ∷ []),
        ap (λ (l : List Symbol). l ++ (symbol_at sheet goal symbols c ∷ [])) r.1 ∙ append_assoc (symbols_of sheet goal symbols k) r.0 (symbol_at sheet goal symbols c ∷ []),
      )

  pub snoc : (k : ℕ) → symbols_of sheet goal symbols (suc k) ≡ symbols_of sheet goal symbols k ++ (symbol_at sheet goal symbols k ∷ [])
  unfolding symbols_of
  snoc k = refl

  -- symbol k of the table is number k of the list
  pub symbols-at : (k count : ℕ) (d : Symbol) → k < count → get_or (symbols_of sheet goal symbols count) k d ≡ symbol_at sheet goal symbols k
  symbols-at k count d l =
      let p : (more : List Symbol) × (symbols_of sheet goal symbols count ≡ symbols_of sheet goal symbols (suc k) ++ more) = split (suc k) (count - suc k) count (let z : count ≡ suc k + (count - suc k) = omega arith in z) in
      ap (λ (l : List Symbol). get_or l k d) (p.1 ∙ (ap (λ (l : List Symbol). l ++ p.0) (snoc k) ∙ append_assoc (symbols_of sheet goal symbols k) (symbol_at sheet goal symbols k ∷ []) p.0))
      ∙ get_or_at (symbols_of sheet goal symbols k) (symbol_at sheet goal symbols k) p.0 d k (length_symbols k)

  module _ (f : List ℕ) (n : ℕ) where
    none_yet : is_listed (symbols_of sheet goal symbols 0) f n ≡ false
    unfolding symbols_of is_listed
    none_yet = refl

    not-this : (k : ℕ) (b : Bool) → is_listed (symbols_of sheet goal symbols k) f n ≡ false → b ≡ is_symbol f n (symbol_at sheet goal symbols k) → b ≡ false
        → is_listed (symbols_of sheet goal symbols (k + 1)) f n ≡ false
    not-this k b e q r =
        ap (λ (j : ℕ). is_listed (symbols_of sheet goal symbols j) f n) (add-one k)
        ∙ (ap (λ (l : List Symbol). is_listed l f n) (snoc k)
        ∙ (listed-append (symbols_of sheet goal symbols k) (symbol_at sheet goal symbols k ∷ []) f n
        ∙ ap₂ ◌||◌ e (listed-one (symbol_at sheet goal symbols k) f n ∙ ap (λ (x : Bool). x || false) (sym q ∙ r))))

    found : (k count : ℕ) (b : Bool) → k < count → is_listed (symbols_of sheet goal symbols k) f n ≡ false → b ≡ is_symbol f n (symbol_at sheet goal symbols k) → b ≡ true
        → k ≡ symbol_of (symbols_of sheet goal symbols count) f n
    found k count b l e q r =
        let p : (more : List Symbol) × (symbols_of sheet goal symbols count ≡ symbols_of sheet goal symbols (suc k) ++ more) = split (suc k) (count - suc k) count (let z : count ≡ suc k + (count - suc k) = omega arith in z) in
        let is : is_symbol f n (symbol_at sheet goal symbols k) ≡ true = sym q ∙ r in
        let here : T (is_listed (symbol_at sheet goal symbols k ∷ []) f n) = subst T (sym (listed-one (symbol_at sheet goal symbols k) f n ∙ ap (λ (x : Bool). x || false) is)) tt in
        let listed : T (is_listed (symbols_of sheet goal symbols (suc k)) f n) =
        subst (λ (l : List Symbol). T (is_listed l f n)) (sym (snoc k)) (subst T (sym (listed-append (symbols_of sheet goal symbols k) (symbol_at sheet goal symbols k ∷ []) f n)) (or_right (is_listed (symbols_of sheet goal symbols k) f n) (is_listed (symbol_at sheet goal symbols k ∷ []) f n) here)) in
        let whole : symbol_of (symbols_of sheet goal symbols count) f n ≡ symbol_of (symbols_of sheet goal symbols (suc k)) f n = ap (λ (l : List Symbol). symbol_of l f n) p.1 ∙ symbol-stays (symbols_of sheet goal symbols (suc k)) p.0 f n listed in
        let last : symbol_of (symbols_of sheet goal symbols (suc k)) f n ≡ length (symbols_of sheet goal symbols k) + symbol_of (symbol_at sheet goal symbols k ∷ []) f n =
        ap (λ (l : List Symbol). symbol_of l f n) (snoc k) ∙ symbol-new (symbols_of sheet goal symbols k) (symbol_at sheet goal symbols k ∷ []) f n e in
        let one : symbol_of (symbol_at sheet goal symbols k ∷ []) f n ≡ 0 = symbol-one (symbol_at sheet goal symbols k) f n is in
        let long : length (symbols_of sheet goal symbols k) ≡ k = length_symbols k in
        let y : k ≡ symbol_of (symbols_of sheet goal symbols count) f n = omega arith in y

    not_found : (k count : ℕ) → k ≤ count → count ≤ k → is_listed (symbols_of sheet goal symbols k) f n ≡ false → count ≡ symbol_of (symbols_of sheet goal symbols count) f n
    not_found k count l m e =
        let same : k ≡ count = omega arith in
        let z : symbol_of (symbols_of sheet goal symbols count) f n ≡ length (symbols_of sheet goal symbols count) = symbol-none (symbols_of sheet goal symbols count) f n (subst (λ (j : ℕ). is_listed (symbols_of sheet goal symbols j) f n ≡ false) same e) in
        let long : length (symbols_of sheet goal symbols count) ≡ count = length_symbols count in
        let y : count ≡ symbol_of (symbols_of sheet goal symbols count) f n = omega arith in y

    abbrev Other : ℕ → Type 0
    Other k = is_symbol f n (symbol_at sheet goal symbols k) ≡ false

    none-before : (k : ℕ) → ((i : ℕ) → 0 ≤ i → i < k → Other i) → is_listed (symbols_of sheet goal symbols k) f n ≡ false
    none-before zero h = none_yet
    none-before (suc k) h =
        ap (λ (j : ℕ). is_listed (symbols_of sheet goal symbols j) f n) (sym (add-one k))
        ∙ not-this k (is_symbol f n (symbol_at sheet goal symbols k)) (none-before k (λ i a b. h i a (omega arith))) refl (h k (omega arith) (omega arith))

    -- what `find` over the numbers of the symbols gives
    pub found-first : (count : ℕ) (r : Option ℕ)
        → MatchOption r ((i : ℕ) → 0 ≤ i → i < count → is_symbol f n (symbol_at sheet goal symbols i) ≡ false)
        (λ k. (0 ≤ k) × (k < count) × (is_symbol f n (symbol_at sheet goal symbols k) ≡ true) × ((i : ℕ) → 0 ≤ i → i < k → is_symbol f n (symbol_at sheet goal symbols i) ≡ false))
        → IfNone r (count ≡ symbol_of (symbols_of sheet goal symbols count) f n) × IfSome r (λ k. (k < count) × (k ≡ symbol_of (symbols_of sheet goal symbols count) f n))
    found-first count None d = (not_found count count (omega arith) (omega arith) (none-before count d), tt)
    found-first count (Some k) d = (tt, (d.1, found k count (is_symbol f n (symbol_at sheet goal symbols k)) d.1 (none-before k d.3) refl d.2))
