-- Laws of one more symbol in the list. Assumes nothing.
use Prim.Native.Nat.{ℕ, zero, suc, ◌+◌, ◌≤◌, ◌<◌}
use native.Mathlib.Numerals.{add-one}
use native.Mathlib.Omega.{arith}
use mathlib.Core.Path.{◌≡◌, refl, sym, ap, ap₂, ◌∙◌, subst}
use mathlib.Core.Bool.{Bool, false, cond}
use mathlib.Core.List.{List, [], ◌∷◌, ◌++◌}
use mathlib.Core.Logic.{◌⊎◌, inl, inr}
use lib.Dec.{T}
use lib.ListN.{length, get_or, set, length-set}
use lib.Seq.{get_or-set_same, get_or-set_other}
use Rattle.run_layout.specs.Regions.{most_nodes, nodes_words}
use Rattle.run_layout.specs.Nodes.{Symbol, symbol_of, is_listed}
use Rattle.load.specs.Symbols.{word_name, SymbolInside, symbol_at, symbols_of, SymbolsListed}
use Rattle.load.specs.Interning.{with_symbol, Interned}
use Rattle.load.proofs.Finding.{is_true, decide, symbol-new, symbol-none, symbol_low, symbol-one, self-symbol, below_or, length_symbols, snoc}

-- ---- one symbol more

abbrev with-choice : List Symbol → List ℕ → ℕ → Bool → List Symbol
with-choice ss f n b = cond b ss (ss ++ (record { name = f; arguments = n } ∷ []))

pub with-old : (ss : List Symbol) (f : List ℕ) (n : ℕ) → T (is_listed ss f n) → with_symbol ss f n ≡ ss
unfolding with_symbol
with-old ss f n h = ap (with-choice ss f n) (is_true (is_listed ss f n) h)

pub with-new : (ss : List Symbol) (f : List ℕ) (n : ℕ) → is_listed ss f n ≡ false → with_symbol ss f n ≡ ss ++ (record { name = f; arguments = n } ∷ [])
unfolding with_symbol
with-new ss f n h = ap (with-choice ss f n) h

symbol-at : (sheet goal symbols : List ℕ) (k w n : ℕ) → get_or symbols k 0 ≡ w → get_or symbols (most_nodes + k) 0 ≡ n → symbol_at sheet goal symbols k ≡ record { name = word_name sheet goal w; arguments = n }
unfolding symbol_at
symbol-at sheet goal symbols k w n e q = ap₂ (λ (x m : ℕ). record { name = word_name sheet goal x; arguments = m }) e q

same-symbol : (sheet goal after symbols : List ℕ) (k : ℕ) → get_or after k 0 ≡ get_or symbols k 0 → get_or after (most_nodes + k) 0 ≡ get_or symbols (most_nodes + k) 0 → symbol_at sheet goal after k ≡ symbol_at sheet goal symbols k
unfolding symbol_at
same-symbol sheet goal after symbols k e q = ap₂ (λ (x m : ℕ). record { name = word_name sheet goal x; arguments = m }) e q

same-symbols : (sheet goal after symbols : List ℕ) (k : ℕ) → ((j : ℕ) → j < k → get_or after j 0 ≡ get_or symbols j 0) → ((j : ℕ) → j < k → get_or after (most_nodes + j) 0 ≡ get_or symbols (most_nodes + j) 0)
    → symbols_of sheet goal after k ≡ symbols_of sheet goal symbols k
unfolding symbols_of
same-symbols sheet goal after symbols zero e q = refl
same-symbols sheet goal after symbols (suc k) e q =
    ap₂ (λ (l : List Symbol) (s : Symbol). l ++ (s ∷ []))
    (same-symbols sheet goal after symbols k (λ j l. e j (let z : j < suc k = omega arith in z)) (λ j l. q j (let z : j < suc k = omega arith in z)))
    (same-symbol sheet goal after symbols k (e k (let z : k < suc k = omega arith in z)) (q k (let z : k < suc k = omega arith in z)))

module _ (sheet goal symbols : List ℕ) (count w n k : ℕ) (listed : SymbolsListed sheet goal symbols count) (number : k ≡ symbol_of (symbols_of sheet goal symbols count) (word_name sheet goal w) n) where
  long : length (symbols_of sheet goal symbols count) ≡ count
  long = length_symbols sheet goal symbols count

  old-listed : k < count → T (is_listed (symbols_of sheet goal symbols count) (word_name sheet goal w) n)
  old-listed l = go (decide (is_listed (symbols_of sheet goal symbols count) (word_name sheet goal w) n))
    where
      go : T (is_listed (symbols_of sheet goal symbols count) (word_name sheet goal w) n) ⊎ (is_listed (symbols_of sheet goal symbols count) (word_name sheet goal w) n ≡ false) → T (is_listed (symbols_of sheet goal symbols count) (word_name sheet goal w) n)
      go (inl h) = h
      go (inr h) = absurd (let z : symbol_of (symbols_of sheet goal symbols count) (word_name sheet goal w) n ≡ length (symbols_of sheet goal symbols count) = symbol-none (symbols_of sheet goal symbols count) (word_name sheet goal w) n h in omega (arith, long))

  new-listed : count ≤ k → is_listed (symbols_of sheet goal symbols count) (word_name sheet goal w) n ≡ false
  new-listed l = go (decide (is_listed (symbols_of sheet goal symbols count) (word_name sheet goal w) n))
    where
      go : T (is_listed (symbols_of sheet goal symbols count) (word_name sheet goal w) n) ⊎ (is_listed (symbols_of sheet goal symbols count) (word_name sheet goal w) n ≡ false) → is_listed (symbols_of sheet goal symbols count) (word_name sheet goal w) n ≡ false
      go (inr h) = h
      go (inl h) = absurd (let z : symbol_of (symbols_of sheet goal symbols count) (word_name sheet goal w) n < length (symbols_of sheet goal symbols count) = symbol_low (symbols_of sheet goal symbols count) (word_name sheet goal w) n h in omega (arith, long))

  pub intern-old : k < count → Interned sheet goal symbols count w n symbols k
  intern-old l =
      let same : with_symbol (symbols_of sheet goal symbols count) (word_name sheet goal w) n ≡ symbols_of sheet goal symbols count = with-old (symbols_of sheet goal symbols count) (word_name sheet goal w) n (old-listed l) in
      record {
        number = number ∙ ap (λ (ss : List Symbol). symbol_of ss (word_name sheet goal w) n) (sym same);
        low = omega arith;
        listed = λ r c. subst (SymbolsListed sheet goal symbols) (sym (c.old l)) listed;
        symbols_are = λ r c. ap (symbols_of sheet goal symbols) (c.old l) ∙ sym same;
      }

  module _ (few : count < most_nodes) (room : nodes_words ≤ length symbols) (inside : SymbolInside sheet goal w) where
    after : List ℕ
    after = set (set symbols count w) (most_nodes + count) n

    after-word : (j : ℕ) → j < count → get_or after j 0 ≡ get_or symbols j 0
    unfolding after
    after-word j l =
        get_or-set_other (set symbols count w) (most_nodes + count) j n 0 (λ e. let z : j ≡ most_nodes + count = e in omega arith)
        ∙ get_or-set_other symbols count j w 0 (λ e. let z : j ≡ count = e in omega arith)

    after-arguments : (j : ℕ) → j < count → get_or after (most_nodes + j) 0 ≡ get_or symbols (most_nodes + j) 0
    unfolding after
    after-arguments j l =
        get_or-set_other (set symbols count w) (most_nodes + count) (most_nodes + j) n 0 (λ e. let z : most_nodes + j ≡ most_nodes + count = e in omega arith)
        ∙ get_or-set_other symbols count (most_nodes + j) w 0 (λ e. let z : most_nodes + j ≡ count = e in omega arith)

    last_word : get_or after count 0 ≡ w
    unfolding after
    last_word =
        get_or-set_other (set symbols count w) (most_nodes + count) count n 0 (λ e. let z : count ≡ most_nodes + count = e in omega arith)
        ∙ get_or-set_same symbols count w 0 (omega arith)

    last-arguments : get_or after (most_nodes + count) 0 ≡ n
    unfolding after
    last-arguments = get_or-set_same (set symbols count w) (most_nodes + count) n 0 (let z : length (set symbols count w) ≡ length symbols = length-set symbols count w in omega arith)

    after-long : length after ≡ length symbols
    unfolding after
    after-long = length-set (set symbols count w) (most_nodes + count) n ∙ length-set symbols count w

    after-inside : (j : ℕ) → j < count + 1 → SymbolInside sheet goal (get_or after j 0)
    after-inside j l = go (below_or j count)
      where
        go : (j < count) ⊎ (count ≤ j) → SymbolInside sheet goal (get_or after j 0)
        go (inl m) = subst (SymbolInside sheet goal) (sym (after-word j m)) (listed.inside j m)
        go (inr m) = subst (λ (i : ℕ). SymbolInside sheet goal (get_or after i 0)) (let z : count ≡ j = omega arith in z) (subst (SymbolInside sheet goal) (sym last_word) inside)

    after-symbols : symbols_of sheet goal after (count + 1) ≡ symbols_of sheet goal symbols count ++ (record { name = word_name sheet goal w; arguments = n } ∷ [])
    after-symbols =
        ap (symbols_of sheet goal after) (add-one count)
        ∙ (snoc sheet goal after count
        ∙ ap₂ (λ (l : List Symbol) (s : Symbol). l ++ (s ∷ [])) (same-symbols sheet goal after symbols count after-word after-arguments) (symbol-at sheet goal after count w n last_word last-arguments))

    pub intern-new : count ≤ k → Interned sheet goal symbols count w n (set (set symbols count w) (most_nodes + count) n) count
    unfolding after
    intern-new l =
        let fresh : is_listed (symbols_of sheet goal symbols count) (word_name sheet goal w) n ≡ false = new-listed l in
        let same : with_symbol (symbols_of sheet goal symbols count) (word_name sheet goal w) n ≡ symbols_of sheet goal symbols count ++ (record { name = word_name sheet goal w; arguments = n } ∷ []) = with-new (symbols_of sheet goal symbols count) (word_name sheet goal w) n fresh in
        let m : count ≤ count = omega arith in
        let last : symbol_of (symbols_of sheet goal symbols count ++ (record { name = word_name sheet goal w; arguments = n } ∷ [])) (word_name sheet goal w) n ≡ length (symbols_of sheet goal symbols count) + symbol_of (record { name = word_name sheet goal w; arguments = n } ∷ []) (word_name sheet goal w) n =
        symbol-new (symbols_of sheet goal symbols count) (record { name = word_name sheet goal w; arguments = n } ∷ []) (word_name sheet goal w) n fresh in
        let one : symbol_of (record { name = word_name sheet goal w; arguments = n } ∷ []) (word_name sheet goal w) n ≡ 0 = symbol-one (record { name = word_name sheet goal w; arguments = n }) (word_name sheet goal w) n (self-symbol (word_name sheet goal w) n) in
        let long1 : length (symbols_of sheet goal symbols count) ≡ count = long in
        let c0 : count ≡ symbol_of (symbols_of sheet goal symbols count ++ (record { name = word_name sheet goal w; arguments = n } ∷ [])) (word_name sheet goal w) n = omega arith in
        record {
          number = c0 ∙ ap (λ (ss : List Symbol). symbol_of ss (word_name sheet goal w) n) (sym same);
          low = m;
          listed = λ r c. subst (SymbolsListed sheet goal after) (sym (c.new m)) (record { room = (let z : length after ≡ length symbols = after-long in omega arith); inside = after-inside });
          symbols_are = λ r c. ap (symbols_of sheet goal after) (c.new m) ∙ (after-symbols ∙ sym same);
        }
