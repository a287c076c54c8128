-- A symbol listed where it is new.
use Rattle.std.specs.Prelude.{ℕ, ◌+◌, ◌<◌, ◌≤◌, ◌≡◌, cond, List, [], ◌∷◌, ◌++◌}
use Rattle.run_layout.specs.Nodes.{Symbol, symbol_of, is_listed}
use Rattle.load.specs.Symbols.{word_name, symbols_of, SymbolsListed}

-- a symbol added at the end where it is not listed
unfoldable pub with_symbol : List Symbol → List ℕ → ℕ → List Symbol
with_symbol ss f n = cond (is_listed ss f n) ss (ss ++ (record { name = f; arguments = n } ∷ []))

-- how many symbols there are once number k is among them
pub record SymbolCount (count k r : ℕ) : Type 0 where
  pub old : k < count → r ≡ count
  pub new : count ≤ k → r ≡ count + 1

-- a symbol is listed, as number k
pub record Interned (sheet goal symbols : List ℕ) (count w arguments : ℕ) (after : List ℕ) (k : ℕ) : Type 0 where
  pub number : k ≡ symbol_of (with_symbol (symbols_of sheet goal symbols count) (word_name sheet goal w) arguments) (word_name sheet goal w) arguments
  pub low : k ≤ count
  pub listed : (r : ℕ) → SymbolCount count k r → SymbolsListed sheet goal after r
  pub symbols_are : (r : ℕ) → SymbolCount count k r → symbols_of sheet goal after r ≡ with_symbol (symbols_of sheet goal symbols count) (word_name sheet goal w)
      arguments
