-- The numbers that the names of copied nodes get.
use Rattle.std.specs.Prelude.{ℕ, ◌+◌, ◌≤◌, ◌≡◌, cond, List, [], ◌∷◌, ltb, length, get_or, set}
use Rattle.syntax.specs.Words.{first_name}
use Rattle.words.specs.Tables.{WordsAt}
use Rattle.run_layout.specs.Nodes.{Symbol, symbol_of}
use Rattle.load.specs.Flat.{Flat, flat_words, flat_symbol, flat_arity, put_all}
use Rattle.load.specs.Symbols.{word_name, SymbolInside, symbols_of, SymbolsListed}
use Rattle.load.specs.Interning.{with_symbol}

-- ---- nodes

-- the symbols once the name of a copied node is listed, and once all names are
unfoldable pub with_node : List ℕ → List ℕ → List Symbol → ℕ → List Symbol
with_node sheet goal ss v = cond (ltb v first_name) ss (with_symbol ss (word_name sheet goal (flat_symbol v)) (flat_arity v))

unfoldable pub with_all : List ℕ → List ℕ → List Symbol → List Flat → List Symbol
with_all sheet goal ss [] = ss
with_all sheet goal ss (x ∷ xs) = with_all sheet goal (with_node sheet goal ss x.what) xs

-- the node with its symbol's number, and all of them
unfoldable pub numbered_what : List ℕ → List ℕ → List Symbol → ℕ → ℕ
numbered_what sheet goal ss v = cond (ltb v first_name) v (first_name + symbol_of ss (word_name sheet goal (flat_symbol v)) (flat_arity v))

unfoldable pub numbered_all : List ℕ → List ℕ → List Symbol → List Flat → List Flat
numbered_all sheet goal ss [] = []
numbered_all sheet goal ss (x ∷ xs) = record { what = numbered_what sheet goal ss x.what; size = x.size } ∷ numbered_all sheet goal ss xs

-- the names of copied nodes are in the texts
abbrev pub NodeInside : List ℕ → List ℕ → ℕ → Type 0
NodeInside sheet goal v = first_name ≤ v → SymbolInside sheet goal (flat_symbol v)

abbrev pub AllInside : List ℕ → List ℕ → List Flat → Type 0
AllInside sheet goal [] = Unit {0}
AllInside sheet goal (x ∷ xs) = NodeInside sheet goal x.what × AllInside sheet goal xs

-- copied nodes stand from 0 up to a place
pub record Copied (sheet goal nodes : List ℕ) (stop : ℕ) : Type 0 where
  pub flats : List Flat
  pub has : WordsAt nodes 0 (flat_words flats)
  pub ends : stop ≡ length (flat_words flats)
  pub inside : AllInside sheet goal flats

-- the node at p has its symbol's number, and there are r symbols
pub record NodeNumbered (sheet goal nodes : List ℕ) (p : ℕ) (symbols : List ℕ) (count : ℕ) (nodes' symbols' : List ℕ) (r : ℕ) : Type 0 where
  pub nodes_are : nodes' ≡ set nodes p
      (numbered_what sheet goal (with_node sheet goal (symbols_of sheet goal symbols count) (get_or nodes p 0)) (get_or nodes p 0))
  pub symbols_are : symbols_of sheet goal symbols' r ≡ with_node sheet goal (symbols_of sheet goal symbols count) (get_or nodes p 0)
  pub listed : SymbolsListed sheet goal symbols' r
  pub few : r ≤ count + 1

-- all nodes have
pub record NodesNumbered (sheet goal : List ℕ) (flats : List Flat) (nodes nodes' symbols' : List ℕ) (r : ℕ) : Type 0 where
  pub nodes_are : nodes' ≡ put_all nodes 0 (flat_words (numbered_all sheet goal (with_all sheet goal [] flats) flats))
  pub symbols_are : symbols_of sheet goal symbols' r ≡ with_all sheet goal [] flats
  pub listed : SymbolsListed sheet goal symbols' r
