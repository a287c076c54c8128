-- There is an answer to put: what `put_answer` asks can be met. Assumes nothing.
use Prim.Native.Nat.{ℕ, zero, suc, ◌+◌, ◌*◌, ◌<◌}
use native.Mathlib.Omega.{arith}
use mathlib.Core.Path.{◌≡◌, refl}
use mathlib.Core.List.{List, [], ◌∷◌}
use lib.ListN.{length, get_or, replicate, length-replicate, get_or-replicate}
use Rattle.syntax.specs.Spans.{SpanInside, packed}
use Rattle.run_layout.specs.Regions.{open_size, stack}
use Rattle.syntax.specs.Quote.{bytes}
use Rattle.run_layout.specs.Nodes.{name_of_symbol}
use Rattle.run_layout.specs.State.{word_of, bound_words}
use Rattle.run_layout.proofs.RunLayoutWitness.{symbols, table, state, witness as bound}
use Rattle.run_layout.specs.SymbolNames.{name_at, NamePlaced, SymbolsSpelt}
use Rattle.answers.specs.Words.{Named}
use Rattle.run_layout.specs.Symbols.{symbol_word}
use Rattle.run_layout.specs.Rooms.{Clean}
use Rattle.std.proofs.Common.{Bor}
use Rattle.answers.specs.declared.Solution.{Solution}
use Rattle.answers.specs.Fitting.{SomeAnswerable, Tellable}

-- scratch words for ten bytes of room
abbrev scratch_words : ℕ
scratch_words = stack + (10 * open_size + 2 * open_size)

unfoldable pub scratch : List ℕ
scratch = replicate scratch_words 0

scratch-long : length scratch ≡ scratch_words
unfolding scratch
scratch-long = length-replicate {A = ℕ} scratch_words 0

clean : Clean scratch
unfolding scratch
clean = record { long = omega (arith, scratch-long); zero = λ y l. get_or-replicate scratch_words y 0 0 (omega arith) }

-- the sheet `f` and the goal `X`, of one byte each: a word for the symbol, and one for the variable
spelt : SymbolsSpelt symbols (symbol_word 0 0 1 ∷ []) (bytes "f") (bytes "X")
unfolding symbols name_at name_of_symbol
spelt = record { placed = λ k l. placed k l; name = λ k l. name k l }
  where
    placed : (k : ℕ) → k < 1 → NamePlaced (symbol_word 0 0 1 ∷ []) (bytes "f") (bytes "X") k
    placed zero l = record { listed = omega arith; inside = omega arith }
    placed (suc k) l = absurd (omega arith)

    name : (k : ℕ) → k < 1 → name_at (symbol_word 0 0 1 ∷ []) (bytes "f") (bytes "X") k ≡ name_of_symbol symbols k
    name zero l = refl
    name (suc k) l = absurd (omega arith)

named : Named (bytes "X") (packed 0 1 ∷ []) 1
named = record { listed = omega arith; few = omega arith; inside = λ i l. inside i l }
  where
    inside : (i : ℕ) → i < 1 → SpanInside (bytes "X") (get_or (packed 0 1 ∷ []) i 0)
    inside zero l = omega arith
    inside (suc i) l = absurd (omega arith)

-- variable 0 of the goal is bound to f(X) of copy 1; the places of the tables are of no account
abbrev lent : List ℕ → Bor (List ℕ)
lent words = record { ref_ptr = (0, 0); now = words }

abbrev solution : Solution
solution =
    record {
      nodes = lent table;
      state = lent (bound_words state 0 0 (word_of 0 1));
      symbols = lent (symbol_word 0 0 1 ∷ []);
      sheet = lent (bytes "f");
      goal = lent (bytes "X");
      names = lent (packed 0 1 ∷ []);
      count = 1;
    }

pub witness : SomeAnswerable solution × Tellable scratch 10 × Clean scratch
witness = (
  record { ss = symbols; n = 1; is = record { store = bound; symbols_are = spelt; named = named } },
  omega (arith, scratch-long),
  clean,
)
