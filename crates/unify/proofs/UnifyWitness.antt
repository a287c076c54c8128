-- There is something to unify: what `unify` asks can be met. Assumes nothing.
use Prim.Native.Nat.{ℕ, ◌<◌}
use native.Mathlib.Omega.{arith}
use mathlib.Core.Path.{◌≡◌}
use mathlib.Core.List.{List}
use lib.ListN.{length, get_or, replicate, length-replicate, get_or-replicate}
use Rattle.run_layout.specs.Regions.{cells, rows}
use Rattle.run_layout.proofs.RunLayoutWitness.{symbols, table, state, node, empty}
use Rattle.unify.specs.Turns.{Unifiable}

unfoldable pub scratch : List ℕ
scratch = replicate rows 0

scratch_long : length scratch ≡ rows
unfolding scratch
scratch_long = length-replicate {A = ℕ} rows 0

scratch-zero : (y : ℕ) → y < cells → get_or scratch y 0 ≡ 0
unfolding scratch
scratch-zero y l = get_or-replicate {A = ℕ} rows y 0 0 (omega arith)

-- f(X) of the goal and f(X) of copy 1
pub witness : Unifiable table state scratch (record { node = 0; copy = 0 }) (record { node = 0; copy = 1 }) 0
witness =
    let l : length scratch ≡ rows = scratch_long in
    record {
      ss = symbols;
      top = 1;
      store = empty;
      within = record { cell = λ i q. absurd (let z : i < 0 = q in omega arith); copy = λ i q. absurd (let z : i < 0 = q in omega arith) };
      roomy = omega arith;
      clean = record { long = omega arith; zero = scratch-zero };
      left = node;
      right = node;
      copy = omega arith;
      copy_right = omega arith;
      below = omega arith;
      below_right = omega arith;
    }
