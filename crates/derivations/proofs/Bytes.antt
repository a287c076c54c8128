-- Records written as bytes are read as they are.
use Prim.Native.Nat.{ℕ, ◌+◌, ◌*◌, ◌%◌, ◌/◌}
use native.Mathlib.Omega.{arith}
use mathlib.Core.Path.{◌≡◌, refl, ap, ◌∙◌}
use mathlib.Core.Bool.{Bool, true, false, cond}
use mathlib.Core.List.{List, [], ◌∷◌}
use mathlib.Core.Option.{Option, none, some}
use lib.Dec.{T, leb, le→leb}
use lib.ListN.{length}
use Rattle.derivations.specs.Workings.{Choice, Numbered, Left, Right, Records, malformed, next, body_bytes, numbered_of, choice_of, records_from, records_of}
use Rattle.derivations.specs.Derivations.{recorded_then, recorded, written_record, written}

numbered : (n : ℕ) (s : List ℕ) → numbered_of ((n % 256) ∷ (n / 256) ∷ s) ≡ some (Numbered n)
unfolding numbered_of
numbered n s = go (leb 2 (length ((n % 256) ∷ (n / 256) ∷ s))) (le→leb 2 (length ((n % 256) ∷ (n / 256) ∷ s)) (omega arith))
  where
    is : n % 256 + 256 * (n / 256) ≡ n
    is = omega arith

    go : (b : Bool) → T b → ◌≡◌ {A = Option Choice} (cond b (some (Numbered (n % 256 + 256 * (n / 256)))) none) (some (Numbered n))
    go true t = ap (λ (x : ℕ). some (Numbered x)) is
    go false t = absurd t

from-written : (ms : List Choice) → records_from 0 (written ms) ≡ recorded ms
unfolding records_from written recorded_then written_record choice_of
from-written [] = refl
from-written (Numbered n ∷ ms) =
    ap (λ (o : Option Choice). elim o as (λ _. Records) [ none ↦ malformed | some m ↦ next m (records_from (body_bytes m) ((n % 256) ∷ (n / 256) ∷ written ms)) ]) (numbered n (written ms))
    ∙ ap (next (Numbered n)) (from-written ms)
from-written (Left ∷ ms) = ap (next Left) (from-written ms)
from-written (Right ∷ ms) = ap (next Right) (from-written ms)

pub read-written : (ms : List Choice) → records_of (written ms) ≡ recorded ms
unfolding records_of
read-written ms = from-written ms
