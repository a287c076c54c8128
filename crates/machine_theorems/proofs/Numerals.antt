-- REQUESTS (iii): "Numerals are the same when equal after leading zeros are dropped". Assumes nothing.
use Prim.Native.Nat.{ℕ}
use mathlib.Core.Path.{◌≡◌, subst}
use mathlib.Core.List.{List}
use mathlib.Core.Logic.{◌↔◌}
use lib.Dec.{T}
use Rattle.syntax.specs.Terms.{same_name}
use Rattle.syntax.specs.Numerals.{trimmed}
use Rattle.syntax.specs.Reading.{Cursor, spelt, numeral_at}
use Rattle.machine.proofs.Tests.{name-eq, name-refl}

-- Two numerals, of one text or of two, are read as one constant exactly when they are equal after leading zeros are dropped.
pub one-numeral : (s t : List ℕ) (a b : Cursor) → T (same_name (numeral_at s a).name (numeral_at t b).name) ↔ (trimmed (spelt s a) ≡ trimmed (spelt t b))
one-numeral s t a b =
    (name-eq (trimmed (spelt s a)) (trimmed (spelt t b)), λ e. subst (λ (x : List ℕ). T (same_name (trimmed (spelt s a)) x)) e (name-refl (trimmed (spelt s a))))
