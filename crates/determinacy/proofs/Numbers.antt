-- Laws of a clause's number. Assumes nothing.
use Prim.Native.Nat.{ℕ}
use mathlib.Core.Path.{◌≡◌, refl}
use mathlib.Core.Option.{Option, none, some}
use Rattle.std.specs.Prelude.{Some, None}
use Rattle.determinacy.specs.Clauses.{told_number}

pub number_is : (n : ℕ) → told_number (some n) ≡ Some n
unfolding told_number
number_is n = refl

pub number-nothing : told_number none ≡ None
unfolding told_number
number-nothing = refl

pub number-none : (o : Option ℕ) → None ≡ told_number o → o ≡ none
unfolding told_number
number-none none e = refl
number-none (some m) e = cc

pub number-some : (o : Option ℕ) (r : ℕ) → Some r ≡ told_number o → o ≡ some r
unfolding told_number
number-some none r e = cc
number-some (some m) r e = cc
