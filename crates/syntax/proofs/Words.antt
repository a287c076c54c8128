-- Laws of what is packed into the words of a table: what was put in comes out again. Assumes nothing.
use Prim.Native.Nat.{ℕ, ◌≤◌, ◌<◌}
use native.Mathlib.Omega.{arith}
use mathlib.Core.Path.{◌≡◌}
use mathlib.Core.List.{List, ◌∷◌}
use Rattle.syntax.specs.Limits.{lengths}
use Rattle.syntax.specs.Terms.{Mark, input, output, free}
use Rattle.syntax.specs.Words.{functor, functor_arity, functor_length, item_kinds, marker, item_kind, side_items, mark_numbers, mark_number, with_mark, marks_number, first_mark, other_marks}

-- ---- a name's first word

pub functor-arity : (n len : ℕ) → len < lengths → functor_arity (functor n len) ≡ n
functor-arity n len h = omega arith

pub functor-length : (n len : ℕ) → len < lengths → functor_length (functor n len) ≡ len
functor-length n len h = omega arith

-- ---- the words of a bracket

pub marker-kind : (kind items : ℕ) → kind < item_kinds → item_kind (marker kind items) ≡ kind
marker-kind kind items h = omega arith

pub marker-items : (kind items : ℕ) → kind < item_kinds → side_items (marker kind items) ≡ items
marker-items kind items h = omega arith

-- ---- marks

pub with_first : (m others : ℕ) → m < mark_numbers → first_mark (with_mark m others) ≡ m
with_first m others h = omega arith

pub with-others : (m others : ℕ) → m < mark_numbers → other_marks (with_mark m others) ≡ others
with-others m others h = omega arith

-- no mark has the number 0, and each fits its place
pub mark-some : (m : Mark) → 1 ≤ mark_number m
mark-some input = omega arith
mark-some output = omega arith
mark-some free = omega arith

pub mark-small : (m : Mark) → mark_number m < mark_numbers
mark-small input = omega arith
mark-small output = omega arith
mark-small free = omega arith

pub marks-first : (m : Mark) (ms : List Mark) → first_mark (marks_number (m ∷ ms)) ≡ mark_number m
unfolding marks_number
marks-first m ms = with_first (mark_number m) (marks_number ms) (mark-small m)

pub marks-others : (m : Mark) (ms : List Mark) → other_marks (marks_number (m ∷ ms)) ≡ marks_number ms
unfolding marks_number
marks-others m ms = with-others (mark_number m) (marks_number ms) (mark-small m)
