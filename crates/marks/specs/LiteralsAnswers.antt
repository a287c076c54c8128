-- The definitions' answers as the code gives them.
use Rattle.std.specs.Prelude.{ℕ, ◌+◌, ◌≡◌, List, length, Result, Ok, Err}
use Rattle.syntax.specs.Terms.{Literal, Body, Declaration, literals_in, literals_of}
use Rattle.syntax.specs.Words.{literal_words, body_words, literal_length, body_length}
use Rattle.mode_rules.specs.Modes.{Known, Walk, faulted, known, literal_walk, body_fault}
use Rattle.syntax.specs.declared.Refusal.{Refusal}
use Rattle.marks.specs.declared.literals.Passed.{Passed}

-- what a walk along a body gives
abbrev pub walk_by : Result Passed Refusal → Walk
walk_by (Ok x) = known x.known
walk_by (Err r) = faulted r

-- what it gives along a part of a body that ends at a place, is so many items, and is followed by the literal of that number; where there is a fault,
-- the walk says no more
pub record WalkPassed (r : Result Passed Refusal) (w : Walk) (next items literal : ℕ) : Type 0 where
  pub walk : walk_by r ≡ w
  pub next_is : (x : Passed) → r ≡ Ok x → x.next ≡ next
  pub items_are : (x : Passed) → r ≡ Ok x → x.items ≡ items
  pub literal_is : (x : Passed) → r ≡ Ok x → x.literal ≡ literal

-- along a literal that stands at p, number l of clause c, before which τ is known ground
abbrev pub PastLiteral : Result Passed Refusal → List Declaration → ℕ → ℕ → Known → ℕ → Literal → Type 0
PastLiteral r ds c l τ p x = WalkPassed r (literal_walk ds c l τ x) (p + length (literal_words x)) (literal_length x) (literals_in x + l)

-- along a body that does, from that number on
abbrev pub PastBody : Result Passed Refusal → List Declaration → ℕ → ℕ → Known → ℕ → Body → Type 0
PastBody r ds c l τ p b = WalkPassed r (body_fault ds c l τ b) (p + length (body_words b)) (body_length b) (literals_of b + l)
