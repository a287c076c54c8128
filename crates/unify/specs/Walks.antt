-- Two rows of terms side by side, and how far they are the same.
use Rattle.std.specs.Prelude.{ℕ, ◌+◌, ◌≤◌, ◌<◌, ◌≡◌, Result, Ok, Err, List, ◌⊎◌, get_or}
use Rattle.std.proofs.Math.Option.{none}
use Rattle.syntax.specs.Words.{first_name}
use Rattle.machine.specs.Substitution.{RTerms, Binding}
use Rattle.run_layout.specs.Regions.{big_pairs}
use Rattle.run_layout.specs.Nodes.{Symbol, Node, Row, terms_at, followed, count}
use Rattle.unify.specs.Rows.{unify_rows, rows_size}
use Rattle.unify.specs.declared.walk.WalkStop.{WalkStop}
use Rattle.unify.specs.declared.walk.WalkStop.TheVariants.{Clash, Met}

-- Rows from p to e and from q to f, of as many terms.
pub record RowsBeside (ss : List Symbol) (nodes : List ℕ) (p e q f : ℕ) : Type 0 where
  pub left : Row ss nodes p e
  pub right : Row ss nodes q f
  pub same : (c d : ℕ) → count (terms_at ss nodes p e c) ≡ count (terms_at ss nodes q f d)

-- What a walk over one row and another is given: where the other ends is known, but no argument of the code.
pub record Walkable (nodes : List ℕ) (p e q : ℕ) : Type 0 where
  pub ss : List Symbol
  pub f : ℕ
  pub beside : RowsBeside ss nodes p e q f

pub record TwoNodes (nodes : List ℕ) (p q : ℕ) : Type 0 where
  pub ss : List Symbol
  pub left : Node ss nodes p
  pub right : Node ss nodes q

-- To unify the rows from p and q, with others behind them, is to unify those from i and j. With whatever
-- bindings put in, what is left is no larger than it was.
pub record StopsAt (ss : List Symbol) (nodes : List ℕ) (p e q f i j : ℕ) : Type 0 where
  pub beside : RowsBeside ss nodes i e j f
  pub some : i < e
  pub means : (b : List Binding) (c d : ℕ) (l r : RTerms) → unify_rows b (followed (terms_at ss nodes p e c) l) (followed (terms_at ss nodes q f d) r)
      ≡ unify_rows b (followed (terms_at ss nodes i e c) l) (followed (terms_at ss nodes j f d) r)
  pub forward : p ≤ i
  pub less : (b : List Binding) (c : ℕ) → rows_size b (terms_at ss nodes i e c) ≤ rows_size b (terms_at ss nodes p e c)
  pub less_right : (b : List Binding) (d : ℕ) → rows_size b (terms_at ss nodes j f d) ≤ rows_size b (terms_at ss nodes q f d)

-- What a walk comes to: all the same, or a stop before the end.
abbrev pub RowsWalked : Type 0
RowsWalked = Result (Unit {0}) WalkStop

abbrev pub Walks : List Symbol → List ℕ → ℕ → ℕ → ℕ → ℕ → RowsWalked → Type 0
Walks ss nodes p e q f (Ok u) = (b : List Binding) (c d : ℕ) (l r : RTerms) → unify_rows b (followed (terms_at ss nodes p e c) l)
    (followed (terms_at ss nodes q f d) r) ≡ unify_rows b l r
Walks ss nodes p e q f (Err Clash) = (b : List Binding) (c d : ℕ) (l r : RTerms) → unify_rows b (followed (terms_at ss nodes p e c) l)
    (followed (terms_at ss nodes q f d) r) ≡ none
Walks ss nodes p e q f (Err (Met i j)) = StopsAt ss nodes p e q f i j

-- What a walk over the terms at p and q comes to, and one over the rows from p and q, wherever the other row ends.
abbrev pub WalksTerms : List ℕ → ℕ → ℕ → RowsWalked → Type 0
WalksTerms nodes p q r = (g : TwoNodes nodes p q) → Walks g.ss nodes p (p + get_or nodes (p + 1) 0) q (q + get_or nodes (q + 1) 0) r

abbrev pub WalksRows : List ℕ → ℕ → ℕ → ℕ → RowsWalked → Type 0
WalksRows nodes p e q r = (g : Walkable nodes p e q) → Walks g.ss nodes p e q g.f r

-- from so many pairs on the stack on, a variable stands on a side where a walk stops
abbrev pub MetVariable : List ℕ → ℕ → RowsWalked → Type 0
MetVariable nodes h (Ok u) = Unit {0}
MetVariable nodes h (Err Clash) = Unit {0}
MetVariable nodes h (Err (Met i j)) = big_pairs ≤ h → (get_or nodes i 0 < first_name) ⊎ (get_or nodes j 0 < first_name)
