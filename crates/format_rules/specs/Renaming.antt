-- Sheets that are the same "up to names of variables": a renaming takes each clause of one to that of the other, and variables that differ stay so. Leading
-- zeros of numerals are dropped in reading.
use Rattle.std.specs.Prelude.{ℕ, ◌≡◌, List, [], ◌∷◌}
use Rattle.syntax.specs.Terms.{Term, Terms, variable, compound, nil, cons, Atom, Literal, Body, call, equation, truth, falsity, either, done, also, Clause}
use Rattle.syntax.specs.Terms.{Sheet}
use Rattle.format_rules.specs.Plain.{plain_atom, plain_body, plain_declarations}

unfoldable mutual
  pub renamed : (ℕ → ℕ) → Term → Term
  renamed f (variable i at) = variable (f i) 0
  renamed f (compound at g ts) = compound 0 g (all_renamed f ts)

  pub all_renamed : (ℕ → ℕ) → Terms → Terms
  all_renamed f nil = nil
  all_renamed f (cons t ts) = cons (renamed f t) (all_renamed f ts)

abbrev pub renamed_atom : (ℕ → ℕ) → Atom → Atom
renamed_atom f a = record { at = 0; name = a.name; args = all_renamed f a.args }

unfoldable mutual
  pub renamed_literal : (ℕ → ℕ) → Literal → Literal
  renamed_literal f (call a) = call (renamed_atom f a)
  renamed_literal f (equation t u) = equation (renamed f t) (renamed f u)
  renamed_literal f truth = truth
  renamed_literal f falsity = falsity
  renamed_literal f (either y z) = either (renamed_body f y) (renamed_body f z)

  pub renamed_body : (ℕ → ℕ) → Body → Body
  renamed_body f done = done
  renamed_body f (also l b) = also (renamed_literal f l) (renamed_body f b)

-- a renaming takes one clause to the other, places left aside
pub record ClauseSameButForNames (c d : Clause) : Type 0 where
  pub to : ℕ → ℕ
  pub apart : (i j : ℕ) → to i ≡ to j → i ≡ j
  pub head : renamed_atom to c.head ≡ plain_atom d.head
  pub body : renamed_body to c.body ≡ plain_body d.body

-- as many clauses, each the same but for names
pub data ClausesSameButForNames : List Clause → List Clause → Type 0 where
  none_left : ClausesSameButForNames [] []
  one_more : {c d : Clause} {cs ds : List Clause}
      → ClauseSameButForNames c d
      → ClausesSameButForNames cs ds
      → ClausesSameButForNames (c ∷ cs) (d ∷ ds)

-- "their declarations agree in order, and their clauses too, up to names of variables and leading zeros of numerals"
pub record SheetsSameButForNames (sh other : Sheet) : Type 0 where
  pub declarations : plain_declarations sh.declarations ≡ plain_declarations other.declarations
  pub clauses : ClausesSameButForNames sh.clauses other.clauses
