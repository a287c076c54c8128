-- Terms as they stand in the loaded node table, and terms of a copy read back from it.
use Rattle.std.specs.Prelude.{ℕ, zero, suc, max, ◌+◌, ◌-◌, ◌≤◌, ◌≡◌, Bool, true, false, ◌&&◌, ◌||◌, List, [], ◌∷◌, ◌++◌, T, ltb, length, get_or}
use Rattle.words.specs.Tables.{WordsAt}
use Rattle.syntax.specs.Words.{first_name}
use Rattle.syntax.specs.Limits.{brackets}
use Rattle.syntax.specs.Terms.{Term, Terms, variable, compound, nil, cons, arity, same_predicate}
use Rattle.machine.specs.Substitution.{RTerm, RTerms, var, app, rnil, rcons}
use Rattle.run_layout.specs.Regions.{loaded_node}

-- ---- symbols

-- A symbol is a name together with its number of arguments.
pub record Symbol : Type 0 where
  pub name : List ℕ
  pub arguments : ℕ

-- a symbol is a name with so many arguments
unfoldable pub is_symbol : List ℕ → ℕ → Symbol → Bool
is_symbol f n s = same_predicate s.name s.arguments f n

-- The number of a name with so many arguments: its first place among the symbols, counted from 0.
unfoldable pub symbol_of : List Symbol → List ℕ → ℕ → ℕ
symbol_of [] f n = 0
symbol_of (s ∷ ss) f n = elim (is_symbol f n s) [ true ↦ 0 | false ↦ suc (symbol_of ss f n) ]

-- it is among the symbols
unfoldable pub is_listed : List Symbol → List ℕ → ℕ → Bool
is_listed [] f n = false
is_listed (s ∷ ss) f n = is_symbol f n s || is_listed ss f n

-- the name of a symbol's number
unfoldable pub name_of_symbol : List Symbol → ℕ → List ℕ
name_of_symbol ss k = (get_or ss k (record { name = []; arguments = 0 })).name

-- ---- the table

-- A node: a variable's number, below `first_name`, or the symbol's number from there on; then how many words it and its arguments take. The arguments follow.
unfoldable mutual
  pub loaded_words : List Symbol → Term → List ℕ
  loaded_words ss (variable n b) = n ∷ loaded_node ∷ []
  loaded_words ss (compound b f ts) = (first_name + symbol_of ss f (arity ts)) ∷ (loaded_node + length (loaded_all ss ts)) ∷ loaded_all ss ts

  pub loaded_all : List Symbol → Terms → List ℕ
  loaded_all ss nil = []
  loaded_all ss (cons t ts) = loaded_words ss t ++ loaded_all ss ts

-- A term that can stand in the table: its variables are numbered below `first_name`, and its names are among the symbols.
unfoldable mutual
  pub is_loadable : List Symbol → Term → Bool
  is_loadable ss (variable n b) = ltb n first_name
  is_loadable ss (compound b f ts) = is_listed ss f (arity ts) && are_loadable ss ts

  pub are_loadable : List Symbol → Terms → Bool
  are_loadable ss nil = true
  are_loadable ss (cons t ts) = is_loadable ss t && are_loadable ss ts

-- How many brackets are open at once in a term, and in a bracketed list of terms. A list of terms in a bracket of
-- its own has one more than the terms.
unfoldable mutual
  pub brackets_of : Term → ℕ
  brackets_of (variable n b) = 0
  brackets_of (compound b f ts) = brackets_all ts

  pub brackets_all : Terms → ℕ
  brackets_all nil = 0
  brackets_all (cons t ts) = max (suc (brackets_of t)) (brackets_all ts)

-- a term, and some terms one behind the other, stand at p
pub record TermLoaded (ss : List Symbol) (nodes : List ℕ) (p : ℕ) (t : Term) : Type 0 where
  pub words : WordsAt nodes p (loaded_words ss t)
  pub loadable : T (is_loadable ss t)
  pub shallow : brackets_of t ≤ brackets

pub record TermsLoaded (ss : List Symbol) (nodes : List ℕ) (p : ℕ) (ts : Terms) : Type 0 where
  pub words : WordsAt nodes p (loaded_all ss ts)
  pub loadable : T (are_loadable ss ts)
  pub shallow : brackets_all ts ≤ brackets + 1

-- p is a node: some term stands there
abbrev pub Node : List Symbol → List ℕ → ℕ → Type 0
Node ss nodes p = (t : Term) × TermLoaded ss nodes p t

-- p to e is a row of terms
pub record Row (ss : List Symbol) (nodes : List ℕ) (p e : ℕ) : Type 0 where
  pub terms : Terms
  pub stand : TermsLoaded ss nodes p terms
  pub ends : e ≡ p + length (loaded_all ss terms)

-- ---- terms read back

-- The term of copy c at p, and the terms of copy c from p up to e. The number k bounds how far the reading goes.
unfoldable mutual
  pub decoded : List Symbol → List ℕ → ℕ → ℕ → ℕ → RTerm
  decoded ss nodes c zero p = var (record { copy = c; number = 0 })
  decoded ss nodes c (suc k) p =
      elim (ltb (get_or nodes p 0) first_name) [
        | true ↦ var (record { copy = c; number = get_or nodes p 0 })
        | false ↦ app (name_of_symbol ss (get_or nodes p 0 - first_name)) (decoded_all ss nodes c k (p + loaded_node) (p + get_or nodes (p + 1) 0))
      ]

  pub decoded_all : List Symbol → List ℕ → ℕ → ℕ → ℕ → ℕ → RTerms
  decoded_all ss nodes c zero p e = rnil
  decoded_all ss nodes c (suc k) p e =
      elim (ltb p e) [ true ↦ rcons (decoded ss nodes c k p) (decoded_all ss nodes c k (p + get_or nodes (p + 1) 0) e) | false ↦ rnil ]

-- A run-time term is a place and a copy: the term that stands there, in that copy (`Nodes.term-at`).
unfoldable pub term_at : List Symbol → List ℕ → ℕ → ℕ → RTerm
term_at ss nodes p c = decoded ss nodes c (length nodes) p

unfoldable pub terms_at : List Symbol → List ℕ → ℕ → ℕ → ℕ → RTerms
terms_at ss nodes p e c = decoded_all ss nodes c (length nodes) p e

-- some terms and then others, and how many there are
unfoldable pub followed : RTerms → RTerms → RTerms
followed rnil us = us
followed (rcons t ts) us = rcons t (followed ts us)

unfoldable pub count : RTerms → ℕ
count rnil = 0
count (rcons t ts) = suc (count ts)
