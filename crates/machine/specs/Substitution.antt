-- Terms of clause copies, bindings, and putting bindings in (RULES, "The run").
use Rattle.std.specs.Prelude.{ℕ, Bool, true, false, cond, ◌&&◌, ◌||◌, List, [], ◌∷◌, eqb, ltb}
use Rattle.syntax.specs.Terms.{Term, Terms, variable, compound, nil, cons}

-- A variable of a clause copy: the copy, and the variable's number in the clause. The goal is copy 0.
pub record Variable : Type 0 where
  pub copy : ℕ
  pub number : ℕ

-- the same copy and the same number
abbrev pub same_variable : Variable → Variable → Bool
same_variable v w = eqb v.copy w.copy && eqb v.number w.number

-- v comes after w: by copy, then by number
abbrev pub is_later : Variable → Variable → Bool
is_later v w = ltb w.copy v.copy || (eqb w.copy v.copy && ltb w.number v.number)

-- A term of a copy: a variable, or a name with its arguments (a numeral is a name without any).
mutual
  pub data RTerm : Type 0 where
    var : Variable → RTerm
    app : List ℕ → RTerms → RTerm

  pub data RTerms : Type 0 where
    rnil : RTerms
    rcons : RTerm → RTerms → RTerms

-- a clause's term, or list of terms, in copy c
abbrev mutual
  pub copied : ℕ → Term → RTerm
  copied c (variable i at) = var (record { copy = c; number = i })
  copied c (compound at f ts) = app f (copied_all c ts)

  pub copied_all : ℕ → Terms → RTerms
  copied_all c nil = rnil
  copied_all c (cons t ts) = rcons (copied c t) (copied_all c ts)

-- a variable stands in a term
abbrev mutual
  pub occurs : Variable → RTerm → Bool
  occurs v (var w) = same_variable v w
  occurs v (app f ts) = occurs_in v ts

  pub occurs_in : Variable → RTerms → Bool
  occurs_in v rnil = false
  occurs_in v (rcons t ts) = occurs v t || occurs_in v ts

-- no variable is left in a term
abbrev mutual
  pub closed : RTerm → Bool
  closed (var v) = false
  closed (app f ts) = closed_all ts

  pub closed_all : RTerms → Bool
  closed_all rnil = true
  closed_all (rcons t ts) = closed t && closed_all ts

-- a term s put in for a variable v
abbrev mutual
  pub replace : Variable → RTerm → RTerm → RTerm
  replace v s (var w) = cond (same_variable v w) s (var w)
  replace v s (app f ts) = app f (replace_all v s ts)

  pub replace_all : Variable → RTerm → RTerms → RTerms
  replace_all v s rnil = rnil
  replace_all v s (rcons t ts) = rcons (replace v s t) (replace_all v s ts)

-- A variable and the term it is bound to. Bindings are a list, newest first; each term had the older bindings put in when it was bound.
pub record Binding : Type 0 where
  pub variable : Variable
  pub term : RTerm

-- A term with the bindings put in, the oldest first: after that none applies (`Reached.none-applies`).
unfoldable pub resolve : List Binding → RTerm → RTerm
resolve [] t = t
resolve (e ∷ b) t = replace e.variable e.term (resolve b t)

-- the variable is bound
unfoldable pub is_bound : List Binding → Variable → Bool
is_bound [] v = false
is_bound (e ∷ b) v = same_variable v e.variable || is_bound b v
