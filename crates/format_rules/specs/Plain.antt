-- Sheets that are the same but for the bytes at which their names and variables stand: with 0 for each, they are equal. In a sheet as read a variable is its
-- number by first appearance in the clause, each `_` anew, and a numeral has no leading zeros.
use Rattle.std.specs.Prelude.{◌≡◌, List, [], ◌∷◌}
use Rattle.syntax.specs.Terms.{Term, Terms, variable, compound, nil, cons, Atom, Literal, Body, call, equation, truth, falsity, either, done, also}
use Rattle.syntax.specs.Terms.{Declaration, Clause, Sheet}

unfoldable mutual
  pub plain_term : Term → Term
  plain_term (variable i at) = variable i 0
  plain_term (compound at f ts) = compound 0 f (plain_terms ts)

  pub plain_terms : Terms → Terms
  plain_terms nil = nil
  plain_terms (cons t ts) = cons (plain_term t) (plain_terms ts)

abbrev pub plain_atom : Atom → Atom
plain_atom a = record { at = 0; name = a.name; args = plain_terms a.args }

unfoldable mutual
  pub plain_literal : Literal → Literal
  plain_literal (call a) = call (plain_atom a)
  plain_literal (equation t u) = equation (plain_term t) (plain_term u)
  plain_literal truth = truth
  plain_literal falsity = falsity
  plain_literal (either y z) = either (plain_body y) (plain_body z)

  pub plain_body : Body → Body
  plain_body done = done
  plain_body (also l b) = also (plain_literal l) (plain_body b)

abbrev pub plain_clause : Clause → Clause
plain_clause c = record { head = plain_atom c.head; body = plain_body c.body; variables = c.variables }

unfoldable pub plain_clauses : List Clause → List Clause
plain_clauses [] = []
plain_clauses (c ∷ cs) = plain_clause c ∷ plain_clauses cs

abbrev pub plain_declaration : Declaration → Declaration
plain_declaration d = record { at = 0; name = d.name; marks = d.marks }

unfoldable pub plain_declarations : List Declaration → List Declaration
plain_declarations [] = []
plain_declarations (d ∷ ds) = plain_declaration d ∷ plain_declarations ds

-- the sheet without places
abbrev pub plain : Sheet → Sheet
plain sh = record { declarations = plain_declarations sh.declarations; clauses = plain_clauses sh.clauses }

abbrev pub SameButForPlaces : Sheet → Sheet → Type 0
SameButForPlaces sh other = plain sh ≡ plain other
