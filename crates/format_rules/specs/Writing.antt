-- A sheet written afresh (REQUESTS (iv)): "declarations in sheet order, then clauses in order, a line feed after each, no other blanks but one space after
-- `:-` of a declaration and one after `mode`, variables as V1, V2 by first appearance in the clause (each `_` too), numerals without leading zeros".
-- Reading numbers a clause's variables by first appearance, each `_` anew, and drops the zeros (syntax/specs/Reading), so names are written as they were read.
-- Each definition writes one thing before the bytes that follow it.
use Rattle.std.specs.Prelude.{ℕ, suc, List, [], ◌∷◌, ◌++◌}
use Rattle.words.specs.Buffers.{decimal}
use Rattle.syntax.specs.Quote.{bytes}
use Rattle.syntax.specs.Terms.{Term, Terms, variable, compound, nil, cons, Atom, Literal, Body, call, equation, truth, falsity, either, done, also}
use Rattle.syntax.specs.Terms.{Mark, input, output, free, Declaration, Clause, Sheet, true_name, fail_name}

-- the variable of number i, from 0 on
unfoldable pub variable_name : ℕ → List ℕ
variable_name i = bytes "V" ++ decimal (suc i)

unfoldable mutual
  pub term_text : Term → List ℕ → List ℕ
  term_text (variable i at) rest = variable_name i ++ rest
  term_text (compound at f ts) rest = f ++ list_text ts rest

  -- no bracket where there is no argument
  pub list_text : Terms → List ℕ → List ℕ
  list_text nil rest = rest
  list_text (cons t ts) rest = bytes "(" ++ term_text t (more_text ts rest)

  -- the arguments behind one, and the closing bracket
  pub more_text : Terms → List ℕ → List ℕ
  more_text nil rest = bytes ")" ++ rest
  more_text (cons t ts) rest = bytes "," ++ term_text t (more_text ts rest)

unfoldable pub atom_text : Atom → List ℕ → List ℕ
atom_text a rest = a.name ++ list_text a.args rest

unfoldable mutual
  pub literal_text : Literal → List ℕ → List ℕ
  literal_text (call a) rest = atom_text a rest
  literal_text (equation t u) rest = term_text t (bytes "=" ++ term_text u rest)
  literal_text truth rest = true_name ++ rest
  literal_text falsity rest = fail_name ++ rest
  literal_text (either y z) rest = bytes "(" ++ body_text y (bytes ";" ++ body_text z (bytes ")" ++ rest))

  pub body_text : Body → List ℕ → List ℕ
  body_text done rest = rest
  body_text (also l b) rest = literal_text l (further_text b rest)

  -- the literals behind one
  pub further_text : Body → List ℕ → List ℕ
  further_text done rest = rest
  further_text (also l b) rest = bytes "," ++ literal_text l (further_text b rest)

-- nothing behind a fact's head, and :- before the body of a rule
unfoldable pub tail_text : Body → List ℕ → List ℕ
tail_text done rest = rest
tail_text (also l b) rest = bytes ":-" ++ body_text (also l b) rest

-- the full stop and the line feed
abbrev pub end_text : List ℕ → List ℕ
end_text rest = bytes ".\n" ++ rest

unfoldable pub clause_text : Clause → List ℕ → List ℕ
clause_text c rest = atom_text c.head (tail_text c.body (end_text rest))

-- +, - and *
abbrev pub mark_byte : Mark → ℕ
mark_byte input = 43
mark_byte output = 45
mark_byte free = 42

-- the marks behind one, and the closing bracket
unfoldable pub more_marks : List Mark → List ℕ → List ℕ
more_marks [] rest = bytes ")" ++ rest
more_marks (m ∷ ms) rest = bytes "," ++ (mark_byte m ∷ more_marks ms rest)

unfoldable pub marks_text : List Mark → List ℕ → List ℕ
marks_text [] rest = rest
marks_text (m ∷ ms) rest = bytes "(" ++ (mark_byte m ∷ more_marks ms rest)

unfoldable pub declaration_text : Declaration → List ℕ → List ℕ
declaration_text d rest = bytes ":- mode " ++ (d.name ++ marks_text d.marks (end_text rest))

unfoldable pub declarations_text : List Declaration → List ℕ → List ℕ
declarations_text [] rest = rest
declarations_text (d ∷ ds) rest = declaration_text d (declarations_text ds rest)

unfoldable pub clauses_text : List Clause → List ℕ
clauses_text [] = []
clauses_text (c ∷ cs) = clause_text c (clauses_text cs)

-- the sheet's one spelling
unfoldable pub formatted : Sheet → List ℕ
formatted sh = declarations_text sh.declarations (clauses_text sh.clauses)
