-- Writing does not look at places: sheets that agree are written alike. Assumes nothing.
use Prim.Native.Nat.{ℕ}
use mathlib.Core.Path.{◌≡◌, refl, sym, ap, ◌∙◌}
use mathlib.Core.List.{List, [], ◌∷◌, ◌++◌}
use Rattle.syntax.specs.Terms.{Term, Terms, variable, compound, nil, cons, Atom, Literal, Body, call, equation, truth, falsity, either, done, also, Declaration, Clause, Sheet}
use Rattle.format_rules.specs.Writing.{term_text, list_text, more_text, atom_text, literal_text, body_text, further_text, tail_text, end_text, clause_text, declaration_text, declarations_text, clauses_text, formatted}
use Rattle.format_rules.specs.Plain.{plain_term, plain_terms, plain_atom, plain_literal, plain_body, plain_clause, plain_clauses, plain_declarations, plain, SameButForPlaces}

mutual
  unfolding term_text list_text more_text plain_term plain_terms

  term_same : (t : Term) (rest : List ℕ) → term_text (plain_term t) rest ≡ term_text t rest
  term_same (variable i at) rest = refl
  term_same (compound at f ts) rest = ap (λ (w : List ℕ). f ++ w) (list_same ts rest)

  list_same : (ts : Terms) (rest : List ℕ) → list_text (plain_terms ts) rest ≡ list_text ts rest
  list_same nil rest = refl
  list_same (cons t ts) rest = ap (λ (w : List ℕ). 40 ∷ w) (term_same t (more_text (plain_terms ts) rest) ∙ ap (term_text t) (more_same ts rest))

  more_same : (ts : Terms) (rest : List ℕ) → more_text (plain_terms ts) rest ≡ more_text ts rest
  more_same nil rest = refl
  more_same (cons t ts) rest = ap (λ (w : List ℕ). 44 ∷ w) (term_same t (more_text (plain_terms ts) rest) ∙ ap (term_text t) (more_same ts rest))

atom_same : (a : Atom) (rest : List ℕ) → atom_text (plain_atom a) rest ≡ atom_text a rest
unfolding atom_text
atom_same a rest = ap (λ (w : List ℕ). a.name ++ w) (list_same a.args rest)

mutual
  unfolding literal_text body_text further_text plain_literal plain_body

  literal_same : (l : Literal) (rest : List ℕ) → literal_text (plain_literal l) rest ≡ literal_text l rest
  literal_same (call a) rest = atom_same a rest
  literal_same (equation t u) rest = term_same t (61 ∷ term_text (plain_term u) rest) ∙ ap (λ (w : List ℕ). term_text t (61 ∷ w)) (term_same u rest)
  literal_same truth rest = refl
  literal_same falsity rest = refl
  literal_same (either y z) rest =
      ap (λ (w : List ℕ). 40 ∷ w) (body_same y (59 ∷ body_text (plain_body z) (41 ∷ rest)) ∙ ap (λ (w : List ℕ). body_text y (59 ∷ w)) (body_same z (41 ∷ rest)))

  body_same : (b : Body) (rest : List ℕ) → body_text (plain_body b) rest ≡ body_text b rest
  body_same done rest = refl
  body_same (also l b) rest = literal_same l (further_text (plain_body b) rest) ∙ ap (literal_text l) (further_same b rest)

  further_same : (b : Body) (rest : List ℕ) → further_text (plain_body b) rest ≡ further_text b rest
  further_same done rest = refl
  further_same (also l b) rest = ap (λ (w : List ℕ). 44 ∷ w) (literal_same l (further_text (plain_body b) rest) ∙ ap (literal_text l) (further_same b rest))

tail_same : (b : Body) (rest : List ℕ) → tail_text (plain_body b) rest ≡ tail_text b rest
unfolding tail_text plain_body
tail_same done rest = refl
tail_same (also l b) rest = ap (λ (w : List ℕ). 58 ∷ 45 ∷ w) (body_same (also l b) rest)

clause_same : (c : Clause) (rest : List ℕ) → clause_text (plain_clause c) rest ≡ clause_text c rest
unfolding clause_text
clause_same c rest = atom_same c.head (tail_text (plain_body c.body) (end_text rest)) ∙ ap (atom_text c.head) (tail_same c.body (end_text rest))

clauses_same : (cs : List Clause) → clauses_text (plain_clauses cs) ≡ clauses_text cs
unfolding clauses_text plain_clauses
clauses_same [] = refl
clauses_same (c ∷ cs) = clause_same c (clauses_text (plain_clauses cs)) ∙ ap (clause_text c) (clauses_same cs)

declarations_same : (ds : List Declaration) (rest : List ℕ) → declarations_text (plain_declarations ds) rest ≡ declarations_text ds rest
unfolding declarations_text plain_declarations declaration_text
declarations_same [] rest = refl
declarations_same (d ∷ ds) rest = ap (declaration_text d) (declarations_same ds rest)

plain_same : (sh : Sheet) → formatted (plain sh) ≡ formatted sh
unfolding formatted
plain_same sh = declarations_same sh.declarations (clauses_text (plain_clauses sh.clauses)) ∙ ap (declarations_text sh.declarations) (clauses_same sh.clauses)

pub agree_same : (sh other : Sheet) → SameButForPlaces sh other → formatted sh ≡ formatted other
agree_same sh other e = sym (plain_same sh) ∙ ap formatted e ∙ plain_same other
