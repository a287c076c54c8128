-- One induction over reading: whatever reading a sheet or a goal gives has a property, if the properties of its parts are kept by every way in
-- which a part is read. A property may speak of where the reader stands. Assumes nothing.
use Prim.Native.Nat.{ℕ, zero, suc, ◌+◌, ◌-◌, ◌≤◌, ◌<◌}
use native.Mathlib.Omega.{arith}
use mathlib.Core.Path.{◌≡◌, refl, sym, subst}
use mathlib.Core.Bool.{Bool, true, false, cond}
use mathlib.Core.List.{List, [], ◌∷◌}
use mathlib.Core.Option.{Option, none, some}
use lib.Dec.{eqb, ltb}
use lib.ListN.{length}
use borrow.Author.Tests.{eqb-false, ltb-true}
use Rattle.syntax.specs.Limits.{brackets, arguments, variables, literals, declarations, clauses}
use Rattle.syntax.proofs.SameKind.{kind-true}
use Rattle.syntax.specs.declared.TokenKind.{TokenKind}
use Rattle.syntax.specs.Tokens.{same_kind, name_kind, variable_kind, numeral_kind, neck_kind, open_kind, close_kind, stop_kind, equals_kind, end_kind, semicolon_kind}
use Rattle.syntax.specs.Terms.{same_name, Term, Terms, variable, nil, cons, arity, Atom, term_of, Literal, Body, call, equation, truth, falsity, either, done, also, literal_of, Mark, Declaration, Clause, Sheet, Goal, same_predicate, true_name, fail_name}
use Rattle.syntax.specs.Reading.{Cursor, numeral_at, Read, fault, ok, and_then, token_kind, is, cursor_at, next, wrong, beyond, full, spelt, variable_number, is_anonymous, with_new, new_variable, old_variable, read_variable, a_variable, a_numeral, a_name, start_of, begins, After, more, last, neither, after_of, atom_at, atom_with, read_atom_with, term_with, read_term_with, arguments_after, read_arguments, read_list, read_term, read_atom, read_right, after_atom, after_term, literal_with, one_literal_more, plain_with, read_plain, read_literal, body_after, read_body_with, read_sides, read_to, read_body, fresh, Tail, fact, rule, other, tail_of, clause_of, clause_after, read_clause, Sign, mark, no_mark, sign_of, is_mark, marks_after, marks_with, read_marks, marks_read, declaration_of, declaration_end, declaration_from, is_mode, after_neck, read_declaration, no_item, a_declaration, a_clause, past_limit, misplaced, with_declaration, with_clause, item_with, read_items, at_start, read_sheet, goal_of, goal_end, read_goal}

-- ---- what must be kept

-- Properties of the reader and of all that is read. A term's is told the brackets left; a list's the brackets and arguments left; a literal's and a
-- body's how many literals the clause or goal has before it and after it; a sheet's the declarations and clauses left; a goal's where the reader
-- stands at its end.
pub record Kept (s : List ℕ) (OfReader : Cursor → Type 0) (OfTerm : ℕ → Term → Type 0) (OfTerms : ℕ → ℕ → Terms → Type 0)
    (OfLiteral : ℕ → ℕ → Literal → Type 0) (OfBody : ℕ → ℕ → Body → Type 0) (OfClause : Clause → Type 0) (OfDeclaration : Declaration → Type 0)
    (OfSheet : ℕ → ℕ → Sheet → Type 0) (OfGoal : Goal → Cursor → Type 0) : Type 0 where
  -- the reader at the first token, past a token, with one variable more, with one literal more, with none
  pub at-start : OfReader (at_start s)
  pub past-token : {st : Cursor} → OfReader st → OfReader (next s st)
  pub with_variable : {st : Cursor} → OfReader st → length st.names < variables → OfReader (with_new s st)
  pub with-literal : {st : Cursor} → OfReader st → OfReader (one_literal_more st)
  pub without_variables : {st : Cursor} → OfReader st → OfReader (fresh st)
  -- a new variable, and one met before
  pub new-variable : {left : ℕ} {st : Cursor} → OfReader st → length st.names < variables → OfTerm left (variable (length st.names) st.token.at)
  pub old-variable : {left i : ℕ} {st : Cursor} → OfReader st → i < length st.names → OfTerm left (variable i st.token.at)
  -- terms, and lists of them
  pub numeral : {left : ℕ} {st : Cursor} → OfReader st → token_kind st ≡ numeral_kind → OfTerm left (term_of (numeral_at s st))
  pub named : {left : ℕ} {st : Cursor} {ts : Terms} → OfReader st → token_kind st ≡ name_kind → OfTerms left arguments ts → OfTerm left (term_of (atom_at s st ts))
  pub no_terms : {left k : ℕ} → OfTerms left k nil
  pub one_term : {left k : ℕ} {t : Term} {ts : Terms} → OfTerm left t → OfTerms (suc left) k ts → OfTerms (suc left) (suc k) (cons t ts)
  -- literals and bodies
  pub called : {left n : ℕ} {a : Atom} → left ≤ brackets → n < literals → OfTerm left (term_of a) → OfLiteral n (suc n) (call a)
  pub equated : {left n : ℕ} {t u : Term} → left ≤ brackets → n < literals → OfTerm left t → OfTerm left u → OfLiteral n (suc n) (equation t u)
  pub true_literal : {n : ℕ} → n < literals → OfLiteral n (suc n) truth
  pub false_literal : {n : ℕ} → n < literals → OfLiteral n (suc n) falsity
  pub two_sides : {n m k : ℕ} {y z : Body} → n < m → m < k → OfBody n m y → OfBody m k z → OfLiteral n k (either y z)
  pub no_literals : {n : ℕ} → OfBody n n done
  pub one_literal : {n m k : ℕ} {l : Literal} {b : Body} → OfLiteral n m l → OfBody m k b → OfBody n k (also l b)
  -- clauses, declarations, sheets and goals
  pub clause : {n : ℕ} {h : Atom} {b : Body} {st : Cursor} → OfTerm brackets (term_of h) → OfBody 0 n b → OfReader st → OfClause (clause_of h b st)
  pub declaration : {st : Cursor} {ms : List Mark} → OfReader st → token_kind st ≡ name_kind → length ms ≤ arguments → OfDeclaration (declaration_of s st ms)
  pub no_items : {ds cs : ℕ} → OfSheet ds cs (record { declarations = []; clauses = [] })
  pub one_declaration : {ds cs : ℕ} {d : Declaration} {sh : Sheet} → OfDeclaration d → OfSheet ds cs sh → OfSheet (suc ds) cs (with_declaration d sh)
  pub one_clause : {ds cs : ℕ} {c : Clause} {sh : Sheet} → OfClause c → OfSheet ds cs sh → OfSheet ds (suc cs) (with_clause c sh)
  pub goal : {n : ℕ} {b : Body} {st : Cursor} → OfBody 0 n b → OfReader st → OfGoal (goal_of b st) st

-- ---- what reading gives

-- A fault, or something read that has a property, with the reader that has one.
data Gives {A : Type 0} (R : Cursor → Type 0) (P : A → Cursor → Type 0) : Read A → Type 0 where
  faulty : {n b : ℕ} → Gives R P (fault n b)
  given : {a : A} {st : Cursor} → P a st → R st → Gives R P (ok a st)

-- the same, of a property that does not speak of the reader
abbrev Reads : {A : Type 0} → (Cursor → Type 0) → (A → Type 0) → Read A → Type 0
Reads R P = Gives R (λ a st. P a)

-- the reader's property, and how many literals the clause or goal has so far
abbrev At : (Cursor → Type 0) → ℕ → Cursor → Type 0
At R n st = R st × (st.literals ≡ n)

then-given : {A B : Type 0} {R S : Cursor → Type 0} {P : A → Cursor → Type 0} {Q : B → Cursor → Type 0} {r : Read A} {f : A → Cursor → Read B}
    → Gives R P r → ((a : A) (st : Cursor) → P a st → R st → Gives S Q (f a st)) → Gives S Q (and_then r f)
unfolding and_then
then-given faulty g = faulty
then-given (given {a} {st} p q) g = g a st p q

wrong-given : {A : Type 0} {R : Cursor → Type 0} {P : A → Cursor → Type 0} (st : Cursor) → Gives R P (wrong st)
unfolding wrong
wrong-given st = faulty

beyond-given : {A : Type 0} {R : Cursor → Type 0} {P : A → Cursor → Type 0} (st : Cursor) → Gives R P (beyond st)
unfolding beyond
beyond-given st = faulty

full-given : {A : Type 0} {R : Cursor → Type 0} {P : A → Cursor → Type 0} (b : Bool) (st : Cursor) → Gives R P (full b st)
unfolding full
full-given true st = beyond-given st
full-given false st = wrong-given st

given-of : {A : Type 0} {R : Cursor → Type 0} {P : A → Cursor → Type 0} {x : A} {after : Cursor} {r : Read A} → Gives R P r → r ≡ ok x after → P x after
given-of faulty e = let z : ◌≡◌ {A = ℕ} 0 1 = cc in absurd (omega arith)
given-of {P = P} {x = x} {after = after} (given {a} {st} p q) e =
    let same : a ≡ x = cc in
    let there : st ≡ after = cc in
    subst (λ (y : Cursor). P x y) there (subst (λ y. P y st) same p)

-- ---- variables

-- a variable found among those met has a number below theirs
number_by : (name : List ℕ) (i : ℕ) (ms : List (List ℕ)) (v n : ℕ) (b : Bool)
    → elim b as (λ _. Option ℕ) [ true ↦ some i | false ↦ variable_number name (suc i) ms ] ≡ some v → i < n → (variable_number name (suc i) ms ≡ some v → v < n) → v < n
number_by name i ms v n true e l h = let q : i ≡ v = cc in omega arith
number_by name i ms v n false e l h = h e

number-below : (name : List ℕ) (i : ℕ) (ms : List (List ℕ)) (v : ℕ) → variable_number name i ms ≡ some v → v < i + length ms
unfolding variable_number
number-below name i [] v e = let z : ◌≡◌ {A = ℕ} 0 1 = cc in absurd (omega arith)
number-below name i (m ∷ ms) v e = number_by name i ms v (i + suc (length ms)) (same_name m name) e (omega arith) (λ e1. omega (arith, number-below name (suc i) ms v e1))

number-met : (s : List ℕ) (st : Cursor) (v : ℕ) → variable_number (spelt s st) 0 st.names ≡ some v → v < length st.names
number-met s st v e = omega (arith, number-below (spelt s st) 0 st.names v e)

module _ {s : List ℕ} {OfReader : Cursor → Type 0} {OfTerm : ℕ → Term → Type 0} {OfTerms : ℕ → ℕ → Terms → Type 0} {OfLiteral : ℕ → ℕ → Literal → Type 0}
    {OfBody : ℕ → ℕ → Body → Type 0} {OfClause : Clause → Type 0} {OfDeclaration : Declaration → Type 0} {OfSheet : ℕ → ℕ → Sheet → Type 0}
    {OfGoal : Goal → Cursor → Type 0} (kept : Kept s OfReader OfTerm OfTerms OfLiteral OfBody OfClause OfDeclaration OfSheet OfGoal) where
  past : {c : ℕ} {st : Cursor} → At OfReader c st → At OfReader c (next s st)
  unfolding next cursor_at
  past r = (kept.past-token r.0, r.1)

  with-new : {c : ℕ} {st : Cursor} → At OfReader c st → length st.names < variables → At OfReader c (with_new s st)
  unfolding with_new
  with-new r low = (kept.with_variable r.0 low, r.1)

  new-given : {c : ℕ} (left : ℕ) (st : Cursor) → At OfReader c st → Reads (At OfReader c) (OfTerm left) (new_variable s st)
  unfolding new_variable
  new-given {c = c} left st r = by (ltb (length st.names) variables) refl
    where
      by : (b : Bool) → ltb (length st.names) variables ≡ b
          → Reads (At OfReader c) (OfTerm left) (elim b as (λ _. Read Term) [ true ↦ ok (variable (length st.names) st.token.at) (next s (with_new s st)) | false ↦ beyond st ])
      by true e =
          let low : length st.names < variables = ltb-true (length st.names) variables e in
          given (kept.new-variable r.0 low) (past (with-new r low))
      by false e = beyond-given st

  old-given : {c : ℕ} (left : ℕ) (st : Cursor) (o : Option ℕ) → ((v : ℕ) → o ≡ some v → v < length st.names) → At OfReader c st → Reads (At OfReader c) (OfTerm left) (old_variable s st o)
  unfolding old_variable
  old-given left st none h r = new-given left st r
  old-given left st (some i) h r = given (kept.old-variable r.0 (h i refl)) (past r)

  variable-given : {c : ℕ} (left : ℕ) (st : Cursor) → At OfReader c st → Reads (At OfReader c) (OfTerm left) (read_variable s st)
  unfolding read_variable
  variable-given {c = c} left st r = by (is_anonymous s st.token)
    where
      by : (b : Bool)
          → Reads (At OfReader c) (OfTerm left) (elim b as (λ _. Read Term) [ true ↦ new_variable s st | false ↦ old_variable s st (variable_number (spelt s st) 0 st.names) ])
      by true = new-given left st r
      by false = old-given left st (variable_number (spelt s st) 0 st.names) (number-met s st) r

  -- ---- terms

  atom-by : {c : ℕ} (left : ℕ) (list : Cursor → Read Terms) → ((st : Cursor) → At OfReader c st → Reads (At OfReader c) (OfTerms left arguments) (list st))
      → (st : Cursor) (b : Bool) → At OfReader c st → token_kind st ≡ name_kind → Reads (At OfReader c) (λ a. OfTerm left (term_of a)) (atom_with list s st b)
  unfolding atom_with
  atom-by left list h st true r e = then-given (h (next s st) (past r)) (λ ts after g q. given (kept.named r.0 e g) q)
  atom-by left list h st false r e = given (kept.named r.0 e kept.no_terms) (past r)

  atom-with : {c : ℕ} (left : ℕ) (list : Cursor → Read Terms) → ((st : Cursor) → At OfReader c st → Reads (At OfReader c) (OfTerms left arguments) (list st))
      → (st : Cursor) → At OfReader c st → token_kind st ≡ name_kind → Reads (At OfReader c) (λ a. OfTerm left (term_of a)) (read_atom_with list s st)
  unfolding read_atom_with
  atom-with left list h st r e = atom-by left list h st (is open_kind (next s st)) r e

  term-by : {c : ℕ} (left : ℕ) (list : Cursor → Read Terms) → ((st : Cursor) → At OfReader c st → Reads (At OfReader c) (OfTerms left arguments) (list st))
      → (st : Cursor) (v n a : Bool) → same_kind (token_kind st) numeral_kind ≡ n → same_kind (token_kind st) name_kind ≡ a → At OfReader c st
      → Reads (At OfReader c) (OfTerm left) (term_with list s st (cond v a_variable (cond n a_numeral (cond a a_name Rattle.syntax.specs.Reading.nothing))))
  unfolding term_with
  term-by left list h st true n a en ea r = variable-given left st r
  term-by left list h st false true a en ea r = given (kept.numeral r.0 (kind-true (token_kind st) numeral_kind en)) (past r)
  term-by left list h st false false true en ea r =
      then-given (atom-with left list h st r (kind-true (token_kind st) name_kind ea)) (λ a after g q. given g q)
  term-by left list h st false false false en ea r = wrong-given st

  term-with : {c : ℕ} (left : ℕ) (list : Cursor → Read Terms) → ((st : Cursor) → At OfReader c st → Reads (At OfReader c) (OfTerms left arguments) (list st))
      → (st : Cursor) → At OfReader c st → Reads (At OfReader c) (OfTerm left) (read_term_with list s st)
  unfolding read_term_with
  term-with left list h st r =
      term-by left list h st (same_kind (token_kind st) variable_kind) (same_kind (token_kind st) numeral_kind) (same_kind (token_kind st) name_kind) refl refl r

  arguments-by : {c : ℕ} (left k : ℕ) (rest : Cursor → Read Terms) → ((st : Cursor) → At OfReader c st → Reads (At OfReader c) (OfTerms (suc left) k) (rest st))
      → (t : Term) → OfTerm left t → (st : Cursor) (a : After) → At OfReader c st → Reads (At OfReader c) (OfTerms (suc left) (suc k)) (arguments_after rest s t st a)
  unfolding arguments_after
  arguments-by left k rest h t g st more r = then-given (h (next s st) (past r)) (λ ts after gs q. given (kept.one_term g gs) q)
  arguments-by left k rest h t g st last r = given (kept.one_term g kept.no_terms) (past r)
  arguments-by left k rest h t g st neither r = wrong-given st

  arguments-given : {c : ℕ} (left : ℕ) (term : Cursor → Read Term) → ((st : Cursor) → At OfReader c st → Reads (At OfReader c) (OfTerm left) (term st))
      → (k : ℕ) (st : Cursor) → At OfReader c st → Reads (At OfReader c) (OfTerms (suc left) k) (read_arguments term s k st)
  unfolding read_arguments
  arguments-given left term h zero st r = full-given (begins (start_of (token_kind st))) st
  arguments-given left term h (suc k) st r =
      then-given (h st r) (λ t after g q. arguments-by left k (λ st1. read_arguments term s k st1) (λ st1 r1. arguments-given left term h k st1 r1) t g after (after_of close_kind (token_kind after)) q)

  list-given : {c : ℕ} (left : ℕ) (st : Cursor) → At OfReader c st → Reads (At OfReader c) (OfTerms left arguments) (read_list left s st)
  unfolding read_list
  list-given zero st r = beyond-given st
  list-given (suc left) st r =
      arguments-given left (λ st1. read_term_with (λ st2. read_list left s st2) s st1)
      (λ st1 r1. term-with left (λ st2. read_list left s st2) (λ st2 r2. list-given left st2 r2) st1 r1)
      arguments (next s st) (past r)

  term-given : {c : ℕ} (left : ℕ) (st : Cursor) → At OfReader c st → Reads (At OfReader c) (OfTerm left) (read_term left s st)
  unfolding read_term
  term-given left st r = term-with left (λ st1. read_list left s st1) (λ st1 r1. list-given left st1 r1) st r

  atom-given : {c : ℕ} (left : ℕ) (st : Cursor) → At OfReader c st → token_kind st ≡ name_kind → Reads (At OfReader c) (λ a. OfTerm left (term_of a)) (read_atom left s st)
  unfolding read_atom
  atom-given left st r e = atom-with left (λ st1. read_list left s st1) (λ st1 r1. list-given left st1 r1) st r e

  -- ---- literals and bodies

  literal-of : {left n : ℕ} (a : Atom) → left ≤ brackets → n < literals → OfTerm left (term_of a) → OfLiteral n (suc n) (literal_of a)
  unfolding literal_of
  literal-of {left} {n} a few low h = by (same_predicate a.name (arity a.args) true_name 0) (same_predicate a.name (arity a.args) fail_name 0)
    where
      by : (x y : Bool) → OfLiteral n (suc n) (cond x truth (cond y falsity (call a)))
      by true y = kept.true_literal low
      by false true = kept.false_literal low
      by false false = kept.called few low h

  right_given : {n : ℕ} (left : ℕ) (t : Term) (st : Cursor) → left ≤ brackets → n < literals → OfTerm left t → At OfReader (suc n) st
      → Reads (At OfReader (suc n)) (OfLiteral n (suc n)) (read_right left s t st)
  unfolding read_right
  right_given left t st few low g r = then-given (term-given left (next s st) (past r)) (λ u after h q. given (kept.equated few low g h) q)

  after-atom : {n : ℕ} (left : ℕ) (a : Atom) (st : Cursor) (b : Bool) → left ≤ brackets → n < literals → OfTerm left (term_of a) → At OfReader (suc n) st
      → Reads (At OfReader (suc n)) (OfLiteral n (suc n)) (after_atom left s a st b)
  unfolding after_atom
  after-atom left a st true few low g r = right_given left (term_of a) st few low g r
  after-atom left a st false few low g r = given (literal-of a few low g) r

  after-term : {n : ℕ} (left : ℕ) (t : Term) (st : Cursor) (b : Bool) → left ≤ brackets → n < literals → OfTerm left t → At OfReader (suc n) st
      → Reads (At OfReader (suc n)) (OfLiteral n (suc n)) (after_term left s t st b)
  unfolding after_term
  after-term left t st true few low g r = right_given left t st few low g r
  after-term left t st false few low g r = wrong-given st

  literal-by : {n : ℕ} (left : ℕ) (st : Cursor) (b : Bool) → is name_kind st ≡ b → left ≤ brackets → n < literals → At OfReader (suc n) st
      → Reads (At OfReader (suc n)) (OfLiteral n (suc n)) (literal_with left s st b)
  unfolding literal_with
  literal-by left st true e few low r =
      then-given (atom-given left st r (kind-true (token_kind st) name_kind e)) (λ a after g q. after-atom left a after (is equals_kind after) few low g q)
  literal-by left st false e few low r = then-given (term-given left st r) (λ t after g q. after-term left t after (is equals_kind after) few low g q)

  -- one literal or more, which are so many afterwards
  abbrev Grown : {A : Type 0} → (ℕ → ℕ → A → Type 0) → ℕ → A → Cursor → Type 0
  Grown P n x after = (n < after.literals) × P n after.literals x

  plain-grown : {n : ℕ} {r : Read Literal} → Reads (At OfReader (suc n)) (OfLiteral n (suc n)) r → Gives OfReader (Grown OfLiteral n) r
  plain-grown faulty = faulty
  plain-grown {n} (given {a} {st} g q) =
      let more : n < st.literals = omega (arith, q.1) in
      given (more, subst (λ (m : ℕ). OfLiteral n m a) (sym q.1) g) q.0

  plain_by : (left : ℕ) (st : Cursor) (b : Bool) → ltb st.literals literals ≡ b → left ≤ brackets → OfReader st
      → Gives OfReader (Grown OfLiteral st.literals) (plain_with left s st b)
  unfolding plain_with
  plain_by left st true e few r =
      plain-grown (literal-by left (one_literal_more st) (is name_kind st) refl few (ltb-true st.literals literals e) (kept.with-literal r, refl))
  plain_by left st false e few r = full-given (begins (start_of (token_kind st))) st

  plain-given : (left : ℕ) (st : Cursor) → left ≤ brackets → OfReader st → Gives OfReader (Grown OfLiteral st.literals) (read_plain left s st)
  unfolding read_plain
  plain-given left st few r = plain_by left st (ltb st.literals literals) refl few r

  body-by : (rest : Cursor → Read Body) → ((st : Cursor) → OfReader st → Gives OfReader (Grown OfBody st.literals) (rest st)) → {n : ℕ} (l : Literal)
      → (st : Cursor) (a : After) → Grown OfLiteral n l st → OfReader st → Gives OfReader (Grown OfBody n) (body_after rest s l st a)
  unfolding body_after next cursor_at
  body-by rest h l st more g r =
      then-given (h (next s st) (kept.past-token r))
      (λ b after gb q. given (omega (arith, g.0, gb.0), kept.one_literal g.1 gb.1) q)
  body-by rest h l st last g r = given (g.0, kept.one_literal g.1 kept.no_literals) (kept.past-token r)
  body-by rest h l st neither g r = wrong-given st

  body-with : (literal : Cursor → Read Literal) → ((st : Cursor) → OfReader st → Gives OfReader (Grown OfLiteral st.literals) (literal st))
      → (end : TokenKind) (k : ℕ) (st : Cursor) → OfReader st → Gives OfReader (Grown OfBody st.literals) (read_body_with literal s end k st)
  unfolding read_body_with
  body-with literal h end zero st r = wrong-given st
  body-with literal h end (suc k) st r =
      then-given (h st r)
      (λ l after g q. body-by (λ st1. read_body_with literal s end k st1) (λ st1 r1. body-with literal h end k st1 r1) l after (after_of end (token_kind after)) g q)

  sides-given : (body : TokenKind → Cursor → Read Body) → ((end : TokenKind) (st : Cursor) → OfReader st → Gives OfReader (Grown OfBody st.literals) (body end st))
      → (st : Cursor) → OfReader st → Gives OfReader (Grown OfLiteral st.literals) (read_sides body s st)
  unfolding read_sides next cursor_at
  sides-given body h st r =
      then-given (h semicolon_kind (next s st) (kept.past-token r))
      (λ y after g q. then-given (h close_kind after q)
      (λ z end gz qz. given (omega (arith, g.0, gz.0), kept.two_sides g.0 gz.0 g.1 gz.1) qz))

  literal-given : (left : ℕ) (st : Cursor) → left ≤ brackets → OfReader st → Gives OfReader (Grown OfLiteral st.literals) (read_literal left s st)
  unfolding read_literal
  literal-given zero st few r = by (is open_kind st)
    where
      by : (b : Bool) → Gives OfReader (Grown OfLiteral st.literals) (elim b as (λ _. Read Literal) [ true ↦ beyond st | false ↦ read_plain zero s st ])
      by true = beyond-given st
      by false = plain-given zero st few r
  literal-given (suc left) st few r = by (λ st1 r1. literal-given left st1 (omega (arith, few)) r1) (is open_kind st)
    where
      by : ((st1 : Cursor) → OfReader st1 → Gives OfReader (Grown OfLiteral st1.literals) (read_literal left s st1)) → (b : Bool)
          → Gives OfReader (Grown OfLiteral st.literals) (elim b as (λ _. Read Literal) [ true ↦ read_sides (λ end st1. read_body_with (λ st2. read_literal left s st2) s end (suc literals) st1) s st | false ↦ read_plain (suc left) s st ])
      by inside true =
          sides-given (λ end st1. read_body_with (λ st2. read_literal left s st2) s end (suc literals) st1)
          (λ end st1 r1. body-with (λ st2. read_literal left s st2) inside end (suc literals) st1 r1) st r
      by inside false = plain-given (suc left) st few r

  body-given : (st : Cursor) → OfReader st → Gives OfReader (Grown OfBody st.literals) (read_body s st)
  unfolding read_body read_to
  body-given st r =
      body-with (λ st1. read_literal brackets s st1) (λ st1 r1. literal-given brackets st1 (omega arith) r1) stop_kind (suc literals) st r

  -- ---- clauses and declarations

  -- of a body that has all of its clause's or goal's literals
  abbrev Whole : Body → Type 0
  Whole b = (n : ℕ) × OfBody 0 n b

  whole-given : (st : Cursor) → At OfReader 0 st → Reads OfReader Whole (read_body s st)
  whole-given st r = from (body-given st r.0)
    where
      from : {x : Read Body} → Gives OfReader (Grown OfBody st.literals) x → Reads OfReader Whole x
      from faulty = faulty
      from (given {a} {st = after} g q) = given (after.literals, subst (λ (n : ℕ). OfBody n after.literals a) r.1 g.1) q

  clause-by : (h : Atom) → OfTerm brackets (term_of h) → (st : Cursor) (t : Tail) → At OfReader 0 st → Reads OfReader OfClause (clause_after s h st t)
  unfolding clause_after
  clause-by h g st fact r = given (kept.clause g kept.no_literals r.0) (past r).0
  clause-by h g st rule r = then-given (whole-given (next s st) (past r)) (λ b after gb q. given (kept.clause g gb.1 q) q)
  clause-by h g st other r = wrong-given st

  clause-given : (st : Cursor) → At OfReader 0 st → token_kind st ≡ name_kind → Reads OfReader OfClause (read_clause s st)
  unfolding read_clause
  clause-given st r e =
      then-given (atom-given brackets st r e) (λ h after g q. clause-by h g after (tail_of (token_kind after)) q)

  marks-after : (k : ℕ) (rest : Cursor → Read (List Mark)) → ((st : Cursor) → At OfReader 0 st → Reads (At OfReader 0) (λ ms. length ms ≤ k) (rest st))
      → (m : Mark) (st : Cursor) (a : After) → At OfReader 0 st → Reads (At OfReader 0) (λ ms. length ms ≤ suc k) (marks_after rest s m st a)
  unfolding marks_after
  marks-after k rest h m st more r = then-given (h (next s st) (past r)) (λ ms after l q. given (omega arith) q)
  marks-after k rest h m st last r = let one : 1 ≤ suc k = omega arith in given one (past r)
  marks-after k rest h m st neither r = wrong-given st

  marks-with : (k : ℕ) (rest : Cursor → Read (List Mark)) → ((st : Cursor) → At OfReader 0 st → Reads (At OfReader 0) (λ ms. length ms ≤ k) (rest st))
      → (st : Cursor) (x : Sign) → At OfReader 0 st → Reads (At OfReader 0) (λ ms. length ms ≤ suc k) (marks_with rest s st x)
  unfolding marks_with
  marks-with k rest h st (mark m) r = marks-after k rest h m (next s st) (after_of close_kind (token_kind (next s st))) (past r)
  marks-with k rest h st no_mark r = wrong-given st

  marks-given : (k : ℕ) (st : Cursor) → At OfReader 0 st → Reads (At OfReader 0) (λ ms. length ms ≤ k) (read_marks s k st)
  unfolding read_marks
  marks-given zero st r = full-given (is_mark (sign_of (token_kind st))) st
  marks-given (suc k) st r = marks-with k (λ st1. read_marks s k st1) (λ st1 r1. marks-given k st1 r1) st (sign_of (token_kind st)) r

  marks-of : (st : Cursor) (b : Bool) → At OfReader 0 st → Reads (At OfReader 0) (λ ms. length ms ≤ arguments) (marks_read s st b)
  unfolding marks_read
  marks-of st true r = marks-given arguments (next s st) (past r)
  marks-of st false r = let none-of-them : 0 ≤ arguments = omega arith in given none-of-them r

  declaration-end : (d : Declaration) (st : Cursor) (b : Bool) → OfDeclaration d → At OfReader 0 st → Reads (At OfReader 0) OfDeclaration (declaration_end s d st b)
  unfolding declaration_end
  declaration-end d st true g r = given g (past r)
  declaration-end d st false g r = wrong-given st

  declaration-from : (st : Cursor) (b : Bool) → is name_kind st ≡ b → At OfReader 0 st → Reads (At OfReader 0) OfDeclaration (declaration_from s st b)
  unfolding declaration_from
  declaration-from st true e r =
      then-given (marks-of (next s st) (is open_kind (next s st)) (past r))
      (λ ms after l q. declaration-end (declaration_of s st ms) after (is stop_kind after) (kept.declaration r.0 (kind-true (token_kind st) name_kind e) l) q)
  declaration-from st false e r = wrong-given st

  after-neck : (st : Cursor) (b : Bool) → At OfReader 0 st → Reads (At OfReader 0) OfDeclaration (after_neck s st b)
  unfolding after_neck
  after-neck st true r = declaration-from (next s st) (is name_kind (next s st)) refl (past r)
  after-neck st false r = wrong-given st

  declaration-given : (st : Cursor) → At OfReader 0 st → Reads (At OfReader 0) OfDeclaration (read_declaration s st)
  unfolding read_declaration
  declaration-given st r = after-neck (next s st) (is_mode s (next s st)) (past r)

  -- ---- sheets and goals

  at_first : At OfReader 0 (at_start s)
  unfolding at_start
  at_first = (kept.at-start, refl)

  item-declaration : (rest : ℕ → ℕ → Cursor → Read Sheet) → ((ds cs : ℕ) (st : Cursor) → At OfReader 0 st → Reads (At OfReader 0) (OfSheet ds cs) (rest ds cs st))
      → (ds cs : ℕ) (st : Cursor) → At OfReader 0 st → eqb ds 0 ≡ false → Reads (At OfReader 0) (OfSheet ds cs) (item_with rest s ds cs st a_declaration)
  unfolding item_with
  item-declaration rest h ds cs st r e =
      let one : suc (ds - 1) ≡ ds = omega (arith, eqb-false ds 0 e) in
      then-given (declaration-given st r)
      (λ d after g q. then-given (h (ds - 1) cs after q)
      (λ sh end gs z. given (subst (λ (n : ℕ). OfSheet n cs (with_declaration d sh)) one (kept.one_declaration g gs)) z))

  item-clause : (rest : ℕ → ℕ → Cursor → Read Sheet) → ((ds cs : ℕ) (st : Cursor) → At OfReader 0 st → Reads (At OfReader 0) (OfSheet ds cs) (rest ds cs st))
      → (ds cs : ℕ) (st : Cursor) → At OfReader 0 st → token_kind st ≡ name_kind → eqb cs 0 ≡ false → Reads (At OfReader 0) (OfSheet ds cs) (item_with rest s ds cs st a_clause)
  unfolding item_with
  item-clause rest h ds cs st r k e =
      let one : suc (cs - 1) ≡ cs = omega (arith, eqb-false cs 0 e) in
      then-given (clause-given st r k)
      (λ c after g q. then-given (h ds (cs - 1) (fresh after) (kept.without_variables q, refl))
      (λ sh end gs z. given (subst (λ (n : ℕ). OfSheet ds n (with_clause c sh)) one (kept.one_clause g gs)) z))

  item_by : (rest : ℕ → ℕ → Cursor → Read Sheet) → ((ds cs : ℕ) (st : Cursor) → At OfReader 0 st → Reads (At OfReader 0) (OfSheet ds cs) (rest ds cs st))
      → (ds cs : ℕ) (st : Cursor) (stop neck d name c : Bool) → eqb ds 0 ≡ d → same_kind (token_kind st) name_kind ≡ name → eqb cs 0 ≡ c → At OfReader 0 st
      → Reads (At OfReader 0) (OfSheet ds cs)
      (item_with rest s ds cs st (cond stop no_item (cond neck (cond d past_limit a_declaration) (cond name (cond c past_limit a_clause) misplaced))))
  unfolding item_with
  item_by rest h ds cs st true neck d name c ed en ec r = given kept.no_items r
  item_by rest h ds cs st false true true name c ed en ec r = beyond-given st
  item_by rest h ds cs st false true false name c ed en ec r = item-declaration rest h ds cs st r ed
  item_by rest h ds cs st false false d true true ed en ec r = beyond-given st
  item_by rest h ds cs st false false d true false ed en ec r = item-clause rest h ds cs st r (kind-true (token_kind st) name_kind en) ec
  item_by rest h ds cs st false false d false c ed en ec r = wrong-given st

  items-given : (n ds cs : ℕ) (st : Cursor) → At OfReader 0 st → Reads (At OfReader 0) (OfSheet ds cs) (read_items s n ds cs st)
  unfolding read_items
  items-given zero ds cs st r = wrong-given st
  items-given (suc n) ds cs st r =
      item_by (λ ds1 cs1 st1. read_items s n ds1 cs1 st1) (λ ds1 cs1 st1 r1. items-given n ds1 cs1 st1 r1) ds cs st
      (same_kind (token_kind st) end_kind) (same_kind (token_kind st) neck_kind) (eqb ds 0) (same_kind (token_kind st) name_kind) (eqb cs 0) refl refl refl r

  sheet-given : Reads (At OfReader 0) (OfSheet declarations clauses) (read_sheet s)
  unfolding read_sheet
  sheet-given = items-given (declarations + clauses + 1) declarations clauses (at_start s) at_first

  goal-end : (b : Body) (st : Cursor) (x : Bool) → Whole b → OfReader st → Gives OfReader OfGoal (goal_end s b st x)
  unfolding goal_end
  goal-end b st true g r = given (kept.goal g.1 r) r
  goal-end b st false g r = wrong-given st

  goal-given : Gives OfReader OfGoal (read_goal s)
  unfolding read_goal
  goal-given = then-given (whole-given (at_start s) at_first) (λ b after g q. goal-end b after (is end_kind after) g q)

  -- the induction, of a sheet that is read, and of a goal
  pub sheet-read : (sh : Sheet) (st : Cursor) → read_sheet s ≡ ok sh st → OfSheet declarations clauses sh
  sheet-read sh st e = given-of sheet-given e

  pub goal_read : (g : Goal) (st : Cursor) → read_goal s ≡ ok g st → OfGoal g st
  goal_read g st e = given-of goal-given e
