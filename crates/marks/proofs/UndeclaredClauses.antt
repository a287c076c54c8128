-- Laws of clauses in a table and of refusal 8 along them, one for each way out of the functions. Assumes nothing.
use Prim.Native.Nat.{ℕ, suc, ◌+◌, ◌≤◌, ◌<◌}
use native.Mathlib.Numerals.{add-one}
use native.Mathlib.Omega.{arith}
use mathlib.Core.Path.{◌≡◌, refl, sym, ap, ◌∙◌, subst⁻¹}
use mathlib.Core.List.{List, [], ◌∷◌, ◌++◌}
use mathlib.Core.Option.{Option, none, some}
use lib.ListN.{length, get_or}
use Rattle.syntax.specs.Terms.{term_of, Declaration, Clause}
use Rattle.syntax.specs.Words.{clause_start, term_words, atom_words, body_words, body_length, clause_words, clauses_words}
use Rattle.syntax.specs.declared.Refusal.{Refusal}
use Rattle.mode_rules.specs.Modes.{undeclared_atom, undeclared_body, undeclared_clause, undeclared_clauses}
use Rattle.marks.specs.Spelt.{ClausesSpelt, clause_stands}
use Rattle.words.specs.Tables.{WordsAt}
use Rattle.marks.specs.Tables.{TermAt, AtomAt, BodyAt, ClauseAt, ClausesAt}
use Rattle.std.specs.Prelude.{Ok, Err}
use Rattle.marks.specs.Answers.{Checked, checked_of}
use Rattle.words.proofs.TablesLaws.{Node, has_left, has_right, clause-says}
use Rattle.marks.proofs.Places.{numbered}
use Rattle.marks.proofs.Faults.{fault-stays, fine-goes, over}

-- ---- one clause

pub says : {s table : List ℕ} {p : ℕ} (w : ClauseAt s table p)
    → Node table p (clause_start + length (atom_words w.clause.head ++ body_words w.clause.body)) w.clause.variables (body_length w.clause.body) (atom_words w.clause.head ++ body_words w.clause.body)
says {s} {table} {p} w = (clause-says table p w.clause w.has).words

pub clause-room : {s table : List ℕ} {p : ℕ} → ClauseAt s table p → p + 2 < length table
clause-room w = (says w).inside

pub clause-words : {s table : List ℕ} {p : ℕ} → ClauseAt s table p → (c : Clause) × WordsAt table p (clause_words c)
clause-words w = (w.clause, w.has)

abbrev pub head-at : {s table : List ℕ} {p : ℕ} → ClauseAt s table p → AtomAt s table (p + 3)
head-at {s} {table} {p} w = record {
  atom = w.clause.head;
  has = has_left table (p + 3) (atom_words w.clause.head) (body_words w.clause.body) (says w).rest;
  stands = w.stands.head;
}

abbrev pub head-term : {s table : List ℕ} {p : ℕ} → ClauseAt s table p → TermAt table (p + 3)
head-term w = record { term = term_of w.clause.head; has = (head-at w).has; numbered = numbered w.stands.head }

pub head-room : {s table : List ℕ} {p : ℕ} → ClauseAt s table p → p + 6 ≤ length table
head-room {s} {table} {p} w = omega (arith, Rattle.marks.proofs.Places.room-three table (p + 3) (head-term w))

module _ (s table : List ℕ) (p literals : ℕ) (el : literals ≡ get_or table (p + 2) 0) (first : ℕ) (ef : (u : TermAt table (p + 3)) → first ≡ p + 3 + length (term_words u.term)) where
  abbrev pub body_at : ClauseAt s table p → BodyAt s table first literals
  body_at w = record {
    body = w.clause.body;
    has = subst⁻¹ (λ (k : ℕ). WordsAt table k (body_words w.clause.body)) (ef (head-term w)) (has_right table (p + 3) (atom_words w.clause.head) (body_words w.clause.body) (says w).rest);
    count = el ∙ (says w).third;
    stands = w.stands.body;
  }

-- ---- refusal 8 of a clause

module _ (ds : List Declaration) (s table : List ℕ) (p c : ℕ) (f : Checked) (ef : (a : AtomAt s table (p + 3)) → f ≡ checked_of (undeclared_atom ds c 0 a.atom)) where
  pub clause-undeclared : {r : Refusal} → f ≡ Err r → (w : ClauseAt s table p) → Err r ≡ checked_of (undeclared_clause ds c w.clause)
  unfolding undeclared_clause
  clause-undeclared t w = fault-stays (undeclared_atom ds c 0 w.clause.head) (undeclared_body ds c 1 w.clause.body) (ef (head-at w)) t

  pub clause-body : f ≡ Ok tt → (literals : ℕ) → literals ≡ get_or table (p + 2) 0 → (first : ℕ) → ((u : TermAt table (p + 3)) → first ≡ p + 3 + length (term_words u.term))
      → (r : Checked) → ((b : BodyAt s table first literals) → r ≡ checked_of (undeclared_body ds c 1 b.body)) → (w : ClauseAt s table p)
      → r ≡ checked_of (undeclared_clause ds c w.clause)
  unfolding undeclared_clause
  clause-body t literals el first e1 r h w =
      h (body_at s table p literals el first e1 w)
      ∙ sym (ap checked_of (fine-goes (undeclared_atom ds c 0 w.clause.head) (undeclared_body ds c 1 w.clause.body) (ef (head-at w)) t))

-- ---- the clauses in turn

-- what is left of the clauses from the i-th on, at a place
pub record Ahead (s table : List ℕ) (at i clauses : ℕ) (whole : Option Refusal) (rest : ℕ → List Clause → Option Refusal) : Type 0 where
  pub list : List Clause
  pub has : WordsAt table at (clauses_words list)
  pub count : clauses ≡ i + length list
  pub stand : ClausesSpelt s list
  pub same : whole ≡ rest (suc i) list

-- the first clause and the others
pub record Turn (s table : List ℕ) (at i clauses : ℕ) (cs : List Clause) : Type 0 where
  pub clause : ClauseAt s table at
  pub left : List Clause
  pub is : cs ≡ clause.clause ∷ left
  pub has : WordsAt table (at + length (clause_words clause.clause)) (clauses_words left)
  pub count : clauses ≡ i + 1 + length left
  pub stand : ClausesSpelt s left

turn_by : (s table : List ℕ) (at i clauses : ℕ) (cs : List Clause) → i < clauses → WordsAt table at (clauses_words cs) → clauses ≡ i + length cs → ClausesSpelt s cs → Turn s table at i clauses cs
unfolding clauses_words
turn_by s table at i clauses [] l h c k = absurd (omega arith)
turn_by s table at i clauses (x ∷ cs) l h c (clause_stands k ks) = record {
  clause = record { clause = x; has = has_left table at (clause_words x) (clauses_words cs) h; stands = k };
  left = cs;
  is = refl;
  has = has_right table at (clause_words x) (clauses_words cs) h;
  count = omega arith;
  stand = ks;
}

pub begun : {s table : List ℕ} {clauses : ℕ} (rest : ℕ → List Clause → Option Refusal) (w : ClausesAt s table 0 clauses) → Ahead s table 0 0 clauses (rest 1 w.list) rest
begun rest w = record { list = w.list; has = w.has; count = omega (arith, w.count); stand = w.stand; same = refl }

module _ {s table : List ℕ} {at i clauses : ℕ} {whole : Option Refusal} {rest : ℕ → List Clause → Option Refusal} where
  pub turn : i < clauses → (a : Ahead s table at i clauses whole rest) → Turn s table at i clauses a.list
  turn l a = turn_by s table at i clauses a.list l a.has a.count a.stand

  pub ended : clauses ≤ i → (a : Ahead s table at i clauses whole rest) → rest (suc i) [] ≡ none → Ok tt ≡ checked_of whole
  ended l a e = sym (ap checked_of (a.same ∙ ap (rest (suc i)) (over i clauses a.list l a.count) ∙ e))

  -- `one` is the fault of one clause
  module _ (one : ℕ → Clause → Option Refusal)
      (goes : (k : ℕ) (x : Clause) (xs : List Clause) → rest k (x ∷ xs) ≡ elim (one k x) as (λ _. Option Refusal) [ none ↦ rest (suc k) xs | some r ↦ some r ])
      (l : i < clauses) (f : Checked) (ef : (w : ClauseAt s table at) → f ≡ checked_of (one (i + 1) w.clause)) where
    here : (a : Ahead s table at i clauses whole rest) → f ≡ checked_of (one (suc i) (turn l a).clause.clause)
    here a = ef (turn l a).clause ∙ ap (λ (k : ℕ). checked_of (one k (turn l a).clause.clause)) (add-one i)

    whole_is : (a : Ahead s table at i clauses whole rest)
        → whole ≡ elim (one (suc i) (turn l a).clause.clause) as (λ _. Option Refusal) [ none ↦ rest (suc (suc i)) (turn l a).left | some r ↦ some r ]
    whole_is a = a.same ∙ ap (rest (suc i)) (turn l a).is ∙ goes (suc i) (turn l a).clause.clause (turn l a).left

    pub clauses-stopped : {r : Refusal} → f ≡ Err r → (a : Ahead s table at i clauses whole rest) → Err r ≡ checked_of whole
    clauses-stopped t a =
        fault-stays (one (suc i) (turn l a).clause.clause) (rest (suc (suc i)) (turn l a).left) (here a) t ∙ sym (ap checked_of (whole_is a))

    pub clauses-on : f ≡ Ok tt → (next : ℕ) → ((w : ClauseAt s table at) → next ≡ at + length (clause_words w.clause))
        → (a : Ahead s table at i clauses whole rest) → Ahead s table next (i + 1) clauses whole rest
    clauses-on t next n a =
        let z : Turn s table at i clauses a.list = turn l a in
        record {
          list = z.left;
          has = subst⁻¹ (λ (k : ℕ). WordsAt table k (clauses_words z.left)) (n z.clause) z.has;
          count = omega (arith, z.count);
          stand = z.stand;
          same = whole_is a ∙ fine-goes (one (suc i) z.clause.clause) (rest (suc (suc i)) z.left) (here a) t
              ∙ ap (λ (k : ℕ). rest (suc k) z.left) (sym (add-one i));
        }

pub undeclared-none : (ds : List Declaration) (k : ℕ) → undeclared_clauses ds k [] ≡ none
unfolding undeclared_clauses
undeclared-none ds k = refl

pub undeclared-goes : (ds : List Declaration) (k : ℕ) (x : Clause) (xs : List Clause)
    → undeclared_clauses ds k (x ∷ xs) ≡ elim (undeclared_clause ds k x) as (λ _. Option Refusal) [ none ↦ undeclared_clauses ds (suc k) xs | some r ↦ some r ]
unfolding undeclared_clauses
undeclared-goes ds k x xs = refl
