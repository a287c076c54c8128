-- Laws of words that stand in a table, and of the terms that they are. Assumes nothing.
use Prim.Native.Nat.{ℕ, ◌+◌, ◌≤◌, ◌<◌}
use native.Mathlib.Omega.{arith}
use mathlib.Core.Path.{◌≡◌, refl}
use mathlib.Core.List.{List}
use lib.ListN.{length, get_or, length-append}
use Rattle.syntax.specs.Limits.{variables}
use Rattle.syntax.specs.Terms.{Term, Terms, variable, compound, nil, cons, arity, Atom}
use Rattle.syntax.specs.Words.{term_words, terms_words, atom_words, first_name, functor}
use Rattle.marks.specs.Spelt.{Numbered, AllNumbered, numbered_variable, numbered_compound, numbered_nil, numbered_cons, TermSpelt, TermsSpelt, stands_variable, stands_compound, stand_nil, stand_cons}
use Rattle.words.specs.Tables.{WordsAt, NodeInTable}
use Rattle.words.proofs.TablesLaws.{has_left, has_right, has-inside, Node, node, long-term, size_is, term_inside}
use Rattle.marks.specs.Tables.{TermAt, TermsAt}

-- ---- terms

-- the size of the term at p, and that it lies inside
pub record Sized (table : List ℕ) (p size : ℕ) : Type 0 where
  pub is : get_or table (p + 1) 0 ≡ size
  pub long : 3 ≤ size
  pub inside : p + size ≤ length table

pub sized : (table : List ℕ) (p : ℕ) (w : TermAt table p) → Sized table p (length (term_words w.term))
sized table p w = record {
  is = size_is table p w.term w.has;
  long = long-term w.term;
  inside = has-inside table p (term_words w.term) w.has (omega (arith, long-term w.term));
}

pub room : (table : List ℕ) (p : ℕ) → TermAt table p → p + get_or table (p + 1) 0 ≤ length table
room table p w = omega (arith, (sized table p w).is, (sized table p w).inside)

pub room-three : (table : List ℕ) (p : ℕ) → TermAt table p → p + 3 ≤ length table
room-three table p w = omega (arith, (sized table p w).long, (sized table p w).inside)

pub size-least : (table : List ℕ) (p : ℕ) → TermAt table p → 3 ≤ get_or table (p + 1) 0
size-least table p w = omega (arith, (sized table p w).long, (sized table p w).is)

pub node-inside : {table : List ℕ} {p : ℕ} → TermAt table p → NodeInTable table p
node-inside {table} {p} w = term_inside table p w.term w.has

pub past-ends : {table : List ℕ} {p stop : ℕ} → stop ≡ p + get_or table (p + 1) 0 → (w : TermAt table p) → stop ≡ p + length (term_words w.term)
past-ends {table} {p} {stop} e w = omega (arith, (sized table p w).is)

-- a node's first word below the first name's is a variable's number
below : (table : List ℕ) (p : ℕ) (t : Term) → WordsAt table p (term_words t) → Numbered t → get_or table p 0 < first_name → get_or table p 0 < variables
unfolding term_words
below table p (variable n at) h (numbered_variable k) l = omega (arith, h.1)
below table p (compound at f ts) h k l = absurd (omega (arith, h.1))

pub variable-below : (table : List ℕ) (p v : ℕ) → TermAt table p → v ≡ get_or table p 0 → v < first_name → v < variables
variable-below table p v w e l = let q : get_or table p 0 < first_name = omega arith in omega (arith, below table p w.term w.has w.numbered q)

-- from the first name's on it is a name's, whose arguments follow
pub record Opened (table : List ℕ) (p stop : ℕ) (t : Term) : Type 0 where
  pub at : ℕ
  pub name : List ℕ
  pub inner : TermsAt table (p + 3) stop
  pub is : t ≡ compound at name inner.terms

opened-by : (table : List ℕ) (p stop : ℕ) (t : Term) → WordsAt table p (term_words t) → Numbered t → first_name ≤ get_or table p 0
    → stop ≡ p + length (term_words t) → Opened table p stop t
unfolding term_words
opened-by table p stop (variable n at) h (numbered_variable k) l e = absurd (omega (arith, h.1))
opened-by table p stop (compound at f ts) h (numbered_compound k) l e = record {
  at = at;
  name = f;
  inner = record { terms = ts; has = (node table p _ _ _ (terms_words ts) h).rest; ends = omega arith; numbered = k };
  is = refl;
}

pub opened : {table : List ℕ} {p : ℕ} (v stop : ℕ) → v ≡ get_or table p 0 → first_name ≤ v
    → (w : TermAt table p) → stop ≡ p + length (term_words w.term) → Opened table p stop w.term
opened {table} {p} v stop e l w s = opened-by table p stop w.term w.has w.numbered (omega arith) s

-- what the words of an atom say
pub record Says (table : List ℕ) (p : ℕ) (a : Atom) : Type 0 where
  pub inside : p + 2 < length table
  pub what : get_or table p 0 ≡ functor (arity a.args) (length a.name)
  pub place : get_or table (p + 2) 0 ≡ a.at
  pub has : WordsAt table (p + 3) (terms_words a.args)
  pub size : length (atom_words a) ≡ 3 + length (terms_words a.args)

pub says : (table : List ℕ) (p : ℕ) (a : Atom) → WordsAt table p (atom_words a) → Says table p a
unfolding term_words
says table p a h =
    let o : Node table p (functor (arity a.args) (length a.name)) (3 + length (terms_words a.args)) a.at (terms_words a.args) = node table p _ _ _ _ h in
    record { inside = o.inside; what = o.first; place = o.third; has = o.rest; size = omega arith }

-- ---- lists of terms

pub cons-long : (t : Term) (ts : Terms) → 3 ≤ length (terms_words (cons t ts))
unfolding term_words
cons-long t ts = omega (arith, length-append (term_words t) (terms_words ts), long-term t)

pub none_left : {table : List ℕ} {p stop : ℕ} → stop ≤ p → (w : TermsAt table p stop) → w.terms ≡ nil
none_left {table} {p} {stop} l w = by w.terms w.ends
  where
    by : (ts : Terms) → stop ≡ p + length (terms_words ts) → ts ≡ nil
    by nil e = refl
    by (cons t ts) e = absurd (omega (arith, cons-long t ts, e))

-- the first of them and the others
pub record Parted (table : List ℕ) (p stop : ℕ) (ts : Terms) : Type 0 where
  pub first : TermAt table p
  pub rest : TermsAt table (p + length (term_words first.term)) stop
  pub is : ts ≡ cons first.term rest.terms

parted-by : (table : List ℕ) (p stop : ℕ) (ts : Terms) → p < stop → WordsAt table p (terms_words ts) → stop ≡ p + length (terms_words ts)
    → AllNumbered ts → Parted table p stop ts
unfolding term_words
parted-by table p stop nil l h e k = absurd (omega arith)
parted-by table p stop (cons t ts) l h e (numbered_cons k ks) = record {
  first = record { term = t; has = has_left table p (term_words t) (terms_words ts) h; numbered = k };
  rest = record {
    terms = ts;
    has = has_right table p (term_words t) (terms_words ts) h;
    ends = omega (arith, length-append (term_words t) (terms_words ts));
    numbered = ks;
  };
  is = refl;
}

pub parted : {table : List ℕ} {p stop : ℕ} → p < stop → (w : TermsAt table p stop) → Parted table p stop w.terms
parted {table} {p} {stop} l w = parted-by table p stop w.terms l w.has w.ends w.numbered

-- the size of the first is at most what is left
pub first_fits : {table : List ℕ} {p stop : ℕ} → p < stop → TermsAt table p stop → p + get_or table (p + 1) 0 ≤ stop
first_fits {table} {p} {stop} l w =
    let q : Parted table p stop w.terms = parted l w in
    omega (arith, (sized table p q.first).is, q.rest.ends)

-- ---- where the code goes on

pub inner-at : {table : List ℕ} {p : ℕ} (v stop : ℕ) → v ≡ get_or table p 0 → first_name ≤ v → ((u : TermAt table p) → stop ≡ p + length (term_words u.term)) → TermAt table p
    → TermsAt table (p + 3) stop
inner-at v stop e l s w = (opened v stop e l w (s w)).inner

pub next-further : {table : List ℕ} {p stop : ℕ} (next : ℕ) → p < stop → ((u : TermAt table p) → next ≡ p + length (term_words u.term)) → TermsAt table p stop
    → (p < next) × (next ≤ stop)
next-further {table} {p} {stop} next l n w =
    let q : Parted table p stop w.terms = parted l w in
    omega (arith, n q.first, (sized table p q.first).long, q.rest.ends)

-- ---- what stands in a text has numbered variables

mutual
  pub numbered : {s : List ℕ} {t : Term} → TermSpelt s t → Numbered t
  numbered (stands_variable l) = numbered_variable l
  numbered (stands_compound n a k) = numbered_compound (all-numbered k)

  pub all-numbered : {s : List ℕ} {ts : Terms} → TermsSpelt s ts → AllNumbered ts
  all-numbered stand_nil = numbered_nil
  all-numbered (stand_cons k ks) = numbered_cons (numbered k) (all-numbered ks)
