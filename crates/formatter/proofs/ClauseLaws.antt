-- Laws of clauses written from a table. Assumes nothing.
use Prim.Native.Nat.{ℕ, ◌+◌, ◌-◌, ◌*◌, ◌≤◌, ◌<◌}
use native.Mathlib.Omega.{arith}
use mathlib.Core.Path.{◌≡◌, refl, sym, ap, ◌∙◌, subst⁻¹}
use mathlib.Core.List.{List, [], ◌∷◌, ◌++◌}
use lib.ListN.{length, get_or, length-append}
use Rattle.syntax.specs.Terms.{Literal, call, equation, truth, falsity, either, Body, done, also, term_of, Clause}
use Rattle.syntax.specs.Words.{atom_words, term_words, body_words, literal_length, body_length, clause_words, clauses_words}
use Rattle.words.specs.Buffers.{Appended}
use Rattle.words.specs.Tables.{WordsAt}
use Rattle.words.proofs.BuffersLaws.{then, spelt}
use Rattle.words.proofs.TablesLaws.{has_left, has_right, has-inside, size_is}
use Rattle.marks.specs.Spelt.{BodySpelt, ClausesSpelt, clause_stands}
use Rattle.marks.specs.Tables.{TermAt, BodyAt, ClauseAt, ClausesAt}
use Rattle.marks.proofs.UndeclaredClauses.{says, head-at, body_at}
use Rattle.format_rules.specs.Writing.{term_text, atom_text, body_text, tail_text, end_text, clause_text, clauses_text}
use Rattle.formatter.specs.Tables.{SpeltTermAt, word_room}
use Rattle.formatter.proofs.BodyLaws.{atom_then, atom_short, body_then, body_short}
use Rattle.formatter.proofs.Progress.{Before, in_turn, AppendedBut, begun, further, all_done}

-- ---- one clause

abbrev pub head_at : {s table : List ℕ} {p : ℕ} → ClauseAt s table p → SpeltTermAt s table (p + 3)
head_at w = let a = head-at w in record { term = term_of a.atom; has = a.has; stands = a.stands }

-- the clause lies inside the table
pub clause_inside : {s table : List ℕ} {p : ℕ} (w : ClauseAt s table p) → p + length (clause_words w.clause) ≤ length table
unfolding clause_words
clause_inside {s} {table} {p} w = has-inside table p (clause_words w.clause) w.has (omega arith)

pub clause_long : {s table : List ℕ} {p : ℕ} (w : ClauseAt s table p) → length (clause_words w.clause) ≡ 3 + (length (atom_words w.clause.head) + length (body_words w.clause.body))
unfolding clause_words
clause_long w = omega (arith, length-append (atom_words w.clause.head) (body_words w.clause.body))

-- no items, no literals
literal_some : (l : Literal) → 0 < literal_length l
unfolding literal_length
literal_some (call a) = omega arith
literal_some (equation t u) = omega arith
literal_some truth = omega arith
literal_some falsity = omega arith
literal_some (either y z) = omega arith

no_items : (b : Body) → body_length b ≡ 0 → b ≡ done
unfolding literal_length
no_items done e = refl
no_items (also l b) e = absurd (omega (arith, literal_some l))

some_items : (b : Body) (rest : List ℕ) → (body_length b ≡ 0 → ⊥) → tail_text b rest ≡ 58 ∷ 45 ∷ body_text b rest
unfolding tail_text literal_length
some_items done rest d = absurd (d refl)
some_items (also l b) rest d = refl

pub behind_head : {table : List ℕ} (p : ℕ) {first : ℕ} → first ≡ p + 3 + get_or table (p + 3 + 1) 0 → (u : TermAt table (p + 3)) → first ≡ p + 3 + length (term_words u.term)
behind_head {table} p f u = f ∙ ap (λ (k : ℕ). p + 3 + k) (size_is table (p + 3) u.term u.has)

module _ {s table : List ℕ} {p : ℕ} {items : ℕ} (e : items ≡ get_or table (p + 2) 0) where
  pub fact_written : {out one new : List ℕ} {at past end : ℕ} → items ≡ 0 → ((u : SpeltTermAt s table (p + 3)) → Appended out at (term_text u.term []) one past) → Appended one past (46 ∷ 10 ∷ []) new end
      → (w : ClauseAt s table p) → Appended out at (clause_text w.clause []) new end
  unfolding clause_text tail_text atom_text term_text
  fact_written k q r w =
      let none : w.clause.body ≡ done = no_items w.clause.body (sym (says w).third ∙ sym e ∙ k) in
      spelt (ap (λ (b : Body). atom_text w.clause.head (tail_text b (46 ∷ 10 ∷ []))) none ∙ atom_then w.clause.head (46 ∷ 10 ∷ [])) (then (q (head_at w)) r)

  module _ {first : ℕ} (f : first ≡ p + 3 + get_or table (p + 3 + 1) 0) where
    abbrev pub body_in : ClauseAt s table p → BodyAt s table first items
    body_in w = body_at s table p items e first (behind_head p f) w

    pub body_inside : (w : ClauseAt s table p) → first + length (body_words w.clause.body) ≡ p + length (clause_words w.clause)
    body_inside w = omega (arith, f, size_is table (p + 3) (head_at w).term (head_at w).has, clause_long w)

    pub rule_written : {out one two three new : List ℕ} {at past later behind end : ℕ} → (items ≡ 0 → ⊥) → ((u : SpeltTermAt s table (p + 3)) → Appended out at (term_text u.term []) one past)
        → Appended one past (58 ∷ 45 ∷ []) two later → ((b : BodyAt s table first items) → Appended two later (body_text b.body []) three behind) → Appended three behind (46 ∷ 10 ∷ []) new end
        → (w : ClauseAt s table p) → Appended out at (clause_text w.clause []) new end
    unfolding clause_text atom_text term_text
    rule_written d q neck r stop w =
        let b : Body = w.clause.body in
        let end : List ℕ = 46 ∷ 10 ∷ [] in
        spelt
        (atom_then w.clause.head (tail_text b end)
        ∙ ap (λ (v : List ℕ). atom_text w.clause.head [] ++ v) (some_items b end (λ z. d (e ∙ (says w).third ∙ z)) ∙ ap (λ (v : List ℕ). 58 ∷ 45 ∷ v) (body_then b end)))
        (then (q (head_at w)) (then neck (then (r (body_in w)) stop)))

    -- and what is written of the body has room
    pub body_near : {two three : List ℕ} {later behind : ℕ} → ((b : BodyAt s table first items) → Appended two later (body_text b.body []) three behind) → (w : ClauseAt s table p)
        → behind ≤ later + word_room * length (body_words w.clause.body)
    body_near r w = let b = body_in w in omega (arith, (r b).past, body_short s b.body b.stands)

-- ---- the clauses in turn

-- what follows a clause stands behind it
tail_then : (b : Body) → Before (λ rest. tail_text b (end_text rest))
unfolding tail_text
tail_then done rest = refl
tail_then (also l b) rest = ap (λ (w : List ℕ). 58 ∷ 45 ∷ w) (in_turn (body_text (also l b)) end_text (body_then (also l b)) (λ more. refl) rest)

clause_then : (c : Clause) → Before (clause_text c)
unfolding clause_text
clause_then c = in_turn (atom_text c.head) (λ rest. tail_text c.body (end_text rest)) (atom_then c.head) (tail_then c.body)

-- a word of the table is room for so many bytes
tail_short : (s : List ℕ) (b : Body) → BodySpelt s b → length (tail_text b (46 ∷ 10 ∷ [])) ≤ 4 + word_room * length (body_words b)
unfolding tail_text
tail_short s done k = omega arith
tail_short s (also l b) k =
    omega (arith, ap length (body_then (also l b) (46 ∷ 10 ∷ [])), length-append (body_text (also l b) []) (46 ∷ 10 ∷ []), body_short s (also l b) k)

clause_short : {s table : List ℕ} {p : ℕ} (w : ClauseAt s table p) → length (clause_text w.clause []) ≤ word_room * length (clause_words w.clause)
unfolding clause_text
clause_short {s} {table} {p} w =
    let c : Clause = w.clause in
    omega (
      arith,
      clause_long w,
      ap length (atom_then c.head (tail_text c.body (46 ∷ 10 ∷ []))),
      length-append (atom_text c.head []) (tail_text c.body (46 ∷ 10 ∷ [])),
      tail_short s c.body w.stands.body,
      atom_short s c.head w.stands.head,
    )

-- what is left of the clauses, of which i are written
pub record ClausesAhead (s table : List ℕ) (place i many : ℕ) : Type 0 where
  pub rest : List Clause
  has : WordsAt table place (clauses_words rest)
  count : i + length rest ≡ many
  stand : ClausesSpelt s rest

abbrev pub clauses_begin : {s table : List ℕ} {many : ℕ} → ClausesAt s table 0 many → ClausesAhead s table 0 0 many
clauses_begin w = record { rest = w.list; has = w.has; count = omega (arith, w.count); stand = w.stand }

record Parted (s table : List ℕ) (place i many : ℕ) (cs : List Clause) : Type 0 where
  first : ClauseAt s table place
  others : List Clause
  is : cs ≡ first.clause ∷ others
  has : WordsAt table (place + length (clause_words first.clause)) (clauses_words others)
  count : i + 1 + length others ≡ many
  stand : ClausesSpelt s others

parted_by : (s table : List ℕ) (place i many : ℕ) (cs : List Clause) → i < many → WordsAt table place (clauses_words cs) → i + length cs ≡ many → ClausesSpelt s cs → Parted s table place i many cs
unfolding clauses_words
parted_by s table place i many [] l h c k = absurd (omega arith)
parted_by s table place i many (x ∷ cs) l h c (clause_stands k ks) = record {
  first = record { clause = x; has = has_left table place (clause_words x) (clauses_words cs) h; stands = k };
  others = cs;
  is = refl;
  has = has_right table place (clause_words x) (clauses_words cs) h;
  count = omega arith;
  stand = ks;
}

none_left : {s table : List ℕ} {place i many : ℕ} → many ≤ i → (a : ClausesAhead s table place i many) → a.rest ≡ []
none_left {i = i} {many = many} l a = by a.rest a.count
  where
    by : (cs : List Clause) → i + length cs ≡ many → cs ≡ []
    by [] e = refl
    by (x ∷ cs) e = absurd (omega arith)

-- written but for the clauses ahead
abbrev pub ClausesWritten : {s table : List ℕ} {place i many : ℕ} → ClausesAhead s table place i many → List Clause → List ℕ → ℕ → List ℕ → ℕ → Type 0
ClausesWritten a cs old from new to = AppendedBut old from (clauses_text cs) (clauses_text a.rest) new to

pub clauses_begun : {s table : List ℕ} {many : ℕ} (w : ClausesAt s table 0 many) {old : List ℕ} {from : ℕ} → (a : ClausesAhead s table 0 0 many) × ClausesWritten a w.list old from old from
clauses_begun w = (clauses_begin w, begun refl)

module _ {s table : List ℕ} {place i many : ℕ} where
  module _ (l : i < many) where
    parted : (a : ClausesAhead s table place i many) → Parted s table place i many a.rest
    parted a = parted_by s table place i many a.rest l a.has a.count a.stand

    pub next_clause : ClausesAhead s table place i many → ClauseAt s table place
    next_clause a = (parted a).first

    pub clause_words_at : ClausesAhead s table place i many → (x : Clause) × WordsAt table place (clause_words x)
    clause_words_at a = ((next_clause a).clause, (next_clause a).has)

    -- the clause that was written
    module _ {next : ℕ} (n : (x : Clause) → WordsAt table place (clause_words x) → next ≡ place + length (clause_words x)) {new after : List ℕ} {to end : ℕ}
        (q : (w : ClauseAt s table place) → Appended new to (clause_text w.clause []) after end) where
      pub room_left : {bound : ℕ} → ClausesAhead s table place i many → to + word_room * (length table - place) ≤ bound → end + word_room * (length table - next) ≤ bound
      room_left a h =
          let x : ClauseAt s table place = next_clause a in
          omega (arith, h, n x.clause x.has, (q x).past, clause_short x, clause_inside x)

      pub clauses_further : (cs : List Clause) {old : List ℕ} {from : ℕ} → (a : ClausesAhead s table place i many) × ClausesWritten a cs old from new to
          → (a : ClausesAhead s table next (i + 1) many) × ClausesWritten a cs old from after end
      unfolding clauses_text
      clauses_further cs w =
          let o : Parted s table place i many w.0.rest = parted w.0 in (
            record { rest = o.others; has = subst⁻¹ (λ (k : ℕ). WordsAt table k (clauses_words o.others)) (n o.first.clause o.first.has) o.has; count = o.count; stand = o.stand },
            further (ap clauses_text o.is ∙ clause_then o.first.clause (clauses_text o.others)) w.1 (q o.first),
          )

  pub clauses_ended : many ≤ i → (cs : List Clause) {old new : List ℕ} {from to : ℕ} → (a : ClausesAhead s table place i many) × ClausesWritten a cs old from new to
      → Appended old from (clauses_text cs) new to
  unfolding clauses_text
  clauses_ended l cs w = all_done (ap clauses_text (none_left l w.0)) w.1
