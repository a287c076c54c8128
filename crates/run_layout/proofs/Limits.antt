-- The limits of RULES hold of what reading accepts, by the induction over reading; how many records a body then has; and a sheet with facts behind it.
use Prim.Native.Nat.{ℕ, zero, suc, ◌+◌, ◌*◌, ◌≤◌, ◌<◌}
use native.Mathlib.Omega.{arith}
use mathlib.Core.Path.{◌≡◌, refl}
use mathlib.Core.Bool.{Bool}
use mathlib.Core.List.{List, [], ◌∷◌, ◌++◌}
use lib.ListN.{length, length-append}
use Rattle.syntax.specs.Limits.{clauses, literals, most_facts}
use Rattle.syntax.specs.Terms.{Term, Terms, Literal, call, equation, truth, falsity, either, Body, done, also, literals_in, literals_of, Clause, Sheet, Goal}
use Rattle.syntax.specs.Words.{literal_length, body_length}
use Rattle.syntax.specs.Verdicts.{accepted, goal_outcome}
use Rattle.syntax.proofs.Induction.{Kept, sheet-read, goal_read}
use Rattle.mode_rules.specs.Checking.{checked_with}
use Rattle.mode_theorems.proofs.Accepting.{checked-sheet, read-goal}
use Rattle.machine.specs.Low.{LiteralFilled, BodyFilled, BodyShort, ClausesShort}
use Rattle.run_layout.specs.Regions.{most_items}
use Rattle.run_layout.specs.Nodes.{brackets_of, brackets_all}
use Rattle.machine.specs.Traces.{Fact, fact_text, fact_clause, fact_clauses, with_facts}
use Rattle.run_layout.specs.Limits.{LiteralLimited, EachLimited, BodyLimited, ClauseLimited, ClausesLimited, SheetLimited, body_records, ProgramLimited, GoalLimited}

-- ---- what reading gives

-- at most k brackets open at once in a term, and in a bracketed list of terms
abbrev Shallow : ℕ → Term → Type 0
Shallow k t = brackets_of t ≤ k

abbrev ShallowAll : ℕ → Terms → Type 0
ShallowAll k ts = brackets_all ts ≤ k

-- so many literals after n of them, and no more than a body may have
pub record Counts (n m count : ℕ) : Type 0 where
  pub is : n + count ≡ m
  pub low : n ≤ literals → m ≤ literals

abbrev LiteralKept : ℕ → ℕ → Literal → Type 0
LiteralKept n m x = LiteralLimited x × LiteralFilled x × Counts n m (literals_in x)

abbrev BodyKept : ℕ → ℕ → Body → Type 0
BodyKept n m b = EachLimited b × BodyFilled b × Counts n m (literals_of b)

one-more : {n : ℕ} → n < literals → Counts n (suc n) 1
one-more {n} l = record { is = omega arith; low = λ q. l }

none_more : {n : ℕ} → Counts n n 0
none_more {n} = record { is = omega arith; low = λ q. q }

both-counts : {n m k a b : ℕ} → Counts n m a → Counts m k b → Counts n k (a + b)
both-counts {n} {m} {k} {a} {b} x y = record { is = omega (arith, x.is, y.is); low = λ q. y.low (x.low q) }

-- a sheet of at most k clauses
abbrev Holds : ℕ → Sheet → Type 0
Holds k sh = ClausesLimited sh.clauses × (length sh.clauses ≤ k)

-- a body that has all of its clause's or goal's literals
whole : {n : ℕ} {b : Body} → BodyKept 0 n b → BodyLimited b
whole {n} {b} h =
    let low : n ≤ literals = h.2.low (omega arith) in
    record { each = h.0; short = record { few = omega (arith, low, h.2.is); filled = h.1 } }

kept : (s : List ℕ)
    → Kept s (λ st. Unit {0}) Shallow (λ left k. ShallowAll left) LiteralKept BodyKept ClauseLimited (λ d. Unit {0}) (λ ds. Holds) (λ g st. GoalLimited g)
unfolding brackets_of brackets_all literals_in
kept s =
    record {
      at-start = tt;
      past-token = λ r. tt;
      with_variable = λ r low. tt;
      with-literal = λ r. tt;
      without_variables = λ r. tt;
      new-variable = λ r low. omega arith;
      old-variable = λ r low. omega arith;
      numeral = λ r e. omega arith;
      named = λ r e h. h;
      no_terms = omega arith;
      one_term = λ h hs. omega (arith, h, hs);
      called = λ few low h. (omega (arith, few, h), tt, one-more low);
      equated = λ few low h g. ((omega (arith, few, h), omega (arith, few, g)), tt, one-more low);
      true_literal = λ low. (tt, tt, one-more low);
      false_literal = λ low. (tt, tt, one-more low);
      two_sides = λ l r h g. ((h.0, g.0), ((omega (arith, l, h.2.is), h.1), (omega (arith, r, g.2.is), g.1)), both-counts h.2 g.2);
      no_literals = (tt, tt, none_more);
      one_literal = λ h b. ((h.0, b.0), (h.1, b.1), both-counts h.2 b.2);
      clause = λ h b r. record { head = h; body = whole b };
      declaration = λ r e l. tt;
      no_items = (tt, omega arith);
      one_declaration = λ d h. h;
      one_clause = λ c h. ((c, h.0), omega (arith, h.1));
      goal = λ b r. whole b;
    }

-- ---- what is accepted

-- a goal that reading accepts
pub goal-limited : (s : List ℕ) (g : Goal) → goal_outcome s ≡ accepted g → GoalLimited g
goal-limited s g e = read-goal s GoalLimited (goal_read (kept s)) g e

-- a sheet that checking accepts, with the mark or without it
pub checked-sheet-limited : (stored : Bool) (s : List ℕ) (sh : Sheet) → checked_with stored s ≡ accepted sh → SheetLimited sh
checked-sheet-limited stored s sh e =
    let h : Holds clauses sh = checked-sheet s (Holds clauses) (sheet-read (kept s)) stored sh e in
    record { clauses = h.0; few = h.1 }

-- the bodies of clauses
pub clauses-short : (cls : List Clause) → ClausesLimited cls → ClausesShort cls
clauses-short [] h = tt
clauses-short (cl ∷ cls) h = (h.0.body.short, clauses-short cls h.1)

-- ---- the records of a body

-- a bracket has three of its own, and each side has a literal
mutual
  unfolding literal_length literals_in

  literal-items : (x : Literal) → LiteralFilled x → literal_length x + 3 ≤ 4 * literals_in x
  literal-items (call a) f = omega arith
  literal-items (equation t u) f = omega arith
  literal-items truth f = omega arith
  literal-items falsity f = omega arith
  literal-items (either y z) f = omega (arith, side-items y f.0.1 f.0.0, side-items z f.1.1 f.1.0)

  side-items : (b : Body) → BodyFilled b → 0 < literals_of b → body_length b + 3 ≤ 4 * literals_of b
  side-items done f l = absurd (omega (arith, l))
  side-items (also x b) f l = omega (arith, literal-items x f.0, some-items b f.1)

  some-items : (b : Body) → BodyFilled b → body_length b ≤ 4 * literals_of b
  some-items done f = omega arith
  some-items (also x b) f = omega (arith, literal-items x f.0, some-items b f.1)

pub few-items : {b : Body} → BodyShort b → body_length b ≤ most_items
few-items {b} h = by (literals_of b) refl
  where
    by : (k : ℕ) → literals_of b ≡ k → body_length b ≤ most_items
    by zero e = omega (arith, e, some-items b h.filled)
    by (suc k) e = omega (arith, side-items b h.filled (omega (arith, e)), h.few)

-- those of some clauses' bodies
records-few : (cls : List Clause) → ClausesLimited cls → body_records cls ≤ length cls * (most_items + 1)
unfolding body_records
records-few [] h = omega arith
records-few (cl ∷ cls) h = omega (arith, few-items h.0.body.short, records-few cls h.1)

records-both : (cls more : List Clause) → body_records (cls ++ more) ≡ body_records cls + body_records more
unfolding body_records
records-both [] more = omega arith
records-both (cl ∷ cls) more = omega (arith, records-both cls more)

-- ---- programs

-- a sheet alone is a program
pub program-limited : {sh : Sheet} → SheetLimited sh → ProgramLimited sh
program-limited {sh} h = record { few = omega (arith, h.few); room = omega (arith, h.few, records-few sh.clauses h.clauses); clauses = h.clauses }

-- a fact has brackets one deep, and an empty body
fact-limited : (at : ℕ) (f : Fact) → ClauseLimited (fact_clause at f)
unfolding fact_clause brackets_of brackets_all literals_in
fact-limited at f = record { head = omega arith; body = record { each = tt; short = record { few = omega arith; filled = tt } } }

facts-each : (at : ℕ) (fs : List Fact) → ClausesLimited (fact_clauses at fs)
unfolding fact_clauses
facts-each at [] = tt
facts-each at (f ∷ fs) = (fact-limited at f, facts-each (at + length (fact_text f)) fs)

facts-many : (at : ℕ) (fs : List Fact) → length (fact_clauses at fs) ≡ length fs
unfolding fact_clauses
facts-many at [] = refl
facts-many at (f ∷ fs) = omega (arith, facts-many (at + length (fact_text f)) fs)

facts-records : (at : ℕ) (fs : List Fact) → body_records (fact_clauses at fs) ≡ length fs
unfolding fact_clauses fact_clause body_records literal_length
facts-records at [] = refl
facts-records at (f ∷ fs) = omega (arith, facts-records (at + length (fact_text f)) fs)

both-limited : (cls more : List Clause) → ClausesLimited cls → ClausesLimited more → ClausesLimited (cls ++ more)
both-limited [] more h g = g
both-limited (cl ∷ cls) more h g = (h.0, both-limited cls more h.1 g)

-- a sheet with facts behind its own clauses is one
pub facts-limited : (at : ℕ) {sh : Sheet} (facts : List Fact) → SheetLimited sh → length facts ≤ most_facts → ProgramLimited (with_facts at sh facts)
unfolding with_facts
facts-limited at {sh} facts h l =
    record {
      few = omega (arith, l, h.few, length-append sh.clauses (fact_clauses at facts), facts-many at facts);
      room = omega (arith, l, h.few, records-few sh.clauses h.clauses, records-both sh.clauses (fact_clauses at facts), facts-records at facts);
      clauses = both-limited sh.clauses (fact_clauses at facts) h.clauses (facts-each at facts);
    }
