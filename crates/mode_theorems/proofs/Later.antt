-- REQUESTS (xiv): what was accepted with the single pass is accepted still; where 9 or 10 was the answer, it is accepted now, or refused at the
-- same place or a later one; no other refusal moves. The walk along a body is monotone in what is known ground, and in the effect of equations.
-- Assumes nothing.
use Prim.Native.Nat.{ℕ, zero, suc, ◌+◌, ◌≤◌, ◌<◌}
use mathlib.Core.Path.{◌≡◌, refl, sym, subst, ◌∙◌}
use mathlib.Core.Bool.{Bool, true, false, ◌&&◌, ◌||◌, or-true, false≢true}
use mathlib.Core.List.{List, [], ◌∷◌}
use mathlib.Core.Option.{Option, none, some}
use native.Mathlib.Omega.{arith}
use lib.ListN.{length, set, length-set}
use Rattle.syntax.specs.Terms.{Term, Terms, variable, compound, nil, cons, arity, Atom, Literal, Body, call, equation, truth, falsity, either, done, also, literals_in, literals_of, Mark, input, output, Declaration, Clause, Sheet, Goal, same_predicate}
use Rattle.syntax.specs.Limits.{variables}
use Rattle.syntax.specs.Refusals.{numbers_of}
use Rattle.syntax.specs.Verdicts.{Outcome, refused, accepted, sheet_of, goal_outcome, sheet_verdict}
use Rattle.syntax.specs.declared.Text.{Text}
use Rattle.syntax.specs.declared.Text.TheVariants.{Sheet as in_sheet}
use Rattle.syntax.specs.declared.Refusal.{Refusal}
use Rattle.syntax.specs.declared.Refusal.TheVariants.{OpenInput, OpenOutput}
use Rattle.syntax.proofs.VerdictParts.{same_refusal}
use Rattle.syntax.specs.Verdicts.{Verdict}
use Rattle.syntax.specs.Verdicts.{Accepted, Refused}
use Rattle.mode_rules.specs.Modes.{Known, knows, none_ground, is_ground, open_byte, ground_term, ground_terms, ground_both, equate_variable, equate_same, equate, equate_all, settle, marks_for, same_mark, list_of, if_marked, OpenArgument, first_open, ground_if, ground_marked, undeclared_in_sheet, undeclared_in_goal, open_input, open_output, Walk, faulted, known, unless_fault, walk_on, in_both, call_walk, literal_walk, body_fault, start_known, head_fault, clause_fault, clauses_fault, first_of, sheet_fault, walk_fault, goal_fault}
use Rattle.mode_rules.specs.Written.{unwritten}
use Rattle.mode_rules.specs.Checking.{faultless, checked_from, checked_with, verdict_with, check_verdict, checked_goal_from, checked_goal, goal_answer, check_goal_from, check_goal_verdict}
use Rattle.mode_rules.specs.Earlier as earlier
use Rattle.mode_rules.specs.Earlier.{single_pass, ByMarks, NotBefore, later_clause, later_test, later_literal, later_argument, VerdictMoved, stays, now_accepted, later, goal_tested}
use Rattle.mode_rules.proofs.Terms.{is_none, ground-none, ground-grows}
use Rattle.mode_rules.proofs.Growth.{Grown, grown-on, grown-everything, both-grown, equate-grown}
use Rattle.mode_rules.proofs.Growth.{stays as unchanged}
use Rattle.mode_rules.proofs.Passes.{settle-grown, settle-on}
use Rattle.mode_theorems.proofs.Bodies.{both_wide, both-knows, both_true, nothing-wide, start-wide}

-- ---- monotone in what is known ground

-- a flag for each variable in both, and what is known in the first is known in the second
record Below (τ σ : Known) : Type 0 where
  wide : length τ ≡ variables
  grown : Grown τ σ

below-same : {τ : Known} → length τ ≡ variables → Below τ τ
below-same l = record { wide = l; grown = unchanged l }

below_on : {τ σ ρ : Known} → Below τ σ → Grown σ ρ → Below τ ρ
below_on h g = record { wide = h.wide; grown = grown-on h.grown g }

set_below : (τ σ : Known) (i j : ℕ) → length τ ≡ length σ → (knows τ j ≡ true → knows σ j ≡ true) → knows (set τ i true) j ≡ true → knows (set σ i true) j ≡ true
set_below [] σ i j l h e = absurd (false≢true e)
set_below (b ∷ τ) [] i j l h e = absurd (omega arith)
set_below (b ∷ τ) (c ∷ σ) zero zero l h e = refl
set_below (b ∷ τ) (c ∷ σ) zero (suc j) l h e = h e
set_below (b ∷ τ) (c ∷ σ) (suc i) zero l h e = h e
set_below (b ∷ τ) (c ∷ σ) (suc i) (suc j) l h e = set_below τ σ i j (omega arith) h e

mutual
  unfolding ground_term

  term-below : (t : Term) (τ σ : Known) → Below τ σ → Below (ground_term t τ) (ground_term t σ)
  term-below (variable i at) τ σ h = record {
    wide = length-set τ i true ∙ h.wide;
    grown = record {
      wide = length-set σ i true ∙ h.grown.wide;
      keeps = λ j e. set_below τ σ i j (h.wide ∙ sym h.grown.wide) (h.grown.keeps j) e;
    };
  }
  term-below (compound at f ts) τ σ h = terms-below ts τ σ h

  terms-below : (ts : Terms) (τ σ : Known) → Below τ σ → Below (ground_terms ts τ) (ground_terms ts σ)
  terms-below nil τ σ h = h
  terms-below (cons t ts) τ σ h = terms-below ts (ground_term t τ) (ground_term t σ) (term-below t τ σ h)

if-below : (b : Bool) (t : Term) (τ σ : Known) → Below τ σ → Below (ground_if b t τ) (ground_if b t σ)
unfolding ground_if
if-below true t τ σ h = term-below t τ σ h
if-below false t τ σ h = h

marked-below : (m : Mark) (ks : List Mark) (ts : List Term) (τ σ : Known) → Below τ σ → Below (ground_marked m ks ts τ) (ground_marked m ks ts σ)
unfolding ground_marked
marked-below m [] ts τ σ h = h
marked-below m (k ∷ ks) [] τ σ h = h
marked-below m (k ∷ ks) (t ∷ ts) τ σ h = marked-below m ks ts (ground_if (same_mark m k) t τ) (ground_if (same_mark m k) t σ) (if-below (same_mark m k) t τ σ h)

both_below : (x y : Bool) (t u : Term) (τ σ : Known) → (x ≡ true → y ≡ true) → Below τ σ → Below (ground_both x t u τ) (ground_both y t u σ)
both_below true true t u τ σ i h = unfold ground_both in (term-below u (ground_term t τ) (ground_term t σ) (term-below t τ σ h))
both_below true false t u τ σ i h = absurd (false≢true (i refl))
both_below false y t u τ σ i h = unfold ground_both in (below_on h (both-grown y t u σ h.grown.wide))

either_true : (a b c d : Bool) → (a ≡ true → c ≡ true) → (b ≡ true → d ≡ true) → (a || b) ≡ true → (c || d) ≡ true
either_true true b c d p q e = rw (p refl)
either_true false b c d p q e = rw (q e, or-true)

variable-below : (t u : Term) (τ σ : Known) → Below τ σ → Below (equate_variable t u τ) (equate_variable t u σ)
unfolding equate_variable
variable-below t u τ σ h =
    both_below _ _ t u τ σ
    (either_true (is_ground τ t) (is_ground τ u) _ _ (ground-grows t τ σ h.grown.keeps) (ground-grows u τ σ h.grown.keeps)) h

same-below : (b : Bool) (pairs : Known → Known) (τ σ : Known) → Below τ σ → Below (pairs τ) (pairs σ) → Below (equate_same b pairs τ) (equate_same b pairs σ)
unfolding equate_same
same-below true pairs τ σ h p = p
same-below false pairs τ σ h p = below-same (grown-everything {τ = τ} h.wide).wide

mutual
  unfolding equate

  equate-below : (t u : Term) (τ σ : Known) → Below τ σ → Below (equate t u τ) (equate t u σ)
  equate-below (variable i at) u τ σ h = variable-below (variable i at) u τ σ h
  equate-below (compound at f ts) (variable j bt) τ σ h = variable-below (compound at f ts) (variable j bt) τ σ h
  equate-below (compound at f ts) (compound bt g us) τ σ h =
      same-below (same_predicate f (arity ts) g (arity us)) (λ ρ. equate_all ts us ρ) τ σ h (equate-all-below ts us τ σ h)

  equate-all-below : (ts us : Terms) (τ σ : Known) → Below τ σ → Below (equate_all ts us τ) (equate_all ts us σ)
  equate-all-below nil nil τ σ h = h
  equate-all-below nil (cons u us) τ σ h = below-same (grown-everything {τ = τ} h.wide).wide
  equate-all-below (cons t ts) nil τ σ h = below-same (grown-everything {τ = τ} h.wide).wide
  equate-all-below (cons t ts) (cons u us) τ σ h = equate-all-below ts us (equate t u τ) (equate t u σ) (equate-below t u τ σ h)

-- monotone in the effect of an equation too: one pass leaves no more than all of them
settle-below : (t u : Term) (τ σ : Known) → Below τ σ → Below (equate t u τ) (settle t u σ)
settle-below t u τ σ h =
    let w : length (equate t u σ) ≡ variables = (equate-grown t u σ h.grown.wide).wide in
    let g : Grown (equate t u σ) (settle t u σ) =
    subst (λ (ρ : Known). Grown (equate t u σ) ρ) (settle-on t u σ h.grown.wide) (settle-grown t u (equate t u σ) w) in
    below_on (equate-below t u τ σ h) g

and_first : (a b : Bool) → (a && b) ≡ true → a ≡ true
and_first true b e = refl
and_first false b e = e

and_second : (a b : Bool) → (a && b) ≡ true → b ≡ true
and_second true b e = e
and_second false b e = absurd (false≢true e)

-- after a bracket: what both sides leave
both-sides-below : {τ σ π ρ : Known} → Below τ σ → Below π ρ → Below (in_both τ π) (in_both σ ρ)
both-sides-below {τ} {σ} {π} {ρ} h k =
    record {
      wide = both_wide τ π (h.wide ∙ sym k.wide) ∙ h.wide;
      grown = record {
        wide = both_wide σ ρ (h.grown.wide ∙ sym k.grown.wide) ∙ h.grown.wide;
        keeps = λ i e. both-knows σ ρ i ∙ both_true (knows σ i) (knows ρ i)
            (h.grown.keeps i (and_first (knows τ i) (knows π i) (sym (both-knows τ π i) ∙ e)))
            (k.grown.keeps i (and_second (knows τ i) (knows π i) (sym (both-knows τ π i) ∙ e)));
      };
    }

-- ---- the first open argument

-- of what is found, if anything
abbrev IfSome : {A : Type 0} → (A → Type 0) → Option A → Type 0
IfSome P none = Unit {0}
IfSome P (some x) = P x

data OpenMoved : Option OpenArgument → Option OpenArgument → Type 0 where
  closed : OpenMoved none none
  gone : {o : OpenArgument} → OpenMoved (some o) none
  further : {o p : OpenArgument} → o.argument ≤ p.argument → OpenMoved (some o) (some p)

-- the argument at hand, or else the first of the others
abbrev or_next : ℕ → Option OpenArgument → Option ℕ → Option OpenArgument
or_next n x o = elim o [ none ↦ x | some b ↦ some (record { argument = n; byte = b }) ]

open-from : (m : Mark) (σ : Known) (ks : List Mark) (ts : List Term) (n : ℕ) → IfSome (λ o. n ≤ o.argument) (first_open m σ ks ts n)
unfolding first_open
open-from m σ [] ts n = tt
open-from m σ (k ∷ ks) [] n = tt
open-from m σ (k ∷ ks) (t ∷ ts) n = by (if_marked (same_mark m k) (open_byte σ t)) (first_open m σ ks ts (suc n)) (open-from m σ ks ts (suc n))
  where
    by : (o : Option ℕ) (x : Option OpenArgument) → IfSome (λ p. suc n ≤ p.argument) x → IfSome (λ p. n ≤ p.argument) (or_next n x o)
    by (some b) x h = omega arith
    by none none h = tt
    by none (some p) h = omega arith

first-moved : (m : Mark) (τ σ : Known) → Below τ σ → (ks : List Mark) (ts : List Term) (n : ℕ) → OpenMoved (earlier.first_open single_pass m τ ks ts n) (first_open m σ ks ts n)
unfolding earlier.first_open first_open
first-moved m τ σ h [] ts n = closed
first-moved m τ σ h (k ∷ ks) [] n = closed
first-moved m τ σ h (k ∷ ks) (t ∷ ts) n =
    by (same_mark m k) (open_byte τ t) (open_byte σ t)
    (λ e. sym (ground-none σ t) ∙ ground-grows t τ σ h.grown.keeps (ground-none τ t ∙ e))
    (earlier.first_open single_pass m τ ks ts (suc n)) (first_open m σ ks ts (suc n))
    (first-moved m τ σ h ks ts (suc n)) (open-from m σ ks ts (suc n))
  where
    found : (b : ℕ) (y : Option OpenArgument) → IfSome (λ p. suc n ≤ p.argument) y → OpenMoved (some (record { argument = n; byte = b })) y
    found b none f = gone
    found b (some p) f = further {o = record { argument = n; byte = b }} {p = p} (omega arith)

    by : (marked : Bool) (o p : Option ℕ) → (is_none o ≡ true → is_none p ≡ true)
        → (x y : Option OpenArgument) → OpenMoved x y → IfSome (λ q. suc n ≤ q.argument) y
        → OpenMoved (or_next n x (if_marked marked o)) (or_next n y (if_marked marked p))
    by false o p i x y r f = unfold if_marked in r
    by true none none i x y r f = unfold if_marked in r
    by true none (some b) i x y r f = absurd (false≢true (i refl))
    by true (some b) none i x y r f = unfold if_marked in (found b y f)
    by true (some b) (some d) i x y r f = unfold if_marked in (further {o = record { argument = n; byte = b }} {p = record { argument = n; byte = d }} (omega arith))

-- ---- from a fault to a fault, both of which have a property

data FaultMoved (P : Refusal → Type 0) : Option Refusal → Option Refusal → Type 0 where
  no-fault : FaultMoved P none none
  gone : {r : Refusal} → P r → FaultMoved P (some r) none
  moved : {r q : Refusal} → P r → P q → NotBefore (numbers_of r) (numbers_of q) → FaultMoved P (some r) (some q)

-- a fault, or else that of what comes behind it
module _ {P Q R : Refusal → Type 0} (before : (r q : Refusal) → P r → Q q → NotBefore (numbers_of r) (numbers_of q)) (left : (r : Refusal) → P r → R r) (right : (r : Refusal) → Q r → R r) where
  moved-first : {o p x y : Option Refusal} → FaultMoved P o p → FaultMoved Q x y → IfSome Q y → FaultMoved R (first_of o x) (first_of p y)
  moved-first no-fault no-fault f = no-fault
  moved-first no-fault (gone h) f = gone (right _ h)
  moved-first no-fault (moved h k n) f = moved (right _ h) (right _ k) n
  moved-first {y = none} (gone {r = r} h) m f = gone (left r h)
  moved-first {y = some q} (gone {r = r} h) m f = moved (left r h) (right q f) (before r q h f)
  moved-first (moved h k n) m f = moved (left _ h) (left _ k) n

-- ---- 9 along a body

-- 9, in clause c, at a literal from l on and before m
record Nine (c l m : ℕ) (r : Refusal) : Type 0 where
  number : (numbers_of r).number ≡ 9
  clause : (numbers_of r).clause ≡ c
  from : l ≤ (numbers_of r).literal
  before : (numbers_of r).literal < m

nine : {c l m : ℕ} (a : Atom) (o : OpenArgument) → l < m → Nine c l m (OpenInput o.byte c l o.argument a.at (length a.name))
nine a o h = record { number = refl; clause = refl; from = omega arith; before = h }

nine-wider : {c : ℕ} (l m l1 m1 : ℕ) → l1 ≤ l → m ≤ m1 → (r : Refusal) → Nine c l m r → Nine c l1 m1 r
nine-wider l m l1 m1 p q r h = record { number = h.number; clause = h.clause; from = omega (arith, p, h.from); before = omega (arith, q, h.before) }

abbrev IfFaulted : (Refusal → Type 0) → Walk → Type 0
IfFaulted P (faulted r) = P r
IfFaulted P (known σ) = Unit {0}

faulted-wider : (c l m l1 m1 : ℕ) → l1 ≤ l → m ≤ m1 → (w : Walk) → IfFaulted (Nine c l m) w → IfFaulted (Nine c l1 m1) w
faulted-wider c l m l1 m1 p q (faulted r) h = nine-wider l m l1 m1 p q r h
faulted-wider c l m l1 m1 p q (known σ) h = tt

on-nine : (c l m k : ℕ) → l ≤ m → m ≤ k → (w : Walk) (rest : Known → Walk) → IfFaulted (Nine c l m) w
    → ((σ : Known) → IfFaulted (Nine c m k) (rest σ)) → IfFaulted (Nine c l k) (walk_on w rest)
unfolding walk_on
on-nine c l m k p q (faulted r) rest h f = nine-wider l m l k (omega arith) q r h
on-nine c l m k p q (known σ) rest h f = faulted-wider c m k l k p (omega arith) (rest σ) (f σ)

call-nine : (ds : List Declaration) (c l m : ℕ) (σ : Known) (a : Atom) → l < m → IfFaulted (Nine c l m) (call_walk ds c l σ a)
unfolding call_walk
call-nine ds c l m σ a h = by (first_open input σ (marks_for ds a) (list_of a.args) 1)
  where
    by : (o : Option OpenArgument) → IfFaulted (Nine c l m) (unless_fault (open_input c l a o) (ground_marked output (marks_for ds a) (list_of a.args) σ))
    by none = unfold open_input in unfold unless_fault in tt
    by (some o) = unfold open_input in unfold unless_fault in (nine a o h)

-- a fault of a literal or body of clause c has the number of one of its literals, which count from l
mutual
  unfolding literal_walk literals_in

  literal-nine : (ds : List Declaration) (c : ℕ) (lit : Literal) (l : ℕ) (σ : Known) → IfFaulted (Nine c l (literals_in lit + l)) (literal_walk ds c l σ lit)
  literal-nine ds c (call a) l σ = call-nine ds c l (1 + l) σ a (omega arith)
  literal-nine ds c (equation t u) l σ = tt
  literal-nine ds c truth l σ = tt
  literal-nine ds c falsity l σ = tt
  literal-nine ds c (either y z) l σ =
      let m : ℕ = literals_of y + l in
      let k : ℕ = literals_of y + literals_of z + l in
      on-nine c l m k (omega arith) (omega arith) (body_fault ds c l σ y) (λ τ. walk_on (body_fault ds c m σ z) (λ ρ. known (in_both τ ρ)))
      (body-nine ds c y l σ)
      (λ τ. on-nine c m k k (omega arith) (omega arith) (body_fault ds c m σ z) (λ ρ. known (in_both τ ρ))
      (faulted-wider c m (literals_of z + m) m k (omega arith) (omega arith) (body_fault ds c m σ z) (body-nine ds c z m σ)) (λ ρ. tt))

  body-nine : (ds : List Declaration) (c : ℕ) (b : Body) (l : ℕ) (σ : Known) → IfFaulted (Nine c l (literals_of b + l)) (body_fault ds c l σ b)
  body-nine ds c done l σ = tt
  body-nine ds c (also lit b) l σ =
      let m : ℕ = literals_in lit + l in
      let k : ℕ = literals_in lit + literals_of b + l in
      on-nine c l m k (omega arith) (omega arith) (literal_walk ds c l σ lit) (λ ρ. body_fault ds c m ρ b)
      (literal-nine ds c lit l σ)
      (λ ρ. faulted-wider c m (literals_of b + m) m k (omega arith) (omega arith) (body_fault ds c m ρ b) (body-nine ds c b m ρ))

data WalkMoved (c l m : ℕ) : Walk → Walk → Type 0 where
  through : {τ σ : Known} → Below τ σ → WalkMoved c l m (known τ) (known σ)
  gone : {r : Refusal} {σ : Known} → Nine c l m r → WalkMoved c l m (faulted r) (known σ)
  moved : {r q : Refusal} → Nine c l m r → Nine c l m q → NotBefore (numbers_of r) (numbers_of q) → WalkMoved c l m (faulted r) (faulted q)

walk-wider : {c : ℕ} (l m l1 m1 : ℕ) {w v : Walk} → l1 ≤ l → m ≤ m1 → WalkMoved c l m w v → WalkMoved c l1 m1 w v
walk-wider l m l1 m1 p q (through h) = through h
walk-wider l m l1 m1 p q (gone {r = r} h) = gone (nine-wider l m l1 m1 p q r h)
walk-wider l m l1 m1 p q (moved {r = r} {q = x} h k n) = moved (nine-wider l m l1 m1 p q r h) (nine-wider l m l1 m1 p q x k) n

-- one fault before m, the other from m on
nine-later : {c l m k : ℕ} (r q : Refusal) → Nine c l m r → Nine c m k q → NotBefore (numbers_of r) (numbers_of q)
nine-later r q h n = later_literal (h.clause ∙ sym n.clause) (h.number ∙ sym n.number) (omega (arith, h.before, n.from))

on-moved : {c : ℕ} (l m k : ℕ) {w v : Walk} → l ≤ m → m ≤ k → (rest more : Known → Walk)
    → WalkMoved c l m w v
    → ((τ σ : Known) → Below τ σ → WalkMoved c m k (rest τ) (more σ))
    → ((σ : Known) → IfFaulted (Nine c m k) (more σ))
    → WalkMoved c l k (walk_on w rest) (walk_on v more)
unfolding walk_on
on-moved l m k p q rest more (through {τ = τ} {σ = σ} h) f g = walk-wider m k l k p (omega arith) (f τ σ h)
on-moved {c} l m k p q rest more (gone {r = r} {σ = σ} h) f g = by (more σ) (g σ)
  where
    here : Nine c l k r
    here = nine-wider l m l k (omega arith) q r h

    by : (w : Walk) → IfFaulted (Nine c m k) w → WalkMoved c l k (faulted r) w
    by (known ρ) n = gone here
    by (faulted x) n = moved here (nine-wider m k l k p (omega arith) x n) (nine-later r x h n)
on-moved l m k p q rest more (moved {r = r} {q = x} h n b) f g = moved (nine-wider l m l k (omega arith) q r h) (nine-wider l m l k (omega arith) q x n) b

call-moved : (ds : List Declaration) (c l m : ℕ) (τ σ : Known) → Below τ σ → (a : Atom) → l < m
    → WalkMoved c l m (earlier.call_walk single_pass ds c l τ a) (call_walk ds c l σ a)
unfolding earlier.call_walk call_walk
call-moved ds c l m τ σ h a low =
    by (first-moved input τ σ h (marks_for ds a) (list_of a.args) 1) (marked-below output (marks_for ds a) (list_of a.args) τ σ h)
  where
    by : {x y : Option OpenArgument} {π ρ : Known} → OpenMoved x y → Below π ρ
        → WalkMoved c l m (unless_fault (open_input c l a x) π) (unless_fault (open_input c l a y) ρ)
    by closed k = unfold open_input in unfold unless_fault in (through k)
    by (gone {o = o}) k = unfold open_input in unfold unless_fault in (gone (nine a o low))
    by (further {o = o} {p = p} n) k = unfold open_input in unfold unless_fault in (moved (nine a o low) (nine a p low) (later_argument refl refl refl n))

mutual
  unfolding earlier.literal_walk literal_walk literals_in

  literal-moved : (ds : List Declaration) (c : ℕ) (lit : Literal) (l : ℕ) (τ σ : Known) → Below τ σ
      → WalkMoved c l (literals_in lit + l) (earlier.literal_walk single_pass ds c l τ lit) (literal_walk ds c l σ lit)
  literal-moved ds c (call a) l τ σ h = call-moved ds c l (1 + l) τ σ h a (omega arith)
  literal-moved ds c (equation t u) l τ σ h = through (settle-below t u τ σ h)
  literal-moved ds c truth l τ σ h = through h
  literal-moved ds c falsity l τ σ h = through (below-same (grown-everything {τ = τ} h.wide).wide)
  literal-moved ds c (either y z) l τ σ h =
      let m : ℕ = literals_of y + l in
      let k : ℕ = literals_of y + literals_of z + l in
      let right : WalkMoved c m k (earlier.body_fault single_pass ds c m τ z) (body_fault ds c m σ z) =
      walk-wider m (literals_of z + m) m k (omega arith) (omega arith) (body-moved ds c z m τ σ h) in
      let nines : IfFaulted (Nine c m k) (body_fault ds c m σ z) =
      faulted-wider c m (literals_of z + m) m k (omega arith) (omega arith) (body_fault ds c m σ z) (body-nine ds c z m σ) in
      on-moved l m k (omega arith) (omega arith)
      (λ π. walk_on (earlier.body_fault single_pass ds c m τ z) (λ x. known (in_both π x))) (λ ρ. walk_on (body_fault ds c m σ z) (λ x. known (in_both ρ x)))
      (body-moved ds c y l τ σ h)
      (λ π ρ b. on-moved m k k (omega arith) (omega arith) (λ x. known (in_both π x)) (λ x. known (in_both ρ x)) right
      (λ v w d. through (both-sides-below b d)) (λ x. tt))
      (λ ρ. on-nine c m k k (omega arith) (omega arith) (body_fault ds c m σ z) (λ x. known (in_both ρ x)) nines (λ x. tt))

  body-moved : (ds : List Declaration) (c : ℕ) (b : Body) (l : ℕ) (τ σ : Known) → Below τ σ
      → WalkMoved c l (literals_of b + l) (earlier.body_fault single_pass ds c l τ b) (body_fault ds c l σ b)
  body-moved ds c done l τ σ h = through h
  body-moved ds c (also lit b) l τ σ h =
      let m : ℕ = literals_in lit + l in
      let k : ℕ = literals_in lit + literals_of b + l in
      on-moved l m k (omega arith) (omega arith) (λ ρ. earlier.body_fault single_pass ds c m ρ b) (λ ρ. body_fault ds c m ρ b)
      (literal-moved ds c lit l τ σ h)
      (λ π ρ d. walk-wider m (literals_of b + m) m k (omega arith) (omega arith) (body-moved ds c b m π ρ d))
      (λ ρ. faulted-wider c m (literals_of b + m) m k (omega arith) (omega arith) (body_fault ds c m ρ b) (body-nine ds c b m ρ))

-- ---- 9 and 10 of a clause, and of clauses

-- 9 or 10, in clause c
record Within (c : ℕ) (r : Refusal) : Type 0 where
  marks : ByMarks r
  clause : (numbers_of r).clause ≡ c

-- 9 or 10, in clause c or behind it
record From (c : ℕ) (r : Refusal) : Type 0 where
  marks : ByMarks r
  clause : c ≤ (numbers_of r).clause

nine-within : {c l m : ℕ} (r : Refusal) → Nine c l m r → Within c r
nine-within r h = record { marks = omega arith; clause = h.clause }

ten : (c : ℕ) (a : Atom) (o : OpenArgument) → Within c (OpenOutput o.byte c o.argument a.at (length a.name))
ten c a o = record { marks = omega arith; clause = refl }

head-moved : {m : ℕ} (ds : List Declaration) (c : ℕ) (h : Atom) {w v : Walk} → WalkMoved c 1 m w v
    → FaultMoved (Within c) (earlier.head_fault single_pass ds c h w) (head_fault ds c h v)
unfolding earlier.head_fault head_fault
head-moved ds c h (through {τ = τ} {σ = σ} k) = by (first-moved output τ σ k (marks_for ds h) (list_of h.args) 1)
  where
    by : {x y : Option OpenArgument} → OpenMoved x y → FaultMoved (Within c) (open_output c h x) (open_output c h y)
    by closed = unfold open_output in no-fault
    by (gone {o = o}) = unfold open_output in (gone (ten c h o))
    by (further {o = o} {p = p} k) = unfold open_output in (moved (ten c h o) (ten c h p) (later_argument refl refl refl k))
head-moved ds c h (gone {r = r} {σ = σ} n) = by (first_open output σ (marks_for ds h) (list_of h.args) 1)
  where
    by : (o : Option OpenArgument) → FaultMoved (Within c) (some r) (open_output c h o)
    by none = unfold open_output in (gone (nine-within r n))
    by (some o) = unfold open_output in (moved (nine-within r n) (ten c h o) (later_test n.clause (omega arith)))
head-moved ds c h (moved {r = r} {q = q} n k b) = moved (nine-within r n) (nine-within q k) b

clause-moved : (ds : List Declaration) (c : ℕ) (cl : Clause) → FaultMoved (Within c) (earlier.clause_fault single_pass ds c cl) (clause_fault ds c cl)
unfolding earlier.clause_fault clause_fault
clause-moved ds c cl =
    head-moved ds c cl.head (body-moved ds c cl.body 1 (start_known ds cl.head) (start_known ds cl.head) (below-same (start-wide ds cl.head)))

clause-within : (ds : List Declaration) (c : ℕ) (cl : Clause) → IfSome (Within c) (clause_fault ds c cl)
unfolding clause_fault head_fault
clause-within ds c cl =
    by (literals_of cl.body + 1) (body_fault ds c 1 (start_known ds cl.head) cl.body) (body-nine ds c cl.body 1 (start_known ds cl.head))
  where
    out : (o : Option OpenArgument) → IfSome (Within c) (open_output c cl.head o)
    out none = unfold open_output in tt
    out (some o) = unfold open_output in (ten c cl.head o)

    by : (m : ℕ) (w : Walk) → IfFaulted (Nine c 1 m) w → IfSome (Within c) (head_fault ds c cl.head w)
    by m (faulted r) n = nine-within r n
    by m (known σ) n = out (first_open output σ (marks_for ds cl.head) (list_of cl.head.args) 1)

within-from : {c : ℕ} (r : Refusal) → Within c r → From c r
within-from r h = record { marks = h.marks; clause = omega (arith, h.clause) }

from_next : {c : ℕ} (r : Refusal) → From (suc c) r → From c r
from_next r h = record { marks = h.marks; clause = omega (arith, h.clause) }

clauses-from : (ds : List Declaration) (cls : List Clause) (c : ℕ) → IfSome (From c) (clauses_fault ds c cls)
unfolding clauses_fault
clauses-from ds [] c = tt
clauses-from ds (cl ∷ cls) c = by (clause_fault ds c cl) (clauses_fault ds (suc c) cls) (clause-within ds c cl) (clauses-from ds cls (suc c))
  where
    by : (o x : Option Refusal) → IfSome (Within c) o → IfSome (From (suc c)) x → IfSome (From c) (first_of o x)
    by none none p q = tt
    by none (some r) p q = from_next r q
    by (some r) x p q = within-from r p

clauses-moved : (ds : List Declaration) (cls : List Clause) (c : ℕ) → FaultMoved (From c) (earlier.clauses_fault single_pass ds c cls) (clauses_fault ds c cls)
unfolding earlier.clauses_fault clauses_fault
clauses-moved ds [] c = no-fault
clauses-moved ds (cl ∷ cls) c =
    moved-first (λ r q p f. later_clause (omega (arith, p.clause, f.clause))) within-from from_next
    (clause-moved ds c cl) (clauses-moved ds cls (suc c)) (clauses-from ds cls (suc c))

-- ---- sheets and goals

-- a fault stays, or is 9 or 10 and moves
data Fault : Option Refusal → Option Refusal → Type 0 where
  same : {o : Option Refusal} → Fault o o
  gone : {r : Refusal} → ByMarks r → Fault (some r) none
  moved : {r q : Refusal} → ByMarks r → ByMarks q → NotBefore (numbers_of r) (numbers_of q) → Fault (some r) (some q)

by-marks : {P : Refusal → Type 0} → ((r : Refusal) → P r → ByMarks r) → {o p : Option Refusal} → FaultMoved P o p → Fault o p
by-marks f no-fault = same
by-marks f (gone {r = r} h) = gone (f r h)
by-marks f (moved {r = r} {q = q} h k n) = moved (f r h) (f q k) n

-- behind another refusal, 8 or 16, which is the same
behind : (o : Option Refusal) {x y : Option Refusal} → Fault x y → Fault (first_of o x) (first_of o y)
behind none m = m
behind (some r) m = same

sheet-moved : (stored : Bool) (sh : Sheet) → Fault (earlier.sheet_fault single_pass stored sh) (sheet_fault stored sh)
unfolding earlier.sheet_fault sheet_fault
sheet-moved stored sh =
    behind (undeclared_in_sheet sh) (behind (unwritten stored sh) (by-marks (λ r h. h.marks) (clauses-moved sh.declarations sh.clauses 1)))

goal-moved : (sh : Sheet) (g : Goal) → Fault (earlier.goal_fault single_pass sh g) (goal_fault sh g)
unfolding earlier.goal_fault goal_fault
goal-moved sh g = behind (undeclared_in_goal sh g) (by (body-moved sh.declarations 0 g.body 1 none_ground none_ground (below-same nothing-wide)))
  where
    by : {m : ℕ} {w v : Walk} → WalkMoved 0 1 m w v → Fault (walk_fault w) (walk_fault v)
    by (through h) = unfold walk_fault in same
    by (gone {r = r} h) = unfold walk_fault in (gone (nine-within r h).marks)
    by (moved {r = r} {q = q} h k n) = unfold walk_fault in (moved (nine-within r h).marks (nine-within q k).marks n)

-- ---- verdicts

-- What (xiv) does to the answer to a sheet.
pub verdict-moved : (s : List ℕ) → VerdictMoved (earlier.check_verdict single_pass s) (check_verdict s)
unfolding earlier.check_verdict verdict_with earlier.checked_with checked_with
verdict-moved s = by (sheet_of s)
  where
    with-fault : (sh : Sheet) {o p : Option Refusal} → Fault o p → VerdictMoved (sheet_verdict (faultless sh o)) (sheet_verdict (faultless sh p))
    with-fault sh same = stays
    with-fault sh (gone h) = unfold faultless in unfold sheet_verdict in (now_accepted h)
    with-fault sh (moved h k n) = unfold faultless in unfold sheet_verdict in (later h k n)

    by : (o : Outcome Sheet) → VerdictMoved (sheet_verdict (earlier.checked_from single_pass false o)) (sheet_verdict (checked_from false o))
    by (refused r) = unfold earlier.checked_from in unfold checked_from in stays
    by (accepted sh) = unfold earlier.checked_from in unfold checked_from in (with-fault sh (sheet-moved false sh))

-- The same of a goal over a sheet that both accept.
answer-moved : (sh : Sheet) (g : List ℕ) → VerdictMoved (goal_answer sh (earlier.checked_goal single_pass sh g)) (goal_answer sh (checked_goal sh g))
unfolding earlier.checked_goal checked_goal
answer-moved sh g = by (goal_outcome g)
  where
    with-fault : (x : Goal) {o p : Option Refusal} → Fault o p → VerdictMoved (goal_answer sh (faultless x o)) (goal_answer sh (faultless x p))
    with-fault x same = stays
    with-fault x (gone h) = unfold faultless in unfold goal_answer in unfold sheet_verdict in (now_accepted h)
    with-fault x (moved h k n) = unfold faultless in unfold goal_answer in (later h k n)

    by : (o : Outcome Goal) → VerdictMoved (goal_answer sh (earlier.checked_goal_from single_pass sh o)) (goal_answer sh (checked_goal_from sh o))
    by (refused r) = unfold earlier.checked_goal_from in unfold checked_goal_from in stays
    by (accepted x) = unfold earlier.checked_goal_from in unfold checked_goal_from in (with-fault x (goal-moved sh x))

-- What (xiv) does to the answer to a sheet and a goal.
pub goal-verdict-moved : (s g : List ℕ) → VerdictMoved (earlier.check_goal_verdict single_pass s g) (check_goal_verdict s g)
unfolding earlier.check_goal_verdict check_goal_verdict earlier.checked_with checked_with earlier.check_goal_from check_goal_from
goal-verdict-moved s g = by (sheet_of s)
  where
    tested : {r : Refusal} → ByMarks r → (sh : Sheet) (o : Outcome Goal) → VerdictMoved (Refused in_sheet r) (goal_answer sh o)
    tested h sh (refused q) = unfold goal_answer in (goal_tested h)
    tested h sh (accepted x) = unfold goal_answer in unfold sheet_verdict in (now_accepted h)

    with-fault : (sh : Sheet) {o p : Option Refusal} → Fault o p → VerdictMoved (earlier.check_goal_from single_pass g (faultless sh o)) (check_goal_from g (faultless sh p))
    with-fault sh (same {o = none}) = unfold faultless in (answer-moved sh g)
    with-fault sh (same {o = some r}) = unfold faultless in stays
    with-fault sh (gone h) = unfold faultless in (tested h sh (checked_goal sh g))
    with-fault sh (moved h k n) = unfold faultless in (later h k n)

    by : (o : Outcome Sheet) → VerdictMoved (earlier.check_goal_from single_pass g (earlier.checked_from single_pass false o)) (check_goal_from g (checked_from false o))
    by (refused r) = unfold earlier.checked_from in unfold checked_from in stays
    by (accepted sh) = unfold earlier.checked_from in unfold checked_from in (with-fault sh (sheet-moved false sh))

-- ---- what it leaves alone

accepted-stays : {v w : Verdict} → VerdictMoved v w → (n m : ℕ) → v ≡ Accepted n m → w ≡ Accepted n m
accepted-stays stays n m e = e
accepted-stays (now_accepted h) n m e = absurd (let z : ◌≡◌ {A = ℕ} 0 1 = cc in omega arith)
accepted-stays (later h k b) n m e = absurd (let z : ◌≡◌ {A = ℕ} 0 1 = cc in omega arith)
accepted-stays (goal_tested h) n m e = absurd (let z : ◌≡◌ {A = ℕ} 0 1 = cc in omega arith)

other-stays : {v w : Verdict} → VerdictMoved v w → (text : Text) (r : Refusal) → v ≡ Refused text r → ¬ ByMarks r → w ≡ Refused text r
other-stays stays text r e n = e
other-stays (now_accepted {r = q} h) text r e n = absurd (n (subst ByMarks (same_refusal e) h))
other-stays (later {r = q} h k b) text r e n = absurd (n (subst ByMarks (same_refusal e) h))
other-stays (goal_tested {r = q} h) text r e n = absurd (n (subst ByMarks (same_refusal e) h))

-- "Sheets and goals accepted so far are accepted still."
pub accepted-still : (s : List ℕ) (n m : ℕ) → earlier.check_verdict single_pass s ≡ Accepted n m → check_verdict s ≡ Accepted n m
accepted-still s n m e = accepted-stays (verdict-moved s) n m e

pub goal-accepted-still : (s g : List ℕ) (n m : ℕ) → earlier.check_goal_verdict single_pass s g ≡ Accepted n m → check_goal_verdict s g ≡ Accepted n m
goal-accepted-still s g n m e = accepted-stays (goal-verdict-moved s g) n m e

-- "no other number moves": a refusal that is not 9 or 10 is the same, with all that it says
pub others-stay : (s : List ℕ) (text : Text) (r : Refusal) → earlier.check_verdict single_pass s ≡ Refused text r → ¬ ByMarks r → check_verdict s ≡ Refused text r
others-stay s text r e n = other-stays (verdict-moved s) text r e n

pub goal-others-stay : (s g : List ℕ) (text : Text) (r : Refusal) → earlier.check_goal_verdict single_pass s g ≡ Refused text r → ¬ ByMarks r → check_goal_verdict s g ≡ Refused text r
goal-others-stay s g text r e n = other-stays (goal-verdict-moved s g) text r e n
