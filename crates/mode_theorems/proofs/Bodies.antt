-- The judgment about literals, bodies and clauses, and the functions that decide it.
use Prim.Native.Nat.{ℕ, zero, suc, ◌+◌}
use mathlib.Core.Path.{◌≡◌, refl, sym, ap, subst, ◌∙◌}
use mathlib.Core.Bool.{Bool, true, false, ◌&&◌, and-false}
use mathlib.Core.List.{List, [], ◌∷◌}
use mathlib.Core.Option.{Option, none, some}
use native.Mathlib.Omega.{arith}
use lib.ListN.{length, length-replicate}
use Rattle.syntax.specs.Terms.{Atom, Literal, Body, call, equation, truth, falsity, either, done, also, literals_in, literals_of, Mark, input, output, Declaration, Clause, arity}
use Rattle.syntax.specs.Limits.{variables}
use Rattle.syntax.specs.declared.Refusal.{Refusal}
use Rattle.mode_rules.specs.Modes.{Known, knows, none_ground, everything, settle, marks_of, or_no_marks, marks_for, list_of, ground_marked, OpenArgument, first_open, undeclared, undeclared_atom, first_of, undeclared_literal, undeclared_body, undeclared_clause, undeclared_clauses}
use Rattle.mode_rules.specs.Modes.{open_input, open_output, Walk, faulted, known, unless_fault, walk_on, in_both, call_walk, literal_walk, body_fault, start_known, head_fault, clause_fault, clauses_fault}
use Rattle.mode_rules.specs.Judgment.{MarkedGround, MarkedGrounding, DeclaredMarks, Moded, BodyModed, atom, equality, truth_unchanged, falsehood, disjunction, no_more, conjunction, ClauseModed, clause, ClausesModed, no_clauses, each_clause}
use Rattle.mode_rules.proofs.Growth.{Grown, stays, grown-everything, grown-on, marked-grown}
use Rattle.mode_rules.proofs.Passes.{settle-grown, settling-derived, settling-unique}
use Rattle.mode_theorems.proofs.Marks.{marked-holds, marked-derived, markedly-unique, markedly-derived, declared-holds, declared-derived, declared-length}

-- ---- the first of two faults

pub first-none : (o x : Option Refusal) → first_of o x ≡ none → o ≡ none
first-none none x e = refl
first-none (some r) x e = e

pub second_none : (o x : Option Refusal) → first_of o x ≡ none → x ≡ none
second_none none x e = e
second_none (some r) x e = absurd (let z : ◌≡◌ {A = ℕ} 0 1 = cc in omega arith)

pub both-none : (o x : Option Refusal) → o ≡ none → x ≡ none → first_of o x ≡ none
both-none o x p q = rw (p, q)

-- ---- literals

marks-for : (ds : List Declaration) (a : Atom) (ms : List Mark) → marks_of ds a ≡ some ms → marks_for ds a ≡ ms
unfolding marks_for or_no_marks
marks-for ds a ms e = rw e

no-open : (c n : ℕ) (a : Atom) (o : Option OpenArgument) → open_input c n a o ≡ none → o ≡ none
unfolding open_input
no-open c n a none e = refl
no-open c n a (some k) e = absurd (let z : ◌≡◌ {A = ℕ} 0 1 = cc in omega arith)

no_output : (c : ℕ) (a : Atom) (o : Option OpenArgument) → open_output c a o ≡ none → o ≡ none
unfolding open_output
no_output c a none e = refl
no_output c a (some k) e = absurd (let z : ◌≡◌ {A = ℕ} 0 1 = cc in omega arith)

atom-declared : {ds : List Declaration} {a : Atom} {ms : List Mark} → DeclaredMarks ds a ms → (c n : ℕ) → undeclared_atom ds c n a ≡ none
unfolding undeclared_atom undeclared
atom-declared d c n = rw (declared-holds d)

-- the marks of an atom that has no fault 8
atom-marks : (ds : List Declaration) (c n : ℕ) (a : Atom) → undeclared_atom ds c n a ≡ none → DeclaredMarks ds a (marks_for ds a)
unfolding undeclared_atom undeclared
atom-marks ds c n a e = go (marks_of ds a) refl e
  where
    go : (o : Option (List Mark)) → marks_of ds a ≡ o → undeclared c n a o ≡ none → DeclaredMarks ds a (marks_for ds a)
    go none p h = absurd (let z : ◌≡◌ {A = ℕ} 0 1 = cc in omega arith)
    go (some ms) p h = declared-derived ds a (marks_for ds a) (p ∙ ap some (sym (marks-for ds a ms p)))

-- ---- what both sides leave

pub both_wide : (σ ρ : Known) → length σ ≡ length ρ → length (in_both σ ρ) ≡ length σ
unfolding in_both
both_wide [] ρ e = refl
both_wide (b ∷ σ) [] e = absurd (omega arith)
both_wide (b ∷ σ) (c ∷ ρ) e = ap suc (both_wide σ ρ (omega arith))

pub both-knows : (σ ρ : Known) (i : ℕ) → knows (in_both σ ρ) i ≡ (knows σ i && knows ρ i)
unfolding in_both
both-knows [] ρ i = refl
both-knows (b ∷ σ) [] i = sym (and-false (knows (b ∷ σ) i))
both-knows (b ∷ σ) (c ∷ ρ) zero = refl
both-knows (b ∷ σ) (c ∷ ρ) (suc i) = both-knows σ ρ i

pub both_true : (a b : Bool) → a ≡ true → b ≡ true → (a && b) ≡ true
both_true a b p q = rw (p, q)

in-both-grown : {τ σ ρ : Known} → Grown τ σ → Grown τ ρ → Grown τ (in_both σ ρ)
in-both-grown {τ} {σ} {ρ} g h =
    record {
      wide = both_wide σ ρ (g.wide ∙ sym h.wide) ∙ g.wide;
      keeps = λ i e. both-knows σ ρ i ∙ both_true (knows σ i) (knows ρ i) (g.keeps i e) (h.keeps i e);
    }

-- ---- literals and bodies

mutual
  unfolding undeclared_literal

  pub literal-declared : (l : Literal) {ds : List Declaration} {τ σ : Known} → Moded ds τ l σ → (c n : ℕ) → undeclared_literal ds c n l ≡ none
  literal-declared (call a) (atom d i o) c n = atom-declared d c n
  literal-declared (equation t u) (equality e) c n = refl
  literal-declared truth truth_unchanged c n = refl
  literal-declared falsity falsehood c n = refl
  literal-declared (either y z) {ds} (disjunction p q) c n =
      both-none (undeclared_body ds c n y) (undeclared_body ds c (literals_of y + n) z) (body-declared y p c n) (body-declared z q c (literals_of y + n))

  pub body-declared : (b : Body) {ds : List Declaration} {τ σ : Known} → BodyModed ds τ b σ → (c n : ℕ) → undeclared_body ds c n b ≡ none
  body-declared done no_more c n = refl
  body-declared (also l b) {ds} (conjunction m r) c n =
      both-none (undeclared_literal ds c n l) (undeclared_body ds c (literals_in l + n) b) (literal-declared l m c n) (body-declared b r c (literals_in l + n))

-- From a flag for each variable, τ ⊢ G / σ leaves one for each, and only adds: "σ preserves all g/x in τ".
mutual
  literal-grown : (l : Literal) {ds : List Declaration} {τ σ : Known} → Moded ds τ l σ → length τ ≡ variables → Grown τ σ
  literal-grown (call a) {τ = τ} (atom {ms = ms} d i o) w =
      subst (λ x. Grown τ x) (sym (markedly-unique o)) (marked-grown output ms (list_of a.args) τ w)
  literal-grown (equation t u) {τ = τ} (equality e) w = subst (λ x. Grown τ x) (sym (settling-unique e w)) (settle-grown t u τ w)
  literal-grown truth truth_unchanged w = stays w
  literal-grown falsity falsehood w = grown-everything w
  literal-grown (either y z) (disjunction p q) w = in-both-grown (body-grown y p w) (body-grown z q w)

  pub body-grown : (b : Body) {ds : List Declaration} {τ σ : Known} → BodyModed ds τ b σ → length τ ≡ variables → Grown τ σ
  body-grown done no_more w = stays w
  body-grown (also l b) (conjunction m r) w = let g : Grown _ _ = literal-grown l m w in grown-on g (body-grown b r g.wide)

call-holds : {ds : List Declaration} {τ σ : Known} {a : Atom} {ms : List Mark} → DeclaredMarks ds a ms → MarkedGround input τ ms a.args
    → MarkedGrounding output τ ms a.args σ → (c n : ℕ) → call_walk ds c n τ a ≡ known σ
unfolding call_walk open_input unless_fault
call-holds {ds} {a = a} {ms = ms} d i o c n = rw (marks-for ds a ms (declared-holds d), marked-holds i 1, ← markedly-unique o)

mutual
  unfolding literal_walk walk_on

  literal-holds : (l : Literal) {ds : List Declaration} {τ σ : Known} → Moded ds τ l σ → length τ ≡ variables → (c n : ℕ) → literal_walk ds c n τ l ≡ known σ
  literal-holds (call a) (atom d i o) w c n = call-holds d i o c n
  literal-holds (equation t u) (equality e) w c n = ap known (sym (settling-unique e w))
  literal-holds truth truth_unchanged w c n = refl
  literal-holds falsity falsehood w c n = refl
  literal-holds (either y z) (disjunction p q) w c n = rw (body-holds y p w c n, body-holds z q w c (literals_of y + n))

  pub body-holds : (b : Body) {ds : List Declaration} {τ σ : Known} → BodyModed ds τ b σ → length τ ≡ variables → (c n : ℕ) → body_fault ds c n τ b ≡ known σ
  body-holds done no_more w c n = refl
  body-holds (also l b) (conjunction m r) w c n = rw (literal-holds l m w c n) (body-holds b r (literal-grown l m w).wide c (literals_in l + n))

-- a walk that goes through goes through its first part, and on from what that leaves
record Through (w : Walk) (rest : Known → Walk) (σ : Known) : Type 0 where
  middle : Known
  before : w ≡ known middle
  behind : rest middle ≡ known σ

walk_through : (w : Walk) (rest : Known → Walk) (σ : Known) → walk_on w rest ≡ known σ → Through w rest σ
unfolding walk_on
walk_through (faulted r) rest σ e = absurd (let z : ◌≡◌ {A = ℕ} 0 1 = cc in omega arith)
walk_through (known ρ) rest σ e = record { middle = ρ; before = refl; behind = e }

known_same : (τ σ : Known) → known τ ≡ known σ → τ ≡ σ
known_same τ σ e = cc

unless-none : (o : Option Refusal) (τ σ : Known) → unless_fault o τ ≡ known σ → o ≡ none
unfolding unless_fault
unless-none none τ σ e = refl
unless-none (some r) τ σ e = absurd (let z : ◌≡◌ {A = ℕ} 0 1 = cc in omega arith)

unless-known : (o : Option Refusal) (τ σ : Known) → unless_fault o τ ≡ known σ → τ ≡ σ
unfolding unless_fault
unless-known none τ σ e = known_same τ σ e
unless-known (some r) τ σ e = absurd (let z : ◌≡◌ {A = ℕ} 0 1 = cc in omega arith)

call-derived : (ds : List Declaration) (c n : ℕ) (a : Atom) (τ σ : Known) → undeclared_atom ds c n a ≡ none
    → call_walk ds c n τ a ≡ known σ → Moded ds τ (call a) σ
unfolding call_walk
call-derived ds c n a τ σ u e =
    let d : DeclaredMarks ds a (marks_for ds a) = atom-marks ds c n a u in
    let l : length (marks_for ds a) ≡ arity a.args = declared-length d in
    let fault : Option Refusal = open_input c n a (first_open input τ (marks_for ds a) (list_of a.args) 1) in
    let left : Known = ground_marked output (marks_for ds a) (list_of a.args) τ in
    subst (λ (ρ : Known). Moded ds τ (call a) ρ) (unless-known fault left σ e)
    (atom d (marked-derived input τ (marks_for ds a) a.args 1 l
    (no-open c n a (first_open input τ (marks_for ds a) (list_of a.args) 1) (unless-none fault left σ e)))
    (markedly-derived output τ (marks_for ds a) a.args l))

mutual
  unfolding undeclared_literal literal_walk

  literal-derived : (ds : List Declaration) (c : ℕ) (l : Literal) (n : ℕ) (τ σ : Known)
      → length τ ≡ variables
      → undeclared_literal ds c n l ≡ none
      → literal_walk ds c n τ l ≡ known σ
      → Moded ds τ l σ
  literal-derived ds c (call a) n τ σ w u e = call-derived ds c n a τ σ u e
  literal-derived ds c (equation t u) n τ σ w p e =
      subst (λ (ρ : Known). Moded ds τ (equation t u) ρ) (known_same (settle t u τ) σ e) (equality (settling-derived t u τ w))
  literal-derived ds c truth n τ σ w p e = subst (λ (ρ : Known). Moded ds τ truth ρ) (known_same τ σ e) truth_unchanged
  literal-derived ds c falsity n τ σ w p e = subst (λ (ρ : Known). Moded ds τ falsity ρ) (known_same everything σ e) falsehood
  literal-derived ds c (either y z) n τ σ w u e =
      let l : ℕ = literals_of y + n in
      let p : Through _ _ σ = walk_through (body_fault ds c n τ y) (λ ρ. walk_on (body_fault ds c l τ z) (λ π. known (in_both ρ π))) σ e in
      let q : Through _ _ σ = walk_through (body_fault ds c l τ z) (λ π. known (in_both p.middle π)) σ p.behind in
      subst (λ (ρ : Known). Moded ds τ (either y z) ρ) (known_same (in_both p.middle q.middle) σ q.behind)
      (disjunction
      (body-derived ds c y n τ p.middle w (first-none (undeclared_body ds c n y) (undeclared_body ds c l z) u) p.before)
      (body-derived ds c z l τ q.middle w (second_none (undeclared_body ds c n y) (undeclared_body ds c l z) u) q.before))

  pub body-derived : (ds : List Declaration) (c : ℕ) (b : Body) (n : ℕ) (τ σ : Known)
      → length τ ≡ variables
      → undeclared_body ds c n b ≡ none
      → body_fault ds c n τ b ≡ known σ
      → BodyModed ds τ b σ
  body-derived ds c done n τ σ w u e = subst (λ ρ. BodyModed ds τ done ρ) (known_same τ σ e) no_more
  body-derived ds c (also l b) n τ σ w u e =
      let k : ℕ = literals_in l + n in
      let p : Through _ _ σ = walk_through (literal_walk ds c n τ l) (λ ρ. body_fault ds c k ρ b) σ e in
      let m : Moded ds τ l p.middle =
      literal-derived ds c l n τ p.middle w (first-none (undeclared_literal ds c n l) (undeclared_body ds c k b) u) p.before in
      conjunction m
      (body-derived ds c b k p.middle σ (literal-grown l m w).wide (second_none (undeclared_literal ds c n l) (undeclared_body ds c k b) u) p.behind)

-- at most one result
pub body-unique : {ds : List Declaration} {τ σ ρ : Known} {b : Body} → BodyModed ds τ b σ → BodyModed ds τ b ρ → length τ ≡ variables → σ ≡ ρ
body-unique {σ = σ} {ρ = ρ} {b = b} m n w = known_same σ ρ (sym (body-holds b m w 0 0) ∙ body-holds b n w 0 0)

-- ---- clauses

pub nothing-wide : length none_ground ≡ variables
unfolding none_ground
nothing-wide = length-replicate variables false

pub start-wide : (ds : List Declaration) (h : Atom) → length (start_known ds h) ≡ variables
unfolding start_known
start-wide ds h = (marked-grown input (marks_for ds h) (list_of h.args) none_ground nothing-wide).wide

pub clause-declared : {ds : List Declaration} {cl : Clause} → ClauseModed ds cl → (c : ℕ) → undeclared_clause ds c cl ≡ none
unfolding undeclared_clause
clause-declared {ds} (clause {c = cl} d s b o) c =
    both-none (undeclared_atom ds c 0 cl.head) (undeclared_body ds c 1 cl.body) (atom-declared d c 0) (body-declared cl.body b c 1)

pub clause-holds : {ds : List Declaration} {cl : Clause} → ClauseModed ds cl → (c : ℕ) → clause_fault ds c cl ≡ none
unfolding clause_fault start_known head_fault open_output
clause-holds {ds} (clause {c = cl} {ms = ms} {τ = τ} d s b o) c =
    let g : Grown none_ground (ground_marked input ms (list_of cl.head.args) none_ground) = marked-grown input ms (list_of cl.head.args) none_ground nothing-wide in
    let w : length τ ≡ variables = ap length (markedly-unique s) ∙ g.wide in
    rw (marks-for ds cl.head ms (declared-holds d), ← markedly-unique s, body-holds cl.body b w c 1)
    (rw (marks-for ds cl.head ms (declared-holds d), marked-holds o 1))

pub clause-derived : (ds : List Declaration) (c : ℕ) (cl : Clause) → undeclared_clause ds c cl ≡ none → clause_fault ds c cl ≡ none → ClauseModed ds cl
unfolding undeclared_clause clause_fault start_known head_fault
clause-derived ds c cl u f = go (body_fault ds c 1 (start_known ds cl.head) cl.body) refl f
  where
    d : DeclaredMarks ds cl.head (marks_for ds cl.head)
    d = atom-marks ds c 0 cl.head (first-none (undeclared_atom ds c 0 cl.head) (undeclared_body ds c 1 cl.body) u)

    go : (w : Walk) → body_fault ds c 1 (start_known ds cl.head) cl.body ≡ w → head_fault ds c cl.head w ≡ none → ClauseModed ds cl
    go (faulted r) p h = absurd (let z : ◌≡◌ {A = ℕ} 0 1 = cc in omega arith)
    go (known σ) p h =
        clause d (markedly-derived input none_ground (marks_for ds cl.head) cl.head.args (declared-length d))
        (body-derived ds c cl.body 1 (start_known ds cl.head) σ (start-wide ds cl.head) (second_none (undeclared_atom ds c 0 cl.head) (undeclared_body ds c 1 cl.body) u) p)
        (marked-derived output σ (marks_for ds cl.head) cl.head.args 1 (declared-length d)
        (no_output c cl.head (first_open output σ (marks_for ds cl.head) (list_of cl.head.args) 1) h))

pub clauses-declared : {ds : List Declaration} {cls : List Clause} → ClausesModed ds cls → (c : ℕ) → undeclared_clauses ds c cls ≡ none
unfolding undeclared_clauses
clauses-declared no_clauses c = refl
clauses-declared {ds} (each_clause {c = cl} {cs = cls} m r) c =
    both-none (undeclared_clause ds c cl) (undeclared_clauses ds (suc c) cls) (clause-declared m c) (clauses-declared r (suc c))

pub clauses-hold : {ds : List Declaration} {cls : List Clause} → ClausesModed ds cls → (c : ℕ) → clauses_fault ds c cls ≡ none
unfolding clauses_fault
clauses-hold no_clauses c = refl
clauses-hold {ds} (each_clause {c = cl} {cs = cls} m r) c =
    both-none (clause_fault ds c cl) (clauses_fault ds (suc c) cls) (clause-holds m c) (clauses-hold r (suc c))

pub clauses-derived : (ds : List Declaration) (cls : List Clause) (c : ℕ) → undeclared_clauses ds c cls ≡ none → clauses_fault ds c cls ≡ none → ClausesModed ds cls
unfolding undeclared_clauses clauses_fault
clauses-derived ds [] c u f = no_clauses
clauses-derived ds (cl ∷ cls) c u f =
    each_clause
    (clause-derived ds c cl (first-none (undeclared_clause ds c cl) (undeclared_clauses ds (suc c) cls) u) (first-none (clause_fault ds c cl) (clauses_fault ds (suc c) cls) f))
    (clauses-derived ds cls (suc c) (second_none (undeclared_clause ds c cl) (undeclared_clauses ds (suc c) cls) u) (second_none (clause_fault ds c cl) (clauses_fault ds (suc c) cls) f))
