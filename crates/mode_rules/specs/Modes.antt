-- What is known ground, and the refusals 8 to 10 (RULES, "What is known ground" and "The ten numbers"; REQUESTS (i), (ii) and (xiv)).
use Rattle.std.specs.Prelude.{ℕ, zero, suc, ◌+◌, Bool, true, false, not, ◌&&◌, ◌||◌, List, [], ◌∷◌, length, get_or, set, replicate}
use Rattle.std.proofs.Math.Option.{Option, none, some}
use Rattle.syntax.specs.Terms.{Term, Terms, variable, compound, nil, cons, arity, Atom, Literal, Body, call, equation, truth, falsity, either, done, also}
use Rattle.syntax.specs.Terms.{literals_in, literals_of, Mark}
use Rattle.syntax.specs.Terms.{input, output, free, Declaration, Clause, Sheet, Goal, same_predicate}
use Rattle.syntax.specs.Limits.{variables}
use Rattle.syntax.specs.declared.Refusal.{Refusal}
use Rattle.syntax.specs.declared.Refusal.TheVariants.{Undeclared, OpenInput, OpenOutput}
use Rattle.mode_rules.specs.Written.{unwritten}

-- "Within a clause each variable is known ground or unknown": a flag for each variable number, of which a clause has at most `variables`.
abbrev pub Known : Type 0
Known = List Bool

-- the variable of that number is known ground
abbrev pub knows : Known → ℕ → Bool
knows τ i = get_or τ i false

-- "in a goal none is"
unfoldable pub none_ground : Known
none_ground = replicate variables false

-- "every variable of the clause is ground"
unfoldable pub everything : Known
everything = replicate variables true

-- "A term is ground when all its variables are."
unfoldable mutual
  pub is_ground : Known → Term → Bool
  is_ground τ (variable i at) = knows τ i
  is_ground τ (compound at f ts) = are_ground τ ts

  pub are_ground : Known → Terms → Bool
  are_ground τ nil = true
  are_ground τ (cons t ts) = is_ground τ t && are_ground τ ts

-- a variable that stands at a byte, by whether it is known ground
unfoldable pub open_unless : Bool → ℕ → Option ℕ
open_unless true at = none
open_unless false at = some at

-- "The ground test now gives the byte of the first variable in the argument that is not known ground, where it gave yes or no": none exactly
-- where the term is ground (a theorem). It is the variable's place in this term, not its first place in the clause.
unfoldable mutual
  pub open_byte : Known → Term → Option ℕ
  open_byte τ (variable i at) = open_unless (knows τ i) at
  open_byte τ (compound at f ts) = open_byte_of τ ts

  pub open_byte_of : Known → Terms → Option ℕ
  open_byte_of τ nil = none
  open_byte_of τ (cons t ts) = elim (open_byte τ t) [ none ↦ open_byte_of τ ts | some b ↦ some b ]

-- all variables of a term "become ground"
unfoldable mutual
  pub ground_term : Term → Known → Known
  ground_term (variable i at) τ = set τ i true
  ground_term (compound at f ts) τ = ground_terms ts τ

  pub ground_terms : Terms → Known → Known
  ground_terms nil τ = τ
  ground_terms (cons t ts) τ = ground_terms ts (ground_term t τ)

-- ---- equations

-- "if one side is ground, all variables of both become ground, else nothing changes"
unfoldable pub ground_both : Bool → Term → Term → Known → Known
ground_both true t u τ = ground_term u (ground_term t τ)
ground_both false t u τ = τ

-- "Equation with a variable on either side"
unfoldable pub equate_variable : Term → Term → Known → Known
equate_variable t u τ = ground_both (is_ground τ t || is_ground τ u) t u τ

-- "Equation of two other terms: same name (or numeral) and number of arguments, then the argument pairs …; otherwise every variable of the
-- clause becomes ground."
unfoldable pub equate_same : Bool → (Known → Known) → Known → Known
equate_same true pairs τ = pairs τ
equate_same false pairs τ = everything

-- One pass over an equation; "the argument pairs left to right, each beginning from what the last one left".
unfoldable mutual
  pub equate : Term → Term → Known → Known
  equate (variable i at) u τ = equate_variable (variable i at) u τ
  equate (compound at f ts) (variable j bt) τ = equate_variable (compound at f ts) (variable j bt) τ
  equate (compound at f ts) (compound bt g us) τ = equate_same (same_predicate f (arity ts) g (arity us)) (λ σ. equate_all ts us σ) τ

  pub equate_all : Terms → Terms → Known → Known
  equate_all nil nil τ = τ
  equate_all nil (cons u us) τ = everything
  equate_all (cons t ts) nil τ = everything
  equate_all (cons t ts) (cons u us) τ = equate_all ts us (equate t u τ)

-- from the first to the second some variable became ground
unfoldable pub further : Known → Known → Bool
further [] σ = false
further (b ∷ τ) [] = false
further (b ∷ τ) (c ∷ σ) = (not b && c) || further τ σ

-- after a pass that made σ of τ: the end where it "makes nothing further ground", else `again` from what it left
unfoldable pub go_over : Known → (Known → Known) → Known → Known
go_over τ again σ = elim (further τ σ) [ true ↦ again σ | false ↦ σ ]

-- so many passes at most
unfoldable pub passes : ℕ → Term → Term → Known → Known
passes zero t u τ = τ
passes (suc k) t u τ = go_over τ (λ σ. passes k t u σ) (equate t u τ)

-- The effect of an equation; REQUESTS (xiv): "An equation is now gone over again until a pass makes nothing further ground." Each pass but the
-- last makes a variable ground, so the bound is never met: one pass more changes nothing (a theorem).
unfoldable pub settle : Term → Term → Known → Known
settle t u τ = passes variables t u τ

-- ---- marks

-- the marks of an atom's predicate, "a name together with its number of arguments", from its first declaration
unfoldable pub marks_of : List Declaration → Atom → Option (List Mark)
marks_of [] a = none
marks_of (d ∷ ds) a =
    elim (same_predicate d.name (length d.marks) a.name (arity a.args)) [ true ↦ some d.marks | false ↦ marks_of ds a ]

-- no marks where there is no declaration
unfoldable pub or_no_marks : Option (List Mark) → List Mark
or_no_marks none = []
or_no_marks (some ms) = ms

-- the marks by which a call or head is judged, where refusal 8 is tested elsewhere
unfoldable pub marks_for : List Declaration → Atom → List Mark
marks_for ds a = or_no_marks (marks_of ds a)

-- the marks + - *
unfoldable pub same_mark : Mark → Mark → Bool
same_mark input input = true
same_mark input output = false
same_mark input free = false
same_mark output input = false
same_mark output output = true
same_mark output free = false
same_mark free input = false
same_mark free output = false
same_mark free free = true

-- arguments as a list
abbrev pub list_of : Terms → List Term
list_of nil = []
list_of (cons t ts) = t ∷ list_of ts

-- an argument that is not ground: its number, and the byte of the first variable in it that is not known ground
pub record OpenArgument : Type 0 where
  pub argument : ℕ
  pub byte : ℕ

-- an argument without the mark is not looked at
unfoldable pub if_marked : Bool → Option ℕ → Option ℕ
if_marked true byte = byte
if_marked false byte = none

-- the first argument that has the mark and is not ground; the numbers count from n
unfoldable pub first_open : Mark → Known → List Mark → List Term → ℕ → Option OpenArgument
first_open m τ [] ts n = none
first_open m τ (k ∷ ks) [] n = none
first_open m τ (k ∷ ks) (t ∷ ts) n =
    elim (if_marked (same_mark m k) (open_byte τ t)) [ none ↦ first_open m τ ks ts (suc n) | some b ↦ some (record { argument = n; byte = b }) ]

-- an argument x marked k: it has the mark m and fails the test
unfoldable pub faulty : {A : Type 0} → Mark → (A → Bool) → Mark → A → Bool
faulty m test k x = same_mark m k && not (test x)

-- one is added where the test says so
unfoldable pub one_more : Bool → ℕ → ℕ
one_more true n = suc n
one_more false n = n

-- how many arguments have the mark and fail the test
unfoldable pub count_faulty : {A : Type 0} → Mark → (A → Bool) → List Mark → List A → ℕ
count_faulty m test [] xs = 0
count_faulty m test (k ∷ ks) [] = 0
count_faulty m test (k ∷ ks) (x ∷ xs) = one_more (faulty m test k x) (count_faulty m test ks xs)

-- one argument, which has the mark or not
unfoldable pub ground_if : Bool → Term → Known → Known
ground_if true t τ = ground_term t τ
ground_if false t τ = τ

-- the variables of the arguments with the mark become ground
unfoldable pub ground_marked : Mark → List Mark → List Term → Known → Known
ground_marked m [] ts τ = τ
ground_marked m (k ∷ ks) [] τ = τ
ground_marked m (k ∷ ks) (t ∷ ts) τ = ground_marked m ks ts (ground_if (same_mark m k) t τ)

-- ---- refusal 8

-- atom a, literal l of clause c, by what `marks_of` finds
unfoldable pub undeclared : ℕ → ℕ → Atom → Option (List Mark) → Option Refusal
undeclared c l a none = some (Undeclared c l a.at (length a.name))
undeclared c l a (some ms) = none

-- "A head or call has a predicate with no declaration; clause and literal."
unfoldable pub undeclared_atom : List Declaration → ℕ → ℕ → Atom → Option Refusal
undeclared_atom ds c l a = undeclared c l a (marks_of ds a)

-- what the first of two tests finds, or else the second
abbrev pub first_of : Option Refusal → Option Refusal → Option Refusal
first_of o p = elim o [ none ↦ p | some r ↦ some r ]

-- "left to right": the literals of clause c from number l on; all of them count, those of a bracket too, its left side first. An equation, `true` and
-- `fail` have no predicate.
unfoldable mutual
  pub undeclared_literal : List Declaration → ℕ → ℕ → Literal → Option Refusal
  undeclared_literal ds c l (call a) = undeclared_atom ds c l a
  undeclared_literal ds c l (equation t u) = none
  undeclared_literal ds c l truth = none
  undeclared_literal ds c l falsity = none
  undeclared_literal ds c l (either y z) = first_of (undeclared_body ds c l y) (undeclared_body ds c (literals_of y + l) z)

  pub undeclared_body : List Declaration → ℕ → ℕ → Body → Option Refusal
  undeclared_body ds c l done = none
  undeclared_body ds c l (also lit b) = first_of (undeclared_literal ds c l lit) (undeclared_body ds c (literals_in lit + l) b)

-- "head before body"; "literal 0 is the head"
unfoldable pub undeclared_clause : List Declaration → ℕ → Clause → Option Refusal
undeclared_clause ds c cl = elim (undeclared_atom ds c 0 cl.head) [ none ↦ undeclared_body ds c 1 cl.body | some r ↦ some r ]

-- clauses from number c on
unfoldable pub undeclared_clauses : List Declaration → ℕ → List Clause → Option Refusal
undeclared_clauses ds c [] = none
undeclared_clauses ds c (cl ∷ cls) = elim (undeclared_clause ds c cl) [ none ↦ undeclared_clauses ds (suc c) cls | some r ↦ some r ]

-- "8 over the whole sheet"; "Clauses count from 1"
unfoldable pub undeclared_in_sheet : Sheet → Option Refusal
undeclared_in_sheet sh = undeclared_clauses sh.declarations 1 sh.clauses

-- "a goal is clause 0"
unfoldable pub undeclared_in_goal : Sheet → Goal → Option Refusal
undeclared_in_goal sh g = undeclared_body sh.declarations 0 1 g.body

-- ---- refusals 9 and 10

-- 9: "A call has a + argument not known ground; clause, literal, argument."; "refusals 9 and 10 carry it in their byte place, which was 0"
unfoldable pub open_input : ℕ → ℕ → Atom → Option OpenArgument → Option Refusal
open_input c l a none = none
open_input c l a (some o) = some (OpenInput o.byte c l o.argument a.at (length a.name))

-- 10: "A head's - argument is not known ground after the body; clause, literal 0, argument."
unfoldable pub open_output : ℕ → Atom → Option OpenArgument → Option Refusal
open_output c a none = none
open_output c a (some o) = some (OpenOutput o.byte c o.argument a.at (length a.name))

-- what a walk along a body gives: its first fault, or what is known ground after it
pub data Walk : Type 0 where
  faulted : Refusal → Walk
  known : Known → Walk

-- a fault, or what is known ground where there is none
unfoldable pub unless_fault : Option Refusal → Known → Walk
unless_fault none σ = known σ
unless_fault (some r) σ = faulted r

-- after one walk: its fault, or `rest` walks on from what it leaves
unfoldable pub walk_on : Walk → (Known → Walk) → Walk
walk_on (faulted r) rest = faulted r
walk_on (known σ) rest = rest σ

-- "known ground is what both sides leave ground"
unfoldable pub in_both : Known → Known → Known
in_both [] ρ = []
in_both (b ∷ σ) [] = []
in_both (b ∷ σ) (c ∷ ρ) = (b && c) ∷ in_both σ ρ

-- "Call: each + argument must be ground; then the variables of its - arguments become ground. * arguments give and ask nothing."; literal l of clause c,
-- before which τ is known ground
unfoldable pub call_walk : List Declaration → ℕ → ℕ → Known → Atom → Walk
call_walk ds c l τ a =
    unless_fault (open_input c l a (first_open input τ (marks_for ds a) (list_of a.args) 1)) (ground_marked output (marks_for ds a) (list_of a.args) τ)

-- The literals of clause c from number l on, before which τ is known ground. "`true` changes nothing. After `fail` every variable of the clause is
-- ground." Of a bracket, "each side begins from what was known ground before the bracket".
unfoldable mutual
  pub literal_walk : List Declaration → ℕ → ℕ → Known → Literal → Walk
  literal_walk ds c l τ (call a) = call_walk ds c l τ a
  literal_walk ds c l τ (equation t u) = known (settle t u τ)
  literal_walk ds c l τ truth = known τ
  literal_walk ds c l τ falsity = known everything
  literal_walk ds c l τ (either y z) =
      walk_on (body_fault ds c l τ y) (λ σ. walk_on (body_fault ds c (literals_of y + l) τ z) (λ ρ. known (in_both σ ρ)))

  pub body_fault : List Declaration → ℕ → ℕ → Known → Body → Walk
  body_fault ds c l τ done = known τ
  body_fault ds c l τ (also lit b) = walk_on (literal_walk ds c l τ lit) (λ σ. body_fault ds c (literals_in lit + l) σ b)

-- "At the start exactly the variables in the head's + arguments are ground"
unfoldable pub start_known : List Declaration → Atom → Known
start_known ds h = ground_marked input (marks_for ds h) (list_of h.args) none_ground

-- "The head's outputs are looked at after the body."
unfoldable pub head_fault : List Declaration → ℕ → Atom → Walk → Option Refusal
head_fault ds c h (faulted r) = some r
head_fault ds c h (known σ) = open_output c h (first_open output σ (marks_for ds h) (list_of h.args) 1)

-- "each clause in turn is taken through 9 along its body and then 10"
unfoldable pub clause_fault : List Declaration → ℕ → Clause → Option Refusal
clause_fault ds c cl = head_fault ds c cl.head (body_fault ds c 1 (start_known ds cl.head) cl.body)

-- "the first fault, and in it the lowest argument, is the answer"; clauses from number c on
unfoldable pub clauses_fault : List Declaration → ℕ → List Clause → Option Refusal
clauses_fault ds c [] = none
clauses_fault ds c (cl ∷ cls) = elim (clause_fault ds c cl) [ none ↦ clauses_fault ds (suc c) cls | some r ↦ some r ]

-- "then 8 over the whole sheet …. Then each clause in turn"; REQUESTS (x): "16, over the whole sheet, between 8 and 9", unless the sheet is
-- marked as stored earlier
unfoldable pub sheet_fault : Bool → Sheet → Option Refusal
sheet_fault stored sh = first_of (undeclared_in_sheet sh) (first_of (unwritten stored sh) (clauses_fault sh.declarations 1 sh.clauses))

-- a goal has no 10
unfoldable pub walk_fault : Walk → Option Refusal
walk_fault (faulted r) = some r
walk_fault (known σ) = none

-- "the goal for … 8, 9", from nothing ground, by the sheet's declarations
unfoldable pub goal_fault : Sheet → Goal → Option Refusal
goal_fault sh g = elim (undeclared_in_goal sh g) [ none ↦ walk_fault (body_fault sh.declarations 0 1 none_ground g.body) | some r ↦ some r ]
