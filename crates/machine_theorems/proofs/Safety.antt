-- The invariant by which no argument is left open, and that the modes give it.
--
-- An alternative is safe when each call that it shows to have succeeded has closed outputs, and its first literal is safe as a continuation: a
-- call's inputs are closed now, and whenever the bindings have grown so that its outputs are closed, the rest is safe; an equation: whenever the
-- two sides have become equal, the rest is safe; `true`: the rest is safe now; `fail`: nothing is asked; a bracket: each side is safe before the rest.
use Prim.Native.Nat.{ℕ, suc, ◌+◌, ◌≤◌}
use native.Mathlib.Omega.{arith}
use mathlib.Core.Path.{◌≡◌, refl, sym, subst}
use mathlib.Core.Bool.{Bool, true, false, not, ◌||◌}
use mathlib.Core.List.{List, [], ◌∷◌}
use mathlib.Core.Option.{Option, none, some}
use lib.Dec.{T, T_not, eqb, eqb_refl, eqb→eq}
use lib.ListN.{length}
use Rattle.syntax.specs.Terms.{Term, Atom, term_of, Literal, call, equation, truth, falsity, either, Body, done, also, literals_in, literals_of, Mark, input, output, Declaration, Clause, Sheet}
use Rattle.syntax.specs.declared.Refusal.{Refusal}
use Rattle.mode_rules.specs.Modes.{Known, none_ground, marks_for, list_of, OpenArgument, first_open, settle, ground_marked, open_input, open_output, Walk, faulted, known, unless_fault, walk_on, in_both, call_walk, literal_walk, body_fault, start_known, head_fault, clause_fault}
use Rattle.machine.specs.Substitution.{copied, Binding}
use Rattle.machine.specs.Machine.{Pending, Call, pending}
use Rattle.machine.specs.Counts.{is_within, is_left}
use Rattle.machine.proofs.Tests.{neither, nor, some-none}
use Rattle.machine_theorems.proofs.Terms.{Grows, grows-refl, grows-trans}
use Rattle.machine_theorems.proofs.Grounding.{Same, Sound, sound-grows, sound-nothing, sound-settle, sound-left, sound-right, Marked, marked-grows, marked-known, sound-marked, marked-across}

-- the arguments of an atom of copy c that have a mark are closed
abbrev pub ClosedArguments : Sheet → Mark → List Binding → ℕ → Atom → Type 0
ClosedArguments sh m b c a = Marked m b c (marks_for sh.declarations a) (list_of a.args)

arguments-grow : (sh : Sheet) (m : Mark) (c : ℕ) (a : Atom) {b b1 : List Binding} → Grows b b1 → ClosedArguments sh m b c a → ClosedArguments sh m b1 c a
arguments-grow sh m c a g h = marked-grows m c (marks_for sh.declarations a) (list_of a.args) g h

-- Of some calls, the oldest of those in `all`: each that the literals show to have succeeded has closed outputs.
unfoldable pub Shown : Sheet → List Call → List Pending → List Binding → List Call → Type 0
Shown sh all lits b [] = Unit {0}
Shown sh all lits b (c ∷ cs) =
    (T (not (is_left all (suc (length cs)) lits)) → ClosedArguments sh output b c.copy c.atom) × Shown sh all lits b cs

-- A first literal of copy c before others is safe under bindings, and so is a side of a bracket; `rest` says when the others are.
unfoldable mutual
  pub First : Sheet → List Call → ℕ → Literal → List Pending → (List Binding → Type 0) → List Binding → Type 0
  First sh calls c (call a) ps rest b =
      ClosedArguments sh input b c a × ((b1 : List Binding) → Grows b b1 → ClosedArguments sh output b1 c a → rest b1)
  First sh calls c (equation t u) ps rest b = (b1 : List Binding) → Grows b b1 → Same b1 (copied c t) (copied c u) → rest b1
  First sh calls c truth ps rest b = rest b
  First sh calls c falsity ps rest b = Unit {0}
  First sh calls c (either y z) ps rest b = Side sh calls c y ps rest b × Side sh calls c z ps rest b

  pub Side : Sheet → List Call → ℕ → Body → List Pending → (List Binding → Type 0) → List Binding → Type 0
  Side sh calls c done ps rest b = rest b
  Side sh calls c (also l y) ps rest b =
      Shown sh calls (pending c (also l y) ps) b calls × First sh calls c l (pending c y ps) (λ b1. Side sh calls c y ps rest b1) b

unfoldable pub Safe : Sheet → List Call → List Pending → List Binding → Type 0
Safe sh calls [] b = Shown sh calls [] b calls
Safe sh calls (p ∷ ps) b = Shown sh calls (p ∷ ps) b calls × First sh calls p.copy p.literal ps (λ b1. Safe sh calls ps b1) b

pub safe-shown : (sh : Sheet) (calls : List Call) (lits : List Pending) (b : List Binding) → Safe sh calls lits b → Shown sh calls lits b calls
unfolding Safe
safe-shown sh calls [] b s = s
safe-shown sh calls (p ∷ ps) b s = s.0

-- the literals belong to copies up to n
unfoldable pub Bounded : ℕ → List Pending → Type 0
Bounded n [] = Unit {0}
Bounded n (p ∷ ps) = (p.copy ≤ n) × Bounded n ps

pub bounded-up : (n : ℕ) (lits : List Pending) → Bounded n lits → Bounded (suc n) lits
unfolding Bounded
bounded-up n [] h = tt
bounded-up n (p ∷ ps) h = (let k : p.copy ≤ n = h.0 in omega arith, bounded-up n ps h.1)

pub bounded-pending : (n c : ℕ) (body : Body) (rest : List Pending) → c ≤ n → Bounded n rest → Bounded n (pending c body rest)
unfolding Bounded pending
bounded-pending n c done rest l h = h
bounded-pending n c (also x body) rest l h = (l, bounded-pending n c body rest l h)

-- ---- a first literal with other calls, and what holds behind it weakened

-- under bindings and whatever they grow to
abbrev Carries : List Binding → (List Binding → Type 0) → (List Binding → Type 0) → Type 0
Carries b P R = (b1 : List Binding) → Grows b b1 → P b1 → R b1

-- `Fine` holds of the literals behind, and of a body's before them; with it what is shown with some calls is shown with others.
module _ (sh : Sheet) (calls calls1 : List Call) (c : ℕ) (Fine : List Pending → Type 0)
    (before : (y : Body) (ps : List Pending) → Fine ps → Fine (pending c y ps)) (b0 : List Binding)
    (shown : (lits : List Pending) → Fine lits → Carries b0 (λ b. Shown sh calls lits b calls) (λ b. Shown sh calls1 lits b calls1)) where
  mutual
    unfolding First

    first-over : (l : Literal) (ps : List Pending) → Fine ps → (b : List Binding) → Grows b0 b → (P R : List Binding → Type 0) → Carries b P R
        → First sh calls c l ps P b → First sh calls1 c l ps R b
    first-over (call a) ps q b g P R k f = (f.0, λ b1 h o. k b1 h (f.1 b1 h o))
    first-over (equation t u) ps q b g P R k f = λ b1 h e. k b1 h (f b1 h e)
    first-over truth ps q b g P R k f = k b (grows-refl b) f
    first-over falsity ps q b g P R k f = tt
    first-over (either y z) ps q b g P R k f = (side-over y ps q b g P R k f.0, side-over z ps q b g P R k f.1)

    side-over : (y : Body) (ps : List Pending) → Fine ps → (b : List Binding) → Grows b0 b → (P R : List Binding → Type 0) → Carries b P R
        → Side sh calls c y ps P b → Side sh calls1 c y ps R b
    side-over done ps q b g P R k f = k b (grows-refl b) f
    side-over (also l y) ps q b g P R k f = (
      shown (pending c (also l y) ps) (before (also l y) ps q) b g f.0,
      first-over l (pending c y ps) (before y ps q) b g (λ b1. Side sh calls c y ps P b1) (λ b1. Side sh calls1 c y ps R b1)
          (λ b1 h s. side-over y ps q b1 (grows-trans g h) P R (λ b2 i. k b2 (grows-trans h i)) s) f.1,
    )

-- a side that is safe before safe literals makes safe literals with them
pub side-safe : (sh : Sheet) (calls : List Call) (c : ℕ) (y : Body) (ps : List Pending) (b : List Binding)
    → Side sh calls c y ps (λ b1. Safe sh calls ps b1) b → Safe sh calls (pending c y ps) b
unfolding Side Safe pending
side-safe sh calls c done ps b s = s
side-safe sh calls c (also l y) ps b s = (
  s.0,
  first-over sh calls calls c (λ lits. Unit {0}) (λ x lits q. tt) b (λ lits q b1 g h. h) l (pending c y ps) tt b (grows-refl b)
      (λ b1. Side sh calls c y ps (λ b2. Safe sh calls ps b2) b1) (λ b1. Safe sh calls (pending c y ps) b1) (λ b1 g h. side-safe sh calls c y ps b1 h) s.1,
)

-- ---- what a new call changes: nothing for the old ones

eqb-smaller : (j n : ℕ) → j ≤ n → eqb j (suc n) ≡ false
eqb-smaller j n h = go (eqb j (suc n)) (λ t. eqb→eq j (suc n) t)
  where
    go : (x : Bool) → (T x → j ≡ suc n) → x ≡ false
    go true k = absurd (let e : j ≡ suc n = k tt in let w : ⊥ = omega arith in w)
    go false k = refl

within-old : (new : Call) (calls : List Call) (k j : ℕ) → j ≤ length calls → is_within (new ∷ calls) k j ≡ is_within calls k j
unfolding is_within
within-old new calls k j h = go (eqb j (suc (length calls))) (eqb-smaller j (length calls) h)
  where
    go : (x : Bool) → x ≡ false → ◌≡◌ {A = Bool} (elim x [ true ↦ eqb j k || is_within calls k new.copy | false ↦ is_within calls k j ]) (is_within calls k j)
    go true e = let z : ◌≡◌ {A = Bool} true false = e in cc
    go false e = refl

left-old : (new : Call) (calls : List Call) (k : ℕ) (lits : List Pending) → Bounded (length calls) lits → is_left (new ∷ calls) k lits ≡ is_left calls k lits
unfolding is_left Bounded
left-old new calls k [] h = refl
left-old new calls k (p ∷ ps) h = let r : is_left (new ∷ calls) k ps ≡ is_left calls k ps = left-old new calls k ps h.1 in
    let q : is_within (new ∷ calls) k p.copy ≡ is_within calls k p.copy = within-old new calls k p.copy h.0 in
    λ i. q i || r i

within_new : (new : Call) (calls : List Call) (k : ℕ) → is_within (new ∷ calls) k (suc (length calls)) ≡ (eqb (suc (length calls)) k || is_within calls k new.copy)
unfolding is_within
within_new new calls k = go (eqb (suc (length calls)) (suc (length calls))) (eqb_refl (suc (length calls)))
  where
    go : (x : Bool) → T x → ◌≡◌ {A = Bool} (elim x [ true ↦ eqb (suc (length calls)) k || is_within calls k new.copy | false ↦ is_within calls k (suc (length calls)) ]) (eqb (suc (length calls)) k || is_within calls k new.copy)
    go true t = refl
    go false t = absurd t

-- shown under other literals, calls and bindings
shown-keep : (sh : Sheet) (all all1 : List Call) (lits lits1 : List Pending) (b b1 : List Binding) → Grows b b1 → (cs : List Call)
    → ((k : ℕ) → k ≤ length cs → T (not (is_left all1 k lits1)) → T (not (is_left all k lits)))
    → Shown sh all lits b cs → Shown sh all1 lits1 b1 cs
unfolding Shown
shown-keep sh all all1 lits lits1 b b1 g [] h s = tt
shown-keep sh all all1 lits lits1 b b1 g (c ∷ cs) h s = (
  λ t. arguments-grow sh output c.copy c.atom g (s.0 (h (suc (length cs)) (omega arith) t)),
  shown-keep sh all all1 lits lits1 b b1 g cs (λ k l. h k (omega arith)) s.1,
)

-- ---- safe for some calls, safe with one more whose outputs are closed

module _ (sh : Sheet) (new : Call) (calls : List Call) where
  -- the outputs of the new call are closed
  abbrev Closing : List Binding → Type 0
  Closing b = ClosedArguments sh output b new.copy new.atom

  closing-later : {b b1 : List Binding} → Closing b → Grows b b1 → Closing b1
  closing-later o g = arguments-grow sh output new.copy new.atom g o

  lift-shown : (lits : List Pending) (b : List Binding) → Bounded (length calls) lits → Closing b → Shown sh calls lits b calls
      → Shown sh (new ∷ calls) lits b (new ∷ calls)
  unfolding Shown
  lift-shown lits b h o s = (
    λ t. o,
    shown-keep sh calls (new ∷ calls) lits lits b b (grows-refl b) calls (λ k l t. subst (λ (x : Bool). T (not x)) (left-old new calls k lits h) t) s,
  )

  lift-safe : (lits : List Pending) (b : List Binding) → Bounded (length calls) lits → Closing b → Safe sh calls lits b → Safe sh (new ∷ calls) lits b
  unfolding Safe Bounded
  lift-safe [] b h o s = lift-shown [] b h o s
  lift-safe (p ∷ ps) b h o s = (
    lift-shown (p ∷ ps) b h o s.0,
    first-over sh calls (new ∷ calls) p.copy (Bounded (length calls)) (λ y lits q. bounded-pending (length calls) p.copy y lits h.0 q)
        b (λ lits q b1 g t. lift-shown lits b1 q (closing-later o g) t) p.literal ps h.1 b (grows-refl b)
        (λ b1. Safe sh calls ps b1) (λ b1. Safe sh (new ∷ calls) ps b1) (λ b1 g t. lift-safe ps b1 h.1 (closing-later o g) t) s.1,
  )

-- ---- a body that the modes pass is safe before what comes after it

-- a walk ends without a fault, and what is then known passes a test
abbrev pub Ends : (Known → Type 0) → Walk → Type 0
Ends Q (faulted r) = ⊥
Ends Q (known σ) = Q σ

walked_on : (Q : Known → Type 0) (w : Walk) (rest : Known → Walk) → Ends Q (walk_on w rest) → Ends (λ (σ : Known). Ends Q (rest σ)) w
unfolding walk_on
walked_on Q (faulted r) rest e = e
walked_on Q (known σ) rest e = e

ends_some : (Q : Known → Type 0) (w : Walk) → Ends Q w → (σ : Known) × Q σ
ends_some Q (faulted r) e = absurd e
ends_some Q (known σ) e = (σ, e)

ends-unless : (Q : Known → Type 0) (o : Option Refusal) (σ : Known) → Ends Q (unless_fault o σ) → (o ≡ none) × Q σ
unfolding unless_fault
ends-unless Q none σ e = (refl, e)
ends-unless Q (some r) σ e = absurd e

open_none : (c l : ℕ) (a : Atom) (o : Option OpenArgument) → open_input c l a o ≡ none → o ≡ none
unfolding open_input
open_none c l a none e = refl
open_none c l a (some n) e = cc

-- nothing is left of a copy among some literals only if nothing is among others
abbrev pub Follows : List Call → List Pending → List Pending → Type 0
Follows calls ps rest = (k : ℕ) → T (not (is_left calls k ps)) → T (not (is_left calls k rest))

left-pending : (all : List Call) (k c : ℕ) (body : Body) (rest : List Pending) → T (not (is_left all k (pending c body rest))) → T (not (is_left all k rest))
unfolding is_left pending
left-pending all k c done rest t = t
left-pending all k c (also l body) rest t = left-pending all k c body rest (neither (is_within all k c) (is_left all k (pending c body rest)) t).1

-- Once a walk has passed from bindings b of copy c, leaving what Q tells of, P holds of the bindings then.
abbrev Passing : ℕ → List Binding → (Known → Type 0) → (List Binding → Type 0) → Type 0
Passing c b Q P = (σ : Known) (b1 : List Binding) → Grows b b1 → Sound σ c b1 → Q σ → P b1

-- Literals that pass are safe before others that are safe once these have gone; `shown` is of literals before the rest.
module _ (sh : Sheet) (calls : List Call) (c : ℕ) (rest : List Pending) (b0 : List Binding)
    (shown : (l : Literal) (ps : List Pending) → Follows calls ps rest → (b : List Binding) → Grows b0 b
    → Shown sh calls (record { copy = c; literal = l } ∷ ps) b calls) where
  call-first : (a : Atom) (n l : ℕ) (τ : Known) (ps : List Pending) (b : List Binding) (Q : Known → Type 0) (P : List Binding → Type 0) → Sound τ c b
      → Ends Q (call_walk sh.declarations n l τ a) → Passing c b Q P → First sh calls c (call a) ps P b
  unfolding First call_walk
  call-first a n l τ ps b Q P s e k = (inputs, λ b1 g o. k after b1 g (sound-marked output marks arguments τ c b1 (sound-grows τ c g s) o) ends.1)
    where
      marks : List Mark
      marks = marks_for sh.declarations a

      arguments : List Term
      arguments = list_of a.args

      after : Known
      after = ground_marked output marks arguments τ

      ends : (open_input n l a (first_open input τ marks arguments 1) ≡ none) × Q after
      ends = ends-unless Q (open_input n l a (first_open input τ marks arguments 1)) after e

      inputs : ClosedArguments sh input b c a
      inputs = marked-known input τ c b s marks arguments 1 (open_none n l a (first_open input τ marks arguments 1) ends.0)

  -- after the left side: the right one passes too, and what both leave is known
  after-left : (right : Walk) (b : List Binding) (Q : Known → Type 0) (P : List Binding → Type 0) → Passing c b Q P
      → Passing c b (λ σ. Ends Q (walk_on right (λ ρ. known (in_both σ ρ)))) P
  after-left right b Q P k σ b1 g s e =
      let r : (ρ : Known) × Q (in_both σ ρ) = ends_some (λ (ρ : Known). Q (in_both σ ρ)) right (walked_on Q right (λ ρ. known (in_both σ ρ)) e) in
      k (in_both σ r.0) b1 g (sound-left σ r.0 c b1 s) r.1

  mutual
    unfolding First literal_walk pending

    literal-first : (lit : Literal) (n l : ℕ) (τ : Known) (ps : List Pending) → Follows calls ps rest → (b : List Binding) → Grows b0 b
        → (Q : Known → Type 0) (P : List Binding → Type 0) → Sound τ c b
        → Ends Q (literal_walk sh.declarations n l τ lit) → Passing c b Q P → First sh calls c lit ps P b
    literal-first (call a) n l τ ps f b g Q P s e k = call-first a n l τ ps b Q P s e k
    literal-first (equation t u) n l τ ps f b g Q P s e k = λ b1 h q. k (settle t u τ) b1 h (sound-settle t u τ c b1 (sound-grows τ c h s) q) e
    literal-first truth n l τ ps f b g Q P s e k = k τ b (grows-refl b) s e
    literal-first falsity n l τ ps f b g Q P s e k = tt
    literal-first (either y z) n l τ ps f b g Q P s e k =
        let left : Walk = body_fault sh.declarations n l τ y in
        let right : Walk = body_fault sh.declarations n (literals_of y + l) τ z in
        let behind : Known → Walk = λ σ. walk_on right (λ ρ. known (in_both σ ρ)) in
        let w : Ends (λ (σ : Known). Ends Q (behind σ)) left = walked_on Q left behind e in
        let q : (σ : Known) × Ends Q (behind σ) = ends_some (λ (σ : Known). Ends Q (behind σ)) left w in (
          body-side y n l τ ps f b g (λ (σ : Known). Ends Q (behind σ)) P s w (after-left right b Q P k),
          body-side z n (literals_of y + l) τ ps f b g (λ (ρ : Known). Q (in_both q.0 ρ)) P s (walked_on Q right (λ ρ. known (in_both q.0 ρ)) q.1)
              (λ ρ b1 h t x. k (in_both q.0 ρ) b1 h (sound-right q.0 ρ c b1 t) x),
        )

    body-side : (y : Body) (n l : ℕ) (τ : Known) (ps : List Pending) → Follows calls ps rest → (b : List Binding) → Grows b0 b
        → (Q : Known → Type 0) (P : List Binding → Type 0) → Sound τ c b
        → Ends Q (body_fault sh.declarations n l τ y) → Passing c b Q P → Side sh calls c y ps P b
    body-side done n l τ ps f b g Q P s e k = k τ b (grows-refl b) s e
    body-side (also lit y) n l τ ps f b g Q P s e k =
        let behind : Known → Walk = λ σ. body_fault sh.declarations n (literals_in lit + l) σ y in
        let more : Follows calls (pending c y ps) rest = λ i t. f i (left-pending calls i c y ps t) in (
          shown lit (pending c y ps) more b g,
          literal-first lit n l τ (pending c y ps) more b g (λ (σ : Known). Ends Q (behind σ)) (λ b1. Side sh calls c y ps P b1) s
              (walked_on Q (literal_walk sh.declarations n l τ lit) behind e)
              (λ σ b1 h t x. body-side y n (literals_in lit + l) σ ps f b1 (grows-trans g h) Q P t x (λ ρ b2 i. k ρ b2 (grows-trans h i))),
        )

  pub body-safe : (body : Body) (n l : ℕ) (τ : Known) (Q : Known → Type 0) → Sound τ c b0 → Ends Q (body_fault sh.declarations n l τ body)
      → Passing c b0 Q (λ b. Safe sh calls rest b) → Safe sh calls (pending c body rest) b0
  body-safe body n l τ Q s e after =
      side-safe sh calls c body rest b0 (body-side body n l τ rest (λ k t. t) b0 (grows-refl b0) Q (λ b1. Safe sh calls rest b1) s e after)

-- ---- a clause that passes, tried for a call that is safe

-- the head's outputs are known ground after the body
abbrev pub OutputsKnown : List Declaration → Atom → Known → Type 0
OutputsKnown ds h σ = first_open output σ (marks_for ds h) (list_of h.args) 1 ≡ none

output-none : (c : ℕ) (a : Atom) (o : Option OpenArgument) → open_output c a o ≡ none → o ≡ none
unfolding open_output
output-none c a none e = refl
output-none c a (some n) e = cc

head-ends : (ds : List Declaration) (n : ℕ) (h : Atom) (w : Walk) → head_fault ds n h w ≡ none → Ends (OutputsKnown ds h) w
unfolding head_fault
head-ends ds n h (faulted r) e = some-none r e
head-ends ds n h (known σ) e = output-none n h (first_open output σ (marks_for ds h) (list_of h.args) 1) e

clause-ends : (ds : List Declaration) (n : ℕ) (cl : Clause) → clause_fault ds n cl ≡ none → Ends (OutputsKnown ds cl.head) (body_fault ds n 1 (start_known ds cl.head) cl.body)
unfolding clause_fault
clause-ends ds n cl e = head-ends ds n cl.head (body_fault ds n 1 (start_known ds cl.head) cl.body) e

module _ (sh : Sheet) (calls : List Call) (c : ℕ) (at : Atom) (rest : List Pending) (b b1 : List Binding)
    (safe : Safe sh calls (record { copy = c; literal = call at } ∷ rest) b) (bounded : Bounded (length calls) rest) (grows : Grows b b1) where
  -- the new call, and the copy that is made for it
  abbrev pub new : Call
  new = record { copy = c; atom = at }

  abbrev pub copy : ℕ
  copy = suc (length calls)

  shown-within : (l : Literal) (ps : List Pending) → Follows (new ∷ calls) ps rest → (b2 : List Binding) → Grows b1 b2
      → Shown sh (new ∷ calls) (record { copy = copy; literal = l } ∷ ps) b2 (new ∷ calls)
  unfolding Shown Safe is_left
  shown-within l ps f b2 g = (
    λ t. absurd (itself (within-not copy (neither (is_within (new ∷ calls) copy copy) (is_left (new ∷ calls) copy ps) t).0)),
    shown-keep sh calls (new ∷ calls) (record { copy = c; literal = call at } ∷ rest) (record { copy = copy; literal = l } ∷ ps) b b2
        (grows-trans grows g) calls older safe.0,
  )
    where
      within-not : (k : ℕ) → T (not (is_within (new ∷ calls) k copy)) → T (not (eqb copy k || is_within calls k c))
      within-not k t = subst (λ (x : Bool). T (not x)) (within_new new calls k) t

      itself : T (not (eqb copy copy || is_within calls copy c)) → ⊥
      itself t = T_not (eqb copy copy) (neither (eqb copy copy) (is_within calls copy c) t).0 (eqb_refl copy)

      older : (k : ℕ) → k ≤ length calls → T (not (is_left (new ∷ calls) k (record { copy = copy; literal = l } ∷ ps)))
          → T (not (is_left calls k (record { copy = c; literal = call at } ∷ rest)))
      older k h t =
          let p : T (not (is_within (new ∷ calls) k copy)) × T (not (is_left (new ∷ calls) k ps)) =
          neither (is_within (new ∷ calls) k copy) (is_left (new ∷ calls) k ps) t in
          nor (is_within calls k c) (is_left calls k rest)
          (neither (eqb copy k) (is_within calls k c) (within-not k p.0)).1
          (subst (λ (x : Bool). T (not x)) (left-old new calls k rest bounded) (f k p.1))

  pub clause-safe : (cl : Clause) (n : ℕ) → clause_fault sh.declarations n cl ≡ none → Same b1 (copied c (term_of at)) (copied copy (term_of cl.head)) → Safe sh (new ∷ calls) (pending copy cl.body rest) b1
  unfolding Safe First start_known
  clause-safe cl n e q =
      body-safe sh (new ∷ calls) copy rest b1 shown-within cl.body n 1 (start_known sh.declarations head)
      (OutputsKnown sh.declarations head) begin (clause-ends sh.declarations n cl e) after
    where
      head : Atom
      head = cl.head

      marks : List Mark
      marks = marks_for sh.declarations head

      arguments : List Term
      arguments = list_of head.args

      -- the head's inputs are the call's, which are closed
      inputs : ClosedArguments sh input b1 copy head
      inputs = marked-across sh.declarations input b1 c copy at head q (arguments-grow sh input c at grows safe.1.0)

      begin : Sound (start_known sh.declarations head) copy b1
      begin = sound-marked input marks arguments none_ground copy b1 (sound-nothing copy b1) inputs

      -- after the body the head's outputs are closed, and the call's with them: what the call's continuation waits for
      after : (σ : Known) (b2 : List Binding) → Grows b1 b2 → Sound σ copy b2 → OutputsKnown sh.declarations head σ → Safe sh (new ∷ calls) rest b2
      after σ b2 g s k =
          let again : Same b2 (copied c (term_of at)) (copied copy (term_of head)) = g.stays_equal (copied c (term_of at)) (copied copy (term_of head)) q in
          let outputs : ClosedArguments sh output b2 c at = marked-across sh.declarations output b2 copy c head at (sym again) (marked-known output σ copy b2 s marks arguments 1 k) in
          lift-safe sh new calls rest b2 bounded outputs (safe.1.1 b2 (grows-trans grows g) outputs)
