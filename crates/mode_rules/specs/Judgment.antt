-- When a sheet and a goal are well-moded: the judgment τ ⊢ G / σ of Pfenning, lecture 17, sections 17.1 and 17.5, a constructor for each
-- rule, with equations gone over again (REQUESTS (xiv)). Abstract substitutions are `Known`: g/x ∈ τ is `knows τ x ≡ true`, u/x ∈ τ is
-- `knows τ x ≡ false`, and τ + g/x is `set τ x true`. Its rule for ∃ has no goals here. No rule is for a predicate without declaration.
use Rattle.std.specs.Prelude.{ℕ, ◌≡◌, ◌≢◌, true, false, List, [], ◌∷◌, length, set}
use Rattle.syntax.specs.Terms.{Term, Terms, variable, compound, nil, cons, arity, Atom, Literal, Body, call, equation, truth, falsity, either, done, also, Mark}
use Rattle.syntax.specs.Terms.{input, output, Declaration, Clause, Sheet, Goal, same_predicate}
use Rattle.mode_rules.specs.Modes.{Known, knows, none_ground, everything, in_both}

-- τ ⊢ t ground, and τ ⊢ t₁, …, tₙ ground
mutual
  pub data Ground (τ : Known) : Term → Type 0 where
    -- g/x ∈ τ
    ground_variable : {x at : ℕ} → knows τ x ≡ true → Ground τ (variable x at)
    -- f(t)
    ground_compound : {at : ℕ} {f : List ℕ} {ts : Terms} → AllGround τ ts → Ground τ (compound at f ts)

  pub data AllGround (τ : Known) : Terms → Type 0 where
    -- (·)
    ground_nil : AllGround τ nil
    -- (t, t)
    ground_cons : {t : Term} {ts : Terms} → Ground τ t → AllGround τ ts → AllGround τ (cons t ts)

-- τ ⊢ s / σ: "refines the information in τ by noting that all variables in s can also be assumed ground"
mutual
  pub data Grounding : Known → Term → Known → Type 0 where
    -- x, in whatever state it was
    grounding_variable : {τ : Known} {x at : ℕ} → Grounding τ (variable x at) (set τ x true)
    -- f(s)
    grounding_compound : {τ σ : Known} {at : ℕ} {f : List ℕ} {ts : Terms} → AllGrounding τ ts σ → Grounding τ (compound at f ts) σ

  pub data AllGrounding : Known → Terms → Known → Type 0 where
    -- (·)
    grounding_nil : {τ : Known} → AllGrounding τ nil τ
    -- (s, s)
    grounding_cons : {τ₁ τ₂ τ₃ : Known} {t : Term} {ts : Terms} → Grounding τ₁ t τ₂ → AllGrounding τ₂ ts τ₃ → AllGrounding τ₁ (cons t ts) τ₃

-- The arguments t of p(t, r, s) that have the mark m: τ ⊢ t ground.
pub data MarkedGround (m : Mark) (τ : Known) : List Mark → Terms → Type 0 where
  marked_none : MarkedGround m τ [] nil
  marked_one : {t : Term} {ms : List Mark} {ts : Terms} → Ground τ t → MarkedGround m τ ms ts → MarkedGround m τ (m ∷ ms) (cons t ts)
  marked_other : {k : Mark} {t : Term} {ms : List Mark} {ts : Terms} → k ≢ m → MarkedGround m τ ms ts → MarkedGround m τ (k ∷ ms) (cons t ts)

-- The arguments s of p(t, r, s) that have the mark m: τ ⊢ s / σ.
pub data MarkedGrounding (m : Mark) : Known → List Mark → Terms → Known → Type 0 where
  markedly_none : {τ : Known} → MarkedGrounding m τ [] nil τ
  markedly_one : {τ₁ τ₂ τ₃ : Known} {t : Term} {ms : List Mark} {ts : Terms}
      → Grounding τ₁ t τ₂
      → MarkedGrounding m τ₂ ms ts τ₃
      → MarkedGrounding m τ₁ (m ∷ ms) (cons t ts) τ₃
  markedly_other : {τ σ : Known} {k : Mark} {t : Term} {ms : List Mark} {ts : Terms}
      → k ≢ m
      → MarkedGrounding m τ ms ts σ
      → MarkedGrounding m τ (k ∷ ms) (cons t ts) σ

-- Equality, τ ⊢ t ≐ s / σ: one pass.
mutual
  pub data Equating : Known → Term → Term → Known → Type 0 where
    -- x ≐ s: s ground; x ground and s not; neither
    left_given : {τ : Known} {x at : ℕ} {s : Term} → Ground τ s → Equating τ (variable x at) s (set τ x true)
    left_gives : {τ σ : Known} {x at : ℕ} {s : Term}
        → knows τ x ≡ true
        → ¬ Ground τ s
        → Grounding τ s σ
        → Equating τ (variable x at) s σ
    left_open : {τ : Known} {x at : ℕ} {s : Term} → knows τ x ≡ false → ¬ Ground τ s → Equating τ (variable x at) s τ
    -- t ≐ y: t ground; y ground and t not; neither
    right_given : {τ : Known} {y at : ℕ} {t : Term} → Ground τ t → Equating τ t (variable y at) (set τ y true)
    right_gives : {τ σ : Known} {y at : ℕ} {t : Term}
        → knows τ y ≡ true
        → ¬ Ground τ t
        → Grounding τ t σ
        → Equating τ t (variable y at) σ
    right_open : {τ : Known} {y at : ℕ} {t : Term} → knows τ y ≡ false → ¬ Ground τ t → Equating τ t (variable y at) τ
    -- f(t) ≐ f(s), the same name and number of arguments
    descend : {τ σ : Known} {at bt : ℕ} {f g : List ℕ} {ts us : Terms}
        → same_predicate f (arity ts) g (arity us) ≡ true
        → AllEquating τ ts us σ
        → Equating τ (compound at f ts) (compound bt g us) σ
    -- the clash f(t) ≐ g(s), another name or number of arguments: g/x for every x
    clash : {τ : Known} {at bt : ℕ} {f g : List ℕ} {ts us : Terms}
        → same_predicate f (arity ts) g (arity us) ≡ false
        → Equating τ (compound at f ts) (compound bt g us) everything

  pub data AllEquating : Known → Terms → Terms → Known → Type 0 where
    -- (·) ≐ (·)
    equating_nil : {τ : Known} → AllEquating τ nil nil τ
    -- (t, t) ≐ (s, s)
    equating_cons : {τ₁ τ₂ τ₃ : Known} {t u : Term} {ts us : Terms}
        → Equating τ₁ t u τ₂
        → AllEquating τ₂ ts us τ₃
        → AllEquating τ₁ (cons t ts) (cons u us) τ₃

-- The equation gone over again (REQUESTS (xiv)): `Equating`, the lecture's rules, is one pass.
pub data Settling : Known → Term → Term → Known → Type 0 where
  -- a pass that makes nothing further ground is the last
  settled : {τ : Known} {t u : Term} → Equating τ t u τ → Settling τ t u τ
  -- the next pass begins from what the last one left
  again : {τ₁ τ₂ τ₃ : Known} {t u : Term} → Equating τ₁ t u τ₂ → Settling τ₂ t u τ₃ → Settling τ₁ t u τ₃

-- the marks declared for an atom's predicate: those of its first declaration
pub data DeclaredMarks : List Declaration → Atom → List Mark → Type 0 where
  first : {d : Declaration} {ds : List Declaration} {a : Atom}
      → same_predicate d.name (length d.marks) a.name (arity a.args) ≡ true
      → DeclaredMarks (d ∷ ds) a d.marks
  later : {d : Declaration} {ds : List Declaration} {a : Atom} {ms : List Mark}
      → same_predicate d.name (length d.marks) a.name (arity a.args) ≡ false
      → DeclaredMarks ds a ms
      → DeclaredMarks (d ∷ ds) a ms

-- τ ⊢ G / σ
mutual
  pub data Moded (ds : List Declaration) : Known → Literal → Known → Type 0 where
    -- atoms: τ ⊢ t ground and τ ⊢ s / σ, both from the τ before the call
    atom : {τ σ : Known} {a : Atom} {ms : List Mark}
        → DeclaredMarks ds a ms
        → MarkedGround input τ ms a.args
        → MarkedGrounding output τ ms a.args σ
        → Moded ds τ (call a) σ
    -- equality, gone over until nothing further is ground
    equality : {τ σ : Known} {t u : Term} → Settling τ t u σ → Moded ds τ (equation t u) σ
    -- truth
    truth_unchanged : {τ : Known} → Moded ds τ truth τ
    -- falsehood: g/x for every x
    falsehood : {τ : Known} → Moded ds τ falsity everything
    -- disjunction, both sides from the τ before it: σ ⊔ ρ has g/x where both have it
    disjunction : {τ σ ρ : Known} {y z : Body} → BodyModed ds τ y σ → BodyModed ds τ z ρ → Moded ds τ (either y z) (in_both σ ρ)

  pub data BodyModed (ds : List Declaration) : Known → Body → Known → Type 0 where
    -- a body without literals is truth
    no_more : {τ : Known} → BodyModed ds τ done τ
    -- conjunction, left to right
    conjunction : {τ₁ τ₂ τ₃ : Known} {l : Literal} {b : Body} → Moded ds τ₁ l τ₂ → BodyModed ds τ₂ b τ₃ → BodyModed ds τ₁ (also l b) τ₃

-- A clause, as section 17.1 reads it: its head's + arguments are assumed ground and nothing else, and after the body its - arguments are ground.
pub data ClauseModed (ds : List Declaration) : Clause → Type 0 where
  clause : {c : Clause} {ms : List Mark} {τ σ : Known}
      → DeclaredMarks ds c.head ms
      → MarkedGrounding input none_ground ms c.head.args τ
      → BodyModed ds τ c.body σ
      → MarkedGround output σ ms c.head.args
      → ClauseModed ds c

pub data ClausesModed (ds : List Declaration) : List Clause → Type 0 where
  no_clauses : ClausesModed ds []
  each_clause : {c : Clause} {cs : List Clause} → ClauseModed ds c → ClausesModed ds cs → ClausesModed ds (c ∷ cs)

-- a sheet is well-moded when each of its clauses is
abbrev pub WellModed : Sheet → Type 0
WellModed sh = ClausesModed sh.declarations sh.clauses

-- a goal over a sheet is well-moded when the judgment takes it from nothing ground to something
abbrev pub WellModedGoal : Sheet → Goal → Type 0
WellModedGoal sh g = (σ : Known) × BodyModed sh.declarations none_ground g.body σ
