-- The judgments about the arguments with a mark, and the declaration of a predicate, with the functions that decide them.
use Prim.Native.Nat.{ℕ, suc}
use mathlib.Core.Path.{◌≡◌, refl, sym, ap, ap₂, subst, ◌∙◌}
use mathlib.Core.Logic.{◌≢◌}
use mathlib.Core.Bool.{Bool, true, false, true≢false, false≢true}
use mathlib.Core.List.{List, [], ◌∷◌}
use mathlib.Core.Option.{Option, none, some}
use native.Mathlib.Omega.{arith}
use lib.ListN.{length}
use Rattle.syntax.specs.Terms.{Term, Terms, nil, cons, arity, Atom, Mark, input, output, free, Declaration, same_predicate}
use Rattle.mode_rules.specs.Modes.{Known, is_ground, open_byte, ground_term, same_mark, if_marked, first_open, list_of, ground_if, ground_marked, marks_of}
use Rattle.mode_rules.specs.Judgment.{MarkedGround, marked_none, marked_one, marked_other, MarkedGrounding, markedly_none, markedly_one, markedly_other, DeclaredMarks, first, later}
use Rattle.mode_rules.proofs.Terms.{is_none, ground-none, not-true, ground-holds, ground-derived, grounding-derived, grounding-unique}
use Rattle.mode_rules.proofs.Equations.{same-arity}

-- ---- options

none-some : {A : Type 0} {x : A} → ◌≡◌ {A = Option A} (some x) none → ⊥
none-some {x = x} e = let z : ◌≡◌ {A = ℕ} 0 1 = cc in omega arith

some_same : {A : Type 0} {x y : A} → some x ≡ some y → x ≡ y
some_same e = cc

-- ---- marks

pub alike : (m k : Mark) → same_mark m k ≡ true → k ≡ m
unfolding same_mark
alike input input e = refl
alike input output e = absurd (false≢true e)
alike input free e = absurd (false≢true e)
alike output input e = absurd (false≢true e)
alike output output e = refl
alike output free e = absurd (false≢true e)
alike free input e = absurd (false≢true e)
alike free output e = absurd (false≢true e)
alike free free e = refl

pub same-mark : (m : Mark) → same_mark m m ≡ true
unfolding same_mark
same-mark input = refl
same-mark output = refl
same-mark free = refl

pub other-mark : (m k : Mark) → k ≢ m → same_mark m k ≡ false
other-mark m k h = not-true (same_mark m k) (λ e. h (alike m k e))

pub unlike : (m k : Mark) → same_mark m k ≡ false → k ≢ m
unlike m k e p = true≢false (sym (same-mark m) ∙ ap (λ q. same_mark m q) (sym p) ∙ e)

-- ---- one argument of a list

module _ (m : Mark) (τ : Known) (k : Mark) (ks : List Mark) (t : Term) (ts : List Term) (n : ℕ) where
  pub open-passes : if_marked (same_mark m k) (open_byte τ t) ≡ none → first_open m τ (k ∷ ks) (t ∷ ts) n ≡ first_open m τ ks ts (suc n)
  unfolding first_open
  open-passes e = rw (e, first_open)

  pub open-found : (b : ℕ) → if_marked (same_mark m k) (open_byte τ t) ≡ some b → first_open m τ (k ∷ ks) (t ∷ ts) n ≡ some (record { argument = n; byte = b })
  unfolding first_open
  open-found b e = rw (e, first_open)

-- ---- τ ⊢ t ground, for the arguments with a mark

ground-byte : (τ : Known) (t : Term) → is_ground τ t ≡ true → open_byte τ t ≡ none
ground-byte τ t e = by (open_byte τ t) (sym (ground-none τ t) ∙ e)
  where
    by : (o : Option ℕ) → is_none o ≡ true → o ≡ none
    by none e = refl
    by (some b) e = absurd (false≢true e)

same-passes : (m k : Mark) (o : Option ℕ) → o ≡ none → if_marked (same_mark m k) o ≡ none
unfolding if_marked
same-passes m k o e = ap (if_marked (same_mark m k)) e ∙ by (same_mark m k)
  where
    by : (b : Bool) → if_marked b none ≡ none
    by true = unfold if_marked in refl
    by false = unfold if_marked in refl

other-passes : (m k : Mark) (o : Option ℕ) → same_mark m k ≡ false → if_marked (same_mark m k) o ≡ none
unfolding if_marked
other-passes m k o e = ap (λ (b : Bool). if_marked b o) e

pub marked-holds : {m : Mark} {τ : Known} {ms : List Mark} {ts : Terms} → MarkedGround m τ ms ts → (n : ℕ) → first_open m τ ms (list_of ts) n ≡ none
unfolding first_open
marked-holds marked_none n = refl
marked-holds {m} {τ} (marked_one {t = t} {ms = ms} {ts = ts} g r) n =
    open-passes m τ m ms t (list_of ts) n (same-passes m m (open_byte τ t) (ground-byte τ t (ground-holds g))) ∙ marked-holds r (suc n)
marked-holds {m} {τ} (marked_other {k = k} {t = t} {ms = ms} {ts = ts} h r) n =
    open-passes m τ k ms t (list_of ts) n (other-passes m k (open_byte τ t) (other-mark m k h)) ∙ marked-holds r (suc n)

pub marked-derived : (m : Mark) (τ : Known) (ms : List Mark) (ts : Terms) (n : ℕ)
    → length ms ≡ arity ts
    → first_open m τ ms (list_of ts) n ≡ none
    → MarkedGround m τ ms ts
marked-derived m τ [] nil n l e = marked_none
marked-derived m τ [] (cons t ts) n l e = absurd (omega arith)
marked-derived m τ (k ∷ ks) nil n l e = absurd (omega arith)
marked-derived m τ (k ∷ ks) (cons t ts) n l e =
    go (same_mark m k) (open_byte τ t) refl refl (λ p. marked-derived m τ ks ts (suc n) (omega arith) (sym (open-passes m τ k ks t (list_of ts) n p) ∙ e))
  where
    go : (b : Bool) (o : Option ℕ)
        → same_mark m k ≡ b
        → open_byte τ t ≡ o
        → (if_marked (same_mark m k) (open_byte τ t) ≡ none → MarkedGround m τ ks ts)
        → MarkedGround m τ (k ∷ ks) (cons t ts)
    go false o p q h = marked_other (unlike m k p) (h (other-passes m k (open_byte τ t) p))
    go true none p q h =
        subst (λ j. MarkedGround m τ (j ∷ ks) (cons t ts)) (sym (alike m k p))
        (marked_one (ground-derived τ t (ground-none τ t ∙ ap is_none q)) (h (same-passes m k (open_byte τ t) q)))
    go true (some b) p q h =
        absurd (none-some (sym (open-found m τ k ks t (list_of ts) n b (unfold if_marked in (ap₂ if_marked p q))) ∙ e))

-- ---- τ ⊢ s / σ, for the arguments with a mark

pub markedly-unique : {m : Mark} {τ σ : Known} {ms : List Mark} {ts : Terms} → MarkedGrounding m τ ms ts σ → σ ≡ ground_marked m ms (list_of ts) τ
unfolding ground_marked ground_if
markedly-unique markedly_none = refl
markedly-unique {m} (markedly_one {t = t} {ms = ms} {ts = ts} g r) =
    rw (same-mark m) (markedly-unique r ∙ ap (λ ρ. ground_marked m ms (list_of ts) ρ) (grounding-unique t g))
markedly-unique {m} (markedly_other {k = k} h r) = rw (other-mark m k h) (markedly-unique r)

pub markedly-derived : (m : Mark) (τ : Known) (ms : List Mark) (ts : Terms)
    → length ms ≡ arity ts
    → MarkedGrounding m τ ms ts (ground_marked m ms (list_of ts) τ)
unfolding ground_marked ground_if
markedly-derived m τ [] nil l = markedly_none
markedly-derived m τ [] (cons t ts) l = absurd (omega arith)
markedly-derived m τ (k ∷ ks) nil l = absurd (omega arith)
markedly-derived m τ (k ∷ ks) (cons t ts) l = go (same_mark m k) refl (λ ρ. markedly-derived m ρ ks ts (omega arith))
  where
    go : (b : Bool)
        → same_mark m k ≡ b
        → ((ρ : Known) → MarkedGrounding m ρ ks ts (ground_marked m ks (list_of ts) ρ))
        → MarkedGrounding m τ (k ∷ ks) (cons t ts) (ground_marked m ks (list_of ts) (ground_if b t τ))
    go false p h = markedly_other (unlike m k p) (h τ)
    go true p h =
        subst (λ j. MarkedGrounding m τ (j ∷ ks) (cons t ts) (ground_marked m ks (list_of ts) (ground_term t τ))) (sym (alike m k p))
        (markedly_one (grounding-derived τ t) (h (ground_term t τ)))

-- ---- the declaration of a predicate

pub declared-holds : {ds : List Declaration} {a : Atom} {ms : List Mark} → DeclaredMarks ds a ms → marks_of ds a ≡ some ms
unfolding marks_of
declared-holds (first e) = rw (e, marks_of)
declared-holds (later e r) = rw (e, marks_of) (declared-holds r)

pub declared-derived : (ds : List Declaration) (a : Atom) (ms : List Mark) → marks_of ds a ≡ some ms → DeclaredMarks ds a ms
unfolding marks_of
declared-derived [] a ms e = absurd (none-some (sym e))
declared-derived (d ∷ ds) a ms e = go (same_predicate d.name (length d.marks) a.name (arity a.args)) refl (λ h. declared-derived ds a ms h)
  where
    go : (b : Bool)
        → same_predicate d.name (length d.marks) a.name (arity a.args) ≡ b
        → (marks_of ds a ≡ some ms → DeclaredMarks ds a ms)
        → DeclaredMarks (d ∷ ds) a ms
    go true p h = let q : d.marks ≡ ms = some_same (rw (p, marks_of) at e) in subst (λ ks. DeclaredMarks (d ∷ ds) a ks) q (first p)
    go false p h = later p (h (rw (p, marks_of) at e))

pub declared-length : {ds : List Declaration} {a : Atom} {ms : List Mark} → DeclaredMarks ds a ms → length ms ≡ arity a.args
declared-length (first {d = d} {a = a} e) = same-arity (length d.marks) (arity a.args) d.name a.name e
declared-length (later e r) = declared-length r
