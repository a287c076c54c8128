-- The ends of a run by what comes before its next step.
use Prim.Native.Nat.{ℕ, zero, suc, ◌+◌, ◌-◌, ◌<◌}
use native.Mathlib.Omega.{arith}
use mathlib.Core.Path.{◌≡◌, refl, sym, ap, ap₂, ◌∙◌}
use mathlib.Core.Bool.{Bool, true, false, cond, ◌&&◌}
use mathlib.Core.List.{List, [], ◌∷◌, ◌++◌, append-nil}
use mathlib.Core.Option.{Option, none, some}
use lib.Dec.{leb, ltb, eqb}
use lib.ListN.{length}
use borrow.Author.Tests.{leb-false}
use native.Mathlib.Nat.{add-zero}
use Rattle.syntax.specs.Terms.{Sheet, Goal}
use Rattle.syntax.specs.declared.RunEnd.{RunEnd}
use Rattle.syntax.specs.declared.RunEnd.TheVariants.{Wanted, Done, Steps, Full, Deep}
use Rattle.machine.specs.Machine.{Pending, Alternative, path, step}
use Rattle.machine.specs.Runs.{Progress, is_empty, is_answer, next_line, line_with, tries_first, goes_deeper, endings, first_end, one_if, advance, end_or, run_from}
use Rattle.run.specs.declared.telling.Next.{Next}
use Rattle.run.specs.declared.telling.Next.TheVariants.{End, Answer, Step}
use Rattle.run.specs.Telling.{before_step}

abbrev next_by : Bool → Bool → Bool → Bool → Bool → Next
next_by a b c d e = cond b (End Done) (cond a (End Wanted) (cond c (End Steps) (cond d Answer (cond e (End Deep) Step))))

abbrev first_by : Bool → Bool → Bool → Bool → Bool → Option RunEnd
first_by a b c d e =
    elim b [ true ↦ some Done | false ↦ elim a [ true ↦ some Wanted | false ↦ elim c [ true ↦ some Steps | false ↦ elim d [ true ↦ some Full | false ↦ elim e [ true ↦ some Deep | false ↦ none ] ] ] ] ]

end-by : (a b c d e f : Bool) (k : RunEnd) → next_by a b c d e ≡ End k → first_by a b c (d && f) e ≡ some k
end-by a true c d e f k q = cc
end-by true false c d e f k q = cc
end-by false false true d e f k q = cc
end-by false false false true e f k q = absurd (let z : ◌≡◌ {A = ℕ} 0 1 = cc in omega arith)
end-by false false false false true f k q = cc
end-by false false false false false f k q = absurd (let z : ◌≡◌ {A = ℕ} 0 1 = cc in omega arith)

record Steady (b c d e : Bool) (o : Option RunEnd) : Type 0 where
  some_left : b ≡ false
  more : c ≡ false
  literal : d ≡ false
  flat : e ≡ false
  none_is : o ≡ none

step_by : (a b c d e f : Bool) → next_by a b c d e ≡ Step → Steady b c d e (first_by a b c (d && f) e)
step_by a true c d e f q = absurd (let z : ◌≡◌ {A = ℕ} 0 1 = cc in omega arith)
step_by true false c d e f q = absurd (let z : ◌≡◌ {A = ℕ} 0 1 = cc in omega arith)
step_by false false true d e f q = absurd (let z : ◌≡◌ {A = ℕ} 0 1 = cc in omega arith)
step_by false false false true e f q = absurd (let z : ◌≡◌ {A = ℕ} 0 1 = cc in omega arith)
step_by false false false false true f q = absurd (let z : ◌≡◌ {A = ℕ} 0 1 = cc in omega arith)
step_by false false false false false f q = record { some_left = refl; more = refl; literal = refl; flat = refl; none_is = refl }

record Answering (b c d : Bool) (o : Bool → Option RunEnd) : Type 0 where
  some_left : b ≡ false
  more : c ≡ false
  answer : d ≡ true
  full_is : o true ≡ some Full
  fits_is : o false ≡ none

answer-by : (a b c d e : Bool) → e ≡ false → next_by a b c d e ≡ Answer → Answering b c d (λ (f : Bool). first_by a b c (d && f) e)
answer-by a true c d e z q = absurd (let y : ◌≡◌ {A = ℕ} 0 1 = cc in omega arith)
answer-by true false c d e z q = absurd (let y : ◌≡◌ {A = ℕ} 0 1 = cc in omega arith)
answer-by false false true d e z q = absurd (let y : ◌≡◌ {A = ℕ} 0 1 = cc in omega arith)
answer-by false false false true e z q = record { some_left = refl; more = refl; answer = refl; full_is = refl; fits_is = ap (λ (x : Bool). first_by false false false false x) z }
answer-by false false false false true z q = absurd (let y : ◌≡◌ {A = ℕ} 0 1 = cc in omega arith)
answer-by false false false false false z q = absurd (let y : ◌≡◌ {A = ℕ} 0 1 = cc in omega arith)

-- an answer tries no clause
flat-list : (sh : Sheet) (a : Alternative) (ps : List Pending) → is_empty ps ≡ true → tries_first sh a ps && leb 255 (path a) ≡ false
unfolding is_empty tries_first
flat-list sh a [] q = refl
flat-list sh a (p ∷ ps) q = absurd (let y : ◌≡◌ {A = Bool} false true = q in let z : ◌≡◌ {A = ℕ} 0 1 = cc in omega arith)

pub answer-flat : (sh : Sheet) (pile : List Alternative) → is_answer pile ≡ true → goes_deeper sh pile ≡ false
unfolding is_answer goes_deeper
answer-flat sh [] q = refl
answer-flat sh (a ∷ below) q = flat-list sh a a.literals q

module _ (sh : Sheet) (g : Goal) (wanted room : ℕ) where
  first-is : (left : ℕ) (p : Progress) → first_end (endings sh g wanted room left p) ≡ first_by (leb wanted p.answers) (is_empty p.pile) (eqb left 0) (is_answer p.pile && ltb room (length p.text + length (next_line g p.pile))) (goes_deeper sh p.pile)
  unfolding first_end
  first-is left p = refl

  next_is : (left : ℕ) (p : Progress) → before_step wanted p.answers left sh p.pile ≡ next_by (leb wanted p.answers) (is_empty p.pile) (eqb left 0) (is_answer p.pile) (goes_deeper sh p.pile)
  unfolding before_step
  next_is left p = refl

  from_some : (left : ℕ) (p : Progress) (k : RunEnd) → first_end (endings sh g wanted room left p) ≡ some k → run_from sh g wanted room left p ≡ record { kind = k; at = p }
  unfolding run_from end_or
  from_some zero p k q = ap (λ (o : Option RunEnd). end_or p o (λ _. record { kind = Steps; at = p })) q
  from_some (suc left) p k q = ap (λ (o : Option RunEnd). end_or p o (λ _. run_from sh g wanted room left (advance sh g p))) q

  from-none : (left : ℕ) (p : Progress) → eqb left 0 ≡ false → first_end (endings sh g wanted room left p) ≡ none → run_from sh g wanted room left p ≡ run_from sh g wanted room (left - 1) (advance sh g p)
  unfolding run_from end_or
  from-none zero p z q = absurd (let y : ◌≡◌ {A = Bool} true false = z in let x : ◌≡◌ {A = ℕ} 0 1 = cc in omega arith)
  from-none (suc left) p z q =
      let e : left ≡ suc left - 1 = omega arith in
      ap (λ (o : Option RunEnd). end_or p o (λ _. run_from sh g wanted room left (advance sh g p))) q ∙ ap (λ (m : ℕ). run_from sh g wanted room m (advance sh g p)) e

  pub run_ends : (left : ℕ) (p : Progress) (k : RunEnd) → before_step wanted p.answers left sh p.pile ≡ End k → run_from sh g wanted room left p ≡ record { kind = k; at = p }
  run_ends left p k q = from_some left p k (first-is left p ∙ end-by (leb wanted p.answers) (is_empty p.pile) (eqb left 0) (is_answer p.pile) (goes_deeper sh p.pile) (ltb room (length p.text + length (next_line g p.pile))) k (sym (next_is left p) ∙ q))

  -- no line is written by a step that is no answer
  no_line : (ps : List Pending) (a : Alternative) → is_empty ps ≡ false → line_with g a ps ≡ []
  unfolding is_empty line_with
  no_line [] a q = absurd (let y : ◌≡◌ {A = Bool} true false = q in let z : ◌≡◌ {A = ℕ} 0 1 = cc in omega arith)
  no_line (p ∷ ps) a q = refl

  line-none : (pile : List Alternative) → is_answer pile ≡ false → next_line g pile ≡ []
  unfolding is_answer next_line
  line-none [] q = refl
  line-none (a ∷ below) q = no_line a.literals a q

  plain_by : (p : Progress) (b : Bool) (t : List ℕ) → b ≡ false → t ≡ [] → ◌≡◌ {A = Progress} (record { pile = step sh p.pile; answers = p.answers + one_if b; steps = suc p.steps; text = p.text ++ t }) (record { pile = step sh p.pile; answers = p.answers; steps = suc p.steps; text = p.text })
  unfolding one_if
  plain_by p false [] e z = ap₂ (λ (n : ℕ) (t : List ℕ). record { pile = step sh p.pile; answers = n; steps = suc p.steps; text = t }) (add-zero p.answers) (append-nil p.text)
  plain_by p true t e z = absurd (let x : ◌≡◌ {A = ℕ} 0 1 = cc in omega arith)
  plain_by p false (x ∷ t) e z = absurd (let y : ◌≡◌ {A = ℕ} 0 1 = cc in omega arith)

  plain : (p : Progress) → is_answer p.pile ≡ false → advance sh g p ≡ record { pile = step sh p.pile; answers = p.answers; steps = suc p.steps; text = p.text }
  unfolding advance
  plain p q = plain_by p (is_answer p.pile) (next_line g p.pile) q (line-none p.pile q)

  answered-by : (p : Progress) (b : Bool) → b ≡ true → ◌≡◌ {A = Progress} (record { pile = step sh p.pile; answers = p.answers + one_if b; steps = suc p.steps; text = p.text ++ next_line g p.pile }) (record { pile = step sh p.pile; answers = p.answers + 1; steps = suc p.steps; text = p.text ++ next_line g p.pile })
  unfolding one_if
  answered-by p true e = refl
  answered-by p false e = absurd (let x : ◌≡◌ {A = ℕ} 0 1 = cc in omega arith)

  answered : (p : Progress) → is_answer p.pile ≡ true → advance sh g p ≡ record { pile = step sh p.pile; answers = p.answers + 1; steps = suc p.steps; text = p.text ++ next_line g p.pile }
  unfolding advance
  answered p q = answered-by p (is_answer p.pile) q

  -- a step that is no answer
  pub record Goes (left : ℕ) (p : Progress) : Type 0 where
    pub some_left : is_empty p.pile ≡ false
    pub more : eqb left 0 ≡ false
    pub flat : goes_deeper sh p.pile ≡ false
    pub on : run_from sh g wanted room left p ≡ run_from sh g wanted room (left - 1) (record { pile = step sh p.pile; answers = p.answers; steps = suc p.steps; text = p.text })

  pub run-steps : (left : ℕ) (p : Progress) → before_step wanted p.answers left sh p.pile ≡ Step → Goes left p
  run-steps left p q =
      let s : Steady (is_empty p.pile) (eqb left 0) (is_answer p.pile) (goes_deeper sh p.pile) (first_by (leb wanted p.answers) (is_empty p.pile) (eqb left 0) (is_answer p.pile && ltb room (length p.text + length (next_line g p.pile))) (goes_deeper sh p.pile)) = step_by (leb wanted p.answers) (is_empty p.pile) (eqb left 0) (is_answer p.pile) (goes_deeper sh p.pile) (ltb room (length p.text + length (next_line g p.pile))) (sym (next_is left p) ∙ q) in
      record { some_left = s.some_left; more = s.more; flat = s.flat; on = from-none left p s.more (first-is left p ∙ s.none_is) ∙ ap (run_from sh g wanted room (left - 1)) (plain p s.literal) }

  -- an answer
  pub record Answers (left : ℕ) (p : Progress) : Type 0 where
    pub some_left : is_empty p.pile ≡ false
    pub more : eqb left 0 ≡ false
    pub answer : is_answer p.pile ≡ true
    pub full : ltb room (length p.text + length (next_line g p.pile)) ≡ true → run_from sh g wanted room left p ≡ record { kind = Full; at = p }
    pub on : ltb room (length p.text + length (next_line g p.pile)) ≡ false → run_from sh g wanted room left p ≡ run_from sh g wanted room (left - 1) (record { pile = step sh p.pile; answers = p.answers + 1; steps = suc p.steps; text = p.text ++ next_line g p.pile })

  is-answer : (a b c d e : Bool) → next_by a b c d e ≡ Answer → d ≡ true
  is-answer a true c d e q = absurd (let y : ◌≡◌ {A = ℕ} 0 1 = cc in omega arith)
  is-answer true false c d e q = absurd (let y : ◌≡◌ {A = ℕ} 0 1 = cc in omega arith)
  is-answer false false true d e q = absurd (let y : ◌≡◌ {A = ℕ} 0 1 = cc in omega arith)
  is-answer false false false true e q = refl
  is-answer false false false false true q = absurd (let y : ◌≡◌ {A = ℕ} 0 1 = cc in omega arith)
  is-answer false false false false false q = absurd (let y : ◌≡◌ {A = ℕ} 0 1 = cc in omega arith)

  pub run-answers : (left : ℕ) (p : Progress) → before_step wanted p.answers left sh p.pile ≡ Answer → Answers left p
  run-answers left p q =
      let d : is_answer p.pile ≡ true = is-answer (leb wanted p.answers) (is_empty p.pile) (eqb left 0) (is_answer p.pile) (goes_deeper sh p.pile) (sym (next_is left p) ∙ q) in
      let s : Answering (is_empty p.pile) (eqb left 0) (is_answer p.pile) (λ (f : Bool). first_by (leb wanted p.answers) (is_empty p.pile) (eqb left 0) (is_answer p.pile && f) (goes_deeper sh p.pile)) = answer-by (leb wanted p.answers) (is_empty p.pile) (eqb left 0) (is_answer p.pile) (goes_deeper sh p.pile) (answer-flat sh p.pile d) (sym (next_is left p) ∙ q) in
      record {
        some_left = s.some_left;
        more = s.more;
        answer = d;
        full = λ f. from_some left p Full (first-is left p ∙ ap (λ (x : Bool). first_by (leb wanted p.answers) (is_empty p.pile) (eqb left 0) (is_answer p.pile && x) (goes_deeper sh p.pile)) f ∙ s.full_is);
        on = λ f. from-none left p s.more (first-is left p ∙ ap (λ (x : Bool). first_by (leb wanted p.answers) (is_empty p.pile) (eqb left 0) (is_answer p.pile && x) (goes_deeper sh p.pile)) f ∙ s.fits_is) ∙ ap (run_from sh g wanted room (left - 1)) (answered p d);
      }

below_by : (a b c d e : Bool) → next_by a b c d e ≡ Answer → a ≡ false
below_by a true c d e q = absurd (let y : ◌≡◌ {A = ℕ} 0 1 = cc in omega arith)
below_by true false c d e q = absurd (let y : ◌≡◌ {A = ℕ} 0 1 = cc in omega arith)
below_by false false c d e q = refl

-- an answer more is wanted
pub answer-below : (wanted answers left : ℕ) (sh : Sheet) (pile : List Alternative) → before_step wanted answers left sh pile ≡ Answer → answers < wanted
unfolding before_step
answer-below wanted answers left sh pile q = leb-false wanted answers (below_by (leb wanted answers) (is_empty pile) (eqb left 0) (is_answer pile) (goes_deeper sh pile) q)
