-- Laws of the whole line. Assumes nothing.
use Prim.Native.Nat.{ℕ, ◌+◌, ◌≤◌, ◌<◌, ◌^◌, zero-le}
use native.Mathlib.Omega.{arith}
use mathlib.Core.Path.{◌≡◌, refl, sym, ap, ◌∙◌, subst, subst⁻¹}
use mathlib.Core.Bool.{Bool, true, false}
use mathlib.Core.List.{List, [], ◌++◌}
use lib.ListN.{length, set, take, length-append, get_or-append}
use lib.Seq.{length-take-le, get_or-take}
use Rattle.syntax.specs.Limits.{variables}
use Rattle.run_layout.specs.Regions.{stack}
use Rattle.syntax.specs.Quote.{bytes}
use Rattle.syntax.specs.Terms.{Goal}
use Rattle.words.specs.Buffers.{Appended}
use Rattle.machine.specs.Substitution.{Binding}
use Rattle.machine.specs.Answers.{bytes_of, all_anonymous, values_from, line}
use Rattle.run_layout.specs.Nodes.{Symbol}
use Rattle.run_layout.specs.Rooms.{Clean}
use Rattle.answers.specs.Words.{count_word}
use Rattle.answers.specs.Telling.{Counting, Values, SomeValues, Lined}
use Rattle.answers.proofs.NumberLaws.{numbers-none}
use Rattle.answers.proofs.ShallowLaws.{shallow-values}
use Rattle.std.specs.Prelude.{Option, Some, None}
use Rattle.answers.specs.declared.Solution.{Solution}
use Rattle.answers.specs.Fitting.{Answerable, SomeAnswerable, Fitted}

-- marks without a number, and positions that fit
pub counting-at : {marks : List ℕ} {at : ℕ} → Clean marks → count_word < length marks → at + 400 < 2 ^ 64 → Counting (set marks count_word 0) at
counting-at c k l = record { met = []; numbers_are = numbers-none c k; near = omega arith }

-- ---- the scratch words, parted

pub clean-marks : {scratch marks : List ℕ} → Clean scratch → stack ≤ length scratch → marks ≡ take stack scratch → Clean marks
clean-marks {scratch} c l e =
    subst⁻¹ Clean e
    (record {
      long = (let k : length (take stack scratch) ≡ stack = length-take-le stack scratch l in omega arith);
      zero = λ y k. get_or-take stack scratch y 0 (omega arith) ∙ c.zero y k;
    })

pub clean-whole : {marks : List ℕ} → Clean marks → (rest : List ℕ) → Clean (marks ++ rest)
clean-whole {marks} c rest =
    record {
      long = (let e : length (marks ++ rest) ≡ length marks + length rest = length-append marks rest in omega (arith, c.long));
      zero = λ y l. get_or-append marks rest 0 y (omega (arith, c.long)) ∙ c.zero y l;
    }

-- ---- the line

line-yes : (g : Goal) (b : List Binding) → all_anonymous g.names ≡ true → line g b ≡ bytes "yes\n"
unfolding line
line-yes g b e = rw (e, line)

line-values : (g : Goal) (b : List Binding) → all_anonymous g.names ≡ false → line g b ≡ bytes_of [] (values_from b 0 [] g.names)
unfolding line
line-values g b e = rw (e, line)

pub fitted_none : {whole old : List ℕ} {at : ℕ} → length old < at + length whole → Fitted whole old at old None
fitted_none l = record { fits = λ h. absurd (omega arith); full = λ h. (refl, refl) }

pub fitted_some : {whole old new : List ℕ} {at r : ℕ} → at + length whole ≤ length old → Appended old at whole new r → Fitted whole old at new (Some r)
fitted_some {whole} {old} {new} l p = record { fits = λ h. (subst (Appended old _ whole new) p.past p, ap Some p.past); full = λ h. absurd (omega arith) }

pub line-fits-yes : (g : Goal) (b : List Binding) {xs : List (List ℕ)} {r : Bool} {old new : List ℕ} {at : ℕ} {next : Option ℕ} → r ≡ all_anonymous xs → r ≡ true → g.names ≡ xs → Fitted (bytes "yes\n") old at new next → Fitted (line g b) old at new next
line-fits-yes g b e t q p = let is : line g b ≡ bytes "yes\n" = line-yes g b (ap all_anonymous q ∙ (sym e ∙ t)) in rw is p

pub line-fits-values : (g : Goal) (b : List Binding) {xs : List (List ℕ)} {r : Bool} {old new : List ℕ} {at : ℕ} {next : Option ℕ} → r ≡ all_anonymous xs → r ≡ false → g.names ≡ xs → Fitted (bytes_of [] (values_from b 0 [] xs)) old at new next → Fitted (line g b) old at new next
line-fits-values g b {xs} e t q p =
    let is : line g b ≡ bytes_of [] (values_from b 0 [] xs) = line-values g b (ap all_anonymous q ∙ (sym e ∙ t)) ∙ ap (λ (ys : List (List ℕ)). bytes_of [] (values_from b 0 [] ys)) q in
    rw is p

-- ---- measured, then written

pub measured-none : {whole nothing nothing' old : List ℕ} {at past limit : ℕ} → limit ≡ length old → limit < past → Lined limit whole nothing at nothing' past → Fitted whole old at old None
measured-none {whole} {at = at} {limit = limit} e l p = fitted_none (let k : limit < at + length whole = p.over l in omega arith)

pub measured-put : {whole nothing nothing' old new : List ℕ} {at past r limit : ℕ} → limit ≡ length old → past ≤ limit → Lined limit whole nothing at nothing' past → Lined limit whole old at new r → Fitted whole old at new (Some r)
measured-put {whole} {nothing} {nothing'} {at = at} {past} {r} {limit} e l p q =
    let put : Appended nothing at whole nothing' past = p.done l in
    let is : past ≡ at + length whole = put.past in
    fitted_some (omega arith) (q.done (small (λ z. let k : limit < at + length whole = q.over z in omega arith)))
  where
    small : (limit < r → ⊥) → r ≤ limit
    small z = omega (arith, z)

-- whatever the stack, no value opens more than 262,160 brackets at once
pub values_of : {ss : List Symbol} {n : ℕ} {sol : Solution} (stack : List ℕ) → Answerable ss n sol → Values ss n sol stack
values_of {ss} {n} {sol} stack v =
    record {
      setting = record { store = v.store; names = v.symbols_are; rows = record { high = zero-le; each = λ j k. absurd (let z : j < 0 = k in omega arith) } };
      named = v.named;
      shallow = λ i k. shallow-values ss sol.nodes.now sol.state.now n v.store i (let few : sol.count ≤ variables = v.named.few in omega arith);
    }

pub some-values : {sol : Solution} (stack : List ℕ) → SomeAnswerable sol → SomeValues sol stack
some-values stack v = record { ss = v.ss; n = v.n; is = values_of stack v.is }
