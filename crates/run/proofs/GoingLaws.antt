-- The loop of a run: what holds from turn to turn, and each way on or out of it.
use Prim.Native.Nat.{ℕ, ◌+◌, ◌-◌, ◌≤◌, ◌<◌}
use native.Mathlib.Omega.{arith}
use mathlib.Core.Path.{◌≡◌, refl, sym, ap, ◌∙◌, subst, subst⁻¹}
use mathlib.Core.Bool.{false}
use mathlib.Core.List.{List}
use Rattle.std.specs.Prelude.{Some, None}
use lib.ListN.{length}
use lib.Seq.{length-sets}
use Rattle.syntax.specs.declared.RunEnd.{RunEnd}
use Rattle.syntax.specs.declared.RunEnd.TheVariants.{Full}
use Rattle.machine.specs.Machine.{Alternative}
use Rattle.machine.specs.Runs.{Ended, goes_deeper, run_from}
use Rattle.run_layout.specs.Rooms.{Clean}
use Rattle.run.specs.Meanings.{Meaning, pile_in}
use Rattle.run.specs.Steps.{Running, meaning, Steppable, Stepped}
use Rattle.run.specs.declared.alternatives.PileHeight.{PileHeight}
use Rattle.run.specs.declared.telling.LoadedProgram.{LoadedProgram}
use Rattle.run.specs.declared.telling.Next.{Next}
use Rattle.run.specs.declared.telling.Next.TheVariants.{End, Answer, Step}
use Rattle.run.specs.declared.telling.AnswerTold.{AnswerTold}
use Rattle.run.specs.Telling.{before_step, meaning_of, Under, Answering, Answered}
use Rattle.run.specs.Turns.{Ongoing, Turned, Underway}
use Rattle.run.specs.declared.turns.Carried.{Carried}
use Rattle.run.proofs.EndLaws.{answer-below}
use Rattle.run.proofs.LoopLaws.{begins, ends, step-some, step-flat, step-few, steps_on, answer-some, answer-few, answer-here, full, answers-on}

-- the words that a run writes
pub record Words : Type 0 where
  pub state : List ℕ
  pub scratch : List ℕ
  pub text : List ℕ

-- What holds from turn to turn: the words are as long as at first, and the run that was under way stands where it carries `t`.
pub record Going (loaded : LoadedProgram) (first : Words) (t₀ : Carried) (k wanted : ℕ) (now : Words) (t : Carried) : Type 0 where
  pub state_long : length now.state ≡ length first.state
  pub scratch_long : length now.scratch ≡ length first.scratch
  pub text_long : length now.text ≡ length first.text
  pub on : (w : Underway loaded first.state first.scratch first.text t₀) → Ongoing (meaning_of w.ss w.sh w.g loaded) now.state now.scratch (run_from w.sh w.g wanted (length w.old) k w.progress) (t₀.steps + k) wanted w.old now.text t

pub go-begin : {loaded : LoadedProgram} {first : Words} {t : Carried} {k wanted : ℕ} → Going loaded first t k wanted first t
go-begin {k = k} {wanted = wanted} = record { state_long = refl; scratch_long = refl; text_long = refl; on = λ w. begins wanted k w.carries }

module _ {loaded : LoadedProgram} {first : Words} {t₀ : Carried} {k wanted : ℕ} {now : Words} {t : Carried} (i : Going loaded first t₀ k wanted now t) where
  module _ (w : Underway loaded first.state first.scratch first.text t₀) where
    abbrev m : Meaning
    m = meaning_of w.ss w.sh w.g loaded

    abbrev pile : List Alternative
    pile = pile_in m now.state t.height

    abbrev end : Ended
    end = run_from w.sh w.g wanted (length w.old) k w.progress

    running : Running m.nodes m.code now.state t.height t.trail
    running = record { ss = w.ss; sh = w.sh; g = w.g; piled = (i.on w).under.piled; low = (i.on w).under.low }

    text_same : length now.text ≡ length w.old
    text_same = ap length (i.on w).text_is ∙ length-sets w.old 0 (i.on w).written

    pub go-running : (nodes : List ℕ) × Running nodes m.code now.state t.height t.trail
    go-running = (m.nodes, running)

    pub go-few : t.steps ≤ t₀.steps + k
    go-few = (i.on w).steps_few

    module _ {r : Next} (e : (nodes : List ℕ) (v : Running nodes m.code now.state t.height t.trail) → r ≡ before_step wanted t.answers (t₀.steps + k - t.steps) v.sh (pile_in (meaning v) now.state t.height)) where
      next : r ≡ before_step wanted t.answers (t₀.steps + k - t.steps) w.sh pile
      unfolding running
      next = e m.nodes running

      pub go-end : (ending : RunEnd) → r ≡ End ending → Turned m now.state now.scratch w.old now.text end (record { height = t.height; trail = t.trail; answers = t.answers; steps = t.steps; at = t.at; kind = ending })
      go-end ending q = ends (i.on w) ending (sym next ∙ q)

      -- a step that is no answer
      module _ (q : r ≡ Step) where
        stepping : before_step wanted t.answers (t₀.steps + k - t.steps) w.sh pile ≡ Step
        stepping = sym next ∙ q

        pub go-steps : Steppable m.nodes m.code now.state now.scratch t.height t.trail
        go-steps =
            record {
              running = running;
              some = step-some (i.on w) stepping;
              goes = flat;
              roomy = (i.on w).under.lent.roomy;
              clean = (i.on w).under.lent.clean;
            }
          where
            flat : goes_deeper running.sh (pile_in (meaning running) now.state t.height) ≡ false
            flat = unfold running in step-flat (i.on w) stepping

        pub go-more : t.steps < t₀.steps + k
        go-more = step-few (i.on w) stepping

        stepped-on : (state1 scratch1 : List ℕ) (p : PileHeight) → ((v : Steppable m.nodes m.code now.state now.scratch t.height t.trail) → Stepped (meaning v.running) now.state state1 now.scratch scratch1 t.height p) → Stepped m now.state state1 now.scratch scratch1 t.height p
        unfolding go-steps running
        stepped-on state1 scratch1 p f = f go-steps

        pub steps-going : (state1 scratch1 : List ℕ) (p : PileHeight) → ((v : Steppable m.nodes m.code now.state now.scratch t.height t.trail) → Stepped (meaning v.running) now.state state1 now.scratch scratch1 t.height p) → Ongoing m state1 scratch1 end (t₀.steps + k) wanted w.old now.text (record { height = p.height; trail = p.trail; answers = t.answers; steps = t.steps + 1; at = t.at; kind = t.kind })
        steps-going state1 scratch1 p f =
            let s : Stepped m now.state state1 now.scratch scratch1 t.height p = stepped-on state1 scratch1 p f in
            steps_on (i.on w) stepping state1 scratch1 p.height p.trail s.piled s.is s.clean s.scratch_long

      -- an answer
      module _ (q : r ≡ Answer) where
        answering : before_step wanted t.answers (t₀.steps + k - t.steps) w.sh pile ≡ Answer
        answering = sym next ∙ q

        pub go-answers : Answering loaded now.state now.scratch now.text t.height t.trail t.at
        go-answers =
            record {
              ss = w.ss;
              sh = w.sh;
              g = w.g;
              spelt = w.spelt;
              under = subst (λ (x : ℕ). Under m now.state now.scratch x t.height t.trail) (sym text_same) (i.on w).under;
              some = answer-some (i.on w) answering;
              answer = answer-here (i.on w) answering;
              room = (let x : length now.text ≡ length w.old = text_same in let y : t.at ≤ length w.old = (i.on w).fits in omega arith);
            }

        pub go-answer-more : t.steps < t₀.steps + k
        go-answer-more = answer-few (i.on w) answering

        pub go-below : t.answers < wanted
        go-below = answer-below wanted t.answers (t₀.steps + k - t.steps) w.sh pile answering

        module _ {state1 scratch1 text1 : List ℕ} {told : AnswerTold} (a : (v : Answering loaded now.state now.scratch now.text t.height t.trail t.at) → Answered v state1 scratch1 text1 told) where
          answered : Answered go-answers state1 scratch1 text1 told
          answered = a go-answers

          abbrev carried : ℕ → ℕ → Carried
          carried h n = record { height = h; trail = n; answers = t.answers; steps = t.steps; at = t.at; kind = Full }

          pub go-full : told.at ≡ None → Turned m state1 scratch1 w.old text1 end (carried told.height told.trail)
          unfolding go-answers
          go-full z =
              let s : (state1 ≡ answered.mid) × ((told.height ≡ t.height) × ((told.trail ≡ answered.trail) × Clean scratch1)) = answered.stopped z in
              subst⁻¹ (λ (x : List ℕ). Turned m x scratch1 w.old text1 end (carried told.height told.trail)) s.0
              (subst⁻¹ (λ (x : ℕ). Turned m answered.mid scratch1 w.old text1 end (carried x told.trail)) s.1.0
              (subst⁻¹ (λ (x : ℕ). Turned m answered.mid scratch1 w.old text1 end (carried t.height x)) s.1.1.0
              (full (i.on w) answering answered.mid answered.trail answered.same.piled answered.same.is answered.mark text1 told.at answered.told z scratch1 s.1.1.1 answered.later_long)))

          pub answers-going : {past : ℕ} → told.at ≡ Some past → Ongoing m state1 scratch1 end (t₀.steps + k) wanted w.old text1 (record { height = told.height; trail = told.trail; answers = t.answers + 1; steps = t.steps + 1; at = past; kind = t.kind })
          unfolding go-answers
          answers-going {past} z =
              let s : Stepped m answered.mid state1 answered.between scratch1 t.height (record { height = told.height; trail = told.trail }) = answered.stepped past z in
              answers-on (i.on w) answering answered.mid answered.trail answered.same.piled answered.same.is answered.mark text1 told.at answered.told z
              state1 scratch1 told.height told.trail s.piled s.is s.clean (s.scratch_long ∙ answered.scratch_long)
