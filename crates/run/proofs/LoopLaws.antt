-- A run under way: its beginning, its ends, a step and an answer.
use Prim.Native.Nat.{ℕ, zero, suc, ◌+◌, ◌-◌, ◌≤◌, ◌<◌}
use native.Mathlib.Omega.{arith}
use native.Mathlib.Nat.{zero-add}
use mathlib.Core.Path.{◌≡◌, refl, sym, ap, ap₂, ◌∙◌, subst⁻¹}
use mathlib.Core.Bool.{Bool, true, false}
use mathlib.Core.List.{List, ◌++◌}
use mathlib.Core.Logic.{◌⊎◌, inl, inr}
use lib.Dec.{ltb, eqb}
use Rattle.std.specs.Prelude.{Option, Some, None}
use lib.ListN.{length, length-append}
use borrow.Author.Tests.{ltb-true, ltb-false, lt-ltb, le-ltb}
use lib.Seq.{sets, length-sets}
use Rattle.syntax.specs.declared.RunEnd.{RunEnd}
use Rattle.syntax.specs.declared.RunEnd.TheVariants.{Full}
use Rattle.words.proofs.BuffersLaws.{sets-append}
use Rattle.machine.specs.Machine.{Alternative, step}
use Rattle.machine.specs.Low.{Low}
use Rattle.machine_theorems.proofs.Low.{low_step}
use Rattle.machine.specs.Answers.{line}
use Rattle.machine.specs.Runs.{Progress, Ended, is_empty, is_answer, next_line, goes_deeper, run_from}
use Rattle.run_layout.specs.State.{bindings}
use Rattle.run_layout.specs.Pile.{pile_of, mark_at}
use Rattle.run_layout.specs.Rooms.{Clean}
use Rattle.bindings.specs.Scratch.{Roomy}
use Rattle.run.specs.Meanings.{Meaning, pile_in, PiledIn}
use Rattle.run.specs.declared.telling.Next.TheVariants.{End, Answer, Step}
use Rattle.answers.specs.Fitting.{Tellable, Fitted}
use Rattle.run.specs.Telling.{before_step, Under}
use Rattle.run.specs.Turns.{Ongoing, ProgressCarried, Turned}
use Rattle.run.specs.declared.turns.Carried.{Carried}
use Rattle.run.proofs.EndLaws.{Goes, Answers, run_ends, run-steps, run-answers}
use Rattle.run.proofs.LineLaws.{line_of}

none-some : (k : ℕ) → ◌≡◌ {A = Option ℕ} None (Some k) → ⊥
none-some k q = let z : ◌≡◌ {A = ℕ} 0 1 = cc in omega arith

some-eq : (m n : ℕ) → ◌≡◌ {A = Option ℕ} (Some m) (Some n) → m ≡ n
some-eq m n q = cc

left-some : (left : ℕ) → eqb left 0 ≡ false → 0 < left
left-some zero q = absurd (let y : ◌≡◌ {A = Bool} true false = q in let x : ◌≡◌ {A = ℕ} 0 1 = cc in omega arith)
left-some (suc left) q = omega arith

pile-some : (m : Meaning) (state : List ℕ) (h : ℕ) → is_empty (pile_in m state h) ≡ false → 1 ≤ h
unfolding is_empty pile_of
pile-some m state zero q = absurd (let y : ◌≡◌ {A = Bool} true false = q in let x : ◌≡◌ {A = ℕ} 0 1 = cc in omega arith)
pile-some m state (suc h) q = omega arith

roomy-same : (a b : List ℕ) → length b ≡ length a → Roomy a → Roomy b
roomy-same a b e r = omega (arith, e, r)

lt-or-le : (a b : ℕ) → (a < b) ⊎ (b ≤ a)
lt-or-le a b = by (ltb a b) refl
  where
    by : (o : Bool) → ltb a b ≡ o → (a < b) ⊎ (b ≤ a)
    by true e = inl (ltb-true a b e)
    by false e = inr (ltb-false a b e)

not-over : (room n : ℕ) → n ≤ room → ltb room n ≡ false
not-over room n l = le-ltb room n l

over : (room n : ℕ) → room < n → ltb room n ≡ true
over room n l = lt-ltb room n l

pub begins : {m : Meaning} {state scratch old new : List ℕ} {p : Progress} {t : Carried} (wanted k : ℕ) → ProgressCarried m state scratch old new p t → Ongoing m state scratch (run_from m.sh m.g wanted (length old) k p) (t.steps + k) wanted old new t
begins {m} {old = old} {p = p} {t = t} wanted k c =
    let z : k ≡ t.steps + k - t.steps = omega arith in
    record {
      under = c.under;
      written = p.text;
      at_is = c.at_is;
      fits = c.fits;
      text_is = c.text_is;
      steps_few = omega arith;
      whole = ap₂ (run_from m.sh m.g wanted (length old)) z c.is;
    }

module _ {m : Meaning} {final : Ended} {allowance wanted : ℕ} {old : List ℕ} where
  module _ {state scratch new : List ℕ} {t : Carried} (o : Ongoing m state scratch final allowance wanted old new t) where
    abbrev here : Progress
    here = record { pile = pile_in m state t.height; answers = t.answers; steps = t.steps; text = o.written }

    pub ends : (k : RunEnd) → before_step wanted t.answers (allowance - t.steps) m.sh (pile_in m state t.height) ≡ End k → Turned m state scratch old new final (record { height = t.height; trail = t.trail; answers = t.answers; steps = t.steps; at = t.at; kind = k })
    ends k q =
        subst⁻¹ (λ (x : Ended). Turned m state scratch old new x (record { height = t.height; trail = t.trail; answers = t.answers; steps = t.steps; at = t.at; kind = k })) (o.whole ∙ run_ends m.sh m.g wanted (length old) (allowance - t.steps) here k q)
        (record {
          kind_is = refl;
          answers_is = refl;
          steps_is = refl;
          carries = record { under = o.under; is = refl; at_is = o.at_is; fits = o.fits; text_is = o.text_is };
        })

    later : (state1 scratch1 : List ℕ) (h1 n1 : ℕ) → PiledIn m state1 h1 n1 → Low (pile_in m state1 h1) → Clean scratch1 → length scratch1 ≡ length scratch → Under m state1 scratch1 (length old) h1 n1
    later state1 scratch1 h1 n1 p low c e =
        record {
          piled = p;
          low = low;
          lent = record { roomy = roomy-same scratch scratch1 e o.under.lent.roomy; clean = c; deep = (let x : Tellable scratch (length old) = o.under.lent.deep in omega arith) };
        }

    -- a step that is no answer
    module _ (q : before_step wanted t.answers (allowance - t.steps) m.sh (pile_in m state t.height) ≡ Step) where
      goes : Goes m.sh m.g wanted (length old) (allowance - t.steps) here
      goes = run-steps m.sh m.g wanted (length old) (allowance - t.steps) here q

      pub step-some : 1 ≤ t.height
      step-some = pile-some m state t.height goes.some_left

      pub step-flat : goes_deeper m.sh (pile_in m state t.height) ≡ false
      step-flat = goes.flat

      pub step-few : t.steps < allowance
      step-few = let x : 0 < allowance - t.steps = left-some (allowance - t.steps) goes.more in omega arith

      pub steps_on : (state1 scratch1 : List ℕ) (h1 n1 : ℕ) → PiledIn m state1 h1 n1 → pile_in m state1 h1 ≡ step m.sh (pile_in m state t.height) → Clean scratch1 → length scratch1 ≡ length scratch → Ongoing m state1 scratch1 final allowance wanted old new (record { height = h1; trail = n1; answers = t.answers; steps = t.steps + 1; at = t.at; kind = t.kind })
      steps_on state1 scratch1 h1 n1 p e c l =
          let x : t.steps < allowance = step-few in
          let z : allowance - t.steps - 1 ≡ allowance - (t.steps + 1) = omega arith in
          let y : suc t.steps ≡ t.steps + 1 = omega arith in
          record {
            under = later state1 scratch1 h1 n1 p (subst⁻¹ Low e (low_step m.sh p.program.bodies_short (pile_in m state t.height) o.under.low)) c l;
            written = o.written;
            at_is = o.at_is;
            fits = o.fits;
            text_is = o.text_is;
            steps_few = omega arith;
            whole = o.whole ∙ goes.on ∙ ap₂ (λ (k : ℕ) (v : List Alternative). run_from m.sh m.g wanted (length old) k (record { pile = v; answers = t.answers; steps = suc t.steps; text = o.written })) z (sym e)
                ∙ ap (λ (s : ℕ). run_from m.sh m.g wanted (length old) (allowance - (t.steps + 1)) (record { pile = pile_in m state1 h1; answers = t.answers; steps = s; text = o.written })) y;
          }

    -- an answer, once the trail is that of the top alternative
    module _ (q : before_step wanted t.answers (allowance - t.steps) m.sh (pile_in m state t.height) ≡ Answer) where
      answers-here : Answers m.sh m.g wanted (length old) (allowance - t.steps) here
      answers-here = run-answers m.sh m.g wanted (length old) (allowance - t.steps) here q

      pub answer-some : 1 ≤ t.height
      answer-some = pile-some m state t.height answers-here.some_left

      pub answer-here : is_answer (pile_in m state t.height) ≡ true
      answer-here = answers-here.answer

      pub answer-few : t.steps < allowance
      answer-few = let x : 0 < allowance - t.steps = left-some (allowance - t.steps) answers-here.more in omega arith

      module _ (state1 : List ℕ) (trail : ℕ) (p : PiledIn m state1 t.height trail) (e : pile_in m state1 t.height ≡ pile_in m state t.height) (mark : mark_at state1 (t.height - 1) ≡ trail) where
        same_low : Low (pile_in m state1 t.height)
        same_low = subst⁻¹ Low e o.under.low

        line-here : (k : ℕ) → t.height ≡ suc k → next_line m.g (pile_in m state t.height) ≡ line m.g (bindings m.ss m.nodes state1 (mark_at state1 k))
        line-here k z =
            ap (next_line m.g) (sym e ∙ ap (pile_in m state1) z)
            ∙ line_of m.ss m.sh m.g m.nodes m.code state1 k (sym (ap is_answer (sym e ∙ ap (pile_in m state1) z)) ∙ answers-here.answer)

        the-line : next_line m.g (pile_in m state t.height) ≡ line m.g (bindings m.ss m.nodes state1 trail)
        the-line =
            let l : 1 ≤ t.height = answer-some in
            let z : t.height ≡ suc (t.height - 1) = omega arith in
            line-here (t.height - 1) z ∙ ap (λ (k : ℕ). line m.g (bindings m.ss m.nodes state1 k)) mark

        pub answer-room : t.at ≤ length new
        answer-room = let x : length new ≡ length old = ap length o.text_is ∙ length-sets old 0 o.written in let y : t.at ≤ length old = o.fits in omega arith

        module _ (new1 : List ℕ) (r : Option ℕ) (f : Fitted (line m.g (bindings m.ss m.nodes state1 trail)) new t.at new1 r) where
          abbrev L : ℕ
          L = length (line m.g (bindings m.ss m.nodes state1 trail))

          room-same : length new ≡ length old
          room-same = ap length o.text_is ∙ length-sets old 0 o.written

          total : length o.written + length (next_line m.g (pile_in m state t.height)) ≡ t.at + L
          total = ap₂ (λ (a b : ℕ). a + b) (sym o.at_is) (ap length the-line)

          pub full : r ≡ None → (scratch2 : List ℕ) → Clean scratch2 → length scratch2 ≡ length scratch
              → Turned m state1 scratch2 old new1 final (record { height = t.height; trail = trail; answers = t.answers; steps = t.steps; at = t.at; kind = Full })
          full z scratch2 c2 l2 = by (lt-or-le (length new) (t.at + L))
            where
              stops : Ended → List ℕ → Type 0
              stops x u = Turned m state1 scratch2 old u x (record { height = t.height; trail = trail; answers = t.answers; steps = t.steps; at = t.at; kind = Full })

              by : (length new < t.at + L) ⊎ (t.at + L ≤ length new) → stops final new1
              by (inl l) =
                  subst⁻¹ (stops final) (f.full l).1
                  (subst⁻¹ (λ (x : Ended). stops x new) (o.whole ∙ answers-here.full (over (length old) (length o.written + length (next_line m.g (pile_in m state t.height))) (let y : length new ≡ length old = room-same in let w : length o.written + length (next_line m.g (pile_in m state t.height)) ≡ t.at + L = total in omega arith)))
                  (record {
                    kind_is = refl;
                    answers_is = refl;
                    steps_is = refl;
                    carries = record {
                      under = later state1 scratch2 t.height trail p same_low c2 l2;
                      is = ap (λ (v : List Alternative). record { pile = v; answers = t.answers; steps = t.steps; text = o.written }) (sym e);
                      at_is = o.at_is;
                      fits = o.fits;
                      text_is = o.text_is;
                    };
                  }))
              by (inr l) =
                  absurd (none-some (t.at + L) (sym z ∙ (f.fits l).1))

          fitting : {next : ℕ} → r ≡ Some next → t.at + L ≤ length new
          fitting {next} z = by (lt-or-le (length new) (t.at + L))
            where
              by : (length new < t.at + L) ⊎ (t.at + L ≤ length new) → t.at + L ≤ length new
              by (inl l) = absurd (none-some next (sym (f.full l).0 ∙ z))
              by (inr l) = l

          pub answers-on : {next : ℕ} → r ≡ Some next → (state2 scratch2 : List ℕ) (h2 n2 : ℕ) → PiledIn m state2 h2 n2 → pile_in m state2 h2 ≡ step m.sh (pile_in m state1 t.height) → Clean scratch2 → length scratch2 ≡ length scratch → Ongoing m state2 scratch2 final allowance wanted old new1 (record { height = h2; trail = n2; answers = t.answers + 1; steps = t.steps + 1; at = next; kind = t.kind })
          answers-on {next} z state2 scratch2 h2 n2 p2 e2 c2 l2 =
              let x : t.steps < allowance = answer-few in
              let fit : t.at + L ≤ length new = fitting z in
              let past : next ≡ t.at + L = some-eq next (t.at + L) (sym z ∙ (f.fits fit).1) in
              let same : length new ≡ length old = room-same in
              let tot : length o.written + length (next_line m.g (pile_in m state t.height)) ≡ t.at + L = total in
              let w : allowance - t.steps - 1 ≡ allowance - (t.steps + 1) = omega arith in
              let y : suc t.steps ≡ t.steps + 1 = omega arith in
              record {
                under = later state2 scratch2 h2 n2 p2 (subst⁻¹ Low e2 (low_step m.sh p2.program.bodies_short (pile_in m state1 t.height) same_low)) c2 l2;
                written = o.written ++ line m.g (bindings m.ss m.nodes state1 trail);
                at_is = past ∙ ap (λ (a : ℕ). a + L) o.at_is ∙ sym (length-append o.written (line m.g (bindings m.ss m.nodes state1 trail)));
                fits = omega arith;
                text_is = (f.fits fit).0.text ∙ ap₂ (λ (u : List ℕ) (a : ℕ). sets u a (line m.g (bindings m.ss m.nodes state1 trail))) o.text_is (o.at_is ∙ sym (zero-add (length o.written))) ∙ sym (sets-append old 0 o.written (line m.g (bindings m.ss m.nodes state1 trail)));
                steps_few = omega arith;
                whole = o.whole ∙ answers-here.on (not-over (length old) (length o.written + length (next_line m.g (pile_in m state t.height))) (omega arith))
                    ∙ ap₂ (λ (k : ℕ) (v : List Alternative). run_from m.sh m.g wanted (length old) k (record { pile = v; answers = t.answers + 1; steps = suc t.steps; text = o.written ++ next_line m.g (pile_in m state t.height) })) w (ap (step m.sh) (sym e) ∙ sym e2)
                    ∙ ap₂ (λ (k : ℕ) (u : List ℕ). run_from m.sh m.g wanted (length old) (allowance - (t.steps + 1)) (record { pile = pile_in m state2 h2; answers = t.answers + 1; steps = k; text = o.written ++ u })) y the-line;
              }
