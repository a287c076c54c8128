-- What the outcome of a check of workings says of derivations. Assumes nothing.
use Prim.Native.Nat.{ℕ, ◌≤◌}
use native.Mathlib.Omega.{arith}
use mathlib.Core.Path.{◌≡◌, refl, sym, ap, ◌∙◌, subst}
use mathlib.Core.Bool.{Bool, true, false, cond}
use mathlib.Core.List.{List}
use lib.Dec.{leb}
use lib.ListN.{length}
use lib.Seq.{sets}
use borrow.Author.Tests.{leb-true, leb-false}
use Rattle.std.specs.Prelude.{Result, Ok, Err}
use Rattle.syntax.specs.declared.Fault.{Fault}
use Rattle.syntax.specs.Terms.{Sheet, Goal}
use Rattle.syntax.specs.Verdicts.{Outcome, refused, accepted}
use Rattle.syntax.specs.declared.Text.{Text}
use Rattle.syntax.specs.declared.Text.TheVariants.{Sheet as in_sheet, Goal as in_goal, Workings as in_workings, Neither}
use Rattle.syntax.specs.declared.Refusal.{Refusal}
use Rattle.syntax.specs.declared.Refusal.TheVariants.{BadWorkings, LineTooLong}
use Rattle.mode_rules.specs.Checking.{checked_sheet, checked_goal}
use Rattle.machine.specs.Substitution.{Binding}
use Rattle.machine.specs.Answers.{line}
use Rattle.derivations.specs.Workings.{Replayed, answered, stopped, records_of, replay, begun, WorkingsOutcome, rejected, told, fitting, over_replay, over_goal, over_sheet, workings_outcome, workings_answer, workings_text}
use Rattle.derivations.specs.Derivations.{ReplaysExactly, ByteIsRight}
use Rattle.derivations.specs.Outcomes.{AcceptedTexts, DerivesLine, DerivesNothing, RightOutcome, RightAnswer}
use Rattle.derivations.proofs.Exactly.{exactly}
use Rattle.derivations.proofs.Byte.{byte-right}

told-eq : (l k : List ℕ) → told l ≡ told k → l ≡ k
told-eq l k e = cc

byte-eq : (i j : ℕ) → rejected in_workings (BadWorkings i) ≡ rejected in_workings (BadWorkings j) → i ≡ j
byte-eq i j e = cc

told-rejected : {A : Type 0} (l : List ℕ) (t : Text) (r : Refusal) → told l ≡ rejected t r → A
told-rejected l t r e = absurd (let z : ◌≡◌ {A = ℕ} 0 1 = cc in omega arith)

rejected-told : {A : Type 0} (l : List ℕ) (t : Text) (r : Refusal) → rejected t r ≡ told l → A
rejected-told l t r e = absurd (let z : ◌≡◌ {A = ℕ} 0 1 = cc in omega arith)

text-eq : (t u : Text) (r q : Refusal) → rejected t r ≡ rejected u q → t ≡ u
text-eq t u r q e = cc

-- a refusal of the sheet or of the goal says nothing of the workings
abbrev Elsewhere : Text → Type 0
Elsewhere t = (t ≡ in_workings → ⊥) × (t ≡ Neither → ⊥)

in-sheet : Elsewhere in_sheet
in-sheet = ((λ e. (let z : ◌≡◌ {A = ℕ} 0 1 = cc in omega arith)), (λ e. (let z : ◌≡◌ {A = ℕ} 0 1 = cc in omega arith)))

in-goal : Elsewhere in_goal
in-goal = ((λ e. (let z : ◌≡◌ {A = ℕ} 0 1 = cc in omega arith)), (λ e. (let z : ◌≡◌ {A = ℕ} 0 1 = cc in omega arith)))

module _ (sheet goal workings : List ℕ) (room : ℕ) where
  abbrev Right : WorkingsOutcome → Type 0
  Right o = RightOutcome sheet goal workings room o

  elsewhere : (t : Text) → Elsewhere t → (r : Refusal) → Right (rejected t r)
  elsewhere t h r =
      record {
        line = λ l e. rejected-told l t r e;
        not_accepted = λ byte e. absurd (h.0 (text-eq t in_workings r (BadWorkings byte) e));
        too_long = λ e. absurd (h.1 (text-eq t Neither r LineTooLong e));
      }

  module _ (texts : AcceptedTexts sheet goal) where
    answered-right : (b : List Binding) → ReplaysExactly texts.sh texts.g (records_of workings) (answered b) → Right (fitting room (line texts.g b))
    unfolding ReplaysExactly fitting
    answered-right b x = by (leb (length (line texts.g b)) room) refl
      where
        derives : DerivesLine sheet goal workings (line texts.g b)
        derives = record { texts = texts; choices = x.0; records_are = x.1; bindings = b; answer = x.2; line_is = refl }

        by : (t : Bool) → leb (length (line texts.g b)) room ≡ t → Right (cond t (told (line texts.g b)) (rejected Neither LineTooLong))
        by true e =
            record {
              line = λ l q. subst (λ (k : List ℕ). DerivesLine sheet goal workings k × (length k ≤ room)) (told-eq (line texts.g b) l q) (derives, leb-true (length (line texts.g b)) room e);
              not_accepted = λ byte q. told-rejected (line texts.g b) in_workings (BadWorkings byte) q;
              too_long = λ q. told-rejected (line texts.g b) Neither LineTooLong q;
            }
        by false e =
            record {
              line = λ l q. rejected-told l Neither LineTooLong q;
              not_accepted = λ byte q. absurd (let p : Neither ≡ in_workings = text-eq Neither in_workings LineTooLong (BadWorkings byte) q in let z : ◌≡◌ {A = ℕ} 0 1 = cc in omega arith);
              too_long = λ q. (line texts.g b, derives, leb-false (length (line texts.g b)) room e);
            }

    stopped-right : (i : ℕ) → ReplaysExactly texts.sh texts.g (records_of workings) (stopped i) → ByteIsRight texts.sh texts.g (records_of workings) (stopped i)
        → Right (rejected in_workings (BadWorkings i))
    unfolding ReplaysExactly
    stopped-right i x y =
        record {
          line = λ l q. rejected-told l in_workings (BadWorkings i) q;
          not_accepted = λ byte q. subst (DerivesNothing sheet goal workings) (byte-eq i byte q) (record { texts = texts; none = x; byte_is = y });
          too_long = λ q. absurd (let p : in_workings ≡ Neither = text-eq in_workings Neither (BadWorkings i) LineTooLong q in let z : ◌≡◌ {A = ℕ} 0 1 = cc in omega arith);
        }

    replayed-right : (r : Replayed) → ReplaysExactly texts.sh texts.g (records_of workings) r → ByteIsRight texts.sh texts.g (records_of workings) r → Right (over_replay texts.g room r)
    unfolding over_replay
    replayed-right (answered b) x y = answered-right b x
    replayed-right (stopped i) x y = stopped-right i x y

  goal-right : (sh : Sheet) → checked_sheet sheet ≡ accepted sh → (o : Outcome Goal) → checked_goal sh goal ≡ o → Right (over_goal workings room sh o)
  unfolding over_goal
  goal-right sh s (refused r) e = elsewhere in_goal in-goal r
  goal-right sh s (accepted g) e =
      replayed-right (record { sh = sh; g = g; sheet_accepted = s; goal_accepted = e }) (replay sh (records_of workings) (begun g))
      (exactly sh g (records_of workings)) (byte-right sh g (records_of workings))

  sheet-right : (o : Outcome Sheet) → checked_sheet sheet ≡ o → Right (over_sheet goal workings room o)
  unfolding over_sheet
  sheet-right (refused r) e = elsewhere in_sheet in-sheet r
  sheet-right (accepted sh) e = goal-right sh e (checked_goal sh goal) refl

  pub outcome-right : Right (workings_outcome sheet goal workings room)
  unfolding workings_outcome
  outcome-right = sheet-right (checked_sheet sheet) refl

-- ---- what a check answers

ok-eq : (m n : ℕ) → ◌≡◌ {A = Result ℕ Fault} (Ok m) (Ok n) → m ≡ n
ok-eq m n e = cc

err-ok : {A : Type 0} (f : Fault) (n : ℕ) → ◌≡◌ {A = Result ℕ Fault} (Err f) (Ok n) → A
err-ok f n e = absurd (let z : ◌≡◌ {A = ℕ} 0 1 = cc in omega arith)

ok-err : {A : Type 0} (f : Fault) (n : ℕ) → ◌≡◌ {A = Result ℕ Fault} (Ok n) (Err f) → A
ok-err f n e = absurd (let z : ◌≡◌ {A = ℕ} 0 1 = cc in omega arith)

err-eq : (f g : Fault) → ◌≡◌ {A = Result ℕ Fault} (Err f) (Err g) → f ≡ g
err-eq f g e = cc

module _ (sheet goal workings old new : List ℕ) (r : Result ℕ Fault) where
  by-outcome : (o : WorkingsOutcome) → RightOutcome sheet goal workings (length old) o → r ≡ workings_answer o → new ≡ sets old 0 (workings_text o) → RightAnswer sheet goal workings old new r
  unfolding workings_answer workings_text
  by-outcome (told l) x e t =
      record {
        line = λ n q. (l, (x.line l refl).0, ok-eq n (length l) (sym q ∙ e), (x.line l refl).1, t);
        not_accepted = λ byte q. ok-err (record { text = in_workings; refusal = BadWorkings byte }) (length l) (sym e ∙ q);
        too_long = λ q. ok-err (record { text = Neither; refusal = LineTooLong }) (length l) (sym e ∙ q);
      }
  by-outcome (rejected t q) x e w =
      record {
        line = λ n p. err-ok (record { text = t; refusal = q }) n (sym e ∙ p);
        not_accepted = λ byte p. x.not_accepted byte (same (record { text = in_workings; refusal = BadWorkings byte }) (sym e ∙ p));
        too_long = λ p. x.too_long (same (record { text = Neither; refusal = LineTooLong }) (sym e ∙ p));
      }
    where
      same : (f : Fault) → ◌≡◌ {A = Result ℕ Fault} (Err (record { text = t; refusal = q })) (Err f) → rejected t q ≡ rejected f.text f.refusal
      same f p = ap (λ (g : Fault). rejected g.text g.refusal) (err-eq (record { text = t; refusal = q }) f p)

  pub answer-right : r ≡ workings_answer (workings_outcome sheet goal workings (length old)) → new ≡ sets old 0 (workings_text (workings_outcome sheet goal workings (length old)))
      → RightAnswer sheet goal workings old new r
  answer-right = by-outcome (workings_outcome sheet goal workings (length old)) (outcome-right sheet goal workings (length old))
