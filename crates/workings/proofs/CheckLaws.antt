-- Workings checked over a loaded program: the answer told, and what is refused. Assumes nothing.
use Prim.Native.Nat.{ℕ, ◌+◌, ◌≤◌, ◌<◌}
use native.Mathlib.Omega.{arith}
use mathlib.Core.Path.{◌≡◌, refl, sym, ap, ◌∙◌, subst, subst⁻¹}
use mathlib.Core.Bool.{Bool, true, false, cond}
use mathlib.Core.List.{List}
use mathlib.Core.Logic.{◌⊎◌, inl, inr}
use lib.Dec.{leb, ltb}
use lib.ListN.{length}
use borrow.Author.Tests.{ltb-true, ltb-false, le-leb, lt-leb}
use Rattle.std.specs.Prelude.{Option, Some, None, Result, Ok, Err}
use Rattle.std.specs.Borrow.{Bor}
use Rattle.syntax.specs.Terms.{Goal}
use Rattle.syntax.specs.declared.Fault.{Fault}
use Rattle.syntax.specs.declared.Text.TheVariants.{Workings as in_workings, Neither}
use Rattle.syntax.specs.declared.Refusal.TheVariants.{BadWorkings, LineTooLong}
use Rattle.machine.specs.Answers.{line}
use Rattle.run_layout.specs.Regions.{store_words, state_words}
use Rattle.run_layout.specs.Rooms.{Zeros, Clean}
use Rattle.bindings.specs.Cells.{Stored, Undone}
use Rattle.bindings.proofs.Deref.{undone-clean}
use Rattle.run_layout.specs.Nodes.{Symbol}
use Rattle.run_layout.specs.State.{bindings}
use Rattle.answers.specs.Telling.{names_of}
use Rattle.answers.specs.Fitting.{Answerable, SomeAnswerable, Tellable, Fitted}
use Rattle.run.specs.Meanings.{Meaning}
use Rattle.run.specs.Telling.{solution_of, meaning_of, LentScratch}
use Rattle.run.specs.Programs.{LimitedTables, Programmed, LinkedTables}
use Rattle.run.specs.declared.alternatives.PileHeight.{PileHeight}
use Rattle.run.specs.declared.telling.LoadedProgram.{LoadedProgram}
use Rattle.run.proofs.ProgramLaws.{linked, runnable}
use Rattle.derivations.specs.Workings.{Replayed, records_of, replay, begun, WorkingsOutcome, rejected, told, fitting, over_replay, workings_answer, workings_text}
use Rattle.workings.specs.Replays.{AnswerStands, ReplayStartable, start_meaning, ReplayEnded}
use Rattle.workings.specs.Checks.{OutcomeTold, LinkedOver, Checkable}

-- ---- the line

lt-or-le : (a b : ℕ) → (a < b) ⊎ (b ≤ a)
lt-or-le a b = by (ltb a b) refl
  where
    by : (o : Bool) → ltb a b ≡ o → (a < b) ⊎ (b ≤ a)
    by true e = inl (ltb-true a b e)
    by false e = inr (ltb-false a b e)

none-some : (k : ℕ) → ◌≡◌ {A = Option ℕ} None (Some k) → ⊥
none-some k q = let z : ◌≡◌ {A = ℕ} 0 1 = cc in omega arith

some-eq : (m n : ℕ) → ◌≡◌ {A = Option ℕ} (Some m) (Some n) → m ≡ n
some-eq m n q = cc

module _ (l old : List ℕ) where
  -- by whether the line fits
  abbrev by-room : Bool → WorkingsOutcome
  by-room t = cond t (told l) (rejected Neither LineTooLong)

  fitting-is : fitting (length old) l ≡ by-room (leb (length l) (length old))
  unfolding fitting
  fitting-is = refl

  fits-is : length l ≤ length old → fitting (length old) l ≡ told l
  fits-is h = fitting-is ∙ ap by-room (le-leb (length l) (length old) h)

  long-is : length old < length l → fitting (length old) l ≡ rejected Neither LineTooLong
  long-is h = fitting-is ∙ ap by-room (lt-leb (length l) (length old) h)

  module _ (new : List ℕ) (r : Option ℕ) (f : Fitted l old 0 new r) where
    pub line-told : (bytes : ℕ) → r ≡ Some bytes → OutcomeTold (fitting (length old) l) old new (Ok bytes)
    unfolding workings_answer workings_text
    line-told bytes q = go (lt-or-le (length old) (length l))
      where
        go : (length old < length l) ⊎ (length l ≤ length old) → OutcomeTold (fitting (length old) l) old new (Ok bytes)
        go (inl h) = absurd (none-some bytes (sym (f.full (omega (arith, h))).0 ∙ q))
        go (inr h) =
            subst⁻¹ (λ (o : WorkingsOutcome). OutcomeTold o old new (Ok bytes)) (fits-is h)
            (record {
              is = ap (λ (n : ℕ). Ok n) (some-eq bytes (0 + length l) (sym q ∙ (f.fits (omega (arith, h))).1) ∙ (let z : 0 + length l ≡ length l = omega arith in z));
              text_is = (f.fits (omega (arith, h))).0.text;
            })

    pub line-refused : r ≡ None → OutcomeTold (fitting (length old) l) old new (Err (record { text = Neither; refusal = LineTooLong }))
    unfolding workings_answer workings_text
    line-refused q = go (lt-or-le (length old) (length l))
      where
        go : (length old < length l) ⊎ (length l ≤ length old) → OutcomeTold (fitting (length old) l) old new (Err (record { text = Neither; refusal = LineTooLong }))
        go (inl h) =
            subst⁻¹ (λ (o : WorkingsOutcome). OutcomeTold o old new (Err (record { text = Neither; refusal = LineTooLong }))) (long-is h)
            (record { is = refl; text_is = (f.full (omega (arith, h))).1 })
        go (inr h) = absurd (none-some (0 + length l) (sym q ∙ (f.fits (omega (arith, h))).1))

-- ---- the replay, and then the line

module _ {loaded : LoadedProgram} {clauses : ℕ} {state scratch text : List ℕ} (w : Checkable loaded clauses state scratch text) where
  abbrev m : Meaning
  m = meaning_of w.runnable.ss w.runnable.sh w.runnable.g loaded

  pub replayable : ReplayStartable loaded.nodes.now loaded.code.now clauses state scratch
  replayable =
      record {
        start = record {
          ss = w.runnable.ss;
          sh = w.runnable.sh;
          g = w.runnable.g;
          program = w.runnable.program;
          long = w.runnable.long;
          clean = w.runnable.clean;
        };
        count = w.count;
        roomy = w.runnable.lent.roomy;
        clean = w.runnable.lent.clean;
      }

  pub replay-tellable : (later : List ℕ) → length later ≡ length scratch → Tellable later (length text)
  replay-tellable later e = omega (arith, e, w.runnable.lent.deep)

  -- there is room for all cells and marks
  pub replay-room : (after later : List ℕ) → length after ≡ length state → length later ≡ length scratch → (store_words ≤ length after) × (store_words ≤ length later)
  replay-room after later e f = (omega (arith, e, w.runnable.clean.long), omega (arith, f, w.runnable.lent.clean.long))

  module _ (workings : List ℕ) (after : Bor (List ℕ)) (later : List ℕ) (r : Result PileHeight ℕ)
      (k : (v : ReplayStartable loaded.nodes.now loaded.code.now clauses state scratch) → ReplayEnded (start_meaning v) after.now later (replay v.start.sh (records_of workings) (begun v.start.g)) r) where
    abbrev comes : Replayed
    comes = replay w.runnable.sh (records_of workings) (begun w.runnable.g)

    ended : (x : Result PileHeight ℕ) → r ≡ x → ReplayEnded m after.now later comes x
    unfolding replayable
    ended x q = subst (ReplayEnded m after.now later comes) q (k replayable)

    -- no answer
    pub replay-refused : (i : ℕ) → r ≡ Err i
        → OutcomeTold (over_replay w.runnable.g (length text) comes) text text (Err (record { text = in_workings; refusal = BadWorkings i }))
    unfolding ReplayEnded over_replay workings_answer workings_text
    replay-refused i q =
        subst⁻¹ (λ (x : Replayed). OutcomeTold (over_replay w.runnable.g (length text) x) text text (Err (record { text = in_workings; refusal = BadWorkings i }))) (ended (Err i) q)
        (record { is = refl; text_is = refl })

    -- an answer
    module _ (pile : PileHeight) (q : r ≡ Ok pile) where
      stands : AnswerStands m after.now later comes pile
      unfolding ReplayEnded
      stands = ended (Ok pile) q

      answerable : Answerable w.runnable.ss pile.trail (solution_of loaded after)
      answerable = record { store = stands.piled.store; symbols_are = w.runnable.spelt.spelt; named = w.runnable.spelt.named }

      pub replay-answerable : SomeAnswerable (solution_of loaded after)
      replay-answerable = record { ss = w.runnable.ss; n = pile.trail; is = answerable }

      pub replay-clean : Clean later
      replay-clean = stands.clean

      pub replay-stored : Stored after.now pile.trail
      replay-stored = record { ss = w.runnable.ss; nodes = loaded.nodes.now; store = stands.piled.store.raw }

      -- the line told, and all unbound again
      pub replay-leaves : {told state1 : List ℕ} → Clean told → Undone after.now state1 0 pile.trail → Clean state1 × Clean told
      replay-leaves {told} {state1} s u = (undone-clean after.now state1 pile.trail replay-stored u, s)

      pub replay-told : (new : List ℕ) (x : Result ℕ Fault)
          → ((ss : List Symbol) (n : ℕ) (g : Goal) → Answerable ss n (solution_of loaded after) → g.names ≡ names_of (solution_of loaded after)
          → OutcomeTold (fitting (length text) (line g (bindings ss loaded.nodes.now after.now n))) text new x)
          → OutcomeTold (over_replay w.runnable.g (length text) comes) text new x
      unfolding over_replay
      replay-told new x f =
          subst⁻¹ (λ (y : Replayed). OutcomeTold (over_replay w.runnable.g (length text) y) text new x) stands.is
          (f w.runnable.ss pile.trail w.runnable.g answerable w.runnable.spelt.names_are)

-- ---- tables of its own

module _ {loaded : LoadedProgram} {clauses : ℕ} (w : LinkedOver loaded clauses) where
  pub checkable : {state scratch text : List ℕ} → Zeros state_words state → LentScratch scratch (length text) → Checkable loaded clauses state scratch text
  unfolding runnable
  checkable z y = record { runnable = runnable w.linked z y; count = w.count }

  pub state-told : {state scratch text : List ℕ} (z : Zeros state_words state) (y : LentScratch scratch (length text)) (workings new : List ℕ) (x : Result ℕ Fault)
      → ((v : Checkable loaded clauses state scratch text) → OutcomeTold (over_replay v.runnable.g (length text) (replay v.runnable.sh (records_of workings) (begun v.runnable.g))) text new x)
      → OutcomeTold (over_replay w.linked.g (length text) (replay w.linked.sh (records_of workings) (begun w.linked.g))) text new x
  unfolding checkable runnable
  state-told z y workings new x f = f (checkable z y)

module _ (l : LoadedProgram) {table : List ℕ} {clauses : ℕ} {goals : List ℕ} {literals : ℕ} (w : Programmed l.sheet.now table clauses l.goal.now goals literals l.names.now l.count)
    (k : (v : LimitedTables l.sheet.now table clauses l.goal.now goals literals) → LinkedTables l.sheet.now l.goal.now v.tables.sh v.tables.g l.nodes.now l.symbols.now l.code.now) where
  pub linked-over : LinkedOver l clauses
  unfolding linked
  linked-over = record { linked = linked l w k; count = w.tables.clauses_count }

  pub load-told : (workings old new : List ℕ) (x : Result ℕ Fault)
      → ((v : LinkedOver l clauses) → OutcomeTold (over_replay v.linked.g (length old) (replay v.linked.sh (records_of workings) (begun v.linked.g))) old new x)
      → OutcomeTold (over_replay w.tables.g (length old) (replay w.tables.sh (records_of workings) (begun w.tables.g))) old new x
  unfolding linked-over linked
  load-told workings old new x f = f linked-over
