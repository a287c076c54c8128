-- A run in one turn: its start, its end, what it gives and what it leaves.
use Prim.Native.Nat.{ℕ}
use native.Mathlib.Omega.{arith}
use mathlib.Core.Path.{refl, sym, ap, ap₂, ◌∙◌, subst⁻¹}
use mathlib.Core.List.{List, []}
use lib.ListN.{length}
use Rattle.syntax.specs.declared.RunEnd.{RunEnd}
use Rattle.syntax.specs.declared.RunEnd.TheVariants.{Steps}
use Rattle.machine.specs.Machine.{Alternative}
use Rattle.machine.specs.Runs.{run_from, begun, run}
use Rattle.machine.specs.Low.{Low}
use Rattle.machine_theorems.proofs.Low.{low-start}
use Rattle.run_layout.specs.Rooms.{Clean}
use Rattle.bindings.specs.Cells.{Stored, Undone}
use Rattle.bindings.proofs.Deref.{undone-clean}
use Rattle.run.specs.Meanings.{Meaning}
use Rattle.run.specs.Steps.{Startable, Started}
use Rattle.run.specs.declared.telling.LoadedProgram.{LoadedProgram}
use Rattle.run.specs.Turns.{Turned, Underway}
use Rattle.run.specs.Running.{RunWritten, Runnable}
use Rattle.run.specs.declared.turns.Carried.{Carried}
use Rattle.run.specs.Telling.{meaning_of}

-- what a run carries at first: the goal alone on the pile
abbrev pub first : Carried
first = record { height = 1; trail = 0; answers = 0; steps = 0; at = 0; kind = Steps }

module _ {loaded : LoadedProgram} {state scratch text : List ℕ} (w : Runnable loaded state scratch text) where
  abbrev m : Meaning
  m = meaning_of w.ss w.sh w.g loaded

  abbrev nodes : List ℕ
  nodes = loaded.nodes.now

  abbrev code : List ℕ
  code = loaded.code.now

  startable : Startable nodes code state
  startable = record { ss = w.ss; sh = w.sh; g = w.g; program = w.program; long = w.long; clean = w.clean }

  pub go-startable : (nodes : List ℕ) × Startable nodes code state
  go-startable = (nodes, startable)

  module _ {state1 : List ℕ} (s : (nodes : List ℕ) (v : Startable nodes code state) → Started v state1) where
    started-here : Started startable state1
    started-here = s nodes startable

    pub go-underway : Underway loaded state1 scratch text first
    unfolding begun startable
    go-underway =
        record {
          ss = w.ss;
          sh = w.sh;
          g = w.g;
          spelt = w.spelt;
          old = text;
          progress = begun w.sh w.g;
          carries = record {
            under = record { piled = started-here.piled; low = subst⁻¹ Low started-here.is (low-start w.sh w.g w.program.goal_short); lent = w.lent };
            is = ap (λ (q : List Alternative). record { pile = q; answers = 0; steps = 0; text = [] }) (sym started-here.is);
            at_is = refl;
            fits = omega arith;
            text_is = refl;
          };
        }

    pub go-ends : (allowance wanted : ℕ) {state2 scratch2 new : List ℕ} {t : Carried}
        → ((v : Underway loaded state1 scratch text first) → Turned (meaning_of v.ss v.sh v.g loaded) state2 scratch2 v.old new (run_from v.sh v.g wanted (length v.old) allowance v.progress) t)
        → Turned m state2 scratch2 text new (run w.sh w.g allowance wanted (length text)) t
    unfolding go-underway run
    go-ends allowance wanted k = k go-underway

-- ---- all unbound again

module _ {loaded : LoadedProgram} {state scratch text : List ℕ} (allowance wanted : ℕ) {state1 scratch1 new : List ℕ} {t : Carried}
    (w : Runnable loaded state scratch text)
    (k : (v : Runnable loaded state scratch text) → Turned (meaning_of v.ss v.sh v.g loaded) state1 scratch1 text new (run v.sh v.g allowance wanted (length text)) t) where
  pub go-stored : Stored state1 t.trail
  go-stored = let p = (k w).carries.under.piled in record { ss = w.ss; nodes = loaded.nodes.now; store = p.store.raw }

  pub go-leaves : {state2 : List ℕ} → Undone state1 state2 0 t.trail → Clean state2 × Clean scratch1
  go-leaves {state2} u = (undone-clean state1 state2 t.trail go-stored u, (k w).carries.under.lent.clean)

  pub go-runs : RunWritten w.sh w.g allowance wanted text new (record { report = record { kind = t.kind; answers = t.answers; steps = t.steps }; bytes = t.at })
  go-runs =
      let z : Turned (meaning_of w.ss w.sh w.g loaded) state1 scratch1 text new (run w.sh w.g allowance wanted (length text)) t = k w in
      record {
        is = ap (λ (x : RunEnd). record { kind = x; answers = t.answers; steps = t.steps }) z.kind_is
            ∙ ap₂ (λ (a b : ℕ). record { kind = (run w.sh w.g allowance wanted (length text)).kind; answers = a; steps = b }) z.answers_is z.steps_is;
        bytes_is = z.carries.at_is;
        text_is = z.carries.text_is;
      }
