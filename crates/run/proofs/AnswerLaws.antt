-- The functions of a run: what comes next, the trail rewound, an answer.
use Prim.Native.Nat.{ℕ, zero, suc, ◌+◌, ◌-◌, ◌*◌, ◌≤◌, ◌<◌}
use native.Mathlib.Omega.{arith}
use mathlib.Core.Path.{◌≡◌, refl, sym, ap, ap₂, ◌∙◌, subst, subst⁻¹}
use mathlib.Core.Bool.{Bool, true, false, cond}
use mathlib.Core.List.{List}
use lib.Dec.{leb, eqb}
use lib.ListN.{length}
use borrow.Author.Tests.{ne_eqb}
use Rattle.syntax.specs.Terms.{Sheet, Goal}
use Rattle.syntax.specs.declared.RunEnd.{RunEnd}
use Rattle.syntax.specs.declared.RunEnd.TheVariants.{Wanted, Done, Steps, Deep}
use Rattle.std.specs.Prelude.{Option, Some, None}
use Rattle.run.specs.Ends.{ended_by}
use Rattle.machine.specs.Machine.{Alternative}
use Rattle.machine.specs.Answers.{line}
use Rattle.machine.specs.Runs.{is_empty, is_answer, goes_deeper}
use Rattle.run_layout.specs.Regions.{alternatives, alternative_of, alternative_size, most_alternatives, state_words}
use Rattle.run_layout.specs.Nodes.{Symbol}
use Rattle.run_layout.specs.State.{bindings}
use Rattle.run_layout.specs.Pile.{pile_of, mark_at}
use Rattle.machine.specs.Low.{Low}
use Rattle.run_layout.proofs.Pile.{height, undone, Means}
use Rattle.bindings.specs.Cells.{Stored, Undone}
use Rattle.bindings.proofs.Deref.{undone-store}
use Rattle.answers.specs.Fitting.{Answerable, SomeAnswerable, Tellable, Fitted}
use Rattle.run_layout.specs.Rooms.{Clean}
use Rattle.bindings.specs.Scratch.{Roomy}
use Rattle.run.specs.Meanings.{Meaning, pile_in, PiledIn}
use Rattle.run.specs.Steps.{Running, meaning, Steppable, Stepped}
use Rattle.run.specs.declared.alternatives.PileHeight.{PileHeight}
use Rattle.run.specs.declared.telling.LoadedProgram.{LoadedProgram}
use Rattle.run.specs.declared.telling.Next.{Next}
use Rattle.run.specs.declared.telling.Next.TheVariants.{End, Answer, Step}
use Rattle.run.specs.Telling.{before_step, solution_of, meaning_of, Rewindable, SamePile, Rewound, Answering, Answered}
use Rattle.std.specs.Borrow.{Bor}
use Rattle.run.proofs.EndLaws.{answer-flat}
use Rattle.answers.specs.Telling.{names_of}

-- ---- what comes next

-- the pile is empty where its height is 0
empty-is : (ss : List Symbol) (sh : Sheet) (g : Goal) (nodes code state : List ℕ) (h : ℕ) → is_empty (pile_of ss sh g nodes code state h) ≡ eqb h 0
unfolding is_empty pile_of
empty-is ss sh g nodes code state zero = refl
empty-is ss sh g nodes code state (suc h) = sym (ne_eqb (suc h) 0 (λ e. omega arith))

-- an end that the counts tell, or what comes else
abbrev onward : Option RunEnd → Next → Next
onward (Some k) rest = End k
onward None rest = rest

by-counts : (a b c : Bool) (rest : Next) → cond a (End Done) (cond b (End Wanted) (cond c (End Steps) rest)) ≡ onward (cond a (Some Done) (cond b (Some Wanted) (cond c (Some Steps) None))) rest
by-counts true b c rest = refl
by-counts false true c rest = refl
by-counts false false true rest = refl
by-counts false false false rest = refl

module _ {nodes code state : List ℕ} {h n : ℕ} (wanted answers left : ℕ) {s : Option RunEnd} (e : s ≡ ended_by h wanted answers left) (w : Running nodes code state h n) where
  abbrev pile : List Alternative
  pile = pile_in (meaning w) state h

  abbrev next : Next
  next = before_step wanted answers left w.sh pile

  abbrev rest : Bool → Bool → Next
  rest a d = cond a Answer (cond d (End Deep) Step)

  next-by : next ≡ onward s (rest (is_answer pile) (goes_deeper w.sh pile))
  unfolding before_step
  next-by =
      ap (λ (x : Bool). cond x (End Done) (cond (leb wanted answers) (End Wanted) (cond (eqb left 0) (End Steps) (rest (is_answer pile) (goes_deeper w.sh pile))))) (empty-is w.ss w.sh w.g nodes code state h)
      ∙ by-counts (eqb h 0) (leb wanted answers) (eqb left 0) (rest (is_answer pile) (goes_deeper w.sh pile))
      ∙ ap (λ (x : Option RunEnd). onward x (rest (is_answer pile) (goes_deeper w.sh pile))) (sym e)

  pub next-over : {k : RunEnd} → s ≡ Some k → End k ≡ next
  next-over q = sym (next-by ∙ ap (λ (x : Option RunEnd). onward x (rest (is_answer pile) (goes_deeper w.sh pile))) q)

  next-open : (a d : Bool) → s ≡ None → a ≡ is_answer pile → d ≡ goes_deeper w.sh pile → next ≡ rest a d
  next-open a d q ea ed = next-by ∙ ap (λ (x : Option RunEnd). onward x (rest (is_answer pile) (goes_deeper w.sh pile))) q ∙ ap₂ rest (sym ea) (sym ed)

  pub next-answer : s ≡ None → true ≡ is_answer pile → Answer ≡ next
  next-answer q ea = sym (next-open true (goes_deeper w.sh pile) q ea refl)

  pub next-deep : s ≡ None → false ≡ is_answer pile → true ≡ goes_deeper w.sh pile → End Deep ≡ next
  next-deep q ea ed = sym (next-open false true q ea ed)

  pub next-step : s ≡ None → false ≡ is_answer pile → false ≡ goes_deeper w.sh pile → Step ≡ next
  next-step q ea ed = sym (next-open false false q ea ed)

-- ---- the trail rewound

module _ {state : List ℕ} {h n : ℕ} (w : Rewindable state h n) where
  pub rewind-room : alternative_of (h - 1) + alternative_size ≤ length state
  rewind-room = let x : h ≤ most_alternatives = height w.meaning.ss w.meaning.sh w.meaning.g w.meaning.nodes w.meaning.code state h n w.piled w.low in let y : state_words ≤ length state = w.piled.long in let z : 1 ≤ h = w.some in omega arith

  pub rewind-stored : Stored state n
  rewind-stored = record { ss = w.meaning.ss; nodes = w.meaning.nodes; store = w.piled.store.raw }

  top-low : h - 1 < h
  top-low = let z : 1 ≤ h = w.some in omega arith

  pub rewind-mark : mark_at state (h - 1) ≤ n
  rewind-mark = (w.piled.each (h - 1) top-low).mark

  module _ {after : List ℕ} (u : Undone state after (mark_at state (h - 1)) n) where
    rewinds : (j : ℕ) → h ≡ suc j → Undone state after (mark_at state j) n → (m : Meaning) → PiledIn m state (suc j) n → SamePile m state after (suc j) (mark_at state j)
    rewinds j e v m p =
        let x : Means m.ss m.sh m.g m.nodes m.code after (suc j) (mark_at state j) (pile_in m state (suc j)) = undone m.ss m.sh m.g m.nodes m.code state after j n (mark_at state j) p refl v.keeps (undone-store m.ss m.nodes state after (mark_at state j) n (p.each j (omega arith)).mark v p.store) in
        record { piled = x.piled; is = x.is }

    rewound-by : (j : ℕ) → h ≡ suc j → (m : Meaning) → PiledIn m state h n → SamePile m state after h (mark_at state (h - 1))
    rewound-by j e m p =
        let k : j ≡ h - 1 = omega arith in
        subst⁻¹ (λ (x : ℕ). SamePile m state after x (mark_at state (h - 1))) e
        (subst (λ (x : ℕ). SamePile m state after (suc j) (mark_at state x)) k
        (rewinds j e (subst⁻¹ (λ (x : ℕ). Undone state after (mark_at state x) n) k u) m (subst (λ (x : ℕ). PiledIn m state x n) e p)))

    pub rewind-end : Rewound state after h n (mark_at state (h - 1))
    rewind-end =
        record {
          long = u.keeps.long;
          mark = u.keeps.others (alternatives + (h - 1) * alternative_size + 3) (omega arith);
          same = rewound-by (h - 1) (let z : 1 ≤ h = w.some in omega arith);
        }

pub rewind-low : {state : List ℕ} {h n m : ℕ} (w : Rewindable state h n) → m ≡ mark_at state (h - 1) → m ≤ n
rewind-low {state} {h} {n} {m} w e = subst⁻¹ (λ (x : ℕ). x ≤ n) e (rewind-mark w)

pub rewind-ends : {state after : List ℕ} {h n m : ℕ} (w : Rewindable state h n) → m ≡ mark_at state (h - 1) → Undone state after m n → Rewound state after h n m
rewind-ends {state} {after} {h} {n} {m} w e u = subst⁻¹ (Rewound state after h n) e (rewind-end w (subst (λ (x : ℕ). Undone state after x n) e u))

-- ---- an answer

none-some : (k : ℕ) → ◌≡◌ {A = Option ℕ} None (Some k) → ⊥
none-some k q = let z : ◌≡◌ {A = ℕ} 0 1 = cc in omega arith

module _ {loaded : LoadedProgram} {state scratch text : List ℕ} {h n at : ℕ} (w : Answering loaded state scratch text h n at) where
  abbrev m : Meaning
  m = meaning_of w.ss w.sh w.g loaded

  pub answer-rewinds : Rewindable state h n
  answer-rewinds = record { meaning = m; piled = w.under.piled; low = w.under.low; some = w.some }

  module _ {mid : List ℕ} {trail : ℕ} (x : Rewound state mid h n trail) where
    same-pile : SamePile m state mid h trail
    same-pile = x.same m w.under.piled

    pub answer-room : (at ≤ length text) × Tellable scratch (length text - at)
    answer-room = (w.room, (let x : Tellable scratch (length text) = w.under.lent.deep in omega arith))

    pub answer-steps : {scratch1 : List ℕ} → length scratch1 ≡ length scratch → Clean scratch1 → Steppable m.nodes m.code mid scratch1 h trail
    answer-steps {scratch1} e clean =
        record {
          running = record { ss = w.ss; sh = w.sh; g = w.g; piled = same-pile.piled; low = subst⁻¹ Low same-pile.is w.under.low };
          some = w.some;
          goes = ap (goes_deeper w.sh) same-pile.is ∙ answer-flat w.sh (pile_in m state h) w.answer;
          roomy = (let r : Roomy scratch = w.under.lent.roomy in omega arith);
          clean = clean;
        }

  -- the state as the line's function is lent it
  module _ (mid : Bor (List ℕ)) {trail : ℕ} (x : Rewound state mid.now h n trail) where
    tells : Answerable w.ss trail (solution_of loaded mid)
    tells = record { store = (same-pile x).piled.store; symbols_are = w.spelt.spelt; named = w.spelt.named }

    pub answer-tells : SomeAnswerable (solution_of loaded mid)
    answer-tells = record { ss = w.ss; n = trail; is = tells }

    module _ {new : List ℕ} {r : Option ℕ} (f : (ss : List Symbol) (k : ℕ) (g : Goal) → Answerable ss k (solution_of loaded mid) → g.names ≡ names_of (solution_of loaded mid) → Fitted (line g (bindings ss m.nodes mid.now k)) text at new r) where
      fitted-here : Fitted (line w.g (bindings w.ss m.nodes mid.now trail)) text at new r
      fitted-here = f w.ss trail w.g tells w.spelt.names_are

      pub answer-full : {scratch1 : List ℕ} → length scratch1 ≡ length scratch → Clean scratch1 → r ≡ None
          → Answered w mid.now scratch1 new (record { at = None; height = h; trail = trail })
      answer-full {scratch1} e clean z =
          record {
            mid = mid.now;
            between = scratch1;
            trail = trail;
            same = same-pile x;
            mark = x.mark;
            told = subst (Fitted (line w.g (bindings w.ss m.nodes mid.now trail)) text at new) z fitted-here;
            stepped = λ k q. absurd (none-some k q);
            stopped = λ q. (refl, (refl, (refl, clean)));
            state_long = x.long;
            scratch_long = e;
            later_long = e;
          }

      pub answer-on : {scratch1 : List ℕ} {past : ℕ} → length scratch1 ≡ length scratch → Clean scratch1 → r ≡ Some past
          → (after later : List ℕ) (p : PileHeight)
          → ((v : Steppable m.nodes m.code mid.now scratch1 h trail) → Stepped (meaning v.running) mid.now after scratch1 later h p)
          → Answered w after later new (record { at = Some past; height = p.height; trail = p.trail })
      unfolding answer-steps
      answer-on {scratch1} {past} e clean z after later p k =
          let s : Stepped m mid.now after scratch1 later h p = k (answer-steps x e clean) in
          record {
            mid = mid.now;
            between = scratch1;
            trail = trail;
            same = same-pile x;
            mark = x.mark;
            told = subst (Fitted (line w.g (bindings w.ss m.nodes mid.now trail)) text at new) z fitted-here;
            stepped = λ k q. s;
            stopped = λ q. absurd (none-some past (sym q));
            state_long = s.state_long ∙ x.long;
            scratch_long = e;
            later_long = s.scratch_long ∙ e;
          }
