-- Laws of the outer loop: what holds whether bindings close a cycle or not, what while none does, and that there is no unifier if one does. Assumes nothing.
use Prim.Native.Nat.{ℕ, suc, ◌+◌, ◌-◌, ◌*◌, ◌≤◌, ◌<◌, ◌^◌}
use native.Mathlib.Omega.{arith}
use mathlib.Core.Path.{◌≡◌, refl, sym, ap, ap₂, ◌∙◌, subst, subst⁻¹}
use mathlib.Core.Bool.{Bool, true, false}
use mathlib.Core.List.{List, ◌∷◌}
use mathlib.Core.Logic.{◌⊎◌, inl, inr}
use mathlib.Core.Option.{Option, none, some}
use lib.Dec.{T, ltb, eqb}
use lib.ListN.{length, get_or, set, length-set}
use lib.Seq.{get_or-set_same, get_or-set_other}
use borrow.Author.Tests.{ltb-true, ltb-false, eqb-true, eqb-false}
use Rattle.std.proofs.Common.{Ok, Err, Option as Maybe, Some, None}
use Rattle.std.proofs.Math.Nat.{suc-mul}
use Rattle.machine.specs.Substitution.{rnil, occurs, Binding, resolve}
use Rattle.run_layout.specs.Regions.{copies, places, cells, trail, store_words, pending, pairs, cuts_word, memo, rows, loaded_node}
use Rattle.run_layout.specs.Nodes.{Symbol, term_at}
use Rattle.run_layout.specs.State.{variable_of, word_of, cell_at, trail_at, bindings, ClosesCycle, Acyclic, RawStore, WithinCopies, BindingsKept, bound_words}
use Rattle.run_layout.proofs.Nodes.{node-inside, node_end}
use Rattle.run_layout.proofs.State.{bind-raw, bind-keeps, bind-means, bind-within, bind-closing, bind-closed, bind-earlier, bind-acyclic, word_some, bound-entry, bound-cell, bound-cells, keeps-refl, keeps-trans, within-agrees, agrees, acyclic-agrees, room, few}
use Rattle.run_layout.specs.declared.terms.At.{At}
use Rattle.bindings.specs.Cells.{StoredTerm, Stored, Undone}
use Rattle.run_layout.specs.Rooms.{Clean}
use Rattle.bindings.specs.Plain.{Closed, Closing, Plain}
use Rattle.bindings.specs.Memos.{Memo, classes_made}
use Rattle.bindings.specs.Cuts.{cuts_made}
use Rattle.bindings.specs.Scratch.{left_at, right_at, SameMarks}
use Rattle.bindings.proofs.Apart.{closed-bound, plain-free}
use Rattle.bindings.proofs.Remembering.{memo-none, memo-kept, memo-bound}
use Rattle.unify.specs.Rows.{unify_rows}
use Rattle.unify.specs.Stacks.{end_of, rows_of, StackSide, Stack, no_term, WholesEqual}
use Rattle.unify.specs.Turns.{over, Turn, BindingDue, TurnGives, Turnable, Solvable, Solved, answered}
use Rattle.unify.specs.Shapes.{SideRows, StackRows, most_left, mass, SafeTurnable, SafeBinding, TurnFalls}
use Rattle.unify.specs.Cycles.{Shallow, pending_at, Testable, Tested, Looked}
use Rattle.unify.specs.declared.solve.TurnStop.{TurnStop}
use Rattle.unify.specs.declared.solve.TurnStop.TheVariants.{Clash, Bind}
use Rattle.unify.proofs.Rules.{rows-done}
use Rattle.unify.proofs.Closing.{closes-agree}
use Rattle.unify.proofs.CycleLaws.{shallow-free}
use Rattle.unify.proofs.Stacked.{left-kept, right_kept, rows_agree, stack-agrees, stack-bound}
use Rattle.unify.proofs.Shapes.{power-some, mass-agrees, mass-bounded, heaviest, rows-agreed}

-- ---- what holds

-- whether bindings close a cycle or not: each entry closes none, or its cell is pending
pub record SafeSolving {nodes before scratch : List ℕ} {n : ℕ} (g : Solvable nodes before scratch n) (after later : List ℕ) (m h count : ℕ) : Type 0 where
  pub grows : n ≤ m
  pub store : RawStore g.work.ss nodes after m
  pub within : WithinCopies g.work.top after m
  pub keeps : BindingsKept n before after
  pub clean : Clean later
  pub long : length later ≡ length scratch
  pub rows : StackRows g.work.ss nodes g.work.top later h
  pub low : count + n ≤ m
  pub cell : (j : ℕ) → j < count → pending_at later j < cells
  pub bound : (j : ℕ) → j < count → cell_at after (pending_at later j) ≡ 0 → ⊥
  pub entry : (i : ℕ) → i < m → (ClosesCycle g.work.ss nodes after i → ⊥) ⊎ ((j : ℕ) × ((j < count) × (trail_at after i ≡ pending_at later j)))

-- while none closes a cycle
pub record SoundSolving {nodes before scratch : List ℕ} {n : ℕ} (g : Solvable nodes before scratch n) (after later : List ℕ) (m h : ℕ) : Type 0 where
  pub stack : Stack g.work.ss nodes (bindings g.work.ss nodes after m) g.work.top (left_at later) (right_at later) h
  pub means : unify_rows (bindings g.work.ss nodes before n) (rows_of g.work.ss nodes (left_at scratch) 1) (rows_of g.work.ss nodes (right_at scratch) 1) ≡ unify_rows (bindings g.work.ss nodes after m) (rows_of g.work.ss nodes (left_at later) h) (rows_of g.work.ss nodes (right_at later) h)
  pub memo : Memo g.work.ss nodes (bindings g.work.ss nodes after m) later
  pub closes : WholesEqual g.work.ss nodes (bindings g.work.ss nodes after m) (left_at later) (right_at later) h no_term no_term

-- what the definition answers
abbrev pub answer_of : {nodes before scratch : List ℕ} {n : ℕ} → Solvable nodes before scratch n → Option (List Binding)
answer_of {nodes} {before} {scratch} {n} g = unify_rows (bindings g.work.ss nodes before n) (rows_of g.work.ss nodes (left_at scratch) 1) (rows_of g.work.ss nodes (right_at scratch) 1)

pub record Solving {nodes before scratch : List ℕ} {n : ℕ} (g : Solvable nodes before scratch n) (after later : List ℕ) (m h count : ℕ) : Type 0 where
  pub safe : SafeSolving g after later m h count
  pub sound : Acyclic g.work.ss nodes after m → SoundSolving g after later m h
  pub lost : (Acyclic g.work.ss nodes after m → ⊥) → answer_of g ≡ none

-- what follows from a statement and from its contrary, where it is that there is no answer
either-way : {P : Type 0} (a : Option (List Binding)) → (P → a ≡ none) → ((P → ⊥) → a ≡ none) → a ≡ none
either-way none f k = refl
either-way (some b) f k = absurd (never (k (λ p. never (f p))))
  where
    never : some b ≡ none → ⊥
    never e = absurd (cc)

pub solve-begin : {nodes state scratch : List ℕ} {n : ℕ} (g : Solvable nodes state scratch n) → Solving g state scratch n 1 0
solve-begin {nodes} {state} {scratch} {n} g =
    record {
      safe = record {
        grows = omega arith;
        store = g.work.store.raw;
        within = g.work.within;
        keeps = keeps-refl n state;
        clean = g.clean;
        long = refl;
        rows = record { low = omega arith; left = side g.work.stack.left; right = side g.work.stack.right; same = g.work.stack.same };
        low = omega arith;
        cell = λ j l. absurd (let z : j < 0 = l in omega arith);
        bound = λ j l. absurd (let z : j < 0 = l in omega arith);
        entry = λ i l. inl (g.work.store.acyclic i l);
      };
      sound = λ f. record { stack = g.work.stack; means = refl; memo = g.work.memo; closes = g.closes };
      lost = λ z. absurd (z g.work.store.acyclic);
    }
  where
    side : {s : ℕ → _} → StackSide g.work.ss nodes (bindings g.work.ss nodes state n) g.work.top s 1 → SideRows g.work.ss nodes g.work.top s 1
    side w = record { node = w.node; copy = w.copy; below = w.below; row = w.row }

-- no bindings but the first n
no_rows : (ss : List Symbol) (nodes after : List ℕ) → (rows_of ss nodes (left_at after) 0 ≡ rnil) × (rows_of ss nodes (right_at after) 0 ≡ rnil)
unfolding rows_of
no_rows ss nodes after = (refl, refl)

module _ {nodes before after scratch later : List ℕ} {n m h count : ℕ} (g : Solvable nodes before scratch n) (s : Solving g after later m h count) where
  abbrev pub ss : List Symbol
  ss = g.work.ss

  solve-few : m ≤ cells
  solve-few = few ss nodes after m s.safe.store

  solve-roomy : rows ≤ length later
  solve-roomy = let e : length later ≡ length scratch = s.safe.long in let o : rows ≤ length scratch = g.work.roomy in omega arith

  -- ---- how much is left

  pub mass-low : mass nodes (left_at later) h < heaviest
  mass-low =
      let a : mass nodes (left_at later) h + _ ≤ heaviest = mass-bounded nodes (left_at later) h s.safe.rows.low small in
      let b : 0 < _ = power-some most_left (suc pairs - h) (omega arith) in
      omega (arith, a, b)
    where
      small : (k : ℕ) → k < h → suc (end_of nodes (left_at later k) - (left_at later k).at) < most_left
      small k l =
          let a : end_of nodes (left_at later k) ≤ length nodes = node_end ss nodes (left_at later k).root (s.safe.rows.left.node k l) in
          let b : length nodes ≤ places = s.safe.store.small in
          omega arith

  -- ---- the bindings undone

  pub solve-stored : Stored after m
  solve-stored = record { ss = ss; nodes = nodes; store = s.safe.store }

  solved-none : answer_of g ≡ none → {end next : List ℕ} → Undone after end n m → Clean next → length next ≡ length later → Solved g end next (record { equal = false; trail = n })
  unfolding answered
  solved-none e {end} {next} u clean long =
      let kept : BindingsKept n before end = keeps-trans n n before after end (omega arith) s.safe.keeps u.keeps in
      record {
        grows = omega arith;
        undone = λ f. refl;
        store = record { raw = u.store ss nodes s.safe.store; acyclic = acyclic-agrees ss nodes before end n (agrees n before end kept) g.work.store.acyclic };
        within = within-agrees g.work.top n m after end s.safe.grows (agrees n after end u.keeps) s.safe.within;
        keeps = kept;
        clean = clean;
        long = long ∙ s.safe.long;
        answer = e;
      }

  -- ---- the test for cycles

  pub solve-testable : Testable nodes after later count
  solve-testable =
      record {
        ss = ss;
        n = m;
        store = s.safe.store;
        roomy = solve-roomy;
        clean = s.safe.clean;
        few = (let a : m ≤ cells = solve-few in let b : count + n ≤ m = s.safe.low in omega arith);
        cell = s.safe.cell;
        bound = s.safe.bound;
      }

  module _ {next : List ℕ} {r : Bool} (c : (v : Testable nodes after later count) → Tested v next r) where
    tested : Tested solve-testable next r
    tested = c solve-testable

    -- none was found
    acyclic : r ≡ false → Acyclic ss nodes after m
    unfolding solve-testable
    acyclic e i l z = elim (s.safe.entry i l) [ inl k ↦ k z | inr k ↦ tested.free e k.0 k.1.0 i l k.1.1 z ]

    pub solve-cyclic : r ≡ true → {end : List ℕ} → Undone after end n m → Solved g end next (record { equal = false; trail = n })
    unfolding solve-testable
    solve-cyclic e u = solved-none (s.lost (tested.cyclic e)) u tested.clean tested.long

    -- and the rows are at their end
    pub solve-done : r ≡ false → h ≤ 0 → Solved g after next (record { equal = true; trail = m })
    unfolding answered solve-testable
    solve-done e l =
        let z : h ≡ 0 = omega arith in
        record {
          grows = s.safe.grows;
          undone = λ f. cc;
          store = record { raw = s.safe.store; acyclic = acyclic e };
          within = s.safe.within;
          keeps = s.safe.keeps;
          clean = tested.clean;
          long = tested.long ∙ s.safe.long;
          answer = (s.sound (acyclic e)).means
              ∙ (ap (λ (i : ℕ). unify_rows (bindings ss nodes after m) (rows_of ss nodes (left_at later) i) (rows_of ss nodes (right_at later) i)) z
              ∙ (ap₂ (unify_rows (bindings ss nodes after m)) (no_rows ss nodes later).0 (no_rows ss nodes later).1 ∙ rows-done (bindings ss nodes after m)));
        }

  -- ---- a look

  module _ {end : List ℕ} {r : Maybe ℕ} (c : (v : Testable nodes after later count) → Looked v end r) where
    looked : Looked solve-testable end r
    looked = c solve-testable

    pub look-lost : r ≡ None → {undone : List ℕ} → Undone after undone n m → Solved g undone end (record { equal = false; trail = n })
    unfolding solve-testable
    look-lost e u = solved-none (s.lost (looked.cyclic e)) u looked.clean looked.long

    -- on, with no memo, and nothing pending or as much as before
    module _ {left : ℕ} (e : r ≡ Some left) where
      left-same : (k : ℕ) → k < h → left_at end k ≡ left_at later k
      left-same k l = left-kept later end (λ j a b. looked.kept j (omega arith) (omega arith)) k (let z : h ≤ pairs = s.safe.rows.low in omega arith)

      right-same : (k : ℕ) → k < h → right_at end k ≡ right_at later k
      right-same k l = right_kept later end (λ j a b. looked.kept j (omega arith) (omega arith)) k (let z : h ≤ pairs = s.safe.rows.low in omega arith)

      still-pending : (j : ℕ) → j < count → pending_at end j ≡ pending_at later j
      still-pending j l = looked.kept (pending + j) (omega arith) (let a : m ≤ cells = solve-few in let b : count + n ≤ m = s.safe.low in omega arith)

      on-with : (k : ℕ) → k ≤ count → ((i : ℕ) → i < m → (ClosesCycle ss nodes after i → ⊥) ⊎ ((j : ℕ) × ((j < k) × (trail_at after i ≡ pending_at end j)))) → Solving g after end m h k
      on-with k few entries =
          record {
            safe = record {
              grows = s.safe.grows;
              store = s.safe.store;
              within = s.safe.within;
              keeps = s.safe.keeps;
              clean = looked.clean;
              long = looked.long ∙ s.safe.long;
              rows = rows-agreed ss nodes g.work.top later end h left-same right-same s.safe.rows;
              low = (let o : count + n ≤ m = s.safe.low in omega arith);
              cell = λ j l. subst⁻¹ (λ (x : ℕ). x < cells) (still-pending j (omega arith)) (s.safe.cell j (omega arith));
              bound = λ j l z. s.safe.bound j (omega arith) (ap (cell_at after) (sym (still-pending j (omega arith))) ∙ z);
              entry = entries;
            };
            sound = λ f. (let d : SoundSolving g after later m h = s.sound f in
                record {
                  stack = stack-agrees ss nodes (bindings ss nodes after m) g.work.top (left_at later) (right_at later) (left_at end) (right_at end) h left-same right-same d.stack;
                  means = d.means ∙ ap₂ (unify_rows (bindings ss nodes after m)) (sym (rows_agree ss nodes (left_at later) (left_at end) h left-same)) (sym (rows_agree ss nodes (right_at later) (right_at end) h right-same));
                  memo = memo-none ss nodes (bindings ss nodes after m) end looked.no_classes looked.no_cuts;
                  closes = closes-agree ss nodes (bindings ss nodes after m) (left_at later) (right_at later) (left_at end) (right_at end) h no_term no_term left-same right-same d.closes;
                });
            lost = s.lost;
          }

      pub look-on : Solving g after end m h left
      unfolding solve-testable
      look-on =
          elim (looked.still left e) [
            | inl z ↦ subst⁻¹ (Solving g after end m h) z.0 (on-with 0 (omega arith) (λ i l. inl (λ k. elim (s.safe.entry i l) [ inl a ↦ a k | inr a ↦ z.1 a.0 a.1.0 i l a.1.1 k ])))
            | inr z ↦ subst⁻¹ (Solving g after end m h) z (on-with count (omega arith) (λ i l. elim (s.safe.entry i l) [ inl a ↦ inl a | inr a ↦ inr (a.0, (a.1.0, a.1.1 ∙ sym (still-pending a.0 a.1.0))) ]))
          ]

      pub look-mass : mass nodes (left_at end) h ≡ mass nodes (left_at later) h
      look-mass = mass-agrees nodes (left_at later) (left_at end) h left-same

  -- ---- a turn

  module _ (some-left : 0 < h) where
    pub solve-turnable : SafeTurnable nodes after later h
    solve-turnable = record { n = m; work = record { ss = ss; top = g.work.top; store = s.safe.store; within = s.safe.within; roomy = solve-roomy; rows = s.safe.rows }; some = some-left }

    -- while no entry closes a cycle
    turnable : Acyclic ss nodes after m → Turnable nodes after later h
    turnable f =
        let d : SoundSolving g after later m h = s.sound f in
        record { n = m; work = record { ss = ss; top = g.work.top; store = record { raw = s.safe.store; acyclic = f }; within = s.safe.within; roomy = solve-roomy; stack = d.stack; memo = d.memo }; some = some-left; closes = d.closes }

    module _ {next : List ℕ} (t : Turn) (c : (v : Turnable nodes after later h) → TurnGives v.work next t) (cs : (v : SafeTurnable nodes after later h) → TurnFalls v.work next t) where
      gave : (f : Acyclic ss nodes after m) → TurnGives (turnable f).work next t
      gave f = c (turnable f)

      fell : TurnFalls solve-turnable.work next t
      fell = cs solve-turnable

      clean-next : SameMarks later next → Clean next
      clean-next k =
          let e : length next ≡ length later = k.long in
          let l : store_words ≤ length later = s.safe.clean.long in
          record { long = omega arith; zero = λ y o. k.words y (omega arith) ∙ s.safe.clean.zero y o }

      pending-next : SameMarks later next → (j : ℕ) → j < count → pending_at next j ≡ pending_at later j
      pending-next k j l = k.words (pending + j) (let a : m ≤ cells = solve-few in let b : count + n ≤ m = s.safe.low in omega arith)

      -- names clash, or there is no room
      pub solve-clash : {f : TurnStop} → t ≡ Err f → f ≡ Clash → {end : List ℕ} → Undone after end n m → Solved g end next (record { equal = false; trail = n })
      unfolding turnable solve-turnable
      solve-clash e d u =
          let k : TurnFalls solve-turnable.work next (Err Clash) = subst (TurnFalls solve-turnable.work next) (e ∙ ap Err d) fell in
          solved-none
          (either-way {P = Acyclic ss nodes after m} (answer_of g) (λ f. (s.sound f).means ∙ (subst (TurnGives (turnable f).work next) (e ∙ ap Err d) (gave f)).1) s.lost)
          u (clean-next k.0) k.0.long

      -- on
      module _ {j : ℕ} (e : t ≡ Ok j) where
        fell-on : TurnFalls solve-turnable.work next (Ok j)
        fell-on = subst (TurnFalls solve-turnable.work next) e fell

        pub turn-next : Solving g after next m j count
        unfolding turnable solve-turnable
        turn-next =
            record {
              safe = record {
                grows = s.safe.grows;
                store = s.safe.store;
                within = s.safe.within;
                keeps = s.safe.keeps;
                clean = clean-next fell-on.0;
                long = fell-on.0.long ∙ s.safe.long;
                rows = fell-on.1.rows;
                low = s.safe.low;
                cell = λ i l. subst⁻¹ (λ (y : ℕ). y < cells) (pending-next fell-on.0 i l) (s.safe.cell i l);
                bound = λ i l z. s.safe.bound i l (ap (cell_at after) (sym (pending-next fell-on.0 i l)) ∙ z);
                entry = λ i l. elim (s.safe.entry i l) [ inl k ↦ inl k | inr k ↦ inr (k.0, (k.1.0, k.1.1 ∙ sym (pending-next fell-on.0 k.0 k.1.0))) ];
              };
              sound = λ f. (let k : TurnGives (turnable f).work next (Ok j) = subst (TurnGives (turnable f).work next) e (gave f) in
                  record { stack = k.1.stack; means = (s.sound f).means ∙ k.1.means; memo = k.1.memo; closes = k.1.closes });
              lost = s.lost;
            }

        pub turn-falls : mass nodes (left_at next) j < mass nodes (left_at later) h
        unfolding solve-turnable
        turn-falls = fell-on.1.less

      -- a binding
      module _ {k x : ℕ} {p : At} {f : TurnStop} (e : t ≡ Err f) (d : f ≡ Bind k x p) where
        due-safe : TurnFalls solve-turnable.work next (Err (Bind k x p))
        due-safe = subst (TurnFalls solve-turnable.work next) (e ∙ ap Err d) fell

        safe : SafeBinding ss nodes after g.work.top next k x p
        unfolding solve-turnable
        safe = due-safe.1

        due : (a : Acyclic ss nodes after m) → BindingDue (over (turnable a).work) (rows_of ss nodes (left_at later) h) (rows_of ss nodes (right_at later) h) next k x p
        unfolding turnable
        due a = (subst (TurnGives (turnable a).work next) (e ∙ ap Err d) (gave a)).1

        space : m < cells
        space = room ss nodes after m x s.safe.store safe.cell safe.unbound

        next-long : length next ≡ length later
        next-long = due-safe.0.long

        pub due-stored : StoredTerm nodes after p.node p.copy
        due-stored = record { ss = ss; n = m; store = s.safe.store; known = false; acyclic = λ z. absurd z; node = safe.node; copy = safe.copy }

        pub due-room : ((x < cells) × ((trail + m < length after) × (word_of p.node p.copy < 2 ^ 32))) × ((m < cells) × ((count < cells) × (rows ≤ length next)))
        due-room =
            let l : store_words ≤ length after = s.safe.store.long in
            let o : p.node + loaded_node ≤ length nodes = node-inside ss nodes p.node safe.node in
            let q : length nodes ≤ places = s.safe.store.small in
            let c1 : p.copy < copies = safe.copy in
            let r : m < cells = space in
            let w : count + n ≤ m = s.safe.low in
            let v : rows ≤ length later = solve-roomy in
            let u : length next ≡ length later = next-long in
            ((safe.cell, (omega arith, omega arith)), (r, (omega arith, omega arith)))

        pub due-closed : {closed r : ℕ} → Closed closed after → Closing closed x p.copy r → {state1 : List ℕ} → state1 ≡ bound_words after m x (word_of p.node p.copy) → Closed r state1
        due-closed {closed} {r} c1 h1 q = subst⁻¹ (Closed r) q (closed-bound after m x p.node p.copy closed r s.safe.store.long space safe.cell safe.copy c1 h1)

        -- the state with the binding
        abbrev now : List ℕ
        now = bound_words after m x (word_of p.node p.copy)

        kept : BindingsKept m after now
        kept = bind-keeps ss nodes after m x p.node p.copy s.safe.store safe.cell safe.unbound safe.copy

        closing-is : ClosesCycle ss nodes now m → T (occurs (variable_of x) (resolve (bindings ss nodes after m) (term_at ss nodes p.node p.copy)))
        closing-is z = subst T (bind-closing ss nodes after m x p.node p.copy s.safe.store safe.cell safe.unbound safe.copy) z

        closing-here : T (occurs (variable_of x) (resolve (bindings ss nodes after m) (term_at ss nodes p.node p.copy))) → ClosesCycle ss nodes now m
        closing-here z = subst⁻¹ T (bind-closing ss nodes after m x p.node p.copy s.safe.store safe.cell safe.unbound safe.copy) z

        earlier : Acyclic ss nodes now (suc m) → Acyclic ss nodes after m
        earlier = bind-earlier ss nodes after m x p.node p.copy s.safe.store safe.cell safe.unbound safe.copy

        -- no unifier, if an entry closes a cycle now
        lost-now : (Acyclic ss nodes now (suc m) → ⊥) → answer_of g ≡ none
        unfolding turnable
        lost-now z = either-way {P = Acyclic ss nodes after m} (answer_of g) (λ a. stands a (occurs (variable_of x) (resolve (bindings ss nodes after m) (term_at ss nodes p.node p.copy))) refl) s.lost
          where
            stands : (a : Acyclic ss nodes after m) (o : Bool) → occurs (variable_of x) (resolve (bindings ss nodes after m) (term_at ss nodes p.node p.copy)) ≡ o → answer_of g ≡ none
            stands a true q = (s.sound a).means ∙ (due a).stands (subst⁻¹ T q tt)
            stands a false q = absurd (z (bind-acyclic ss nodes after m x p.node p.copy s.safe.store safe.cell safe.unbound safe.copy a (λ w. subst T q w)))

        -- the words after, with the cell among the pending ones or not
        module _ (end : List ℕ) (new : ℕ) (end-long : length end ≡ length next) (beside : (j : ℕ) → (j ≡ pending + count → ⊥) → get_or end j 0 ≡ get_or next j 0)
            (here : ((ClosesCycle ss nodes now m → ⊥) × (new ≡ count)) ⊎ ((new ≡ count + 1) × (pending_at end count ≡ x))) where
          new-low : (count ≤ new) × (new ≤ count + 1)
          new-low = elim here [ inl z ↦ omega (arith, z.1) | inr z ↦ omega (arith, z.0) ]

          few-now : count < cells
          few-now = due-room.1.1.0

          left-still : (i : ℕ) → i < k → left_at end i ≡ left_at next i
          left-still i l = left-kept next end (λ j a b. beside j (λ q. (let w : count < cells = few-now in omega arith))) i (let z : k ≤ pairs = safe.rows.low in omega arith)

          right-still : (i : ℕ) → i < k → right_at end i ≡ right_at next i
          right-still i l = right_kept next end (λ j a b. beside j (λ q. (let w : count < cells = few-now in omega arith))) i (let z : k ≤ pairs = safe.rows.low in omega arith)

          pending-same : (j : ℕ) → j < count → pending_at end j ≡ pending_at later j
          pending-same j l = beside (pending + j) (λ q. omega arith) ∙ pending-next due-safe.0 j l

          -- a cell that was bound is so still
          bound-still : (y : ℕ) → y < cells → (cell_at after y ≡ 0 → ⊥) → cell_at now y ≡ 0 → ⊥
          bound-still y l a z = go (eqb y x) refl
            where
              go : (b : Bool) → eqb y x ≡ b → ⊥
              go true q = a (ap (cell_at after) (eqb-true y x q) ∙ safe.unbound)
              go false q = a (sym (bound-cells after m x (word_of p.node p.copy) s.safe.store.long space safe.cell y l (eqb-false y x q)) ∙ z)

          at-new : (P : ℕ → Type 0) (j : ℕ) → j < new → (j < count → P j) → (new ≡ count + 1 → pending_at end count ≡ x → P count) → P j
          at-new P j l low top = go (ltb j count) refl
            where
              go : (b : Bool) → ltb j count ≡ b → P j
              go true q = low (ltb-true j count q)
              go false q =
                  let a : count ≤ j = ltb-false j count q in
                  let b : j ≡ count = omega (arith, new-low) in
                  elim here [ inl z ↦ absurd (omega (arith, z.1)) | inr z ↦ subst⁻¹ P b (top z.0 z.1) ]

          safe-now : SafeSolving g now end (suc m) k new
          safe-now =
              record {
                grows = (let o : n ≤ m = s.safe.grows in omega arith);
                store = bind-raw ss nodes after m x p.node p.copy s.safe.store safe.cell safe.unbound safe.copy safe.node safe.down;
                within = bind-within ss nodes after m x p.node p.copy s.safe.store safe.cell safe.unbound safe.copy g.work.top s.safe.within safe.below safe.copy_below;
                keeps = keeps-trans n m before after now s.safe.grows s.safe.keeps kept;
                clean = record { long = (let a : store_words ≤ length later = s.safe.clean.long in let b : length next ≡ length later = next-long in let w : length end ≡ length next = end-long in omega arith); zero = λ y l. beside y (λ q. omega arith) ∙ (clean-next due-safe.0).zero y l };
                long = end-long ∙ (next-long ∙ s.safe.long);
                rows = rows-agreed ss nodes g.work.top next end k left-still right-still safe.rows;
                low = (let w : count + n ≤ m = s.safe.low in omega (arith, new-low));
                cell = λ j l. cell-now j l;
                bound = λ j l. bound-now j l;
                entry = λ i l. entry-at i l (eqb i m) refl;
              }
            where
              cell-now : (j : ℕ) → j < new → pending_at end j < cells
              cell-now j l = at-new (λ (i : ℕ). pending_at end i < cells) j l (λ o. subst⁻¹ (λ (y : ℕ). y < cells) (pending-same j o) (s.safe.cell j o)) (λ a b. subst⁻¹ (λ (y : ℕ). y < cells) b safe.cell)

              bound-now : (j : ℕ) → j < new → cell_at now (pending_at end j) ≡ 0 → ⊥
              bound-now j l =
                  at-new (λ (i : ℕ). cell_at now (pending_at end i) ≡ 0 → ⊥) j l
                  (λ o z. bound-still (pending_at later j) (s.safe.cell j o) (s.safe.bound j o) (ap (cell_at now) (sym (pending-same j o)) ∙ z))
                  (λ a b z. word_some p.node p.copy (sym (bound-cell after m x (word_of p.node p.copy) s.safe.store.long space safe.cell) ∙ (ap (cell_at now) (sym b) ∙ z)))

              entry-at : (i : ℕ) → i < suc m → (b : Bool) → eqb i m ≡ b → (ClosesCycle ss nodes now i → ⊥) ⊎ ((j : ℕ) × ((j < new) × (trail_at now i ≡ pending_at end j)))
              entry-at i l true q =
                  subst⁻¹ (λ (y : ℕ). (ClosesCycle ss nodes now y → ⊥) ⊎ ((j : ℕ) × ((j < new) × (trail_at now y ≡ pending_at end j)))) (eqb-true i m q)
                  (elim here [ inl z ↦ inl z.0 | inr z ↦ inr (count, (omega (arith, z.0), bound-entry after m x (word_of p.node p.copy) s.safe.store.long space safe.cell ∙ sym z.1)) ])
              entry-at i l false q =
                  let o : i < m = (let z : i ≡ m → ⊥ = eqb-false i m q in omega (arith, z)) in
                  elim (s.safe.entry i o) [
                    | inl z ↦ inl (λ w. z (bind-closed ss nodes after m x p.node p.copy s.safe.store safe.cell safe.unbound safe.copy i o w))
                    | inr z ↦ inr (z.0, (omega (arith, new-low, z.1.0), kept.entry i o ∙ (z.1.1 ∙ sym (pending-same z.0 z.1.0))))
                  ]

          sound-now : Acyclic ss nodes now (suc m) → SoundSolving g now end (suc m) k
          unfolding turnable
          sound-now a =
              let old : Acyclic ss nodes after m = earlier a in
              let free : T (occurs (variable_of x) (resolve (bindings ss nodes after m) (term_at ss nodes p.node p.copy))) → ⊥ = (λ z. a m (omega arith) (closing-here z)) in
              let q : BindingDue (over (turnable old).work) (rows_of ss nodes (left_at later) h) (rows_of ss nodes (right_at later) h) next k x p = due old in
              let one : Binding = record { variable = variable_of x; term = resolve (bindings ss nodes after m) (term_at ss nodes p.node p.copy) } in
              let is : bindings ss nodes now (suc m) ≡ record { variable = variable_of x; term = resolve (bindings ss nodes after m) (term_at ss nodes p.node p.copy) } ∷ bindings ss nodes after m = bind-means ss nodes after m x p.node p.copy s.safe.store safe.cell safe.unbound safe.copy in
              record {
                stack = subst⁻¹ (λ (y : List Binding). Stack ss nodes y g.work.top (left_at end) (right_at end) k) is (stack-agrees ss nodes (one ∷ bindings ss nodes after m) g.work.top (left_at next) (right_at next) (left_at end) (right_at end) k left-still right-still (stack-bound ss nodes (bindings ss nodes after m) one g.work.top (left_at next) (right_at next) k q.stack));
                means = (s.sound old).means ∙ (q.free free ∙ (ap₂ (unify_rows (one ∷ bindings ss nodes after m)) (sym (rows_agree ss nodes (left_at next) (left_at end) k left-still)) (sym (rows_agree ss nodes (right_at next) (right_at end) k right-still)) ∙ ap (λ (y : List Binding). unify_rows y (rows_of ss nodes (left_at end) k) (rows_of ss nodes (right_at end) k)) (sym is)));
                memo = subst⁻¹ (λ (y : List Binding). Memo ss nodes y end) is (memo-bound ss nodes (bindings ss nodes after m) end (memo-kept ss nodes (bindings ss nodes after m) next q.memo end (λ j l. beside j (λ z. (let w : count < cells = few-now in omega arith)))) one);
                closes = subst⁻¹ (λ (y : List Binding). WholesEqual ss nodes y (left_at end) (right_at end) k no_term no_term) is (closes-agree ss nodes (one ∷ bindings ss nodes after m) (left_at next) (right_at next) (left_at end) (right_at end) k no_term no_term left-still right-still (q.closes free));
              }

          bind-on : {state1 : List ℕ} → state1 ≡ now → Solving g state1 end (m + 1) k new
          bind-on q =
              subst⁻¹ (λ (y : List ℕ). Solving g y end (m + 1) k new) q
              (subst (λ (i : ℕ). Solving g now end i k new) (let i : suc m ≡ m + 1 = omega arith in i) (record { safe = safe-now; sound = sound-now; lost = lost-now }))

        -- it is plain that it closes no cycle, or it is noted
        pub bind-next : {closed new : ℕ} {plain : Bool} {end state1 : List ℕ} → Closed closed after → ((v : StoredTerm nodes after p.node p.copy) → plain ≡ true → Plain nodes after x p.node p.copy closed ⊎ Shallow v x)
            → (plain ≡ true → (end ≡ next) × (new ≡ count)) → (plain ≡ false → (end ≡ set next (pending + count) x) × (new ≡ count + 1)) → state1 ≡ now → Solving g state1 end (m + 1) k new
        unfolding due-stored
        bind-next {closed} {new} {plain} {end} {state1} c1 pl passed noted q = go plain refl
          where
            go : (b : Bool) → plain ≡ b → Solving g state1 end (m + 1) k new
            go true e1 =
                bind-on end new (ap length (passed e1).0) (λ j z. ap (λ (y : List ℕ). get_or y j 0) (passed e1).0)
                (inl ((λ z. elim (pl due-stored e1) [ inl w ↦ plain-free ss nodes after m x p.node p.copy s.safe.store safe.node safe.copy closed c1 w (closing-is z) | inr w ↦ shallow-free due-stored w (closing-is z) ]), (passed e1).1)) q
            go false e1 =
                bind-on end new (ap length (noted e1).0 ∙ length-set next (pending + count) x) (λ j z. ap (λ (y : List ℕ). get_or y j 0) (noted e1).0 ∙ get_or-set_other next (pending + count) j x 0 z)
                (inr ((noted e1).1, ap (λ (y : List ℕ). get_or y (pending + count) 0) (noted e1).0 ∙ get_or-set_same next (pending + count) x 0 (let a : count < cells = due-room.1.1.0 in let b : rows ≤ length next = due-room.1.1.1 in omega arith))) q

-- ---- how much is left of the loop

-- what turns and bindings make less, and the test where it is due
abbrev pub loop_left : List ℕ → List ℕ → ℕ → ℕ → ℕ → ℕ
loop_left nodes scratch m h left = 2 * ((cells - m) * heaviest + mass nodes (left_at scratch) h) + (1 - left)

pub bind-falls : (nodes later end : List ℕ) (m h k left less : ℕ) → m < cells → mass nodes (left_at end) k < heaviest → loop_left nodes end (m + 1) k less < loop_left nodes later m h left
bind-falls nodes later end m h k left less l w =
    let a : suc (cells - (m + 1)) * heaviest ≡ (cells - (m + 1)) * heaviest + heaviest = suc-mul (cells - (m + 1)) heaviest in
    let b : (cells - m) * heaviest ≡ suc (cells - (m + 1)) * heaviest = ap (λ (i : ℕ). i * heaviest) (let e : cells - m ≡ suc (cells - (m + 1)) = omega arith in e) in
    omega arith
