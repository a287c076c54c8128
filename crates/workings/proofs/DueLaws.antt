-- The top alternative where it stands at a call or a bracket, and the choices that do not fit there. Assumes nothing.
use Prim.Native.Nat.{ℕ, zero, suc, ◌+◌, ◌-◌, ◌≤◌, ◌<◌}
use native.Mathlib.Omega.{arith}
use mathlib.Core.Path.{◌≡◌, refl, sym, ap, ◌∙◌, subst⁻¹}
use mathlib.Core.Bool.{Bool, true, false, cond}
use mathlib.Core.List.{List, [], ◌∷◌}
use mathlib.Core.Logic.{◌⊎◌, inl, inr}
use mathlib.Core.Option.{Option as Opt, none}
use lib.Dec.{ltb}
use lib.ListN.{length, get_or}
use borrow.Author.Tests.{le-ltb}
use Rattle.syntax.specs.Limits.{longest_path}
use Rattle.syntax.specs.Words.{literal_length, call_kind}
use Rattle.syntax.specs.Terms.{Atom, term_of, call, equation, truth, falsity, either, Body, done, also, Clause, Sheet, Goal}
use Rattle.machine.specs.Substitution.{Binding}
use Rattle.machine.specs.Machine.{Pending, Alternative, path, pending, nth_clause, clause_at, next_for}
use Rattle.run_layout.specs.Regions.{split_kind, alternative_of, alternative_size}
use Rattle.run_layout.specs.Nodes.{Symbol, TermLoaded}
use Rattle.run_layout.specs.Program.{record_kind, record_place, other_at}
use Rattle.run_layout.specs.Pile.{Calls, rest_from, left_behind, copy_at, literal_at, mark_at, path_at, alternative_at, Piled}
use Rattle.run_layout.proofs.Pile.{HeadStands, kind-call, calls_count}
use Rattle.run_layout.proofs.Step.{left-also, left-first}
use Rattle.run.specs.Moves.{rest_at}
use Rattle.run.specs.Words.{top_at}
use Rattle.run.specs.Steps.{Running, meaning}
use Rattle.run.specs.declared.alternatives.records.Top.{Top}
use Rattle.run.proofs.TopLaws.{at_top, top-stacked, top-stands}
use Rattle.run.proofs.StepLaws.{run_room, run_inside}
use Rattle.derivations.specs.Workings.{Resolvent, failed, at_call, at_bracket, met, settled, taken, led}
use Rattle.derivations.specs.declared.Choice.TheVariants.{Numbered}
use Rattle.derivations.specs.Resolvents.{resolvent}
use Rattle.workings.specs.Choices.{SomePile, ClauseTakable, SideTakable, ChoiceDue, ChoiceMade, alternative_in, led_from, side}
use Rattle.workings.proofs.RestLaws.{AwaitsRecord}
use Rattle.derivations.specs.declared.Choice.{Choice}
use Rattle.run.specs.declared.alternatives.PileHeight.{PileHeight}
use Rattle.std.specs.Prelude.{Option, Some, None}

-- ---- choices that do not fit

no-nth : (cls : List Clause) (k : ℕ) → length cls ≤ k → nth_clause cls k ≡ none
unfolding nth_clause
no-nth [] k l = refl
no-nth (cl ∷ cls) zero l = absurd (omega (arith, l))
no-nth (cl ∷ cls) (suc k) l = no-nth cls k (omega (arith, l))

no-clause : (sh : Sheet) (n : ℕ) → (n ≡ 0) ⊎ (length sh.clauses < n) → clause_at sh n ≡ none
unfolding clause_at
no-clause sh zero o = refl
no-clause sh (suc k) (inl e) = absurd (omega (arith, e))
no-clause sh (suc k) (inr l) = no-nth sh.clauses k (omega (arith, l))

-- a number at a call
module _ (sh : Sheet) (k : ℕ) (b : List Binding) (c : ℕ) (a : Atom) (rest : List Pending) (number : ℕ) where
  no-clause-fails : clause_at sh number ≡ none → led sh (Numbered number) (at_call k b c a rest) ≡ failed
  unfolding led taken
  no-clause-fails e = ap (λ (o : Opt Clause). cond (ltb k longest_path) (taken k b c a rest o) failed) e ∙ both (ltb k longest_path)
    where
      both : (t : Bool) → ◌≡◌ {A = Resolvent} (cond t failed failed) failed
      both true = refl
      both false = refl

  long-path-fails : longest_path ≤ k → led sh (Numbered number) (at_call k b c a rest) ≡ failed
  unfolding led
  long-path-fails l = ap (λ (t : Bool). cond t (taken k b c a rest (clause_at sh number)) failed) (le-ltb k longest_path l)

-- a side at a call
call-no-side : (sh : Sheet) (k : ℕ) (b : List Binding) (c : ℕ) (a : Atom) (rest : List Pending) (right : Bool) → led sh (side right) (at_call k b c a rest) ≡ failed
unfolding led
call-no-side sh k b c a rest true = refl
call-no-side sh k b c a rest false = refl

-- a number at a bracket
bracket-no-number : (sh : Sheet) (k : ℕ) (b : List Binding) (c : ℕ) (y z : Body) (rest : List Pending) (number : ℕ) → led sh (Numbered number) (at_bracket k b c y z rest) ≡ failed
unfolding led
bracket-no-number sh k b c y z rest number = refl

-- ---- where the top stands

one-call : (a : Atom) → literal_length (call a) ≡ 1
unfolding literal_length
one-call a = refl

pub record SplitHead (b : Body) : Type 0 where
  pub left : Body
  pub right : Body
  pub rest : Body
  pub is : b ≡ also (either left right) rest

split-head : (ss : List Symbol) (sh : Sheet) (nodes code : List ℕ) (l : ℕ) (b : Body) → HeadStands ss sh nodes code l b → record_kind code l ≡ split_kind → SplitHead b
split-head ss sh nodes code l done h k = absurd (omega (arith, h, k))
split-head ss sh nodes code l (also (call a) r) h k = absurd (omega (arith, h.0, k))
split-head ss sh nodes code l (also (equation t u) r) h k = absurd (omega (arith, h.0, k))
split-head ss sh nodes code l (also truth r) h k = absurd (omega (arith, h, k))
split-head ss sh nodes code l (also falsity r) h k = absurd (omega (arith, h, k))
split-head ss sh nodes code l (also (either y z) r) h k = record { left = y; right = z; rest = r; is = refl }

-- alternative j of suc j
module _ (nodes code state : List ℕ) (j n : ℕ) (running : Running nodes code state (suc j) n) where
  abbrev ss : List Symbol
  ss = running.ss

  abbrev sh : Sheet
  sh = running.sh

  abbrev g : Goal
  g = running.g

  abbrev top : Alternative
  top = alternative_at ss sh g nodes code state j

  pub path-is : path top ≡ path_at state j
  unfolding alternative_at
  path-is = calls_count sh g code state (path_at state j)

  module _ (kind : record_kind code (literal_at state j) ≡ call_kind) where
    pub calling : (a : Atom) × (r : Body) × (rest_from sh g code state (copy_at state j) (literal_at state j) ≡ also (call a) r) × TermLoaded ss nodes (record_place code (literal_at state j)) (term_of a) × (other_at code (literal_at state j) ≡ next_for sh a 0)
    calling = kind-call ss sh nodes code (literal_at state j) (rest_from sh g code state (copy_at state j) (literal_at state j)) (top-stands ss sh g nodes code state j n running.piled) kind

    pub called-body : Calls (rest_from sh g code state (copy_at state j) (literal_at state j)) calling.0
    called-body = subst⁻¹ (λ (b : Body). Calls b calling.0) calling.2 refl

    pub call-stands : top.literals ≡ record { copy = copy_at state j; literal = call calling.0 } ∷ rest_at sh g code state j
    unfolding alternative_at
    call-stands = left-also (path_at state j) running.piled.program (top-stacked ss sh g nodes code state j n running.piled).place (top-stacked ss sh g nodes code state j n running.piled).stays (one-call calling.0) calling.2

    pub at-call : resolvent top ≡ at_call (path top) top.bindings (copy_at state j) calling.0 (rest_at sh g code state j)
    unfolding settled met
    at-call = ap (settled (path top) top.bindings) call-stands

  module _ (kind : record_kind code (literal_at state j) ≡ split_kind) where
    pub split : SplitHead (rest_from sh g code state (copy_at state j) (literal_at state j))
    split = split-head ss sh nodes code (literal_at state j) (rest_from sh g code state (copy_at state j) (literal_at state j)) (top-stands ss sh g nodes code state j n running.piled) kind

    abbrev pub behind-split : List Pending
    behind-split = pending (copy_at state j) split.rest (left_behind sh g code state (path_at state j) (copy_at state j))

    pub bracket-stands : top.literals ≡ record { copy = copy_at state j; literal = either split.left split.right } ∷ behind-split
    unfolding alternative_at
    bracket-stands = left-first sh g code state (path_at state j) (copy_at state j) (literal_at state j) split.is

    pub at-bracket : resolvent top ≡ at_bracket (path top) top.bindings (copy_at state j) split.left split.right behind-split
    unfolding settled met
    at-bracket = ap (settled (path top) top.bindings) bracket-stands

at-call-awaits : (k : ℕ) (b : List Binding) (c : ℕ) (a : Atom) (rest : List Pending) (r : Resolvent) → r ≡ at_call k b c a rest → AwaitsRecord r
at-call-awaits k b c a rest r e = subst⁻¹ AwaitsRecord e tt

at-bracket-awaits : (k : ℕ) (b : List Binding) (c : ℕ) (y z : Body) (rest : List Pending) (r : Resolvent) → r ≡ at_bracket k b c y z rest → AwaitsRecord r
at-bracket-awaits k b c y z rest r e = subst⁻¹ AwaitsRecord e tt

module _ (nodes code state : List ℕ) (j n : ℕ) (running : Running nodes code state (suc j) n) where
  top-awaits : (record_kind code (literal_at state j) ≡ call_kind) ⊎ (record_kind code (literal_at state j) ≡ split_kind) → AwaitsRecord (resolvent (alternative_in (meaning running) state j))
  top-awaits (inl kind) = at-call-awaits _ _ _ _ _ _ (at-call nodes code state j n running kind)
  top-awaits (inr kind) = at-bracket-awaits _ _ _ _ _ _ _ (at-bracket nodes code state j n running kind)

  abbrev led-top : Choice → Resolvent
  led-top c = led_from (meaning running) state j c

  top-no-side : record_kind code (literal_at state j) ≡ call_kind → (right : Bool) → led-top (side right) ≡ failed
  top-no-side kind right = ap (led running.sh (side right)) (at-call nodes code state j n running kind) ∙ call-no-side running.sh _ _ _ _ _ right

  top-no-number : record_kind code (literal_at state j) ≡ split_kind → (number : ℕ) → led-top (Numbered number) ≡ failed
  top-no-number kind number = ap (led running.sh (Numbered number)) (at-bracket nodes code state j n running kind) ∙ bracket-no-number running.sh _ _ _ _ _ _ number

  top-no-clause : record_kind code (literal_at state j) ≡ call_kind → (number : ℕ) → (number ≡ 0) ⊎ (length running.sh.clauses < number) → led-top (Numbered number) ≡ failed
  top-no-clause kind number o = ap (led running.sh (Numbered number)) (at-call nodes code state j n running kind) ∙ no-clause-fails running.sh _ _ _ _ _ number (no-clause running.sh number o)

  top-long : record_kind code (literal_at state j) ≡ call_kind → (number : ℕ) → longest_path ≤ path_at state j → led-top (Numbered number) ≡ failed
  top-long kind number l = ap (led running.sh (Numbered number)) (at-call nodes code state j n running kind) ∙ long-path-fails running.sh _ _ _ _ _ number (omega (arith, l, path-is nodes code state j n running))

-- ---- for a height and the number below it

module _ {nodes code : List ℕ} {clauses : ℕ} {state scratch : List ℕ} {h n : ℕ} (w : ChoiceDue nodes code clauses state scratch h n) where
  abbrev r : Running nodes code state h n
  r = w.top.running

  abbrev kind-here : ℕ
  kind-here = record_kind code (literal_at state (h - 1))

  filled : h ≡ 0 → ⊥
  filled e = omega (arith, e, w.top.some)

  pub awaits-record : AwaitsRecord (resolvent (alternative_in (meaning r) state (h - 1)))
  awaits-record =
      at_top (λ x k. (v : Running nodes code state x n) → (record_kind code (literal_at state k) ≡ call_kind) ⊎ (record_kind code (literal_at state k) ≡ split_kind) → AwaitsRecord (resolvent (alternative_in (meaning v) state k)))
      (λ j v o. top-awaits nodes code state j n v o) h w.top.some r w.due

  pub due-room : alternative_of (h - 1) + alternative_size ≤ length state
  due-room = run_room r filled

  -- the trail is as long as the top's
  at-mark : SomePile nodes code state scratch h (mark_at state (h - 1))
  at-mark =
      record {
        running = record { ss = r.ss; sh = r.sh; g = r.g; piled = subst⁻¹ (λ (x : ℕ). Piled r.ss r.sh r.g nodes code state h x) w.mark r.piled; low = r.low };
        some = w.top.some;
        roomy = w.top.roomy;
        clean = w.top.clean;
      }

  no-side-here : kind-here ≡ call_kind → (right : Bool) → led_from (meaning r) state (h - 1) (side right) ≡ failed
  no-side-here kind right =
      at_top (λ x k. (v : Running nodes code state x n) → record_kind code (literal_at state k) ≡ call_kind → led_from (meaning v) state k (side right) ≡ failed)
      (λ j v e. top-no-side nodes code state j n v e right) h w.top.some r kind

  no-number-here : kind-here ≡ split_kind → (number : ℕ) → led_from (meaning r) state (h - 1) (Numbered number) ≡ failed
  no-number-here kind number =
      at_top (λ x k. (v : Running nodes code state x n) → record_kind code (literal_at state k) ≡ split_kind → led_from (meaning v) state k (Numbered number) ≡ failed)
      (λ j v e. top-no-number nodes code state j n v e number) h w.top.some r kind

  no-clause-here : kind-here ≡ call_kind → (number : ℕ) → (number ≡ 0) ⊎ (length r.sh.clauses < number) → led_from (meaning r) state (h - 1) (Numbered number) ≡ failed
  no-clause-here kind number o =
      at_top (λ x k. (v : Running nodes code state x n) → record_kind code (literal_at state k) ≡ call_kind → (number ≡ 0) ⊎ (length v.sh.clauses < number) → led_from (meaning v) state k (Numbered number) ≡ failed)
      (λ j v e q. top-no-clause nodes code state j n v e number q) h w.top.some r kind o

  long-here : kind-here ≡ call_kind → (number : ℕ) → longest_path ≤ path_at state (h - 1) → led_from (meaning r) state (h - 1) (Numbered number) ≡ failed
  long-here kind number l =
      at_top (λ x k. (v : Running nodes code state x n) → record_kind code (literal_at state k) ≡ call_kind → longest_path ≤ path_at state k → led_from (meaning v) state k (Numbered number) ≡ failed)
      (λ j v e q. top-long nodes code state j n v e number q) h w.top.some r kind l

  module _ {s : Top} (is : s ≡ top_at state (h - 1)) where
    pub due-inside : s.literal < length code
    due-inside = run_inside r filled is

    path-here : s.path ≡ path_at state (h - 1)
    path-here = ap (λ (x : Top). x.path) is

    module _ {v : ℕ} (e : v ≡ get_or code s.literal 0) where
      kind-is : v ≡ kind-here
      kind-is = e ∙ ap (λ (x : Top). get_or code x.literal 0) is

      pub not-a-call : (v ≡ call_kind → ⊥) → (number : ℕ) → led_from (meaning r) state (h - 1) (Numbered number) ≡ failed
      not-a-call z number = go w.due
        where
          go : (kind-here ≡ call_kind) ⊎ (kind-here ≡ split_kind) → led_from (meaning r) state (h - 1) (Numbered number) ≡ failed
          go (inl k) = absurd (z (kind-is ∙ k))
          go (inr k) = no-number-here k number

      pub not-a-bracket : (v ≡ split_kind → ⊥) → (right : Bool) → led_from (meaning r) state (h - 1) (side right) ≡ failed
      not-a-bracket z right = go w.due
        where
          go : (kind-here ≡ call_kind) ⊎ (kind-here ≡ split_kind) → led_from (meaning r) state (h - 1) (side right) ≡ failed
          go (inl k) = no-side-here k right
          go (inr k) = absurd (z (kind-is ∙ k))

      pub side-takable : v ≡ split_kind → SideTakable nodes code state scratch h n
      side-takable k = record { top = w.top; kind = sym kind-is ∙ k }

      module _ (k : v ≡ call_kind) (number : ℕ) where
        pub number-zero : number ≡ 0 → led_from (meaning r) state (h - 1) (Numbered number) ≡ failed
        number-zero z = no-clause-here (sym kind-is ∙ k) number (inl z)

        pub number-past : clauses < number → led_from (meaning r) state (h - 1) (Numbered number) ≡ failed
        number-past l = no-clause-here (sym kind-is ∙ k) number (inr (omega (arith, l, w.count)))

        pub path-long : longest_path ≤ s.path → led_from (meaning r) state (h - 1) (Numbered number) ≡ failed
        path-long l = long-here (sym kind-is ∙ k) number (omega (arith, l, path-here))

        pub clause-takable : (number ≡ 0 → ⊥) → number ≤ clauses → s.path < longest_path → ClauseTakable nodes code state scratch h number
        unfolding at-mark
        clause-takable a b c =
            record {
              top = at-mark;
              kind = sym kind-is ∙ k;
              low = omega (arith, c, path-here);
              first = omega (arith, a);
              last = omega (arith, b, w.count);
            }

        pub clause-made : (a : number ≡ 0 → ⊥) (b : number ≤ clauses) (c : s.path < longest_path) (after later : List ℕ) (o : Option PileHeight)
            → ((x : ClauseTakable nodes code state scratch h number) → ChoiceMade (meaning x.top.running) state scratch (h - 1) (Numbered number) after later o)
            → ChoiceMade (meaning r) state scratch (h - 1) (Numbered number) after later o
        unfolding clause-takable at-mark
        clause-made a b c after later o f = f (clause-takable a b c)

      pub side-made : v ≡ split_kind → (right : Bool) (after later : List ℕ) (p : PileHeight)
          → ((x : SideTakable nodes code state scratch h n) → ChoiceMade (meaning x.top.running) state scratch (h - 1) (side right) after later (Some p))
          → ChoiceMade (meaning r) state scratch (h - 1) (side right) after later (Some p)
      unfolding side-takable
      side-made k right after later p f = f (side-takable k)

  -- a choice that does not fit leaves all as it was
  pub misfit : (c : Choice) (after later : List ℕ) → led_from (meaning r) state (h - 1) c ≡ failed → ChoiceMade (meaning r) state scratch (h - 1) c after later None
  unfolding ChoiceMade
  misfit c after later q = q
