-- Laws of two clauses of one predicate, one for each way out of `overlaps` and `first_overlap`. Assumes nothing.
use Prim.Native.Nat.{ℕ, zero, suc, ◌+◌, ◌-◌, ◌≤◌, ◌<◌, ◌^◌}
use native.Mathlib.Omega.{arith}
use mathlib.Core.Path.{◌≡◌, refl, sym, ap, ◌∙◌, subst, subst⁻¹}
use mathlib.Core.Bool.{Bool, true, false, ◌&&◌}
use mathlib.Core.List.{List, []}
use mathlib.Core.Option.{some}
use Rattle.std.specs.Prelude.{Option as Told, Some, None}
use mathlib.Core.Logic.{◌⊎◌, inl, inr}
use lib.Dec.{T, eqb, eqb→eq}
use lib.ListN.{length, get_or, drop}
use Rattle.syntax.specs.Limits.{brackets}
use Rattle.syntax.specs.Terms.{Terms, compound, arity, term_of, Mark, same_name, Clause}
use Rattle.mode_rules.specs.Modes.{or_no_marks, marks_for, list_of}
use Rattle.words.specs.Tables.{WordsAt, NodeInTable}
use Rattle.machine.specs.Substitution.{Binding}
use Rattle.machine.specs.Machine.{is_for, next_for, clause_at}
use Rattle.machine.specs.Determinacy.{inputs_by, inputs, joined, is_joined, joins, overlaps, first_overlap}
use Rattle.machine.proofs.Tests.{both, name-eq}
use Rattle.machine_theorems.proofs.Grounding.{marks-same}
use Rattle.run_layout.specs.Regions.{loaded_node, places, clause_record, clause_size}
use Rattle.run_layout.specs.Nodes.{Symbol, TermLoaded, TermsLoaded, loaded_words, loaded_all, is_listed, is_loadable, are_loadable, brackets_of, brackets_all}
use Rattle.run_layout.specs.State.{bindings}
use Rattle.run_layout.specs.Program.{head_at, after_at}
use Rattle.run_layout.specs.Pile.{NextFor}
use Rattle.run_layout.proofs.Nodes.{node-inside, node_end}
use Rattle.run_layout.proofs.Pile.{clause-low, next-for, next-clause, next-head}
use Rattle.bindings.specs.Scratch.{Roomy}
use Rattle.bindings.specs.Cells.{Stored, Undone}
use Rattle.bindings.proofs.Deref.{undone-store}
use Rattle.unify.specs.Turns.{answered}
use Rattle.unify.specs.declared.solve.UnifyAnswer.{UnifyAnswer}
use Rattle.determinacy.specs.Clauses.{told_number}
use Rattle.determinacy.specs.Joins.{Joinable, InputsJoined}
use Rattle.determinacy.specs.Overlaps.{some_number, NothingBound, ClauseOf, PairOf, OverlapAnswer, FirstBehind}
use Rattle.determinacy.proofs.Numbers.{number_is, number-nothing}
use Rattle.determinacy.proofs.Clauses.{from, from_next, from-hit, from-miss, from-none, next-later}

-- ---- a head

-- the arguments of a head
record Arguments (ss : List Symbol) (nodes : List ℕ) (p : ℕ) (ts : Terms) : Type 0 where
  stand : TermsLoaded ss nodes (p + loaded_node) ts
  size : get_or nodes (p + 1) 0 ≡ loaded_node + length (loaded_all ss ts)

arguments-of : (ss : List Symbol) (nodes : List ℕ) (p b : ℕ) (f : List ℕ) (ts : Terms) → TermLoaded ss nodes p (compound b f ts) → Arguments ss nodes p ts
unfolding loaded_words is_loadable brackets_of
arguments-of ss nodes p b f ts s =
    let few : brackets_all ts ≤ brackets = s.shallow in
    record {
      stand = record {
        words = subst (λ (q : ℕ). WordsAt nodes q (loaded_all ss ts)) (let e : (p + 1) + 1 ≡ p + loaded_node = omega arith in e) s.words.2.2;
        loadable = (both (is_listed ss f (arity ts)) (are_loadable ss ts) s.loadable).1;
        shallow = omega arith;
      };
      size = s.words.2.1;
    }

module _ {nodes code state scratch : List ℕ} {i marks : ℕ} (w : ClauseOf nodes code state scratch i marks) where
  -- a clause's record is in the code
  record-inside : (j : ℕ) (x : Clause) → clause_at w.sh j ≡ some x → (j < 2 ^ 32) × (clause_record j + clause_size ≤ length code)
  record-inside j x e =
      let a : j ≤ length w.sh.clauses = clause-low w.sh j x e in
      (omega (arith, w.program.few), omega (arith, w.program.few, w.program.long))

  head-stands : (j : ℕ) (x : Clause) → clause_at w.sh j ≡ some x → TermLoaded w.ss nodes (head_at code j) (term_of x.head)
  head-stands j x e = (w.program.clause j x e).head

  pub clause-record : (i < 2 ^ 32) × (clause_record i + clause_size ≤ length code)
  clause-record = record-inside i w.clause w.there

-- ---- two clauses

module _ {nodes code state scratch : List ℕ} {i j marks : ℕ} (w : PairOf nodes code state scratch i j marks) where
  pub first-record : (i < 2 ^ 32) × (clause_record i + clause_size ≤ length code)
  first-record = clause-record w.one

  pub second-record : (j < 2 ^ 32) × (clause_record j + clause_size ≤ length code)
  second-record = record-inside w.one j w.other w.there

  alike : (arity w.one.clause.head.args ≡ arity w.other.head.args) × (w.other.head.name ≡ w.one.clause.head.name)
  alike =
      let t : T (eqb (arity w.other.head.args) (arity w.one.clause.head.args)) × T (same_name w.other.head.name w.one.clause.head.name) =
      both (eqb (arity w.other.head.args) (arity w.one.clause.head.args)) (same_name w.other.head.name w.one.clause.head.name) w.predicate in
      (sym (eqb→eq (arity w.other.head.args) (arity w.one.clause.head.args) t.0), name-eq w.other.head.name w.one.clause.head.name t.1)

  module _ {p q : ℕ} (ep : p ≡ head_at code i) (eq : q ≡ head_at code j) where
    left_stands : TermLoaded w.one.ss nodes p (term_of w.one.clause.head)
    left_stands = subst⁻¹ (λ (k : ℕ). TermLoaded w.one.ss nodes k (term_of w.one.clause.head)) ep (head-stands w.one i w.one.clause w.one.there)

    right_stands : TermLoaded w.one.ss nodes q (term_of w.other.head)
    right_stands = subst⁻¹ (λ (k : ℕ). TermLoaded w.one.ss nodes k (term_of w.other.head)) eq (head-stands w.one j w.other w.there)

    pub heads-inside : NodeInTable nodes p × (p + loaded_node ≤ length nodes) × (q + loaded_node ≤ length nodes) × (length nodes ≤ places)
    heads-inside =
        let a : p + loaded_node ≤ length nodes = node-inside w.one.ss nodes p (term_of w.one.clause.head, left_stands) in (
          (omega arith, node_end w.one.ss nodes p (term_of w.one.clause.head, left_stands)),
          a,
          node-inside w.one.ss nodes q (term_of w.other.head, right_stands),
          w.one.program.small,
        )

    module _ {stop : ℕ} (es : stop ≡ p + get_or nodes (p + 1) 0) where
      pub pair-joinable : Joinable nodes state scratch (p + loaded_node) stop (q + loaded_node) marks 0
      pair-joinable =
          let l : Arguments w.one.ss nodes p w.one.clause.head.args =
          arguments-of w.one.ss nodes p w.one.clause.head.at w.one.clause.head.name w.one.clause.head.args left_stands in
          let r : Arguments w.one.ss nodes q w.other.head.args =
          arguments-of w.one.ss nodes q w.other.head.at w.other.head.name w.other.head.args right_stands in
          let z : get_or nodes (p + 1) 0 ≡ loaded_node + length (loaded_all w.one.ss w.one.clause.head.args) = l.size in
          record {
            ss = w.one.ss;
            left = w.one.clause.head.args;
            right = w.other.head.args;
            left_stand = l.stand;
            right_stand = r.stand;
            ends = omega arith;
            alike = alike.0;
            listed = marks_for w.one.sh.declarations w.one.clause.head;
            number = w.one.number;
            store = w.one.blank.store;
            within = record { cell = λ k m. absurd (let y : k < 0 = m in omega arith); copy = λ k m. absurd (let y : k < 0 = m in omega arith) };
            roomy = w.one.blank.roomy;
            clean = w.one.blank.clean;
          }

      module _ {state1 scratch1 : List ℕ} {u : UnifyAnswer}
          (f : (v : Joinable nodes state scratch (p + loaded_node) stop (q + loaded_node) marks 0) → InputsJoined v state1 scratch1 u) where
        joins-so : InputsJoined pair-joinable state1 scratch1 u
        joins-so = f pair-joinable

        pub pair-stored : Stored state1 u.trail
        unfolding pair-joinable
        pair-stored = record { ss = w.one.ss; nodes = nodes; store = joins-so.store.raw }

        joined_by : (b : Bool) (x : List Binding) → is_joined (answered b x) ≡ b
        unfolding is_joined answered
        joined_by true x = refl
        joined_by false x = refl

        for-by : (b : Bool) → T b → (x : Bool) → (b && x) ≡ x
        for-by true t x = refl
        for-by false t x = absurd t

        marks-are : marks_for w.one.sh.declarations w.other.head ≡ marks_for w.one.sh.declarations w.one.clause.head
        unfolding marks_for
        marks-are = ap or_no_marks (marks-same w.one.sh.declarations w.other.head w.one.clause.head alike.1 (sym alike.0))

        answer-is : joined [] (inputs w.one.sh.declarations w.one.clause.head) (inputs w.one.sh.declarations w.other.head)
            ≡ answered u.equal (bindings w.one.ss nodes state1 u.trail)
        unfolding pair-joinable inputs bindings
        answer-is =
            ap (λ (ms : List Mark). joined [] (inputs_by (marks_for w.one.sh.declarations w.one.clause.head) (list_of w.one.clause.head.args)) (inputs_by ms (list_of w.other.head.args))) marks-are
            ∙ joins-so.answer

        overlaps-is : overlaps w.one.sh.declarations w.one.clause w.other
            ≡ is_joined (joined [] (inputs w.one.sh.declarations w.one.clause.head) (inputs w.one.sh.declarations w.other.head))
        unfolding overlaps joins
        overlaps-is =
            for-by (is_for w.one.clause.head w.other) w.predicate
            (is_joined (joined [] (inputs w.one.sh.declarations w.one.clause.head) (inputs w.one.sh.declarations w.other.head)))

        pub pair-overlaps : {state2 : List ℕ} → Undone state1 state2 0 u.trail → OverlapAnswer w state2 scratch1 u.equal
        unfolding pair-joinable
        pair-overlaps {state2 = state2} z =
            let a : length scratch1 ≡ length scratch = joins-so.long in
            let b : Roomy scratch = w.one.blank.roomy in
            record {
              is = sym (overlaps-is ∙ ap is_joined answer-is ∙ joined_by u.equal (bindings w.one.ss nodes state1 u.trail));
              blank = record { store = undone-store w.one.ss nodes state1 state2 0 u.trail (omega arith) z joins-so.store; roomy = omega arith; clean = joins-so.clean };
            }

-- ---- the clauses behind one

-- The clause of number j is the next to be looked at, 0 for none, and there are no bindings.
pub record Seeking {nodes code before scratch : List ℕ} {i marks : ℕ} (w : ClauseOf nodes code before scratch i marks) (state later : List ℕ) (j : ℕ) : Type 0 where
  pub blank : NothingBound w.ss nodes state later
  pub next : NextFor w.sh w.clause.head j
  pub same : first_overlap w.sh.declarations w.clause (suc i) (drop i w.sh.clauses) ≡ from w.sh w.clause j

-- how far the search can still go
abbrev pub reach : List ℕ → ℕ → ℕ
reach code zero = 0
reach code (suc m) = length code - m

module _ {nodes code before scratch : List ℕ} {i marks : ℕ} where
  pub seek-begins : {j : ℕ} → j ≡ after_at code i → (w : ClauseOf nodes code before scratch i marks) → Seeking w before scratch j
  seek-begins {j} e w =
      let z : j ≡ next_for w.sh w.clause.head i = e ∙ (w.program.clause i w.clause w.there).after in
      record {
        blank = w.blank;
        next = subst⁻¹ (NextFor w.sh w.clause.head) z (next-for w.sh w.clause.head i);
        same = from_next w.sh w.clause i ∙ ap (from w.sh w.clause) (sym z);
      }

  pub seek-ends : {state later : List ℕ} {j : ℕ} → j ≡ 0 → (w : ClauseOf nodes code before scratch i marks) → Seeking w state later j → FirstBehind w state later None
  seek-ends e w s = record {
    is = sym (ap told_number (s.same ∙ ap (from w.sh w.clause) e ∙ from-none w.sh w.clause) ∙ number-nothing);
    blank = s.blank;
  }

  module _ {state later : List ℕ} {j : ℕ} (d : j ≡ 0 → ⊥) where
    other-of : (w : ClauseOf nodes code before scratch i marks) → Seeking w state later j
        → (x : Clause) × (clause_at w.sh j ≡ some x) × T (is_for w.clause.head x)
    other-of w s = next-clause w.sh w.clause.head j (some-by j d) s.next
      where
        some-by : (k : ℕ) → (k ≡ 0 → ⊥) → 1 ≤ k
        some-by zero n = absurd (n refl)
        some-by (suc k) n = omega arith

    pub seek-pair : (w : ClauseOf nodes code before scratch i marks) → Seeking w state later j → PairOf nodes code state later i j marks
    seek-pair w s = record {
      one = record { ss = w.ss; sh = w.sh; g = w.g; program = w.program; blank = s.blank; clause = w.clause; there = w.there; number = w.number };
      other = (other-of w s).0;
      there = (other-of w s).1;
      predicate = (other-of w s).2;
    }

    pub seek-record : (w : ClauseOf nodes code before scratch i marks) → Seeking w state later j → (j < 2 ^ 32) × (clause_record j + clause_size ≤ length code)
    seek-record w s = second-record (seek-pair w s)

    module _ {state1 later1 : List ℕ} {r : Bool} (f : (v : PairOf nodes code state later i j marks) → OverlapAnswer v state1 later1 r)
        (w : ClauseOf nodes code before scratch i marks) (s : Seeking w state later j) where
      overlap-is : r ≡ overlaps w.sh.declarations w.clause (other-of w s).0
      unfolding seek-pair
      overlap-is = (f (seek-pair w s)).is

      blank_after : NothingBound w.ss nodes state1 later1
      unfolding seek-pair
      blank_after = (f (seek-pair w s)).blank

      pub seek_found : r ≡ true → FirstBehind w state1 later1 (Some j)
      seek_found t = record {
        is = sym (ap told_number (s.same ∙ from-hit w.sh w.clause j (other-of w s).0 (other-of w s).1 (sym overlap-is ∙ t)) ∙ number_is j);
        blank = blank_after;
      }

      module _ {k : ℕ} (e : k ≡ after_at code j) where
        next_is : k ≡ next_for w.sh w.clause.head j
        next_is = e ∙ (w.program.clause j (other-of w s).0 (other-of w s).1).after ∙ sym (next-head w.sh w.clause.head (other-of w s).0 j (other-of w s).2)

        pub seek-on : r ≡ false → Seeking w state1 later1 k
        seek-on t = record {
          blank = blank_after;
          next = subst⁻¹ (NextFor w.sh w.clause.head) next_is (next-for w.sh w.clause.head j);
          same = s.same ∙ from-miss w.sh w.clause j (other-of w s).0 (other-of w s).1 (sym overlap-is ∙ t) ∙ ap (from w.sh w.clause) (sym next_is);
        }

        pub seek-falls : reach code k < reach code j
        seek-falls = by j k d (seek-record w s).1 (later-by (next-later w.sh w.clause.head j))
          where
            later-by : (next_for w.sh w.clause.head j ≡ 0) ⊎ (j < next_for w.sh w.clause.head j) → (k ≡ 0) ⊎ (j < k)
            later-by (inl z) = inl (next_is ∙ z)
            later-by (inr l) = let z : k ≡ next_for w.sh w.clause.head j = next_is in inr (omega arith)

            by : (m n : ℕ) → (m ≡ 0 → ⊥) → clause_record m + clause_size ≤ length code → (n ≡ 0) ⊎ (m < n) → reach code n < reach code m
            by zero n h l o = absurd (h refl)
            by (suc m) zero h l o = omega arith
            by (suc m) (suc n) h l (inl z) = absurd (let y : suc n ≡ 0 = z in omega arith)
            by (suc m) (suc n) h l (inr g) = let y : suc m < suc n = g in omega arith

-- ---- the next clause as the code tells it

abbrev or_zero : Told ℕ → ℕ
or_zero o = elim o [ None ↦ 0 | Some j ↦ j ]

or-zero : (n : ℕ) → or_zero (some_number n) ≡ n
unfolding some_number
or-zero zero = refl
or-zero (suc n) = refl

some-not-zero : (n j : ℕ) → Some j ≡ some_number n → j ≡ 0 → ⊥
unfolding some_number
some-not-zero zero j e z = cc
some-not-zero (suc n) zero e z = cc
some-not-zero (suc n) (suc j) e z = absurd (omega arith)

-- how far the search can still go from what is told
abbrev pub reach_told : List ℕ → Told ℕ → ℕ
reach_told code o = reach code (or_zero o)

-- What is told is the number from which the search goes on.
pub record Told_seeking {nodes code before scratch : List ℕ} {i marks : ℕ} (w : ClauseOf nodes code before scratch i marks) (state later : List ℕ) (o : Told ℕ) : Type 0 where
  pub number : ℕ
  pub is : o ≡ some_number number
  pub seeking : Seeking w state later number

module _ {nodes code before scratch : List ℕ} {i marks : ℕ} {w : ClauseOf nodes code before scratch i marks} {state later : List ℕ} {o : Told ℕ} (s : Told_seeking w state later o) where
  pub told-seeking : {j : ℕ} → o ≡ Some j → Seeking w state later j
  told-seeking {j} e =
      subst (λ (n : ℕ). Seeking w state later n) (sym (or-zero s.number) ∙ ap or_zero (sym s.is ∙ e)) s.seeking

  pub told-not-zero : {j : ℕ} → o ≡ Some j → j ≡ 0 → ⊥
  told-not-zero {j} e = some-not-zero s.number j (sym e ∙ s.is)

  pub told-none : o ≡ None → Seeking w state later 0
  told-none e = subst (λ (n : ℕ). Seeking w state later n) (sym (or-zero s.number) ∙ ap or_zero (sym s.is ∙ e)) s.seeking

pub told-falls : (code : List ℕ) (k : ℕ) {o next : Told ℕ} {j : ℕ} → o ≡ Some j → next ≡ some_number k → reach code k < reach code j → reach_told code next < reach_told code o
told-falls code k {o} {next} {j} e n l =
    subst⁻¹ (λ (x : Told ℕ). reach_told code next < reach_told code x) e
    (subst⁻¹ (λ (x : Told ℕ). reach_told code x < reach code j) n
    (subst⁻¹ (λ (m : ℕ). reach code m < reach code j) (or-zero k) l))

pub after-none : (n : ℕ) → n ≡ 0 → None ≡ some_number n
unfolding some_number
after-none zero e = refl
after-none (suc n) e = absurd (omega arith)

pub after-some : (n : ℕ) → (n ≡ 0 → ⊥) → Some n ≡ some_number n
unfolding some_number
after-some zero d = absurd (d refl)
after-some (suc n) d = refl
