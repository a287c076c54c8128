-- The first literal left is found up the callers, and an alternative is laid there. Assumes nothing.
use Prim.Native.Nat.{ℕ, ◌+◌, ◌≤◌, ◌<◌, ◌^◌}
use native.Mathlib.Omega.{arith}
use mathlib.Core.Path.{◌≡◌, refl, sym, ap, ◌∙◌, subst, subst⁻¹}
use mathlib.Core.List.{List}
use lib.ListN.{length}
use Rattle.syntax.specs.Limits.{longest_path}
use Rattle.syntax.specs.Words.{program_clauses}
use Rattle.syntax.specs.Terms.{call, equation, truth, falsity, either, Body, done, also, Sheet, Goal}
use Rattle.machine.specs.Machine.{pending, next_for, topmost}
use Rattle.run_layout.specs.Regions.{places, cells, state_words, frame_of, alternative_of, literal_size, body_end_kind, jump_kind, next_literal, frame_size, alternative_size, most_alternatives}
use Rattle.run_layout.specs.Nodes.{Symbol}
use Rattle.run_layout.specs.Program.{record_kind, other_at}
use Rattle.run_layout.specs.Pile.{caller_of, call_of, rest_from, left_behind, left_from, RecordOf, NoJump}
use Rattle.run.specs.Words.{caller_at, topmost_at, top_words}
use Rattle.run.specs.Moves.{Settlable, SideEndPassed, Climbable, FirstLeft, Layable, AlternativeLaid}
use Rattle.run.specs.declared.alternatives.records.Spot.{Spot}
use Rattle.run.proofs.WordLaws.{topmost-call, topmost-other}
use Rattle.run_layout.proofs.Step.{Rising, rise, Fresh, fresh}
use Rattle.run_layout.proofs.Pile.{Jumping, HeadStands, place-room, place-jump, place-stands, kind-done, next-for, next_low}

-- ---- past the end of a side

-- The same goes on from l as from the record reached.
pub record Sliding (sh : Sheet) (g : Goal) (code state : List ℕ) (c l literal : ℕ) : Type 0 where
  pub here : NoJump code l → literal ≡ l
  pub place : RecordOf sh g code state c literal
  pub same : rest_from sh g code state c literal ≡ rest_from sh g code state c l

module _ {code : List ℕ} {l : ℕ} (w : Settlable code l) where
  pub slide-begin : Sliding w.sh w.g code w.state w.copy l l
  slide-begin = record { here = λ n. refl; place = w.place; same = refl }

  module _ {literal : ℕ} (a : Sliding w.sh w.g code w.state w.copy l literal) where
    pub slide-inside : (literal + literal_size ≤ length code) × (length code ≤ places)
    slide-inside = (place-room w.program a.place, w.program.short)

    module _ {v : ℕ} (e : v ≡ record_kind code literal) where
      -- a record that ends no side
      pub slide-stops : (v ≡ jump_kind → ⊥) → SideEndPassed w.sh w.g code w.state w.copy l literal
      slide-stops z = record { here = a.here; place = a.place; stays = λ q. z (e ∙ q); same = a.same }

      module _ (q : v ≡ jump_kind) {next : ℕ} (n : next ≡ other_at code literal) where
        jumping : Jumping w.sh w.g code w.state w.copy literal
        jumping = place-jump w.program a.place (sym e ∙ q)

        pub slide-later : literal < next
        slide-later = let x : literal < other_at code literal = jumping.later in omega (arith, n)

        pub slide-next : Sliding w.sh w.g code w.state w.copy l next
        slide-next =
            record {
              here = λ o. absurd (o (subst (λ (x : ℕ). record_kind code x ≡ jump_kind) (a.here o) (sym e ∙ q)));
              place = subst⁻¹ (RecordOf w.sh w.g code w.state w.copy) n jumping.place;
              same = ap (rest_from w.sh w.g code w.state w.copy) n ∙ (jumping.rest ∙ a.same);
            }

-- what `settled` promises
abbrev pub SettleEnds : (code : List ℕ) (l r : ℕ) → Type 0
SettleEnds code l r = (v : Settlable code l) → SideEndPassed v.sh v.g code v.state v.copy l r

-- where the same goes on in a copy, the same is left
same-left-from : (sh : Sheet) (g : Goal) (code state : List ℕ) (k c l r : ℕ) → rest_from sh g code state c r ≡ rest_from sh g code state c l
    → left_from sh g code state k c r ≡ left_from sh g code state k c l
unfolding left_from
same-left-from sh g code state k c l r e = ap (λ (b : Body). pending c b (left_behind sh g code state k c)) e

-- ---- up the callers

-- The same literals are left from l of copy c on as from the spot reached, which is not the end of a side.
pub record Along (sh : Sheet) (g : Goal) (code state : List ℕ) (path c l copy literal : ℕ) : Type 0 where
  pub low : copy ≤ c
  pub here : NoJump code l → copy ≡ c → literal ≡ l
  pub place : RecordOf sh g code state copy literal
  pub stays : NoJump code literal
  pub same : left_from sh g code state path copy literal ≡ left_from sh g code state path c l

module _ {code state : List ℕ} {c l : ℕ} (w : Climbable code state c l) where
  pub climb-settlable : Settlable code l
  climb-settlable =
      record { ss = w.ss; sh = w.sh; g = w.g; nodes = w.nodes; state = state; copy = c; program = w.climbing.program; place = w.climbing.place }

  pub along-begin : {r : ℕ} → SettleEnds code l r → Along w.sh w.g code state w.path c l c r
  unfolding climb-settlable
  along-begin {r} k =
      let t : SideEndPassed w.sh w.g code state c l r = k climb-settlable in
      record {
        low = omega arith;
        here = λ n e. t.here n;
        place = t.place;
        stays = t.stays;
        same = same-left-from w.sh w.g code state w.path c l r t.same;
      }

  module _ {copy literal : ℕ} (a : Along w.sh w.g code state w.path c l copy literal) where
    stands : HeadStands w.ss w.sh w.nodes code literal (rest_from w.sh w.g code state copy literal)
    stands = place-stands w.climbing.program a.place a.stays

    pub along-inside : literal < length code
    along-inside = let r : literal + literal_size ≤ length code = place-room w.climbing.program a.place in omega arith

    high : copy ≤ w.path
    high = let x : copy ≤ c = a.low in let y : c ≤ w.path = w.climbing.copy in omega arith

    pub along-frame : frame_of copy + frame_size ≤ length state
    along-frame =
        let x : copy ≤ w.path = high in
        let y : w.path ≤ longest_path = w.climbing.low in
        let z : state_words ≤ length state = w.climbing.long in
        omega arith

    -- a literal stands here
    pub along-stops : (v : ℕ) → v ≡ record_kind code literal → (v ≡ body_end_kind → ⊥) → FirstLeft w.sh w.g code state w.path c l (record { copy = copy; literal = literal })
    along-stops v e z =
        record {
          copy = a.low;
          here = a.here;
          place = a.place;
          stays = a.stays;
          ends = λ q. absurd (z (e ∙ subst (HeadStands w.ss w.sh w.nodes code literal) q stands));
          same = a.same;
        }

    -- the goal is reached
    pub along-goal : copy ≤ 0 → FirstLeft w.sh w.g code state w.path c l (record { copy = copy; literal = literal })
    along-goal z =
        record { copy = a.low; here = a.here; place = a.place; stays = a.stays; ends = λ q. (let e : copy ≡ 0 = omega arith in e); same = a.same }

    -- the body has ended
    at_end : (v : ℕ) → v ≡ record_kind code literal → v ≡ body_end_kind → rest_from w.sh w.g code state copy literal ≡ done
    at_end v e q = kind-done w.ss w.sh w.nodes code literal (rest_from w.sh w.g code state copy literal) stands (sym e ∙ q)

module _ {code state : List ℕ} {c l : ℕ} (w : Climbable code state c l) {copy literal : ℕ} (a : Along w.sh w.g code state w.path c l copy literal) (z : 0 < copy) (v : ℕ) (e : v ≡ record_kind code literal) (q : v ≡ body_end_kind) where
  rising : Rising w.sh w.g code state w.path copy literal
  rising = rise w.climbing.program state w.path copy literal w.climbing.frame (let y : 0 < copy = z in omega arith) (high w a) (at_end w a v e q)

  module _ (s : Spot) (is : s ≡ caller_at state copy) where
    copy_is : s.copy ≡ caller_of state copy
    copy_is = ap (λ (x : Spot). x.copy) is

    literal_is : s.literal ≡ call_of state copy
    literal_is = ap (λ (x : Spot). x.literal) is

    pub along-less : s.copy < copy
    along-less = let x : caller_of state copy < copy = rising.below in let y : s.copy ≡ caller_of state copy = copy_is in omega arith

    next_place : RecordOf w.sh w.g code state s.copy (next_literal s.literal)
    next_place = subst⁻¹ (λ (x : Spot). RecordOf w.sh w.g code state x.copy (next_literal x.literal)) is rising.place

    -- the sum is no larger than the table
    pub along-fits : s.literal + literal_size ≤ places
    along-fits =
        let x : next_literal s.literal + literal_size ≤ length code = place-room w.climbing.program next_place in
        let y : length code ≤ places = w.climbing.program.short in
        omega arith

    -- the caller goes on behind its call, and past the end of a side
    module _ {i : ℕ} (f : i ≡ next_literal s.literal) where
      pub along-settlable : Settlable code i
      along-settlable =
          record {
            ss = w.ss;
            sh = w.sh;
            g = w.g;
            nodes = w.nodes;
            state = state;
            copy = s.copy;
            program = w.climbing.program;
            place = subst⁻¹ (RecordOf w.sh w.g code state s.copy) f next_place;
          }

      pub along-next : {r : ℕ} → SettleEnds code i r → Along w.sh w.g code state w.path c l s.copy r
      unfolding along-settlable
      along-next {r} k =
          let t : SideEndPassed w.sh w.g code state s.copy i r = k along-settlable in
          let x : s.copy < copy = along-less in
          let y : copy ≤ c = a.low in
          let up : left_from w.sh w.g code state w.path s.copy i ≡ left_from w.sh w.g code state w.path (caller_of state copy) (next_literal (call_of state copy)) =
          ap (left_from w.sh w.g code state w.path s.copy) f ∙ ap (λ (x : Spot). left_from w.sh w.g code state w.path x.copy (next_literal x.literal)) is in
          record {
            low = (let o : s.copy ≤ c = omega arith in o);
            here = λ n o. absurd (let u : s.copy ≡ c = o in omega arith);
            place = t.place;
            stays = t.stays;
            same = same-left-from w.sh w.g code state w.path s.copy i r t.same ∙ (up ∙ (sym rising.left ∙ a.same));
          }

-- ---- laying

topmost-low : (ss : List Symbol) (sh : Sheet) (nodes code : List ℕ) (l : ℕ) (b : Body) → HeadStands ss sh nodes code l b → topmost_at code l ≤ length sh.clauses
topmost-low ss sh nodes code l done s = omega (arith, topmost-other code l (λ q. omega (arith, q, s)))
topmost-low ss sh nodes code l (also (call a) b) s = subst (λ (y : ℕ). y ≤ length sh.clauses) (sym s.2 ∙ topmost-call code l s.0) (next_low sh a (next_for sh a 0) (next-for sh a 0))
topmost-low ss sh nodes code l (also (equation t u) b) s = omega (arith, topmost-other code l (λ q. omega (arith, q, s.0)))
topmost-low ss sh nodes code l (also truth b) s = omega (arith, topmost-other code l (λ q. omega (arith, q, s)))
topmost-low ss sh nodes code l (also falsity b) s = omega (arith, topmost-other code l (λ q. omega (arith, q, s)))
topmost-low ss sh nodes code l (also (either y z) b) s = omega (arith, topmost-other code l (λ q. omega (arith, q, s)))

module _ {code state : List ℕ} {j c l mark path : ℕ} (w : Layable code state j c l mark path) (s : Spot) (k : (v : Climbable code state c l) → FirstLeft v.sh v.g code state v.path c l s) where
  spot-climbs : FirstLeft w.sh w.g code state path c l s
  spot-climbs = k (record { ss = w.ss; sh = w.sh; g = w.g; nodes = w.nodes; path = path; climbing = w.climbing })

  spot-stands : HeadStands w.ss w.sh w.nodes code s.literal (rest_from w.sh w.g code state s.copy s.literal)
  spot-stands = place-stands w.climbing.program spot-climbs.place spot-climbs.stays

  spot-room : s.literal + literal_size ≤ length code
  spot-room = place-room w.climbing.program spot-climbs.place

  pub lay-inside : s.literal + literal_size ≤ length code
  lay-inside = let r : s.literal + literal_size ≤ length code = spot-room in omega arith

  module _ (next : ℕ) (is : next ≡ topmost_at code s.literal) where
    pub lay-room : (alternative_of j + alternative_size ≤ length state) × (((s.copy < 2 ^ 32) × (s.literal < 2 ^ 32)) × ((next < 2 ^ 32) × ((mark < 2 ^ 32) × (path < 2 ^ 32))))
    lay-room =
        let r : s.literal + literal_size ≤ length code = spot-room in
        let a : length code ≤ places = w.climbing.program.short in
        let b : s.copy ≤ c = spot-climbs.copy in
        let d : c ≤ path = w.climbing.copy in
        let e : path ≤ longest_path = w.climbing.low in
        let f : mark ≤ cells = w.small in
        let h : j < most_alternatives = w.room in
        let i : state_words ≤ length state = w.climbing.long in
        let m : topmost_at code s.literal ≤ length w.sh.clauses = topmost-low w.ss w.sh w.nodes code s.literal (rest_from w.sh w.g code state s.copy s.literal) spot-stands in
        let n : length w.sh.clauses ≤ program_clauses = w.climbing.program.few in
        (omega arith, ((omega arith, omega arith), (omega arith, (omega arith, omega arith))))

    new : Fresh w.sh w.g code state path s.copy s.literal next
    new = fresh w.ss w.sh w.g w.nodes code state path s.copy s.literal next w.climbing.program spot-climbs.place spot-climbs.stays spot-climbs.ends (λ q. is ∙ sym (topmost-call code s.literal q)) (λ z. is ∙ sym (topmost-other code s.literal z))

    pub lay-end : (after : List ℕ) → after ≡ top_words state j s.copy s.literal next mark path → AlternativeLaid w.climbing after j mark
    lay-end after e =
        record {
          spot = s;
          next = next;
          climbs = spot-climbs;
          next_is = new.topmost_is ∙ ap (topmost w.sh) spot-climbs.same;
          next-for = new.stand.next;
          words = e;
        }

-- what `lay` promises
abbrev pub LayEnds : (code state after : List ℕ) (j c l mark path : ℕ) → Type 0
LayEnds code state after j c l mark path = (v : Layable code state j c l mark path) → AlternativeLaid v.climbing after j mark
