-- The top alternative: where it stands, and what its step comes to. Assumes nothing.
use Prim.Native.Nat.{ℕ, zero, suc, ◌+◌, ◌-◌, ◌*◌, ◌≤◌, ◌<◌}
use native.Mathlib.Omega.{arith}
use mathlib.Core.Path.{◌≡◌, refl, sym, ap, ◌∙◌, subst⁻¹}
use mathlib.Core.List.{List, ◌∷◌, ◌++◌}
use lib.ListN.{length}
use Rattle.syntax.specs.Limits.{longest_path, literals}
use Rattle.syntax.specs.Terms.{Literal, Body, also, Sheet, Goal}
use Rattle.syntax.specs.Words.{literal_length}
use Rattle.machine.specs.Low.{Low}
use Rattle.machine.specs.Machine.{Pending, Alternative, topmost, worked, worked_on, outcome, step}
use Rattle.run_layout.specs.Regions.{cells, state_words, alternative_of, literal_size, alternative_size, most_alternatives}
use Rattle.run_layout.specs.Nodes.{Symbol}
use Rattle.run_layout.specs.State.{trail_at, Store, WithinCopies, BindingsKept}
use Rattle.run_layout.specs.Pile.{rest_from, copy_at, literal_at, mark_at, path_at, alternative_at, pile_of, RecordOf, Stacked, Piled}
use Rattle.run_layout.proofs.Pigeonhole.{pigeonhole}
use Rattle.run.specs.Moves.{Climbing, AlternativeLaid, rest_at}
use Rattle.run.proofs.WordLaws.{less_one, stand-written}
use Rattle.run_layout.proofs.Step.{left-also, Fresh, Going}
use Rattle.run_layout.proofs.Pile.{HeadStands, place-room, place-stands, SameUpTo, keeps_same, same_place, same-frame, same-path_at, same-mark_at, same-stacked, same-pile, path-high, mark-top, Written, Stand, Means}

-- a law of the top, alternative j of suc j, for a height and the number below it
pub at_top : (P : ℕ → ℕ → Type 0) → ((j : ℕ) → P (suc j) j) → (h : ℕ) → 1 ≤ h → P h (h - 1)
at_top P f zero l = absurd (let z : 1 ≤ 0 = l in omega arith)
at_top P f (suc j) l = subst⁻¹ (P (suc j)) (less_one j) (f j)

-- a trail's entries are distinct cells
pub trail_low : (ss : List Symbol) (nodes state : List ℕ) (n : ℕ) → Store ss nodes state n → n ≤ cells
trail_low ss nodes state n s = pigeonhole cells n (trail_at state) (λ i l. (s.raw.entry i l).cell) same-entry
  where
    same-entry : (i j : ℕ) → i < n → j < n → trail_at state i ≡ trail_at state j → i ≡ j
    same-entry i j l h e = let a : i < j → ⊥ = (λ q. s.raw.apart i j q h e) in let b : j < i → ⊥ = (λ q. s.raw.apart j i q l (sym e)) in omega (arith, a, b)

pub head-eq : (x y : Alternative) (xs ys : List Alternative) → x ∷ xs ≡ y ∷ ys → x ≡ y
head-eq x y xs ys e = let r : x ≡ y = cc in r

pub tail-eq : (x y : Alternative) (xs ys : List Alternative) → x ∷ xs ≡ y ∷ ys → xs ≡ ys
tail-eq x y xs ys e = let r : xs ≡ ys = cc in r

-- piles that are the same have the same below
pub pile-tail : (ss : List Symbol) (sh : Sheet) (g : Goal) (nodes code a b : List ℕ) (j : ℕ) → pile_of ss sh g nodes code a (suc j) ≡ pile_of ss sh g nodes code b (suc j) → pile_of ss sh g nodes code a j ≡ pile_of ss sh g nodes code b j
unfolding pile_of
pile-tail ss sh g nodes code a b j q = tail-eq (alternative_at ss sh g nodes code a j) (alternative_at ss sh g nodes code b j) (pile_of ss sh g nodes code a j) (pile_of ss sh g nodes code b j) q

-- what is laid stands there as new, and is written
module _ {ss : List Symbol} {sh : Sheet} {g : Goal} {nodes code before after : List ℕ} {path c l j mark : ℕ} {w : Climbing ss sh g nodes code before path c l} (k : AlternativeLaid w after j mark) where
  pub lays-stand : Stand sh g code before k.spot.copy k.spot.literal k.next
  lays-stand = record { place = k.climbs.place; stays = k.climbs.stays; ends = k.climbs.ends; next = k.next-for }

  pub lays-fresh : Fresh sh g code before path k.spot.copy k.spot.literal k.next
  lays-fresh = record { stand = lays-stand; topmost_is = k.next_is ∙ sym (ap (topmost sh) k.climbs.same) }

  pub lays-written : alternative_of j + alternative_size ≤ length before → Written j k.spot.copy k.spot.literal k.next mark path before after
  lays-written room = subst⁻¹ (Written j k.spot.copy k.spot.literal k.next mark path before) k.words (stand-written before j k.spot.copy k.spot.literal k.next mark path room)

module _ (ss : List Symbol) (sh : Sheet) (g : Goal) (nodes code state : List ℕ) (j n : ℕ) (piled : Piled ss sh g nodes code state (suc j) n) where
  pub top-stacked : Stacked sh g code state n j
  top-stacked = piled.each j (omega arith)

  pub top-stands : HeadStands ss sh nodes code (literal_at state j) (rest_from sh g code state (copy_at state j) (literal_at state j))
  top-stands = place-stands piled.program top-stacked.place top-stacked.stays

  pub top-inside : literal_at state j + literal_size ≤ length code
  top-inside = place-room piled.program top-stacked.place

  -- the pile is low
  module _ (low : Low (pile_of ss sh g nodes code state (suc j))) where
    pub top-low : j < most_alternatives
    top-low =
        let a : suc j ≤ literals * (path_at state j + 1) = path-high ss sh g nodes code state j low in
        let b : path_at state j ≤ longest_path = top-stacked.low in
        omega arith

    pub top-room : alternative_of j + alternative_size ≤ length state
    top-room = let a : j < most_alternatives = top-low in let b : state_words ≤ length state = piled.long in omega arith

  -- a step, where the top stands at a literal that is no bracket
  pub step-also : (x : Literal) (b : Body) → literal_length x ≡ 1 → rest_from sh g code state (copy_at state j) (literal_at state j) ≡ also x b
      → step sh (pile_of ss sh g nodes code state (suc j)) ≡ worked sh (alternative_at ss sh g nodes code state j) (copy_at state j) (rest_at sh g code state j) x ++ pile_of ss sh g nodes code state j
  unfolding step outcome worked_on pile_of alternative_at
  step-also x b one e = ap (λ (ls : List Pending). worked_on sh (alternative_at ss sh g nodes code state j) ls ++ pile_of ss sh g nodes code state j) (left-also (path_at state j) piled.program top-stacked.place top-stacked.stays one e)

  -- More bindings, and the words behind the trail as they were: the pile is the same.
  module _ (mark : mark_at state j ≡ n) (state1 : List ℕ) (n1 : ℕ) (keeps : BindingsKept n state state1) (store1 : Store ss nodes state1 n1) (more : n ≤ n1) where
    same : SameUpTo (suc j) longest_path n state state1
    same = keeps_same (suc j) longest_path n state state1 keeps

    mark-low : (i : ℕ) → i < suc j → mark_at state i ≤ n
    mark-low i l = let z : mark_at state i ≤ mark_at state j = mark-top ss sh g nodes code state j n piled i l in omega arith

    pub kept : Means ss sh g nodes code state1 (suc j) n1 (pile_of ss sh g nodes code state (suc j))
    kept =
        record {
          piled = record {
            program = piled.program;
            store = store1;
            long = (let z : state_words ≤ length state = piled.long in let e : length state1 ≡ length state = keeps.long in let y : state_words ≤ length state1 = omega arith in y);
            each = λ i l. same-stacked ss sh g nodes code state state1 (suc j) longest_path n same i n l (piled.each i l).low (mark-low i l) (piled.each i l) n1 (let z : mark_at state i ≤ n = mark-low i l in omega arith);
            longer = λ i k l q. (let a : path_at state1 i ≡ path_at state i = same-path_at state state1 (suc j) longest_path n same i (omega arith) in let b : path_at state1 k ≡ path_at state k = same-path_at state state1 (suc j) longest_path n same k q in
                let d : path_at state i ≤ path_at state k = piled.longer i k l q in let y : path_at state1 i ≤ path_at state1 k = omega arith in y);
            later = λ i k l q. (let a : mark_at state1 i ≡ mark_at state i = same-mark_at state state1 (suc j) longest_path n same i (omega arith) in let b : mark_at state1 k ≡ mark_at state k = same-mark_at state state1 (suc j) longest_path n same k q in
                let d : mark_at state i ≤ mark_at state k = piled.later i k l q in let y : mark_at state1 i ≤ mark_at state1 k = omega arith in y);
          };
          is = same-pile ss sh g nodes code state state1 (suc j) longest_path n n same (λ i l. (piled.each i l, (piled.each i l).low, mark-low i l));
        }

    -- The top goes on at another record of its copy: an alternative with these bindings is laid in its place.
    module _ (within1 : WithinCopies (path_at state j) state1 n1) (to : ℕ) (at : RecordOf sh g code state (copy_at state j) to) where
      pub gone-climbing : Climbing ss sh g nodes code state1 (path_at state j) (copy_at state j) to
      gone-climbing =
          let p : path_at state j ≤ longest_path = top-stacked.low in
          let c : copy_at state j ≤ path_at state j = top-stacked.copy in
          record {
            program = piled.program;
            long = kept.piled.long;
            low = p;
            frame = λ i l. same-frame sh g code state state1 longest_path same.frame i (omega arith) (top-stacked.frame i l);
            copy = c;
            place = same_place sh g code state state1 longest_path same.frame (copy_at state j) to (omega arith) at;
          }

      pub going : {after : List ℕ} {x : Climbing ss sh g nodes code state1 (path_at state j) (copy_at state j) to} → j < most_alternatives → (k : AlternativeLaid x after j n1)
          → Going ss sh g nodes code state state1 after j n n1 (path_at state j) to k.spot.copy k.spot.literal k.next
      going l k =
          let a : k.spot.copy ≤ copy_at state j = k.climbs.copy in
          let c : copy_at state j ≤ path_at state j = top-stacked.copy in
          let long : state_words ≤ length state1 = kept.piled.long in
          record {
            piled = piled;
            mark = mark;
            path = refl;
            keeps = keeps;
            store = store1;
            within = within1;
            more = more;
            copy = omega arith;
            left = k.climbs.same;
            fresh = lays-fresh k;
            written = lays-written k (omega arith);
          }
