-- The words stored are those of a frame or of an alternative. Assumes nothing.
use Prim.Native.Nat.{ℕ, suc, ◌+◌, ◌-◌, ◌≤◌}
use native.Mathlib.Omega.{arith}
use mathlib.Core.Path.{◌≡◌, sym, ap, ◌∙◌}
use mathlib.Core.Bool.{Bool, true, false}
use mathlib.Core.List.{List}
use lib.ListN.{length, get_or, set, length-set}
use lib.Seq.{get_or-set_same, get_or-set_other}
use borrow.Author.Tests.{eq-eqb, ne_eqb}
use Rattle.syntax.specs.Words.{call_kind}
use Rattle.run_layout.specs.Regions.{frame_of, alternative_of, frame_size, alternative_size}
use Rattle.run_layout.specs.Program.{record_kind, other_at}
use Rattle.run_layout.specs.Pile.{copy_at, literal_at, mark_at, path_at}
use Rattle.run.specs.Words.{top_words, next_words, frame_words, topmost_at}
use Rattle.run_layout.proofs.Pile.{Written, Framed, written_next, framed}

module _ (state : List ℕ) (j copy literal next mark path : ℕ) (room : alternative_of j + alternative_size ≤ length state) where
  abbrev s1 : List ℕ
  s1 = set state (alternative_of j) copy

  abbrev s2 : List ℕ
  s2 = set s1 (alternative_of j + 1) literal

  abbrev s3 : List ℕ
  s3 = set s2 (alternative_of j + 2) next

  abbrev s4 : List ℕ
  s4 = set s3 (alternative_of j + 3) mark

  abbrev s5 : List ℕ
  s5 = set s4 (alternative_of j + 4) path

  long1 : length s1 ≡ length state
  long1 = length-set state (alternative_of j) copy

  long2 : length s2 ≡ length state
  long2 = length-set s1 (alternative_of j + 1) literal ∙ long1

  long3 : length s3 ≡ length state
  long3 = length-set s2 (alternative_of j + 2) next ∙ long2

  long4 : length s4 ≡ length state
  long4 = length-set s3 (alternative_of j + 3) mark ∙ long3

  over4 : (i : ℕ) → (i ≡ alternative_of j + 4 → ⊥) → get_or s5 i 0 ≡ get_or s4 i 0
  over4 i z = get_or-set_other s4 (alternative_of j + 4) i path 0 z

  over3 : (i : ℕ) → (i ≡ alternative_of j + 3 → ⊥) → get_or s4 i 0 ≡ get_or s3 i 0
  over3 i z = get_or-set_other s3 (alternative_of j + 3) i mark 0 z

  over2 : (i : ℕ) → (i ≡ alternative_of j + 2 → ⊥) → get_or s3 i 0 ≡ get_or s2 i 0
  over2 i z = get_or-set_other s2 (alternative_of j + 2) i next 0 z

  over1 : (i : ℕ) → (i ≡ alternative_of j + 1 → ⊥) → get_or s2 i 0 ≡ get_or s1 i 0
  over1 i z = get_or-set_other s1 (alternative_of j + 1) i literal 0 z

  pub stand-written : Written j copy literal next mark path state (top_words state j copy literal next mark path)
  unfolding top_words
  stand-written =
      let e1 : length s1 ≡ length state = long1 in
      let e2 : length s2 ≡ length state = long2 in
      let e3 : length s3 ≡ length state = long3 in
      let e4 : length s4 ≡ length state = long4 in
      record {
        long = length-set s4 (alternative_of j + 4) path ∙ long4;
        copy = over4 (alternative_of j) (λ e. omega arith) ∙ (over3 (alternative_of j) (λ e. omega arith) ∙ (over2 (alternative_of j) (λ e. omega arith) ∙ (over1 (alternative_of j) (λ e. omega arith) ∙ get_or-set_same state (alternative_of j) copy 0 (omega arith))));
        literal = over4 (alternative_of j + 1) (λ e. omega arith) ∙ (over3 (alternative_of j + 1) (λ e. omega arith) ∙ (over2 (alternative_of j + 1) (λ e. omega arith) ∙ get_or-set_same s1 (alternative_of j + 1) literal 0 (omega arith)));
        next = over4 (alternative_of j + 2) (λ e. omega arith) ∙ (over3 (alternative_of j + 2) (λ e. omega arith) ∙ get_or-set_same s2 (alternative_of j + 2) next 0 (omega arith));
        mark = over4 (alternative_of j + 3) (λ e. omega arith) ∙ get_or-set_same s3 (alternative_of j + 3) mark 0 (omega arith);
        path = get_or-set_same s4 (alternative_of j + 4) path 0 (omega arith);
        others = λ i l.
            over4 i (λ e. omega arith) ∙ (over3 i (λ e. omega arith) ∙ (over2 i (λ e. omega arith) ∙ (over1 i (λ e. omega arith) ∙ get_or-set_other state (alternative_of j) i copy 0 (λ e. omega arith))));
      }

pub next-written : (state : List ℕ) (j next : ℕ) → alternative_of j + alternative_size ≤ length state → Written j (copy_at state j) (literal_at state j) next (mark_at state j) (path_at state j) state (next_words state j next)
unfolding next_words
next-written state j next room = written_next state j next (let z : alternative_of j + alternative_size ≤ length state = omega arith in z)

pub frame-framed : (state : List ℕ) (k clause copy literal : ℕ) → frame_of k + frame_size ≤ length state → Framed k clause copy literal state (frame_words state k clause copy literal)
unfolding frame_words
frame-framed state k clause copy literal room = framed state k clause copy literal (let z : frame_of k + frame_size ≤ length state = omega arith in z)

-- ---- the topmost clause

pub topmost-call : (code : List ℕ) (l : ℕ) → record_kind code l ≡ call_kind → other_at code l ≡ topmost_at code l
unfolding topmost_at
topmost-call code l e = sym (ap (λ (b : Bool). elim b [ true ↦ other_at code l | false ↦ 0 ]) (eq-eqb (record_kind code l) call_kind e))

pub topmost-other : (code : List ℕ) (l : ℕ) → (record_kind code l ≡ call_kind → ⊥) → 0 ≡ topmost_at code l
unfolding topmost_at
topmost-other code l z = sym (ap (λ (b : Bool). elim b [ true ↦ other_at code l | false ↦ 0 ]) (ne_eqb (record_kind code l) call_kind z))

-- the same of words that were read
pub read-call : (code : List ℕ) (l w v : ℕ) → w ≡ record_kind code l → w ≡ 2 → v ≡ other_at code l → v ≡ topmost_at code l
read-call code l w v e q r = r ∙ topmost-call code l (sym e ∙ q)

pub read-other : (code : List ℕ) (l w : ℕ) → w ≡ record_kind code l → (w ≡ 2 → ⊥) → 0 ≡ topmost_at code l
read-other code l w e z = topmost-other code l (λ q. z (e ∙ q))

-- ---- counts

pub less_one : (j : ℕ) → suc j - 1 ≡ j
less_one j = let e : suc j - 1 ≡ j = omega arith in e

pub add-one : (j : ℕ) → j + 1 ≡ suc j
add-one j = let e : j + 1 ≡ suc j = omega arith in e
