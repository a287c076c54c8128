-- Laws of a record's words: what stands where they were written, and what they leave as it was. Assumes nothing.
use Prim.Native.Nat.{ℕ, ◌+◌, ◌≤◌, ◌<◌}
use native.Mathlib.Omega.{arith}
use mathlib.Core.Path.{◌≡◌, ◌∙◌, subst}
use mathlib.Core.List.{List}
use lib.ListN.{length, get_or, set, length-set}
use lib.Seq.{get_or-set_same, get_or-set_other}
use Rattle.run_layout.specs.Regions.{next_literal}
use Rattle.run_layout.specs.Program.{record_kind, record_place, other_at}
use Rattle.load.specs.Records.{put_pair, put_record}

-- ---- two words, and a record

module _ (code : List ℕ) (p a b : ℕ) where
  pub pair-long : length (put_pair code p a b) ≡ length code
  unfolding put_pair
  pair-long = simp length-set

  pub pair-other : (i : ℕ) → (i ≡ p → ⊥) → (i ≡ p + 1 → ⊥) → get_or (put_pair code p a b) i 0 ≡ get_or code i 0
  unfolding put_pair
  pair-other i d e = get_or-set_other (set code p a) (p + 1) i b 0 e ∙ get_or-set_other code p i a 0 d

  pub pair-first : p < length code → get_or (put_pair code p a b) p 0 ≡ a
  unfolding put_pair
  pair-first l = get_or-set_other (set code p a) (p + 1) p b 0 (λ e. omega arith) ∙ get_or-set_same code p a 0 l

  pub pair-second : p + 1 < length code → get_or (put_pair code p a b) (p + 1) 0 ≡ b
  unfolding put_pair
  pair-second l = let n : length (set code p a) ≡ length code = simp length-set in get_or-set_same (set code p a) (p + 1) b 0 (omega arith)

module _ (code : List ℕ) (l kind place other : ℕ) where
  pub record-long : length (put_record code l kind place other) ≡ length code
  unfolding put_record
  record-long = pair-long (set code l kind) (l + 1) place other ∙ simp length-set

  pub record-below : (i : ℕ) → i < l → get_or (put_record code l kind place other) i 0 ≡ get_or code i 0
  unfolding put_record
  record-below i k = pair-other (set code l kind) (l + 1) place other i (λ e. omega arith) (λ e. omega arith) ∙ get_or-set_other code l i kind 0 (λ e. omega arith)

  pub record-above : (i : ℕ) → next_literal l ≤ i → get_or (put_record code l kind place other) i 0 ≡ get_or code i 0
  unfolding put_record
  record-above i k = pair-other (set code l kind) (l + 1) place other i (λ e. omega arith) (λ e. omega arith) ∙ get_or-set_other code l i kind 0 (λ e. omega arith)

  module _ (room : next_literal l ≤ length code) where
    long : length (set code l kind) ≡ length code
    long = simp length-set

    pub record-kind : record_kind (put_record code l kind place other) l ≡ kind
    unfolding put_record
    record-kind = pair-other (set code l kind) (l + 1) place other l (λ e. omega arith) (λ e. omega arith) ∙ get_or-set_same code l kind 0 (omega arith)

    pub record-place : record_place (put_record code l kind place other) l ≡ place
    unfolding put_record
    record-place = let n : length (set code l kind) ≡ length code = long in pair-first (set code l kind) (l + 1) place other (omega arith)

    pub record-other : other_at (put_record code l kind place other) l ≡ other
    unfolding put_record
    record-other =
        let n : length (set code l kind) ≡ length code = long in
        subst (λ (i : ℕ). get_or (put_pair (set code l kind) (l + 1) place other) i 0 ≡ other) (let e : l + 1 + 1 ≡ l + 2 = omega arith in e) (pair-second (set code l kind) (l + 1) place other (omega arith))
