-- Laws of tables whose cells are cleared. Assumes nothing.
use Rattle.std.proofs.Common.{◌≡◌, ℕ, ◌≤◌, List, ◌++◌, length, get_or, take, drop, replicate, ap, ◌∙◌, arith, length-append, length-take, length-drop}
use Rattle.std.proofs.lemmas.List.{get_or_append_left, get_or-replicate, length-replicate}
use Rattle.run_layout.specs.Regions.{cells, store_words}
use Rattle.run_layout.specs.Rooms.{Zeros, Clean}

-- the first words filled with 0, and the others as they were
pub filled-clean : (words new : List ℕ) → store_words ≤ length words → new ≡ replicate (length (take cells words)) 0 → Clean (new ++ drop cells words)
filled-clean words new h e =
    let n : length (take cells words) ≡ cells = omega (arith, length-take cells words) in
    let l : length new ≡ cells = ap (λ (x : List ℕ). length x) e ∙ length-replicate (length (take cells words)) 0 ∙ n in
    record {
      long = omega (arith, length-append new (drop cells words), length-drop cells words);
      zero = λ y q.
          get_or_append_left new (drop cells words) 0 y (omega arith)
          ∙ ap (λ (x : List ℕ). get_or x y 0) e
          ∙ get_or-replicate (length (take cells words)) y 0 0 (omega arith);
    }

-- in words that are all zero the first are
pub cleared-clean : (k : ℕ) (words : List ℕ) → Zeros k words → store_words ≤ k → Clean words
cleared-clean k words z h = record { long = omega (arith, z.long); zero = λ y q. z.zero_words y }
