-- What is printed of a buffer is the line that was appended to its start.
use Rattle.std.proofs.Common.{◌≡◌, ℕ, ◌+◌, ◌≤◌, true, List, [], ◌∷◌, ◌++◌, arith, refl, ap, ◌∙◌, length, take, drop}
use Rattle.std.specs.Prelude.{leb}
use borrow.Author.Tests.{le-leb}
use Rattle.std.proofs.Math.Seq.{take-append_seam}
use Rattle.std.proofs.lemmas.List.Edits.{sets, sets-eq}
use Rattle.words.specs.Buffers.{Appended, fitted_length, fitted}
use Rattle.output.specs.Lines.{name_word}

pub whole : {old new : List ℕ} {n : ℕ} (line : List ℕ) → Appended old 0 line new n → n ≤ length old → take n new ≡ line
whole {old} {new} {n} line w few =
    let fits : 0 + length line ≤ length old = omega (arith, w.past) in
    let same : n ≡ length line = omega (arith, w.past) in
    ap (take n) (w.text ∙ sets-eq line old 0 fits) ∙ ap (λ k. take k (line ++ drop (0 + length line) old)) same ∙ take-append_seam line (drop (0 + length line) old)

-- the same of a line that was put there whole, if it fits
pub whole_put : {new : List ℕ} {n : ℕ} (line old : List ℕ) → n ≡ fitted_length line old → new ≡ fitted line old → length line ≤ length old → take n new ≡ line
whole_put {new} {n} line old e f few =
    let fits : leb (length line) (length old) ≡ true = le-leb (length line) (length old) few in
    let same : n ≡ length line = rw fits at e in
    let text : new ≡ sets old 0 line = rw fits at f in
    whole line (record { text = text; past = omega (arith, same) }) (omega (arith, same))

pub some-name : (s : List ℕ) → (length s ≡ 0 → ⊥) → name_word s ≡ (32 ∷ []) ++ s
some-name [] h = absurd (h refl)
some-name (b ∷ bs) h = refl
