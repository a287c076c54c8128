-- Texts written one behind the other, and a text that a loop appends piece by piece. Assumes nothing.
use Prim.Native.Nat.{ℕ}
use mathlib.Core.Path.{◌≡◌, sym, ap, ◌∙◌}
use mathlib.Core.List.{List, [], ◌++◌, append_assoc, append-nil}
use Rattle.words.specs.Buffers.{Appended}
use Rattle.words.proofs.BuffersLaws.{nothing, then, spelt}

-- Of what a definition writes before the bytes that follow: they stand behind it.
abbrev pub Before : (List ℕ → List ℕ) → Type 0
Before text = (rest : List ℕ) → text rest ≡ text [] ++ rest

-- so they do behind two such texts in turn
pub in_turn : (one two : List ℕ → List ℕ) → Before one → Before two → Before (λ rest. one (two rest))
in_turn one two f g rest =
    f (two rest)
    ∙ ap (λ (w : List ℕ). one [] ++ w) (g rest)
    ∙ sym (append_assoc (one []) (two []) rest)
    ∙ ap (λ (w : List ℕ). w ++ rest) (sym (f (two [])))

-- and behind some bytes and such a text
pub behind_bytes : (bytes : List ℕ) (text : List ℕ → List ℕ) → Before text → Before (λ rest. bytes ++ text rest)
behind_bytes bytes text f rest = ap (λ (w : List ℕ). bytes ++ w) (f rest) ∙ sym (append_assoc bytes (text []) rest)

-- the text is appended but for what is left
pub record AppendedBut (old : List ℕ) (from : ℕ) (text left new : List ℕ) (to : ℕ) : Type 0 where
  pub done : List ℕ
  pub appended : Appended old from done new to
  pub is : text ≡ done ++ left

pub begun : {old : List ℕ} {from : ℕ} {text left : List ℕ} → text ≡ left → AppendedBut old from text left old from
begun {old} {from} e = record { done = []; appended = nothing old from; is = e }

-- one piece more
pub further : {old : List ℕ} {from : ℕ} {text left new : List ℕ} {to : ℕ} {piece rest after : List ℕ} {end : ℕ}
    → left ≡ piece ++ rest → AppendedBut old from text left new to → Appended new to piece after end → AppendedBut old from text rest after end
further {piece = piece} {rest = rest} e w q = record {
  done = w.done ++ piece;
  appended = then w.appended q;
  is = w.is ∙ ap (λ (x : List ℕ). w.done ++ x) e ∙ sym (append_assoc w.done piece rest);
}

-- with the last piece all of it
pub ended : {old : List ℕ} {from : ℕ} {text left new : List ℕ} {to : ℕ} {piece after : List ℕ} {end : ℕ}
    → left ≡ piece → AppendedBut old from text left new to → Appended new to piece after end → Appended old from text after end
ended e w q = spelt (w.is ∙ ap (λ (x : List ℕ). w.done ++ x) e) (then w.appended q)

pub all_done : {old : List ℕ} {from : ℕ} {text left new : List ℕ} {to : ℕ} → left ≡ [] → AppendedBut old from text left new to → Appended old from text new to
all_done e w = spelt (w.is ∙ ap (λ (x : List ℕ). w.done ++ x) e ∙ append-nil w.done) w.appended
