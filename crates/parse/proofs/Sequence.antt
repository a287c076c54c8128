-- Laws of reading one thing after another: what the parts give, the whole gives. Assumes nothing.
use Prim.Native.Nat.{ℕ, ◌+◌, ◌≤◌}
use native.Mathlib.Nat.{add_assoc}
use native.Mathlib.Omega.{arith}
use mathlib.Core.Path.{◌≡◌, sym, ap, ap₂, ◌∙◌, subst⁻¹}
use mathlib.Core.List.{List, [], ◌∷◌, ◌++◌, append_assoc}
use lib.ListN.{length, set, take, length-take, length-set, length-append}
use lib.Seq.{take-take, take-append-le, take-set-lt, set-append_left, take_all}
use Rattle.syntax.specs.Reading.{Cursor, Read, fault, ok, and_then}
use Rattle.syntax.specs.declared.ParserState.{ParserState}
use Rattle.std.specs.Prelude.{Ok, Err}
use Rattle.syntax.specs.declared.Refusal.{Refusal}
use Rattle.parse.specs.Gives.{cursor_of, GivenWith, Form, Gives}
use Rattle.parse.specs.declared.Parsed.{Parsed}
use Rattle.parse.proofs.Reading.{three}

-- ---- tables

pub shorter : (n m : ℕ) (entry exit : List ℕ) → n ≤ m → take m exit ≡ take m entry → take n exit ≡ take n entry
shorter n m entry exit h e = sym (take-take n m exit h) ∙ ap (take n) e ∙ take-take n m entry h

-- words that were stored from m on leave those before as they were
pub kept-before : (n m k : ℕ) (entry exit words : List ℕ) → n ≤ m → m ≤ length entry → take (m + k) exit ≡ take m entry ++ words → take n exit ≡ take n entry
kept-before n m k entry exit words h l e =
    sym (take-take n (m + k) exit (omega arith))
    ∙ ap (take n) e
    ∙ take-append-le n (take m entry) words (simp length-take (omega arith))
    ∙ take-take n m entry h

-- one run of words behind another
pub joined : (entry mid exit a b : List ℕ) (n : ℕ) → take (n + length a) mid ≡ take n entry ++ a → take ((n + length a) + length b) exit ≡ take (n + length a) mid ++ b → take (n + length (a ++ b)) exit ≡ take n entry ++ (a ++ b)
joined entry mid exit a b n e f =
    ap (λ (k : ℕ). take k exit) (ap (λ (k : ℕ). n + k) (length-append a b) ∙ sym (add_assoc n (length a) (length b)))
    ∙ f
    ∙ ap (λ (x : List ℕ). x ++ b) e
    ∙ append_assoc (take n entry) a b

-- three words stored in front of a run that stands already
pub header : (entry mid exit w : List ℕ) (n a b c : ℕ) → n + 3 ≤ length entry → take ((n + 3) + length w) mid ≡ take (n + 3) entry ++ w → exit ≡ set (set (set mid n a) (n + 1) b) (n + 2) c → take (n + length (a ∷ b ∷ c ∷ w)) exit ≡ take n entry ++ (a ∷ b ∷ c ∷ w)
header entry mid exit w n a b c h e f =
    let k : n + length (a ∷ b ∷ c ∷ w) ≡ (n + 3) + length w = omega arith in
    let l : length (take (n + 3) entry) ≡ n + 3 = simp length-take (omega arith) in
    let front : List ℕ = take (n + 3) entry in
    let s3 : List ℕ → List ℕ = λ x. set (set (set x n a) (n + 1) b) (n + 2) c in
    ap₂ (λ (i : ℕ) (x : List ℕ). take i x) k f
    ∙ take-set-lt ((n + 3) + length w) (set (set mid n a) (n + 1) b) (n + 2) c (omega arith)
    ∙ ap (λ (x : List ℕ). set x (n + 2) c) (take-set-lt ((n + 3) + length w) (set mid n a) (n + 1) b (omega arith))
    ∙ ap (λ (x : List ℕ). set (set x (n + 1) b) (n + 2) c) (take-set-lt ((n + 3) + length w) mid n a (omega arith))
    ∙ ap s3 e
    ∙ ap (λ (x : List ℕ). set (set x (n + 1) b) (n + 2) c) (set-append_left front w n a (omega arith))
    ∙ ap (λ (x : List ℕ). set x (n + 2) c) (set-append_left (set front n a) w (n + 1) b (simp length-set (omega arith)))
    ∙ set-append_left (set (set front n a) (n + 1) b) w (n + 2) c (simp length-set (omega arith))
    ∙ ap (λ (x : List ℕ). x ++ w) (sym (take_all (n + 3) (s3 front) (simp length-set (omega arith))) ∙ three front n a b c (omega arith) ∙ ap (λ (x : List ℕ). x ++ (a ∷ b ∷ c ∷ [])) (take-take n (n + 3) entry (omega arith)))
    ∙ append_assoc (take n entry) (a ∷ b ∷ c ∷ []) w

-- ---- one thing, and what follows it

module _ {A B : Type 0} (part : Form A) (whole : Form B) (s : List ℕ) where
  -- a fault of the part is the whole's
  pub seq-fault : (from st : ParserState) (entry exit : List ℕ) (n m : ℕ) (q : Refusal) (d : Read A) (k : A → Cursor → Read B) → n ≤ m → Gives part s st entry exit m (Err q) d → Gives whole s from entry exit n (Err q) (and_then d k)
  unfolding and_then
  seq-fault from st entry exit n m q (fault j b) k h g = record { is = g.is; kept = shorter n m entry exit h g.kept }
  seq-fault from st entry exit n m q (ok a after) k h g = absurd g

module _ {A : Type 0} (f : Form A) (s : List ℕ) where
  -- otherwise it is what was read, with the reader that the code has
  pub seq-ok : (st : ParserState) (entry exit : List ℕ) (n : ℕ) (r : Parsed) (d : Read A) → Gives f s st entry exit n (Ok r) d → (a : A) × (d ≡ ok a (cursor_of s exit r.state)) × GivenWith f.spare s st entry exit n r (f.words a) (f.items a) (cursor_of s exit r.state)
  seq-ok st entry exit n r (fault k b) g = absurd g
  seq-ok st entry exit n r (ok a after) g = (a, ap (ok a) (sym g.state_is), subst⁻¹ (λ (x : Cursor). GivenWith f.spare s st entry exit n r (f.words a) (f.items a) x) g.state_is g)
