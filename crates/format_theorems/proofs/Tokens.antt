-- Tokens of a writing: a word, a sign or the pair :- that stands first in some bytes is read as itself, and the reader then stands at what is behind it.
-- Assumes nothing.
use Prim.Native.Nat.{ℕ, suc, ◌+◌, ◌≤◌}
use native.Mathlib.Nat.{add-zero}
use native.Mathlib.Omega.{arith}
use mathlib.Core.Path.{◌≡◌, refl, sym, ap, ◌∙◌}
use mathlib.Core.Bool.{Bool, true, false}
use mathlib.Core.List.{List, [], ◌∷◌, ◌++◌}
use lib.ListN.{length, take, drop}
use lib.Seq.{drop-drop, drop-append_seam, take-append_seam}
use borrow.Author.Tests.{le-leb}
use Rattle.syntax.specs.Limits.{word_bytes}
use Rattle.syntax.specs.Bytes.{class_of, in_word, in_numeral}
use Rattle.syntax.specs.declared.Class.{Class}
use Rattle.syntax.specs.declared.Class.TheVariants.{Lower, Upper, Digit, Single}
use Rattle.syntax.specs.declared.Token.{Token}
use Rattle.syntax.specs.declared.TokenKind.{TokenKind}
use Rattle.syntax.specs.Tokens.{outside, Move, on, at_token, move_of, skipped, run_length, word, dash_first, name_kind, variable_kind, numeral_kind, neck_kind, end_kind, token_of_class, token_from, token_place, token_at}
use Rattle.syntax.specs.Reading.{Cursor, token_kind, spelt, cursor_at, next}

-- The reader stands before some bytes of a text, with so many variables and literals met.
pub record ReaderBefore (s text : List ℕ) (names : List (List ℕ)) (n : ℕ) (st : Cursor) : Type 0 where
  pub at : ℕ
  pub left : drop at s ≡ text
  pub token : st.token ≡ token_at s at
  pub named : st.names ≡ names
  pub counted : st.literals ≡ n

-- The token at hand: its kind, its bytes, and what is behind it.
pub record TokenInHand (s : List ℕ) (k : TokenKind) (w rest : List ℕ) (names : List (List ℕ)) (n : ℕ) (st : Cursor) : Type 0 where
  pub kind : token_kind st ≡ k
  pub word : spelt s st ≡ w
  pub long : st.token.len ≡ length w
  pub behind : ReaderBefore s rest names n (next s st)

-- ---- where a token stands

-- a byte that begins a token
pub first_token : (s : List ℕ) (at b : ℕ) (more : List ℕ) → drop at s ≡ b ∷ more → move_of outside b ≡ at_token → token_at s at ≡ token_of_class (class_of b) at more
unfolding token_at token_place token_from skipped
first_token s at b more e m =
    let place : token_place s at ≡ at =
    ap (λ (l : List ℕ). at + skipped outside l) e
    ∙ (ap (λ (x : Move). at + elim x as (λ _. ℕ) [ on h ↦ suc (skipped h more) | at_token ↦ 0 ]) m ∙ add-zero at) in
    ap (λ (k : ℕ). token_from k (drop k s)) place ∙ ap (token_from at) e

-- a blank is passed over
pub past_blank : (s : List ℕ) (at b : ℕ) (more : List ℕ) → drop at s ≡ b ∷ more → move_of outside b ≡ on outside → token_at s at ≡ token_at s (at + 1)
unfolding token_at token_place skipped
past_blank s at b more e m =
    let behind : drop (at + 1) s ≡ more = sym (drop-drop 1 at s) ∙ ap (drop 1) e in
    let one : at + suc (skipped outside more) ≡ at + 1 + skipped outside more = omega arith in
    let place : token_place s at ≡ token_place s (at + 1) =
    ap (λ (l : List ℕ). at + skipped outside l) e
    ∙ ap (λ (x : Move). at + elim x as (λ _. ℕ) [ on h ↦ suc (skipped h more) | at_token ↦ 0 ]) m
    ∙ one ∙ ap (λ (l : List ℕ). at + 1 + skipped outside l) (sym behind) in
    ap (λ (k : ℕ). token_from k (drop k s)) place

module _ {s : List ℕ} {names : List (List ℕ)} {n : ℕ} {st : Cursor} where
  -- a line feed or a space
  pub past_feed : {more : List ℕ} → ReaderBefore s (10 ∷ more) names n st → ReaderBefore s more names n st
  past_feed {more} p =
      record {
        at = p.at + 1;
        left = sym (drop-drop 1 p.at s) ∙ ap (drop 1) p.left;
        token = p.token ∙ past_blank s p.at 10 more p.left refl;
        named = p.named;
        counted = p.counted;
      }

  pub past_space : {more : List ℕ} → ReaderBefore s (32 ∷ more) names n st → ReaderBefore s more names n st
  past_space {more} p =
      record {
        at = p.at + 1;
        left = sym (drop-drop 1 p.at s) ∙ ap (drop 1) p.left;
        token = p.token ∙ past_blank s p.at 32 more p.left refl;
        named = p.named;
        counted = p.counted;
      }

  -- a token of the bytes that stand first
  here : {k : TokenKind} {w rest : List ℕ} (p : ReaderBefore s (w ++ rest) names n st) → token_at s p.at ≡ record { kind = k; at = p.at; len = length w }
      → TokenInHand s k w rest names n st
  unfolding next cursor_at
  here {k} {w} {rest} p e =
      let t : st.token ≡ record { kind = k; at = p.at; len = length w } = p.token ∙ e in
      record {
        kind = ap (λ (x : Token). x.kind) t;
        word = ap (λ (x : Token). take x.len (drop x.at s)) t ∙ ap (take (length w)) p.left ∙ take-append_seam w rest;
        long = ap (λ (x : Token). x.len) t;
        behind =
            record {
              at = p.at + length w;
              left = sym (drop-drop (length w) p.at s) ∙ ap (drop (length w)) p.left ∙ drop-append_seam w rest;
              token = ap (λ (x : Token). token_at s (x.at + x.len)) t;
              named = p.named;
              counted = p.counted;
            };
      }

  -- a token of one byte
  pub sign : {b : ℕ} {k : TokenKind} {rest : List ℕ} → class_of b ≡ Single k → move_of outside b ≡ at_token → ReaderBefore s (b ∷ rest) names n st
      → TokenInHand s k (b ∷ []) rest names n st
  unfolding token_of_class
  sign {b} {k} {rest} c m p = here p (first_token s p.at b rest p.left m ∙ ap (λ (x : Class). token_of_class x p.at rest) c)

  -- the pair :-
  pub neck : {rest : List ℕ} → ReaderBefore s (58 ∷ 45 ∷ rest) names n st → TokenInHand s neck_kind (58 ∷ 45 ∷ []) rest names n st
  unfolding token_of_class dash_first class_of
  neck {rest} p = here p (first_token s p.at 58 (45 ∷ rest) p.left refl)

  -- the end of the text
  pub ended : ReaderBefore s [] names n st → token_kind st ≡ end_kind
  unfolding token_at token_place token_from skipped
  ended p =
      let place : token_place s p.at ≡ p.at = ap (λ (l : List ℕ). p.at + skipped outside l) p.left ∙ add-zero p.at in
      ap (λ (x : Token). x.kind) p.token ∙ ap (λ (k : ℕ). (token_from k (drop k s)).kind) place ∙ ap (λ (l : List ℕ). (token_from p.at l).kind) p.left

-- ---- words

-- A word: its first byte is of a class, and the others pass a test.
pub record Word (c : Class) (f : ℕ → Bool) (w : List ℕ) : Type 0 where
  pub first : ℕ
  pub others : List ℕ
  pub whole : w ≡ first ∷ others
  pub begins : move_of outside first ≡ at_token
  pub class : class_of first ≡ c
  pub run : run_length f others ≡ length others
  pub short : length w ≤ word_bytes

abbrev pub IsName : List ℕ → Type 0
IsName w = Word Lower in_word w

abbrev pub IsVariable : List ℕ → Type 0
IsVariable w = Word Upper in_word w

abbrev pub IsNumeral : List ℕ → Type 0
IsNumeral w = Word Digit in_numeral w

-- no word goes on with what stands first
pub record Stops (rest : List ℕ) : Type 0 where
  pub word : run_length in_word rest ≡ 0
  pub numeral : run_length in_numeral rest ≡ 0

run_by : (f : ℕ → Bool) (r rest : List ℕ) (t : Bool) → elim t as (λ _. ℕ) [ true ↦ suc (run_length f r) | false ↦ 0 ] ≡ suc (length r)
    → (run_length f r ≡ length r → run_length f (r ++ rest) ≡ length r)
    → elim t as (λ _. ℕ) [ true ↦ suc (run_length f (r ++ rest)) | false ↦ 0 ] ≡ suc (length r)
run_by f r rest true e k = ap suc (k (omega arith))
run_by f r rest false e k = absurd (omega arith)

pub run_through : (f : ℕ → Bool) (r rest : List ℕ) → run_length f r ≡ length r → run_length f rest ≡ 0 → run_length f (r ++ rest) ≡ length r
unfolding run_length
run_through f [] rest e z = z
run_through f (b ∷ r) rest e z = run_by f r rest (f b) e (λ q. run_through f r rest q z)

word-is : (k : TokenKind) (at n : ℕ) → n ≤ word_bytes → word k at n ≡ record { kind = k; at = at; len = n }
unfolding word
word-is k at n h = rw (le-leb n word_bytes h) refl

module _ {s : List ℕ} {names : List (List ℕ)} {n : ℕ} {st : Cursor} where
  word-here : {c : Class} {f : ℕ → Bool} {k : TokenKind} {w rest : List ℕ}
      → ((at : ℕ) (r : List ℕ) → token_of_class c at r ≡ word k at (suc (run_length f r))) → Word c f w → run_length f rest ≡ 0
      → ReaderBefore s (w ++ rest) names n st → TokenInHand s k w rest names n st
  word-here {c} {f} {k} {w} {rest} t x z p =
      let long : length w ≡ suc (length x.others) = ap length x.whole in
      let run : suc (run_length f (x.others ++ rest)) ≡ length w = ap suc (run_through f x.others rest x.run z) ∙ sym long in
      here p (first_token s p.at x.first (x.others ++ rest) (p.left ∙ ap (λ (l : List ℕ). l ++ rest) x.whole) x.begins
      ∙ ap (λ (d : Class). token_of_class d p.at (x.others ++ rest)) x.class
      ∙ t p.at (x.others ++ rest)
      ∙ ap (word k p.at) run
      ∙ word-is k p.at (length w) x.short)

  pub name_here : {w rest : List ℕ} → IsName w → Stops rest → ReaderBefore s (w ++ rest) names n st → TokenInHand s name_kind w rest names n st
  unfolding token_of_class
  name_here x z p = word-here (λ at r. refl) x z.word p

  pub variable_here : {w rest : List ℕ} → IsVariable w → Stops rest → ReaderBefore s (w ++ rest) names n st → TokenInHand s variable_kind w rest names n st
  unfolding token_of_class
  variable_here x z p = word-here (λ at r. refl) x z.word p

  pub numeral_here : {w rest : List ℕ} → IsNumeral w → Stops rest → ReaderBefore s (w ++ rest) names n st → TokenInHand s numeral_kind w rest names n st
  unfolding token_of_class
  numeral_here x z p = word-here (λ at r. refl) x z.numeral p
