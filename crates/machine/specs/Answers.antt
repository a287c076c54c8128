-- The answer line, byte for byte (RULES, "The run").
use Rattle.std.specs.Prelude.{ℕ, suc, Bool, true, false, ◌&&◌, List, [], ◌∷◌, ◌++◌, length}
use Rattle.std.proofs.Math.Option.{Option, none, some}
use Rattle.syntax.specs.Quote.{bytes}
use Rattle.words.specs.Buffers.{decimal}
use Rattle.syntax.specs.Terms.{Goal, same_name}
use Rattle.machine.specs.Substitution.{Variable, same_variable, RTerm, RTerms, var, app, rnil, rcons, Binding, resolve}

-- A line before its unbound variables are numbered.
pub data Piece : Type 0 where
  byte : ℕ → Piece
  unbound : Variable → Piece

-- some bytes, then other pieces
unfoldable pub bytes_then : List ℕ → List Piece → List Piece
bytes_then [] rest = rest
bytes_then (b ∷ bs) rest = byte b ∷ bytes_then bs rest

-- a term without blanks, then other pieces
unfoldable mutual
  pub spelt : RTerm → List Piece → List Piece
  spelt (var v) rest = unbound v ∷ rest
  spelt (app f ts) rest = bytes_then f (spelt_args ts rest)

  pub spelt_args : RTerms → List Piece → List Piece
  spelt_args rnil rest = rest
  spelt_args (rcons t ts) rest = byte 40 ∷ spelt t (spelt_more ts rest)

  pub spelt_more : RTerms → List Piece → List Piece
  spelt_more rnil rest = byte 41 ∷ rest
  spelt_more (rcons t ts) rest = byte 44 ∷ spelt t (spelt_more ts rest)

-- ---- the unbound variables are _1, _2 and on by first appearance in the line

-- the place of a variable among some, counted from n
unfoldable pub place_of : Variable → ℕ → List Variable → Option ℕ
place_of v n [] = none
place_of v n (w ∷ ws) = elim (same_variable v w) [ true ↦ some n | false ↦ place_of v (suc n) ws ]

-- the unbound variable of number n, before some bytes
unfoldable pub numbered : ℕ → List ℕ → List ℕ
numbered n rest = 95 ∷ (decimal n ++ rest)

-- the bytes of some pieces, before which some unbound variables were met, in that order
unfoldable pub bytes_of : List Variable → List Piece → List ℕ
bytes_of met [] = []
bytes_of met (byte b ∷ ps) = b ∷ bytes_of met ps
bytes_of met (unbound v ∷ ps) =
    elim (place_of v 1 met) [ none ↦ numbered (suc (length met)) (bytes_of (met ++ (v ∷ [])) ps) | some n ↦ numbered n (bytes_of met ps) ]

-- ---- the line

-- the variable `_`
unfoldable pub is_anonymous : List ℕ → Bool
is_anonymous name = same_name name (bytes "_")

-- there is no other
unfoldable pub all_anonymous : List (List ℕ) → Bool
all_anonymous [] = true
all_anonymous (x ∷ xs) = is_anonymous x && all_anonymous xs

-- the goal's variables but `_`, from number i on, each after a separator; then the line feed
unfoldable pub values_from : List Binding → ℕ → List ℕ → List (List ℕ) → List Piece
values_from b i separator [] = byte 10 ∷ []
values_from b i separator (x ∷ xs) =
    elim (is_anonymous x) [
      | true ↦ values_from b (suc i) separator xs
      | false ↦ bytes_then separator (bytes_then x (bytes_then (bytes " = ") (spelt (resolve b (var (record { copy = 0; number = i })))
          (values_from b (suc i) (bytes ", ") xs))))
    ]

-- an answer's line, with its line feed; `yes` where there is no variable to give
unfoldable pub line : Goal → List Binding → List ℕ
line g b = elim (all_anonymous g.names) [ true ↦ bytes "yes\n" | false ↦ bytes_of [] (values_from b 0 [] g.names) ]
