-- Computed cases of the search: the match at each place, repeats, another number of arguments, empty names, entries at and past the text's end.
use Prim.Native.Nat.{ℕ}
use mathlib.Core.Path.{◌≡◌, refl}
use mathlib.Core.List.{List, [], ◌∷◌, map}
use Rattle.syntax.specs.Quote.{bytes}
use Rattle.syntax.specs.Terms.{same_bytes}
use Rattle.marks.specs.declared.lookup.Lookup.{Lookup}
use Rattle.marks.specs.Searching.{matches, found, missing, look_from, look_up, stored_entries, whole_entries}

-- the lent words, the name and its number of arguments
record Case : Type 0 where
  words : List ℕ
  name : List ℕ
  arguments : ℕ

case : List ℕ → List ℕ → ℕ → Case
case ws x n = record { words = ws; name = x; arguments = n }

cases : List Case
cases =
    case (0 ∷ 2 ∷ 1 ∷ 0 ∷ 3 ∷ 2 ∷ 1 ∷ 0 ∷ []) (bytes "ab") 1
    ∷ case (1 ∷ 2 ∷ 1 ∷ 0 ∷ 3 ∷ 2 ∷ 1 ∷ 0 ∷ []) (bytes "ab") 1
    ∷ case (0 ∷ 2 ∷ 0 ∷ 0 ∷ 3 ∷ 2 ∷ 2 ∷ 0 ∷ []) (bytes "ab") 1
    ∷ case (4294967295 ∷ 1 ∷ 1 ∷ 0 ∷ 4 ∷ 1 ∷ 1 ∷ 0 ∷ []) (bytes "b") 1
    ∷ case (4 ∷ 4294967295 ∷ 1 ∷ 0 ∷ 4 ∷ 2 ∷ 1 ∷ 0 ∷ 4 ∷ 1 ∷ 1 ∷ 0 ∷ []) (bytes "b") 1
    ∷ case (6 ∷ 0 ∷ 0 ∷ 0 ∷ 5 ∷ 0 ∷ 0 ∷ 0 ∷ []) [] 0
    ∷ case (0 ∷ 0 ∷ 0 ∷ 0 ∷ []) (bytes "a") 0
    ∷ case (0 ∷ 2 ∷ 0 ∷ 0 ∷ 0 ∷ 1 ∷ 0 ∷ []) (bytes "a") 0
    ∷ case [] (bytes "a") 0
    ∷ []

answers : List Lookup
answers = found 0 ∷ found 1 ∷ missing 2 ∷ found 1 ∷ found 2 ∷ found 1 ∷ missing 1 ∷ missing 1 ∷ missing 0 ∷ []

cases-agree : map (λ (c : Case). look_up (bytes "abcab") c.name c.arguments (whole_entries c.words)) cases ≡ answers
unfolding cases answers case matches look_from stored_entries same_bytes
cases-agree = refl
