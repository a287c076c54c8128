-- The search for a predicate's declaration, "over any list of entries, repeats included" (REQUESTS (vi)).
use Rattle.std.specs.Prelude.{ℕ, zero, suc, ◌+◌, ◌/◌, ◌<◌, ◌≡◌, Bool, true, false, ◌&&◌, List, [], ◌∷◌, leb, length, get_or, Option, Some, None}
use Rattle.syntax.specs.Terms.{same_predicate}
use Rattle.syntax.specs.Tokens.{spelling}
use Rattle.syntax.specs.Words.{declaration_size}
use Rattle.syntax.specs.declared.Entry.{Entry}
use Rattle.marks.specs.declared.lookup.Lookup.{Lookup}

-- Whether an entry of a text is one of the predicate of a name with n arguments: "one that reaches past the sheet's end matches nothing".
unfoldable pub matches : List ℕ → List ℕ → ℕ → Entry → Bool
matches text name n e = leb (e.at + e.len) (length text) && same_predicate (spelling text e.at e.len) e.arguments name n

-- a match behind k entries, which is compared too; and none among k
abbrev pub found : ℕ → Lookup
found k = record { place = Some k; compared = suc k }

abbrev pub missing : ℕ → Lookup
missing k = record { place = None; compared = k }

-- "The first match and how many entries it compared, up to and with that one, or none and the count of all", after k entries that do not match.
unfoldable pub look_from : List ℕ → List ℕ → ℕ → ℕ → List Entry → Lookup
look_from text name n k [] = missing k
look_from text name n k (e ∷ es) = elim (matches text name n e) [ true ↦ found k | false ↦ look_from text name n (suc k) es ]

abbrev pub look_up : List ℕ → List ℕ → ℕ → List Entry → Lookup
look_up text name n es = look_from text name n 0 es

-- an entry by its words, of which the last tells the marks
abbrev pub stored_entry : List ℕ → ℕ → Entry
stored_entry words p = record { at = get_or words p 0; len = get_or words (p + 1) 0; arguments = get_or words (p + 2) 0 }

-- n entries, from a place of the words on
unfoldable pub stored_entries : List ℕ → ℕ → ℕ → List Entry
stored_entries words p zero = []
stored_entries words p (suc n) = stored_entry words p ∷ stored_entries words (p + declaration_size) n

-- as many entries as are whole in the words
abbrev pub whole_entries : List ℕ → List Entry
whole_entries words = stored_entries words 0 (length words / declaration_size)

-- ---- what an answer says of the entries (proofs/First shows that every answer does)

-- the entry at a place matches, none before it does, and those up to and with it were compared
pub record IsFirst (text name : List ℕ) (n : ℕ) (es : List Entry) (place compared : ℕ) : Type 0 where
  pub inside : place < length es
  pub found : (d : Entry) → matches text name n (get_or es place d) ≡ true
  pub first : (d : Entry) (j : ℕ) → j < place → matches text name n (get_or es j d) ≡ false
  pub count : compared ≡ suc place

-- no entry matches, and all were compared
pub record IsNone (text name : List ℕ) (n : ℕ) (es : List Entry) (compared : ℕ) : Type 0 where
  pub none : (d : Entry) (j : ℕ) → j < length es → matches text name n (get_or es j d) ≡ false
  pub count : compared ≡ length es

abbrev pub SaysOf : List ℕ → List ℕ → ℕ → List Entry → Option ℕ → ℕ → Type 0
SaysOf text name n es (Some place) compared = IsFirst text name n es place compared
SaysOf text name n es None compared = IsNone text name n es compared

abbrev pub Says : List ℕ → List ℕ → ℕ → List Entry → Lookup → Type 0
Says text name n es r = SaysOf text name n es r.place r.compared
