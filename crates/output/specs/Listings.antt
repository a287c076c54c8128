-- The entries of a sheet's declarations, written over a caller's list as far as it goes.
use Rattle.std.specs.Prelude.{ℕ, zero, suc, ◌+◌, ◌*◌, ◌≤◌, ◌≡◌, cond, List, [], ◌∷◌, leb, length, get_or, set, Option, Some, None, Ok, Err}
use Rattle.syntax.specs.Limits.{declarations}
use Rattle.syntax.specs.Words.{declaration_size, declared_words}
use Rattle.syntax.specs.Terms.{Sheet, Declaration}
use Rattle.syntax.specs.Verdicts.{Outcome, refused, accepted, sheet_verdict, entry_of}
use Rattle.syntax.specs.Verdicts.{Verdict}
use Rattle.words.specs.Tables.{entry_from}
use Rattle.syntax.specs.declared.Entry.{Entry}
use Rattle.output.specs.declared.listings.Listing.{Listing}

-- the first entries replaced by those of the declarations, in sheet order, as far as the list goes; later ones as they were
unfoldable pub overlay : List Entry → List Declaration → List Entry
overlay [] ds = []
overlay (e ∷ es) [] = e ∷ es
overlay (e ∷ es) (d ∷ ds) = entry_of d ∷ overlay es ds

-- the declarations of a text that is accepted, and none of one that is refused
unfoldable pub declared_of : Outcome Sheet → List Declaration
declared_of (refused r) = []
declared_of (accepted sh) = sh.declarations

-- how many entries a list with room for so many takes: "as far as the list goes", and none of a sheet that is refused
unfoldable pub listed_of : Verdict → ℕ → ℕ
listed_of (Ok counts) room = cond (leb counts.declarations room) counts.declarations room
listed_of (Err fault) room = 0

-- the entry of the i-th of n declarations, four words each
abbrev pub entry_words : List ℕ → ℕ → ℕ → Option Entry
entry_words declared n i = cond (leb n i) None (Some (entry_from declared i))

-- the first k entries stored, one after another
unfoldable pub pasted : (ℕ → Entry) → ℕ → List Entry → List Entry
pasted f zero es = es
pasted f (suc k) es = set (pasted f k es) k (f k)

-- what a listing promises for a list with room for so many: the verdict on the sheet, and entries that overlay the list
pub record ListingOf (o : Outcome Sheet) (room : ℕ) (r : Listing) : Type 0 where
  pub is : r.verdict ≡ sheet_verdict o
  pub size : declared_words ≡ length r.words
  pub short : r.count ≤ declarations
  pub within : r.count ≤ room
  pub fills : (es : List Entry) → length es ≡ room → pasted (entry_from r.words) r.count es ≡ overlay es (declared_of o)
