-- The words of a body's records and of a clause's, as the code is when they were written.
use Rattle.std.specs.Prelude.{ℕ, ◌+◌, List, [], ◌∷◌, length, set}
use Rattle.syntax.specs.Terms.{term_of, Body, Clause, Sheet}
use Rattle.machine.specs.Machine.{next_for}
use Rattle.syntax.specs.Words.{body_length}
use Rattle.words.specs.Items.{Item, items}
use Rattle.run_layout.specs.Regions.{body_end_kind, next_literal, literal_from, clause_record}
use Rattle.run_layout.specs.Nodes.{Symbol, loaded_words}
use Rattle.load.specs.Records.{put_pair, put_record}
use Rattle.load.specs.ItemsRecords.{kind_of, item_nodes, other_of}

-- the records of items from l on, and then the body's end, where their nodes stand from q on
unfoldable pub put_items : List Symbol → Sheet → ℕ → List Item → List ℕ → ℕ → List ℕ
put_items ss sh q [] code l = set code l body_end_kind
put_items ss sh q (x ∷ xs) code l =
    put_items ss sh (q + length (item_nodes ss x)) xs (put_record code l (kind_of x) q (other_of ss sh q l x)) (next_literal l)

-- those of a body
abbrev pub put_body : List Symbol → Sheet → ℕ → Body → List ℕ → ℕ → List ℕ
put_body ss sh q b code l = put_items ss sh q (items b) code l

-- the record behind the end of a body that begins at l
abbrev pub behind_body : ℕ → Body → ℕ
behind_body l b = next_literal (literal_from l (body_length b))

-- a clause of number k, all but its head's place; its body begins at l
unfoldable pub put_clause : List Symbol → Sheet → ℕ → Clause → List ℕ → ℕ → ℕ → List ℕ
put_clause ss sh q cl code k l =
    put_body ss sh (q + length (loaded_words ss (term_of cl.head))) cl.body (put_pair code (clause_record k + 1) l (next_for sh cl.head k)) l
