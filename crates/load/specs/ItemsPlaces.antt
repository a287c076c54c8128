-- What stands where when an item's record is written.
use Rattle.std.specs.Prelude.{ℕ, ◌≤◌, List, T, length}
use Rattle.syntax.specs.Terms.{term_of}
use Rattle.words.specs.Tables.{WordsAt}
use Rattle.words.specs.Items.{Item, plain_call, plain_equation, plain_truth, plain_falsity, before_left, before_right, behind, item_words}
use Rattle.run_layout.specs.Regions.{bodies, places, next_literal}
use Rattle.run_layout.specs.Nodes.{Symbol, is_loadable}
use Rattle.load.specs.declared.records.Places.{Places}
use Rattle.load.specs.ItemsRecords.{item_nodes}
use Rattle.load.specs.declared.next_clauses.Heads.{Heads}
use Rattle.load.specs.Search.{Meant, Headed}

-- the terms of an item can stand in the table
abbrev pub ItemLoadable : List Symbol → Item → Type 0
ItemLoadable ss (plain_call a) = T (is_loadable ss (term_of a))
ItemLoadable ss (plain_equation t u) = T (is_loadable ss t) × T (is_loadable ss u)
ItemLoadable ss plain_truth = Unit {0}
ItemLoadable ss plain_falsity = Unit {0}
ItemLoadable ss (before_left n) = Unit {0}
ItemLoadable ss (before_right n) = Unit {0}
ItemLoadable ss behind = Unit {0}

-- a side has no more items than a body can have
abbrev pub SideSmall : Item → Type 0
SideSmall (plain_call a) = Unit {0}
SideSmall (plain_equation t u) = Unit {0}
SideSmall plain_truth = Unit {0}
SideSmall plain_falsity = Unit {0}
SideSmall (before_left n) = n ≤ places
SideSmall (before_right n) = n ≤ places
SideSmall behind = Unit {0}

-- an item whose words and nodes stand at its places, with room for its record
pub record ItemTo (m : Meant) (x : Item) (table : List ℕ) (heads : Heads) (code : List ℕ) (at : Places) : Type 0 where
  pub headed : Headed m heads code
  pub has : WordsAt table at.read (item_words x)
  pub stand : WordsAt heads.nodes.now at.node (item_nodes m.ss x)
  pub loadable : ItemLoadable m.ss x
  pub small : SideSmall x
  pub node : at.node ≤ length heads.nodes.now
  pub low : bodies ≤ at.literal
  pub high : next_literal at.literal ≤ length code
