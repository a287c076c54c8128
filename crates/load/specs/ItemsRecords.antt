-- The record of an item of a body: its kind and its two words.
use Rattle.std.specs.Prelude.{ℕ, ◌+◌, List, [], ◌++◌, length}
use Rattle.syntax.specs.Terms.{term_of, Sheet}
use Rattle.machine.specs.Machine.{next_for}
use Rattle.syntax.specs.Words.{truth_kind, falsity_kind, call_kind, equation_kind}
use Rattle.words.specs.Items.{Item, plain_call, plain_equation, plain_truth, plain_falsity, before_left, before_right, behind}
use Rattle.run_layout.specs.Regions.{split_kind, jump_kind, next_literal, literal_from}
use Rattle.run_layout.specs.Nodes.{Symbol, loaded_words}
use Rattle.load.specs.Records.{side_ends}

-- the kind of an item's record
abbrev pub kind_of : Item → ℕ
kind_of plain_truth = truth_kind
kind_of plain_falsity = falsity_kind
kind_of (plain_call a) = call_kind
kind_of (plain_equation t u) = equation_kind
kind_of (before_left n) = split_kind
kind_of (before_right n) = jump_kind
kind_of behind = jump_kind

-- the loaded nodes of an item: the words of a bracket have none
unfoldable pub item_nodes : List Symbol → Item → List ℕ
item_nodes ss (plain_call a) = loaded_words ss (term_of a)
item_nodes ss (plain_equation t u) = loaded_words ss t ++ loaded_words ss u
item_nodes ss plain_truth = []
item_nodes ss plain_falsity = []
item_nodes ss (before_left n) = []
item_nodes ss (before_right n) = []
item_nodes ss behind = []

-- The third word of its record, which is at l, where its nodes stand at q: the topmost clause for a call, the place of the right term of an equation.
-- Before a side it is the record behind the word that ends the side: of the left side, the right one's first; of the right side, the one behind the
-- bracket, and so is the record that ends the right side.
unfoldable pub other_of : List Symbol → Sheet → ℕ → ℕ → Item → ℕ
other_of ss sh q l plain_truth = 0
other_of ss sh q l plain_falsity = 0
other_of ss sh q l (plain_call a) = next_for sh a 0
other_of ss sh q l (plain_equation t u) = q + length (loaded_words ss t)
other_of ss sh q l (before_left n) = literal_from l (n + side_ends)
other_of ss sh q l (before_right n) = literal_from l (n + side_ends)
other_of ss sh q l behind = next_literal l
