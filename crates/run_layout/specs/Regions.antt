-- The tables of a run: how many words each record has, how many records there are, and where each region begins. A region begins where the one
-- before it ends.
use Rattle.std.specs.Prelude.{ℕ, ◌+◌, ◌-◌, ◌*◌, ◌/◌}
use Rattle.syntax.specs.Limits.{brackets, literals, clauses, most_facts, longest_path}
use Rattle.syntax.specs.Words.{first_name, node_words, goal_words, program_words, program_clauses}

-- ---- copies

-- The goal is copy 0; a call at the longest path makes no further one.
abbrev pub copies : ℕ
copies = longest_path + 1

-- the cells of a copy: one for each number that a variable can have
abbrev pub copy_cells : ℕ
copy_cells = first_name

-- ---- loaded nodes

-- the words of a loaded node without its arguments
abbrev pub loaded_node : ℕ
loaded_node = 2

-- the most nodes of a program and a goal, and the words they take
abbrev pub most_nodes : ℕ
most_nodes = (program_words + goal_words) / node_words + 1

abbrev pub nodes_words : ℕ
nodes_words = most_nodes * loaded_node

-- A place in the nodes or in the code is below this, so that a cell's word can hold a node's together with a copy.
abbrev pub places : ℕ
places = 131072

-- ---- code: a record for the goal and each clause, and then the records of each with the body's end, one body behind the other

abbrev pub clause_size : ℕ
clause_size = 4

abbrev pub literal_size : ℕ
literal_size = 4

-- the kind of a body's end; a plain literal's own kinds are those of `syntax`
abbrev pub body_end_kind : ℕ
body_end_kind = 4

-- the kinds of a bracket's records: where its sides part, and where a side ends
abbrev pub split_kind : ℕ
split_kind = 5

abbrev pub jump_kind : ℕ
jump_kind = 6

-- The most records of a body before its end. A bracket has three of its own, and each side has a literal: with three more they are at most four for each
-- literal.
abbrev pub most_items : ℕ
most_items = 4 * literals - 3

abbrev pub bodies : ℕ
bodies = (program_clauses + 1) * clause_size

-- the goal's body comes first, with room for the longest; behind it begin those of the clauses
abbrev pub clause_bodies : ℕ
clause_bodies = bodies + (most_items + 1) * literal_size

-- Room for the goal and a sheet's clauses with bodies as long as can be, and for the ends of facts, whose bodies are empty.
abbrev pub code_words : ℕ
code_words = bodies + ((clauses + 1) * (most_items + 1) + most_facts) * literal_size

-- the record of a clause, by its number; the goal's is that of number 0
abbrev pub clause_record : ℕ → ℕ
clause_record k = k * clause_size

-- the record of a number in the body that begins at a place
abbrev pub literal_from : ℕ → ℕ → ℕ
literal_from start i = start + i * literal_size

-- the record behind another
abbrev pub next_literal : ℕ → ℕ
next_literal l = l + literal_size

-- ---- state: cells, trail, frames, alternatives

abbrev pub cells : ℕ
cells = copies * copy_cells

-- the trail has room for every cell
abbrev pub trail : ℕ
trail = cells

-- the words of cells and trail, which the scratch words begin with too
abbrev pub store_words : ℕ
store_words = trail + cells

abbrev pub frames : ℕ
frames = store_words

abbrev pub frame_size : ℕ
frame_size = 4

-- the frame of a copy
abbrev pub frame_of : ℕ → ℕ
frame_of k = frames + k * frame_size

abbrev pub alternatives : ℕ
alternatives = frames + copies * frame_size

abbrev pub alternative_size : ℕ
alternative_size = 6

-- the alternative of a number, the lowest of the pile being 0
abbrev pub alternative_of : ℕ → ℕ
alternative_of j = alternatives + j * alternative_size

-- The most alternatives: a copy adds at most its body's literals to those that can wait (`Low` of the crate machine).
abbrev pub most_alternatives : ℕ
most_alternatives = literals * copies

abbrev pub state_words : ℕ
state_words = alternatives + most_alternatives * alternative_size

-- ---- scratch: marks and cells entered as cells and trail, pending cells, the work stack, short cuts, the memo

-- The cells that were bound with no search, where their bindings may close a cycle.
abbrev pub pending : ℕ
pending = store_words

abbrev pub stack : ℕ
stack = pending + cells

-- a side of a pair, and a pair
abbrev pub side_size : ℕ
side_size = 3

abbrev pub pair_size : ℕ
pair_size = 2 * side_size

-- the pair of a number, the lowest of the stack being 0
abbrev pub pair_of : ℕ → ℕ
pair_of k = stack + k * pair_size

-- A pair of large terms with a name each is opened on a stack lower than this. Any other is opened by way of a bound cell.
abbrev pub big_pairs : ℕ
big_pairs = 1024

abbrev pub pairs : ℕ
pairs = 2 * cells + big_pairs

-- Short cuts through chains of variables, room for one from each cell, and how many there are. Their slots are the higher halves of the memo's.
abbrev pub cut_list : ℕ
cut_list = stack + pairs * pair_size

abbrev pub cut_count : ℕ
cut_count = cells

abbrev pub cut_of : ℕ → ℕ
cut_of j = cut_list + j

abbrev pub cuts_word : ℕ
cuts_word = cut_list + cut_count

-- The memo: the number of classes and the number of rows, slots, the nodes of the rows, classes, weights, rows.
abbrev pub memo : ℕ
memo = cuts_word + 1

-- where the number of rows stands
abbrev pub rows_word : ℕ
rows_word = memo + 1

abbrev pub slots : ℕ
slots = rows_word + 1

abbrev pub slot_count : ℕ
slot_count = 16384

abbrev pub keys : ℕ
keys = slots + slot_count

abbrev pub key_count : ℕ
key_count = 4096

abbrev pub classes : ℕ
classes = keys + key_count

abbrev pub class_size : ℕ
class_size = 2

abbrev pub class_count : ℕ
class_count = cells + copies

abbrev pub memo_class : ℕ → ℕ
memo_class i = classes + i * class_size

-- While a search for a cycle goes on, the words of the classes are those of its path: an open cell, and the place reached in its term.
abbrev pub path_size : ℕ
path_size = class_size

abbrev pub path_of : ℕ → ℕ
path_of j = classes + j * path_size

abbrev pub weights : ℕ
weights = classes + class_count * class_size

abbrev pub heights : ℕ
heights = pairs + 1

abbrev pub rows : ℕ
rows = weights + heights

-- a row has a half word for each copy
abbrev pub row_words : ℕ
row_words = copies / 2

abbrev pub memo_row : ℕ → ℕ
memo_row k = rows + k * row_words

-- the numbers that half a word can hold
abbrev pub half_word : ℕ
half_word = 65536

-- ---- answers

-- the brackets that a value can have open at once: those of every bound term and of the goal's, one inside the other
abbrev pub deepest : ℕ
deepest = (cells + 1) * brackets

-- the words for one open bracket of a value that is spelt
abbrev pub open_size : ℕ
open_size = 2

-- ---- how many scratch words a run has

-- A sheet that is not long, and a text. With both less scratch is cleared.
abbrev pub short_sheet : ℕ
short_sheet = 2048

abbrev pub short_text : ℕ
short_text = 131072

abbrev pub narrow_rows : ℕ
narrow_rows = 208

abbrev pub narrow_words : ℕ
narrow_words = rows + narrow_rows * row_words

abbrev pub wide_rows : ℕ
wide_rows = 3072

-- Under any sheet. That is room behind the pending cells for the brackets of any answer.
abbrev pub wide_words : ℕ
wide_words = rows + wide_rows * row_words
