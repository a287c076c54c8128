-- The memo of terms that are equal already: what its words mean, and what its functions promise.
use Rattle.std.specs.Prelude.{ℕ, ◌+◌, ◌-◌, ◌/◌, ◌%◌, ◌≤◌, ◌<◌, ◌≡◌, ◌^◌, Option, IfSome, List, ◌⊎◌, length, get_or}
use Rattle.syntax.specs.Limits.{longest_path}
use Rattle.machine.specs.Substitution.{RTerm, Binding, resolve}
use Rattle.run_layout.specs.Regions.{copies, memo, rows_word, keys, key_count, classes, class_count, memo_class, weights, rows, row_words, memo_row}
use Rattle.run_layout.specs.Halves.{half}
use Rattle.run_layout.specs.Nodes.{Symbol}
use Rattle.run_layout.specs.State.{value_of}
use Rattle.bindings.specs.Cuts.{Cuts}

-- So many pairs are only counted, not remembered: most unifications are done before. The numbers of classes begin here.
abbrev pub first_class : ℕ
first_class = 32

-- the most that a weight counts
abbrev pub heaviest : ℕ
heaviest = 1048576

-- A term's word and this, divided by the number of copies, is the same for every copy of the node; the rest tells the copy.
abbrev pub shift : ℕ
shift = longest_path

-- how many classes there are, and how many rows
abbrev pub classes_made : List ℕ → ℕ
classes_made scratch = get_or scratch memo 0

abbrev pub rows_made : List ℕ → ℕ
rows_made scratch = get_or scratch rows_word 0

-- Pairs are remembered, and there is a number left for a class.
abbrev pub Numbering : List ℕ → Type 0
Numbering scratch = (first_class ≤ classes_made scratch) × (classes_made scratch < class_count)

-- two terms' words
abbrev pub TermWords : ℕ → ℕ → Type 0
TermWords left right = (left < 2 ^ 32) × (right < 2 ^ 32)

-- row k is inside
abbrev pub RowInside : List ℕ → ℕ → Type 0
RowInside scratch k = (k < key_count) × (memo_row k + row_words ≤ length scratch)

-- the node whose row is that of number k
abbrev pub key_of : List ℕ → ℕ → ℕ
key_of scratch k = get_or scratch (keys + k) 0

-- the first term and the link of the class of number i
abbrev pub class_term : List ℕ → ℕ → ℕ
class_term scratch i = get_or scratch (memo_class i) 0

abbrev pub link_of : List ℕ → ℕ → ℕ
link_of scratch i = get_or scratch (memo_class i + 1) 0

-- the number in row k of the term whose word is v less the shift
abbrev pub class_in : List ℕ → ℕ → ℕ → ℕ
class_in scratch k v = half (v / row_words % 2) (get_or scratch (memo_row k + v % row_words) 0)

-- i is the number of a class.
pub record ClassNumber (scratch : List ℕ) (i : ℕ) : Type 0 where
  pub low : first_class ≤ i
  pub below : i < classes_made scratch
  pub small : i < class_count

-- Row k is that of a node.
pub record Rowed (scratch : List ℕ) (key k : ℕ) : Type 0 where
  pub below : k < rows_made scratch
  pub small : k < key_count
  pub fits : memo_row k + row_words ≤ length scratch
  pub names : key_of scratch k ≡ key

-- the number of a term
pub record Entered (scratch : List ℕ) (term i : ℕ) : Type 0 where
  pub row : ℕ
  pub rowed : Rowed scratch ((term + shift) / copies) row
  pub is : class_in scratch row (term + shift) ≡ i
  pub some : i ≡ 0 → ⊥
  pub small : i < class_count

-- The classes of two numbers have one meaning.
pub record SameClass (meaning : ℕ → RTerm) (scratch : List ℕ) (i j : ℕ) : Type 0 where
  pub numbered : ClassNumber scratch j
  pub same : meaning (class_term scratch i) ≡ meaning (class_term scratch j)

-- A term has the meaning of the class of number i.
pub record Belongs (meaning : ℕ → RTerm) (scratch : List ℕ) (term i : ℕ) : Type 0 where
  pub numbered : ClassNumber scratch i
  pub same : meaning term ≡ meaning (class_term scratch i)

-- Row k has no number for the term whose word is v less the shift, or that of its class.
abbrev pub Shows : (ℕ → RTerm) → List ℕ → ℕ → ℕ → Type 0
Shows meaning scratch k v = (class_in scratch k v ≡ 0) ⊎ Belongs meaning scratch (v - shift) (class_in scratch k v)

-- A link is 0, a number and 1, or, from there on, a rank. Each that is a number and 1 leads to a class of the same meaning; each number in a row is
-- that of its term's class.
pub record Links (meaning : ℕ → RTerm) (scratch : List ℕ) : Type 0 where
  pub links : (i j : ℕ) → ClassNumber scratch i → link_of scratch i ≡ j + 1 → j < class_count → SameClass meaning scratch i j
  pub entries : (k v : ℕ) → k < rows_made scratch → k < key_count → first_class ≤ classes_made scratch → v / copies ≡ key_of scratch k
      → Shows meaning scratch k v

-- Terms of one class are equal with the bindings put in, and each short cut leads to a cell that means the same.
pub record Memo (ss : List Symbol) (nodes : List ℕ) (b : List Binding) (scratch : List ℕ) : Type 0 where
  pub links : Links (λ w. resolve b (value_of ss nodes w)) scratch
  pub cuts : Cuts b scratch

-- Two words have one meaning, if what is in one class has.
pub record KnownEqual (scratch : List ℕ) (left right : ℕ) : Type 0 where
  pub is : (meaning : ℕ → RTerm) → Links meaning scratch → meaning left ≡ meaning right

-- Links lead from one number to another.
pub record Reaches (scratch : List ℕ) (i r : ℕ) : Type 0 where
  pub is : (meaning : ℕ → RTerm) → Links meaning scratch → ClassNumber scratch i → SameClass meaning scratch i r

-- The k words from base on are 0, and the others as they were.
pub record Cleared (before after : List ℕ) (base k : ℕ) : Type 0 where
  pub long : length after ≡ length before
  pub zero_words : (j : ℕ) → base ≤ j → j < base + k → get_or after j 0 ≡ 0
  pub low : (j : ℕ) → j < base → get_or after j 0 ≡ get_or before j 0
  pub high : (j : ℕ) → base + k ≤ j → get_or after j 0 ≡ get_or before j 0

-- The classes, their number and the words before them are as they were.
pub record Kept (before after : List ℕ) : Type 0 where
  pub long : length after ≡ length before
  pub words : (j : ℕ) → j < rows_word → get_or after j 0 ≡ get_or before j 0
  pub same_classes : (j : ℕ) → classes ≤ j → j < weights → get_or after j 0 ≡ get_or before j 0

-- There is a row for the node, or no room for it.
pub record Opens (before after : List ℕ) (key : ℕ) (r : Option ℕ) : Type 0 where
  pub kept : Kept before after
  pub row : IfSome r (Rowed after key)
  pub links : (meaning : ℕ → RTerm) → Links meaning before → Links meaning after

-- A term came into a class, where there was room.
pub record Assigns (before after : List ℕ) (term i : ℕ) : Type 0 where
  pub kept : Kept before after
  pub links : (meaning : ℕ → RTerm) → Links meaning before → Belongs meaning before term i → Links meaning after

-- A class more, that of a term.
pub record Fresh (before after : List ℕ) (term r : ℕ) : Type 0 where
  pub long : length after ≡ length before
  pub words : (j : ℕ) → j < memo → get_or after j 0 ≡ get_or before j 0
  pub numbered : ClassNumber after r
  pub is : class_term after r ≡ term
  pub links : (meaning : ℕ → RTerm) → Links meaning before → Links meaning after

-- Two numbers of one meaning are linked.
pub record ClassesLinked (before after : List ℕ) (a b : ℕ) : Type 0 where
  pub long : length after ≡ length before
  pub words : (j : ℕ) → j < memo → get_or after j 0 ≡ get_or before j 0
  pub links : (meaning : ℕ → RTerm) → Links meaning before → ClassNumber before a → SameClass meaning before a b → Links meaning after

-- No number is left.
pub record MemoEmptied (before after : List ℕ) : Type 0 where
  pub long : length after ≡ length before
  pub words : (j : ℕ) → j < memo → get_or after j 0 ≡ get_or before j 0
  pub links : (meaning : ℕ → RTerm) → Links meaning after

-- Two words of one meaning are remembered.
pub record Remembers (before after : List ℕ) (left right : ℕ) : Type 0 where
  pub long : length after ≡ length before
  pub words : (j : ℕ) → j < memo → get_or after j 0 ≡ get_or before j 0
  pub links : (meaning : ℕ → RTerm) → meaning left ≡ meaning right → Links meaning before → Links meaning after

-- The words before the weights and behind them are as they were.
pub record Weighed (before after : List ℕ) : Type 0 where
  pub long : length after ≡ length before
  pub low : (j : ℕ) → j < weights → get_or after j 0 ≡ get_or before j 0
  pub high : (j : ℕ) → rows ≤ j → get_or after j 0 ≡ get_or before j 0
