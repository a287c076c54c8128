-- How what was read stands in a table of 32-bit words.
use Rattle.std.specs.Prelude.{ℕ, suc, ◌+◌, ◌-◌, ◌*◌, ◌/◌, ◌%◌, List, [], ◌∷◌, ◌++◌, length}
use Rattle.syntax.specs.Limits.{sheet_bytes, goal_bytes, lengths, declarations, clauses, most_facts}
use Rattle.syntax.specs.Terms.{Term, Terms, variable, compound, nil, cons, Atom, term_of, arity, Literal, Body, call, equation, truth, falsity, either}
use Rattle.syntax.specs.Terms.{done, also, Mark, input, output, free, Declaration, Clause}

-- A node's first word is a variable's number, below this, or a name's, from this on.
abbrev pub first_name : ℕ
first_name = 64

-- A name's first word: its number of arguments and its length.
abbrev pub functor : ℕ → ℕ → ℕ
functor arguments len = first_name + arguments * lengths + len

abbrev pub functor_arity : ℕ → ℕ
functor_arity w = (w - first_name) / lengths

abbrev pub functor_length : ℕ → ℕ
functor_length w = (w - first_name) % lengths

-- the words of a node without its arguments
abbrev pub node_words : ℕ
node_words = 3

-- A node: what it is, how many words it and its arguments take, and the byte where its token stands; its arguments follow.
unfoldable mutual
  pub term_words : Term → List ℕ
  term_words (variable n b) = n ∷ node_words ∷ b ∷ []
  term_words (compound b name ts) = functor (arity ts) (length name) ∷ (node_words + length (terms_words ts)) ∷ b ∷ terms_words ts

  pub terms_words : Terms → List ℕ
  terms_words nil = []
  terms_words (cons t ts) = term_words t ++ terms_words ts

abbrev pub atom_words : Atom → List ℕ
atom_words a = term_words (term_of a)

-- the kinds of literal
abbrev pub truth_kind : ℕ
truth_kind = 0

abbrev pub falsity_kind : ℕ
falsity_kind = 1

abbrev pub call_kind : ℕ
call_kind = 2

abbrev pub equation_kind : ℕ
equation_kind = 3

-- and of the words of a bracket: before its left side, before its right side, behind it
abbrev pub left_kind : ℕ
left_kind = 4

abbrev pub right_kind : ℕ
right_kind = 5

abbrev pub behind_kind : ℕ
behind_kind = 6

-- a kind is packed below this
abbrev pub item_kinds : ℕ
item_kinds = 8

-- The word before a side: its kind, and the number of items of the side.
abbrev pub marker : ℕ → ℕ → ℕ
marker kind items = kind + item_kinds * items

-- The kind of an item, by its first word, and the number of items of the side behind a word before one.
abbrev pub item_kind : ℕ → ℕ
item_kind w = w % item_kinds

abbrev pub side_items : ℕ → ℕ
side_items w = w / item_kinds

-- How many items stand in a table for a literal: one, but for a bracket one for each of its three words and those of its sides.
unfoldable mutual
  pub literal_length : Literal → ℕ
  literal_length (call a) = 1
  literal_length (equation t u) = 1
  literal_length truth = 1
  literal_length falsity = 1
  literal_length (either y z) = 3 + (body_length y + body_length z)

  pub body_length : Body → ℕ
  body_length done = 0
  body_length (also l b) = literal_length l + body_length b

-- A literal: its kind, and then its terms; a bracket: a word, the left side, a word, the right side, a word.
unfoldable mutual
  pub literal_words : Literal → List ℕ
  literal_words truth = truth_kind ∷ []
  literal_words falsity = falsity_kind ∷ []
  literal_words (call a) = call_kind ∷ atom_words a
  literal_words (equation t u) = equation_kind ∷ (term_words t ++ term_words u)
  literal_words (either y z) =
      (marker left_kind (body_length y) ∷ body_words y) ++ ((marker right_kind (body_length z) ∷ body_words z) ++ (behind_kind ∷ []))

  pub body_words : Body → List ℕ
  body_words done = []
  body_words (also l b) = literal_words l ++ body_words b

-- one side of a bracket, with the word before it
abbrev pub side_words : ℕ → Body → List ℕ
side_words kind b = marker kind (body_length b) ∷ body_words b

abbrev pub side_length : Body → ℕ
side_length b = suc (body_length b)

-- the words of a clause before its head
abbrev pub clause_start : ℕ
clause_start = 3

-- A clause: how many words it takes, its number of variables, its number of items, the head, the items.
unfoldable pub clause_words : Clause → List ℕ
clause_words c =
    (clause_start + length (atom_words c.head ++ body_words c.body)) ∷ c.variables ∷ body_length c.body ∷ (atom_words c.head ++ body_words c.body)

unfoldable pub clauses_words : List Clause → List ℕ
clauses_words [] = []
clauses_words (c ∷ cs) = clause_words c ++ clauses_words cs

-- The marks in one number, the first lowest: 1 for +, 2 for -, 3 for *. Each has room for so many numbers:
abbrev pub mark_numbers : ℕ
mark_numbers = 4

abbrev pub mark_number : Mark → ℕ
mark_number input = 1
mark_number output = 2
mark_number free = 3

-- a mark's number before those of others
abbrev pub with_mark : ℕ → ℕ → ℕ
with_mark m others = m + mark_numbers * others

unfoldable pub marks_number : List Mark → ℕ
marks_number [] = 0
marks_number (m ∷ ms) = with_mark (mark_number m) (marks_number ms)

abbrev pub first_mark : ℕ → ℕ
first_mark w = w % mark_numbers

abbrev pub other_marks : ℕ → ℕ
other_marks w = w / mark_numbers

-- the words of a declaration
abbrev pub declaration_size : ℕ
declaration_size = 4

-- A declaration: byte and length of its name, number of marks, the marks.
unfoldable pub declaration_words : Declaration → List ℕ
declaration_words d = d.at ∷ length d.name ∷ length d.marks ∷ marks_number d.marks ∷ []

unfoldable pub declarations_words : List Declaration → List ℕ
declarations_words [] = []
declarations_words (d ∷ ds) = declaration_words d ++ declarations_words ds

-- ---- the tables

-- What is read takes at most a node's words for each byte and a few more; the last words, one for each variable, are those of Spans. Four for each
-- byte are room enough for both.
abbrev pub sheet_words : ℕ
sheet_words = 4 * (sheet_bytes + 1)

abbrev pub goal_words : ℕ
goal_words = 4 * (goal_bytes + 1)

abbrev pub declared_words : ℕ
declared_words = declarations * declaration_size

-- ---- a program: a sheet and the facts of a trace (REQUESTS (ix)), which are written behind it

-- the most bytes of a fact as it is written: its predicate and a bracket, two numbers of at most 20 digits each with a comma, a band, and an end
abbrev pub fact_bytes : ℕ
fact_bytes = 5 + (20 + 1) + (20 + 1) + 6 + 3

-- the words of its clause: a node for the head and for each of three arguments
abbrev pub fact_words : ℕ
fact_words = clause_start + 4 * node_words

abbrev pub program_bytes : ℕ
program_bytes = sheet_bytes + most_facts * fact_bytes

abbrev pub program_words : ℕ
program_words = sheet_words + most_facts * fact_words

abbrev pub program_clauses : ℕ
program_clauses = clauses + most_facts
