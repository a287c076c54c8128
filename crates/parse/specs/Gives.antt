-- What the functions of this crate promise: the answer is the definition's, and a lent table holds the words of what was read.
use Rattle.std.specs.Prelude.{ℕ, ◌+◌, ◌-◌, ◌*◌, ◌≤◌, ◌<◌, ◌^◌, ◌≡◌, Bool, true, false, cond, List, ◌++◌, length, take, Result, Ok, Err, Some, None}
use Rattle.std.specs.Prelude.{Option as OptionOf}
use Rattle.std.proofs.Math.Option.{Option, none, some}
use Rattle.syntax.specs.Limits.{sheet_bytes, word_bytes, variables}
use Rattle.syntax.specs.Tokens.{token_at, spelling, variable_kind, end_kind}
use Rattle.syntax.specs.Reading.{Cursor, Read, fault, ok, wrong_number, variable_number}
use Rattle.syntax.specs.Spans.{names_from, met, SpansInside}
use Rattle.syntax.specs.Terms.{Term, Terms, arity, Atom, Literal, Body, Clause}
use Rattle.syntax.specs.Words.{node_words, term_words, terms_words, atom_words, literal_words, literal_length}
use Rattle.syntax.specs.Words.{side_words, side_length, body_words, body_length, clause_words}
use Rattle.syntax.specs.Verdicts.{fault_of}
use Rattle.syntax.specs.declared.Refusal.{Refusal}
use Rattle.syntax.specs.declared.ParserState.{ParserState}
use Rattle.syntax.specs.declared.TokenKind.{TokenKind}
use Rattle.parse.specs.declared.Parsed.{Parsed}

-- The reader that a state and a node table stand for.
abbrev pub cursor_of : List ℕ → List ℕ → ParserState → Cursor
cursor_of s table st = record { token = st.token; names = names_from s (met table) 0 st.count; literals = st.literals }

-- The state past the token at hand.
abbrev pub state_onward : List ℕ → ParserState → ParserState
state_onward s st = record { token = token_at s (st.token.at + st.token.len); count = st.count; literals = st.literals }

-- The state with no variable and no literal met.
abbrev pub fresh : ParserState → ParserState
fresh st = record { token = st.token; count = 0; literals = 0 }

-- A reader stands within its text: the token at hand is inside, has a byte unless it is the end, and is short if it is a variable.
pub record CursorInside (s : List ℕ) (st : ParserState) : Type 0 where
  pub inside : st.token.at + st.token.len ≤ length s
  pub some : (st.token.kind ≡ end_kind → ⊥) → 0 < st.token.len
  pub brief : st.token.kind ≡ variable_kind → st.token.len ≤ word_bytes
  pub few : st.count ≤ variables
  pub short : length s ≤ sheet_bytes

-- The reader past the token at hand stands within the text too, further on.
pub record PastToken (s : List ℕ) (st r : ParserState) : Type 0 where
  pub is : r ≡ state_onward s st
  pub standing : CursorInside s r
  pub forward : st.token.at + st.token.len ≤ r.token.at

-- The bytes from the token at hand on.
abbrev pub bytes_left : List ℕ → ParserState → ℕ
bytes_left s st = length s - st.token.at

-- The words of the variables met lie within the text. From n on the table has a node's words for each byte that is left, some to spare and those of the
-- variables, and its places fit a word.
pub record RoomToRead (s : List ℕ) (st : ParserState) (table : List ℕ) (n spare : ℕ) : Type 0 where
  pub standing : CursorInside s st
  pub held : SpansInside s (met table) st.count
  pub room : n + node_words * bytes_left s st + spare + variables ≤ length table
  pub small : length table < 2 ^ 31

-- On a fault: the refusal of its number and byte, and the words before n are as they were.
pub record Faulted (entry exit : List ℕ) (n : ℕ) (q : Refusal) (k b : ℕ) : Type 0 where
  pub is : q ≡ fault_of k b
  pub kept : take n exit ≡ take n entry

-- Otherwise: the reader after what was read, how many things those are, and the words before n followed by the words of what was read. Of a
-- node's words for each byte that was read, and one more, at least `spare` are left over.
pub record GivenWith (spare : ℕ) (s : List ℕ) (from : ParserState) (entry exit : List ℕ) (n : ℕ) (r : Parsed) (words : List ℕ) (items : ℕ)
    (after : Cursor) : Type 0
  where
    pub state_is : cursor_of s exit r.state ≡ after
    pub items_is : r.items ≡ items
    pub used_is : r.used ≡ n + length words
    pub table_is : take (n + length words) exit ≡ take n entry ++ words
    pub standing : CursorInside s r.state
    pub held : SpansInside s (met exit) r.state.count
    pub room : length words + node_words * bytes_left s r.state + spare ≤ node_words * bytes_left s from + 1

-- the variable at hand among those met
abbrev pub found : List ℕ → List ℕ → ParserState → Option ℕ
found s table st = variable_number (spelling s st.token.at st.token.len) 0 (names_from s (met table) 0 st.count)

-- What a search for a variable answers: the number of the one found, if there is one.
abbrev pub FoundAs : Option ℕ → ℕ → OptionOf ℕ → Type 0
FoundAs none count r = r ≡ None
FoundAs (some i) count r = (r ≡ Some i) × (i < count)

-- The same for the variable at hand, of which is known whether it is `_` alone: that one was never met.
abbrev pub MetAs : Bool → Option ℕ → ℕ → OptionOf ℕ → Type 0
MetAs true found count r = r ≡ None
MetAs false found count r = FoundAs found count r

-- How the things of a kind stand in a table: their words, for how many items each counts, and how many words are to be left over.
pub record Form (A : Type 0) : Type 0 where
  pub words : A → List ℕ
  pub items : A → ℕ
  pub spare : ℕ

-- with one word left over
abbrev pub form : {A : Type 0} → (A → List ℕ) → (A → ℕ) → Form A
form words items = record { words = words; items = items; spare = 1 }

-- one thing was read
abbrev pub one : {A : Type 0} → A → ℕ
one a = 1

abbrev pub term_form : Form Term
term_form = form term_words one

abbrev pub terms_form : Form Terms
terms_form = form terms_words arity

abbrev pub atom_form : Form Atom
atom_form = form atom_words one

-- Of a literal's words none is left over.
abbrev pub literal_form : Form Literal
literal_form = record { words = literal_words; items = literal_length; spare = 0 }

-- nor of a side's
abbrev pub side_form : ℕ → Form Body
side_form kind = record { words = side_words kind; items = side_length; spare = 0 }

abbrev pub body_form : Form Body
body_form = form body_words body_length

abbrev pub clause_form : Form Clause
clause_form = form clause_words one

-- what a function gives, by what the definition gives: both are a fault, or both what was read
abbrev pub Gives : {A : Type 0} → Form A → List ℕ → ParserState → List ℕ → List ℕ → ℕ → Result Parsed Refusal → Read A → Type 0
Gives f s from entry exit n (Err q) (fault k b) = Faulted entry exit n q k b
Gives f s from entry exit n (Err q) (ok a after) = ⊥
Gives f s from entry exit n (Ok r) (fault k b) = ⊥
Gives f s from entry exit n (Ok r) (ok a after) = GivenWith f.spare s from entry exit n r (f.words a) (f.items a) after

-- with one word left over
abbrev pub Given : List ℕ → ParserState → List ℕ → List ℕ → ℕ → Parsed → List ℕ → ℕ → Cursor → Type 0
Given s from entry exit n r words items after = GivenWith 1 s from entry exit n r words items after

-- the fault at the token at hand
abbrev pub Refused : ParserState → ℕ → Refusal → Type 0
Refused st number q = q ≡ fault_of number st.token.at

-- 6 for a token that could begin one more of a list that is full, else the number of a token that cannot stand here
abbrev pub full_number : Bool → TokenKind → ℕ
full_number more k = cond more 6 (wrong_number k)

-- what was read, counted with so many things more
pub record ItemCount (q : Parsed) (by : ℕ) (p : Parsed) : Type 0 where
  pub used_is : p.used ≡ q.used
  pub state_is : p.state ≡ q.state
  pub items_is : p.items ≡ q.items + by
