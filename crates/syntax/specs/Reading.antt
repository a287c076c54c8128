-- Reading a sheet or a goal from left to right, to its first fault (RULES, "How a sheet is spelt", its table, and "The ten numbers", 2 to 7).
-- The limits of the table are what the recursion counts down.
use Rattle.std.specs.Prelude.{ℕ, zero, suc, ◌+◌, ◌-◌, Bool, true, false, cond, ◌&&◌, ◌||◌, List, [], ◌∷◌, ◌++◌, ltb, eqb, length, get_or}
use Rattle.std.proofs.Math.Option.{Option, none, some}
use Rattle.syntax.specs.Limits.{brackets, arguments, variables, literals, declarations, clauses}
use Rattle.syntax.specs.Tokens.{token_at, spelling, same_kind}
use Rattle.syntax.specs.Tokens.{no_token, name_kind, variable_kind, numeral_kind, neck_kind, open_kind, close_kind, comma_kind, stop_kind}
use Rattle.syntax.specs.Tokens.{equals_kind, plus_kind, minus_kind, star_kind, overlong_kind, end_kind, semicolon_kind}
use Rattle.syntax.specs.Numerals.{trimmed, dropped}
use Rattle.syntax.specs.Terms.{Term, Terms, variable, nil, cons, Atom, term_of, Literal, Body, equation, either, done, also, literal_of, Mark}
use Rattle.syntax.specs.Terms.{input, output, free, Declaration, Clause, Sheet, Goal, same_name, same_predicate, true_name, fail_name, mode_name}
use Rattle.syntax.specs.declared.Token.{Token}
use Rattle.syntax.specs.declared.TokenKind.{TokenKind}

-- Where the reader stands: the token at hand, the spellings of the variables that the clause or goal has so far, the first one met first, and how many
-- literals it has so far.
pub record Cursor : Type 0 where
  pub token : Token
  pub names : List (List ℕ)
  pub literals : ℕ

-- at a token, with no variable and no literal met
abbrev pub begin : Token → Cursor
begin t = record { token = t; names = []; literals = 0 }

-- What reading gives: a fault, by number and byte, or what was read, and where the reader stands after it.
pub data Read (A : Type 0) : Type 0 where
  fault : ℕ → ℕ → Read A
  ok : A → Cursor → Read A

unfoldable pub and_then : {A B : Type 0} → Read A → (A → Cursor → Read B) → Read B
and_then (fault n b) k = fault n b
and_then (ok a st) k = k a st

abbrev pub token_kind : Cursor → TokenKind
token_kind st = st.token.kind

abbrev pub is : TokenKind → Cursor → Bool
is k st = same_kind (token_kind st) k

-- how the token at hand is spelt
abbrev pub spelt : List ℕ → Cursor → List ℕ
spelt s st = spelling s st.token.at st.token.len

-- the reader at the first token from a position on, with the variables met so far
unfoldable pub cursor_at : List ℕ → ℕ → Cursor → Cursor
cursor_at s from st = record { token = token_at s from; names = st.names; literals = st.literals }

-- the reader past the token at hand
unfoldable pub next : List ℕ → Cursor → Cursor
next s st = cursor_at s (st.token.at + st.token.len) st

-- 3 where the byte begins no token, 4 for one too long, 5 for one that cannot stand here
unfoldable pub wrong_number : TokenKind → ℕ
wrong_number k = cond (same_kind k no_token) 3 (cond (same_kind k overlong_kind) 4 5)

unfoldable pub wrong : {A : Type 0} → Cursor → Read A
wrong st = fault (wrong_number (token_kind st)) st.token.at

-- the token at hand goes past a limit
unfoldable pub beyond : {A : Type 0} → Cursor → Read A
beyond st = fault 6 st.token.at

-- a list or body that is full: 6 for a token that could begin one more, else as above
unfoldable pub full : {A : Type 0} → Bool → Cursor → Read A
full true st = beyond st
full false st = wrong st

-- ---- variables

-- the number of the first of the variables that is spelt so, counted from i
unfoldable pub variable_number : List ℕ → ℕ → List (List ℕ) → Option ℕ
variable_number name i [] = none
variable_number name i (m ∷ ms) = elim (same_name m name) [ true ↦ some i | false ↦ variable_number name (suc i) ms ]

-- the token at hand is `_` alone
unfoldable pub is_anonymous : List ℕ → Token → Bool
is_anonymous s t = eqb t.len 1 && eqb (get_or s t.at 0) 95

-- the reader with one variable more, first met here
unfoldable pub with_new : List ℕ → Cursor → Cursor
with_new s st = record { token = st.token; names = st.names ++ (spelt s st ∷ []); literals = st.literals }

unfoldable pub new_variable : List ℕ → Cursor → Read Term
new_variable s st =
    elim (ltb (length st.names) variables) [ true ↦ ok (variable (length st.names) st.token.at) (next s (with_new s st)) | false ↦ beyond st ]

unfoldable pub old_variable : List ℕ → Cursor → Option ℕ → Read Term
old_variable s st none = new_variable s st
old_variable s st (some i) = ok (variable i st.token.at) (next s st)

-- `_` alone is a new variable each time; any other is one throughout its clause
unfoldable pub read_variable : List ℕ → Cursor → Read Term
read_variable s st =
    elim (is_anonymous s st.token) [ true ↦ new_variable s st | false ↦ old_variable s st (variable_number (spelt s st) 0 st.names) ]

-- ---- terms

-- what the token at hand begins
pub data Start : Type 0 where
  a_variable a_numeral a_name nothing : Start

abbrev pub start_of : TokenKind → Start
start_of k = cond (same_kind k variable_kind) a_variable (cond (same_kind k numeral_kind) a_numeral (cond (same_kind k name_kind) a_name nothing))

abbrev pub begins : Start → Bool
begins a_variable = true
begins a_numeral = true
begins a_name = true
begins nothing = false

-- what stands after one of a list: a comma, the end of the list, or neither
pub data After : Type 0 where
  more last neither : After

abbrev pub after_of : TokenKind → TokenKind → After
after_of end k = cond (same_kind k comma_kind) more (cond (same_kind k end) last neither)

-- the name at hand, with some arguments
abbrev pub atom_at : List ℕ → Cursor → Terms → Atom
atom_at s st ts = record { at = st.token.at; name = spelt s st; args = ts }

-- the numeral at hand: its digits without leading zeros, at the byte of the first digit kept
abbrev pub numeral_at : List ℕ → Cursor → Atom
numeral_at s st = record { at = st.token.at + dropped (spelt s st); name = trimmed (spelt s st); args = nil }

-- An atom, the name at hand; `list` reads what an opening bracket leads to.
unfoldable pub atom_with : (Cursor → Read Terms) → List ℕ → Cursor → Bool → Read Atom
atom_with list s st true = and_then (list (next s st)) (λ ts after. ok (atom_at s st ts) after)
atom_with list s st false = ok (atom_at s st nil) (next s st)

unfoldable pub read_atom_with : (Cursor → Read Terms) → List ℕ → Cursor → Read Atom
read_atom_with list s st = atom_with list s st (is open_kind (next s st))

-- a term: a variable, a numeral, or a name with an optional bracketed list
unfoldable pub term_with : (Cursor → Read Terms) → List ℕ → Cursor → Start → Read Term
term_with list s st a_variable = read_variable s st
term_with list s st a_numeral = ok (term_of (numeral_at s st)) (next s st)
term_with list s st a_name = and_then (read_atom_with list s st) (λ a after. ok (term_of a) after)
term_with list s st nothing = wrong st

unfoldable pub read_term_with : (Cursor → Read Terms) → List ℕ → Cursor → Read Term
read_term_with list s st = term_with list s st (start_of (token_kind st))

-- what follows one term of a list; `rest` reads the terms behind a comma
unfoldable pub arguments_after : (Cursor → Read Terms) → List ℕ → Term → Cursor → After → Read Terms
arguments_after rest s t st more = and_then (rest (next s st)) (λ ts after. ok (cons t ts) after)
arguments_after rest s t st last = ok (cons t nil) (next s st)
arguments_after rest s t st neither = wrong st

-- a list of terms after its opening bracket, with so many arguments left; `term` reads one
unfoldable pub read_arguments : (Cursor → Read Term) → List ℕ → ℕ → Cursor → Read Terms
read_arguments term s zero st = full (begins (start_of (token_kind st))) st
read_arguments term s (suc k) st =
    and_then (term st) (λ t after. arguments_after (λ st1. read_arguments term s k st1) s t after (after_of close_kind (token_kind after)))

-- A list of terms, of which the opening bracket is at hand, with so many brackets left: reading one term and reading a list call each other. The knot is
-- tied by arguments: `read_arguments` is told how to read one term, and `read_term_with` how to read the list that a term may open, which is `read_list`
-- again with one bracket less. So the brackets left fall, and each definition above stands alone.
unfoldable pub read_list : ℕ → List ℕ → Cursor → Read Terms
read_list zero s st = beyond st
read_list (suc left) s st = read_arguments (λ st1. read_term_with (λ st2. read_list left s st2) s st1) s arguments (next s st)

unfoldable pub read_term : ℕ → List ℕ → Cursor → Read Term
read_term left s st = read_term_with (λ st1. read_list left s st1) s st

unfoldable pub read_atom : ℕ → List ℕ → Cursor → Read Atom
read_atom left s st = read_atom_with (λ st1. read_list left s st1) s st

-- ---- literals

-- an equation, whose left side was read, with so many brackets left
unfoldable pub read_right : ℕ → List ℕ → Term → Cursor → Read Literal
read_right left s t st = and_then (read_term left s (next s st)) (λ u after. ok (equation t u) after)

-- after an atom: an equation, or the atom alone
unfoldable pub after_atom : ℕ → List ℕ → Atom → Cursor → Bool → Read Literal
after_atom left s a st true = read_right left s (term_of a) st
after_atom left s a st false = ok (literal_of a) st

-- after a variable or a numeral: an equation
unfoldable pub after_term : ℕ → List ℕ → Term → Cursor → Bool → Read Literal
after_term left s t st true = read_right left s t st
after_term left s t st false = wrong st

unfoldable pub literal_with : ℕ → List ℕ → Cursor → Bool → Read Literal
literal_with left s st true = and_then (read_atom left s st) (λ a after. after_atom left s a after (is equals_kind after))
literal_with left s st false = and_then (read_term left s st) (λ t after. after_term left s t after (is equals_kind after))

-- the reader with one literal more
abbrev pub one_literal_more : Cursor → Cursor
one_literal_more st = record { token = st.token; names = st.names; literals = suc st.literals }

-- a literal that is no bracket, by whether the clause or goal may have one more
unfoldable pub plain_with : ℕ → List ℕ → Cursor → Bool → Read Literal
plain_with left s st true = literal_with left s (one_literal_more st) (is name_kind st)
plain_with left s st false = full (begins (start_of (token_kind st))) st

unfoldable pub read_plain : ℕ → List ℕ → Cursor → Read Literal
read_plain left s st = plain_with left s st (ltb st.literals literals)

unfoldable pub body_after : (Cursor → Read Body) → List ℕ → Literal → Cursor → After → Read Body
body_after rest s l st more = and_then (rest (next s st)) (λ b after. ok (also l b) after)
body_after rest s l st last = ok (also l done) (next s st)
body_after rest s l st neither = wrong st

-- Literals up to a token of the kind `end`; `literal` reads one. The number bounds how many they are: each counts for one or more, so one more than there
-- may be never stops the reading.
unfoldable pub read_body_with : (Cursor → Read Literal) → List ℕ → TokenKind → ℕ → Cursor → Read Body
read_body_with literal s end zero st = wrong st
read_body_with literal s end (suc k) st =
    and_then (literal st) (λ l after. body_after (λ st1. read_body_with literal s end k st1) s l after (after_of end (token_kind after)))

-- A bracket, which is at hand, with two bodies; `body` reads one up to a token of a kind.
unfoldable pub read_sides : (TokenKind → Cursor → Read Body) → List ℕ → Cursor → Read Literal
read_sides body s st =
    and_then (body semicolon_kind (next s st)) (λ y after. and_then (body close_kind after) (λ z end. ok (either y z) end))

-- "Such a bracket counts as an open one": one literal, with so many brackets left
unfoldable pub read_literal : ℕ → List ℕ → Cursor → Read Literal
read_literal zero s st = elim (is open_kind st) [ true ↦ beyond st | false ↦ read_plain zero s st ]
read_literal (suc left) s st =
    elim (is open_kind st) [
      | true ↦ read_sides (λ end st1. read_body_with (λ st2. read_literal left s st2) s end (suc literals) st1) s st
      | false ↦ read_plain (suc left) s st
    ]

-- literals up to a token of a kind, with so many brackets left
unfoldable pub read_to : ℕ → List ℕ → TokenKind → ℕ → Cursor → Read Body
read_to left s end k st = read_body_with (λ st1. read_literal left s st1) s end k st

-- literals up to the full stop
unfoldable pub read_body : List ℕ → Cursor → Read Body
read_body s st = read_to brackets s stop_kind (suc literals) st

-- ---- clauses and declarations

-- the reader with no variable and no literal met
abbrev pub fresh : Cursor → Cursor
fresh st = begin st.token

-- what stands after a head: the full stop, or :- and a body
pub data Tail : Type 0 where
  fact rule other : Tail

abbrev pub tail_of : TokenKind → Tail
tail_of k = cond (same_kind k stop_kind) fact (cond (same_kind k neck_kind) rule other)

abbrev pub clause_of : Atom → Body → Cursor → Clause
clause_of h b st = record { head = h; body = b; variables = length st.names }

unfoldable pub clause_after : List ℕ → Atom → Cursor → Tail → Read Clause
clause_after s h st fact = ok (clause_of h done st) (next s st)
clause_after s h st rule = and_then (read_body s (next s st)) (λ b after. ok (clause_of h b after) after)
clause_after s h st other = wrong st

-- a clause, of which the head's name is at hand and no variable is met
unfoldable pub read_clause : List ℕ → Cursor → Read Clause
read_clause s st = and_then (read_atom brackets s st) (λ h after. clause_after s h after (tail_of (token_kind after)))

pub data Sign : Type 0 where
  mark : Mark → Sign
  no_mark : Sign

abbrev pub sign_of : TokenKind → Sign
sign_of k = cond (same_kind k plus_kind) (mark input) (cond (same_kind k minus_kind) (mark output) (cond (same_kind k star_kind) (mark free) no_mark))

abbrev pub is_mark : Sign → Bool
is_mark (mark m) = true
is_mark no_mark = false

unfoldable pub marks_after : (Cursor → Read (List Mark)) → List ℕ → Mark → Cursor → After → Read (List Mark)
marks_after rest s m st more = and_then (rest (next s st)) (λ ms after. ok (m ∷ ms) after)
marks_after rest s m st last = ok (m ∷ []) (next s st)
marks_after rest s m st neither = wrong st

unfoldable pub marks_with : (Cursor → Read (List Mark)) → List ℕ → Cursor → Sign → Read (List Mark)
marks_with rest s st (mark m) = marks_after rest s m (next s st) (after_of close_kind (token_kind (next s st)))
marks_with rest s st no_mark = wrong st

-- a list of marks after its opening bracket, with so many left
unfoldable pub read_marks : List ℕ → ℕ → Cursor → Read (List Mark)
read_marks s zero st = full (is_mark (sign_of (token_kind st))) st
read_marks s (suc k) st = marks_with (λ st1. read_marks s k st1) s st (sign_of (token_kind st))

-- the marks behind a declaration's name, or none
unfoldable pub marks_read : List ℕ → Cursor → Bool → Read (List Mark)
marks_read s st true = read_marks s arguments (next s st)
marks_read s st false = ok [] st

abbrev pub declaration_of : List ℕ → Cursor → List Mark → Declaration
declaration_of s st ms = record { at = st.token.at; name = spelt s st; marks = ms }

-- the full stop of a declaration
unfoldable pub declaration_end : List ℕ → Declaration → Cursor → Bool → Read Declaration
declaration_end s d st true = ok d (next s st)
declaration_end s d st false = wrong st

-- a declaration's name and marks, where a name is at hand
unfoldable pub declaration_from : List ℕ → Cursor → Bool → Read Declaration
declaration_from s st true =
    and_then (marks_read s (next s st) (is open_kind (next s st))) (λ ms after. declaration_end s (declaration_of s st ms) after (is stop_kind after))
declaration_from s st false = wrong st

-- the name `mode`
unfoldable pub is_mode : List ℕ → Cursor → Bool
is_mode s st = is name_kind st && same_name (spelt s st) mode_name

unfoldable pub after_neck : List ℕ → Cursor → Bool → Read Declaration
after_neck s st true = declaration_from s (next s st) (is name_kind (next s st))
after_neck s st false = wrong st

-- a declaration, of which the :- is at hand
unfoldable pub read_declaration : List ℕ → Cursor → Read Declaration
read_declaration s st = after_neck s (next s st) (is_mode s (next s st))

-- ---- sheets and goals

-- what begins at the token at hand, with so many declarations and clauses left
pub data SheetItem : Type 0 where
  no_item a_declaration a_clause past_limit misplaced : SheetItem

abbrev pub item_of : TokenKind → ℕ → ℕ → SheetItem
item_of k ds cs =
    cond (same_kind k end_kind) no_item
    (cond (same_kind k neck_kind) (cond (eqb ds 0) past_limit a_declaration)
    (cond (same_kind k name_kind) (cond (eqb cs 0) past_limit a_clause) misplaced))

abbrev pub with_declaration : Declaration → Sheet → Sheet
with_declaration d sh = record { declarations = d ∷ sh.declarations; clauses = sh.clauses }

abbrev pub with_clause : Clause → Sheet → Sheet
with_clause c sh = record { declarations = sh.declarations; clauses = c ∷ sh.clauses }

-- `rest` reads the items behind one, with the declarations and clauses then left
unfoldable pub item_with : (ℕ → ℕ → Cursor → Read Sheet) → List ℕ → ℕ → ℕ → Cursor → SheetItem → Read Sheet
item_with rest s ds cs st no_item = ok (record { declarations = []; clauses = [] }) st
item_with rest s ds cs st a_declaration =
    and_then (read_declaration s st) (λ d after. and_then (rest (ds - 1) cs after) (λ sh end. ok (with_declaration d sh) end))
item_with rest s ds cs st a_clause =
    and_then (read_clause s st) (λ c after. and_then (rest ds (cs - 1) (fresh after)) (λ sh end. ok (with_clause c sh) end))
item_with rest s ds cs st past_limit = beyond st
item_with rest s ds cs st misplaced = wrong st

-- Items to the end of the text. The first number bounds their number; with one more than there may be declarations and clauses together it
-- never stops the reading.
unfoldable pub read_items : List ℕ → ℕ → ℕ → ℕ → Cursor → Read Sheet
read_items s zero ds cs st = wrong st
read_items s (suc n) ds cs st = item_with (λ ds1 cs1 st1. read_items s n ds1 cs1 st1) s ds cs st (item_of (token_kind st) ds cs)

-- the reader at a text's first token
unfoldable pub at_start : List ℕ → Cursor
at_start s = begin (token_at s 0)

unfoldable pub read_sheet : List ℕ → Read Sheet
read_sheet s = read_items s (declarations + clauses + 1) declarations clauses (at_start s)

abbrev pub goal_of : Body → Cursor → Goal
goal_of b st = record { body = b; names = st.names }

unfoldable pub goal_end : List ℕ → Body → Cursor → Bool → Read Goal
goal_end s b st true = ok (goal_of b st) st
goal_end s b st false = wrong st

-- one or more literals, a full stop, and the end
unfoldable pub read_goal : List ℕ → Read Goal
read_goal s = and_then (read_body s (at_start s)) (λ b after. goal_end s b after (is end_kind after))

-- ---- refusal 7

-- a declaration that repeats an earlier predicate, or names `true` or `fail` without arguments
unfoldable pub declares : List Declaration → List ℕ → ℕ → Bool
declares [] name n = false
declares (d ∷ ds) name n = same_predicate d.name (length d.marks) name n || declares ds name n

unfoldable pub repeats : List Declaration → Declaration → Bool
repeats earlier d =
    declares earlier d.name (length d.marks) || (same_predicate d.name (length d.marks) true_name 0
    || same_predicate d.name (length d.marks) fail_name 0)

-- the byte of the first declaration at fault
unfoldable pub first_repeat : List Declaration → List Declaration → Option ℕ
first_repeat earlier [] = none
first_repeat earlier (d ∷ ds) = elim (repeats earlier d) [ true ↦ some d.at | false ↦ first_repeat (earlier ++ (d ∷ [])) ds ]
