-- The nodes of terms one behind the other: as they were read, and as they are copied.
use Rattle.std.specs.Prelude.{ℕ, ◌+◌, ◌-◌, ◌*◌, ◌/◌, ◌%◌, ◌≤◌, ◌≡◌, cond, List, [], ◌∷◌, ◌++◌, ltb, length, set}
use Rattle.syntax.specs.Limits.{word_bytes, arguments}
use Rattle.syntax.specs.Terms.{Term, Terms, variable, compound, nil, cons, arity, term_of, Literal, Body, call, equation, truth, falsity, either, done}
use Rattle.syntax.specs.Terms.{also, Clause}
use Rattle.syntax.specs.Words.{functor, functor_arity, functor_length, terms_words, body_words, body_length, clause_words, clauses_words, first_name}
use Rattle.syntax.specs.Words.{node_words, program_bytes}
use Rattle.marks.specs.Spelt.{BodySpelt, ClauseSpelt, ClausesSpelt}
use Rattle.words.specs.Tables.{WordsAt}
use Rattle.run_layout.specs.Regions.{loaded_node}
use Rattle.run_layout.specs.Symbols.{symbol_word}
use Rattle.load.specs.declared.node_words.Source.{Source}
use Rattle.load.specs.declared.node_words.Source.TheVariants.{Sheet, Goal}

-- ---- nodes as they were read

-- the three words of a node (`Words` of the crate `syntax`)
pub record NodeAsRead : Type 0 where
  pub what : ℕ
  pub size : ℕ
  pub byte : ℕ

unfoldable pub parsed_words : List NodeAsRead → List ℕ
parsed_words [] = []
parsed_words (x ∷ xs) = x.what ∷ x.size ∷ x.byte ∷ parsed_words xs

-- the nodes of a term, of terms, of a literal's terms, of a body's, of a clause's and of all clauses'; of a bracket, the left side's first
unfoldable mutual
  pub term_parsed : Term → List NodeAsRead
  term_parsed (variable n b) = record { what = n; size = node_words; byte = b } ∷ []
  term_parsed (compound b f ts) = record { what = functor (arity ts) (length f); size = node_words + length (terms_words ts); byte = b } ∷ terms_parsed ts

  pub terms_parsed : Terms → List NodeAsRead
  terms_parsed nil = []
  terms_parsed (cons t ts) = term_parsed t ++ terms_parsed ts

unfoldable mutual
  pub literal_parsed : Literal → List NodeAsRead
  literal_parsed (call a) = term_parsed (term_of a)
  literal_parsed (equation t u) = term_parsed t ++ term_parsed u
  literal_parsed truth = []
  literal_parsed falsity = []
  literal_parsed (either y z) = body_parsed y ++ body_parsed z

  pub body_parsed : Body → List NodeAsRead
  body_parsed done = []
  body_parsed (also x b) = literal_parsed x ++ body_parsed b

unfoldable pub clause_parsed : Clause → List NodeAsRead
clause_parsed cl = term_parsed (term_of cl.head) ++ body_parsed cl.body

unfoldable pub clauses_parsed : List Clause → List NodeAsRead
clauses_parsed [] = []
clauses_parsed (cl ∷ cls) = clause_parsed cl ++ clauses_parsed cls

-- ---- nodes as they are copied

-- the number of a text in a symbol's word
abbrev pub number_of : Source → ℕ
number_of Sheet = 0
number_of Goal = 1

-- The two words of a copy: a variable's number, or the name from `first_name` on; how many words the copies of it and of its arguments take.
pub record Flat : Type 0 where
  pub what : ℕ
  pub size : ℕ

unfoldable pub flat_words : List Flat → List ℕ
flat_words [] = []
flat_words (x ∷ xs) = x.what ∷ x.size ∷ flat_words xs

-- room for the number of arguments, where it is packed with a symbol's word
abbrev pub arities : ℕ
arities = 32

-- The symbol's word and the number of arguments in one number.
abbrev pub flat_name : ℕ → ℕ → ℕ
flat_name word n = first_name + word * arities + n

abbrev pub flat_symbol : ℕ → ℕ
flat_symbol v = (v - first_name) / arities

abbrev pub flat_arity : ℕ → ℕ
flat_arity v = (v - first_name) % arities

-- The first word of a copy: a variable's number; or, from `first_name` on, that number.
unfoldable pub flat_what : ℕ → ℕ → ℕ → ℕ
flat_what text what byte = cond (ltb what first_name) what (flat_name (symbol_word byte text (functor_length what)) (functor_arity what))

unfoldable pub flat_all : ℕ → List NodeAsRead → List Flat
flat_all text [] = []
flat_all text (x ∷ xs) = record { what = flat_what text x.what x.byte; size = x.size / node_words * loaded_node } ∷ flat_all text xs

-- a name of a program or a goal, of at most `word_bytes` bytes and with at most `arguments` arguments
abbrev pub NameFits : ℕ → ℕ → Type 0
NameFits what byte = first_name ≤ what → (byte ≤ program_bytes) × (what ≤ functor arguments word_bytes)

abbrev pub AllFit : List NodeAsRead → Type 0
AllFit [] = Unit {0}
AllFit (x ∷ xs) = NameFits x.what x.byte × AllFit xs

-- words written one behind the other
unfoldable pub put_all : List ℕ → ℕ → List ℕ → List ℕ
put_all l q [] = l
put_all l q (w ∷ ws) = put_all (set l q w) (q + 1) ws

-- ---- what the functions that copy are given

-- nodes stand from one place up to another
pub record RunAt (table : List ℕ) (from stop : ℕ) : Type 0 where
  pub run : List NodeAsRead
  pub has : WordsAt table from (parsed_words run)
  pub ends : stop ≡ from + length (parsed_words run)
  pub fit : AllFit run

-- a body of so many items of a text stands from p on
pub record BodyHere (table : List ℕ) (p items : ℕ) : Type 0 where
  pub text : List ℕ
  pub short : length text ≤ program_bytes
  pub body : Body
  pub has : WordsAt table p (body_words body)
  pub count : items ≡ body_length body
  pub stands : BodySpelt text body

-- a clause of a text stands at p
pub record ClauseHere (table : List ℕ) (p : ℕ) : Type 0 where
  pub text : List ℕ
  pub short : length text ≤ program_bytes
  pub clause : Clause
  pub has : WordsAt table p (clause_words clause)
  pub stands : ClauseSpelt text clause

-- so many clauses of a text stand from p on
pub record ClausesHere (table : List ℕ) (p clauses : ℕ) : Type 0 where
  pub text : List ℕ
  pub short : length text ≤ program_bytes
  pub list : List Clause
  pub has : WordsAt table p (clauses_words list)
  pub count : clauses ≡ length list
  pub stand : ClausesSpelt text list
