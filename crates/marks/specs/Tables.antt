-- What stands in a table of words. A function on a table asks for a record of something that stands there, and answers for every such
-- record.
use Rattle.std.specs.Prelude.{ℕ, ◌+◌, ◌≤◌, ◌≡◌, List, length}
use Rattle.syntax.specs.Limits.{word_bytes}
use Rattle.syntax.specs.Terms.{Term, Terms, arity, Atom, term_of, Literal, Body, Mark, Declaration, Clause, Sheet, Goal}
use Rattle.syntax.specs.Words.{term_words, terms_words, atom_words, literal_words, body_words, body_length, clause_words, clauses_words}
use Rattle.syntax.specs.Words.{mark_number, marks_number, declaration_words, declarations_words}
use Rattle.words.specs.Tables.{WordsAt}
use Rattle.marks.specs.Spelt.{Numbered, AllNumbered, TermSpelt, TermsSpelt, LiteralSpelt, BodySpelt, ClauseSpelt, ClausesSpelt, DeclarationSpelt}
use Rattle.marks.specs.Spelt.{DeclarationsSpelt, SheetSpelt, GoalSpelt}

-- a term stands at p
pub record TermAt (table : List ℕ) (p : ℕ) : Type 0 where
  pub term : Term
  pub has : WordsAt table p (term_words term)
  pub numbered : Numbered term

-- terms stand from p to stop
pub record TermsAt (table : List ℕ) (p stop : ℕ) : Type 0 where
  pub terms : Terms
  pub has : WordsAt table p (terms_words terms)
  pub ends : stop ≡ p + length (terms_words terms)
  pub numbered : AllNumbered terms

-- two terms of a text stand at p and at q
pub record PairAt (s table : List ℕ) (p q : ℕ) : Type 0 where
  pub left : Term
  pub right : Term
  pub has_left : WordsAt table p (term_words left)
  pub has_right : WordsAt table q (term_words right)
  pub left_stands : TermSpelt s left
  pub right_stands : TermSpelt s right

-- as many terms of a text stand from p to stop and from q on
pub record PairsAt (s table : List ℕ) (p stop q : ℕ) : Type 0 where
  pub left : Terms
  pub right : Terms
  pub has_left : WordsAt table p (terms_words left)
  pub has_right : WordsAt table q (terms_words right)
  pub left_ends : stop ≡ p + length (terms_words left)
  pub alike : arity left ≡ arity right
  pub left_stand : TermsSpelt s left
  pub right_stand : TermsSpelt s right

-- terms from p to stop, the marks for them in one number, and the number of one mark
pub record MarkedAt (table : List ℕ) (p stop marks mark : ℕ) : Type 0 where
  pub terms : Terms
  pub has : WordsAt table p (terms_words terms)
  pub ends : stop ≡ p + length (terms_words terms)
  pub numbered : AllNumbered terms
  pub listed : List Mark
  pub number : marks ≡ marks_number listed
  pub wanted : Mark
  pub wanted_is : mark ≡ mark_number wanted

-- one declaration of a text stands at p
pub record DeclarationAt (s declared : List ℕ) (p : ℕ) : Type 0 where
  pub declaration : Declaration
  pub has : WordsAt declared p (declaration_words declaration)
  pub stands : DeclarationSpelt s declaration

-- a text's declarations, of which there are n
pub record DeclarationsAt (s declared : List ℕ) (n : ℕ) : Type 0 where
  pub list : List Declaration
  pub has : WordsAt declared 0 (declarations_words list)
  pub count : n ≡ length list
  pub stand : DeclarationsSpelt s list

-- an atom of the text g stands at p
pub record AtomAt (g table : List ℕ) (p : ℕ) : Type 0 where
  pub atom : Atom
  pub has : WordsAt table p (atom_words atom)
  pub stands : TermSpelt g (term_of atom)

-- an atom stands at p, whose name is no longer than a name may be
pub record NamedAt (table : List ℕ) (p : ℕ) : Type 0 where
  pub atom : Atom
  pub has : WordsAt table p (atom_words atom)
  pub short : length atom.name ≤ word_bytes

-- an atom stands at p, and the marks for its arguments in one number
pub record JudgedAt (table : List ℕ) (p marks : ℕ) : Type 0 where
  pub atom : Atom
  pub has : WordsAt table p (atom_words atom)
  pub numbered : AllNumbered atom.args
  pub short : length atom.name ≤ word_bytes
  pub listed : List Mark
  pub number : marks ≡ marks_number listed

-- a literal of the text g stands at p
pub record LiteralAt (g table : List ℕ) (p : ℕ) : Type 0 where
  pub literal : Literal
  pub has : WordsAt table p (literal_words literal)
  pub stands : LiteralSpelt g literal

-- so many literals of the text g stand from p on
pub record BodyAt (g table : List ℕ) (p literals : ℕ) : Type 0 where
  pub body : Body
  pub has : WordsAt table p (body_words body)
  pub count : literals ≡ body_length body
  pub stands : BodySpelt g body

-- a clause of the text g stands at p
pub record ClauseAt (g table : List ℕ) (p : ℕ) : Type 0 where
  pub clause : Clause
  pub has : WordsAt table p (clause_words clause)
  pub stands : ClauseSpelt g clause

-- so many clauses of the text g stand from p on
pub record ClausesAt (g table : List ℕ) (p clauses : ℕ) : Type 0 where
  pub list : List Clause
  pub has : WordsAt table p (clauses_words list)
  pub count : clauses ≡ length list
  pub stand : ClausesSpelt g list

-- the tables that hold what was read of a sheet
pub record SheetAt (s declared : List ℕ) (n : ℕ) (table : List ℕ) (clauses : ℕ) : Type 0 where
  pub sheet : Sheet
  pub has_declarations : WordsAt declared 0 (declarations_words sheet.declarations)
  pub declarations_count : n ≡ length sheet.declarations
  pub has_clauses : WordsAt table 0 (clauses_words sheet.clauses)
  pub clauses_count : clauses ≡ length sheet.clauses
  pub stands : SheetSpelt s sheet

-- the tables that hold what was read of a sheet's declarations and of a goal
pub record GoalAt (s declared : List ℕ) (n : ℕ) (g table : List ℕ) (literals : ℕ) : Type 0 where
  pub sheet : Sheet
  pub goal : Goal
  pub has_declarations : WordsAt declared 0 (declarations_words sheet.declarations)
  pub declarations_count : n ≡ length sheet.declarations
  pub declarations_stand : DeclarationsSpelt s sheet.declarations
  pub has_body : WordsAt table 0 (body_words goal.body)
  pub literals_count : literals ≡ body_length goal.body
  pub stands : GoalSpelt g goal
