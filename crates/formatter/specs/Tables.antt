-- What stands in the tables of a sheet that was read, with the names of its text.
use Rattle.std.specs.Prelude.{ℕ, ◌+◌, ◌*◌, ◌≤◌, ◌≡◌, List, length}
use Rattle.syntax.specs.Limits.{declarations}
use Rattle.syntax.specs.Terms.{Term, Terms, term_of}
use Rattle.syntax.specs.Words.{term_words, terms_words, declaration_size, sheet_words}
use Rattle.words.specs.Tables.{WordsAt}
use Rattle.words.specs.Items.{Item, plain_call, plain_equation, plain_truth, plain_falsity, before_left, before_right, behind, item_words}
use Rattle.marks.specs.Spelt.{TermSpelt, TermsSpelt}
use Rattle.marks.specs.Tables.{DeclarationAt, ClausesAt, SheetAt}
use Rattle.marks.specs.declared.declarations.Declarations.{Declarations}
use Rattle.marks.specs.declared.declarations.ReadText.{ReadText}

-- a term of the text stands at p
pub record SpeltTermAt (s table : List ℕ) (p : ℕ) : Type 0 where
  pub term : Term
  pub has : WordsAt table p (term_words term)
  pub stands : TermSpelt s term

-- terms of the text stand from p to stop
pub record SpeltTermsAt (s table : List ℕ) (p stop : ℕ) : Type 0 where
  pub terms : Terms
  pub has : WordsAt table p (terms_words terms)
  pub ends : stop ≡ p + length (terms_words terms)
  pub stand : TermsSpelt s terms

-- the terms of an item are terms of the text
abbrev pub ItemSpelt : List ℕ → Item → Type 0
ItemSpelt s (plain_call a) = TermSpelt s (term_of a)
ItemSpelt s (plain_equation t u) = TermSpelt s t × TermSpelt s u
ItemSpelt s plain_truth = Unit {0}
ItemSpelt s plain_falsity = Unit {0}
ItemSpelt s (before_left n) = Unit {0}
ItemSpelt s (before_right n) = Unit {0}
ItemSpelt s behind = Unit {0}

-- an item of a body of the text stands at p
pub record SpeltItemAt (s table : List ℕ) (p : ℕ) : Type 0 where
  pub item : Item
  pub has : WordsAt table p (item_words item)
  pub stands : ItemSpelt s item

-- the same of text and table, and of declarations, as the code holds them
abbrev pub TermIn : ReadText → ℕ → Type 0
TermIn r p = SpeltTermAt r.text.now r.table.now p

abbrev pub TermsIn : ReadText → ℕ → ℕ → Type 0
TermsIn r p stop = SpeltTermsAt r.text.now r.table.now p stop

abbrev pub ItemIn : ReadText → ℕ → Type 0
ItemIn r p = SpeltItemAt r.text.now r.table.now p

abbrev pub ClausesIn : ReadText → ℕ → Type 0
ClausesIn r clauses = ClausesAt r.text.now r.table.now 0 clauses

abbrev pub DeclarationIn : Declarations → ℕ → Type 0
DeclarationIn d i = DeclarationAt d.text.now d.words.now (declaration_size * i)

-- a sheet that was read stands in tables no longer than they are made
pub record SheetReady (s declared : List ℕ) (n : ℕ) (table : List ℕ) (clauses : ℕ) : Type 0 where
  pub stands : SheetAt s declared n table clauses
  pub few : n ≤ declarations
  pub short : length table ≤ sheet_words

abbrev pub SheetIn : Declarations → List ℕ → ℕ → Type 0
SheetIn d table clauses = SheetReady d.text.now d.words.now d.count table clauses

-- For each word of a table at most so many bytes are written: a name has 31, and a bracket or a comma may stand at either side.
abbrev pub word_room : ℕ
word_room = 40

-- and so many for a declaration
abbrev pub declaration_room : ℕ
declaration_room = 64
