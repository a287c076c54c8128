-- What reading a sheet promises of its answer and of the two tables.
use Rattle.std.specs.Prelude.{ℕ, ◌+◌, ◌-◌, ◌*◌, ◌≤◌, ◌≡◌, true, false, List, ◌++◌, eqb, length, take, Result, Ok, Err}
use Rattle.syntax.specs.Limits.{variables, declarations, clauses}
use Rattle.syntax.specs.Spans.{names_from, met, SpansInside}
use Rattle.syntax.specs.Terms.{Declaration, Clause, Sheet, Goal}
use Rattle.syntax.specs.Reading.{Cursor, begin, Read, fault, ok, beyond, token_kind, read_declaration, read_clause, item_of, item_with, read_items, read_sheet}
use Rattle.syntax.specs.Words.{node_words, declaration_size, declarations_words, clauses_words, body_words, body_length}
use Rattle.syntax.specs.Verdicts.{fault_of}
use Rattle.syntax.specs.declared.ParserState.{ParserState}
use Rattle.syntax.specs.declared.Refusal.{Refusal}
use Rattle.parse.specs.Gives.{CursorInside, bytes_left}
use Rattle.parse.specs.declared.Parsed.{Parsed}
use Rattle.parse.specs.Marks.{Stopped}
use Rattle.parse.specs.declared.sheets.SheetParsed.{SheetParsed}
use Rattle.parse.specs.declared.sheets.SheetFault.{SheetFault}

-- one declaration or clause more, with so many left
unfoldable pub declaration_next : List ℕ → ℕ → Cursor → Read Declaration
declaration_next s more st = elim (eqb more 0) [ true ↦ beyond st | false ↦ read_declaration s st ]

unfoldable pub clause_next : List ℕ → ℕ → Cursor → Read Clause
clause_next s more st = elim (eqb more 0) [ true ↦ beyond st | false ↦ read_clause s st ]

-- items that were read before others
unfoldable pub items_before : List Declaration → List Clause → Read Sheet → Read Sheet
items_before ds cs (fault k b) = fault k b
items_before ds cs (ok sh end) = ok (record { declarations = ds ++ sh.declarations; clauses = cs ++ sh.clauses }) end

-- The tables hold some declarations and clauses.
pub record SheetInTables (declared table : List ℕ) (ds cs used : ℕ) (dl : List Declaration) (cl : List Clause) : Type 0 where
  pub ds_is : ds ≡ length dl
  pub cs_is : cs ≡ length cl
  pub used_is : used ≡ length (clauses_words cl)
  pub declared_is : take (declaration_size * ds) declared ≡ declarations_words dl
  pub table_is : take used table ≡ clauses_words cl

-- Where the reading of a sheet stands: the tables hold what was read, and the whole is that and what is read from here on.
pub record Loading (s declared table : List ℕ) (ds cs used : ℕ) (st : ParserState) : Type 0 where
  pub dl : List Declaration
  pub cl : List Clause
  pub holds : SheetInTables declared table ds cs used dl cl
  pub whole : read_sheet s ≡ items_before dl cl (read_items s (declarations + clauses + 1 - (ds + cs)) (declarations - ds) (clauses - cs) (begin st.token))
  pub ds_most : ds ≤ declarations
  pub cs_most : cs ≤ clauses
  pub standing : CursorInside s st
  pub room : used + node_words * bytes_left s st + 4 + variables ≤ length table

-- the item that begins where the reader stands is at fault, whatever follows it
abbrev pub ItemFault : List ℕ → ℕ → ℕ → Cursor → ℕ → ℕ → Type 0
ItemFault s ds cs st k b = (rest : ℕ → ℕ → Cursor → Read Sheet) → item_with rest s ds cs st (item_of (token_kind st) ds cs) ≡ fault k b

-- On a fault: the refusal of its number and byte, and the tables hold the items before the one at fault, which begins at `from`. Otherwise the tables hold
-- the sheet.
pub record LoadFault (s declared table : List ℕ) (r : SheetFault) (k b : ℕ) : Type 0 where
  pub is : r.refusal ≡ fault_of k b
  pub dl : List Declaration
  pub cl : List Clause
  pub holds : SheetInTables declared table r.before.declarations r.before.clauses r.before.used dl cl
  pub from : Cursor
  pub whole : read_sheet s
      ≡ items_before dl cl (read_items s (declarations + clauses + 1 - (r.before.declarations + r.before.clauses)) (declarations - r.before.declarations)
      (clauses - r.before.clauses) from)
  pub faulty : ItemFault s (declarations - r.before.declarations) (clauses - r.before.clauses) from k b

pub record LoadGiven (declared table : List ℕ) (r : SheetParsed) (sh : Sheet) : Type 0 where
  pub holds : SheetInTables declared table r.declarations r.clauses r.used sh.declarations sh.clauses
  pub few : r.declarations ≤ declarations

abbrev pub Parses : List ℕ → List ℕ → List ℕ → Result SheetParsed SheetFault → Read Sheet → Type 0
Parses s declared table (Err r) (fault k b) = LoadFault s declared table r k b
Parses s declared table (Err r) (ok sh end) = ⊥
Parses s declared table (Ok r) (fault k b) = ⊥
Parses s declared table (Ok r) (ok sh end) = LoadGiven declared table r sh

-- On a fault of a goal: the refusal of its number and byte; the table, written from its first word on, is left free, and its length stays. Otherwise
-- it holds the goal's literals, and in its last words the spellings of its variables.
pub record GoalGiven (s table : List ℕ) (r : Parsed) (g : Goal) : Type 0 where
  pub items_is : r.items ≡ body_length g.body
  pub used_is : r.used ≡ length (body_words g.body)
  pub table_is : take r.used table ≡ body_words g.body
  pub few : r.state.count ≤ variables
  pub held : SpansInside s (met table) r.state.count
  pub names_are : g.names ≡ names_from s (met table) 0 r.state.count

abbrev pub GoalParses : List ℕ → List ℕ → Result Parsed Refusal → Read Goal → Type 0
GoalParses s table (Err q) (fault k b) = Stopped q k b
GoalParses s table (Err q) (ok g end) = ⊥
GoalParses s table (Ok r) (fault k b) = ⊥
GoalParses s table (Ok r) (ok g end) = GoalGiven s table r g
