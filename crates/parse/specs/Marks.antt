-- What reading the marks of a declaration, and a declaration, promises.
use Rattle.std.specs.Prelude.{ℕ, ◌+◌, ◌≤◌, ◌<◌, ◌^◌, ◌≡◌, List, ◌++◌, length, take, Result, Ok, Err}
use Rattle.syntax.specs.Terms.{Mark, Declaration}
use Rattle.syntax.specs.Reading.{Cursor, begin, Read, fault, ok}
use Rattle.syntax.specs.Words.{mark_numbers, marks_number, declaration_words, declaration_size}
use Rattle.syntax.specs.Verdicts.{fault_of}
use Rattle.syntax.specs.declared.ParserState.{ParserState}
use Rattle.syntax.specs.declared.Refusal.{Refusal}
use Rattle.parse.specs.Gives.{CursorInside, Faulted, bytes_left}
use Rattle.parse.specs.declared.Parsed.{Parsed}
use Rattle.parse.specs.declared.declarations.MarkList.{MarkList}

-- the refusal of the fault's number and byte
abbrev pub Stopped : Refusal → ℕ → ℕ → Type 0
Stopped q k b = q ≡ fault_of k b

-- the marks in one number, and how many they are
pub record Marked (s : List ℕ) (st : ParserState) (k : ℕ) (r : MarkList) (ms : List Mark) (after : Cursor) : Type 0 where
  pub state_is : begin r.state.token ≡ after
  pub items_is : r.items ≡ length ms
  pub used_is : r.marks ≡ marks_number ms
  pub few : length ms ≤ k
  pub small : marks_number ms + 1 ≤ mark_numbers ^ k
  pub standing : CursorInside s r.state
  pub forward : st.token.at ≤ r.state.token.at

abbrev pub MarksGive : List ℕ → ParserState → ℕ → Result MarkList Refusal → Read (List Mark) → Type 0
MarksGive s st k (Err q) (fault f b) = Stopped q f b
MarksGive s st k (Err q) (ok ms after) = ⊥
MarksGive s st k (Ok r) (fault f b) = ⊥
MarksGive s st k (Ok r) (ok ms after) = Marked s st k r ms after

-- a declaration's words behind those before n, and the reader past it, with no variable met
pub record DeclarationGiven (s : List ℕ) (from : ParserState) (entry exit : List ℕ) (n : ℕ) (r : Parsed) (d : Declaration) (after : Cursor) : Type 0 where
  pub state_is : begin r.state.token ≡ after
  pub table_is : take (n + declaration_size) exit ≡ take n entry ++ declaration_words d
  pub standing : CursorInside s r.state
  pub less : bytes_left s r.state < bytes_left s from

abbrev pub DeclarationGives : List ℕ → ParserState → List ℕ → List ℕ → ℕ → Result Parsed Refusal → Read Declaration → Type 0
DeclarationGives s from entry exit n (Err q) (fault k b) = Faulted entry exit n q k b
DeclarationGives s from entry exit n (Err q) (ok d after) = ⊥
DeclarationGives s from entry exit n (Ok r) (fault k b) = ⊥
DeclarationGives s from entry exit n (Ok r) (ok d after) = DeclarationGiven s from entry exit n r d after
