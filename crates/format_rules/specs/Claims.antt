-- What is proved of sheets written afresh (REQUESTS (iv)), over all texts.
use Rattle.std.specs.Prelude.{ℕ, ◌≤◌, ◌≡◌, List, length}
use Rattle.syntax.specs.Terms.{Sheet}
use Rattle.syntax.specs.Verdicts.{accepted}
use Rattle.mode_rules.specs.Checking.{checked_sheet}
use Rattle.format_rules.specs.Formatting.{formatting}
use Rattle.format_rules.specs.Plain.{SameButForPlaces}
use Rattle.format_rules.specs.Renaming.{SheetsSameButForNames}

-- two texts are accepted, and their sheets are the same but for places
pub record TextsSameButForPlaces (s t : List ℕ) : Type 0 where
  pub one : Sheet
  pub two : Sheet
  pub one_accepted : checked_sheet s ≡ accepted one
  pub two_accepted : checked_sheet t ≡ accepted two
  pub same : SameButForPlaces one two

-- two texts are accepted, and their sheets are the same but for names of variables
pub record TextsSameButForNames (s t : List ℕ) : Type 0 where
  pub one : Sheet
  pub two : Sheet
  pub one_accepted : checked_sheet s ≡ accepted one
  pub two_accepted : checked_sheet t ≡ accepted two
  pub same : SheetsSameButForNames one two

-- "Two sheets both written have equal output exactly when their declarations agree in order, and their clauses too, up to names of variables and leading
-- zeros of numerals."
abbrev pub EqualExactlyButForNames : Type 0
EqualExactlyButForNames = (room space : ℕ) (s t w v : List ℕ) → formatting room s ≡ accepted w → formatting space t ≡ accepted v
    → (w ≡ v → TextsSameButForNames s t) × (TextsSameButForNames s t → w ≡ v)

-- "The output is accepted, and writing it afresh changes no byte."
abbrev pub WrittenAgainTheSame : Type 0
WrittenAgainTheSame = (room space : ℕ) (s w : List ℕ) → formatting room s ≡ accepted w → length w ≤ space → formatting space w ≡ accepted w

-- The output is the same sheet as the text, but for places.
abbrev pub ReadBackTheSame : Type 0
ReadBackTheSame = (room : ℕ) (s w : List ℕ) → formatting room s ≡ accepted w → TextsSameButForPlaces w s
