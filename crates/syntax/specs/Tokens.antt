-- One token at a position of a text (RULES, "How a sheet is spelt").
use Rattle.std.specs.Prelude.{ℕ, suc, ◌+◌, Bool, true, false, cond, List, [], ◌∷◌, leb, eqb, drop, take}
use Rattle.syntax.specs.Limits.{word_bytes}
use Rattle.syntax.specs.Bytes.{is_blank, class_of, in_word, in_numeral}
use Rattle.syntax.specs.declared.Class.{Class}
use Rattle.syntax.specs.declared.Class.TheVariants.{Nothing, Blank, Percent, Lower, Upper, Digit, Colon, Single}
use Rattle.syntax.specs.declared.Token.{Token}
use Rattle.syntax.specs.declared.TokenKind.{TokenKind}
use Rattle.syntax.specs.declared.TokenKind.TheVariants.{NoToken, Name, Variable, Numeral, Neck, Open, Close, Comma, Stop, Equals, Plus, Minus, Star, Overlong}
use Rattle.syntax.specs.declared.TokenKind.TheVariants.{Semicolon, End}

-- The kinds of token: a byte that begins none, a name, a variable, a numeral, the pair :-, the tokens of one byte, a name, variable or numeral of more
-- than 31 bytes, the end of the text. "The semicolon is now a token" (REQUESTS (i)).
abbrev pub no_token : TokenKind
no_token = NoToken

abbrev pub name_kind : TokenKind
name_kind = Name

abbrev pub variable_kind : TokenKind
variable_kind = Variable

abbrev pub numeral_kind : TokenKind
numeral_kind = Numeral

abbrev pub neck_kind : TokenKind
neck_kind = Neck

abbrev pub open_kind : TokenKind
open_kind = Open

abbrev pub close_kind : TokenKind
close_kind = Close

abbrev pub comma_kind : TokenKind
comma_kind = Comma

abbrev pub stop_kind : TokenKind
stop_kind = Stop

abbrev pub equals_kind : TokenKind
equals_kind = Equals

abbrev pub plus_kind : TokenKind
plus_kind = Plus

abbrev pub minus_kind : TokenKind
minus_kind = Minus

abbrev pub star_kind : TokenKind
star_kind = Star

abbrev pub semicolon_kind : TokenKind
semicolon_kind = Semicolon

abbrev pub overlong_kind : TokenKind
overlong_kind = Overlong

abbrev pub end_kind : TokenKind
end_kind = End

-- whether two kinds are the same, by their places in this list
abbrev pub kind_place : TokenKind → ℕ
kind_place NoToken = 0
kind_place Name = 1
kind_place Variable = 2
kind_place Numeral = 3
kind_place Neck = 4
kind_place Open = 5
kind_place Close = 6
kind_place Comma = 7
kind_place Stop = 8
kind_place Equals = 9
kind_place Plus = 10
kind_place Minus = 11
kind_place Star = 12
kind_place Semicolon = 13
kind_place Overlong = 14
kind_place End = 15

abbrev pub same_kind : TokenKind → TokenKind → Bool
same_kind a b = eqb (kind_place a) (kind_place b)

-- Before a token a scanner is outside, or in a comment.
pub data Gap : Type 0 where
  outside in_comment : Gap

-- Where a byte takes the scanner: on, or it stands at the token's first byte.
pub data Move : Type 0 where
  on : Gap → Move
  at_token : Move

abbrev pub move_of : Gap → ℕ → Move
move_of outside b = cond (is_blank b) (on outside) (cond (eqb b 37) (on in_comment) at_token)
move_of in_comment b = cond (eqb b 10) (on outside) (on in_comment)

-- how many bytes of blanks and comments stand first
unfoldable pub skipped : Gap → List ℕ → ℕ
skipped g [] = 0
skipped g (b ∷ s) = elim (move_of g b) [ on h ↦ suc (skipped h s) | at_token ↦ 0 ]

-- how many bytes that pass a test stand first
unfoldable pub run_length : (ℕ → Bool) → List ℕ → ℕ
run_length f [] = 0
run_length f (b ∷ s) = elim (f b) [ true ↦ suc (run_length f s) | false ↦ 0 ]

-- a name, variable or numeral of n bytes
unfoldable pub word : TokenKind → ℕ → ℕ → Token
word kind at n = record { kind = cond (leb n word_bytes) kind overlong_kind; at = at; len = n }

-- whether the first byte is the dash
unfoldable pub dash_first : List ℕ → Bool
dash_first [] = false
dash_first (b ∷ s) = eqb b 45

-- the token whose first byte, of a class, stands at a place, with the bytes after it; a blank and the percent sign are passed before
unfoldable pub token_of_class : Class → ℕ → List ℕ → Token
token_of_class Lower at s = word name_kind at (suc (run_length in_word s))
token_of_class Upper at s = word variable_kind at (suc (run_length in_word s))
token_of_class Digit at s = word numeral_kind at (suc (run_length in_numeral s))
token_of_class Colon at s = record { kind = cond (dash_first s) neck_kind no_token; at = at; len = cond (dash_first s) 2 1 }
token_of_class (Single kind) at s = record { kind = kind; at = at; len = 1 }
token_of_class Nothing at s = record { kind = no_token; at = at; len = 1 }
token_of_class Blank at s = record { kind = no_token; at = at; len = 1 }
token_of_class Percent at s = record { kind = no_token; at = at; len = 1 }

-- the token at a place, of the text from there on
unfoldable pub token_from : ℕ → List ℕ → Token
token_from at [] = record { kind = end_kind; at = at; len = 0 }
token_from at (b ∷ s) = token_of_class (class_of b) at s

-- where the first token from a position on begins
unfoldable pub token_place : List ℕ → ℕ → ℕ
token_place s from = from + skipped outside (drop from s)

-- the first token from a position on
unfoldable pub token_at : List ℕ → ℕ → Token
token_at s from = token_from (token_place s from) (drop (token_place s from) s)

-- the bytes of a token
abbrev pub spelling : List ℕ → ℕ → ℕ → List ℕ
spelling s at len = take len (drop at s)
