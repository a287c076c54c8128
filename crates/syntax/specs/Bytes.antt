-- The classes of bytes (RULES, "How a sheet is spelt").
use Rattle.std.specs.Prelude.{ℕ, Bool, cond, ◌&&◌, ◌||◌, leb, eqb}
use Rattle.syntax.specs.declared.TokenKind.TheVariants.{Open, Close, Comma, Stop, Equals, Plus, Minus, Star, Semicolon}
use Rattle.syntax.specs.declared.Class.{Class}
use Rattle.syntax.specs.declared.Class.TheVariants.{Nothing, Blank, Percent, Lower, Upper, Digit, Colon, Single}

-- space, tab, line feed, carriage return
abbrev pub is_blank : ℕ → Bool
is_blank b = eqb b 32 || (eqb b 9 || (eqb b 10 || eqb b 13))

-- an ASCII letter from a to z
abbrev pub is_lower : ℕ → Bool
is_lower b = leb 97 b && leb b 122

-- an ASCII letter from A to Z, or the underscore
abbrev pub is_upper : ℕ → Bool
is_upper b = (leb 65 b && leb b 90) || eqb b 95

abbrev pub is_digit : ℕ → Bool
is_digit b = leb 48 b && leb b 57

-- The class of a byte: a blank, the percent sign, what begins a name, a variable or a numeral, the colon, the tokens of one byte, and what begins no token.
unfoldable pub class_of : ℕ → Class
class_of b =
    cond (is_blank b) Blank
    (cond (eqb b 37) Percent
    (cond (is_lower b) Lower
    (cond (is_upper b) Upper
    (cond (is_digit b) Digit
    (cond (eqb b 58) Colon
    (cond (eqb b 40) (Single Open)
    (cond (eqb b 41) (Single Close)
    (cond (eqb b 44) (Single Comma)
    (cond (eqb b 46) (Single Stop)
    (cond (eqb b 61) (Single Equals)
    (cond (eqb b 43) (Single Plus)
    (cond (eqb b 45) (Single Minus)
    (cond (eqb b 42) (Single Star)
    (cond (eqb b 59) (Single Semicolon) Nothing))))))))))))))

-- a byte that goes on with a name or a variable: letters, digits, underscores
unfoldable pub in_word : ℕ → Bool
in_word b = is_lower b || (is_upper b || is_digit b)

-- a byte that goes on with a numeral
unfoldable pub in_numeral : ℕ → Bool
in_numeral b = is_digit b
