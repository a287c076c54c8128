-- Computed cases: the tokens of a clause after a comment, one after another, and the end that stays.
use mathlib.Core.Path.{◌≡◌, refl}
use mathlib.Core.List.{List, [], ◌∷◌, map}
use Rattle.syntax.specs.Quote.{bytes}
use Rattle.syntax.specs.Bytes.{class_of, in_word}
use Rattle.syntax.specs.Tokens.{skipped, run_length, word, dash_first, name_kind, variable_kind, neck_kind, open_kind, close_kind, stop_kind, end_kind, token_of_class, token_from, token_place, token_at}
use Rattle.syntax.specs.declared.Token.{Token}
use Rattle.lex.specs.Nth.{past_token, past_tokens, nth_token}

found : List Token
found = map (nth_token (bytes "% a\np :- q(X). ")) (0 ∷ 1 ∷ 2 ∷ 3 ∷ 4 ∷ 5 ∷ 6 ∷ 7 ∷ 8 ∷ [])

expected : List Token
expected =
    record { kind = name_kind; at = 4; len = 1 }
    ∷ record { kind = neck_kind; at = 6; len = 2 }
    ∷ record { kind = name_kind; at = 9; len = 1 }
    ∷ record { kind = open_kind; at = 10; len = 1 }
    ∷ record { kind = variable_kind; at = 11; len = 1 }
    ∷ record { kind = close_kind; at = 12; len = 1 }
    ∷ record { kind = stop_kind; at = 13; len = 1 }
    ∷ record { kind = end_kind; at = 15; len = 0 }
    ∷ record { kind = end_kind; at = 15; len = 0 }
    ∷ []

cases : found ≡ expected
unfolding found expected nth_token past_tokens past_token token_at token_place token_from token_of_class dash_first word run_length skipped class_of in_word
cases = refl
