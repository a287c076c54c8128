-- `lex::tokens::token_at` meets its contract: one law for each class of the first byte.
use Rattle.std.proofs.Common.{rules, ◌≡◌, ◌∙◌, ◌+◌, drop}
use Rattle.syntax.specs.Bytes.{in_word, in_numeral}
use Rattle.syntax.specs.Tokens.{no_token, token_of_class}
use Rattle.syntax.specs.declared.Class.TheVariants.{Lower, Upper, Digit}
use Rattle.lex.proofs.TokensLaws.{token-none, token-by, of-name, of-variable, of-numeral, of-single, of-none}
use mathlib.Core.Path.{refl}
use Rattle.lex.proofs.tokens.token_at.Goals as goal

pub returns-in_default : goal.returns-in_default
returns-in_default c = search (token-none, rules)

pub returns-in-Lower : goal.returns-in-Lower
returns-in-Lower c =
    let e : c.word_token.result ≡ token_of_class Lower c.skip-at.result (drop (c.skip-at.result + 1) c.args.s.now) =
    c.word_token.ensures in_word (λ b r fits h. search rules) ∙ of-name _ _ in
    search (token-by, rules)

pub returns-in-Upper : goal.returns-in-Upper
returns-in-Upper c =
    let e : c.word_token-in-Upper.result ≡ token_of_class Upper c.skip-at.result (drop (c.skip-at.result + 1) c.args.s.now) =
    c.word_token-in-Upper.ensures in_word (λ b r fits h. search rules) ∙ of-variable _ _ in
    search (token-by, rules)

pub returns-in-Digit : goal.returns-in-Digit
returns-in-Digit c =
    let e : c.word_token-in-Digit.result ≡ token_of_class Digit c.skip-at.result (drop (c.skip-at.result + 1) c.args.s.now) =
    c.word_token-in-Digit.ensures in_numeral (λ b r fits h. search rules) ∙ of-numeral _ _ in
    search (token-by, rules)

pub returns-in-Colon : goal.returns-in-Colon
returns-in-Colon c = search (token-by, rules)

pub returns-in-Single : goal.returns-in-Single
returns-in-Single c = search (token-by, of-single, rules)

pub returns-in-Nothing : goal.returns-in-Nothing
returns-in-Nothing c =
    let e : record { kind = no_token; at = c.skip-at.result; len = 1 } ≡ token_of_class c.class.result c.skip-at.result (drop (c.skip-at.result + 1) c.args.s.now) =
    of-none _ _ _ c.in-Nothing.is in
    search (token-by, refl, rules)
