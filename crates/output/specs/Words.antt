-- The words of a verdict (RULES, "Two programs and what they print"), as a list of bytes.
use Rattle.std.specs.Prelude.{ℕ, List, [], ◌++◌, Ok, Err}
use Rattle.words.specs.Buffers.{number}
use Rattle.syntax.specs.Quote.{bytes}
use Rattle.syntax.specs.Refusals.{numbers_of}
use Rattle.syntax.specs.declared.Five.{Five}
use Rattle.syntax.specs.declared.Text.{Text}
use Rattle.syntax.specs.declared.Text.TheVariants.{Sheet, Goal, Trace, Workings, Neither}
use Rattle.syntax.specs.Verdicts.{Verdict}

-- number, byte, clause, literal, argument
abbrev pub five_words : Five → List ℕ
five_words f = number f.number ++ number f.byte ++ number f.clause ++ number f.literal ++ number f.argument

-- the text at fault; none is named where it is neither
abbrev pub text_word : Text → List ℕ
text_word Sheet = bytes " sheet"
text_word Goal = bytes " goal"
text_word Trace = bytes " trace"
text_word Workings = bytes " workings"
text_word Neither = []

-- `accepted` and the counts, or `refused`, the text at fault and the five numbers
abbrev pub verdict_words : Verdict → List ℕ
verdict_words (Ok counts) = bytes "accepted" ++ number counts.declarations ++ number counts.clauses
verdict_words (Err fault) = bytes "refused" ++ text_word fault.text ++ five_words (numbers_of fault.refusal)
