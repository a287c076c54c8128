-- What writing a sheet afresh gives (REQUESTS (iv)).
use Rattle.std.specs.Prelude.{ℕ, true, false, ◌&&◌, List, Ok, leb, length, Result}
use Rattle.std.proofs.lemmas.List.Edits.{sets}
use Rattle.syntax.specs.Limits.{sheet_bytes}
use Rattle.syntax.specs.Terms.{Sheet}
use Rattle.syntax.specs.Verdicts.{Outcome, refused, accepted, Refused}
use Rattle.syntax.specs.declared.Text.TheVariants.{Sheet as in_sheet}
use Rattle.syntax.specs.declared.Fault.{Fault}
use Rattle.syntax.specs.declared.Refusal.TheVariants.{OutputTooLong}
use Rattle.mode_rules.specs.Checking.{checked_sheet}
use Rattle.format_rules.specs.Writing.{formatted}

-- "11, the output exceeds 16,384 bytes or the lent buffer, after 10; nothing is written."
unfoldable pub fitting : ℕ → List ℕ → Outcome (List ℕ)
fitting room w = elim (leb (length w) sheet_bytes && leb (length w) room) [ true ↦ accepted w | false ↦ refused OutputTooLong ]

unfoldable pub formatting_from : ℕ → Outcome Sheet → Outcome (List ℕ)
formatting_from room (refused r) = refused r
formatting_from room (accepted sh) = fitting room (formatted sh)

-- "Write any accepted sheet afresh": what is written into a buffer of so many bytes, or the refusal
unfoldable pub formatting : ℕ → List ℕ → Outcome (List ℕ)
formatting room s = formatting_from room (checked_sheet s)

-- "the length written is given back"; a refusal is of the sheet
abbrev pub format_answer : Outcome (List ℕ) → Result ℕ Fault
format_answer (refused r) = Refused in_sheet r
format_answer (accepted w) = Ok (length w)

-- "Bytes beyond a writing, here and in (xi), keep what they held."
abbrev pub format_buffer : Outcome (List ℕ) → List ℕ → List ℕ
format_buffer (refused r) out = out
format_buffer (accepted w) out = sets out 0 w
