-- The numbers of the refusals (RULES, "The ten numbers, and four more"; REQUESTS (ii): "refusals 9 and 10 carry it in their byte place"; (x): "the byte
-- being the first such name", "New numbers: 16"; (ix): "New numbers: 13, an unknown kind or band, a body cut short (byte: the first such record's start), or
-- a non-zero byte after filler begins (that byte); 14, more than 192 kind 1 records or 16,384 bytes; 15, a kind 1 record with `seen` of three arguments
-- undeclared (byte 0 for 14 and 15)").
use Rattle.std.specs.Prelude.{ℕ}
use Rattle.syntax.specs.declared.Five.{Five}
use Rattle.syntax.specs.declared.Refusal.{Refusal}
use Rattle.syntax.specs.declared.Refusal.TheVariants.{Settings, TooLong, NoToken, Overlong, Misplaced, OverLimit, Repeated, Undeclared, OpenInput}
use Rattle.syntax.specs.declared.Refusal.TheVariants.{OpenOutput, BadTrace, TraceOverLimit, SeenUndeclared, Unwritten}
use Rattle.syntax.specs.declared.Refusal.TheVariants.{OutputTooLong, WardSettings, BadWorkings, LineTooLong}

abbrev pub five : ℕ → ℕ → ℕ → ℕ → ℕ → Five
five n b c l a = record { number = n; byte = b; clause = c; literal = l; argument = a }

-- number, byte, clause, literal, argument; unused places are 0, literal 0 is the head
abbrev pub numbers_of : Refusal → Five
numbers_of Settings = five 1 0 0 0 0
numbers_of TooLong = five 2 0 0 0 0
numbers_of (NoToken byte) = five 3 byte 0 0 0
numbers_of (Overlong byte) = five 4 byte 0 0 0
numbers_of (Misplaced byte) = five 5 byte 0 0 0
numbers_of (OverLimit byte) = five 6 byte 0 0 0
numbers_of (Repeated byte) = five 7 byte 0 0 0
numbers_of (Undeclared clause literal at len) = five 8 0 clause literal 0
numbers_of (OpenInput byte clause literal argument at len) = five 9 byte clause literal argument
numbers_of (OpenOutput byte clause argument at len) = five 10 byte clause 0 argument
numbers_of (BadTrace byte) = five 13 byte 0 0 0
numbers_of TraceOverLimit = five 14 0 0 0 0
numbers_of SeenUndeclared = five 15 0 0 0 0
numbers_of (Unwritten byte) = five 16 byte 0 0 0
numbers_of OutputTooLong = five 11 0 0 0 0
numbers_of WardSettings = five 12 0 0 0 0
numbers_of (BadWorkings byte) = five 17 byte 0 0 0
numbers_of LineTooLong = five 18 0 0 0 0
