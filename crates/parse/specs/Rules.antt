-- What reading the body of a clause gives, whose head was read.
use Rattle.std.specs.Prelude.{ℕ, ◌+◌, ◌-◌, ◌≡◌, List, set, length, Result, Ok, Err}
use Rattle.syntax.specs.Reading.{read_body}
use Rattle.syntax.specs.declared.ParserState.{ParserState}
use Rattle.syntax.specs.declared.Refusal.{Refusal}
use Rattle.parse.specs.Gives.{cursor_of, state_onward, Gives, body_form}
use Rattle.parse.specs.declared.Parsed.{Parsed}

-- What is given and stored, by what the body's function gave: a fault of it is the whole's; else the clause's first words are stored last.
abbrev pub RuledBy : List ℕ → List ℕ → ℕ → Result Parsed Refusal → Result Parsed Refusal → Type 0
RuledBy mid exit n (Err q) r = (r ≡ Err q) × (exit ≡ mid)
RuledBy mid exit n (Ok body) r = (r ≡ Ok (record { used = body.used; items = 1; state = body.state }))
    × (exit ≡ set (set (set mid n (body.used - n)) (n + 1) body.state.count) (n + 2) body.items)

-- `body` is what the body's function gave, `mid` the table then.
pub record Ruled (s : List ℕ) (st : ParserState) (entry exit : List ℕ) (n used : ℕ) (r : Result Parsed Refusal) : Type 0 where
  pub mid : List ℕ
  pub body : Result Parsed Refusal
  pub long : length mid ≡ length entry
  pub given : Gives body_form s (state_onward s st) entry mid used body (read_body s (cursor_of s entry (state_onward s st)))
  pub by : RuledBy mid exit n body r
