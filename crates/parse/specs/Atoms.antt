-- What an atom alone stands for, as a literal's first word.
use Rattle.std.specs.Prelude.{ℕ, ◌+◌, ◌-◌, ◌≡◌, Bool, cond, ◌&&◌, eqb, set, List}
use Rattle.syntax.specs.Tokens.{spelling}
use Rattle.syntax.specs.Words.{node_words, truth_kind, falsity_kind, call_kind}
use Rattle.syntax.specs.declared.ParserState.{ParserState}
use Rattle.parse.specs.declared.Parsed.{Parsed}
use Rattle.syntax.specs.Terms.{same_name, true_name, fail_name}

-- the bare `true`, the bare `fail`, or a call
abbrev pub atom_number : Bool → List ℕ → ℕ
atom_number bare name = cond (bare && same_name name true_name) truth_kind (cond (bare && same_name name fail_name) falsity_kind call_kind)

-- The number of the atom at hand, of which r was read: stored at n, and the atom's own words are kept for a call alone.
abbrev pub alone_number : List ℕ → ParserState → Parsed → ℕ → ℕ
alone_number s st r n = atom_number (eqb (r.used - (n + 1)) node_words) (spelling s st.token.at st.token.len)

pub record Alone (s : List ℕ) (st : ParserState) (r : Parsed) (entry exit : List ℕ) (n : ℕ) (q : Parsed) : Type 0 where
  pub is : q ≡ record { used = cond (eqb (alone_number s st r n) call_kind) r.used (n + 1); items = 1; state = r.state }
  pub stored : exit ≡ set entry n (alone_number s st r n)
