-- Where the name stands that a refusal hands back: "the part of the sheet or goal where it stands".
use Rattle.std.specs.Prelude.{ℕ, ◌+◌, ◌≤◌, List, length}
use Rattle.syntax.specs.declared.Refusal.{Refusal}
use Rattle.syntax.specs.declared.Text.{Text}
use Rattle.mode_rules.specs.Checking.{name_span, text_at_fault}

-- its bytes lie in the text at fault, of a sheet and a goal
abbrev pub NameInside : List ℕ → List ℕ → Text → Refusal → Type 0
NameInside sheet goal text refusal = (name_span refusal).0 + (name_span refusal).1 ≤ length (text_at_fault sheet goal text)
