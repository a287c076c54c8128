-- The words of frames and alternatives, read and stored.
use Rattle.std.specs.Prelude.{ℕ, ◌+◌, true, false, List, eqb, set}
use Rattle.syntax.specs.Words.{call_kind}
use Rattle.run_layout.specs.Regions.{frame_of, alternative_of}
use Rattle.run_layout.specs.Program.{record_kind, other_at}
use Rattle.run_layout.specs.Pile.{caller_of, call_of, copy_at, literal_at, next_at, mark_at, path_at}
use Rattle.run.specs.declared.alternatives.records.Top.{Top}
use Rattle.run.specs.declared.alternatives.records.Spot.{Spot}

abbrev pub top_at : List ℕ → ℕ → Top
top_at state j = record { copy = copy_at state j; literal = literal_at state j; next = next_at state j; mark = mark_at state j; path = path_at state j }

abbrev pub caller_at : List ℕ → ℕ → Spot
caller_at state k = record { copy = caller_of state k; literal = call_of state k }

-- the words of alternative j; the last of them is free
unfoldable pub top_words : List ℕ → ℕ → ℕ → ℕ → ℕ → ℕ → ℕ → List ℕ
top_words state j copy literal next mark path =
    set (set (set (set (set state (alternative_of j) copy) (alternative_of j + 1) literal) (alternative_of j + 2) next) (alternative_of j + 3) mark)
    (alternative_of j + 4) path

-- the next clause of alternative j
unfoldable pub next_words : List ℕ → ℕ → ℕ → List ℕ
next_words state j next = set state (alternative_of j + 2) next

-- the words of copy k; the last of them is free
unfoldable pub frame_words : List ℕ → ℕ → ℕ → ℕ → ℕ → List ℕ
frame_words state k clause copy literal = set (set (set state (frame_of k) clause) (frame_of k + 1) copy) (frame_of k + 2) literal

-- the topmost clause for the literal at l; 0 where it is no call
unfoldable pub topmost_at : List ℕ → ℕ → ℕ
topmost_at code l = elim (eqb (record_kind code l) call_kind) [ true ↦ other_at code l | false ↦ 0 ]
