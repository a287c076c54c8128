-- REQUESTS (xiii), "More steps, same beginning": "Show for one accepted sheet, goal, trace, wanted count and buffer size, allowances in range: the text
-- at a smaller allowance is the beginning of the text at a larger one, and a run that ended otherwise than by `steps` gives an equal report and text at
-- every larger allowance." What its theorems say.
use Rattle.std.specs.Prelude.{ℕ, ◌≡◌, List, ◌++◌, Ok, Err}
use Rattle.syntax.specs.declared.Text.{Text}
use Rattle.syntax.specs.declared.Refusal.{Refusal}
use Rattle.syntax.specs.Verdicts.{Run}
use Rattle.machine.specs.Runs.{Steps, Ended, RunOutcome, stopped, ran, run_answer, run_text}

-- a text is the beginning of another
pub record IsPrefix (text longer : List ℕ) : Type 0 where
  pub rest : List ℕ
  pub whole : longer ≡ text ++ rest

-- of where a run ended with a smaller allowance, and where with a larger one
pub record MoreSteps (fewer more : Ended) : Type 0 where
  pub beginning : IsPrefix fewer.at.text more.at.text
  pub equal : (fewer.kind ≡ Steps → ⊥) → more ≡ fewer

-- a run over texts was refused, or ended otherwise than by `steps`
unfoldable pub NotBySteps : RunOutcome → Type 0
NotBySteps (stopped text refusal) = Unit {0}
NotBySteps (ran report text) = report.kind ≡ Steps → ⊥

-- Of what a run over texts comes to, report and text: a refusal is the same with every allowance in range.
pub record MoreStepsOver (fewer more : RunOutcome) : Type 0 where
  pub beginning : IsPrefix (run_text fewer) (run_text more)
  pub equal : NotBySteps fewer → more ≡ fewer
  pub refusals : (text : Text) (refusal : Refusal) → more ≡ stopped text refusal → fewer ≡ stopped text refusal

-- what a run gives back is a refusal, or the report of an end otherwise than by `steps`
unfoldable pub NotReportedSteps : Run → Type 0
NotReportedSteps (Ok report) = report.kind ≡ Steps → ⊥
NotReportedSteps (Err fault) = Unit {0}

-- of what a run gives back and of the text that it writes
pub record MoreStepsAnswered (fewer : Run) (text : List ℕ) (more : Run) (longer : List ℕ) : Type 0 where
  pub beginning : IsPrefix text longer
  pub equal : NotReportedSteps fewer → (more ≡ fewer) × (longer ≡ text)

-- that, of a run whose function promises `run_answer` and `run_text` of what it comes to
abbrev pub MoreStepsPublic : RunOutcome → RunOutcome → Type 0
MoreStepsPublic fewer more = MoreStepsAnswered (run_answer fewer) (run_text fewer) (run_answer more) (run_text more)
