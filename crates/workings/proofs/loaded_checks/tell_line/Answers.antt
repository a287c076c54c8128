use Rattle.workings.proofs.CheckLaws.{line-told, line-refused}
use Rattle.workings.proofs.loaded_checks.tell_line.Goals as goal

pub returns-in-Some : goal.returns-in-Some
returns-in-Some c = record { told = λ ss n g a e. line-told _ _ _ _ (c.tell.ensures.fitted ss n g a e) c.in-Some.bytes c.in-Some.is; clean = c.tell.ensures.clean }

pub returns-in-None : goal.returns-in-None
returns-in-None c = record { told = λ ss n g a e. line-refused _ _ _ _ (c.tell.ensures.fitted ss n g a e) c.in-None.is; clean = c.tell.ensures.clean }
