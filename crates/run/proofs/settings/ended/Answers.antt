-- `run::settings::ended` meets its contract: each way out is a law of `SettingsLaws`. Assumes nothing.
use Rattle.run.proofs.SettingsLaws.{ended-done, ended-wanted, ended-steps, ended-open}
use Rattle.run.proofs.settings.ended.Goals as goal

pub returns-then-height-eq0 : goal.returns-then-height-eq0
returns-then-height-eq0 c = let args = c.args in ended-done args.wanted args.answers args.left c.if-height-eq0.true

pub returns-then-wanted-answers : goal.returns-then-wanted-answers
returns-then-wanted-answers c = ended-wanted c.args.left c.if-height-eq0.false c.if-wanted-answers.true

pub returns-then-left-eq0 : goal.returns-then-left-eq0
returns-then-left-eq0 c = ended-steps c.if-height-eq0.false c.if-wanted-answers.false c.if-left-eq0.true

pub returns : goal.returns
returns c = ended-open c.if-height-eq0.false c.if-wanted-answers.false c.if-left-eq0.false
