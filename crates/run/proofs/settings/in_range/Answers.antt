-- `run::settings::in_range` meets its contract: each way out is a law of `SettingsLaws`. Assumes nothing.
use Rattle.run.proofs.SettingsLaws.{range-steps, range-answers}
use Rattle.run.proofs.settings.in_range.Goals as goal

pub returns-then-is_within : goal.returns-then-is_within
returns-then-is_within c = range-answers c.args.allowance c.args.wanted c.is_within.ensures c.if-is_within.true c.is_within-then-is_within.ensures

pub returns-else-is_within : goal.returns-else-is_within
returns-else-is_within c = range-steps c.args.allowance c.args.wanted c.is_within.ensures c.if-is_within.false
