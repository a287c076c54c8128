-- The theorems about the verdict, of the verdict that is returned.
use Rattle.std.proofs.Common.{◌≡◌, ◌∙◌, sym, subst, length}
use mathlib.Core.Bool.{false}
use mathlib.Core.List.{[]}
use mathlib.Core.Logic.{◌↔◌}
use Rattle.syntax.specs.Verdicts.{Verdict, Accepted}
use Rattle.mode_rules.specs.Written.{WrittenOrStored}
use Rattle.mode_rules.specs.Judgment.{WellModed}
use Rattle.mode_theorems.proofs.Agreement.{verdict-agrees}
use Rattle.claims.proofs.Names.{check-name}
use Rattle.pilvaust.proofs.check.Goals as goal

pub returns : goal.returns
returns c =
    let s = c.args.sheet.now in
    let is = c.read_checked.ensures.is in
    record {
      is = is;
      agrees =
          λ sh e. subst (λ (v : Verdict). (v ≡ Accepted (length sh.declarations) (length sh.clauses)) ↔ (WellModed sh × WrittenOrStored false sh)) (sym is)
          (verdict-agrees false s sh e);
      name = λ text refusal e. check-name s [] text refusal (sym is ∙ e);
    }
