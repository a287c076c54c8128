-- `marks::arguments::call_fault` meets its contract. Assumes nothing.
use mathlib.Core.Path.{refl}
use Rattle.syntax.specs.Terms.{input}
use Rattle.marks.proofs.Judging.{judged-name, call-fine, call-faulty}
use Rattle.marks.proofs.arguments.call_fault.Goals as goal

pub open_argument-requires : goal.open_argument-requires
open_argument-requires c = record { judged_at = c.requires; mark_is = (input, refl) }

pub name_at-name-requires : goal.name_at-name-requires
name_at-name-requires c = judged-name c.requires

pub returns-in-None : goal.returns-in-None
returns-in-None c = call-fine c.args.known input c.open_argument.result (λ w. c.open_argument.ensures w input refl) c.in-None.is c.args.clause c.args.literal

pub returns-in-Some : goal.returns-in-Some
returns-in-Some c = call-faulty c.args.known input c.open_argument.result (λ w. c.open_argument.ensures w input refl) c.in-Some.found c.in-Some.is c.name_at-name.result c.name_at-name.ensures c.args.clause c.args.literal
