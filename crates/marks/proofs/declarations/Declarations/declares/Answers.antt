-- `marks::declarations::Declarations::declares` meets its contract: each way out is a law of `SheetsLaws` and of `Marking`. Assumes nothing.
use native.Mathlib.Omega.{arith}
use Rattle.marks.proofs.Marking.{far, near-known}
use Rattle.marks.proofs.RepeatsLaws.{place_in}
use Rattle.marks.proofs.SheetsLaws.{declares-it}
use Rattle.marks.proofs.declarations.Declarations.declares.Goals as goal

pub returns-then-self-i : goal.returns-then-self-i
returns-then-self-i c = record { declared = λ e d. far e; found = λ e d. far e }

pub overflow_mul-q : goal.overflow_mul-q
overflow_mul-q c = omega (arith, place_in c.args.self.text.now c.args.self.words.now c.args.self.count c.args.self.stands c.args.i c.if-self-i.false, c.well_formed.1.0)

pub is_match-requires : goal.is_match-requires
is_match-requires c = omega (arith, place_in c.args.self.text.now c.args.self.words.now c.args.self.count c.args.self.stands c.args.i c.if-self-i.false)

pub returns : goal.returns
returns c = let args = c.args in record {
  declared = declares-it args.self.text.now args.self.words.now args.self.count args.i c.if-self-i.false args.name.now args.arguments c.is_match.result c.is_match.ensures;
  found = near-known args.self.text.now args.self.words.now args.self.count args.i c.if-self-i.false _ (omega arith) args.name.now args.arguments c.is_match.result c.is_match.ensures;
}
