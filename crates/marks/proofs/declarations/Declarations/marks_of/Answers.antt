-- `marks::declarations::Declarations::marks_of` meets its contract. Assumes nothing.
use native.Mathlib.Omega.{arith}
use Rattle.marks.proofs.Marking.{marks-inside, marks-word, marks-none}
use Rattle.marks.proofs.declarations.Declarations.marks_of.Goals as goal

pub overflow_mul-i : goal.overflow_mul-i
overflow_mul-i c = omega (arith, marks-inside c.args.self.text.now c.args.self.words.now c.args.self.count c.args.read.text.now c.args.read.table.now c.args.p c.find_atom.result c.find_atom.ensures c.in-Some.is c.args.self.stands c.requires)

pub overflow_add-i : goal.overflow_add-i
overflow_add-i c = omega (arith, marks-inside c.args.self.text.now c.args.self.words.now c.args.self.count c.args.read.text.now c.args.read.table.now c.args.p c.find_atom.result c.find_atom.ensures c.in-Some.is c.args.self.stands c.requires)

pub word_at-requires : goal.word_at-requires
word_at-requires c = marks-inside c.args.self.text.now c.args.self.words.now c.args.self.count c.args.read.text.now c.args.read.table.now c.args.p c.find_atom.result c.find_atom.ensures c.in-Some.is c.args.self.stands c.requires

pub returns-in-Some : goal.returns-in-Some
returns-in-Some c = marks-word c.args.self.text.now c.args.self.words.now c.args.self.count c.args.read.text.now c.args.read.table.now c.args.p c.find_atom.result c.find_atom.ensures c.in-Some.is c.word_at.result c.word_at.ensures

pub returns-in-None : goal.returns-in-None
returns-in-None c = marks-none c.args.self.text.now c.args.self.words.now c.args.self.count c.args.read.text.now c.args.read.table.now c.args.p c.find_atom.result c.find_atom.ensures c.in-None.is
