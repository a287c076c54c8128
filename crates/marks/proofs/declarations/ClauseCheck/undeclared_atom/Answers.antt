-- `marks::declarations::ClauseCheck::undeclared_atom` meets its contract. Assumes nothing.
use Prim.Native.Nat.{ℕ}
use mathlib.Core.Path.{◌≡◌, sym, ◌∙◌}
use Rattle.std.specs.Prelude.{Option}
use Rattle.syntax.specs.Terms.{arity}
use Rattle.marks.specs.Answers.{position}
use Rattle.marks.specs.Tables.{DeclarationsAt, AtomAt}
use Rattle.marks.proofs.Marking.{atom-name, atom-inside, atom-found, atom-known, near-fine, declared-fine, not_found, place-none, undeclared-is}
use Rattle.marks.proofs.declarations.ClauseCheck.undeclared_atom.Goals as goal

pub name_at-name-requires : goal.name_at-name-requires
name_at-name-requires c = atom-name c.requires

pub name_bytes-bytes-requires : goal.name_bytes-bytes-requires
name_bytes-bytes-requires c = let read = c.args.self.read in atom-inside read.text.now read.table.now c.args.p c.name_at-name.result c.name_at-name.ensures c.requires

pub returns-then-declares : goal.returns-then-declares
returns-then-declares c = let read = c.args.self.read in let declarations = c.args.self.declarations in
    λ d w. near-fine declarations.text.now declarations.words.now declarations.count read.text.now read.table.now c.args.p c.args.self.clause c.args.literal d w
    (atom-known read.text.now read.table.now c.args.p c.name_at-name.result c.name_at-name.ensures declarations.text.now declarations.words.now declarations.count
    c.name_bytes-bytes.result.now c.name_bytes-bytes.ensures (c.declares.ensures.found c.if-declares.true) d w)

pub returns-then-is_some : goal.returns-then-is_some
returns-then-is_some c = let read = c.args.self.read in let declarations = c.args.self.declarations in
    declared-fine declarations.text.now declarations.words.now declarations.count read.text.now read.table.now c.args.p c.find.result
    (atom-found read.text.now read.table.now c.args.p c.name_at-name.result c.name_at-name.ensures declarations.text.now declarations.words.now declarations.count
    c.name_bytes-bytes.result.now c.name_bytes-bytes.ensures c.find.result c.find.ensures)
    (sym c.is_some.ensures ∙ c.if-is_some.true) c.args.self.clause c.args.literal

pub returns : goal.returns
returns c = let read = c.args.self.read in let declarations = c.args.self.declarations in
    λ d w. undeclared-is read.text.now read.table.now c.args.p c.name_at-name.result c.name_at-name.ensures d.list c.args.self.clause c.args.literal w
    (not_found declarations.text.now declarations.words.now declarations.count read.text.now read.table.now c.args.p c.find.result
    (atom-found read.text.now read.table.now c.args.p c.name_at-name.result c.name_at-name.ensures declarations.text.now declarations.words.now declarations.count
    c.name_bytes-bytes.result.now c.name_bytes-bytes.ensures c.find.result c.find.ensures)
    (place-none c.find.result (sym c.is_some.ensures ∙ c.if-is_some.false)) d w)
