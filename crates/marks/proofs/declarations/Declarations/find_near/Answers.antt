-- `marks::declarations::Declarations::find_near` meets its contract: each way out is a law of `SheetsLaws`. Assumes nothing.
use Rattle.marks.proofs.Marking.{atom-name, atom-inside, atom-found}
use Rattle.marks.proofs.Once.{search-finds}
use Rattle.marks.proofs.SheetsLaws.{near-found}
use Rattle.marks.proofs.declarations.Declarations.find_near.Goals as goal

pub name_at-name-requires : goal.name_at-name-requires
name_at-name-requires c = atom-name c.requires

pub name_bytes-bytes-requires : goal.name_bytes-bytes-requires
name_bytes-bytes-requires c = let read = c.args.read in atom-inside read.text.now read.table.now c.args.p c.name_at-name.result c.name_at-name.ensures c.requires

pub returns-then-declares : goal.returns-then-declares
returns-then-declares c = let read = c.args.read in let self = c.args.self in
    near-found read.text.now read.table.now c.args.p c.name_at-name.result c.name_at-name.ensures self.text.now
    self.words.now self.count c.args.near c.name_bytes-bytes.result.now c.name_bytes-bytes.ensures (c.declares.ensures.declared c.if-declares.true)

pub returns : goal.returns
returns c = let read = c.args.read in let self = c.args.self in
    λ d w once. search-finds d.list once w.atom c.find.result
    (atom-found read.text.now read.table.now c.args.p c.name_at-name.result c.name_at-name.ensures
    self.text.now self.words.now self.count c.name_bytes-bytes.result.now c.name_bytes-bytes.ensures c.find.result c.find.ensures d w)
