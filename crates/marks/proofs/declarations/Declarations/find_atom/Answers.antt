-- `marks::declarations::Declarations::find_atom` meets its contract. Assumes nothing.
use Rattle.marks.proofs.Marking.{atom-name, atom-inside, atom-found}
use Rattle.marks.proofs.declarations.Declarations.find_atom.Goals as goal

pub name_at-name-requires : goal.name_at-name-requires
name_at-name-requires c = atom-name c.requires

pub name_bytes-requires : goal.name_bytes-requires
name_bytes-requires c = atom-inside c.args.read.text.now c.args.read.table.now c.args.p c.name_at-name.result c.name_at-name.ensures c.requires

pub returns : goal.returns
returns c = atom-found c.args.read.text.now c.args.read.table.now c.args.p c.name_at-name.result c.name_at-name.ensures c.args.self.text.now c.args.self.words.now c.args.self.count c.name_bytes.result.now c.name_bytes.ensures c.find.result c.find.ensures
