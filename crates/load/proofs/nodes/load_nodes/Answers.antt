-- `load::nodes::load_nodes` meets its contract. Assumes nothing.
use native.Mathlib.Omega.{arith}
use Rattle.load.proofs.NodesWhole.{goal-here, clauses-here, middle-near, stop-few, copied, loaded}
use Rattle.load.proofs.nodes.load_nodes.Goals as goal

pub copy_body-middle-requires : goal.copy_body-middle-requires
copy_body-middle-requires c = record { room = (omega (arith, c.requires.tables.goals_short), (c.requires.nodes_room, omega arith)); body_here = goal-here c.args.sheet.text.now c.args.sheet.table.now c.args.sheet.clauses c.args.goal.text.now c.args.goal.table.now c.args.goal.literals c.args.nodes.now c.args.symbols.now c.requires }

pub copy_clauses-stop-requires : goal.copy_clauses-stop-requires
copy_clauses-stop-requires c = record { table_len_bound = (c.requires.tables.table_short, (omega (arith, c.requires.nodes_room, c.copy_body-middle.auto.nodes), middle-near c.args.sheet.text.now c.args.sheet.table.now c.args.sheet.clauses c.args.goal.text.now c.args.goal.table.now c.args.goal.literals c.args.nodes.now c.args.symbols.now c.requires c.copy_body-middle.result (c.copy_body-middle.ensures (goal-here c.args.sheet.text.now c.args.sheet.table.now c.args.sheet.clauses c.args.goal.text.now c.args.goal.table.now c.args.goal.literals c.args.nodes.now c.args.symbols.now c.requires)).1)); clauses_here = clauses-here c.args.sheet.text.now c.args.sheet.table.now c.args.sheet.clauses c.args.goal.text.now c.args.goal.table.now c.args.goal.literals c.args.nodes.now c.args.symbols.now c.requires }

pub number_nodes-requires : goal.number_nodes-requires
number_nodes-requires c = record { nodes_words_in_bounds = (c.requires.symbols_room, stop-few c.args.sheet.text.now c.args.sheet.table.now c.args.sheet.clauses c.args.goal.text.now c.args.goal.table.now c.args.goal.literals c.args.nodes.now c.args.symbols.now c.requires c.copy_body-middle.new.nodes c.copy_clauses-stop.new.nodes c.copy_body-middle.result c.copy_clauses-stop.result (c.copy_body-middle.ensures (goal-here c.args.sheet.text.now c.args.sheet.table.now c.args.sheet.clauses c.args.goal.text.now c.args.goal.table.now c.args.goal.literals c.args.nodes.now c.args.symbols.now c.requires)) (c.copy_clauses-stop.ensures (clauses-here c.args.sheet.text.now c.args.sheet.table.now c.args.sheet.clauses c.args.goal.text.now c.args.goal.table.now c.args.goal.literals c.args.nodes.now c.args.symbols.now c.requires))); copied = copied c.args.sheet.text.now c.args.sheet.table.now c.args.sheet.clauses c.args.goal.text.now c.args.goal.table.now c.args.goal.literals c.args.nodes.now c.args.symbols.now c.requires c.copy_body-middle.new.nodes c.copy_clauses-stop.new.nodes c.copy_body-middle.result c.copy_clauses-stop.result (c.copy_body-middle.ensures (goal-here c.args.sheet.text.now c.args.sheet.table.now c.args.sheet.clauses c.args.goal.text.now c.args.goal.table.now c.args.goal.literals c.args.nodes.now c.args.symbols.now c.requires)) (c.copy_clauses-stop.ensures (clauses-here c.args.sheet.text.now c.args.sheet.table.now c.args.sheet.clauses c.args.goal.text.now c.args.goal.table.now c.args.goal.literals c.args.nodes.now c.args.symbols.now c.requires)) }

pub returns : goal.returns
returns c = λ w. loaded c.args.sheet.text.now c.args.sheet.table.now c.args.sheet.clauses c.args.goal.text.now c.args.goal.table.now c.args.goal.literals c.args.nodes.now c.args.symbols.now (w) c.copy_body-middle.new.nodes c.copy_clauses-stop.new.nodes c.copy_body-middle.result c.copy_clauses-stop.result (c.copy_body-middle.ensures (goal-here c.args.sheet.text.now c.args.sheet.table.now c.args.sheet.clauses c.args.goal.text.now c.args.goal.table.now c.args.goal.literals c.args.nodes.now c.args.symbols.now (w))) (c.copy_clauses-stop.ensures (clauses-here c.args.sheet.text.now c.args.sheet.table.now c.args.sheet.clauses c.args.goal.text.now c.args.goal.table.now c.args.goal.literals c.args.nodes.now c.args.symbols.now (w))) c.number_nodes.new.nodes c.number_nodes.new.symbols c.number_nodes.result (c.number_nodes.ensures (copied c.args.sheet.text.now c.args.sheet.table.now c.args.sheet.clauses c.args.goal.text.now c.args.goal.table.now c.args.goal.literals c.args.nodes.now c.args.symbols.now (w) c.copy_body-middle.new.nodes c.copy_clauses-stop.new.nodes c.copy_body-middle.result c.copy_clauses-stop.result (c.copy_body-middle.ensures (goal-here c.args.sheet.text.now c.args.sheet.table.now c.args.sheet.clauses c.args.goal.text.now c.args.goal.table.now c.args.goal.literals c.args.nodes.now c.args.symbols.now (w))) (c.copy_clauses-stop.ensures (clauses-here c.args.sheet.text.now c.args.sheet.table.now c.args.sheet.clauses c.args.goal.text.now c.args.goal.table.now c.args.goal.literals c.args.nodes.now c.args.symbols.now (w)))))
