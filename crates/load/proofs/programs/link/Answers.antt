-- `load::programs::link` meets its contract. Assumes nothing.
use Rattle.load.proofs.ProgramsWhole.{meant, goal-at, marks-below, heads-ready, pair-ready, goal-ready, clauses-ready, program}
use Rattle.load.proofs.programs.link.Goals as goal

pub past_body-stop-requires : goal.past_body-stop-requires
past_body-stop-requires c = (c.requires.g.body, goal-at c.args.nodes c.requires)

pub nodes_of-node-requires : goal.nodes_of-node-requires
nodes_of-node-requires c = marks-below c.args.nodes c.requires c.past_body-stop.ensures

pub put_heads-requires : goal.put_heads-requires
put_heads-requires c = (c.requires.ss, (c.requires.sh.clauses, heads-ready c.args.nodes c.requires c.past_body-stop.ensures c.nodes_of-node.ensures))

pub put_pair-requires : goal.put_pair-requires
put_pair-requires c = pair-ready c.args.nodes c.requires c.past_body-stop.ensures c.nodes_of-node.ensures c.put_heads.ensures

pub put_body-requires : goal.put_body-requires
put_body-requires c = (meant c.args.nodes c.requires, (c.requires.g.body, goal-ready c.args.nodes c.requires c.past_body-stop.ensures c.nodes_of-node.ensures c.put_heads.ensures c.put_pair.ensures))

pub put_clauses-requires : goal.put_clauses-requires
put_clauses-requires c = (meant c.args.nodes c.requires, (c.requires.sh.clauses, clauses-ready c.args.nodes c.requires c.past_body-stop.ensures c.nodes_of-node.ensures c.put_heads.ensures c.put_pair.ensures c.put_body.ensures))

pub returns : goal.returns
returns c = λ w. program c.args.nodes w c.past_body-stop.ensures c.nodes_of-node.ensures c.put_heads.ensures c.put_pair.ensures c.put_body.ensures c.put_clauses.ensures
