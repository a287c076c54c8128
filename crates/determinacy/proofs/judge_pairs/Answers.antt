-- `determinacy::judge_pairs` meets its contract. Assumes nothing.
use Rattle.determinacy.proofs.JudgeLaws.{room, loads, links, linked, ready-judged}
use Rattle.determinacy.proofs.judge_pairs.Goals as goal

pub load_nodes-requires : goal.load_nodes-requires
load_nodes-requires c = loads (room c.cleared-nodes.ensures c.cleared-symbols.ensures c.cleared-code.ensures) c.requires

pub link-requires : goal.link-requires
link-requires c = links (room c.cleared-nodes.ensures c.cleared-symbols.ensures c.cleared-code.ensures) c.load_nodes.auto.nodes c.load_nodes.ensures c.requires

pub judge_linked-requires : goal.judge_linked-requires
judge_linked-requires c = linked (room c.cleared-nodes.ensures c.cleared-symbols.ensures c.cleared-code.ensures) c.load_nodes.auto.nodes c.load_nodes.ensures c.link.ensures c.requires

pub returns : goal.returns
returns c = λ w. ready-judged (room c.cleared-nodes.ensures c.cleared-symbols.ensures c.cleared-code.ensures) c.load_nodes.auto.nodes c.load_nodes.ensures c.link.ensures c.judge_linked.ensures w
