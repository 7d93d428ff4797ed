use Rattle.lp_spec_edits.proofs.Joined.{wire_added, top_port_added}
use Rattle.lp_spec_edits.proofs.laws.wires_are_added.Goals as goal

pub returns-clause-wires : goal.returns-clause-wires
returns-clause-wires c = λ n h i kind can. wire_added n h i kind

pub returns-clause-ports : goal.returns-clause-ports
returns-clause-ports c = λ n h name can. top_port_added n h name
