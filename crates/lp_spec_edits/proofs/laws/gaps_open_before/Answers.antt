use Rattle.lp_spec_edits.proofs.Splits.{split_from_edited, constant_led}
use Rattle.lp_spec_edits.proofs.laws.gaps_open_before.Goals as goal

pub returns-clause-nodes : goal.returns-clause-nodes
returns-clause-nodes c = λ n h e j inside can. split_from_edited n h e j inside can.row can.edge

pub returns-clause-constants : goal.returns-clause-constants
returns-clause-constants c = λ n h e b can. constant_led n h e b can.row can.edge
