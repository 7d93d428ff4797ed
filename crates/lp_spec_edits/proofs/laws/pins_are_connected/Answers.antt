use Rattle.lp_spec_edits.proofs.Edited.{connected}
use Rattle.lp_spec_edits.proofs.laws.pins_are_connected.Goals as goal

pub returns : goal.returns
returns c = λ n h l q k can. connected n h l q k can.leaf can.pin can.node can.free can.source
