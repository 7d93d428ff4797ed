use Rattle.lp_model.specs.NetlistView.{netlist_view-grown}
use Rattle.lp_model.proofs.laws.grown_names_keep_netlists.Goals as goal

pub returns : goal.returns
returns c old new v grown below = netlist_view-grown old new v grown below
