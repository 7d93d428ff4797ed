use Rattle.lp_model.specs.GroupsView.{groups_view-grown}
use Rattle.lp_model.proofs.laws.grown_names_keep_groups.Goals as goal

pub returns : goal.returns
returns c old new v grown below = groups_view-grown old new v grown below
