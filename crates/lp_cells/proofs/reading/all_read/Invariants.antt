use Rattle.std.proofs.Common.{◌≡◌, drop}
use Rattle.std.specs.Prelude.{map}
use Rattle.std.specs.List.{list_all}
use Rattle.lp_model.specs.GroupsView.{group_view}
use Rattle.lp_cells.specs.Reasons.{reads_all}
use Rattle.lp_parts.specs.Views.{frame_view}
use Rattle.lp_cells.proofs.reading.all_read.Given as goal

abbrev pub invariant-loop-group : goal.invariant-loop-group
invariant-loop-group l = list_all (reads_all l.place (frame_view l.names l.frame)) (map (group_view l.names) (drop l.group-index l.groups)) ≡ list_all (reads_all l.place (frame_view l.names l.frame)) (map (group_view l.names) l.groups)
