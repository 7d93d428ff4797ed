use Rattle.std.proofs.Common.{◌≡◌, drop}
use Rattle.std.specs.Prelude.{map}
use Rattle.std.specs.List.{list_any}
use Rattle.lp_model.specs.GroupsView.{group_view}
use Rattle.lp_cells.specs.Reasons.{has_no_direction}
use Rattle.lp_cells.proofs.faulty.any_without_direction.Given as goal

abbrev pub invariant-loop-group : goal.invariant-loop-group
invariant-loop-group l = list_any (has_no_direction l.place) (map (group_view l.names) (drop l.group-index l.groups)) ≡ list_any (has_no_direction l.place) (map (group_view l.names) l.groups)
