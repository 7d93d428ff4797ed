use Rattle.std.proofs.Common.{◌≡◌, drop}
use Rattle.std.specs.Prelude.{map}
use Rattle.std.specs.List.{list_any}
use Rattle.lp_model.specs.GroupsView.{group_view}
use Rattle.lp_cells.specs.Reasons.{is_construct}
use Rattle.lp_cells.proofs.structure.any_construct.Given as goal

abbrev pub invariant-loop-group : goal.invariant-loop-group
invariant-loop-group l = list_any (is_construct l.place) (map (group_view l.names) (drop l.group-index l.groups)) ≡ list_any (is_construct l.place) (map (group_view l.names) l.groups)
