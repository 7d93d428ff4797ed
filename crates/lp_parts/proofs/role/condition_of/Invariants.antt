use Rattle.std.proofs.Common.{◌≡◌, drop}
use Rattle.std.specs.Prelude.{map}
use Rattle.std.specs.List.{find}
use Rattle.lp_model.specs.GroupsView.{group_view}
use Rattle.lp_parts.specs.Roles.{is_condition}
use Rattle.lp_parts.proofs.role.condition_of.Given as goal

abbrev pub invariant-loop-group : goal.invariant-loop-group
invariant-loop-group l = find (is_condition l.place) (map (group_view l.names) (drop l.group-index l.groups)) ≡ find (is_condition l.place) (map (group_view l.names) l.groups)
