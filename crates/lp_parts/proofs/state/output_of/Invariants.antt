use Rattle.std.proofs.Common.{◌≡◌, drop}
use Rattle.std.specs.Prelude.{map}
use Rattle.std.specs.List.{find}
use Rattle.lp_model.specs.GroupsView.{group_view}
use Rattle.lp_parts.specs.States.{is_output_pin}
use Rattle.lp_parts.proofs.state.output_of.Given as goal

abbrev pub invariant-loop-group : goal.invariant-loop-group
invariant-loop-group l = find (is_output_pin l.place) (map (group_view l.names) (drop l.group-index l.groups)) ≡ find (is_output_pin l.place) (map (group_view l.names) l.groups)
