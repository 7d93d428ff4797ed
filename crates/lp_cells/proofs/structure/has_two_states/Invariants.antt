use Rattle.std.proofs.Common.{◌≡◌, drop}
use Rattle.std.specs.Prelude.{map}
use Rattle.lp_model.specs.GroupsView.{group_view}
use Rattle.lp_parts.specs.Names.{is_state}
use Rattle.lp_cells.specs.Reasons.{has_two}
use Rattle.lp_cells.proofs.Second.{has_second}
use Rattle.lp_cells.proofs.structure.has_two_states.Given as goal

abbrev pub invariant-loop-group : goal.invariant-loop-group
invariant-loop-group l = has_second (is_state l.place) l.met (map (group_view l.names) (drop l.group-index l.groups)) ≡ has_two (is_state l.place) (map (group_view l.names) l.groups)
