use Rattle.std.proofs.Common.{◌≡◌, ◌++◌, ◌∷◌, [], drop, take, None, false, true}
use Rattle.std.specs.Prelude.{map, fold}
use Rattle.std.specs.List.{list_any, list_all, flat_map, find}
use Rattle.lp_model.specs.Agreement.{name_texts}
use Rattle.lp_model.specs.GroupsView.{group_view}
use Rattle.lp_parts.specs.Names.{with_variables}
use Rattle.lp_parts.proofs.naming.add_states.Given as goal

abbrev pub invariant-loop-group : goal.invariant-loop-group
invariant-loop-group l = fold (with_variables l.place) l.set (map (group_view l.names) (drop l.group-index l.groups)) ≡ fold (with_variables l.place) l.fn.set (map (group_view l.names) l.groups)
