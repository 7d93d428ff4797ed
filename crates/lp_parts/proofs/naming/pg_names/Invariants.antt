use Rattle.std.proofs.Common.{◌≡◌, ◌++◌, ◌∷◌, [], drop, take, None, false, true}
use Rattle.std.specs.Prelude.{map, fold}
use Rattle.std.specs.List.{list_any, list_all, flat_map, find}
use Rattle.lp_model.specs.Agreement.{name_texts}
use Rattle.lp_model.specs.GroupsView.{group_view}
use Rattle.lp_parts.specs.Names.{with_pg}
use Rattle.lp_parts.proofs.naming.pg_names.Given as goal

abbrev pub invariant-loop-group : goal.invariant-loop-group
invariant-loop-group l = fold (with_pg l.place) l.set (map (group_view l.names) (drop l.group-index l.groups)) ≡ fold (with_pg l.place) [] (map (group_view l.names) l.groups)
