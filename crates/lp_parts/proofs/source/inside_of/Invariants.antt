use Rattle.std.proofs.Common.{◌≡◌, ◌++◌, ◌∷◌, [], drop, take, None, false, true}
use Rattle.std.specs.Prelude.{map, fold}
use Rattle.std.specs.List.{list_any, list_all, flat_map, find}
use Rattle.lp_model.specs.Agreement.{name_texts}
use Rattle.lp_model.specs.GroupsView.{group_view}
use Rattle.lp_parts.specs.Source.{inside}
use Rattle.lp_parts.proofs.source.inside_of.Given as goal

abbrev pub invariant-loop-index : goal.invariant-loop-index
invariant-loop-index l = map (group_view l.names) (take l.index l.groups) ++ inside l.place (map (group_view l.names) (drop l.index l.groups)) ≡ inside l.place (map (group_view l.names) l.groups)
