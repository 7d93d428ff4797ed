use Rattle.std.proofs.Common.{◌≡◌, ◌++◌, drop, map}
use Rattle.std.specs.List.{flat_map}
use Rattle.lp_model.specs.NetlistView.{assign_view}
use Rattle.lp_vwrite.specs.Layout.{assign_line, range_in}
use Rattle.lp_vwrite.proofs.module.put_assigns.Given as goal

abbrev pub invariant-loop-assign : goal.invariant-loop-assign
invariant-loop-assign l = l.out.items ++ flat_map (assign_line (range_in l.vectors)) (map (assign_view l.names) (drop l.assign-index l.assigns)) ≡ l.fn.out.items ++ flat_map (assign_line (range_in l.vectors)) (map (assign_view l.names) l.assigns)
