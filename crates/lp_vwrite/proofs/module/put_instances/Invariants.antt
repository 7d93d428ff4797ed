use Rattle.std.proofs.Common.{◌≡◌, ◌++◌, drop, map}
use Rattle.std.specs.List.{flat_map}
use Rattle.lp_model.specs.NetlistView.{instance_view}
use Rattle.lp_vwrite.specs.Layout.{instance_line, range_in}
use Rattle.lp_vwrite.proofs.module.put_instances.Given as goal

abbrev pub invariant-loop-instance : goal.invariant-loop-instance
invariant-loop-instance l = l.out.items ++ flat_map (instance_line (range_in l.vectors)) (map (instance_view l.names) (drop l.instance-index l.instances)) ≡ l.fn.out.items ++ flat_map (instance_line (range_in l.vectors)) (map (instance_view l.names) l.instances)
