use Rattle.std.proofs.Common.{◌≡◌, drop}
use Rattle.std.specs.Prelude.{flat_map}
use Rattle.lp_plain_loops.specs.Numbered.{note_all, all_shown, instance_entries}
use Rattle.lp_plain_loops.proofs.drivers.note_instances.Given as goal

abbrev pub invariant-loop-instance : goal.invariant-loop-instance
invariant-loop-instance l = note_all l.nets (all_shown l.nets l.found) (flat_map (instance_entries l.index l.nets) (drop l.instance-index l.instances)) ≡ note_all l.nets (all_shown l.nets l.initial.found) (flat_map (instance_entries l.index l.nets) l.instances)
