use Rattle.std.proofs.Common.{◌≡◌, drop}
use Rattle.std.specs.Prelude.{flat_map}
use Rattle.lp_plain_loops.specs.Numbered.{note_all, all_shown, port_entries}
use Rattle.lp_plain_loops.proofs.drivers.note_inputs.Given as goal

abbrev pub invariant-loop-port : goal.invariant-loop-port
invariant-loop-port l = note_all l.nets (all_shown l.nets l.found) (flat_map port_entries (drop l.port-index l.ports)) ≡ note_all l.nets (all_shown l.nets l.initial.found) (flat_map port_entries l.ports)
