use Rattle.std.proofs.Common.{◌≡◌, drop}
use Rattle.std.specs.Prelude.{flat_map}
use Rattle.lp_plain_loops.specs.Numbered.{named, note_all, all_shown, pin_entries}
use Rattle.lp_plain_loops.proofs.drivers.note_pins.Given as goal

abbrev pub invariant-loop-pin : goal.invariant-loop-pin
invariant-loop-pin l = note_all l.nets (all_shown l.nets l.found) (flat_map (pin_entries l.nets l.cell.pins (named l.instance.connections)) (drop l.pin-index l.cell.pins)) ≡ note_all l.nets (all_shown l.nets l.initial.found) (flat_map (pin_entries l.nets l.cell.pins (named l.instance.connections)) l.cell.pins)
