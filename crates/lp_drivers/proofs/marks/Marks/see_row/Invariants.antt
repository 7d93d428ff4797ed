use Rattle.std.proofs.Common.{◌≡◌, take}
use Rattle.lp_spec_design.specs.Graph.{pairs, some_of}
use Rattle.lp_spec_drivers.specs.Drivers.{pin_place}
use Rattle.lp_drivers.specs.Seen.{see_all}
use Rattle.lp_drivers.proofs.marks.Marks.see_row.Given as goal

abbrev pub invariant-loop-pin : goal.invariant-loop-pin
invariant-loop-pin l = l.self ≡ see_all l.initial.self (some_of pin_place (pairs l.drives (take l.pin l.row)))
