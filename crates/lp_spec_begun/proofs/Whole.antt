-- Everything begins in the written netlist where it has to.
use Rattle.lp_spec_hub.specs.Drives.{comes_from}
use Rattle.lp_spec_wires.specs.Laws.{WiresStand, WiresAreClosed}
use Rattle.lp_spec_written.specs.Written.{additions}
use Rattle.lp_spec_begun.specs.Laws.{ContentHasWires, BitsBegin, WiresBegin, ControlsBegin, SuppliesBegin, BeginsAsIntended}

pub begins-as-intended : WiresBegin → ControlsBegin → SuppliesBegin → BitsBegin → BeginsAsIntended
begins-as-intended wires controls supplies bits p l w h pins nets origins = record {
  wires = wires p l w h pins;
  controls = controls p l w h pins nets;
  supplies = supplies p l w h pins origins;
  bits = bits p l w h;
}

pub content-has-wires : WiresStand → WiresAreClosed → ContentHasWires
content-has-wires stand closed p l w content order proper places fuel = record {
  content = content;
  order = order;
  proper = proper;
  stand = stand p (additions p l) w (comes_from p) content proper places;
  closed = closed p (additions p l) (comes_from p) proper places;
  fuel = fuel;
}
