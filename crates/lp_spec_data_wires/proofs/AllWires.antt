-- Each wire stands in the written netlist.
use Rattle.std.proofs.Common.{refl}
use Rattle.lp_spec_hub.specs.Spots.{OfNode, Behind, Before, Lead, Carried, Routed}
use Rattle.lp_spec_wires.specs.Laws.{WiresStand}
use Rattle.lp_spec_added_wires.proofs.SupplyWires.{supply-wires-stand}
use Rattle.lp_spec_added_wires.proofs.ControlWires.{control-wires-stand}
use Rattle.lp_spec_data_wires.proofs.Wires.{data-wires-stand}

pub wires-stand : WiresStand
wires-stand p a w from written proper places (OfNode k) h = data-wires-stand p a w from written proper (OfNode k) refl h
wires-stand p a w from written proper places (Behind v k) h = data-wires-stand p a w from written proper (Behind v k) refl h
wires-stand p a w from written proper places (Before v k) h = data-wires-stand p a w from written proper (Before v k) refl h
wires-stand p a w from written proper places (Lead v) h = data-wires-stand p a w from written proper (Lead v) refl h
wires-stand p a w from written proper places (Carried o x) h = supply-wires-stand p a w from written proper places o x h
wires-stand p a w from written proper places (Routed t) h = control-wires-stand p a w from written proper places t h
