-- A register of `ff (Q, QN)` whose output pins have the names of its state variables: each shows the state, and none reads an output.
use Rattle.std.proofs.Common.{◌≡◌, List, false, [], ◌∷◌, Some, None, refl}
use Rattle.std.specs.Prelude.{codes, map, ◌==◌, if◌then◌else◌}
use Rattle.lp_tern.specs.declared.tern.Tern.{Tern}
use Rattle.lp_tern.specs.declared.tern.Tern.TheVariants.{Zero, One, X}
use Rattle.lp_tern.specs.declared.supply.SupplyState.TheVariants.{On}
use Rattle.lp_model.specs.declared.netlist.Direction.TheVariants.{Input, Output}
use Rattle.lp_model.specs.declared.library.StateKind.TheVariants.{Flop}
use Rattle.lp_model.specs.NetlistView.{ByName, ConnectionView, PortView, ModuleView}
use Rattle.lp_model.specs.LibraryView.{PinView, CellView}
use Rattle.lp_spec_settling.specs.Settling.{has}
use Rattle.lp_spec_design.specs.Keys.{Name, Inner}
use Rattle.lp_spec_design.specs.Nodes.{computing}
use Rattle.lp_spec_design.specs.Settled.{At, Design, Event, Registers, output, computed}
use Rattle.lp_spec_design.specs.Reads as of_design
use Rattle.lp_spec_design.proofs.Samples.{port, cell, pin, never, one_name, network, volts, with_strategies}
use Rattle.lp_spec_pins.specs.Pins.{Powered, Signal, output_by_pins, computed_by_pins}
use Rattle.lp_spec_pins.specs.Reads as of_netlist
use Rattle.lp_spec_pins.proofs.Clamped.{down, input, supplied, joined, around, event}

abbrev shown : Name → PinView
shown n = record (pin n Output (Some (one_name n))) { gnd = Some 1; power_down = Some down }

abbrev register : CellView
register = record (supplied (cell (codes "DFF") (input (codes "D") ∷ input (codes "CK") ∷ shown (codes "Q") ∷ shown (codes "QN") ∷ []))) {
  state = Some (record { kind = Flop; var = codes "Q"; inverse = codes "QN"; next = one_name (codes "D"); clock = one_name (codes "CK"); clear = never; preset = never; power_down = down });
}

-- module top (d, ck, q, n) with one register, and with supply ports and their joins behind
abbrev top : List PortView → List ConnectionView → ModuleView
top supplies joins = record {
  name = codes "top";
  ports = port (codes "d") Input None ∷ port (codes "ck") Input None ∷ port (codes "q") Output None ∷ port (codes "n") Output None ∷ supplies;
  nets = [];
  instances =
      record { name = codes "r"; target = codes "DFF"; connections = ByName (joined (codes "D") (codes "d") ∷ joined (codes "CK") (codes "ck") ∷ joined (codes "Q") (codes "q") ∷ joined (codes "QN") (codes "n") ∷ joins) }
      ∷ [];
  assigns = [];
}

abbrev in_state : Tern → Registers
in_state t p x = t

abbrev states : List Tern
states = Zero ∷ One ∷ X ∷ []

-- ---- under intent

abbrev design : Design
design = record { structure = record { modules = top [] [] ∷ []; cells = register ∷ [] }; network = network (volts 1000000 1000000 800000); intent = with_strategies [] }

abbrev all_on : Event
all_on = record { inputs = λ n j. X; supplies = λ o. if o == 3 then On 0 else On 1000000 }

abbrev output_in : Name → Tern → Tern
output_in n t = output design (computed design all_on (in_state t) 8) n None None

state_under_intent : map (output_in (codes "q")) states ≡ Zero ∷ One ∷ X ∷ []
unfolding computing
state_under_intent = refl

complement_under_intent : map (output_in (codes "n")) states ≡ One ∷ Zero ∷ X ∷ []
unfolding computing
complement_under_intent = refl

own_output_unread : has of_design.keys (At (Inner (codes "q") None [])) (of_design.reads design (At (Inner (codes "q") None []))) ≡ false
unfolding computing
own_output_unread = refl

-- ---- by pins

abbrev netlist : Powered
netlist = record {
  structure = record {
    modules = top (port (codes "lp_v_VDD") Input None ∷ port (codes "lp_v_VSS") Input None ∷ []) (joined (codes "VDD") (codes "lp_v_VDD") ∷ joined (codes "VSS") (codes "lp_v_VSS") ∷ []) ∷ [];
    cells = register ∷ [];
  };
  around = around 0;
}

abbrev output_by : Name → Tern → Tern
output_by n t = output_by_pins netlist (computed_by_pins netlist (event X X (On 1000000)) (in_state t) 12) n None

state_by_pins : map (output_by (codes "q")) states ≡ Zero ∷ One ∷ X ∷ []
unfolding computing
state_by_pins = refl

complement_by_pins : map (output_by (codes "n")) states ≡ One ∷ Zero ∷ X ∷ []
unfolding computing
complement_by_pins = refl

own_output_unread_by_pins : has of_netlist.keys (Signal (Inner (codes "q") None [])) (of_netlist.reads netlist (Signal (Inner (codes "q") None []))) ≡ false
unfolding computing
own_output_unread_by_pins = refl
