-- The small design computed.
use Rattle.std.proofs.Common.{◌≡◌, true, false, [], ◌∷◌, Some, None, refl}
use Rattle.std.specs.Prelude.{◌==◌, bytes_eq, codes, map, if◌then◌else◌}
use Rattle.lp_tern.specs.declared.tern.Tern.{Tern}
use Rattle.lp_tern.specs.declared.tern.Tern.TheVariants.{Zero, One, X}
use Rattle.lp_tern.specs.declared.supply.SupplyState.{SupplyState}
use Rattle.lp_tern.specs.declared.supply.SupplyState.TheVariants.{On, Off}
use Rattle.lp_model.specs.declared.netlist.Direction.TheVariants.{Input, Output}
use Rattle.lp_model.specs.NetlistView.{ModuleView}
use Rattle.lp_model.specs.LibraryView.{CellView}
use Rattle.lp_spec_design.specs.Nodes.{computing}
use Rattle.lp_spec_design.specs.Settled.{Assignment, Event, computed, output}
use Rattle.lp_spec_design.specs.Registers.{States}
use Rattle.lp_spec_design.specs.Runs.{states_along}
use Rattle.lp_spec_pins.specs.Pins.{PinAssignment, computed_by_pins, output_by_pins}
use Rattle.lp_spec_pins.specs.Runs.{states_along_by_pins}
use Rattle.lp_spec_pins.specs.Supplied.{is_supplied}
use Rattle.lp_spec_plain.specs.Cells.{is_plain_cell}
use Rattle.lp_spec_plain.specs.Alike.{at_ports}
use Rattle.lp_spec_plain_module.specs.Designs.{Flat, design_of}
use Rattle.lp_spec_plain_module.specs.Netlists.{powered, netlist_of, origin_of}
use Rattle.lp_spec_plain_module.specs.Tests.{is_flat}
use Rattle.lp_spec_plain_module.proofs.Samples as sample

accepted : is_flat sample.design ≡ true
unfolding computing
accepted = refl

-- two ports more, and each power pin at the one, each ground pin at the other, wells too
abbrev expected : ModuleView
expected = record sample.source {
  ports = sample.scalar (codes "a") Input ∷ sample.scalar (codes "b") Input ∷ sample.scalar (codes "ck") Input ∷ sample.scalar (codes "q") Output ∷ sample.scalar (codes "lp_v_VDD") Input ∷ sample.scalar (codes "lp_v_VSS") Input ∷ [];
  instances =
      sample.gate (sample.to (codes "VDD") (codes "lp_v_VDD") ∷ sample.to (codes "VSS") (codes "lp_v_VSS") ∷ sample.to (codes "VNW") (codes "lp_v_VDD") ∷ sample.to (codes "VPW") (codes "lp_v_VSS") ∷ [])
      ∷ sample.register (sample.to (codes "VDD") (codes "lp_v_VDD") ∷ sample.to (codes "VSS") (codes "lp_v_VSS") ∷ [])
      ∷ [];
}

written : powered sample.design ≡ expected
unfolding computing
written = refl

supplied : is_supplied (netlist_of sample.design) ≡ true
unfolding computing
supplied = refl

-- a cell whose output is not lost where the ground is not on
abbrev half : CellView
half = record sample.dff { state = None; pins = sample.input (codes "D") ∷ record (sample.output (codes "Q") (sample.of_name (codes "D"))) { power_down = Some (record sample.down { steps = [] }) } ∷ [] }

half_refused : is_plain_cell half ≡ false
unfolding computing
half_refused = refl

abbrev port_taken : Flat
port_taken = record sample.design { source = record sample.source { ports = sample.scalar (codes "lp_v_VDD") Input ∷ sample.source.ports } }

port_taken_refused : is_flat port_taken ≡ false
unfolding computing
port_taken_refused = refl

abbrev pin_taken : Flat
pin_taken = record sample.design { source = record sample.source { instances = sample.gate (sample.to (codes "VDD") (codes "a") ∷ []) ∷ [] } }

pin_taken_refused : is_flat pin_taken ≡ false
unfolding computing
pin_taken_refused = refl

-- the register shows its state on both sides while its supply is on, and nothing else
abbrev event : SupplyState → Event
event power = record { inputs = λ n i. One; supplies = λ o. if o == 0 then power else On 0 }

q_of : SupplyState → Tern
q_of power = output (design_of sample.design) (computed (design_of sample.design) (event power) (λ p x. One) 12) (codes "q") None (Some 0)

q_by_pins : SupplyState → Tern
q_by_pins power = output_by_pins (netlist_of sample.design) (computed_by_pins (netlist_of sample.design) (at_ports (origin_of sample.design) (event power)) (λ p x. One) 12) (codes "q") None

state_shown : q_of (On 1000000) ≡ One
unfolding q_of computing
state_shown = refl

state_shown_by_pins : q_by_pins (On 1000000) ≡ One
unfolding q_by_pins computing
state_shown_by_pins = refl

lost : q_of Off ≡ X
unfolding q_of computing
lost = refl

lost_by_pins : q_by_pins Off ≡ X
unfolding q_by_pins computing
lost_by_pins = refl

-- ---- the register takes its data as the clock rises, on both sides

abbrev clocked : Tern → Event
clocked ck = record { inputs = λ n i. if bytes_eq n (codes "ck") then ck else One; supplies = λ o. if o == 0 then On 1000000 else On 0 }

abbrev zeros : States
zeros = record { main = λ p x. Zero; saved = λ p x. X }

abbrev settled : Tern → Assignment
settled ck = computed (design_of sample.design) (clocked ck) zeros.main 12

abbrev settled_by_pins : Tern → PinAssignment
settled_by_pins ck = computed_by_pins (netlist_of sample.design) (at_ports (origin_of sample.design) (clocked ck)) zeros.main 12

register_along : map (λ (s : States). s.main [] (codes "r")) (states_along (design_of sample.design) None zeros (settled Zero ∷ settled One ∷ [])) ≡ Zero ∷ One ∷ []
unfolding computing
register_along = refl

register_along_by_pins : map (λ (s : States). s.main [] (codes "r")) (states_along_by_pins (netlist_of sample.design) None zeros (settled_by_pins Zero ∷ settled_by_pins One ∷ [])) ≡ Zero ∷ One ∷ []
unfolding computing
register_along_by_pins = refl
