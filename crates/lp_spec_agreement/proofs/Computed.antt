-- The bits of a top output go by place: where a netlist turns its ports round, the bits of one index differ, and those at one place do not.
use Rattle.std.proofs.Common.{◌≡◌, ℕ, ◌&&◌, ◌==◌, List, [], ◌∷◌, Option, Some, None, refl}
use Rattle.std.specs.Prelude.{bytes_eq, codes, if◌then◌else◌}
use Rattle.lp_tern.specs.declared.tern.Tern.{Tern}
use Rattle.lp_tern.specs.declared.tern.Tern.TheVariants.{Zero, One, X}
use Rattle.lp_tern.specs.declared.supply.SupplyState.TheVariants.{On}
use Rattle.lp_model.specs.declared.netlist.Direction.{Direction}
use Rattle.lp_model.specs.declared.netlist.Direction.TheVariants.{Input, Output}
use Rattle.lp_model.specs.NetlistView.{SelectBit, PortView, ModuleView}
use Rattle.lp_spec_design.specs.Keys.{Name, same_index}
use Rattle.lp_spec_design.specs.Nodes.{computing}
use Rattle.lp_spec_design.specs.Runs.{shown}
use Rattle.lp_spec_design.specs.Settled.{Event, Registers, computed}
use Rattle.lp_spec_design.proofs.Samples.{port, with_strategies}
use Rattle.lp_spec_pins.specs.Pins.{Powered, PinAssignment, computed_by_pins}
use Rattle.lp_spec_pins.specs.Runs.{shown_by_pins}
use Rattle.lp_spec_realises.specs.Operators.{Placement}
use Rattle.lp_spec_realises.specs.Projects.{Project, design_of}
use Rattle.lp_spec_realises.specs.ProjectNetlists.{netlist_of}
use Rattle.lp_spec_realises.specs.Surroundings.{powered_of, event_at_pins}
use Rattle.lp_spec_realises.proofs.Samples.{cells, project}
use Rattle.lp_spec_agreement.specs.Cells.{bit_across}

abbrev vector : Name → Direction → ℕ → ℕ → PortView
vector n d l r = port n d (Some (record { left = l; right = r }))

-- y is a, bit by bit
abbrev pass_through : List PortView → ModuleView
pass_through ports = record { name = codes "top"; ports = ports; nets = []; instances = []; assigns = record { left = SelectBit (codes "y") 1 ∷ SelectBit (codes "y") 0 ∷ []; right = SelectBit (codes "a") 1 ∷ SelectBit (codes "a") 0 ∷ [] } ∷ [] }

abbrev straight : Project
straight = record (project (with_strategies [])) { structure = record { modules = pass_through (vector (codes "a") Input 1 0 ∷ vector (codes "y") Output 1 0 ∷ []) ∷ []; cells = cells } }

abbrev supply_inputs : List PortView
supply_inputs = port (codes "lp_v_VDD") Input None ∷ port (codes "lp_v_VDC") Input None ∷ port (codes "lp_v_VDE") Input None ∷ port (codes "lp_v_VSS") Input None ∷ []

-- both ports turned round
abbrev turned : List ModuleView
turned = pass_through (vector (codes "a") Input 0 1 ∷ vector (codes "y") Output 0 1 ∷ supply_inputs) ∷ []

abbrev nowhere : Placement
nowhere = record { operator = λ way k. record { path = []; instance = [] }; switch = λ o. record { path = []; instance = [] } }

-- all supplies are on, and the first bit of a from the left is 1
abbrev first_is_one : Event
first_is_one = record { inputs = λ n j. if bytes_eq n (codes "a") && same_index j (Some 1) then One else Zero; supplies = λ o. if o == 3 then On 0 else On 1000000 }

abbrev no_registers : Registers
no_registers p q = X

abbrev judged : Powered
judged = powered_of straight turned nowhere

abbrev assigned : PinAssignment
assigned = computed_by_pins judged (event_at_pins straight (netlist_of straight turned) first_is_one) no_registers 8

abbrev first_bit : Name × Option ℕ
first_bit = (codes "y", Some 1)

-- what the source shows at the first bit, and the netlist at the bit of that index and at the bit at that place
bits : List Tern
bits = shown (design_of straight) (computed (design_of straight) first_is_one no_registers 8) first_bit ∷ shown_by_pins judged assigned first_bit ∷ shown_by_pins judged assigned (bit_across straight turned nowhere first_bit) ∷ []

by_place : bits ≡ One ∷ Zero ∷ One ∷ []
unfolding computing bits
by_place = refl
