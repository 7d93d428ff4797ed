-- Small designs on which the written netlists are computed.
use Rattle.std.specs.Prelude.{false, List, [], ◌∷◌, ◌++◌, Some, None, codes}
use Rattle.lp_model.specs.declared.intent.Applies.{Applies}
use Rattle.lp_model.specs.declared.intent.Applies.TheVariants.{Inputs, Outputs}
use Rattle.lp_model.specs.declared.intent.DeclaredState.{DeclaredState}
use Rattle.lp_model.specs.declared.intent.DeclaredState.TheVariants.{On, Off}
use Rattle.lp_model.specs.declared.supply.OriginKind.TheVariants.{Port, Switch}
use Rattle.lp_model.specs.declared.library.Action.TheVariants.{Rise, Fall}
use Rattle.lp_model.specs.declared.library.PinUse.TheVariants.{Plain, Retain}
use Rattle.lp_model.specs.declared.library.RetClass.TheVariants.{Both}
use Rattle.lp_model.specs.declared.netlist.Direction.TheVariants.{Input, Output}
use Rattle.lp_model.specs.declared.side.Location.TheVariants.{Parent}
use Rattle.lp_model.specs.declared.supply.Supplies.{Supplies}
use Rattle.lp_model.specs.NetlistView.{NetBit, ConstBit, ByName, ByPosition, ModuleView}
use Rattle.lp_model.specs.LibraryView.{CellView}
use Rattle.lp_spec_design.specs.Keys.{Name, Path, Node, Inner}
use Rattle.lp_spec_design.specs.Intents.{AtInstance, AtPort, AtBit, Strategy, Intent}
use Rattle.lp_spec_design.proofs.Samples.{one_name, port, to, top, core, read_inside, fed_through, registered, wide, with_strategies, isolation, shifting, retaining}
use Rattle.lp_spec_network.proofs.Samples.{origin, set_of}
use Rattle.lp_spec_fit.proofs.Samples.{input, output, buffer, clamp, shifter, header, register, retention_register}
use Rattle.lp_spec_realises.proofs.Samples.{inverter}
use Rattle.lp_spec_realises.specs.Projects.{Project}
use Rattle.lp_spec_realises.specs.Implements.{Lists}

abbrev pub cells : List CellView
cells = inverter ∷ buffer ∷ clamp ∷ shifter ∷ header ∷ register ∷ retention_register ∷ []

-- VDD, the top's; VDC, the block's, with these states; the ground
abbrev pub supplies : List DeclaredState → Supplies
supplies block = record {
  origins = origin 0 (Port (On 1000000 ∷ [])) ∷ origin 1 (Port block) ∷ origin 2 (Port []) ∷ [];
  rows = [];
  sets = Some (set_of 0) ∷ Some (set_of 1) ∷ [];
}

-- a top and its modules, with a block u that may be off
abbrev pub project : List ModuleView → Intent → Project
project modules i = record {
  structure = record { modules = modules; cells = cells };
  intent = i;
  supplies = supplies (On 1000000 ∷ Off ∷ []);
  margin = 0;
  origin_names = codes "VDD" ∷ codes "VDC" ∷ codes "VSS" ∷ [];
}

-- no strategy names cells, and switches are made in the top
abbrev pub any_cell : Lists
any_cell = record { of_strategy = λ k. None; of_switch = λ o. None; scope_of_switch = λ o. [] }

-- the block's outputs are clamped
abbrev pub by_the_block : Intent
by_the_block = with_strategies (isolation 1 None Outputs ∷ [])

abbrev pub clamped : Project
clamped = project (top ∷ core ∷ []) by_the_block

-- ---- variants

-- nothing is inserted
abbrev pub bare : Project
bare = project (top ∷ core ∷ []) (with_strategies [])

-- a second inverter in the block reads the clamped output, and another port has its output
abbrev pub read_twice : Project
read_twice = project read_inside.modules (with_strategies (isolation 1 (Some (AtPort (codes "u" ∷ []) (codes "o") ∷ [])) Outputs ∷ []))

-- the block is lower than the top
abbrev pub lower_block : Project
lower_block = record (project (top ∷ core ∷ []) (with_strategies (isolation 1 None Outputs ∷ shifting 1 0 ∷ []))) { supplies = supplies (On 800000 ∷ Off ∷ []) }

-- the block is higher than the top: a clamp and then a shifter at its input
abbrev pub higher_block : Project
higher_block = record (project (top ∷ core ∷ []) (with_strategies (isolation 1 None Inputs ∷ record (shifting 1 0) { applies = Inputs } ∷ []))) { supplies = supplies (On 1200000 ∷ Off ∷ []) }

-- a strategy by the parent
abbrev pub in_parent : Strategy → Strategy
in_parent t = record t { location = Parent }

abbrev pub clamped_outside : Project
clamped_outside = project (top ∷ core ∷ []) (with_strategies (in_parent (isolation 1 None Outputs) ∷ []))

-- at its input, on both sides
abbrev pub clamped_inside : Project
clamped_inside = project (top ∷ core ∷ []) (with_strategies (isolation 1 None Inputs ∷ isolation 0 (Some (AtInstance (codes "u" ∷ []) ∷ [])) Outputs ∷ []))

-- the block's input is 0
abbrev pub fixed_top : ModuleView
fixed_top = record top {
  instances =
      record { name = codes "u"; target = codes "core"; connections = ByPosition ((ConstBit false ∷ []) ∷ (NetBit (codes "n") ∷ []) ∷ []) }
      ∷ record { name = codes "b"; target = codes "BUF"; connections = ByName (to (codes "A") (NetBit (codes "n")) ∷ to (codes "Y") (NetBit (codes "y")) ∷ []) }
      ∷ [];
}

abbrev pub fixed_input : Project
fixed_input = project (fixed_top ∷ core ∷ []) (with_strategies (in_parent (isolation 1 None Inputs) ∷ []))

-- one bit of an output of two bits
abbrev pub one_bit : Strategy
one_bit = isolation 1 (Some (AtBit (codes "u" ∷ []) (codes "o") (Some 1) ∷ [])) Outputs

abbrev pub wide_outside : Project
wide_outside = project wide.modules (with_strategies (in_parent one_bit ∷ []))

abbrev pub wide_inside : Project
wide_inside = project wide.modules (with_strategies (one_bit ∷ []))

-- an assign feeds one output, and another one is connected to nothing
abbrev pub fed : Project
fed = project fed_through.modules by_the_block

-- two copies of a module, one in the block's domain and one in the top's, whose output is open
abbrev pub twins : Project
twins = project (record top { instances = top.instances ++ (record { name = codes "v"; target = codes "core"; connections = ByName (to (codes "i") (NetBit (codes "en")) ∷ record { port = codes "o"; bits = [] } ∷ []) } ∷ []) } ∷ core ∷ []) by_the_block

-- the top's own output
abbrev pub top_output : Project
top_output = project (top ∷ core ∷ []) (with_strategies (isolation 0 (Some (AtPort [] (codes "y") ∷ [])) Outputs ∷ []))

-- ---- switches

-- the block's power comes through a switch from the top's, on where en is 0
abbrev pub switched_supplies : Supplies
switched_supplies = record {
  origins = origin 0 (Port (On 1000000 ∷ [])) ∷ origin 0 (Switch (record { 0 = 0 }) (record { 0 = 1 }) false) ∷ origin 2 (Port []) ∷ [];
  rows = [];
  sets = Some (set_of 0) ∷ Some (set_of 1) ∷ [];
}

abbrev pub switched : Intent → Project
switched i = record (project (top ∷ core ∷ []) i) { supplies = switched_supplies }

-- the block has no cells of its own, but an instance of core
abbrev pub around : ModuleView
around = record core { name = codes "around"; instances = record { name = codes "w"; target = codes "core"; connections = ByName (to (codes "i") (NetBit (codes "i")) ∷ to (codes "o") (NetBit (codes "o")) ∷ []) } ∷ [] }

abbrev pub nested_top : ModuleView
nested_top = record top {
  instances =
      record { name = codes "u"; target = codes "around"; connections = ByName (to (codes "i") (NetBit (codes "a")) ∷ to (codes "o") (NetBit (codes "n")) ∷ []) }
      ∷ record { name = codes "b"; target = codes "BUF"; connections = ByName (to (codes "A") (NetBit (codes "n")) ∷ to (codes "Y") (NetBit (codes "y")) ∷ []) }
      ∷ [];
}

abbrev pub nested : Project
nested = record (project (nested_top ∷ around ∷ core ∷ []) by_the_block) { supplies = switched_supplies }

-- the instance in the block is of the top's domain: its output has a clamp in the block, and so has the block's
abbrev pub two_levels : Project
two_levels = project (nested_top ∷ around ∷ core ∷ []) (record (with_strategies (isolation 1 (Some (AtInstance (codes "w" ∷ codes "u" ∷ []) ∷ [])) Inputs ∷ isolation 1 (Some (AtInstance (codes "u" ∷ []) ∷ [])) Outputs ∷ [])) { domains = record { elements = [] ∷ (codes "w" ∷ codes "u" ∷ []) ∷ []; primary = Some 0; isolation = None; retention = None } ∷ record { elements = (codes "u" ∷ []) ∷ []; primary = Some 1; isolation = None; retention = None } ∷ [] })

-- switches are made in the block
abbrev pub in_the_block : Lists
in_the_block = record any_cell { scope_of_switch = λ o. codes "u" ∷ [] }

-- the switch feeds the top, and the block has the other supply
abbrev pub exchanged : Intent
exchanged = record (with_strategies []) { domains = record { elements = [] ∷ []; primary = Some 1; isolation = None; retention = None } ∷ record { elements = (codes "u" ∷ []) ∷ []; primary = Some 0; isolation = None; retention = None } ∷ [] }

-- ---- controls

-- a control by a net bit
abbrev pub by_control : Node → Strategy → Strategy
by_control k t = record t { control = Some k }

-- by the block's own input, outside of it
abbrev pub control_from_inside : Project
control_from_inside = project (top ∷ core ∷ []) (with_strategies (by_control (Inner (codes "i") None (codes "u" ∷ [])) (in_parent (isolation 1 None Outputs)) ∷ []))

-- the block's input has a clamp in it, and is the control of the clamp outside
abbrev pub control_renamed : Project
control_renamed = project (top ∷ core ∷ []) (with_strategies (isolation 1 None Inputs ∷ by_control (Inner (codes "i") None (codes "u" ∷ [])) (in_parent (isolation 1 None Outputs)) ∷ []))

-- module source (s): it has a control
abbrev pub source : ModuleView
source = record { name = codes "source"; ports = port (codes "s") Input None ∷ []; nets = []; instances = []; assigns = [] }

abbrev pub its_control : Path → Node
its_control p = Inner (codes "s") None (codes "w" ∷ p)

abbrev pub the_source : ModuleView → Name → ModuleView
the_source m n = record m { instances = m.instances ++ (record { name = codes "w"; target = codes "source"; connections = ByName (to (codes "s") (NetBit n) ∷ []) } ∷ []) }

-- beside the block: both sides of its output have a clamp by the same control
abbrev pub control_beside : Project
control_beside = project (the_source top (codes "en") ∷ core ∷ source ∷ []) (with_strategies (by_control (its_control []) (isolation 1 None Outputs) ∷ by_control (its_control []) (isolation 0 (Some (AtInstance (codes "u" ∷ []) ∷ [])) Inputs) ∷ []))

-- in an instance of the block
abbrev pub guided : List ModuleView
guided =
    record top {
      instances =
          record { name = codes "u"; target = codes "core"; connections = ByName (to (codes "s") (NetBit (codes "en")) ∷ to (codes "i") (NetBit (codes "a")) ∷ to (codes "o") (NetBit (codes "n")) ∷ []) }
          ∷ record { name = codes "b"; target = codes "BUF"; connections = ByName (to (codes "A") (NetBit (codes "n")) ∷ to (codes "Y") (NetBit (codes "y")) ∷ []) }
          ∷ [];
    }
    ∷ record (the_source core (codes "s")) { ports = port (codes "s") Input None ∷ core.ports }
    ∷ source ∷ []

-- a clamp of a port of the block by that control
abbrev pub guided_by : Name → Applies → Strategy
guided_by n which = by_control (its_control (codes "u" ∷ [])) (isolation 1 (Some (AtPort (codes "u" ∷ []) n ∷ [])) which)

-- used in the block and then in the top, and the other way round
abbrev pub control_below : Project
control_below = project guided (with_strategies (guided_by (codes "i") Inputs ∷ in_parent (guided_by (codes "o") Outputs) ∷ []))

abbrev pub control_first_above : Project
control_first_above = project guided (with_strategies (in_parent (guided_by (codes "i") Inputs) ∷ guided_by (codes "o") Outputs ∷ []))

-- in an instance of one block, for a clamp in an instance of the other and one around it
abbrev pub side_by_side : ModuleView
side_by_side = record top {
  ports = top.ports ++ (port (codes "z") Output None ∷ []);
  instances = nested_top.instances ++ (record { name = codes "v"; target = codes "around"; connections = ByName (to (codes "i") (NetBit (codes "a")) ∷ to (codes "o") (NetBit (codes "z")) ∷ []) } ∷ []);
}

abbrev pub clamped_instance : Path
clamped_instance = codes "w" ∷ codes "v" ∷ []

abbrev pub by_the_other : Strategy → Strategy
by_the_other t = by_control (Inner (codes "i") None (codes "w" ∷ codes "u" ∷ [])) t

abbrev pub control_across : Project
control_across = project (side_by_side ∷ around ∷ core ∷ []) (record (with_strategies (by_the_other (isolation 1 None Outputs) ∷ by_the_other (isolation 0 (Some (AtInstance clamped_instance ∷ [])) Inputs) ∷ [])) { domains = record { elements = [] ∷ []; primary = Some 0; isolation = None; retention = None } ∷ record { elements = clamped_instance ∷ []; primary = Some 1; isolation = None; retention = None } ∷ [] })

-- a register with retention, whose copy the top's supply keeps
abbrev pub retained : Project
retained = project registered.modules (with_strategies (record (retaining None) { supply = Some 0 } ∷ []))

-- the same by a cell of one pin, which saves at its rise and restores at its fall
abbrev pub one_pin_register : CellView
one_pin_register = record retention_register {
  name = codes "SDFF";
  area = 8000000;
  pins =
      record (input (codes "SR") (Retain Both (Some Rise) (Some Fall))) { power = 2 }
      ∷ input (codes "CK") Plain ∷ input (codes "D") Plain ∷ output (codes "Q") (one_name (codes "KQ")) ∷ [];
}

abbrev pub retained_by_one : Project
retained_by_one = record (project registered.modules (with_strategies (record (retaining None) { supply = Some 0; restore = Some (Inner (codes "sv") None [], Fall) } ∷ []))) { structure = record { modules = registered.modules; cells = one_pin_register ∷ cells } }
