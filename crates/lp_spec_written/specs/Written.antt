-- The netlist that an insertion writes, module by module and item by item (own rule).
use Rattle.std.specs.Prelude.{ℕ, List, [], ◌∷◌, ◌++◌, map, Option, Some, None, option_and_then, flat_map, codes}
use Rattle.lp_model.specs.NetlistView.{BitView, NetBit, PortView, NetView, ConnectionView, ByName, InstanceView, AssignView, ModuleView}
use Rattle.lp_model.specs.LibraryView.{PinView}
use Rattle.lp_spec_design.specs.Keys.{Name, Path}
use Rattle.lp_spec_design.specs.Netlists.{module_named, module_at}
use Rattle.lp_spec_design.specs.Instances.{Placed}
use Rattle.lp_spec_design.specs.Graph.{numbered, pairs, some_of}
use Rattle.lp_spec_pins.specs.Pins.{input_for}
use Rattle.lp_spec_fit.specs.Fits.{one_output, is_iso_enable, is_switch_pin, retention_pins}
use Rattle.lp_spec_realises.specs.Projects.{Project}
use Rattle.lp_spec_realises.specs.Realises.{data_pin, control_of}
use Rattle.lp_spec_realises.specs.Implements.{Lists}
use Rattle.lp_spec_written.specs.Places.{instances, instance_number, with_number, Kept, Switching, Plan, plan, operator_names, switches_in}
use Rattle.lp_spec_written.specs.Supplies.{Use, uses, source_pins, operator_pins, switch_pins, kept_at, supply_ports, supply_wires, supply_connections, wire, joined_to}
use Rattle.lp_spec_written.specs.Nets.{Stretch, stretches, stretches_in, nets_of, Linked, linked, renamed_assign, constant_assign, led_connections, renamed_connections}
use Rattle.lp_spec_written.specs.Routes.{Part, parts, control_ports, control_wires, control_bits, some_control_bits, control_assigns, control_connections, enable_of}

-- what is added, where its chains have nets, who uses which origin, and the parts of controls
pub record Additions : Type 0 where
  pub plan : Plan
  pub chains : List Stretch
  pub uses : List Use
  pub controls : List Part

abbrev pub additions_of : Project → Plan → Additions
additions_of p a = record { plan = a; chains = stretches p a; uses = uses p a; controls = parts p a }

abbrev pub additions : Project → Lists → Additions
additions p l = additions_of p (plan p l)

-- ---- modules

-- the top keeps its name; module instance number K of module M becomes lp_K_M, and the instance's target is that name
abbrev pub module_name : Project → Path → Name → Name
module_name p [] m = m
module_name p (i ∷ x) m = with_number (codes "lp_") (instance_number p (i ∷ x)) ++ (codes "_" ++ m)

-- ---- ports and wires

abbrev pub added_supply_ports : Project → Additions → Path → List PortView
added_supply_ports p a x = supply_ports p a.plan a.uses x

-- the source's ports, then the added supply ports lp_v and lp_w in the order of the origins, then added control ports lp_c by their number
abbrev pub written_ports : Project → Additions → Path → ModuleView → List PortView
written_ports p a x m = m.ports ++ (added_supply_ports p a x ++ control_ports a.controls x)

-- the source's nets, then lp_w in origin order, then lp_n by number, then lp_c by number (those that are no ports)
abbrev pub written_nets : Additions → Path → ModuleView → List NetView
written_nets a x m = m.nets ++ (supply_wires a.plan a.uses x ++ (map wire (flat_map nets_of (stretches_in a.chains x)) ++ control_wires a.controls x))

-- ---- instances of the source

-- its own connections in their order, an ordered one named by the port at its position, then those of the added ports of its target in the order of those ports
abbrev pub written_module_instance : Project → Additions → Path → InstanceView → ModuleView → InstanceView
written_module_instance p a x y m = record {
  name = y.name;
  target = module_name p (y.name ∷ x) m.name;
  connections = ByName (led_connections a.chains x (y.name ∷ x) m.ports y.connections
      ++ (map (λ (q : PortView). joined_to q.name (NetBit q.name ∷ [])) (added_supply_ports p a (y.name ∷ x))
      ++ control_connections a.chains a.controls x (y.name ∷ x)));
}

abbrev pub kept_target : Name → Option Kept → Name
kept_target n None = n
kept_target n (Some k) = k.cell.name

-- the retention pins of the chosen cell, in cell order
abbrev pub retention_connections : Additions → Path → Option Kept → List ConnectionView
retention_connections a x None = []
retention_connections a x (Some k) = map (λ (q : PinView). joined_to q.name (some_control_bits a.chains a.controls x (control_of k.strategy q.use_of))) (retention_pins k.cell)

-- its own connections in their order (bits renamed), then added retention pins in cell order (a register with retention has the chosen cell as target), then power and ground pins in cell order
abbrev pub written_cell_instance : Project → Additions → Path → InstanceView → InstanceView
written_cell_instance p a x y =
    let place : Placed = record { path = x; instance = y.name } in
    record {
      name = y.name;
      target = kept_target y.target (kept_at a.plan place);
      connections = ByName (renamed_connections a.chains x y.connections
          ++ (retention_connections a x (kept_at a.plan place)
          ++ supply_connections p a.plan (source_pins p a.plan place)));
    }

abbrev pub written_by_target : Project → Additions → Path → InstanceView → Option ModuleView → InstanceView
written_by_target p a x y (Some m) = written_module_instance p a x y m
written_by_target p a x y None = written_cell_instance p a x y

abbrev pub written_instance : Project → Additions → Path → InstanceView → InstanceView
written_instance p a x y = written_by_target p a x y (module_named p.structure y.target)

-- ---- added instances

abbrev pub at_pin : Option PinView → List BitView → List ConnectionView
at_pin None bits = []
at_pin (Some q) bits = joined_to q.name bits ∷ []

-- data, control, output, then power and ground pins in cell order; a shifter has no control
abbrev pub written_operator : Project → Additions → Path → Name × Linked → InstanceView
written_operator p a x y =
    let o = y.1.0 in
    record {
      name = y.0;
      target = o.cell.name;
      connections = ByName (at_pin (data_pin o.asked.operator o.cell) y.1.1.0
          ++ (at_pin (input_for is_iso_enable o.cell) (some_control_bits a.chains a.controls x (enable_of p o.asked.operator))
          ++ (at_pin (one_output o.cell) y.1.1.1
          ++ supply_connections p a.plan (operator_pins p o))));
    }

abbrev pub named_operators : List Linked → List (Name × Linked)
named_operators all = pairs (operator_names 0 0 (map (λ y. y.0.asked.operator) all)) all

abbrev pub written_operators : Project → Additions → Path → List InstanceView
written_operators p a x = map (written_operator p a x) (named_operators (linked p a.chains x))

-- its switch pin, then power and ground pins in cell order; its outputs are not written
abbrev pub written_switch : Project → Additions → Path → ℕ × Switching → InstanceView
written_switch p a x y = record {
  name = with_number (codes "lp_s_") y.0;
  target = y.1.cell.name;
  connections = ByName (at_pin (input_for is_switch_pin y.1.cell) (control_bits a.chains a.controls x y.1.asked.control) ++ supply_connections p a.plan (switch_pins p y.1));
}

abbrev pub written_switches : Project → Additions → Path → List InstanceView
written_switches p a x = map (written_switch p a x) (numbered 0 (switches_in a.plan x))

-- the source's, then the added ones (clamps, shifters, switches) in plan order
abbrev pub written_instances : Project → Additions → Path → ModuleView → List InstanceView
written_instances p a x m = map (written_instance p a x) m.instances ++ (written_operators p a x ++ written_switches p a x)

-- ---- assigns

-- the source's, then those to lp_n, then those to lp_c, each by number
abbrev pub written_assigns : Project → Additions → Path → ModuleView → List AssignView
written_assigns p a x m = map (renamed_assign a.chains x) m.assigns ++ (some_of (constant_assign p) (stretches_in a.chains x) ++ control_assigns a.chains a.controls x)

-- ---- the whole

abbrev pub written_module : Project → Additions → Path → ModuleView → ModuleView
written_module p a x m = record {
  name = module_name p x m.name;
  ports = written_ports p a x m;
  nets = written_nets a x m;
  instances = written_instances p a x m;
  assigns = written_assigns p a x m;
}

abbrev pub written_by : Project → Additions → List ModuleView
written_by p a = some_of (λ x. option_and_then (λ m. Some (written_module p a x m)) (module_at p.structure x)) (instances p)

-- in preorder of instances, the top first; one copy of a module per instance
abbrev pub written : Project → Lists → List ModuleView
written p l = written_by p (additions p l)
