-- A netlist with a clamp realises its design, and others do not.
use Rattle.std.proofs.Common.{◌≡◌, ℕ, List, true, false, ◌&&◌, [], ◌∷◌, ◌++◌, Some, None, refl, arith}
use Rattle.std.proofs.lemmas.Fmt.{decimal_digit}
use Rattle.std.specs.Prelude.{Bool, codes, map, if◌then◌else◌, bytes_eq, option_and_then}
use Rattle.lp_model.specs.declared.netlist.Direction.{Direction}
use Rattle.lp_model.specs.declared.netlist.Direction.TheVariants.{Input, Output}
use Rattle.lp_model.specs.declared.intent.Applies.TheVariants.{Inputs, Outputs}
use Rattle.lp_model.specs.declared.intent.DeclaredState.TheVariants.{On}
use Rattle.lp_model.specs.NetlistView.{BitView, NetBit, SelectBit, ConstBit, ByName, PortView, ConnectionView, InstanceView, AssignView, ModuleView}
use Rattle.lp_model.specs.LibraryView.{CellView}
use Rattle.lp_spec_design.specs.Keys.{Name, Inner}
use Rattle.lp_spec_design.specs.Netlists.{Structure, cell_at}
use Rattle.lp_spec_design.specs.Nodes.{computing, fuel_of}
use Rattle.lp_spec_design.specs.Intents.{Intent, AtInstance}
use Rattle.lp_spec_design.proofs.Samples.{plain, wide, port, with_strategies, isolation}
use Rattle.lp_spec_design.proofs.Samples as sample
use Rattle.lp_spec_pins.proofs.Clamped.{outer, inner, joined}
use Rattle.lp_spec_fit.proofs.Samples.{buffer, clamp}
use Rattle.lp_spec_realises.proofs.Samples.{inverter, cells, supplies, project, by_the_block}
use Rattle.lp_spec_realises.specs.Projects.{Project}
use Rattle.lp_spec_realises.specs.ProjectNetlists.{netlist_of}
use Rattle.lp_spec_realises.specs.Operators.{all_operators, Placement}
use Rattle.lp_spec_realises.specs.Ends.{AtPin, AtTop, intended}
use Rattle.lp_spec_realises.specs.Controls.{control_node, reads_too_low}
use Rattle.lp_spec_realises.specs.Realises.{Realises, same_paths, has_the_cells, begins_right, controls_begin, supplies_begin}
use Rattle.lp_spec_realises.specs.Implements.{Lists, operator_path, as_chosen}
use Rattle.lp_spec_realises.proofs.Netlists.{is_project_netlist, is_netlist}

-- ---- the written netlist

-- the top of the netlist has a port for each port origin
abbrev pub top : ModuleView
top = record outer { ports = outer.ports ++ (port (codes "lp_v_VDE") Input None ∷ []) }

abbrev pub written : ModuleView → List ModuleView
written m = top ∷ m ∷ []

abbrev pub in_block : Placement
in_block = record { operator = λ w k. record { path = codes "u" ∷ []; instance = codes "lp_i_0" }; switch = λ o. record { path = []; instance = [] } }

it_realises : Realises (project by_the_block) (written inner)
unfolding computing
it_realises = record { netlist = is_netlist (project by_the_block) (written inner) refl; placement = in_block; instances = refl; cells = refl; wires = refl; controls = refl; supplies = refl }

abbrev pub netlist : Structure
netlist = netlist_of (project by_the_block) (written inner)

the_buffer_reads_the_clamp : intended (project by_the_block) netlist in_block (Inner (codes "n") None []) ≡ AtPin (codes "u" ∷ []) (codes "lp_i_0") (codes "Y")
unfolding computing
the_buffer_reads_the_clamp = refl

the_inverter_reads_the_input : intended (project by_the_block) netlist in_block (Inner (codes "i") None (codes "u" ∷ [])) ≡ AtTop (codes "a") None
unfolding computing
the_inverter_reads_the_input = refl

-- the block's own output is read before the clamp
before_the_clamp : intended (project by_the_block) netlist in_block (Inner (codes "o") None (codes "u" ∷ [])) ≡ AtPin (codes "u" ∷ []) (codes "g") (codes "Y")
unfolding computing
before_the_clamp = refl

-- ---- netlists that do not

-- the netlist of a project, and the five parts
abbrev parts : Project → List ModuleView → List Bool
parts p modules =
    let w = netlist_of p modules in
    is_project_netlist p modules ∷ same_paths p.structure w ∷ has_the_cells p w in_block ∷ begins_right p w in_block (fuel_of w) ∷ controls_begin p w in_block (fuel_of w) ∷ supplies_begin p w in_block (fuel_of w) ∷ []

abbrev parts_of : ModuleView → List Bool
parts_of m = parts (project by_the_block) (written m)

-- an instance with other connections
abbrev reconnected : Name → List ConnectionView → ModuleView
reconnected n connections = record inner { instances = map (λ (x : InstanceView). if bytes_eq x.name n then record x { connections = ByName connections } else x) inner.instances }

-- the clamp by the block's own supply
by_the_wrong_supply : parts_of (reconnected (codes "lp_i_0") (joined (codes "D") (codes "lp_n_0") ∷ joined (codes "EN") (codes "lp_c_0") ∷ joined (codes "Y") (codes "o") ∷ joined (codes "VDD") (codes "lp_v_VDC") ∷ joined (codes "VSS") (codes "lp_v_VSS") ∷ [])) ≡ true ∷ true ∷ true ∷ true ∷ true ∷ false ∷ []
unfolding computing
by_the_wrong_supply = refl

-- the clamp by the block's input
by_the_wrong_control : parts_of (reconnected (codes "lp_i_0") (joined (codes "D") (codes "lp_n_0") ∷ joined (codes "EN") (codes "i") ∷ joined (codes "Y") (codes "o") ∷ joined (codes "VDD") (codes "lp_v_VDD") ∷ joined (codes "VSS") (codes "lp_v_VSS") ∷ [])) ≡ true ∷ true ∷ true ∷ true ∷ false ∷ true ∷ []
unfolding computing
by_the_wrong_control = refl

-- the clamp of another node
of_the_wrong_data : parts_of (reconnected (codes "lp_i_0") (joined (codes "D") (codes "i") ∷ joined (codes "EN") (codes "lp_c_0") ∷ joined (codes "Y") (codes "o") ∷ joined (codes "VDD") (codes "lp_v_VDD") ∷ joined (codes "VSS") (codes "lp_v_VSS") ∷ [])) ≡ true ∷ true ∷ true ∷ false ∷ true ∷ true ∷ []
unfolding computing
of_the_wrong_data = refl

-- a cell in place of the clamp that does not fit
abbrev no_clamp : Project
no_clamp = record (project by_the_block) { structure = record plain { cells = inverter ∷ buffer ∷ record clamp { name = codes "ISO0"; roles = buffer.roles } ∷ [] } }

without_a_clamp : parts no_clamp (written inner) ≡ true ∷ true ∷ false ∷ true ∷ true ∷ true ∷ []
unfolding computing
without_a_clamp = refl

-- one more cell
abbrev one_more : ModuleView
one_more = record inner { instances = record { name = codes "x"; target = codes "BUF"; connections = ByName [] } ∷ inner.instances }

with_one_more : parts_of one_more ≡ true ∷ true ∷ false ∷ true ∷ true ∷ true ∷ []
unfolding computing
with_one_more = refl

-- ---- modules that are no netlist of the project, whatever they compute

-- the netlist of a project, and whether the five parts hold
abbrev verdict : Project → List ModuleView → Bool × Bool
verdict p modules = let w = netlist_of p modules in (
  is_project_netlist p modules,
  same_paths p.structure w && (has_the_cells p w in_block && (begins_right p w in_block (fuel_of w) && (controls_begin p w in_block (fuel_of w) && supplies_begin p w in_block (fuel_of w)))),
)

abbrev assigned : Name → BitView → AssignView
assigned n b = record { left = NetBit n ∷ []; right = b ∷ [] }

-- the top's output has a constant beside the cell that drives it
constant_beside_a_cell : verdict (project by_the_block) (record top { assigns = assigned (codes "y") (ConstBit false) ∷ [] } ∷ inner ∷ []) ≡ (false, true)
unfolding computing
constant_beside_a_cell = refl

-- the block's supply net has two sources
two_supplies : verdict (project by_the_block) (written (record inner { assigns = assigned (codes "lp_v_VDC") (NetBit (codes "lp_v_VDD")) ∷ [] })) ≡ (false, true)
unfolding computing
two_supplies = refl

-- an instance of nothing that is known
unknown_target : verdict (project by_the_block) (written (record inner { instances = inner.instances ++ (record { name = codes "x"; target = codes "NONE"; connections = ByName [] } ∷ []) })) ≡ (false, true)
unfolding computing
unknown_target = refl

-- a net of the name of an instance, and a module that stands twice
name_twice : verdict (project by_the_block) (written (record inner { nets = inner.nets ++ (record { name = codes "g"; range = None } ∷ []) })) ≡ (false, true)
unfolding computing
name_twice = refl

module_twice : verdict (project by_the_block) (top ∷ inner ∷ inner ∷ []) ≡ (false, true)
unfolding computing
module_twice = refl

-- the top lacks the port of an origin that nothing uses
port_missing : verdict (project by_the_block) (outer ∷ inner ∷ []) ≡ (false, true)
unfolding computing
port_missing = refl

-- two origins at one port, and an origin at a port of the source
origins_at_one_port : verdict (record (project by_the_block) { origin_names = codes "VDD" ∷ codes "VDC" ∷ codes "VDC" ∷ codes "VSS" ∷ [] }) (written inner) ≡ (false, true)
unfolding computing
origins_at_one_port = refl

abbrev port_taken : Project
port_taken = record (project by_the_block) { structure = record plain { cells = cells; modules = record sample.top { ports = port (codes "lp_v_VDE") Input None ∷ sample.top.ports } ∷ sample.core ∷ [] } }

origin_at_a_port_of_the_source : verdict port_taken (written inner) ≡ (false, true)
unfolding computing
origin_at_a_port_of_the_source = refl

-- the gates are those of the project's library, whatever another library has under their names
gates_of_the_project : option_and_then (λ (c : CellView). Some c.name) (cell_at netlist (codes "u" ∷ []) (codes "g")) ≡ Some inverter.name
unfolding computing
gates_of_the_project = refl

-- a loop of assigns stands where the source has an open net
abbrev open_net : Project
open_net = record (project (with_strategies [])) { structure = record { modules = record sample.top { nets = []; instances = []; ports = port (codes "y") Output None ∷ [] } ∷ []; cells = cells } }

abbrev supply_inputs : List PortView
supply_inputs = port (codes "lp_v_VDD") Input None ∷ port (codes "lp_v_VDC") Input None ∷ port (codes "lp_v_VDE") Input None ∷ port (codes "lp_v_VSS") Input None ∷ []

abbrev looped : List AssignView → List ModuleView
looped assigns = record { name = codes "top"; ports = port (codes "y") Output None ∷ supply_inputs; nets = record { name = codes "n"; range = None } ∷ []; instances = []; assigns = assigns } ∷ []

left_open : verdict open_net (looped (assigned (codes "y") (NetBit (codes "n")) ∷ [])) ≡ (true, true)
unfolding computing
left_open = refl

loop_for_an_open_net : verdict open_net (looped (assigned (codes "y") (NetBit (codes "n")) ∷ assigned (codes "n") (NetBit (codes "y")) ∷ [])) ≡ (false, true)
unfolding computing
loop_for_an_open_net = refl

-- the same by nets that are not declared
undeclared_loop : verdict open_net (looped (assigned (codes "y") (NetBit (codes "m")) ∷ assigned (codes "m") (NetBit (codes "k")) ∷ assigned (codes "k") (NetBit (codes "m")) ∷ [])) ≡ (false, true)
unfolding computing
undeclared_loop = refl

-- ---- a port that is turned round goes by place

abbrev pass_through : List PortView → ModuleView
pass_through ports = record { name = codes "top"; ports = ports; nets = []; instances = []; assigns = record { left = SelectBit (codes "y") 1 ∷ SelectBit (codes "y") 0 ∷ []; right = SelectBit (codes "a") 1 ∷ SelectBit (codes "a") 0 ∷ [] } ∷ [] }

abbrev vector : Name → Direction → ℕ → ℕ → PortView
vector n d l r = port n d (Some (record { left = l; right = r }))

abbrev pub straight : Project
straight = record (project (with_strategies [])) { structure = record { modules = pass_through (vector (codes "a") Input 1 0 ∷ vector (codes "y") Output 1 0 ∷ []) ∷ []; cells = cells } }

abbrev pub ports_as : ℕ → ℕ → ℕ → ℕ → List ModuleView
ports_as al ar yl yr = pass_through (vector (codes "a") Input al ar ∷ vector (codes "y") Output yl yr ∷ supply_inputs) ∷ []

-- one port turned round exchanges its bits, both turned round do not, and other bounds change nothing
turned_round : map (verdict straight) (ports_as 1 0 1 0 ∷ ports_as 1 0 0 1 ∷ ports_as 0 1 0 1 ∷ []) ≡ (true, true) ∷ (true, false) ∷ (true, true) ∷ []
unfolding computing
turned_round = refl

other_width : verdict straight (ports_as 1 0 2 0) ≡ (false, false)
unfolding computing
other_width = refl

-- ---- places and choices

abbrev any_cell : Lists
any_cell = record { of_strategy = λ k. None; of_switch = λ o. None; scope_of_switch = λ o. [] }

the_chosen_cell : as_chosen (project by_the_block) netlist any_cell in_block ≡ true
unfolding computing
the_chosen_cell = refl

not_a_listed_one : as_chosen (project by_the_block) netlist (record any_cell { of_strategy = λ k. Some (codes "ISO1" ∷ []) }) in_block ≡ false
unfolding computing
not_a_listed_one = refl

-- a clamp of the block's strategy and one of the top's, in one chain
abbrev on_both_sides : Intent
on_both_sides = with_strategies (isolation 1 None Outputs ∷ isolation 0 (Some (AtInstance (codes "u" ∷ []) ∷ [])) Inputs ∷ [])

paths_of_both : map (operator_path (project on_both_sides)) (all_operators (project on_both_sides)) ≡ Some (codes "u" ∷ []) ∷ Some [] ∷ []
unfolding computing
paths_of_both = refl

-- ---- controls

the_scalar : control_node plain [] (codes "en") ≡ Some (Inner (codes "en") None [])
unfolding computing
the_scalar = refl

the_bit : map (control_node wide []) (codes "n[1]" ∷ codes "n" ∷ codes "n[2]" ∷ []) ≡ Some (Inner (codes "n") (Some 1) []) ∷ None ∷ None ∷ []
unfolding computing
the_bit = rw (decimal_digit 1 (omega arith), decimal_digit 0 (omega arith)) refl

-- the rail of a net of the block may be lower than a supply that reads it
abbrev lower_block : Project
lower_block = record (project (with_strategies [])) { supplies = supplies (On 800000 ∷ []) [] }

too_low : map (λ p. reads_too_low p (Inner (codes "o") None (codes "u" ∷ [])) (Some 0)) (lower_block ∷ record lower_block { margin = 200000 } ∷ project (with_strategies []) ∷ []) ≡ true ∷ false ∷ false ∷ []
unfolding computing
too_low = refl

not_from_the_top : reads_too_low lower_block (Inner (codes "en") None []) (Some 1) ≡ false
unfolding computing
not_from_the_top = refl
