-- The first node with two drivers, computed on a design of two levels: a bus with a constant into a block, whose output comes back.
use Rattle.std.specs.Prelude.{◌≡◌, ℕ, true, false, List, [], ◌∷◌, Option, Some, None, codes}
use Rattle.std.proofs.Common.{refl}
use Rattle.lp_model.specs.declared.graph.EdgeFrom.{EdgeFrom}
use Rattle.lp_model.specs.declared.graph.EdgeFrom.TheVariants.{Node as FromNode, Const as FromConst}
use Rattle.lp_model.specs.declared.netlist.Direction.TheVariants.{Input, Output}
use Rattle.lp_model.specs.NetlistView.{NetBit, SelectBit, ConstBit, ByName, AssignView, ModuleView}
use Rattle.lp_spec_design.specs.Keys.{Node, Inner}
use Rattle.lp_spec_design.specs.Netlists.{Structure}
use Rattle.lp_spec_design.specs.Nodes.{computing}
use Rattle.lp_spec_design.proofs.Samples.{inverter, port, to}
use Rattle.lp_spec_bridge.proofs.Samples.{pin_at}
use Rattle.lp_spec_layout.specs.Parts.{Joint, Child, OfModule, OfCell, Template}
use Rattle.lp_spec_layout.specs.Walked.{sites_of, layout_of}
use Rattle.lp_spec_faults.specs.Lines.{first_of}
use Rattle.lp_spec_faults.specs.Wires.{two_drivers}
use Rattle.lp_spec_drivers.specs.Drivers.{first_driven_twice}

-- module core (d, q) with d[1:0]: a gate from d[1] to q, and assigns
abbrev core : List AssignView → ModuleView
core assigns = record {
  name = codes "core";
  ports = port (codes "d") Input (Some (record { left = 1; right = 0 })) ∷ port (codes "q") Output None ∷ [];
  nets = [];
  instances = record { name = codes "g"; target = codes "INV"; connections = ByName (to (codes "A") (SelectBit (codes "d") 1) ∷ to (codes "Y") (NetBit (codes "q")) ∷ []) } ∷ [];
  assigns = assigns;
}

-- module top (a, y): core u (.d({a, 1'b1}), .q(y)), and assigns
abbrev top : List AssignView → ModuleView
top assigns = record {
  name = codes "top";
  ports = port (codes "a") Input None ∷ port (codes "y") Output None ∷ [];
  nets = [];
  instances = record { name = codes "u"; target = codes "core"; connections = ByName (record { port = codes "d"; bits = NetBit (codes "a") ∷ ConstBit true ∷ [] } ∷ to (codes "q") (NetBit (codes "y")) ∷ []) } ∷ [];
  assigns = assigns;
}

abbrev design : List AssignView → List AssignView → Structure
design outer inner = record { modules = top outer ∷ core inner ∷ []; cells = inverter ∷ [] }

abbrev from : ℕ → EdgeFrom
from k = FromNode (record { 0 = k })

abbrev block : Child
block = record { of = 1; before = record { instances = 1; bits = 2; leaves = 0 }; inputs = (0, from 0) ∷ (1, FromConst true) ∷ []; outputs = (1, from 2) ∷ [] }

abbrev templates : List Joint → List Joint → List Template
templates outer inner = record { statements = OfModule block ∷ []; assigns = outer } ∷ record { statements = OfCell (record { of = 0; before = 0; row = pin_at 0 ∷ pin_at 2 ∷ [] }) ∷ []; assigns = inner } ∷ []

-- by paths, and by number
abbrev named : List AssignView → List AssignView → Option Node
named outer inner = first_of (two_drivers (design outer inner))

abbrev numbered : List AssignView → List AssignView → List Joint → List Joint → Option ℕ
numbered outer inner outer_joints inner_joints = first_driven_twice (design outer inner) (layout_of (templates outer_joints inner_joints) 0 5 (true ∷ false ∷ []))

none_by_name : named [] [] ≡ None
unfolding computing
none_by_name = refl

none_by_number : numbered [] [] [] [] ≡ None
unfolding sites_of
none_by_number = refl

-- assign y = a: the block's output and the assign
abbrev outer_assign : AssignView
outer_assign = record { left = NetBit (codes "y") ∷ []; right = NetBit (codes "a") ∷ [] }

output_by_name : named (outer_assign ∷ []) [] ≡ Some (Inner (codes "y") None [])
unfolding computing
output_by_name = refl

output_by_number : numbered (outer_assign ∷ []) [] ((1, from 0) ∷ []) [] ≡ Some 1
unfolding sites_of
output_by_number = refl

-- in the block, assign d[0] = d[1]: the constant outside and the assign
abbrev inner_assign : AssignView
inner_assign = record { left = SelectBit (codes "d") 0 ∷ []; right = SelectBit (codes "d") 1 ∷ [] }

input_by_name : named [] (inner_assign ∷ []) ≡ Some (Inner (codes "d") (Some 0) (codes "u" ∷ []))
unfolding computing
input_by_name = refl

input_by_number : numbered [] (inner_assign ∷ []) [] ((1, from 0) ∷ []) ≡ Some 3
unfolding sites_of
input_by_number = refl
