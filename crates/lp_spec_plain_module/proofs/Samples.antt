-- A small flat design: a gate whose output a register takes.
use Rattle.std.specs.Prelude.{false, List, [], ◌∷◌, Some, None, codes}
use Rattle.lp_model.specs.declared.netlist.Direction.TheVariants.{Input, Output}
use Rattle.lp_model.specs.declared.netlist.Direction.{Direction}
use Rattle.lp_model.specs.declared.library.PgKind.{PgKind}
use Rattle.lp_model.specs.declared.library.PgKind.TheVariants.{PrimaryPower, PrimaryGround, Nwell, Pwell}
use Rattle.lp_model.specs.declared.library.PinUse.TheVariants.{Plain}
use Rattle.lp_model.specs.declared.library.StateKind.TheVariants.{Flop}
use Rattle.lp_model.specs.NetlistView.{NetBit, ConnectionView, ByName, PortView, InstanceView, ModuleView}
use Rattle.lp_model.specs.LibraryView.{ExprView, PgPinView, PinView, CellView}
use Rattle.lp_expr.specs.declared.step.Step.TheVariants as steps
use Rattle.lp_spec_design.specs.Keys.{Name}
use Rattle.lp_spec_plain_module.specs.Designs.{Flat}

abbrev pub pg : Name → PgKind → PgPinView
pg n kind = record { name = n; kind = kind; switched = None }

-- "!VDD + VSS"
abbrev pub down : ExprView
down = record { variables = codes "VDD" ∷ codes "VSS" ∷ []; steps = steps.Variable 0 ∷ steps.Not ∷ steps.Variable 1 ∷ steps.Or ∷ [] }

abbrev pub input : Name → PinView
input n = record { name = n; direction = Input; function = None; power_down = None; power = 0; gnd = Some 1; use_of = Plain }

abbrev pub output : Name → ExprView → PinView
output n f = record { name = n; direction = Output; function = Some f; power_down = Some down; power = 0; gnd = Some 1; use_of = Plain }

abbrev pub of_name : Name → ExprView
of_name n = record { variables = n ∷ []; steps = steps.Variable 0 ∷ [] }

abbrev pub never : ExprView
never = record { variables = []; steps = steps.Constant false ∷ [] }

-- an AND gate with wells
abbrev pub and2 : CellView
and2 = record {
  name = codes "AND2W";
  area = 3000000;
  pgs = pg (codes "VDD") PrimaryPower ∷ pg (codes "VSS") PrimaryGround ∷ pg (codes "VNW") Nwell ∷ pg (codes "VPW") Pwell ∷ [];
  pins = input (codes "A") ∷ input (codes "B") ∷ output (codes "Y") (record { variables = codes "A" ∷ codes "B" ∷ []; steps = steps.Variable 0 ∷ steps.Variable 1 ∷ steps.And ∷ [] }) ∷ [];
  state = None;
  roles = record { iso = false; shifter = None; retention = None; switch = false };
  unusable = None;
}

abbrev pub dff : CellView
dff = record {
  name = codes "DFF";
  area = 6000000;
  pgs = pg (codes "VDD") PrimaryPower ∷ pg (codes "VSS") PrimaryGround ∷ [];
  pins = input (codes "D") ∷ input (codes "CK") ∷ output (codes "Q") (of_name (codes "IQ")) ∷ [];
  state = Some (record { kind = Flop; var = codes "IQ"; inverse = codes "IQN"; next = of_name (codes "D"); clock = of_name (codes "CK"); clear = never; preset = never; power_down = down });
  roles = record { iso = false; shifter = None; retention = None; switch = false };
  unusable = None;
}

abbrev pub to : Name → Name → ConnectionView
to pin net = record { port = pin; bits = NetBit net ∷ [] }

abbrev pub scalar : Name → Direction → PortView
scalar n direction = record { name = n; direction = direction; range = None }

abbrev pub gate : List ConnectionView → InstanceView
gate more = record { name = codes "g"; target = codes "AND2W"; connections = ByName (to (codes "A") (codes "a") ∷ to (codes "B") (codes "b") ∷ to (codes "Y") (codes "n") ∷ more) }

abbrev pub register : List ConnectionView → InstanceView
register more = record { name = codes "r"; target = codes "DFF"; connections = ByName (to (codes "D") (codes "n") ∷ to (codes "CK") (codes "ck") ∷ to (codes "Q") (codes "q") ∷ more) }

abbrev pub source : ModuleView
source = record {
  name = codes "t";
  ports = scalar (codes "a") Input ∷ scalar (codes "b") Input ∷ scalar (codes "ck") Input ∷ scalar (codes "q") Output ∷ [];
  nets = record { name = codes "n"; range = None } ∷ [];
  instances = gate [] ∷ register [] ∷ [];
  assigns = [];
}

abbrev pub design : Flat
design = record { cells = and2 ∷ dff ∷ []; source = source; power = codes "VDD"; gnd = codes "VSS"; margin = 0 }
