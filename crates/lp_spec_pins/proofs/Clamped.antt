-- A small netlist with its supplies, judged by its pins, also with a level shifter.
use Rattle.std.proofs.Common.{◌≡◌, true, false, [], ◌∷◌, List, Some, None, refl}
use Rattle.std.specs.Prelude.{ℕ, ◌||◌, bytes_eq, if◌then◌else◌, codes}
use Rattle.lp_tern.specs.declared.tern.Tern.{Tern}
use Rattle.lp_tern.specs.declared.tern.Tern.TheVariants.{Zero, One, X}
use Rattle.lp_tern.specs.declared.supply.SupplyState.{SupplyState}
use Rattle.lp_tern.specs.declared.supply.SupplyState.TheVariants.{On, Off, Unknown}
use Rattle.lp_expr.specs.declared.step.Step.TheVariants.{Variable, Not, And, Or}
use Rattle.lp_model.specs.declared.netlist.Direction.TheVariants.{Input, Output}
use Rattle.lp_model.specs.declared.library.PgKind.TheVariants.{PrimaryPower, PrimaryGround}
use Rattle.lp_model.specs.declared.library.PinUse.TheVariants.{ShiftData}
use Rattle.lp_model.specs.declared.library.ShifterKind.TheVariants.{LowToHigh}
use Rattle.lp_model.specs.NetlistView.{NetBit, ByName, ConnectionView, ModuleView}
use Rattle.lp_model.specs.LibraryView.{ExprView, PinView, CellView}
use Rattle.lp_spec_design.specs.Keys.{Name, Inner}
use Rattle.lp_spec_design.specs.Nodes.{computing}
use Rattle.lp_spec_design.specs.Settled.{Registers}
use Rattle.lp_spec_pins.specs.Pins.{FromTop, is_zero_for, SupplyNodes, Surroundings, Powered, PinEvent, output_by_pins, computed_by_pins}
use Rattle.lp_spec_pins.specs.Supplied.{is_supplied}
use Rattle.lp_spec_design.proofs.Samples.{one_name, port, to, cell, pin}

-- ---- cells with a power pin VDD and a ground pin VSS

abbrev pub down : ExprView
down = record { variables = codes "VDD" ∷ codes "VSS" ∷ []; steps = Variable 0 ∷ Not ∷ Variable 1 ∷ Or ∷ [] }

abbrev pub input : Name → PinView
input n = record (pin n Input None) { gnd = Some 1 }

abbrev pub out : ExprView → PinView
out e = record (pin (codes "Y") Output (Some e)) { gnd = Some 1; power_down = Some down }

abbrev pub supplied : CellView → CellView
supplied c = record c { pgs = record { name = codes "VDD"; kind = PrimaryPower; switched = None } ∷ record { name = codes "VSS"; kind = PrimaryGround; switched = None } ∷ [] }

abbrev pub cells : List CellView
cells =
    supplied (cell (codes "INV") (input (codes "A") ∷ out (record { variables = codes "A" ∷ []; steps = Variable 0 ∷ Not ∷ [] }) ∷ []))
    ∷ supplied (cell (codes "BUF") (input (codes "A") ∷ out (record { variables = codes "A" ∷ []; steps = Variable 0 ∷ [] }) ∷ []))
    ∷ supplied (cell (codes "ISO0") (input (codes "D") ∷ input (codes "EN") ∷ out (record { variables = codes "D" ∷ codes "EN" ∷ []; steps = Variable 0 ∷ Variable 1 ∷ Not ∷ And ∷ [] }) ∷ []))
    ∷ []

-- ---- a block whose output has a clamp, as it is written

abbrev pub joined : Name → Name → ConnectionView
joined p n = to p (NetBit n)

abbrev pub by_supplies : List ConnectionView
by_supplies = joined (codes "lp_v_VDD") (codes "lp_v_VDD") ∷ joined (codes "lp_v_VDC") (codes "lp_v_VDC") ∷ joined (codes "lp_v_VSS") (codes "lp_v_VSS") ∷ joined (codes "lp_c_0") (codes "en") ∷ []

abbrev pub inner : ModuleView
inner = record {
  name = codes "lp_1_core";
  ports = port (codes "i") Input None ∷ port (codes "o") Output None ∷ port (codes "lp_v_VDD") Input None ∷ port (codes "lp_v_VDC") Input None ∷ port (codes "lp_v_VSS") Input None ∷ port (codes "lp_c_0") Input None ∷ [];
  nets = record { name = codes "lp_n_0"; range = None } ∷ [];
  instances =
      record { name = codes "g"; target = codes "INV"; connections = ByName (joined (codes "A") (codes "i") ∷ joined (codes "Y") (codes "lp_n_0") ∷ joined (codes "VDD") (codes "lp_v_VDC") ∷ joined (codes "VSS") (codes "lp_v_VSS") ∷ []) }
      ∷ record { name = codes "lp_i_0"; target = codes "ISO0"; connections = ByName (joined (codes "D") (codes "lp_n_0") ∷ joined (codes "EN") (codes "lp_c_0") ∷ joined (codes "Y") (codes "o") ∷ joined (codes "VDD") (codes "lp_v_VDD") ∷ joined (codes "VSS") (codes "lp_v_VSS") ∷ []) }
      ∷ [];
  assigns = [];
}

abbrev pub outer : ModuleView
outer = record {
  name = codes "top";
  ports = port (codes "a") Input None ∷ port (codes "en") Input None ∷ port (codes "y") Output None ∷ port (codes "lp_v_VDD") Input None ∷ port (codes "lp_v_VDC") Input None ∷ port (codes "lp_v_VSS") Input None ∷ [];
  nets = record { name = codes "n"; range = None } ∷ [];
  instances =
      record { name = codes "u"; target = codes "lp_1_core"; connections = ByName (joined (codes "i") (codes "a") ∷ joined (codes "o") (codes "n") ∷ by_supplies) }
      ∷ record { name = codes "b"; target = codes "BUF"; connections = ByName (joined (codes "A") (codes "n") ∷ joined (codes "Y") (codes "y") ∷ joined (codes "VDD") (codes "lp_v_VDD") ∷ joined (codes "VSS") (codes "lp_v_VSS") ∷ []) }
      ∷ [];
  assigns = [];
}

abbrev pub top_supply : SupplyNodes
top_supply = record { power = Inner (codes "lp_v_VDD") None []; gnd = Inner (codes "lp_v_VSS") None [] }

abbrev pub around : ℕ → Surroundings
around margin = record {
  is_supply = λ n. bytes_eq n (codes "lp_v_VDD") || (bytes_eq n (codes "lp_v_VDC") || bytes_eq n (codes "lp_v_VSS"));
  driver = λ n. top_supply;
  receiver = λ n. top_supply;
  margin = margin;
}

abbrev pub written : ℕ → Powered
written margin = record { structure = record { modules = outer ∷ inner ∷ []; cells = cells }; around = around margin }

-- the top's supply is on, the block's is given, and so is the ground
abbrev pub event : Tern → Tern → SupplyState → PinEvent
event a en block = record {
  inputs = λ n j. if bytes_eq n (codes "a") then a else en;
  supplies = λ n. if bytes_eq n (codes "lp_v_VDC") then block else if bytes_eq n (codes "lp_v_VSS") then On 0 else On 1000000;
}

abbrev pub no_registers : Registers
no_registers p q = X

abbrev pub y_with : ℕ → PinEvent → Tern
y_with margin ev = output_by_pins (written margin) (computed_by_pins (written margin) ev no_registers 12) (codes "y") None

abbrev pub y : PinEvent → Tern
y ev = y_with 0 ev

all_on : y (event Zero Zero (On 1000000)) ≡ One
unfolding computing
all_on = refl

block_off : y (event Zero Zero Off) ≡ X
unfolding computing
block_off = refl

block_off_and_clamped : y (event Zero One Off) ≡ Zero
unfolding computing
block_off_and_clamped = refl

unknown_control_over_the_clamp_value : y (event One X (On 1000000)) ≡ Zero
unfolding computing
unknown_control_over_the_clamp_value = refl

unknown_control_over_the_other : y (event Zero X (On 1000000)) ≡ X
unfolding computing
unknown_control_over_the_other = refl

unknown_supply : y (event Zero Zero Unknown) ≡ X
unfolding computing
unknown_supply = refl

-- a block that is lower than the clamp's supply is not read, but within the margin
lower_block : y (event Zero Zero (On 800000)) ≡ X
unfolding computing
lower_block = refl

within_the_margin : y_with 200000 (event Zero Zero (On 800000)) ≡ One
unfolding computing
within_the_margin = refl

beyond_the_margin : y_with 199999 (event Zero Zero (On 800000)) ≡ X
unfolding computing
beyond_the_margin = refl

-- a block that is higher than the top does not read the top's input
higher_block : y (event Zero Zero (On 1200000)) ≡ X
unfolding computing
higher_block = refl

higher_block_within_the_margin : y_with 200000 (event Zero Zero (On 1200000)) ≡ One
unfolding computing
higher_block_within_the_margin = refl

all_supplied : is_supplied (written 0) ≡ true
unfolding computing
all_supplied = refl

-- the same without the ports through which the block gets its supplies
abbrev unjoined : ModuleView
unjoined = record inner { ports = port (codes "i") Input None ∷ port (codes "o") Output None ∷ [] }

not_supplied : is_supplied (record (written 0) { structure = record { modules = outer ∷ unjoined ∷ []; cells = cells } }) ≡ false
unfolding computing
not_supplied = refl

-- the supply net of the block has two sources: its port, and an assign
abbrev twice_supplied : ModuleView
twice_supplied = record inner { assigns = record { left = NetBit (codes "lp_v_VDC") ∷ []; right = NetBit (codes "lp_v_VDD") ∷ [] } ∷ [] }

two_supplies : is_supplied (record (written 0) { structure = record { modules = outer ∷ twice_supplied ∷ []; cells = cells } }) ≡ false
unfolding computing
two_supplies = refl

-- ---- pins on one source are on together

abbrev two_powers : CellView
two_powers = record (cell (codes "C") []) { pgs = record { name = codes "P"; kind = PrimaryPower; switched = None } ∷ record { name = codes "Q"; kind = PrimaryPower; switched = None } ∷ record { name = codes "G"; kind = PrimaryGround; switched = None } ∷ [] }

abbrev first_without_second : ExprView
first_without_second = record { variables = codes "P" ∷ codes "Q" ∷ []; steps = Variable 0 ∷ Variable 1 ∷ Not ∷ And ∷ [] }

one_source : is_zero_for two_powers first_without_second (Some (FromTop (codes "s")) ∷ Some (FromTop (codes "s")) ∷ []) (X ∷ X ∷ []) ≡ true
unfolding computing
one_source = refl

two_sources : is_zero_for two_powers first_without_second (Some (FromTop (codes "s")) ∷ Some (FromTop (codes "t")) ∷ []) (X ∷ X ∷ []) ≡ false
unfolding computing
two_sources = refl

-- a power and a ground pin on one source have complementary levels
abbrev power_with_ground : ExprView
power_with_ground = record { variables = codes "P" ∷ codes "G" ∷ []; steps = Variable 0 ∷ Variable 1 ∷ And ∷ [] }

complementary : is_zero_for two_powers power_with_ground (Some (FromTop (codes "s")) ∷ Some (FromTop (codes "s")) ∷ []) (X ∷ X ∷ []) ≡ true
unfolding computing
complementary = refl

-- ---- a lower block with a level shifter from low to high before its clamp

abbrev shifter : CellView
shifter = record (cell (codes "LSLH") (record (pin (codes "A") Input None) { gnd = Some 2; use_of = ShiftData } ∷ record (pin (codes "Y") Output (Some (one_name (codes "A")))) { power = 1; gnd = Some 2; power_down = Some (record { variables = codes "VDDI" ∷ codes "VDDO" ∷ codes "VSS" ∷ []; steps = Variable 0 ∷ Not ∷ Variable 1 ∷ Not ∷ Or ∷ Variable 2 ∷ Or ∷ [] }) } ∷ [])) {
  pgs = record { name = codes "VDDI"; kind = PrimaryPower; switched = None } ∷ record { name = codes "VDDO"; kind = PrimaryPower; switched = None } ∷ record { name = codes "VSS"; kind = PrimaryGround; switched = None } ∷ [];
  roles = record { iso = false; shifter = Some (record { input = None; output = None; kind = LowToHigh }); retention = None; switch = false };
}

abbrev shifted_inner : ModuleView
shifted_inner = record inner {
  nets = record { name = codes "lp_n_0"; range = None } ∷ record { name = codes "lp_n_1"; range = None } ∷ [];
  instances =
      record { name = codes "g"; target = codes "INV"; connections = ByName (joined (codes "A") (codes "i") ∷ joined (codes "Y") (codes "lp_n_0") ∷ joined (codes "VDD") (codes "lp_v_VDC") ∷ joined (codes "VSS") (codes "lp_v_VSS") ∷ []) }
      ∷ record { name = codes "lp_l_0"; target = codes "LSLH"; connections = ByName (joined (codes "A") (codes "lp_n_0") ∷ joined (codes "Y") (codes "lp_n_1") ∷ joined (codes "VDDI") (codes "lp_v_VDC") ∷ joined (codes "VDDO") (codes "lp_v_VDD") ∷ joined (codes "VSS") (codes "lp_v_VSS") ∷ []) }
      ∷ record { name = codes "lp_i_0"; target = codes "ISO0"; connections = ByName (joined (codes "D") (codes "lp_n_1") ∷ joined (codes "EN") (codes "lp_c_0") ∷ joined (codes "Y") (codes "o") ∷ joined (codes "VDD") (codes "lp_v_VDD") ∷ joined (codes "VSS") (codes "lp_v_VSS") ∷ []) }
      ∷ [];
}

abbrev shifted : Powered
shifted = record (written 0) { structure = record { modules = outer ∷ shifted_inner ∷ []; cells = shifter ∷ cells } }

abbrev shifted_y : PinEvent → Tern
shifted_y ev = output_by_pins shifted (computed_by_pins shifted ev no_registers 14) (codes "y") None

low_is_shifted : shifted_y (event Zero Zero (On 800000)) ≡ One
unfolding computing
low_is_shifted = refl

low_off_is_clamped : shifted_y (event Zero One Off) ≡ Zero
unfolding computing
low_off_is_clamped = refl

-- above its output a shifter from low to high is outside its type
abbrev high_y : CellView → Tern
high_y c = let w = record shifted { structure = record { modules = outer ∷ shifted_inner ∷ []; cells = c ∷ cells }; around = around 1000000 } in output_by_pins w (computed_by_pins w (event Zero Zero (On 1200000)) no_registers 14) (codes "y") None

high_is_outside : high_y shifter ≡ X
unfolding computing
high_is_outside = refl

-- an output that bears the mark of the data is no data pin
output_with_the_mark : high_y (record shifter { pins = record (pin (codes "Z") Output None) { power = 1; gnd = Some 2; use_of = ShiftData } ∷ shifter.pins }) ≡ X
unfolding computing
output_with_the_mark = refl

-- with two data pins nothing is judged
two_data_pins : high_y (record shifter { pins = record (pin (codes "B") Input None) { gnd = Some 2; use_of = ShiftData } ∷ shifter.pins }) ≡ One
unfolding computing
two_data_pins = refl
