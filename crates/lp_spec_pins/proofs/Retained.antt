-- A register with retention and a power switch by their pins, over events.
use Rattle.std.proofs.Common.{◌≡◌, List, false, [], ◌∷◌, ◌++◌, Option, Some, None, refl}
use Rattle.std.specs.Prelude.{◌||◌, bytes_eq, if◌then◌else◌, codes}
use Rattle.lp_tern.specs.declared.tern.Tern.{Tern}
use Rattle.lp_tern.specs.declared.tern.Tern.TheVariants.{Zero, One, X}
use Rattle.lp_tern.specs.declared.supply.SupplyState.{SupplyState}
use Rattle.lp_tern.specs.declared.supply.SupplyState.TheVariants.{On, Off, Unknown}
use Rattle.lp_expr.specs.declared.step.Step.TheVariants.{Variable, Not, Or}
use Rattle.lp_model.specs.declared.netlist.Direction.TheVariants.{Input, Output}
use Rattle.lp_model.specs.declared.library.PgKind.TheVariants.{PrimaryPower, PrimaryGround, BackupPower, InternalPower}
use Rattle.lp_model.specs.declared.library.PinUse.TheVariants.{Retain}
use Rattle.lp_model.specs.declared.library.RetClass.TheVariants.{Save, Restore, Both}
use Rattle.lp_model.specs.declared.library.Action.TheVariants.{Rise, Fall}
use Rattle.lp_model.specs.declared.library.Action.{Action}
use Rattle.lp_model.specs.declared.library.StateKind.TheVariants.{Flop}
use Rattle.lp_model.specs.NetlistView.{ByName, ModuleView}
use Rattle.lp_model.specs.LibraryView.{ExprView, PinView, CellView}
use Rattle.lp_spec_design.specs.Keys.{Name}
use Rattle.lp_spec_design.specs.Nodes.{computing}
use Rattle.lp_spec_pins.specs.Pins.{Surroundings, Powered, PinAssignment, PinEvent, output_by_pins, computed_by_pins}
use Rattle.lp_spec_design.specs.Registers.{States}
use Rattle.lp_spec_pins.specs.Registers.{states_after_by_pins}
use Rattle.lp_spec_design.proofs.Samples.{port, cell, pin, never, one_name}
use Rattle.lp_spec_pins.proofs.Clamped.{down, input, supplied, cells, joined, top_supply}

-- ---- cells

abbrev named_output : Name → Name → PinView
named_output n f = record (pin n Output (Some (one_name f))) { gnd = Some 1; power_down = Some down }

abbrev flop : CellView
flop = record (supplied (cell (codes "DFF") (input (codes "D") ∷ input (codes "CK") ∷ named_output (codes "Q") (codes "IQ") ∷ []))) {
  state = Some (record { kind = Flop; var = codes "IQ"; inverse = codes "IQN"; next = one_name (codes "D"); clock = one_name (codes "CK"); clear = never; preset = never; power_down = down });
}

abbrev spare_down : ExprView
spare_down = record { variables = codes "VDDB" ∷ codes "VSS" ∷ []; steps = Variable 0 ∷ Not ∷ Variable 1 ∷ Or ∷ [] }

-- a flop that is saved as SAVE rises and restored as RST does, both on the power pin VDDB
abbrev retaining_flop : CellView
retaining_flop = record flop {
  name = codes "RDFF";
  pgs = flop.pgs ++ (record { name = codes "VDDB"; kind = BackupPower; switched = None } ∷ []);
  pins = flop.pins ++ (record (input (codes "SAVE")) { power = 2; use_of = Retain Save (Some Rise) None } ∷ record (input (codes "RST")) { power = 2; use_of = Retain Restore None (Some Rise) } ∷ []);
  roles = record { iso = false; shifter = None; retention = Some spare_down; switch = false };
}

-- a switch of VDDG to VDD that is off where SLEEP is 1
abbrev switch : CellView
switch = record (cell (codes "HDSW") (input (codes "SLEEP") ∷ [])) {
  pgs =
      record { name = codes "VDDG"; kind = PrimaryPower; switched = None }
      ∷ record { name = codes "VSS"; kind = PrimaryGround; switched = None }
      ∷ record { name = codes "VDD"; kind = InternalPower; switched = Some (record { off = one_name (codes "SLEEP"); passes = 0 }) }
      ∷ [];
}

-- ---- a block with a register that is retained

abbrev inner : ModuleView
inner = record {
  name = codes "lp_1_core";
  ports = port (codes "i") Input None ∷ port (codes "ck") Input None ∷ port (codes "o") Output None ∷ port (codes "lp_v_VDD") Input None ∷ port (codes "lp_v_VDC") Input None ∷ port (codes "lp_v_VDR") Input None ∷ port (codes "lp_v_VSS") Input None ∷ port (codes "lp_c_0") Input None ∷ port (codes "lp_c_1") Input None ∷ port (codes "lp_c_2") Input None ∷ [];
  nets = record { name = codes "lp_n_0"; range = None } ∷ [];
  instances =
      record { name = codes "r"; target = codes "RDFF"; connections = ByName (joined (codes "D") (codes "i") ∷ joined (codes "CK") (codes "ck") ∷ joined (codes "Q") (codes "lp_n_0") ∷ joined (codes "SAVE") (codes "lp_c_1") ∷ joined (codes "RST") (codes "lp_c_2") ∷ joined (codes "VDD") (codes "lp_v_VDC") ∷ joined (codes "VDDB") (codes "lp_v_VDR") ∷ joined (codes "VSS") (codes "lp_v_VSS") ∷ []) }
      ∷ record { name = codes "lp_i_0"; target = codes "ISO0"; connections = ByName (joined (codes "D") (codes "lp_n_0") ∷ joined (codes "EN") (codes "lp_c_0") ∷ joined (codes "Y") (codes "o") ∷ joined (codes "VDD") (codes "lp_v_VDD") ∷ joined (codes "VSS") (codes "lp_v_VSS") ∷ []) }
      ∷ [];
  assigns = [];
}

abbrev outer : ModuleView
outer = record {
  name = codes "top";
  ports = port (codes "a") Input None ∷ port (codes "ck") Input None ∷ port (codes "en") Input None ∷ port (codes "sv") Input None ∷ port (codes "rs") Input None ∷ port (codes "y") Output None ∷ port (codes "lp_v_VDD") Input None ∷ port (codes "lp_v_VDC") Input None ∷ port (codes "lp_v_VDR") Input None ∷ port (codes "lp_v_VSS") Input None ∷ [];
  nets = record { name = codes "n"; range = None } ∷ [];
  instances =
      record { name = codes "u"; target = codes "lp_1_core"; connections = ByName (joined (codes "i") (codes "a") ∷ joined (codes "ck") (codes "ck") ∷ joined (codes "o") (codes "n") ∷ joined (codes "lp_v_VDD") (codes "lp_v_VDD") ∷ joined (codes "lp_v_VDC") (codes "lp_v_VDC") ∷ joined (codes "lp_v_VDR") (codes "lp_v_VDR") ∷ joined (codes "lp_v_VSS") (codes "lp_v_VSS") ∷ joined (codes "lp_c_0") (codes "en") ∷ joined (codes "lp_c_1") (codes "sv") ∷ joined (codes "lp_c_2") (codes "rs") ∷ []) }
      ∷ record { name = codes "b"; target = codes "BUF"; connections = ByName (joined (codes "A") (codes "n") ∷ joined (codes "Y") (codes "y") ∷ joined (codes "VDD") (codes "lp_v_VDD") ∷ joined (codes "VSS") (codes "lp_v_VSS") ∷ []) }
      ∷ [];
  assigns = [];
}

abbrev around : Surroundings
around = record {
  is_supply = λ n. bytes_eq n (codes "lp_v_VDD") || (bytes_eq n (codes "lp_v_VDC") || (bytes_eq n (codes "lp_v_VDR") || bytes_eq n (codes "lp_v_VSS")));
  driver = λ n. top_supply;
  receiver = λ n. top_supply;
  margin = 0;
}

abbrev written : Powered
written = record { structure = record { modules = outer ∷ inner ∷ []; cells = flop ∷ retaining_flop ∷ switch ∷ cells }; around = around }

abbrev event_with : SupplyState → Tern → Tern → Tern → Tern → SupplyState → PinEvent
event_with spare ck en sv rs block = record {
  inputs = λ n j. if bytes_eq n (codes "ck") then ck else if bytes_eq n (codes "en") then en else if bytes_eq n (codes "sv") then sv else if bytes_eq n (codes "rs") then rs else One;
  supplies = λ n. if bytes_eq n (codes "lp_v_VDC") then block else if bytes_eq n (codes "lp_v_VDR") then spare else if bytes_eq n (codes "lp_v_VSS") then On 0 else On 1000000;
}

abbrev event : Tern → Tern → Tern → Tern → SupplyState → PinEvent
event = event_with (On 1000000)

abbrev states : Tern → Tern → States
states m v = record { main = λ p x. m; saved = λ p x. v }

abbrev settled : PinEvent → Tern → PinAssignment
settled ev m = computed_by_pins written ev (states m X).main 12

abbrev y : PinEvent → Tern → Tern
y ev m = output_by_pins written (settled ev m) (codes "y") None

abbrev of_register : States → Tern × Tern
of_register q = (q.main (codes "u" ∷ []) (codes "r"), q.saved (codes "u" ∷ []) (codes "r"))

abbrev next : Option PinAssignment → PinEvent → Tern → Tern → Tern × Tern
next last ev m v = of_register (states_after_by_pins written last (settled ev m) (states m v))

abbrev idle : PinEvent
idle = event Zero Zero Zero Zero (On 1000000)

abbrev clocked : PinEvent
clocked = event One Zero Zero Zero (On 1000000)

abbrev saving : PinEvent
saving = event Zero Zero One Zero (On 1000000)

abbrev off : PinEvent
off = event Zero One Zero Zero Off

abbrev restoring : PinEvent
restoring = event Zero One Zero One (On 1000000)

first : y idle X ≡ X
unfolding computing
first = refl

after_first : next None idle X X ≡ (X, X)
unfolding computing
after_first = refl

second : y clocked X ≡ X
unfolding computing
second = refl

after_second : next (Some (settled idle X)) clocked X X ≡ (One, X)
unfolding computing
after_second = refl

third : y saving One ≡ One
unfolding computing
third = refl

after_third : next (Some (settled clocked X)) saving One X ≡ (One, One)
unfolding computing
after_third = refl

fourth : y off One ≡ Zero
unfolding computing
fourth = refl

after_fourth : next (Some (settled saving One)) off One One ≡ (X, One)
unfolding computing
after_fourth = refl

fifth : y restoring X ≡ Zero
unfolding computing
fifth = refl

after_fifth : next (Some (settled off One)) restoring X One ≡ (One, One)
unfolding computing
after_fifth = refl

sixth : y idle One ≡ One
unfolding computing
sixth = refl

-- where the retention supply is unknown while the block is off, the saved state is lost too
after_fourth_unknown : next (Some (settled saving One)) (event_with Unknown Zero One Zero Zero Off) One One ≡ (X, X)
unfolding computing
after_fourth_unknown = refl

-- ---- what the pins of a retention cell do goes by their class

abbrev retaining_with : List PinView → Powered
retaining_with pins = record written { structure = record { modules = outer ∷ inner ∷ []; cells = flop ∷ record retaining_flop { pins = flop.pins ++ pins } ∷ switch ∷ cells } }

abbrev save_pin : Option Action → PinView
save_pin restore = record (input (codes "SAVE")) { power = 2; use_of = Retain Save (Some Rise) restore }

abbrev restore_pin : Option Action → PinView
restore_pin save = record (input (codes "RST")) { power = 2; use_of = Retain Restore save (Some Rise) }

-- what an event makes of a main and a saved state, after another event
abbrev stepped : List PinView → PinEvent → PinEvent → Tern → Tern → Tern × Tern
stepped pins before now m v = let w = retaining_with pins in of_register (states_after_by_pins w (Some (computed_by_pins w before (states m v).main 12)) (computed_by_pins w now (states m v).main 12) (states m v))

-- a save pin that bears a restore action does not restore by it, and the restore pin does
save_pin_restores_nothing : stepped (save_pin (Some Fall) ∷ restore_pin None ∷ []) saving idle Zero One ≡ (Zero, One)
unfolding computing
save_pin_restores_nothing = refl

restore_pin_restores : stepped (save_pin (Some Fall) ∷ restore_pin None ∷ []) idle restoring Zero One ≡ (One, One)
unfolding computing
restore_pin_restores = refl

-- a restore pin that bears a save action does not save by it
restore_pin_saves_nothing : stepped (restore_pin (Some Rise) ∷ save_pin None ∷ []) idle restoring Zero One ≡ (One, One)
unfolding computing
restore_pin_saves_nothing = refl

-- a cell without a restore pin never restores, and one without a save pin never saves
no_restore_pin : stepped (save_pin None ∷ []) idle saving Zero One ≡ (Zero, Zero)
unfolding computing
no_restore_pin = refl

no_save_pin : stepped (restore_pin None ∷ []) idle restoring Zero One ≡ (One, One)
unfolding computing
no_save_pin = refl

-- a pin of both classes saves and restores
abbrev one_pin : List PinView
one_pin = record (input (codes "SAVE")) { power = 2; use_of = Retain Both (Some Rise) (Some Fall) } ∷ []

one_pin_saves : stepped one_pin idle saving Zero One ≡ (Zero, Zero)
unfolding computing
one_pin_saves = refl

one_pin_restores : stepped one_pin saving idle Zero One ≡ (One, One)
unfolding computing
one_pin_restores = refl

-- ---- a block that is supplied through a switch

abbrev plain_inner : ModuleView
plain_inner = record {
  name = codes "lp_1_core";
  ports = port (codes "i") Input None ∷ port (codes "o") Output None ∷ port (codes "lp_v_VDD") Input None ∷ port (codes "lp_v_VDC") Input None ∷ port (codes "lp_v_VSS") Input None ∷ port (codes "lp_c_0") Input None ∷ [];
  nets = record { name = codes "lp_n_0"; range = None } ∷ [];
  instances =
      record { name = codes "g"; target = codes "INV"; connections = ByName (joined (codes "A") (codes "i") ∷ joined (codes "Y") (codes "lp_n_0") ∷ joined (codes "VDD") (codes "lp_v_VDC") ∷ joined (codes "VSS") (codes "lp_v_VSS") ∷ []) }
      ∷ record { name = codes "lp_i_0"; target = codes "ISO0"; connections = ByName (joined (codes "D") (codes "lp_n_0") ∷ joined (codes "EN") (codes "lp_c_0") ∷ joined (codes "Y") (codes "o") ∷ joined (codes "VDD") (codes "lp_v_VDD") ∷ joined (codes "VSS") (codes "lp_v_VSS") ∷ []) }
      ∷ [];
  assigns = [];
}

abbrev switched_outer : ModuleView
switched_outer = record {
  name = codes "top";
  ports = port (codes "a") Input None ∷ port (codes "en") Input None ∷ port (codes "y") Output None ∷ port (codes "lp_v_VDD") Input None ∷ port (codes "lp_v_VSS") Input None ∷ [];
  nets = record { name = codes "n"; range = None } ∷ record { name = codes "sl"; range = None } ∷ record { name = codes "lp_v_VDC"; range = None } ∷ [];
  instances =
      record { name = codes "k"; target = codes "DFF"; connections = ByName (joined (codes "D") (codes "a") ∷ joined (codes "CK") (codes "en") ∷ joined (codes "Q") (codes "sl") ∷ joined (codes "VDD") (codes "lp_v_VDD") ∷ joined (codes "VSS") (codes "lp_v_VSS") ∷ []) }
      ∷ record { name = codes "lp_s_0"; target = codes "HDSW"; connections = ByName (joined (codes "SLEEP") (codes "sl") ∷ joined (codes "VDDG") (codes "lp_v_VDD") ∷ joined (codes "VDD") (codes "lp_v_VDC") ∷ joined (codes "VSS") (codes "lp_v_VSS") ∷ []) }
      ∷ record { name = codes "u"; target = codes "lp_1_core"; connections = ByName (joined (codes "i") (codes "a") ∷ joined (codes "o") (codes "n") ∷ joined (codes "lp_v_VDD") (codes "lp_v_VDD") ∷ joined (codes "lp_v_VDC") (codes "lp_v_VDC") ∷ joined (codes "lp_v_VSS") (codes "lp_v_VSS") ∷ joined (codes "lp_c_0") (codes "en") ∷ []) }
      ∷ record { name = codes "b"; target = codes "BUF"; connections = ByName (joined (codes "A") (codes "n") ∷ joined (codes "Y") (codes "y") ∷ joined (codes "VDD") (codes "lp_v_VDD") ∷ joined (codes "VSS") (codes "lp_v_VSS") ∷ []) }
      ∷ [];
  assigns = [];
}

abbrev switched : Powered
switched = record { structure = record { modules = switched_outer ∷ plain_inner ∷ []; cells = flop ∷ switch ∷ cells }; around = around }

abbrev all_zero : PinEvent
all_zero = record { inputs = λ n j. Zero; supplies = λ n. if bytes_eq n (codes "lp_v_VSS") then On 0 else On 1000000 }

abbrev switched_y : Tern → Tern
switched_y state = output_by_pins switched (computed_by_pins switched all_zero (states state X).main 12) (codes "y") None

control_unknown : switched_y X ≡ X
unfolding computing
control_unknown = refl

control_active : switched_y Zero ≡ One
unfolding computing
control_active = refl

control_inactive : switched_y One ≡ X
unfolding computing
control_inactive = refl
