-- A small library on which the definitions are computed.
use Rattle.std.specs.Prelude.{ℕ, Bool, true, false, List, [], ◌∷◌, ◌++◌, Some, None, codes}
use Rattle.lp_expr.specs.declared.step.Step.TheVariants.{Variable, Not, And, Or}
use Rattle.lp_model.specs.declared.netlist.Direction.TheVariants.{Input, Output}
use Rattle.lp_model.specs.declared.library.Action.{Action}
use Rattle.lp_model.specs.declared.library.Action.TheVariants.{Rise}
use Rattle.lp_model.specs.declared.library.PgKind.{PgKind}
use Rattle.lp_model.specs.declared.library.PgKind.TheVariants.{PrimaryPower, PrimaryGround, BackupPower, InternalPower, Nwell, Pwell}
use Rattle.lp_model.specs.declared.library.PinUse.{PinUse}
use Rattle.lp_model.specs.declared.library.PinUse.TheVariants.{Plain, IsoData, IsoEnable, ShiftData, Switch, Retain}
use Rattle.lp_model.specs.declared.library.RetClass.TheVariants.{Save, Restore}
use Rattle.lp_model.specs.declared.library.ShifterKind.TheVariants.{LowToHigh}
use Rattle.lp_model.specs.declared.library.StateKind.TheVariants.{Flop}
use Rattle.lp_model.specs.declared.supply.SetOrigins.{SetOrigins}
use Rattle.lp_model.specs.LibraryView.{ExprView, PgPinView, PinView, CellView}
use Rattle.lp_spec_design.specs.Keys.{Name}
use Rattle.lp_spec_design.proofs.Samples.{one_name, never}
use Rattle.lp_spec_fit.specs.Needs.{ClampNeed, ShifterNeed, RegisterNeed, SwitchCellNeed}

-- ---- pins

abbrev pub pg : Name → PgKind → PgPinView
pg n kind = record { name = n; kind = kind; switched = None }

-- VDD and VSS
abbrev pub plain_pgs : List PgPinView
plain_pgs = pg (codes "VDD") PrimaryPower ∷ pg (codes "VSS") PrimaryGround ∷ []

-- !VDD + VSS
abbrev pub plain_down : ExprView
plain_down = record { variables = codes "VDD" ∷ codes "VSS" ∷ []; steps = Variable 0 ∷ Not ∷ Variable 1 ∷ Or ∷ [] }

abbrev pub input : Name → PinUse → PinView
input n purpose = record { name = n; direction = Input; function = None; power_down = None; power = 0; gnd = Some 1; use_of = purpose }

abbrev pub output : Name → ExprView → PinView
output n f = record { name = n; direction = Output; function = Some f; power_down = Some plain_down; power = 0; gnd = Some 1; use_of = Plain }

-- D * !E
abbrev pub and_not : Name → Name → ExprView
and_not d e = record { variables = d ∷ e ∷ []; steps = Variable 0 ∷ Variable 1 ∷ Not ∷ And ∷ [] }

-- ---- cells

abbrev pub cell : Name → ℕ → List PgPinView → List PinView → CellView
cell n area pgs pins = record { name = n; area = area; pgs = pgs; pins = pins; state = None; roles = record { iso = false; shifter = None; retention = None; switch = false }; unusable = None }

abbrev pub buffer : CellView
buffer = cell (codes "BUF") 1000000 plain_pgs (input (codes "A") Plain ∷ output (codes "Y") (one_name (codes "A")) ∷ [])

-- an and-gate with an n-well and a p-well pin
abbrev pub and_with_wells : CellView
and_with_wells = cell (codes "AND2W") 3000000 (plain_pgs ++ (pg (codes "VNW") Nwell ∷ pg (codes "VPW") Pwell ∷ []))
    (input (codes "A") Plain ∷ input (codes "B") Plain ∷ output (codes "Y") (record { variables = codes "A" ∷ codes "B" ∷ []; steps = Variable 0 ∷ Variable 1 ∷ And ∷ [] }) ∷ [])

abbrev pub clamp : CellView
clamp = record (cell (codes "ISO0") 3000000 plain_pgs (input (codes "D") IsoData ∷ input (codes "EN") IsoEnable ∷ output (codes "Y") (and_not (codes "D") (codes "EN")) ∷ [])) {
  roles = record { iso = true; shifter = None; retention = None; switch = false };
}

-- the same with a second power pin for its supply
abbrev pub clamp_with_backup : CellView
clamp_with_backup = record clamp {
  name = codes "ISO0B";
  pgs = pg (codes "VDDB") BackupPower ∷ pg (codes "VSS") PrimaryGround ∷ pg (codes "VDD") PrimaryPower ∷ pg (codes "VNW") Nwell ∷ [];
  pins =
      input (codes "D") IsoData ∷ input (codes "EN") IsoEnable
      ∷ record (output (codes "Y") (and_not (codes "D") (codes "EN"))) { power_down = Some (record { variables = codes "VDDB" ∷ codes "VSS" ∷ []; steps = Variable 0 ∷ Not ∷ Variable 1 ∷ Or ∷ [] }) }
      ∷ [];
}

-- from VDDI to the higher VDDO
abbrev pub shifter : CellView
shifter = record (cell (codes "LSLH") 5000000 (pg (codes "VDDI") PrimaryPower ∷ pg (codes "VDDO") PrimaryPower ∷ pg (codes "VSS") PrimaryGround ∷ [])
    (record (input (codes "A") ShiftData) { gnd = Some 2 }
    ∷ record (output (codes "Y") (one_name (codes "A"))) { power = 1; gnd = Some 2; power_down = Some (record { variables = codes "VDDI" ∷ codes "VDDO" ∷ codes "VSS" ∷ []; steps = Variable 0 ∷ Not ∷ Variable 1 ∷ Not ∷ Or ∷ Variable 2 ∷ Or ∷ [] }) }
    ∷ [])) {
      roles = record { iso = false; shifter = Some (record { input = None; output = None; kind = LowToHigh }); retention = None; switch = false };
    }

abbrev pub register : CellView
register = record (cell (codes "DFF") 6000000 plain_pgs (input (codes "D") Plain ∷ input (codes "CK") Plain ∷ output (codes "Q") (one_name (codes "IQ")) ∷ [])) {
  state = Some (record { kind = Flop; var = codes "IQ"; inverse = codes "IQN"; next = one_name (codes "D"); clock = one_name (codes "CK"); clear = never; preset = never; power_down = plain_down });
}

-- the same with a copy that VDDB keeps, other names of its state, and its pins in another order
abbrev pub retention_register : CellView
retention_register = record (cell (codes "RDFF") 9000000 (plain_pgs ++ pg (codes "VDDB") BackupPower ∷ [])
    (record (input (codes "SAVE") (Retain Save (Some Rise) None)) { power = 2 }
    ∷ record (input (codes "RST") (Retain Restore None (Some Rise))) { power = 2 }
    ∷ input (codes "CK") Plain ∷ input (codes "D") Plain ∷ output (codes "Q") (one_name (codes "KQ")) ∷ [])) {
      state = Some (record { kind = Flop; var = codes "KQ"; inverse = codes "KQN"; next = one_name (codes "D"); clock = one_name (codes "CK"); clear = never; preset = never; power_down = plain_down });
      roles = record { iso = false; shifter = None; retention = Some (record { variables = codes "VDDB" ∷ codes "VSS" ∷ []; steps = Variable 0 ∷ Not ∷ Variable 1 ∷ Or ∷ [] }); switch = false };
    }

-- VDD is VDDG unless SLEEP is 1
abbrev pub header : CellView
header = record (cell (codes "HDSW") 20000000 (pg (codes "VDDG") PrimaryPower ∷ record { name = codes "VDD"; kind = InternalPower; switched = Some (record { off = one_name (codes "SLEEP"); passes = 0 }) } ∷ pg (codes "VSS") PrimaryGround ∷ [])
    (record (input (codes "SLEEP") Switch) { gnd = Some 2 } ∷ [])) {
      roles = record { iso = false; shifter = None; retention = None; switch = true };
    }

abbrev pub cells : List CellView
cells = buffer ∷ and_with_wells ∷ register ∷ clamp ∷ shifter ∷ retention_register ∷ header ∷ []

-- ---- supplies

-- a set of a power origin, whose bias functions are this power and the ground, which is origin 9
abbrev pub set_of : ℕ → SetOrigins
set_of k = record { power = record { 0 = k }; gnd = record { 0 = 9 }; nwell = record { 0 = k }; pwell = record { 0 = 9 }; deepnwell = record { 0 = k }; deeppwell = record { 0 = 9 } }

-- ---- needs

abbrev pub clamp_by : Bool → Bool → ClampNeed
clamp_by value high = record { supply = set_of 0; place = set_of 1; clamp = value; high = high; mapped = None }

abbrev pub shift_between : ℕ → ℕ → ShifterNeed
shift_between a b = record { input = set_of 1; output = set_of 0; pairs = record { input = a; output = b } ∷ []; margin = 0; mapped = None }

abbrev pub retained_at : Action → Action → RegisterNeed
retained_at save restore = record { source = register; primary = set_of 1; retention = set_of 2; save = save; restore = restore; one_signal = false; mapped = None }

-- on where the control c is 1, and where it is 0
abbrev pub on_high : SwitchCellNeed
on_high = record { on = one_name (codes "c"); mapped = None }

abbrev pub on_low : SwitchCellNeed
on_low = record { on = record { variables = codes "c" ∷ []; steps = Variable 0 ∷ Not ∷ [] }; mapped = None }
