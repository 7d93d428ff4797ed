-- The statements of the laws on what a cell instance looks at, and on which cells hold a state (own rule).
use Rattle.std.specs.Prelude.{◌≡◌, ℕ, ◌==◌, true, false, Some, None, is_some}
use Rattle.lp_tern.specs.declared.supply.SupplyState.{SupplyState}
use Rattle.lp_tern.specs.declared.supply.SupplyState.TheVariants.{On}
use Rattle.lp_model.specs.declared.library.Shifter.{Shifter}
use Rattle.lp_model.specs.LibraryView.{SwitchedView, PgPinView, PinView, CellView}
use Rattle.lp_spec_design.specs.Keys.{Name, Path}
use Rattle.lp_spec_design.specs.Netlists.{first}
use Rattle.lp_spec_design.specs.Winners.{IsIn}
use Rattle.lp_spec_design.specs.Settled.{Registers, node_at_pin}
use Rattle.lp_spec_pins.specs.Pins.{Powered, PinAssignment, Pair, pins_read, state_of_pg, is_data, is_outside, is_unfit, input_for, only, driving_pin, cell_output_at, switch_equation}
use Rattle.lp_spec_fit.specs.Needs.{ClampNeed, ShifterNeed, RegisterNeed, SwitchCellNeed}
use Rattle.lp_spec_fit.specs.Joins.{shifter_joins, switch_joins}
use Rattle.lp_spec_fit.specs.Fits.{switched_pins, one_output, fits_clamp, fits_shifter, fits_register, fits_switch}
use Rattle.lp_spec_cells.specs.Sound.{IsSound}
use Rattle.lp_spec_cells.specs.Joined.{Comes, OriginStates, IsJoinedBy, Stands}
use Rattle.lp_spec_cells.specs.Retention.{SameInputs}

-- the power and ground pins of a cell instance have the same states in two assignments
abbrev pub SameSupplies : Powered → PinAssignment → PinAssignment → Path → Name → CellView → Type 0
SameSupplies w B C path x c = (g : PgPinView) → IsIn g c.pgs → state_of_pg w B path x (Some g) ≡ state_of_pg w C path x (Some g)

-- the outputs and the switched pins of a cell that is no level shifter look only at its input pins, at its power and ground pins and at its state
abbrev pub LooksAtItsPins : Type 0
LooksAtItsPins =
    (w : Powered) (B C : PinAssignment) (path : Path) (x : Name) (c : CellView)
    → c.roles.shifter ≡ None
    → SameInputs c (pins_read w B path x c) (pins_read w C path x c) → SameSupplies w B C path x c
    → (regs : Registers) (q : Name)
    → (cell_output_at w B regs path x q (Some c) ≡ cell_output_at w C regs path x q (Some c))
    × (switch_equation w B regs path x q (Some c) ≡ switch_equation w C regs path x q (Some c))

-- a level shifter's output does so where it is outside its type and ranges in both or in neither
abbrev pub ShifterLooksAtItsPins : Type 0
ShifterLooksAtItsPins =
    (w : Powered) (B C : PinAssignment) (path : Path) (x : Name) (c : CellView)
    → ((y : PinView) → IsIn y c.pins → is_unfit w B path x c y ≡ is_unfit w C path x c y)
    → SameInputs c (pins_read w B path x c) (pins_read w C path x c) → SameSupplies w B C path x c
    → (regs : Registers) (q : Name)
    → cell_output_at w B regs path x q (Some c) ≡ cell_output_at w C regs path x q (Some c)

-- the switched pin of a cell that fits a power switch is on only where the switch's input is, whatever its control
abbrev pub SwitchFeeds : Type 0
SwitchFeeds =
    (n : SwitchCellNeed) (c : CellView) → fits_switch n c ≡ true → IsSound c
    → (s : SwitchedView) (g : PgPinView) → only (switched_pins c) ≡ Some s → first (λ (h : PgPinView). is_some h.switched) c.pgs ≡ Some g
    → (w : Powered) (B : PinAssignment) (path : Path) (x : Name) (source : Comes) (st : OriginStates) (input output gnd : ℕ)
    → IsJoinedBy w path x c source (switch_joins input output gnd s.passes) → Stands B source st
    → (regs : Registers) (v : ℕ) → switch_equation w B regs path x g.name (Some c) ≡ On v
    → st input ≡ On v

-- the cells of clamps, level shifters and switches hold no state
abbrev pub AddedHoldNoState : Type 0
AddedHoldNoState =
    (c : CellView)
    → ((n : ClampNeed) → fits_clamp n c ≡ true → c.state ≡ None)
    × ((n : ShifterNeed) → fits_shifter n c ≡ true → c.state ≡ None)
    × ((n : SwitchCellNeed) → fits_switch n c ≡ true → c.state ≡ None)

-- a register with retention stands only for a register
abbrev pub RegistersHoldState : Type 0
RegistersHoldState = (n : RegisterNeed) (c : CellView) → fits_register n c ≡ true → (is_some n.source.state ≡ true) × (is_some c.state ≡ true)

-- a cell that fits a level shifter is inside its type and ranges where its supplies are: the input supply is that of its data pin, or what drives the data pin where both pins relate to one power pin
abbrev pub ShifterIsInside : Type 0
ShifterIsInside =
    (n : ShifterNeed) (c : CellView) → fits_shifter n c ≡ true → IsSound c
    → (d y : PinView) → input_for is_data c ≡ Some d → one_output c ≡ Some y
    → (w : Powered) (B : PinAssignment) (path : Path) (x : Name) (source : Comes) (st : OriginStates)
    → IsJoinedBy w path x c source (shifter_joins n.input n.output d y) → Stands B source st
    → ((f : Shifter) (g h : SupplyState) → c.roles.shifter ≡ Some f → is_outside f (record { power = st n.input.power.0; gnd = g }) (record { power = st n.output.power.0; gnd = h }) ≡ false)
    → ((d.power == y.power) ≡ true → (r : Pair) → driving_pin w B (node_at_pin w.structure path x d.name) ≡ Some r → r.power ≡ st n.input.power.0)
    → is_unfit w B path x c y ≡ false
