-- The statements of the laws on the related supplies of pins (own rule, after Liberty related_power_pin and related_ground_pin).
use Rattle.std.specs.Prelude.{◌≡◌, ◌⊎◌, ℕ, ◌==◌, true, Some, if◌then◌else◌}
use Rattle.lp_model.specs.declared.supply.SetOrigins.{SetOrigins}
use Rattle.lp_model.specs.LibraryView.{SwitchedView, PinView, CellView}
use Rattle.lp_spec_design.specs.Keys.{Name, Path}
use Rattle.lp_spec_design.specs.Winners.{IsIn}
use Rattle.lp_spec_pins.specs.Pins.{Powered, PinAssignment, related, is_data, input_for, only}
use Rattle.lp_spec_fit.specs.Needs.{ClampNeed, ShifterNeed, RegisterNeed, SwitchCellNeed}
use Rattle.lp_spec_fit.specs.Joins.{source_joins, clamp_joins, shifter_joins, register_joins, switch_joins}
use Rattle.lp_spec_fit.specs.Fits.{plain_pins, is_switch_pin, one_output, switched_pins, fits_clamp, fits_shifter, fits_register, fits_switch}
use Rattle.lp_spec_cells.specs.Sound.{IsSound}
use Rattle.lp_spec_cells.specs.Joined.{Comes, OriginStates, IsJoinedBy, Stands, pair_in}

-- each pin of a cell of the source relates to the primary supply of its domain
abbrev pub SourceRelates : Type 0
SourceRelates =
    (c : CellView) (primary : SetOrigins) → IsSound c
    → (w : Powered) (B : PinAssignment) (path : Path) (x : Name) (source : Comes) (st : OriginStates)
    → IsJoinedBy w path x c source (source_joins primary) → Stands B source st
    → (q : PinView) → IsIn q c.pins
    → related w B path x c q ≡ pair_in st primary.power.0 primary.gnd.0 q.gnd

-- each pin of a register with retention relates to the primary supply or to the retention supply, with one ground
abbrev pub RegisterRelates : Type 0
RegisterRelates =
    (c : CellView) (primary retention : SetOrigins) → IsSound c
    → (w : Powered) (B : PinAssignment) (path : Path) (x : Name) (source : Comes) (st : OriginStates)
    → IsJoinedBy w path x c source (register_joins primary retention) → Stands B source st
    → (q : PinView) → IsIn q c.pins
    → (related w B path x c q ≡ pair_in st primary.power.0 primary.gnd.0 q.gnd) ⊎ (related w B path x c q ≡ pair_in st retention.power.0 primary.gnd.0 q.gnd)

-- and each pin that is no retention pin to the primary supply
abbrev pub PlainPinRelates : Type 0
PlainPinRelates =
    (n : RegisterNeed) (c : CellView) → fits_register n c ≡ true → IsSound c
    → (w : Powered) (B : PinAssignment) (path : Path) (x : Name) (source : Comes) (st : OriginStates)
    → IsJoinedBy w path x c source (register_joins n.primary n.retention) → Stands B source st
    → (q : PinView) → IsIn q (plain_pins c)
    → related w B path x c q ≡ pair_in st n.primary.power.0 n.primary.gnd.0 q.gnd

-- each pin of a clamp relates to the clamp's supply
abbrev pub ClampRelates : Type 0
ClampRelates =
    (n : ClampNeed) (c : CellView) → fits_clamp n c ≡ true
    → (w : Powered) (B : PinAssignment) (path : Path) (x : Name) (source : Comes) (st : OriginStates)
    → IsJoinedBy w path x c source (clamp_joins n.supply n.place c) → Stands B source st
    → (q : PinView) → IsIn q c.pins
    → related w B path x c q ≡ record { power = st n.supply.power.0; gnd = st n.supply.gnd.0 }

-- the output of a level shifter relates to the output supply
abbrev pub ShifterOutputRelates : Type 0
ShifterOutputRelates =
    (n : ShifterNeed) (c : CellView) → fits_shifter n c ≡ true
    → (d y : PinView) → input_for is_data c ≡ Some d → one_output c ≡ Some y
    → (w : Powered) (B : PinAssignment) (path : Path) (x : Name) (source : Comes) (st : OriginStates)
    → IsJoinedBy w path x c source (shifter_joins n.input n.output d y) → Stands B source st
    → related w B path x c y ≡ record { power = st n.output.power.0; gnd = st n.output.gnd.0 }

-- its data to the input supply, or to the output supply where both pins relate to one power pin
abbrev pub ShifterDataRelates : Type 0
ShifterDataRelates =
    (c : CellView) (input output : SetOrigins) → IsSound c
    → (d y : PinView) → input_for is_data c ≡ Some d
    → (w : Powered) (B : PinAssignment) (path : Path) (x : Name) (source : Comes) (st : OriginStates)
    → IsJoinedBy w path x c source (shifter_joins input output d y) → Stands B source st
    → related w B path x c d ≡ pair_in st (if d.power == y.power then output.power.0 else input.power.0) output.gnd.0 d.gnd

-- the switch pin of a power switch relates to the switch's input
abbrev pub SwitchPinRelates : Type 0
SwitchPinRelates =
    (n : SwitchCellNeed) (c : CellView) → fits_switch n c ≡ true → IsSound c
    → (q : PinView) (s : SwitchedView) → input_for is_switch_pin c ≡ Some q → only (switched_pins c) ≡ Some s
    → (w : Powered) (B : PinAssignment) (path : Path) (x : Name) (source : Comes) (st : OriginStates) (input output gnd : ℕ)
    → IsJoinedBy w path x c source (switch_joins input output gnd s.passes) → Stands B source st
    → related w B path x c q ≡ pair_in st input gnd q.gnd
