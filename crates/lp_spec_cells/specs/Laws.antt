-- The statements of the laws of this crate (own rule).
use Rattle.std.specs.Prelude.{◌≡◌, ◌⊎◌, ℕ, Bool, true, false, ◌&&◌, List, Some, is_some}
use Rattle.lp_tern.specs.declared.tern.Tern.{Tern}
use Rattle.lp_model.specs.declared.supply.SetOrigins.{SetOrigins}
use Rattle.lp_tern.specs.declared.supply.SupplyState.TheVariants.{Off}
use Rattle.lp_tern.specs.Values.{choose_of, choose_supply_of}
use Rattle.lp_model.specs.LibraryView.{ExprView, SwitchedView, PgPinView, PinView, CellView}
use Rattle.lp_behaviour.specs.Signals.{known}
use Rattle.lp_spec_design.specs.Keys.{Name, Path}
use Rattle.lp_spec_design.specs.Netlists.{first}
use Rattle.lp_spec_design.specs.Settled.{Registers, kept, sensed, read_pin, function_value, output_by}
use Rattle.lp_spec_pins.specs.Pins.{Powered, PinAssignment, pins_read, related, is_up, is_data, is_unfit, only, input_for, cell_output_at, switch_equation}
use Rattle.lp_spec_fit.specs.Needs.{Mapped, ClampNeed, ShifterNeed}
use Rattle.lp_spec_fit.specs.Joins.{Joins, relates_to, clamp_joins, shifter_joins, switch_joins}
use Rattle.lp_spec_fit.specs.PowerDown.{power_down_equals}
use Rattle.lp_spec_fit.specs.Fits.{is_iso_data, is_iso_enable, is_switch_pin, switched_pins, one_output, fits_clamp, fits_shifter, fits_switch, same_function}
use Rattle.lp_spec_cells.specs.Sound.{is_function_of, is_down_of, IsSound}
use Rattle.lp_spec_cells.specs.Joined.{Comes, OriginStates, IsJoinedBy, Apart, Stands, on_in, all_on, on_where}

-- equal functions of two cells have one value, unknown values among those of the pins too, where the input pins that both cells have and the state have the same values
abbrev pub FunctionsAgree : Type 0
FunctionsAgree =
    (a b : CellView) (e f : ExprView)
    → same_function a b e f ≡ true → is_function_of a e ≡ true → is_function_of b f ≡ true
    → (pins others : Name → Tern) (state : Tern)
    → ((v : Name) → is_some (read_pin a v) ≡ true → is_some (read_pin b v) ≡ true → pins v ≡ others v)
    → function_value a pins state e ≡ function_value b others state f

-- what passes the test for some supply sets is up, whatever unknown supplies are, exactly where all of them are on
abbrev pub UpWhereItsSetsAreOn : Type 0
UpWhereItsSetsAreOn =
    (w : Powered) (B : PinAssignment) (path : Path) (x : Name) (c : CellView) (source : Comes) (join : Joins) (st : OriginStates)
    → IsJoinedBy w path x c source join → Apart source → Stands B source st
    → (sets : List SetOrigins) (e : ExprView)
    → power_down_equals c join sets (Some e) ≡ true → is_down_of c e ≡ true
    → is_up w B path x c (Some e) ≡ all_on st sets

-- the output of a cell that fits a clamp is the clamp value while its enable is active, its data else, and X where these differ and the enable is unknown
abbrev pub ClampGives : Type 0
ClampGives =
    (n : ClampNeed) (c : CellView)
    → fits_clamp n c ≡ true → IsSound c
    → (d e y : PinView) → input_for is_iso_data c ≡ Some d → input_for is_iso_enable c ≡ Some e → one_output c ≡ Some y
    → (pins : Name → Tern) (state : Tern)
    → output_by c pins state y.function ≡ choose_of (sensed n.high (pins e.name)) (known n.clamp) (pins d.name)

-- ... and it shows this while the clamp's supply is on, else X
abbrev pub ClampShows : Type 0
ClampShows =
    (n : ClampNeed) (c : CellView)
    → fits_clamp n c ≡ true → IsSound c
    → (d e y : PinView) → input_for is_iso_data c ≡ Some d → input_for is_iso_enable c ≡ Some e → one_output c ≡ Some y
    → (w : Powered) (B : PinAssignment) (path : Path) (x : Name) (source : Comes) (st : OriginStates)
    → IsJoinedBy w path x c source (clamp_joins n.supply n.place c) → Apart source → Stands B source st
    → (regs : Registers)
    → cell_output_at w B regs path x y.name (Some c)
    ≡ kept (on_in st n.supply) (choose_of (sensed n.high (pins_read w B path x c e.name)) (known n.clamp) (pins_read w B path x c d.name))

-- the function of the output of a cell that fits a level shifter passes its data
abbrev pub ShifterPasses : Type 0
ShifterPasses =
    (n : ShifterNeed) (c : CellView)
    → fits_shifter n c ≡ true → IsSound c
    → (d y : PinView) → input_for is_data c ≡ Some d → one_output c ≡ Some y
    → (pins : Name → Tern) (state : Tern)
    → output_by c pins state y.function ≡ pins d.name

-- its output is up exactly where both supplies are on, or exactly where the output supply is
abbrev pub ShifterIsUp : Type 0
ShifterIsUp =
    (n : ShifterNeed) (c : CellView)
    → fits_shifter n c ≡ true → IsSound c
    → (d y : PinView) → input_for is_data c ≡ Some d → one_output c ≡ Some y
    → (w : Powered) (B : PinAssignment) (path : Path) (x : Name) (source : Comes) (st : OriginStates)
    → IsJoinedBy w path x c source (shifter_joins n.input n.output d y) → Apart source → Stands B source st
    → (is_up w B path x c y.power_down ≡ (on_in st n.input && on_in st n.output)) ⊎ (is_up w B path x c y.power_down ≡ on_in st n.output)

-- ... and it shows its data there, unless its supplies are outside its type or its ranges
abbrev pub ShifterShows : Type 0
ShifterShows =
    (n : ShifterNeed) (c : CellView)
    → fits_shifter n c ≡ true → IsSound c
    → (d y : PinView) → input_for is_data c ≡ Some d → one_output c ≡ Some y
    → (w : Powered) (B : PinAssignment) (path : Path) (x : Name) (source : Comes) (st : OriginStates)
    → IsJoinedBy w path x c source (shifter_joins n.input n.output d y) → Apart source → Stands B source st
    → is_unfit w B path x c y ≡ false
    → (regs : Registers)
    → (cell_output_at w B regs path x y.name (Some c) ≡ kept (on_in st n.input && on_in st n.output) (pins_read w B path x c d.name))
    ⊎ (cell_output_at w B regs path x y.name (Some c) ≡ kept (on_in st n.output) (pins_read w B path x c d.name))

-- a pin whose related pins are joined to a supply set has the states of its power and its ground as its related supply
abbrev pub RelatedToItsSet : Type 0
RelatedToItsSet =
    (w : Powered) (B : PinAssignment) (path : Path) (x : Name) (c : CellView) (source : Comes) (join : Joins) (st : OriginStates)
    → IsJoinedBy w path x c source join → Stands B source st
    → (set : SetOrigins) (q : PinView) → relates_to c join set q ≡ true
    → related w B path x c q ≡ record { power = st set.power.0; gnd = st set.gnd.0 }

-- the switched pin of a cell that fits a power switch has the state of the switch's input while its control is active, is off while it is not, and is unknown where the control is, unless the input is off too
abbrev pub SwitchGives : Type 0
SwitchGives =
    (v : Name) (high : Bool) (mapped : Mapped) (c : CellView)
    → fits_switch (record { on = on_where v high; mapped = mapped }) c ≡ true → IsSound c
    → (q : PinView) (s : SwitchedView) (g : PgPinView)
    → input_for is_switch_pin c ≡ Some q → only (switched_pins c) ≡ Some s → first (λ (h : PgPinView). is_some h.switched) c.pgs ≡ Some g
    → (w : Powered) (B : PinAssignment) (path : Path) (x : Name) (source : Comes) (st : OriginStates) (input output gnd : ℕ)
    → IsJoinedBy w path x c source (switch_joins input output gnd s.passes) → Stands B source st
    → (regs : Registers)
    → switch_equation w B regs path x g.name (Some c) ≡ choose_supply_of (sensed high (pins_read w B path x c q.name)) (st input) Off
