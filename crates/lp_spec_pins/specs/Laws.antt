-- The statements of the laws of this crate (own rule).
use Rattle.std.specs.Prelude.{◌≡◌, Option, Some, List, false}
use Rattle.lp_tern.specs.declared.tern.Tern.TheVariants.{X}
use Rattle.lp_spec_settling.specs.Settling.{HasOrder}
use Rattle.lp_model.specs.LibraryView.{CellView, PinView}
use Rattle.lp_spec_design.specs.Keys.{Name, Path}
use Rattle.lp_spec_design.specs.Settled.{Registers as RegisterStates}
use Rattle.lp_spec_design.specs.Registers.{States}
use Rattle.lp_spec_pins.specs.Pins.{Powered, PinAssignment, PinEvent, is_up, output_at}
use Rattle.lp_spec_pins.specs.Reads.{keys, reads}
use Rattle.lp_spec_pins.specs.Runs.{RunsOnceByPins}

-- an output whose power-down function is not 0 is X
abbrev pub LostWherePoweredDown : Type 0
LostWherePoweredDown =
    (w : Powered) (B : PinAssignment) (registers : RegisterStates) (p : Path) (x : Name) (c : CellView) (q : PinView)
    → is_up w B p x c q.power_down ≡ false → output_at w B registers p x c (Some q) ≡ X

-- where all that occurs in the equations by pins has an order, there is exactly one run of the netlist over a list of
-- events, from what settled before them, if anything did, and from the states of its registers
abbrev pub OneRunByPins : Type 0
OneRunByPins =
    (w : Powered) (last : Option PinAssignment) (states : States) (events : List PinEvent)
    → HasOrder keys (reads w) → RunsOnceByPins w last states events
