-- The statements of the laws on registers and on cells of the source (own rule).
use Rattle.std.specs.Prelude.{◌≡◌, true, false, Option, Some, None}
use Rattle.lp_tern.specs.declared.tern.Tern.{Tern}
use Rattle.lp_model.specs.declared.supply.SetOrigins.{SetOrigins}
use Rattle.lp_model.specs.LibraryView.{PinView, CellView}
use Rattle.lp_behaviour.specs.Registers.{fires_of, main_of, copy_of}
use Rattle.lp_spec_design.specs.Keys.{Name, Path}
use Rattle.lp_spec_design.specs.Graph.{is_output_pin}
use Rattle.lp_spec_design.specs.Settled.{Registers, kept, pin_named, output_by}
use Rattle.lp_spec_design.specs.Registers.{States, cell_after}
use Rattle.lp_spec_pins.specs.Pins.{Powered, PinAssignment, pins_read, cell_output_at}
use Rattle.lp_spec_pins.specs.Registers.{read_before, main_in, saved_in}
use Rattle.lp_spec_fit.specs.Needs.{RegisterNeed}
use Rattle.lp_spec_fit.specs.Joins.{register_joins, source_joins}
use Rattle.lp_spec_fit.specs.PowerDown.{is_unfit_power}
use Rattle.lp_spec_fit.specs.Fits.{fits_register}
use Rattle.lp_spec_cells.specs.Sound.{IsSound}
use Rattle.lp_spec_cells.specs.Joined.{Comes, OriginStates, IsJoinedBy, Apart, Stands, on_in}
use Rattle.lp_spec_cells.specs.Retention.{Controls, ReadsControls, SameInputs}

-- the state of a cell that fits a register with retention: what the source's cell makes of its pins, or the copy where it is restored, while the primary supply is on
abbrev pub RegisterDoes : Type 0
RegisterDoes =
    (n : RegisterNeed) (c : CellView)
    → fits_register n c ≡ true → IsSound n.source → IsSound c
    → (w : Powered) (last : Option PinAssignment) (B : PinAssignment) (path : Path) (x : Name) (source : Comes) (st : OriginStates)
    → IsJoinedBy w path x c source (register_joins n.primary n.retention) → Apart source → Stands B source st
    → (before now : Name → Tern) → SameInputs n.source before (read_before w last path x c) → SameInputs n.source now (pins_read w B path x c)
    → (k : Controls) → ReadsControls n c k (read_before w last path x c) (pins_read w B path x c)
    → (s : States)
    → main_in w last B s path x (Some c)
    ≡ kept (on_in st n.primary)
    (main_of (fires_of n.restore k.restore_before k.restore_now) (kept (on_in st n.retention) (s.saved path x))
    (cell_after (Some n.source) before now (s.main path x)))

-- its copy: the state that is visible where it is saved, else the copy before, while the retention supply is on
abbrev pub RegisterSaves : Type 0
RegisterSaves =
    (n : RegisterNeed) (c : CellView)
    → fits_register n c ≡ true → IsSound n.source → IsSound c
    → (w : Powered) (last : Option PinAssignment) (B : PinAssignment) (path : Path) (x : Name) (source : Comes) (st : OriginStates)
    → IsJoinedBy w path x c source (register_joins n.primary n.retention) → Apart source → Stands B source st
    → (k : Controls) → ReadsControls n c k (read_before w last path x c) (pins_read w B path x c)
    → (s : States)
    → saved_in w last B s path x (Some c)
    ≡ kept (on_in st n.retention)
    (copy_of (fires_of n.save k.save_before k.save_now) (kept (on_in st n.primary) (s.main path x)) (kept (on_in st n.retention) (s.saved path x)))

-- its outputs: those of the source's cell while the primary supply is on
abbrev pub RegisterShows : Type 0
RegisterShows =
    (n : RegisterNeed) (c : CellView)
    → fits_register n c ≡ true → IsSound n.source → IsSound c
    → (w : Powered) (B : PinAssignment) (path : Path) (x : Name) (source : Comes) (st : OriginStates)
    → IsJoinedBy w path x c source (register_joins n.primary n.retention) → Apart source → Stands B source st
    → (now : Name → Tern) → SameInputs n.source now (pins_read w B path x c)
    → (regs : Registers) (v : Name) (q : PinView) → pin_named n.source v ≡ Some q → is_output_pin q ≡ true
    → cell_output_at w B regs path x v (Some c) ≡ kept (on_in st n.primary) (output_by n.source now (regs path x) q.function)

-- a cell of the source that is lost exactly with the primary supply of its domain has its outputs while this is on
abbrev pub SourceShows : Type 0
SourceShows =
    (c : CellView) (primary : SetOrigins)
    → is_unfit_power c primary ≡ false → c.roles.shifter ≡ None → IsSound c
    → (w : Powered) (B : PinAssignment) (path : Path) (x : Name) (source : Comes) (st : OriginStates)
    → IsJoinedBy w path x c source (source_joins primary) → Apart source → Stands B source st
    → (now : Name → Tern) → SameInputs c now (pins_read w B path x c)
    → (regs : Registers) (v : Name) (q : PinView) → pin_named c v ≡ Some q → is_output_pin q ≡ true
    → cell_output_at w B regs path x v (Some c) ≡ kept (on_in st primary) (output_by c now (regs path x) q.function)

-- ... and its state
abbrev pub SourceDoes : Type 0
SourceDoes =
    (c : CellView) (primary : SetOrigins)
    → is_unfit_power c primary ≡ false → c.roles.retention ≡ None → IsSound c
    → (w : Powered) (last : Option PinAssignment) (B : PinAssignment) (path : Path) (x : Name) (source : Comes) (st : OriginStates)
    → IsJoinedBy w path x c source (source_joins primary) → Apart source → Stands B source st
    → (before now : Name → Tern) → SameInputs c before (read_before w last path x c) → SameInputs c now (pins_read w B path x c)
    → (s : States)
    → main_in w last B s path x (Some c) ≡ kept (on_in st primary) (cell_after (Some c) before now (s.main path x))
