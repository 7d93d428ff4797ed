-- The statements of the laws of this crate (own rule).
use Rattle.std.specs.Prelude.{◌≡◌, ℕ, true, List, None}
use Rattle.std.specs.List.{list_all}
use Rattle.lp_cells.specs.Sound.{is_sound_cell}
use Rattle.lp_spec_design.specs.Keys.{Node, Way}
use Rattle.lp_spec_design.specs.Netlists.{Structure}
use Rattle.lp_spec_design.specs.Nodes.{DeclaresBits}
use Rattle.lp_spec_bridge.specs.Driven.{JoinsSingleBits}
use Rattle.lp_spec_bridge.specs.Elaborates.{Elaborates}
use Rattle.lp_spec_bridge.specs.Names.{HasNamesApart}
use Rattle.lp_spec_bridge.specs.Tables.{Tables}
use Rattle.lp_spec_layout.specs.Laid.{IsLaidOut}
use Rattle.lp_spec_faults.specs.Lines.{first_of}
use Rattle.lp_spec_faults.specs.Modules.{unfit_cell}
use Rattle.lp_spec_faults.specs.Wires.{width, two_drivers, wire_loop}
use Rattle.lp_spec_realises.specs.Projects.{Project}
use Rattle.lp_spec_hub.specs.Spots.{nothing_done}
use Rattle.lp_spec_edits.specs.Net.{CellPins, net_of}
use Rattle.lp_spec_edits.specs.Sound.{IsSound}
use Rattle.lp_spec_held.specs.Held.{spots_of, AreCells, Holds}
use Rattle.lp_spec_elaborated.specs.Elaborated.{HasSoundWires, DrivesByPins}

-- an elaborated netlist is sound for editing, over the cells of its library
abbrev pub ElaboratedIsSound : Type 0
ElaboratedIsSound =
    (texts : List (List ℕ)) (s : Structure) (cells : List CellPins) (t : Tables)
    → Elaborates texts s t
    → AreCells s cells
    → HasSoundWires s
    → DrivesByPins s t
    → IsSound (net_of cells t)

-- in what is laid out from templates, cell instances drive by their pins
abbrev pub LaidOutDrivesByPins : Type 0
LaidOutDrivesByPins = (texts : List (List ℕ)) (s : Structure) (t : Tables) → HasNamesApart s → JoinsSingleBits s → IsLaidOut texts s t → DrivesByPins s t

-- so it is sound, and its wires are those of the hub with nothing done
abbrev pub LaidOutIsHeld : Type 0
LaidOutIsHeld =
    (texts : List (List ℕ)) (p : Project) (from : Way → Node) (cells : List CellPins) (t : Tables)
    → IsLaidOut texts p.structure t
    → AreCells p.structure cells
    → HasSoundWires p.structure
    → Holds p from nothing_done (spots_of p.structure) (net_of cells t)

-- a netlist as it is read has sound wires, where no values of different widths are joined, no cell is unfit, no net bit has two drivers and no wires make a loop
abbrev pub ReadHasSoundWires : Type 0
ReadHasSoundWires =
    (s : Structure)
    → HasNamesApart s
    → DeclaresBits s
    → list_all is_sound_cell s.cells ≡ true
    → first_of (width s) ≡ None
    → first_of (unfit_cell s) ≡ None
    → first_of (two_drivers s) ≡ None
    → first_of (wire_loop s) ≡ None
    → HasSoundWires s
