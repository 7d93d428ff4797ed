-- The statements of the laws of this crate (own rule).
use Rattle.std.specs.Prelude.{ℕ, List}
use Rattle.lp_spec_design.specs.Keys.{Node, Way}
use Rattle.lp_spec_bridge.specs.Tables.{Tables}
use Rattle.lp_spec_bridge.specs.Elaborates.{Elaborates}
use Rattle.lp_spec_realises.specs.Projects.{Project}
use Rattle.lp_spec_hub.specs.Spots.{nothing_done}
use Rattle.lp_spec_edits.specs.Net.{CellPins, net_of}
use Rattle.lp_spec_edits.specs.Sound.{IsSound}
use Rattle.lp_spec_held.specs.Held.{spots_of, AreCells, Holds}

-- the wires of an elaborated netlist are those of the hub with nothing done, where its cells are those of the library, and both ends of its connections agree
abbrev pub Begun : Type 0
Begun =
    (texts : List (List ℕ)) (p : Project) (from : Way → Node) (cells : List CellPins) (t : Tables)
    → Elaborates texts p.structure t
    → AreCells p.structure cells
    → IsSound (net_of cells t)
    → Holds p from nothing_done (spots_of p.structure) (net_of cells t)
