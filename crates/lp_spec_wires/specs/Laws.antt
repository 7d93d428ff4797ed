-- The statements that the laws on all wires of the written netlist come to (own rule).
use Rattle.lp_spec_design.specs.Keys.{Node, Way}
use Rattle.lp_spec_design.specs.Netlists.{Structure}
use Rattle.lp_spec_realises.specs.Projects.{Project}
use Rattle.lp_spec_written.specs.Written.{Additions}
use Rattle.lp_spec_hub.specs.Drives.{drive}
use Rattle.lp_spec_hub.specs.Begins.{IsClosed}
use Rattle.lp_spec_wired.specs.Contents.{IsWrittenAt}
use Rattle.lp_spec_wired.specs.Laws.{done_of}
use Rattle.lp_spec_driven.specs.Sound.{IsProper}
use Rattle.lp_spec_wires.specs.Standing.{is_wire, AllStand, HasPlaces}

-- each wire of the written netlist stands
abbrev pub WiresStand : Type 0
WiresStand =
    (p : Project) (a : Additions) (w : Structure) (from : Way → Node)
    → IsWrittenAt p a w
    → IsProper p a from
    → HasPlaces p a
    → AllStand p a w from

-- what drives one of them from another wire comes from one of them
abbrev pub WiresAreClosed : Type 0
WiresAreClosed =
    (p : Project) (a : Additions) (from : Way → Node)
    → IsProper p a from
    → HasPlaces p a
    → IsClosed (drive p (done_of a) from) (is_wire p a from)
