-- The statements of the laws of this crate (own rule).
use Rattle.std.specs.Prelude.{◌≡◌, ℕ, true, false}
use Rattle.lp_spec_design.specs.Keys.{Path, Node, Way}
use Rattle.lp_spec_design.specs.Netlists.{Structure}
use Rattle.lp_spec_design.specs.Nodes.{HasFuel, has_wire_loop}
use Rattle.lp_spec_realises.specs.Projects.{Project}
use Rattle.lp_spec_written.specs.Routes.{Part}
use Rattle.lp_spec_written.specs.Written.{Additions}
use Rattle.lp_spec_hub.specs.Spots.{Spot, Carried, Routed}
use Rattle.lp_spec_hub.specs.Drives.{drive}
use Rattle.lp_spec_hub.specs.Begins.{Begin, EndsAt}
use Rattle.lp_spec_wired.specs.Contents.{IsWrittenAt}
use Rattle.lp_spec_wired.specs.Names.{placement_by}
use Rattle.lp_spec_wired.specs.Laws.{done_of, StandsFor}
use Rattle.lp_spec_driven.specs.Sound.{IsProper}
use Rattle.lp_spec_wires.specs.Standing.{is_wire, AllStand, HasPlaces}

-- each supply that comes to an instance is driven there as the hub says: at the top's port, by its switch, from the parent, or from
-- the instance on the way to the switch
abbrev pub SupplyWiresStand : Type 0
SupplyWiresStand =
    (p : Project) (a : Additions) (w : Structure) (from : Way → Node)
    → IsWrittenAt p a w
    → IsProper p a from
    → HasPlaces p a
    → (o : ℕ) (x : Path)
    → is_wire p a from (Carried o x) ≡ true
    → StandsFor p a w (placement_by p a) from (Carried o x)

-- and so is each part of a control's route
abbrev pub ControlWiresStand : Type 0
ControlWiresStand =
    (p : Project) (a : Additions) (w : Structure) (from : Way → Node)
    → IsWrittenAt p a w
    → IsProper p a from
    → HasPlaces p a
    → (t : Part)
    → is_wire p a from (Routed t) ≡ true
    → StandsFor p a w (placement_by p a) from (Routed t)

-- where no way of the source comes back, each wire begins somewhere
abbrev pub WiresBegin : Type 0
WiresBegin =
    (p : Project) (a : Additions) (from : Way → Node)
    → IsProper p a from
    → HasPlaces p a
    → HasFuel p.structure
    → (x : Spot)
    → is_wire p a from x ≡ true
    → (e : Begin) × EndsAt (drive p (done_of a) from) x e

-- and where each wire stands in the written netlist, no way comes back there either
abbrev pub NoWireComesBack : Type 0
NoWireComesBack =
    (p : Project) (a : Additions) (w : Structure) (from : Way → Node)
    → IsWrittenAt p a w
    → IsProper p a from
    → HasPlaces p a
    → AllStand p a w from
    → HasFuel p.structure
    → has_wire_loop w ≡ false
