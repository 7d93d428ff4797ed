-- The statement of the law of this crate (own rule).
use Rattle.std.specs.Prelude.{◌≡◌, Bool, true, false}
use Rattle.lp_spec_design.specs.Keys.{Node, Way}
use Rattle.lp_spec_design.specs.Netlists.{Structure}
use Rattle.lp_spec_realises.specs.Projects.{Project}
use Rattle.lp_spec_written.specs.Written.{Additions}
use Rattle.lp_spec_hub.specs.Spots.{Spot, Carried, Routed}
use Rattle.lp_spec_wired.specs.Contents.{IsWrittenAt}
use Rattle.lp_spec_wired.specs.Names.{placement_by}
use Rattle.lp_spec_wired.specs.Laws.{StandsFor}
use Rattle.lp_spec_driven.specs.Sound.{IsProper}
use Rattle.lp_spec_wires.specs.Standing.{is_wire}

-- a wire that carries data: no supply's and no control's
abbrev pub is_of_data : Spot → Bool
is_of_data (Carried o x) = false
is_of_data (Routed t) = false
is_of_data _ = true

-- each wire of data stands
abbrev pub DataWiresStand : Type 0
DataWiresStand =
    (p : Project) (a : Additions) (w : Structure) (from : Way → Node)
    → IsWrittenAt p a w
    → IsProper p a from
    → (x : Spot)
    → is_of_data x ≡ true
    → is_wire p a from x ≡ true
    → StandsFor p a w (placement_by p a) from x
