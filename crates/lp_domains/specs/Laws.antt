-- The statements of the laws of this crate (own rule).
use Rattle.std.specs.Prelude.{◌≡◌, ℕ, false, List, []}
use Rattle.lp_spec_design.specs.Keys.{Way}
use Rattle.lp_spec_design.specs.Netlists.{Structure}
use Rattle.lp_spec_design.specs.Graph.{readers_of}
use Rattle.lp_spec_bridge.specs.Tables.{Tables}
use Rattle.lp_spec_bridge.specs.Names.{HasNamesApart}
use Rattle.lp_spec_bridge.specs.Elaborates.{Elaborates}
use Rattle.lp_domains.specs.Domains.{has_edge}

-- a bit to which nothing is connected has no readers, so that no strategy applies there
abbrev pub UnconnectedUnread : Type 0
UnconnectedUnread = (texts : List (List ℕ)) (s : Structure) (t : Tables) → HasNamesApart s → Elaborates texts s t → (fuel : ℕ) (w : Way) → has_edge s w ≡ false → readers_of s fuel w ≡ []
