-- What drives a wire from another wire comes from a wire, and its number is smaller.
use Rattle.std.proofs.Common.{◌≡◌, Some}
use Rattle.lp_spec_design.specs.Keys.{Node, Way}
use Rattle.lp_spec_realises.specs.Projects.{Project}
use Rattle.lp_spec_written.specs.Written.{Additions}
use Rattle.lp_spec_hub.specs.Spots.{Spot, OfNode, Behind, Before, Lead, Carried, Routed, FromSpot}
use Rattle.lp_spec_hub.specs.Drives.{drive}
use Rattle.lp_spec_wired.specs.Laws.{done_of}
use Rattle.lp_spec_driven.specs.Sound.{IsProper}
use Rattle.lp_spec_wires.specs.Standing.{HasPlaces}
use Rattle.lp_spec_wires.specs.Laws.{WiresAreClosed}
use Rattle.lp_spec_added_wires.proofs.Ranks.{Step}
use Rattle.lp_spec_added_wires.proofs.NodeSteps.{node-step, before-step, behind-step, lead-step}
use Rattle.lp_spec_added_wires.proofs.SupplySteps.{supply-step}
use Rattle.lp_spec_added_wires.proofs.PartSteps.{part-step}

pub step : (p : Project) (a : Additions) (from : Way → Node) → IsProper p a from → HasPlaces p a → (x y : Spot) → drive p (done_of a) from x ≡ Some (FromSpot y) → Step p a from x y
step p a from proper places (OfNode k) y h = node-step p a from proper places k y h
step p a from proper places (Behind w k) y h = absurd (behind-step p a from proper places w k y h)
step p a from proper places (Before w k) y h = before-step p a from proper places w k y h
step p a from proper places (Lead w) y h = lead-step p a from proper places w y h
step p a from proper places (Carried o x) y h = supply-step p a from o x y h
step p a from proper places (Routed t) y h = part-step p a from proper places t y h

pub wires-are-closed : WiresAreClosed
wires-are-closed p a from proper places x y there h = (step p a from proper places x y h).wire
