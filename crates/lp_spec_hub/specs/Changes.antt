-- What one more operator changes (own rule).
use Rattle.std.specs.Prelude.{ℕ, ◌==◌, Bool, false, ◌&&◌, length, Option, Some, if◌then◌else◌}
use Rattle.lp_spec_design.specs.Keys.{Node, Way, same_way, Source, From}
use Rattle.lp_spec_design.specs.Graph.{source_of, when}
use Rattle.lp_spec_design.specs.Domains.{way_of}
use Rattle.lp_spec_realises.specs.Projects.{Project}
use Rattle.lp_spec_written.specs.Places.{Standing}
use Rattle.lp_spec_hub.specs.Spots.{Spot, OfNode, Behind, Before, Lead, Carried, Routed, Drive, FromSpot, Done, on_way, is_behind}
use Rattle.lp_spec_hub.specs.Drives.{behind_last, passed, drive_behind, is_led, drive}

abbrev pub its_way : Standing → Way
its_way o = way_of o.asked.bit

-- how many operators of its way are done before it
abbrev pub its_number : Done → Standing → ℕ
its_number a o = length (on_way a.plan.operators (its_way o))

abbrev pub is_from : Way → Option Source → Bool
is_from w (Some (From v j)) = same_way w v
is_from w _ = false

-- the net bit to which its way leads
abbrev pub is_target : Project → Standing → Node → Bool
is_target p o k = is_from (its_way o) (source_of p.structure k)

-- the wire of its number on its way
abbrev pub is_its_own : Done → Standing → Way → ℕ → Bool
is_its_own a o v k = same_way (its_way o) v && (k == its_number a o)

-- the net bit to which its way leads is driven by it, or by way of what it drives before the edge; its own wire is new; all others are driven as before
abbrev pub drive_with : Project → Done → (Way → Node) → Standing → Spot → Option Drive
drive_with p a from o (OfNode k) = if is_target p o k then Some (behind_last (its_way o) (its_number a o) (Some o)) else drive p a from (OfNode k)
drive_with p a from o (Behind v k) = if is_its_own a o v k then drive_behind v k (Some o) else drive p a from (Behind v k)
drive_with p a from o (Before v k) = if is_its_own a o v k then when (is_behind o) (passed (on_way a.plan.operators v) v (from v) k) else drive p a from (Before v k)
drive_with p a from o (Lead v) = if is_its_own a o v 0 then when (is_led (from v) (Some o)) (FromSpot (OfNode (from v))) else drive p a from (Lead v)
drive_with p a from o (Carried q x) = drive p a from (Carried q x)
drive_with p a from o (Routed t) = drive p a from (Routed t)
