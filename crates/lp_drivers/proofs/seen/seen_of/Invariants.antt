use Rattle.std.proofs.Common.{◌≡◌, take}
use Rattle.std.specs.Prelude.{flat_map}
use Rattle.lp_drivers.specs.Seen.{none_seen, see_all}
use Rattle.lp_drivers.specs.Cells.{places_by}
use Rattle.lp_drivers.proofs.seen.seen_of.Given as goal

abbrev pub invariant-loop-place : goal.invariant-loop-place
invariant-loop-place l = l.marks ≡ see_all (none_seen l.count) (flat_map (places_by l.cells) (take l.place l.template.statements))
