use Rattle.std.proofs.Common.{◌≡◌, ◌++◌, drop, length, true}
use Rattle.std.specs.Prelude.{map}
use Rattle.std.specs.List.{flat_map}
use Rattle.lp_model.specs.Agreement.{numbers_below}
use Rattle.lp_model.specs.GroupsView.{group_view}
use Rattle.lp_model.specs.LibraryView.{pg_pin_numbers, pg_pin_view}
use Rattle.lp_parts.specs.Pins.{pgs_of}
use Rattle.lp_parts.proofs.pg.pgs_of.Given as goal

abbrev pub invariant-loop-group : goal.invariant-loop-group
invariant-loop-group l = record {
  same : map (pg_pin_view l.names) l.out ++ pgs_of l.place l.signals l.pgs (map (group_view l.names) (drop l.group-index l.groups)) ≡ pgs_of l.place l.signals l.pgs (map (group_view l.names) l.groups);
  below : numbers_below (length l.names) (flat_map pg_pin_numbers l.out) ≡ true;
}
