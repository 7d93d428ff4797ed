use Rattle.std.proofs.Common.{◌≡◌, ◌++◌, drop, length, true}
use Rattle.std.specs.Prelude.{map}
use Rattle.std.specs.List.{flat_map}
use Rattle.lp_model.specs.Agreement.{numbers_below}
use Rattle.lp_model.specs.GroupsView.{group_view}
use Rattle.lp_model.specs.LibraryView.{pin_numbers, pin_view}
use Rattle.lp_parts.specs.Pins.{pins_of}
use Rattle.lp_parts.specs.Views.{frame_view}
use Rattle.lp_parts.proofs.pin.pins_of.Given as goal

abbrev pub invariant-loop-group : goal.invariant-loop-group
invariant-loop-group l = record {
  same : map (pin_view l.names) l.out ++ pins_of l.place (frame_view l.names l.frame) (map (group_view l.names) (drop l.group-index l.groups)) ≡ pins_of l.place (frame_view l.names l.frame) (map (group_view l.names) l.groups);
  below : numbers_below (length l.names) (flat_map pin_numbers l.out) ≡ true;
}
