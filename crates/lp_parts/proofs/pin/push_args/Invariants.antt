use Rattle.std.proofs.Common.{◌≡◌, ◌++◌, drop, length, true}
use Rattle.std.specs.Prelude.{map}
use Rattle.std.specs.List.{flat_map}
use Rattle.lp_model.specs.Agreement.{name_texts, numbers_below}
use Rattle.lp_model.specs.GroupsView.{group_view}
use Rattle.lp_model.specs.LibraryView.{pin_numbers, pin_view}
use Rattle.lp_parts.specs.Pins.{pin_of}
use Rattle.lp_parts.specs.Views.{frame_view}
use Rattle.lp_parts.proofs.pin.push_args.Given as goal

abbrev pub invariant-loop-name : goal.invariant-loop-name
invariant-loop-name l = record {
  same : map (pin_view l.names) l.out ++ map (pin_of (frame_view l.names l.frame) (group_view l.names l.group)) (name_texts l.names (drop l.name-index l.group.args)) ≡ map (pin_view l.names) l.fn.out ++ map (pin_of (frame_view l.names l.frame) (group_view l.names l.group)) (name_texts l.names l.group.args);
  below : numbers_below (length l.names) (flat_map pin_numbers l.out) ≡ true;
}
