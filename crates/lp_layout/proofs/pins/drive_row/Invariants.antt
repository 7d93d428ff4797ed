use Rattle.std.proofs.Common.{◌≡◌, map}
use Rattle.lp_spec_layout.specs.Feeds.{row_feeds}
use Rattle.lp_layout.specs.Held.{held_feed}
use Rattle.lp_layout.specs.Wires.{fed}
use Rattle.lp_layout.proofs.Fed.{row_behind}
use Rattle.lp_layout.proofs.pins.drive_row.Given as goal

abbrev pub invariant-loop-pin : goal.invariant-loop-pin
invariant-loop-pin l = fed l.wires (map held_feed (row_behind l.drives l.start l.leaf l.row l.pin)) ≡ fed l.fn.wires (map held_feed (row_feeds l.drives l.start l.leaf l.row))
