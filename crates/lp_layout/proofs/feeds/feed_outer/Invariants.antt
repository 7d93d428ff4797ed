use Rattle.std.proofs.Common.{◌≡◌, map, drop}
use Rattle.lp_spec_design.specs.Graph.{numbered}
use Rattle.lp_spec_layout.specs.Feeds.{outer_feed}
use Rattle.lp_layout.specs.Held.{held_feed}
use Rattle.lp_layout.specs.Wires.{fed}
use Rattle.lp_layout.proofs.feeds.feed_outer.Given as goal

abbrev pub invariant-loop-k : goal.invariant-loop-k
invariant-loop-k l = fed l.wires (map held_feed (map (outer_feed l.inner) (numbered l.k (drop l.k l.ports)))) ≡ fed l.fn.wires (map held_feed (map (outer_feed l.inner) (numbered 0 l.ports)))
