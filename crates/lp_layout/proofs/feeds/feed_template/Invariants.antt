use Rattle.std.proofs.Common.{◌≡◌, map, drop}
use Rattle.std.specs.Prelude.{flat_map}
use Rattle.lp_layout.specs.Fed.{statement_feeds}
use Rattle.lp_layout.specs.Held.{held_feed}
use Rattle.lp_layout.specs.Sites.{site_view}
use Rattle.lp_layout.specs.Wires.{fed}
use Rattle.lp_layout.proofs.feeds.feed_template.Given as goal

abbrev pub invariant-loop-place : goal.invariant-loop-place
invariant-loop-place l =
    fed l.wires (map held_feed (flat_map (statement_feeds l.drives (site_view l.site)) (drop l.place l.template.statements)))
    ≡ fed l.fn.wires (map held_feed (flat_map (statement_feeds l.drives (site_view l.site)) l.template.statements))
