use Rattle.std.proofs.Common.{◌≡◌, map, drop}
use Rattle.std.specs.Prelude.{flat_map}
use Rattle.lp_layout.specs.Fed.{feeds_at}
use Rattle.lp_layout.specs.Held.{held_feed}
use Rattle.lp_layout.specs.Plans.{plan_view}
use Rattle.lp_layout.specs.Sites.{sites_view}
use Rattle.lp_layout.specs.Wires.{fed}
use Rattle.lp_layout.proofs.feeds.feed_all.Given as goal

abbrev pub invariant-loop-site : goal.invariant-loop-site
invariant-loop-site l =
    fed l.wires (map held_feed (flat_map (feeds_at l.plan.drives.now (plan_view l.plan)) (sites_view (drop l.site-index l.site-items))))
    ≡ fed l.fn.wires (map held_feed (flat_map (feeds_at l.plan.drives.now (plan_view l.plan)) (sites_view l.site-items)))
