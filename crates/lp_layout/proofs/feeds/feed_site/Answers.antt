use Rattle.std.proofs.Common.{◌≡◌, subst}
use Rattle.std.specs.Prelude.{OnOk}
use Rattle.std.specs.Option.{option_copied}
use Rattle.lp_layout.specs.declared.wires.Wires.{Wires}
use Rattle.lp_layout.specs.Plans.{plan_view}
use Rattle.lp_layout.specs.Sites.{site_view}
use Rattle.lp_layout.proofs.Fed.{site_fed}
use Rattle.lp_layout.proofs.feeds.feed_site.Goals as goal

pub returns : goal.returns
returns c =
    let P : Wires → Type 0 = λ z. OnOk c.feed_template.result (c.feed_template.new.wires ≡ z) in
    subst P
    (site_fed c.args.wires.now c.feed_inputs.new.wires c.args.plan.now.drives.now (plan_view c.args.plan.now) (site_view c.args.site.now) (option_copied c.at.result) c.in_ok-feed_inputs.ensures c.at.ensures)
    c.feed_template.ensures
