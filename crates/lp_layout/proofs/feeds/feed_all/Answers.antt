use Rattle.std.proofs.Common.{◌≡◌, ◌∙◌, ◌≤◌, length, refl, sym, ap, subst, arith}
use Rattle.std.specs.Prelude.{Some, OnOk}
use Rattle.std.proofs.lemmas.Option.{slice_get-get_or}
use Rattle.lp_layout.specs.declared.wires.Wires.{Wires}
use Rattle.lp_layout.specs.Fed.{feeds_at}
use Rattle.lp_layout.specs.Plans.{plan_view}
use Rattle.lp_layout.proofs.Fed.{sites_more, all_fed}
use Rattle.lp_layout.proofs.feeds.feed_all.Goals as goal

pub loop-site-preserved : goal.loop-site-preserved
loop-site-preserved c =
    let xs = c.args.plan.now.sites.now in
    let k = c.loop-site.site-index in
    let x = c.site-item.result in
    sites_more c.loop-site.wires c.feed_site.new.wires (feeds_at c.args.plan.now.drives.now (plan_view c.args.plan.now)) xs k x (slice_get-get_or xs k x c.loop-site-test.true ∙ ap (λ z. Some z) (sym c.site-item.is)) c.in_ok-feed_site.ensures c.loop-site.invariant

pub returns : goal.returns
returns c =
    let P : Wires → Type 0 = λ z. OnOk c.feed_outer.result (c.feed_outer.new.wires ≡ z) in
    let past : length c.args.plan.now.sites.now ≤ c.loop-site.site-index = omega (arith, c.loop-site-test.false) in
    subst P
    (all_fed c.args.wires.now c.loop-site.wires c.args.plan.now.drives.now (plan_view c.args.plan.now) c.args.plan.now.sites.now c.loop-site.site-index refl past c.loop-site.invariant)
    c.feed_outer.ensures
