use Rattle.std.proofs.Common.{◌≡◌, ◌∙◌, ap, map, length, subst, ◌≤◌, arith}
use Rattle.std.specs.Prelude.{OnOk}
use Rattle.std.specs.Option.{option_copied}
use Rattle.lp_layout.specs.declared.wires.Wires.{Wires}
use Rattle.lp_layout.specs.Fed.{placed_feeds}
use Rattle.lp_layout.specs.Held.{held_feed}
use Rattle.lp_layout.specs.Sites.{site_view}
use Rattle.lp_layout.specs.Wires.{fed}
use Rattle.lp_layout.proofs.Fed.{statement_fed, template_end}
use Rattle.lp_layout.proofs.feeds.feed_template.Goals as goal

pub loop-place-preserved : goal.loop-place-preserved
loop-place-preserved c =
    let x = site_view c.args.site.now in
    statement_fed c.loop-place.wires c.feed_statement.new.wires c.args.drives.now x c.in-Some.template.now.statements c.loop-place.place
    (c.in_ok-feed_statement.ensures ∙ ap (λ o. fed c.loop-place.wires (map held_feed (placed_feeds c.args.drives.now x o))) c.statement.ensures) c.loop-place.invariant

pub returns : goal.returns
returns c =
    let x = site_view c.args.site.now in
    let P : Wires → Type 0 = λ z. OnOk c.lead_all.result (c.lead_all.new.wires ≡ z) in
    let past : length c.in-Some.template.now.statements ≤ c.loop-place.place = omega (arith, c.loop-place-test.false, c.len-place-end.ensures) in
    subst P
    (template_end c.args.wires.now c.loop-place.wires c.args.drives.now x c.in-Some.template.now (option_copied c.args.template) c.loop-place.place c.assigns.result.now (ap option_copied c.in-Some.is) past c.loop-place.invariant c.assigns.ensures)
    c.lead_all.ensures
