use Rattle.std.proofs.Common.{◌≡◌, ◌∙◌, ◌-◌, suc, ap, sym, arith}
use Rattle.std.specs.Option.{option_copied}
use Rattle.lp_layout.specs.Rows.{rows_view, visited}
use Rattle.lp_layout.specs.Sites.{site_view}
use Rattle.lp_layout.proofs.Seen.{place_more, visit_begin, visit_empty, site_pushed}
use Rattle.lp_layout.proofs.rows.+walk.Goals as goal

pub visit-returns-in_default : goal.visit-returns-in_default
visit-returns-in_default t c =
    let ms = c.args.design.now.modules.now in
    let ts = c.args.design.now.templates.now in
    let deep : suc (c.args.depth - 1) ≡ c.args.depth = omega (arith, c.if-depth-eq0.false) in
    visit_empty ms ts (c.args.depth - 1) c.args.inst (site_view c.args.site) c.args.depth (rows_view c.args.rows.now) _ deep
    (sym c.at.ensures ∙ ap option_copied c.in_default.is) (site_pushed c.args.rows.now.sites.items c.push.new.self.items c.args.site c.args.rows.now.leaves c.args.rows.now.pins c.in_ok-push.ensures.items)

pub visit-loop-place-init : goal.visit-loop-place-init
visit-loop-place-init t c =
    let ms = c.args.design.now.modules.now in
    let ts = c.args.design.now.templates.now in
    let deep : suc (c.args.depth - 1) ≡ c.args.depth = omega (arith, c.if-depth-eq0.false) in
    visit_begin ms ts (c.args.depth - 1) c.args.inst (site_view c.args.site) c.args.depth (rows_view c.args.rows.now) _ c.in-Some.template.now deep
    (sym c.at.ensures ∙ ap option_copied c.in-Some.is) (site_pushed c.args.rows.now.sites.items c.push.new.self.items c.args.site c.args.rows.now.leaves c.args.rows.now.pins c.in_ok-push.ensures.items)

pub visit-loop-place-preserved : goal.visit-loop-place-preserved
visit-loop-place-preserved t c =
    let ms = c.args.design.now.modules.now in
    let ts = c.args.design.now.templates.now in
    let d = c.args.depth - 1 in
    place_more ms ts d c.args.inst (site_view c.args.site) (rows_view c.loop-place.rows) (rows_view c.visit_statement.new.rows) c.in-Some.template.now.statements c.loop-place.place
    (c.in_ok-visit_statement.ensures ∙ ap (λ o. visited ms ts d c.args.inst (site_view c.args.site) c.loop-place.place o (rows_view c.loop-place.rows)) c.statement-statement.ensures) c.loop-place.invariant
