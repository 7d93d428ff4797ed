use Rattle.std.proofs.Common.{◌≡◌, ◌+◌, ◌-◌, ◌*◌, drop}
use Rattle.lp_layout.specs.Sites.{site_view}
use Rattle.lp_layout.specs.Rows.{rows_view, walked}
use Rattle.lp_layout.proofs.Seen.{behind}
use Rattle.lp_layout.proofs.rows.+walk.Given as goal

abbrev pub decreases-visit : goal.decreases-visit
decreases-visit l = 2 * l.depth

abbrev pub decreases-visit_statement : goal.decreases-visit_statement
decreases-visit_statement l = 2 * l.depth + 1

abbrev pub invariant-visit-loop-place : goal.invariant-visit-loop-place
invariant-visit-loop-place l =
    behind l.design.modules.now l.design.templates.now (l.depth - 1) l.inst (site_view l.site) (rows_view l.rows) l.place (drop l.place l.template.statements)
    ≡ walked l.design.modules.now l.design.templates.now l.depth l.inst (site_view l.site) (rows_view l.fn.rows)
