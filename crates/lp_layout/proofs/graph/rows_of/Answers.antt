use Rattle.std.proofs.Common.{◌∙◌}
use Rattle.std.specs.Prelude.{None}
use Rattle.lp_layout.specs.Rows.{walked}
use Rattle.lp_layout.specs.Sites.{sites_view}
use Rattle.lp_layout.proofs.Seen.{all_seen}
use Rattle.lp_layout.proofs.graph.rows_of.Goals as goal

pub returns : goal.returns
returns c =
    let ms = c.args.modules.now in
    let ts = c.args.templates.now in
    let top = c.args.top in
    c.in_ok-visit.ensures
    ∙ (λ i. walked ms ts 64 0 (record { of = top; by = None; start = 0; leaf = 0 }) (record { sites = sites_view (c.new.ensures.items i); leaves = c.new-2.ensures i; pins = c.new-3.ensures i }))
    ∙ all_seen ms ts top
