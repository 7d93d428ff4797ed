use Rattle.std.proofs.Common.{ap, ◌∙◌}
use Rattle.std.specs.String.{string_bytes}
use Rattle.lp_vwrite.specs.Layout.{range_in}
use Rattle.lp_vwrite.proofs.Ranges.{lookup-view}
use Rattle.lp_vwrite.proofs.vectors.Vectors.find.Goals as goal

pub returns : goal.returns
returns c =
    c.copied.ensures ∙ c.get.ensures.value ∙ lookup-view string_bytes c.args.name.now c.self.inside.ranges.entries ∙ ap (λ vs. range_in vs c.args.name.now) c.self.view_is
