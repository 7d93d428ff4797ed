-- Sizes and heights of the modules of a netlist: the sizes are told, and no module is higher than the instances that stand in it (own rule).
use Rattle.std.specs.Prelude.{◌≡◌, ◌<◌, ℕ, List, slice_index_or}
use Rattle.lp_spec_design.specs.Netlists.{Structure}
use Rattle.lp_spec_layout.specs.Parts.{Template}
use Rattle.lp_spec_layout.specs.Walked.{IsSized, AreHeights}
use Rattle.lp_targets.specs.declared.size.Size.{Size}
use Rattle.lp_templates.specs.Sizes.{no_size}
use Rattle.lp_templates.specs.Views.{size_view}

-- templates lie behind one another by these sizes; heights are no more than wanted, and that of the top is within its limit
pub record AreMeasured (s : Structure) (templates : List Template) (sizes : List Size) (top : ℕ) : Type 0 where
  pub sized : IsSized s templates
  pub told : (n : ℕ) → sized.size n ≡ size_view (slice_index_or sizes n no_size)
  pub exact : AreHeights s templates sized.height
  pub low : sized.height top < 64
