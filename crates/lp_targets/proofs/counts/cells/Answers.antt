use Rattle.std.proofs.Common.{◌∙◌}
use Rattle.lp_spec_faults.specs.Modules.{cells_in}
use Rattle.lp_targets.proofs.Owns.{cells_own}
use Rattle.lp_targets.proofs.counts.cells.Goals as goal

pub returns : goal.returns
returns c = λ s top resolved.
    c.sums.ensures s top resolved (cells_in s) (cells_own s c.args.rows.now 1000001 c.as_slice.result.now resolved.known (c.as_slice.ensures.value ∙ c.in_ok-own.ensures))
