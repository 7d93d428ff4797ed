use Rattle.std.proofs.Common.{length, sym, ◌∙◌}
use Rattle.lp_targets.specs.Children.{children_of}
use Rattle.lp_targets.proofs.Closed.{count_map}
use Rattle.lp_targets.proofs.Looping.{count}
use Rattle.lp_targets.proofs.Owns.{instances_own}
use Rattle.lp_targets.proofs.counts.instances.Goals as goal

pub returns : goal.returns
returns c = λ s top resolved.
    let rows = c.args.rows.now in
    c.sums.ensures s top resolved (λ m. 1)
    (instances_own s 1000001 (length rows) c.as_slice.result.now (sym (count s rows resolved.known.targets) ∙ count_map children_of rows) (c.as_slice.ensures.value ∙ c.in_ok-own.ensures))
