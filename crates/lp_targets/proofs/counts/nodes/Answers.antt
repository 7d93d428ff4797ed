use Rattle.std.proofs.Common.{◌∙◌}
use Rattle.lp_spec_faults.specs.Modules.{bits_in}
use Rattle.lp_targets.specs.Structures.{structure_of}
use Rattle.lp_targets.proofs.Owns.{bits_own}
use Rattle.lp_targets.proofs.counts.nodes.Goals as goal

pub returns : goal.returns
returns c = λ top texts l resolved.
    let s = structure_of texts c.args.netlist.now l in
    let own = bits_own texts c.args.netlist.now l 4000001 c.as_slice.result.now c.as_slice.ensures c.as_slice-2.result.now (c.as_slice-2.ensures.value ∙ c.in_ok-own.ensures) in
    c.sums.ensures s top resolved bits_in own
