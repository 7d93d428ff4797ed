use Rattle.lp_targets.specs.Structures.{structure_of}
use Rattle.lp_targets.proofs.counts.counts_of.Goals as goal

pub returns : goal.returns
returns c = λ top texts l resolved.
    let s = structure_of texts c.args.netlist.now l in
    record {
      nodes = c.in_ok-nodes.ensures top texts l resolved;
      cells = c.in_ok-cells.ensures s top resolved;
      instances = c.in_ok-instances.ensures s top resolved;
      depths = c.in_ok-depths.ensures s top resolved;
    }
