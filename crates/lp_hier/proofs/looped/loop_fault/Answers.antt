use Rattle.lp_targets.specs.Structures.{structure_of}
use Rattle.lp_hier.proofs.Reporting.{told_loop, told_free, node_low}
use Rattle.lp_hier.proofs.looped.loop_fault.Goals as goal

pub returns-in_ok-line-in-Some : goal.returns-in_ok-line-in-Some
returns-in_ok-line-in-Some c = λ l ready wires.
    let s = structure_of c.args.names.now c.args.graph.now.source l in
    let low = node_low c.args.names.now s c.args.graph.now wires c.in_ok-node.field-0 c.in-Some.node c.in_ok-node.ensures.within c.in-Some.is in
    told_loop s c.in_ok-node.field-0 c.in-Some.node (c.in_ok-node.ensures.first c.args.names.now s wires) c.in-Some.is c.in_ok-text-in-Some.text.items c.in_ok-line-in-Some.line (c.in_ok-text-in-Some.ensures l ready low) c.in_ok-line-in-Some.ensures

pub returns-in-None : goal.returns-in-None
returns-in-None c = λ l ready wires.
    let s = structure_of c.args.names.now c.args.graph.now.source l in
    told_free s c.in_ok-node.field-0 (c.in_ok-node.ensures.first c.args.names.now s wires) c.in-None.is
