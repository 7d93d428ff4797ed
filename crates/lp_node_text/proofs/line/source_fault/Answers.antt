use Rattle.std.proofs.Common.{ap, ◌∙◌}
use Rattle.std.specs.Prelude.{option_map}
use Rattle.lp_targets.specs.Structures.{structure_of}
use Rattle.lp_drivers.specs.Ready.{node_of}
use Rattle.lp_node_text.proofs.Reading.{driven-within}
use Rattle.lp_node_text.proofs.Writing.{line-is}
use Rattle.lp_node_text.proofs.line.source_fault.Goals as goal

pub returns-in_ok-line-in-Some : goal.returns-in_ok-line-in-Some
returns-in_ok-line-in-Some c = λ ready.
    let s = structure_of c.args.names.now c.args.netlist.now c.args.library.now in
    let node = c.in-Some.node in
    let found = c.in_ok-node.ensures c.args.names.now ready ∙ ap (option_map (node_of s)) c.in-Some.is in
    let low = driven-within s ready.names node.0 found in
    line-is s (node_of s node) c.in_ok-text-in-Some.text.items c.in_ok-line-in-Some.line found (c.in_ok-text-in-Some.ensures c.args.library.now ready low) c.in_ok-line-in-Some.ensures
