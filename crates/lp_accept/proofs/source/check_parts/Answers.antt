use Rattle.lp_targets.specs.Structures.{structure_of}
use Rattle.lp_accept.proofs.Checking.{are_named, stop_by_names, refused}
use Rattle.lp_accept.proofs.source.check_parts.Goals as goal

pub returns-in-Err-check_connections-clause-err : goal.returns-in-Err-check_connections-clause-err
returns-in-Err-check_connections-clause-err c =
    let h = c.in-Ok.hierarchy in
    let named = are_named c.args.names.now c.args.netlist.now c.args.library.now c.requires.cells c.requires.modules in
    refused c.args.names.now c.args.netlist.now c.args.library.now h c.as_slice-rows.result.now c.as_slice-rows.ensures c.requires.modules named c.in-Ok.ensures.resolved c.in-Ok.ensures.sizes c.in-Ok.ensures.ok c.in-Err-check_connections.refusal c.in-Err-check_connections.ensures.err

pub returns-in-Err-clause-err : goal.returns-in-Err-clause-err
returns-in-Err-clause-err c = stop_by_names c.args.names.now (structure_of c.args.names.now c.args.netlist.now c.args.library.now) c.in-Err.refusal c.in-Err.ensures.err
