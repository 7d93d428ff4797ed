use Rattle.lp_model.specs.LibraryView.{library_view}
use Rattle.lp_model.specs.NetlistView.{netlist_view}
use Rattle.lp_targets.specs.Structures.{structure_of}
use Rattle.lp_accept.specs.Judged.{IsFaultless}
use Rattle.lp_accept.proofs.Checking.{plain_stop, stops-faulty}
use Rattle.lp_accept.proofs.source.check_netlist.Goals as goal

pub stop_of-requires : goal.stop_of-requires
stop_of-requires c = plain_stop c.args.names.now (structure_of c.args.names.now c.args.netlist.now c.args.library.now) c.in-Err.refusal c.in-Err.ensures.err

pub returns-in-Err : goal.returns-in-Err
returns-in-Err c =
    let cells = library_view c.args.names.now c.args.library.now in
    let modules = netlist_view c.args.names.now c.args.netlist.now in
    stops-faulty {T = Unit {0}} (λ _. IsFaultless cells modules) c.args.names.now cells modules c.in-Err.refusal c.stop_of.result c.in-Err.ensures.err c.stop_of.ensures
