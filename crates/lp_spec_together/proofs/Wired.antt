-- A netlist of the written content is wired.
use Rattle.std.proofs.Common.{List}
use Rattle.lp_model.specs.NetlistView.{ModuleView}
use Rattle.lp_spec_design.specs.Nodes.{HasFuel, HasItsNodes}
use Rattle.lp_spec_realises.specs.Projects.{Project}
use Rattle.lp_spec_realises.specs.ProjectNetlists.{IsProjectNetlist, netlist_of}
use Rattle.lp_spec_written.specs.Written.{additions}
use Rattle.lp_spec_hub.specs.Drives.{comes_from}
use Rattle.lp_spec_written_at.specs.Laws.{IsDrivenOnce}
use Rattle.lp_spec_written_at.proofs.Projects.{content-is}
use Rattle.lp_spec_wires.specs.Laws.{WiresStand}
use Rattle.lp_spec_added_wires.specs.Laws.{NoWireComesBack}
use Rattle.lp_spec_proper.specs.Laws.{InsertableIsOrderly, AdditionsAreProper, AdditionsHavePlaces}
use Rattle.lp_spec_proper.proofs.Free.{ready}
use Rattle.lp_spec_begun.specs.Laws.{InsertableBegins}
use Rattle.lp_spec_sources.specs.Laws.{ContentHasSingleSources}
use Rattle.lp_spec_together.specs.Laws.{ContentIsWired}

pub content-is-wired : InsertableIsOrderly → AdditionsAreProper → AdditionsHavePlaces → WiresStand → NoWireComesBack
    → ((p : Project) (m : List ModuleView) → IsProjectNetlist p m → HasItsNodes (netlist_of p m) × HasFuel (netlist_of p m))
    → ContentHasSingleSources → InsertableBegins → ContentIsWired
content-is-wired orderly proper places stand comes_back fuel single begins p l switch_command modules read good within content =
    let order = orderly p l switch_command read good within in
    let good_additions = proper p l switch_command read good within in
    let stands_in = places p l switch_command read good within in
    let all = stand p (additions p l) (netlist_of p modules) (comes_from p) content.at_paths good_additions stands_in in
    let driven : IsDrivenOnce (netlist_of p modules) = record {
      one_source = single p l switch_command modules read good within content.at_paths content.names;
      no_loop = comes_back p (additions p l) (netlist_of p modules) (comes_from p) content.at_paths good_additions stands_in all order.fuel;
    } in
    let whole = content-is p l modules (ready p l switch_command read good within) content.at_paths content.reached content.names driven in
    let its = begins p l switch_command (netlist_of p modules) read good within content.at_paths (fuel p modules whole).1 in
    record { driven = driven; wires = its.wires; controls = its.controls; supplies = its.supplies; bits = its.bits }
