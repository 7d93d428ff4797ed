use Rattle.std.proofs.Common.{map, subst}
use Rattle.lp_model.specs.GroupsView.{groups_view}
use Rattle.lp_cells.specs.Cells.{IsLibrary, RefusesLibrary}
use Rattle.lp_model.specs.LibraryView.{library_view}
use Rattle.lp_model.specs.declared.fault.refusal.Refusal.TheVariants as refusals
use Rattle.lp_accept.specs.Read.{IsCells}
use Rattle.lp_accept.proofs.Readings.{still-groups, stops-double}
use Rattle.lp_accept.proofs.libraries.read_library.Goals as goal

pub returns-in-Ok-library-clause-gives : goal.returns-in-Ok-library-clause-gives
returns-in-Ok-library-clause-gives c =
    let new = c.library.new.names in
    let files = c.in-Ok.files in
    let still = still-groups c.read_all.new.names new c.in-Ok-library.ensures.grown c.args.libs.now files c.in-Ok.ensures.gives in
    record {
      has = record {
        groups = map (groups_view new) files;
        read = still.have;
        denoted = subst (λ f. IsLibrary (map (groups_view new) f) (library_view new c.in-Ok-library.library)) c.as_slice.ensures c.in-Ok-library.ensures.ok;
      };
      below = c.in-Ok-library.ensures.numbers;
    }

pub returns-in-Err-Fault-clause-gives : goal.returns-in-Err-Fault-clause-gives
returns-in-Err-Fault-clause-gives c =
    let new = c.library.new.names in
    let files = c.in-Ok.files in
    let fault = c.in-Err-Fault.fault in
    let still = still-groups c.read_all.new.names new c.in-Err-Fault.ensures.grown c.args.libs.now files c.in-Ok.ensures.gives in
    let refused = subst (λ r. RefusesLibrary new (map (groups_view new) c.as_slice.result.now) r) c.in-Err-Fault.field-0-is c.in-Err-Fault.ensures.err in
    stops-double new c.args.libs.now (map (groups_view new) files) fault c.stop_at.result (IsCells new c.args.libs.now) still.have
    (subst (λ f. RefusesLibrary new (map (groups_view new) f) (refusals.Fault fault)) c.as_slice.ensures refused)
    c.stop_at.ensures
