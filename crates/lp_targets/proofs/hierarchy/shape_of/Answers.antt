use Rattle.std.proofs.Common.{sym, subst}
use Rattle.lp_targets.specs.Structures.{structure_of}
use Rattle.lp_targets.specs.Reports.{or_else, recursive_report, top_report, limits_report}
use Rattle.lp_targets.specs.Sizes.{IsResolved}
use Rattle.lp_targets.proofs.Stops.{stop_first, stop_later, none_later}
use Rattle.lp_targets.proofs.Shaped.{resolved}
use Rattle.lp_targets.proofs.hierarchy.shape_of.Goals as goal

pub returns-in-Err-clause-err : goal.returns-in-Err-clause-err
returns-in-Err-clause-err c = λ l are.
    let texts = c.args.names.now in
    let s = structure_of texts c.args.netlist.now l in
    stop_first texts (recursive_report s) (or_else (top_report s) (limits_report s)) c.in-Err.refusal (c.in-Err.ensures.err l are.targets)

pub returns-in-Err-top_place-clause-err : goal.returns-in-Err-top_place-clause-err
returns-in-Err-top_place-clause-err c = λ l are.
    let texts = c.args.names.now in
    let s = structure_of texts c.args.netlist.now l in
    let later = stop_first texts (top_report s) (limits_report s) c.in-Err-top_place.refusal (c.in-Err-top_place.ensures.err l) in
    stop_later texts (recursive_report s) (or_else (top_report s) (limits_report s)) c.in-Err-top_place.refusal (c.in-Ok.ensures.ok l are.targets) later

pub returns-in-Ok-measured-clause-resolved : goal.returns-in-Ok-measured-clause-resolved
returns-in-Ok-measured-clause-resolved c = λ l are.
    let s = structure_of c.args.names.now c.args.netlist.now l in
    resolved s c.args.rows.now c.in-Ok.order.items c.in-Ok-top_place.top are c.in-Ok.ensures.order c.requires.apart (c.in-Ok-top_place.ensures.place l) (c.in-Ok-top_place.ensures.ok l)

pub returns-in-Ok-measured-clause-sizes : goal.returns-in-Ok-measured-clause-sizes
returns-in-Ok-measured-clause-sizes c = λ l are.
    let s = structure_of c.args.names.now c.args.netlist.now l in
    let all = resolved s c.args.rows.now c.in-Ok.order.items c.in-Ok-top_place.top are c.in-Ok.ensures.order c.requires.apart (c.in-Ok-top_place.ensures.place l) (c.in-Ok-top_place.ensures.ok l) in
    c.in-Ok-measured.ensures.sizes c.args.names.now l (subst (λ keys. IsResolved s c.args.rows.now keys c.in-Ok-top_place.top) (sym c.as_slice.ensures.value) all)

pub returns-in-Ok-measured-clause-ok : goal.returns-in-Ok-measured-clause-ok
returns-in-Ok-measured-clause-ok c = λ l are.
    let s = structure_of c.args.names.now c.args.netlist.now l in
    let all = resolved s c.args.rows.now c.in-Ok.order.items c.in-Ok-top_place.top are c.in-Ok.ensures.order c.requires.apart (c.in-Ok-top_place.ensures.place l) (c.in-Ok-top_place.ensures.ok l) in
    let limits = c.in-Ok-measured.ensures.ok c.args.names.now l (subst (λ keys. IsResolved s c.args.rows.now keys c.in-Ok-top_place.top) (sym c.as_slice.ensures.value) all) in
    none_later (recursive_report s) (or_else (top_report s) (limits_report s)) (c.in-Ok.ensures.ok l are.targets) (none_later (top_report s) (limits_report s) (c.in-Ok-top_place.ensures.ok l) limits)

pub returns-in-Err-measured-clause-err : goal.returns-in-Err-measured-clause-err
returns-in-Err-measured-clause-err c = λ l are.
    let texts = c.args.names.now in
    let s = structure_of texts c.args.netlist.now l in
    let all = resolved s c.args.rows.now c.in-Ok.order.items c.in-Ok-top_place.top are c.in-Ok.ensures.order c.requires.apart (c.in-Ok-top_place.ensures.place l) (c.in-Ok-top_place.ensures.ok l) in
    let stop = c.in-Err-measured.ensures.err texts l (subst (λ keys. IsResolved s c.args.rows.now keys c.in-Ok-top_place.top) (sym c.as_slice.ensures.value) all) in
    stop_later texts (recursive_report s) (or_else (top_report s) (limits_report s)) c.in-Err-measured.refusal (c.in-Ok.ensures.ok l are.targets)
    (stop_later texts (top_report s) (limits_report s) c.in-Err-measured.refusal (c.in-Ok-top_place.ensures.ok l) stop)
