use Rattle.std.proofs.Common.{◌≡◌, List, map, slice_get, Some, reverse, sym, subst}
use Rattle.lp_model.specs.declared.netlist.Module.{Module}
use Rattle.lp_targets.specs.Structures.{structure_of}
use Rattle.lp_targets.specs.Reports.{recursive_report, IsStop}
use Rattle.lp_targets.proofs.Refused.{recursive_said, none_said}
use Rattle.lp_targets.proofs.looped.ordered_modules.Goals as goal

pub returns-in-Some-clause-ok : goal.returns-in-Some-clause-ok
returns-in-Some-clause-ok c =
    λ l t. none_said c.args.names.now c.args.netlist.now c.requires.apart c.args.rows.now c.in_ok-graph.graph c.in_ok-graph.ensures l t (reverse c.in-Some.order.items) (rw c.in-Some.is at c.in_ok-order.ensures)

pub returns-clause-err : goal.returns-clause-err
returns-clause-err c =
    λ l t. subst (IsStop c.args.names.now (recursive_report (structure_of c.args.names.now c.args.netlist.now l))) (sym c.from.ensures)
    (recursive_said c.args.names.now c.args.netlist.now c.requires.apart c.args.rows.now c.in_ok-graph.graph c.in_ok-graph.ensures l t c.in-Some-2.place c.name_at-target.result (rw c.in-Some-2.is at c.in_ok-place.ensures)
    (subst (λ (ms : List Module). slice_get (map (λ (m : Module). m.name) ms) c.in-Some-2.place ≡ Some c.name_at-target.result) c.as_slice.ensures c.name_at-target.ensures))
