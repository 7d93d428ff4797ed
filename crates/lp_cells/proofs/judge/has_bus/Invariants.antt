use Rattle.std.proofs.Common.{◌≡◌, drop}
use Rattle.std.specs.List.{list_any}
use Rattle.lp_model.specs.Agreement.{name_texts}
use Rattle.lp_cells.specs.Reasons.{is_bus_name}
use Rattle.lp_cells.proofs.judge.has_bus.Given as goal

abbrev pub invariant-loop-id : goal.invariant-loop-id
invariant-loop-id l = list_any is_bus_name (name_texts l.names (drop l.id-index l.ids)) ≡ list_any is_bus_name (name_texts l.names l.ids)
