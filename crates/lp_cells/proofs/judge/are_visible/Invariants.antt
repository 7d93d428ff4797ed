use Rattle.std.proofs.Common.{◌≡◌, drop}
use Rattle.std.specs.List.{list_all}
use Rattle.lp_model.specs.Agreement.{name_texts}
use Rattle.lp_cells.specs.Reasons.{is_visible}
use Rattle.lp_cells.proofs.judge.are_visible.Given as goal

abbrev pub invariant-loop-id : goal.invariant-loop-id
invariant-loop-id l = list_all is_visible (name_texts l.names (drop l.id-index l.ids)) ≡ list_all is_visible (name_texts l.names l.ids)
