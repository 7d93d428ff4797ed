use Rattle.std.proofs.Common.{◌≡◌, [], drop}
use Rattle.lp_model.specs.Agreement.{name_texts}
use Rattle.lp_cells.specs.Reasons.{repeated}
use Rattle.lp_cells.proofs.judge.repeated.Given as goal

abbrev pub invariant-loop-id : goal.invariant-loop-id
invariant-loop-id l = repeated l.met (name_texts l.names (drop l.id-index l.ids)) ≡ repeated [] (name_texts l.names l.ids)
