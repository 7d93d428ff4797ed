use Rattle.std.proofs.Common.{[], ap, ◌∙◌}
use Rattle.std.proofs.lemmas.Result.{IfOk-weaker}
use Rattle.lp_model.specs.Agreement.{name_texts}
use Rattle.lp_cells.specs.Reasons.{repeated}
use Rattle.lp_cells.proofs.Naming.{cells_named}
use Rattle.lp_cells.proofs.files.twice.Goals as goal

pub returns : goal.returns
returns c = IfOk-weaker c.repeated.result _ _ (λ o h. h ∙ ap (repeated []) (ap (name_texts c.args.names.now) (c.as_slice-all.ensures.value ∙ c.in_ok-ids.ensures) ∙ cells_named c.args.names.now c.args.cells.now)) c.repeated.ensures
