use Rattle.std.proofs.Common.{◌∙◌}
use Rattle.std.proofs.lemmas.Result.{IfOk-weaker}
use Rattle.lp_model.specs.GroupsView.{group_view}
use Rattle.std.specs.Prelude.{map}
use Rattle.lp_cells.proofs.Naming.{reason_same}
use Rattle.lp_cells.proofs.judge.reason_of.Goals as goal

pub returns : goal.returns
returns c =
    IfOk-weaker c.reason_by.result _ _ (λ r h. h ∙ reason_same c.args.names.now c.args.place c.args.frame.now (group_view c.args.names.now c.args.head.now) (map (group_view c.args.names.now) c.args.groups.now) c.args.pins.now c.as_slice-own.result.now c.as_slice-all.result.now (c.as_slice-own.ensures.value ∙ c.in_ok-pin_ids.ensures) (c.as_slice-all.ensures.value ∙ c.in_ok-all_ids.ensures)) c.reason_by.ensures
