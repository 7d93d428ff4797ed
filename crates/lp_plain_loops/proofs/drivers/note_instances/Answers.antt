use Rattle.std.proofs.Common.{◌≡◌, ◌∙◌, sym, ap, arith}
use Rattle.std.specs.Option.{option_copied}
use Rattle.lp_plain_loops.specs.Numbered.{named, cell_entries, instance_entries, note_all, all_shown}
use Rattle.lp_plain_loops.proofs.Numbering.{noting-next}
use Rattle.lp_plain_loops.proofs.drivers.note_instances.Goals as goal
use Rattle.lp_plain_loops.proofs.drivers.note_instances.Goals.{in-Some, in_default}

pub loop-instance-preserved : goal.loop-instance-preserved
loop-instance-preserved c =
    let nets = c.args.nets.now in
    let cells = c.args.index.now in
    let it = c.instance-item.result in
    let found = all_shown nets c.loop-instance.found in
    let noted : all_shown nets c.match-numbered.found ≡ note_all nets found (instance_entries cells nets it) =
    elim c.match-numbered.branch [
      | in-Some w ↦ ap (all_shown nets) w.found-is ∙ w.note_pins.ensures ∙ ap (λ o. note_all nets found (cell_entries nets (named it.connections) o)) w.in-Some.ensures
      | in_default w ↦ ap (all_shown nets) w.found-is ∙ ap (λ o. note_all nets found (cell_entries nets (named it.connections) o)) (ap option_copied (sym w.in_default.is) ∙ c.numbered.ensures)
    ] in
    noting-next nets (instance_entries cells nets) c.args.instances.now c.loop-instance.instance-index it found (all_shown nets c.match-numbered.found) _ (omega arith)
    (noted ∙ ap (λ x. note_all nets found (instance_entries cells nets x)) c.instance-item.is) c.loop-instance.invariant
