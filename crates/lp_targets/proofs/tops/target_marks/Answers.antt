use Rattle.lp_targets.specs.Marks.{all_targets}
use Rattle.lp_targets.proofs.Marks.{marks_are}
use Rattle.lp_targets.proofs.tops.target_marks.Goals as goal

pub returns : goal.returns
returns c = marks_are c.in_ok-marks.marks.items c.mark_all.new.marks.items (all_targets c.args.modules.now) c.in_ok-marks.ensures c.in_ok-mark_all.ensures
