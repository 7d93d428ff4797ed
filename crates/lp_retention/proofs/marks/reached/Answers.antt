use Rattle.std.proofs.Common.{length, ap, ◌∙◌}
use Rattle.lp_retention.specs.Marks.{instance_of}
use Rattle.lp_retention.proofs.Lists.{length-marks}
use Rattle.lp_retention.proofs.marks.reached.Goals as goal

pub inherit-requires : goal.inherit-requires
inherit-requires c = ap length (c.as_slice.ensures.value ∙ c.in_ok-table.ensures) ∙ length-marks instance_of (length c.args.instances.now) c.args.elements.now
