use Rattle.std.proofs.Common.{sym}
use Rattle.lp_model.specs.Bits.{between}
use Rattle.lp_model.proofs.Runs.{no-constant}
use Rattle.lp_model.proofs.run.Run.has_constant.Goals as goal

pub returns-in-Part : goal.returns-in-Part
returns-in-Part c = rw (c.in-Part.is) (sym (no-constant c.in-Part.field-0 (between c.in-Part.field-1 c.in-Part.field-2)))
