use Rattle.lp_verilog.proofs.Counted.{parts_are_few}
use Rattle.lp_verilog.proofs.laws.parts_are_few.Goals as goal

pub returns : goal.returns
returns c names text modules h = parts_are_few names text modules h
