use Rattle.lp_verilog.proofs.Standing.{numbers_stand}
use Rattle.lp_verilog.proofs.laws.numbers_stand.Goals as goal

pub returns : goal.returns
returns c names text modules apart few h = numbers_stand names text modules h
