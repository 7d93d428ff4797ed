use Rattle.lp_verilog.proofs.Found.{one_outcome}
use Rattle.lp_verilog.proofs.laws.one_outcome.Goals as goal

pub returns : goal.returns
returns c names text a b h k = one_outcome names text a b h k
