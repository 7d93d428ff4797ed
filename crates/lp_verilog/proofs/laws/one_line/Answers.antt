use Rattle.lp_verilog.proofs.Lines.{one_line}
use Rattle.lp_verilog.proofs.laws.one_line.Goals as goal

pub returns : goal.returns
returns c a b text f g apart_a few_a apart_b few_b h k = one_line a b text f g apart_a few_a apart_b few_b h k
