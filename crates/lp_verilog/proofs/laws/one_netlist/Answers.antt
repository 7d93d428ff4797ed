use Rattle.lp_verilog.proofs.Unique.{one_view}
use Rattle.lp_verilog.proofs.laws.one_netlist.Goals as goal

pub returns : goal.returns
returns c text a b h k = one_view text a b h k
