use Rattle.lp_verilog.proofs.Stuck.{stuck_reads_nothing}
use Rattle.lp_verilog.proofs.laws.stuck_reads_nothing.Goals as goal

pub returns : goal.returns
returns c text tokens more h k = stuck_reads_nothing text tokens more h k
