use Rattle.lp_spec_driven.proofs.Come.{output-reads-stand}
use Rattle.lp_spec_driven.proofs.laws.output_reads_stand.Goals as goal

pub returns : goal.returns
returns c = output-reads-stand
