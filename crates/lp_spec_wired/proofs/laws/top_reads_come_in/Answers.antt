use Rattle.lp_spec_wired.proofs.Tops.{top-reads-come-in}
use Rattle.lp_spec_wired.proofs.laws.top_reads_come_in.Goals as goal

pub returns : goal.returns
returns c = top-reads-come-in
