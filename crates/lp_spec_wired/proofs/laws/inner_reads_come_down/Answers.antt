use Rattle.lp_spec_wired.proofs.Kept.{inner-reads-come-down}
use Rattle.lp_spec_wired.proofs.laws.inner_reads_come_down.Goals as goal

pub returns : goal.returns
returns c = inner-reads-come-down
