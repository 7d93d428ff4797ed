use Rattle.lp_verilog.proofs.Unique.{one_view}
use Rattle.lp_vwrite.specs.Layout.{layout}
use Rattle.lp_vwrite.proofs.ReadBack.{read_back}
use Rattle.lp_vwrite.proofs.laws.reads_back.Goals as goal

pub returns-clause-back : goal.returns-clause-back
returns-clause-back c = λ v h table. read_back v h table

pub returns-clause-alone : goal.returns-clause-alone
returns-clause-alone c = λ v w h table reads. one_view (layout v) w v reads (read_back v h table)
