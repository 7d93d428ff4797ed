use Rattle.lp_verilog.proofs.Growing.{denotes_still, seen_still}
use Rattle.lp_verilog.proofs.laws.grown_names_keep_readings.Goals as goal

pub returns-clause-denotes : goal.returns-clause-denotes
returns-clause-denotes c old new text modules g h = denotes_still old new text modules g h

pub returns-clause-seen : goal.returns-clause-seen
returns-clause-seen c old new text modules g apart few h = seen_still old new text modules g apart few h
