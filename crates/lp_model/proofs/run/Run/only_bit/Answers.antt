use Rattle.std.proofs.Common.{arith}
use Rattle.lp_model.specs.Bits.{run_bits}
use Rattle.lp_model.proofs.Runs.{only-one}
use Rattle.lp_model.proofs.run.Run.only_bit.Goals as goal

pub returns-then-width-eq1 : goal.returns-then-width-eq1
returns-then-width-eq1 c = only-one (run_bits c.args.self) c.bit.result (omega arith) c.bit.ensures
