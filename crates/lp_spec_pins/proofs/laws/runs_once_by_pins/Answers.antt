use Rattle.lp_spec_settling.proofs.Runs.{runs_once}
use Rattle.lp_spec_pins.specs.Registers.{states_after_by_pins}
use Rattle.lp_spec_pins.specs.Runs.{pin_equation_in}
use Rattle.lp_spec_pins.proofs.Runs.{settles_in_order}
use Rattle.lp_spec_pins.proofs.laws.runs_once_by_pins.Goals as goal

pub returns : goal.returns
returns c w last states events ordered = runs_once (pin_equation_in w) (states_after_by_pins w) (λ ev s. settles_in_order w ordered ev s.main) last states events
