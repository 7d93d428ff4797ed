use Rattle.std.proofs.Common.{ap}
use Rattle.std.specs.Prelude.{not, ◌&&◌}
use Rattle.lp_spec_design.specs.Settled.{kept, output_by}
use Rattle.lp_spec_pins.specs.Pins.{is_unfit, pins_read}
use Rattle.lp_spec_pins.proofs.laws.lost_where_powered_down.Goals as goal

pub returns : goal.returns
returns context w B regs p x c q down = ap (λ b. kept (b && not (is_unfit w B p x c q)) (output_by c (pins_read w B p x c) (regs p x) q.function)) down
