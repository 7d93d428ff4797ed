-- Where the equations have an order, exactly one assignment settles for an event and states of the registers.
use Rattle.lp_tern.specs.declared.tern.Tern.TheVariants.{X}
use Rattle.lp_spec_settling.specs.Settling.{HasOrder, SettlesOnce}
use Rattle.lp_spec_settling.proofs.Laws.{settles_once}
use Rattle.lp_spec_design.specs.Settled.{Registers, Logic}
use Rattle.lp_spec_pins.specs.Pins.{Powered, PinEvent, pin_equation}
use Rattle.lp_spec_pins.specs.Reads.{keys, reads}
use Rattle.lp_spec_pins.proofs.Looks.{looks}

pub settles_in_order : (w : Powered) → HasOrder keys (reads w) → (ev : PinEvent) (regs : Registers) → SettlesOnce (pin_equation w ev regs)
settles_in_order w ordered ev regs = settles_once keys (Logic X) (reads w) (pin_equation w ev regs) (looks w ev regs) ordered
