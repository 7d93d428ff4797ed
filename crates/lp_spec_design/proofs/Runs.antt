-- Where the equations have an order, exactly one assignment settles for an event and states of the registers.
use Rattle.lp_tern.specs.declared.tern.Tern.TheVariants.{X}
use Rattle.lp_spec_settling.specs.Settling.{HasOrder, SettlesOnce}
use Rattle.lp_spec_settling.proofs.Laws.{settles_once}
use Rattle.lp_spec_design.specs.Settled.{Design, Event, Registers, Logic, equation}
use Rattle.lp_spec_design.specs.Reads.{keys, reads}
use Rattle.lp_spec_design.proofs.Looks.{looks}

pub settles_in_order : (d : Design) → HasOrder keys (reads d) → (ev : Event) (regs : Registers) → SettlesOnce (equation d ev regs)
settles_in_order d ordered ev regs = settles_once keys (Logic X) (reads d) (equation d ev regs) (looks d ev regs) ordered
