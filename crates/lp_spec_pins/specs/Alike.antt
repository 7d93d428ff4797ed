-- Runs of a source under its intent and of a netlist by its pins that show the same and leave the registers the same (own rule).
use Rattle.std.specs.Prelude.{◌≡◌, List, None}
use Rattle.lp_spec_design.specs.Settled.{Design, Event}
use Rattle.lp_spec_design.specs.Registers.{States}
use Rattle.lp_spec_design.specs.Runs.{RunsOnce, trace, output_bits, states_along, SameAlong}
use Rattle.lp_spec_pins.specs.Pins.{Powered, PinEvent}
use Rattle.lp_spec_pins.specs.Runs.{RunsOnceByPins, trace_by_pins, states_along_by_pins}

-- over the events of each side, and from the states of its registers, there is exactly one run of each; after each event the outputs of the source show the same in both, and its registers are the same
pub record RunsAlike (d : Design) (w : Powered) (events : List Event) (at_pins : List PinEvent) (states by_pins : States) : Type 0 where
  pub intent : RunsOnce d None states events
  pub pins : RunsOnceByPins w None by_pins at_pins
  pub traces : trace d intent.run ≡ trace_by_pins w (output_bits d.structure) pins.run
  pub registers : SameAlong d (states_along d None states intent.run) (states_along_by_pins w None by_pins pins.run)
