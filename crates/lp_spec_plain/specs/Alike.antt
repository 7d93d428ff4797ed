-- A netlist by its pins that does what a design does under its intent (own rule).
use Rattle.std.specs.Prelude.{ℕ, List, map}
use Rattle.lp_spec_design.specs.Keys.{Name}
use Rattle.lp_spec_design.specs.Settled.{Design, Event}
use Rattle.lp_spec_design.specs.Registers.{States}
use Rattle.lp_spec_design.specs.Runs.{SameRegisters}
use Rattle.lp_spec_pins.specs.Pins.{Powered, PinEvent}
use Rattle.lp_spec_pins.specs.Alike.{RunsAlike}

-- an event at the ports of a netlist, each supply port being that of an origin
abbrev pub at_ports : (Name → ℕ) → Event → PinEvent
at_ports origin ev = record { inputs = ev.inputs; supplies = λ n. ev.supplies (origin n) }

-- for all events and all states of the registers, which begin equal: the runs show the same, and the registers stay equal
abbrev pub BehavesAlike : Design → Powered → (Name → ℕ) → Type 0
BehavesAlike d w origin = (events : List Event) (states by_pins : States) → SameRegisters d states by_pins → RunsAlike d w events (map (at_ports origin) events) states by_pins
