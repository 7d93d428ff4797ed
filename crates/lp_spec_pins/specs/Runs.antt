-- Runs of a netlist by its pins, and what they show (own rule).
use Rattle.std.specs.Prelude.{ℕ, List, map, Option}
use Rattle.lp_tern.specs.declared.tern.Tern.{Tern}
use Rattle.lp_spec_settling.specs.Runs as steps
use Rattle.lp_spec_design.specs.Keys.{Name}
use Rattle.lp_spec_design.specs.Settled.{Value}
use Rattle.lp_spec_design.specs.Registers.{States}
use Rattle.lp_spec_pins.specs.Pins.{Powered, PinKey, PinAssignment, PinEvent, pin_equation, output_by_pins}
use Rattle.lp_spec_pins.specs.Registers.{states_after_by_pins}

-- the equations read the main states
abbrev pub pin_equation_in : Powered → PinEvent → States → PinKey → PinAssignment → Value
pin_equation_in w ev s = pin_equation w ev s.main

-- an assignment for each event: it settles with the present states, and leads to the next ones
abbrev pub IsRunByPins : Powered → Option PinAssignment → States → List PinEvent → List PinAssignment → Type 0
IsRunByPins w = steps.IsRun (pin_equation_in w) (states_after_by_pins w)

-- there is a run, and it is the only one
abbrev pub RunsOnceByPins : Powered → Option PinAssignment → States → List PinEvent → Type 0
RunsOnceByPins w = steps.RunsOnce (pin_equation_in w) (states_after_by_pins w)

-- what bits of the top's outputs show after each event
abbrev pub shown_by_pins : Powered → PinAssignment → Name × Option ℕ → Tern
shown_by_pins w B b = output_by_pins w B b.0 b.1

abbrev pub trace_by_pins : Powered → List (Name × Option ℕ) → List PinAssignment → List (List Tern)
trace_by_pins w bits run = map (λ B. map (shown_by_pins w B) bits) run

-- the states after each event
abbrev pub states_along_by_pins : Powered → Option PinAssignment → States → List PinAssignment → List States
states_along_by_pins w = steps.states_along (states_after_by_pins w)
