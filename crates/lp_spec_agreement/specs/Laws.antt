-- The statements of the laws of this crate (own rule).
use Rattle.std.specs.Prelude.{◌≡◌, ℕ, true, List, map, Option, None}
use Rattle.lp_model.specs.NetlistView.{ModuleView}
use Rattle.lp_spec_design.specs.Keys.{Name}
use Rattle.lp_spec_design.specs.Winners.{IsIn}
use Rattle.lp_spec_design.specs.Settled.{Event}
use Rattle.lp_spec_design.specs.Registers.{States}
use Rattle.lp_spec_design.specs.Runs.{RunsOnce, trace, output_bits, states_along, SameRegisters, SameAlong}
use Rattle.lp_spec_pins.specs.Alike.{RunsAlike}
use Rattle.lp_spec_pins.specs.Pins.{PinEvent}
use Rattle.lp_spec_pins.specs.Supplied.{is_supplied}
use Rattle.lp_spec_pins.specs.Runs.{RunsOnceByPins, trace_by_pins, states_along_by_pins}
use Rattle.lp_spec_realises.specs.Projects.{Project, design_of}
use Rattle.lp_spec_realises.specs.ProjectNetlists.{netlist_of}
use Rattle.lp_spec_realises.specs.Tops.{index_across}
use Rattle.lp_spec_realises.specs.Operators.{Placement}
use Rattle.lp_spec_realises.specs.Realises.{Realises}
use Rattle.lp_spec_realises.specs.Surroundings.{powered_of, AreWithin, SameEvents}
use Rattle.lp_spec_agreement.specs.Faultless.{IsFaultless}
use Rattle.lp_spec_agreement.specs.Cells.{bit_across, RegistersAgree, CellsAgree}

-- over the events of each side, and from the states of its registers, there is exactly one run of each; after each event the outputs of the source show the same in both, bit by bit from the left, and its registers are the same
pub record RunsMeet (p : Project) (modules : List ModuleView) (place : Placement) (events : List Event) (at_pins : List PinEvent) (states by_pins : States) : Type 0 where
  pub intent : RunsOnce (design_of p) None states events
  pub pins : RunsOnceByPins (powered_of p modules place) None by_pins at_pins
  pub traces : trace (design_of p) intent.run ≡ trace_by_pins (powered_of p modules place) (map (bit_across p modules place) (output_bits p.structure)) pins.run
  pub registers : SameAlong (design_of p) (states_along (design_of p) None states intent.run) (states_along_by_pins (powered_of p modules place) None by_pins pins.run)

-- for all events within the rows and all states of the registers, which begin equal: the source under its intent and the netlist by its pins have one run each, the outputs of the source show the same after each event, and its registers stay equal
abbrev pub RunsAgree : (p : Project) (modules : List ModuleView) → Realises p modules → Type 0
RunsAgree p modules real =
    (events : List Event) → AreWithin p events
    → (at_pins : List PinEvent) → SameEvents p modules events at_pins
    → (states by_pins : States) → SameRegisters (design_of p) states by_pins
    → RunsMeet p modules real.placement events at_pins states by_pins

-- where each cell does at its pins what the intent says, the runs agree
abbrev pub AgreesByCells : Type 0
AgreesByCells =
    (p : Project) → IsFaultless p → (modules : List ModuleView) (real : Realises p modules)
    → CellsAgree p modules real.placement
    → RunsAgree p modules real

-- where the registers of a project without faults are kept, the runs agree with those of each netlist that realises it and in which every power and ground pin has one supply
abbrev pub AgreesByRegisters : Type 0
AgreesByRegisters =
    (p : Project) → IsFaultless p → (modules : List ModuleView) (real : Realises p modules)
    → is_supplied (powered_of p modules real.placement) ≡ true
    → RegistersAgree p modules real.placement
    → RunsAgree p modules real

-- the theorem of insertion: for a project without faults and each netlist that realises it and in which every power and ground pin has one supply, the runs agree
abbrev pub Agreement : Type 0
Agreement =
    (p : Project) → IsFaultless p → (modules : List ModuleView) (real : Realises p modules)
    → is_supplied (powered_of p modules real.placement) ≡ true
    → RunsAgree p modules real

-- each bit of a top output has in the netlist the index that it has in the source, as in a netlist that keeps the ranges of the ports
abbrev pub KeepsIndices : Project → List ModuleView → Type 0
KeepsIndices p modules = (b : Name × Option ℕ) → IsIn b (output_bits p.structure) → index_across p.structure (netlist_of p modules) b.0 b.1 ≡ b.1

-- where they do, the bits of both sides are those of one name and one index
abbrev pub AgreementByIndices : Type 0
AgreementByIndices =
    (p : Project) → IsFaultless p → (modules : List ModuleView) (real : Realises p modules)
    → is_supplied (powered_of p modules real.placement) ≡ true → KeepsIndices p modules
    → (events : List Event) → AreWithin p events
    → (at_pins : List PinEvent) → SameEvents p modules events at_pins
    → (states by_pins : States) → SameRegisters (design_of p) states by_pins
    → RunsAlike (design_of p) (powered_of p modules real.placement) events at_pins states by_pins
