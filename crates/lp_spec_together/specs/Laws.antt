-- The statements of the laws of this crate (own rule).
use Rattle.std.specs.Prelude.{◌≡◌, ℕ, true, List}
use Rattle.lp_model.specs.NetlistView.{ModuleView}
use Rattle.lp_spec_design.specs.Settled.{Event}
use Rattle.lp_spec_design.specs.Registers.{States}
use Rattle.lp_spec_design.specs.Runs.{SameRegisters}
use Rattle.lp_spec_pins.specs.Alike.{RunsAlike}
use Rattle.lp_spec_pins.specs.Pins.{PinEvent}
use Rattle.lp_spec_pins.specs.Supplied.{is_supplied}
use Rattle.lp_spec_realises.specs.Projects.{Project, design_of}
use Rattle.lp_spec_realises.specs.ProjectNetlists.{netlist_of}
use Rattle.lp_spec_realises.specs.Implements.{Lists}
use Rattle.lp_spec_realises.specs.Surroundings.{powered_of, AreWithin, SameEvents}
use Rattle.lp_spec_realises.specs.Realises.{Realises}
use Rattle.lp_spec_agreement.specs.Faultless.{IsFaultless}
use Rattle.lp_spec_agreement.specs.Laws.{KeepsIndices}
use Rattle.lp_spec_faultless.specs.Faults.{IsRead}
use Rattle.lp_spec_written.specs.Implements.{Implements}
use Rattle.lp_spec_written.specs.Shared.{shared}
use Rattle.lp_spec_written.specs.Written.{Additions, written}
use Rattle.lp_spec_wired.specs.Contents.{IsWrittenAt}
use Rattle.lp_spec_wired.specs.Names.{placement_of}
use Rattle.lp_spec_proper.specs.Insertable.{IsInsertable, IsWithinLimits}
use Rattle.lp_spec_together.specs.Content.{HasWrittenContent, IsWired}

-- a netlist that realises a project without faults has one supply for each power and ground pin
abbrev pub RealisedIsSupplied : Type 0
RealisedIsSupplied =
    (p : Project) → IsFaultless p → (modules : List ModuleView) (real : Realises p modules) → is_supplied (powered_of p modules real.placement) ≡ true

-- a netlist of the written content has the bits of the source's outputs by their indices
abbrev pub ContentKeepsIndices : Type 0
ContentKeepsIndices = (p : Project) (a : Additions) (modules : List ModuleView) → IsWrittenAt p a (netlist_of p modules) → KeepsIndices p modules

-- the modules that are written are of the written content
abbrev pub WrittenHasContent : Type 0
WrittenHasContent = (p : Project) (l : Lists) (switch_command : ℕ → ℕ) → IsRead p → IsInsertable p l switch_command → IsWithinLimits p l → HasWrittenContent p l (written p l)

-- and so are they where modules of equal content are written once
abbrev pub SharedHasContent : Type 0
SharedHasContent =
    (p : Project) (l : Lists) (switch_command : ℕ → ℕ)
    → IsRead p → IsInsertable p l switch_command → IsWithinLimits p l
    → HasWrittenContent p l (shared (written p l))

-- a netlist of that content is wired: no node has two sources, no wire comes back, and everything begins where it has to
abbrev pub ContentIsWired : Type 0
ContentIsWired =
    (p : Project) (l : Lists) (switch_command : ℕ → ℕ) (modules : List ModuleView)
    → IsRead p → IsInsertable p l switch_command → IsWithinLimits p l
    → HasWrittenContent p l modules
    → IsWired p l modules

-- so it implements its project
abbrev pub ContentImplements : Type 0
ContentImplements =
    (p : Project) (l : Lists) (switch_command : ℕ → ℕ) (modules : List ModuleView)
    → IsRead p → IsInsertable p l switch_command → IsWithinLimits p l
    → HasWrittenContent p l modules
    → Implements p l modules

-- for all events within the rows and all states of the registers, which begin equal, the source under its intent and the netlist by its pins have one run each, and show the same
abbrev pub ShowsTheSame : Project → Lists → List ModuleView → Type 0
ShowsTheSame p l modules =
    (events : List Event) → AreWithin p events
    → (at_pins : List PinEvent) → SameEvents p modules events at_pins
    → (states by_pins : States) → SameRegisters (design_of p) states by_pins
    → RunsAlike (design_of p) (powered_of p modules (placement_of p l)) events at_pins states by_pins

-- and it shows what the source shows
abbrev pub ContentShowsTheSame : Type 0
ContentShowsTheSame =
    (p : Project) (l : Lists) (switch_command : ℕ → ℕ) (modules : List ModuleView)
    → IsRead p → IsInsertable p l switch_command → IsWithinLimits p l
    → HasWrittenContent p l modules
    → ShowsTheSame p l modules

-- the theorem of insertion: for each project that is read and has no fault, within limits, the netlist that is written implements it and shows what it shows
abbrev pub WrittenImplements : Type 0
WrittenImplements =
    (p : Project) (l : Lists) (switch_command : ℕ → ℕ)
    → IsRead p → IsInsertable p l switch_command → IsWithinLimits p l
    → Implements p l (written p l) × ShowsTheSame p l (written p l)

-- and so does the one with each content once, which is the netlist of an insertion
abbrev pub SharedImplements : Type 0
SharedImplements =
    (p : Project) (l : Lists) (switch_command : ℕ → ℕ)
    → IsRead p → IsInsertable p l switch_command → IsWithinLimits p l
    → Implements p l (shared (written p l)) × ShowsTheSame p l (shared (written p l))
