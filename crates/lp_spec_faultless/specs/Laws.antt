-- The statements of the laws of this crate (own rule).
use Rattle.std.specs.Prelude.{◌≡◌, ℕ, None}
use Rattle.lp_rows.specs.Network.{IsNetwork}
use Rattle.lp_spec_settling.specs.Settling.{HasOrder}
use Rattle.lp_spec_design.specs.Nodes.{DeclaresBits}
use Rattle.lp_spec_design.specs.Reads.{keys, reads}
use Rattle.lp_spec_realises.specs.Projects.{Project, design_of}
use Rattle.lp_spec_faults.specs.Lines.{first_of}
use Rattle.lp_spec_faults.specs.Readings.{loop, control_level}
use Rattle.lp_spec_agreement.specs.Faultless.{IsFaultless}
use Rattle.lp_spec_faultless.specs.Faults.{HasControlsInside, IsRead, loop_steps, HasNoFault}

-- where no net bit depends on itself (F21), all that occurs in the equations has an order
abbrev pub NoLoopHasOrder : Type 0
NoLoopHasOrder =
    (p : Project) → DeclaresBits p.structure → IsNetwork p.supplies → HasControlsInside p
    → first_of (loop p (loop_steps p)) ≡ None → HasOrder keys (reads (design_of p))

-- whether a control is read too low does not depend on the order of the commands
abbrev pub ControlsByAnyOrder : Type 0
ControlsByAnyOrder = (p : Project) (one other : ℕ → ℕ) → first_of (control_level p one) ≡ None → first_of (control_level p other) ≡ None

-- a project that is read and has no fault has none that bears on values
abbrev pub NoFaultIsFaultless : Type 0
NoFaultIsFaultless = (p : Project) (switch_command : ℕ → ℕ) → IsRead p → HasNoFault p switch_command → IsFaultless p
