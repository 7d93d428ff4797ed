-- What it is to meet all premises of the theorem of insertion at once (own rule).
use Rattle.std.specs.Prelude.{ℕ, Bool, ◌&&◌, IsTrue}
use Rattle.lp_spec_design.specs.Settled.{Event}
use Rattle.lp_spec_realises.specs.Projects.{Project}
use Rattle.lp_spec_realises.specs.Implements.{Lists}
use Rattle.lp_spec_realises.specs.Surroundings.{IsWithinRows}
use Rattle.lp_spec_agreement.specs.Met.{has_clamp, has_switch, has_retained, has_shifter}
use Rattle.lp_spec_faultless.specs.Faults.{IsRead}
use Rattle.lp_spec_written.specs.Shared.{shared}
use Rattle.lp_spec_written.specs.Implements.{Implements}
use Rattle.lp_spec_written.specs.Written.{written}
use Rattle.lp_spec_proper.specs.Insertable.{IsInsertable, IsWithinLimits}
use Rattle.lp_spec_together.specs.Laws.{ShowsTheSame}

-- a project has a power switch, a register with retention, a level shifter and a clamp
abbrev pub has_each_kind : Project → Bool
has_each_kind p = has_switch p && (has_retained p && (has_shifter p && has_clamp p))

-- a project is read, has no fault that bears on an insertion and is within limits, and some event is within the rows of its
-- state table
pub record MeetsPremises (p : Project) (l : Lists) : Type 0 where
  pub switch_command : ℕ → ℕ
  pub read : IsRead p
  pub insertable : IsInsertable p l switch_command
  pub within : IsWithinLimits p l
  pub event : Event
  pub within_rows : IsWithinRows p event

-- some project with each kind of addition meets the premises, and so its written netlist implements it and shows what it shows
abbrev pub InsertionIsMet : Type 0
InsertionIsMet =
    (p : Project) × (l : Lists)
    × IsTrue (has_each_kind p)
    × MeetsPremises p l
    × Implements p l (shared (written p l))
    × ShowsTheSame p l (shared (written p l))
