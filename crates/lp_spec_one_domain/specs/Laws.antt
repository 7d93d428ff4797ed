-- The statements of the laws of this crate (own rule).
use Rattle.std.specs.Prelude.{◌≡◌, ℕ, List, []}
use Rattle.lp_model.specs.GroupsView.{GroupView}
use Rattle.lp_cells.specs.Cells.{IsLibrary}
use Rattle.lp_verilog.specs.Reads.{Reads}
use Rattle.lp_spec_design.specs.Netlists.{Structure}
use Rattle.lp_spec_realises.specs.Implements.{Lists}
use Rattle.lp_spec_faultless.specs.Faults.{IsRead}
use Rattle.lp_spec_written.specs.Implements.{Implements}
use Rattle.lp_spec_written.specs.Places.{plan}
use Rattle.lp_spec_written.specs.Shared.{shared}
use Rattle.lp_spec_written.specs.Written.{written}
use Rattle.lp_spec_proper.specs.Insertable.{IsInsertable, IsWithinLimits}
use Rattle.lp_spec_together.specs.Laws.{ShowsTheSame}
use Rattle.lp_spec_one_domain.specs.OneDomain.{OneDomain, project_of}
use Rattle.lp_spec_one_domain.specs.Taken.{IsReadSource, TakesOneDomain}

-- a netlist that a text denotes, over the cells that libraries denote, is what readers give
abbrev pub ReadSources : Type 0
ReadSources = (text : List ℕ) (files : List (List GroupView)) (s : Structure) → Reads text s.modules → IsLibrary files s.cells → IsReadSource s

-- no operator, no register with retention and no switch is added, whatever cells are named
abbrev pub NothingIsPlanned : Type 0
NothingIsPlanned = (d : OneDomain) (l : Lists) → plan (project_of d) l ≡ record { operators = []; registers = []; switches = [] }

-- the project of a netlist that is taken with its one domain is read
abbrev pub OneDomainIsRead : Type 0
OneDomainIsRead = (d : OneDomain) → IsReadSource d.structure → TakesOneDomain d → IsRead (project_of d)

-- no line of the table of faults holds of it
abbrev pub OneDomainIsInsertable : Type 0
OneDomainIsInsertable = (d : OneDomain) (l : Lists) (switch_command : ℕ → ℕ) → TakesOneDomain d → IsInsertable (project_of d) l switch_command

-- it is within limits
abbrev pub OneDomainIsWithinLimits : Type 0
OneDomainIsWithinLimits = (d : OneDomain) (l : Lists) → IsReadSource d.structure → TakesOneDomain d → IsWithinLimits (project_of d) l

-- so the netlist that is written for it, each content once, implements it and shows what it shows under its power intent
abbrev pub OneDomainImplements : Type 0
OneDomainImplements =
    (text : List ℕ) (files : List (List GroupView)) (d : OneDomain) (l : Lists)
    → Reads text d.structure.modules
    → IsLibrary files d.structure.cells
    → TakesOneDomain d
    → Implements (project_of d) l (shared (written (project_of d) l)) × ShowsTheSame (project_of d) l (shared (written (project_of d) l))
