-- The statements of the laws of this crate (own rule).
use Rattle.std.specs.Prelude.{◌≡◌, ℕ, true, List, Some, None}
use Rattle.lp_model.specs.GroupsView.{GroupView}
use Rattle.lp_model.specs.NetlistView.{ModuleView}
use Rattle.lp_cells.specs.Cells.{IsLibrary}
use Rattle.lp_verilog.specs.Reads.{Reads}
use Rattle.lp_vwrite.specs.Layout.{layout}
use Rattle.lp_vwrite.specs.WellFormed.{is_module, IsWellFormed, HasTable}
use Rattle.lp_spec_design.specs.Keys.{Path}
use Rattle.lp_spec_design.specs.Netlists.{module_at}
use Rattle.lp_spec_realises.specs.Projects.{Project}
use Rattle.lp_spec_realises.specs.Implements.{Lists}
use Rattle.lp_spec_faults.specs.Lines.{first_of}
use Rattle.lp_spec_faultless.specs.Faults.{IsRead}
use Rattle.lp_spec_written.specs.Limits.{name_limit}
use Rattle.lp_spec_written.specs.Shared.{shared}
use Rattle.lp_spec_written.specs.Written.{additions, written_module, written}
use Rattle.lp_spec_proper.specs.Insertable.{IsInsertable, IsWithinLimits}
use Rattle.lp_spec_legal.specs.Legal.{HasVisibleOrigins, IsLegal, HasNamesBefore}

-- what readers give is legal, where supply ports have visible names: a netlist that a text denotes, over a library that is read
abbrev pub ReadIsLegal : Type 0
ReadIsLegal =
    (p : Project) (text : List ℕ) (files : List (List GroupView))
    → Reads text p.structure.modules
    → IsLibrary files p.structure.cells
    → HasVisibleOrigins p
    → IsLegal p

-- each module that is written is well formed
abbrev pub WrittenModulesAreWellFormed : Type 0
WrittenModulesAreWellFormed =
    (p : Project) (l : Lists) (switch_command : ℕ → ℕ)
    → IsRead p → IsInsertable p l switch_command → IsWithinLimits p l → IsLegal p
    → (x : Path) (m : ModuleView)
    → module_at p.structure x ≡ Some m
    → is_module (written_module p (additions p l) x m) ≡ true

-- so the written netlist is
abbrev pub WrittenIsWellFormed : Type 0
WrittenIsWellFormed =
    (p : Project) (l : Lists) (switch_command : ℕ → ℕ)
    → IsRead p → IsInsertable p l switch_command → IsWithinLimits p l → IsLegal p
    → IsWellFormed (written p l)

-- modules that are well formed stay so where those of equal content are written once
abbrev pub SharingKeepsForm : Type 0
SharingKeepsForm = (modules : List ModuleView) → IsWellFormed modules → IsWellFormed (shared modules)

-- so the netlist of an insertion is
abbrev pub SharedIsWellFormed : Type 0
SharedIsWellFormed =
    (p : Project) (l : Lists) (switch_command : ℕ → ℕ)
    → IsRead p → IsInsertable p l switch_command → IsWithinLimits p l → IsLegal p
    → IsWellFormed (shared (written p l))

-- a table of the names of modules has those that are left where equal ones are written once
abbrev pub SharingKeepsTable : Type 0
SharingKeepsTable = (modules : List ModuleView) → HasTable modules → HasTable (shared modules)

-- where what is read has a table, and not too many names are added (F22), so has the netlist of an insertion
abbrev pub SharedHasTable : Type 0
SharedHasTable =
    (p : Project) (l : Lists) (switch_command : ℕ → ℕ)
    → IsRead p → IsInsertable p l switch_command → IsWithinLimits p l
    → HasNamesBefore p
    → first_of (name_limit p l) ≡ None
    → HasTable (shared (written p l))

-- the text of a netlist reads as it, and as no other
pub record ReadsAsItself (modules : List ModuleView) : Type 0 where
  pub back : Reads (layout modules) modules
  pub alone : (others : List ModuleView) → Reads (layout modules) others → others ≡ modules

-- the text of the written netlist does, where its names can have a table
abbrev pub WrittenReadsBack : Type 0
WrittenReadsBack =
    (p : Project) (l : Lists) (switch_command : ℕ → ℕ)
    → IsRead p → IsInsertable p l switch_command → IsWithinLimits p l → IsLegal p
    → HasTable (written p l)
    → ReadsAsItself (written p l)

-- and so does that of the netlist of an insertion
abbrev pub SharedReadsBack : Type 0
SharedReadsBack =
    (p : Project) (l : Lists) (switch_command : ℕ → ℕ)
    → IsRead p → IsInsertable p l switch_command → IsWithinLimits p l → IsLegal p
    → HasTable (shared (written p l))
    → ReadsAsItself (shared (written p l))
