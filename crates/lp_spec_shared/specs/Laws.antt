-- The statements of the laws of this crate (own rule).
use Rattle.std.specs.Prelude.{◌≡◌, true, List, map, IsTrue}
use Rattle.lp_model.specs.NetlistView.{ModuleView}
use Rattle.lp_model.specs.LibraryView.{CellView}
use Rattle.lp_spec_realises.specs.Projects.{Project}
use Rattle.lp_spec_realises.specs.ProjectNetlists.{netlist_of, are_apart, has_names_apart, IsProjectNetlist}
use Rattle.lp_spec_realises.specs.Realises.{same_paths, has_the_cells}
use Rattle.lp_spec_realises.specs.Implements.{Lists, as_chosen}
use Rattle.lp_spec_written.specs.Shared.{shared}
use Rattle.lp_spec_written.specs.Written.{Additions, additions, written}
use Rattle.lp_spec_hub.specs.Entries.{HasWaysApart, HasItsCells}
use Rattle.lp_spec_wired.specs.Contents.{IsWrittenAt}
use Rattle.lp_spec_wired.specs.Names.{placement_of}
use Rattle.lp_spec_written_at.specs.Sources.{IsFree, IsReached, HasOriginNames, HasFewAdditions, HasRegisterCells, HasSwitchCells}
use Rattle.lp_spec_written_at.specs.Laws.{IsReady, IsDrivenOnce}
use Rattle.lp_spec_shared.specs.Sharing.{CanBeShared}

-- where modules of equal content are written once, each path has a module of the content that it had
abbrev pub SharingKeepsContent : Type 0
SharingKeepsContent =
    (p : Project) (a : Additions) (modules : List ModuleView)
    → CanBeShared p modules
    → IsWrittenAt p a (netlist_of p modules)
    → IsWrittenAt p a (netlist_of p (shared modules))

-- and each module that is left is that of an instance
abbrev pub SharingKeepsReached : Type 0
SharingKeepsReached = (p : Project) (modules : List ModuleView) → CanBeShared p modules → IsReached (netlist_of p (shared modules))

-- names that are apart stay apart
abbrev pub SharingKeepsNames : Type 0
SharingKeepsNames = (modules : List ModuleView) → IsTrue (has_names_apart modules) → IsTrue (has_names_apart (shared modules))

-- the modules that are written can be shared
abbrev pub WrittenCanBeShared : Type 0
WrittenCanBeShared = (p : Project) (l : Lists) → IsFree p → CanBeShared p (written p l)

-- so the written netlist, with each content once, has at each path a module of the written content
abbrev pub SharedAtItsPaths : Type 0
SharedAtItsPaths = (p : Project) (l : Lists) → IsFree p → IsWrittenAt p (additions p l) (netlist_of p (shared (written p l)))

abbrev pub SharedAreReached : Type 0
SharedAreReached = (p : Project) (l : Lists) → IsFree p → IsReached (netlist_of p (shared (written p l)))

-- no name stands twice in it
abbrev pub SharedNamesDiffer : Type 0
SharedNamesDiffer = (p : Project) (l : Lists) → IsFree p → HasOriginNames p → HasFewAdditions p l → IsTrue (has_names_apart (shared (written p l)))

-- it is a netlist of the project, where no net bit is driven twice and no wire comes back to itself
abbrev pub SharedIsProjectNetlist : Type 0
SharedIsProjectNetlist = (p : Project) (l : Lists) → IsReady p l → IsDrivenOnce (netlist_of p (shared (written p l))) → IsProjectNetlist p (shared (written p l))

-- it has the module instances of the source
abbrev pub SharedHasItsInstances : Type 0
SharedHasItsInstances = (p : Project) (l : Lists) → IsFree p → IsTrue (same_paths p.structure (netlist_of p (shared (written p l))))

-- cells of the library have names of their own, and each operator, register with retention and switch has one
pub record HasChosenCells (p : Project) (l : Lists) : Type 0 where
  pub apart : are_apart (map (λ (k : CellView). k.name) p.structure.cells) ≡ true
  pub ways : HasWaysApart p
  pub operators : HasItsCells p l
  pub registers : HasRegisterCells p l
  pub switches : HasSwitchCells p l

-- it has the cells that the project asks for, each once, and no others, and those that are added are the chosen ones in their places
abbrev pub SharedHasItsCells : Type 0
SharedHasItsCells =
    (p : Project) (l : Lists)
    → IsFree p
    → HasFewAdditions p l
    → HasChosenCells p l
    → IsTrue (has_the_cells p (netlist_of p (shared (written p l))) (placement_of p l))
    × IsTrue (as_chosen p (netlist_of p (shared (written p l))) l (placement_of p l))
