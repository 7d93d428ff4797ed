-- The statements of the laws of this crate (own rule).
use Rattle.std.specs.Prelude.{◌≡◌, ℕ, List, IsTrue}
use Rattle.std.specs.List.{list_all}
use Rattle.lp_model.specs.NetlistView.{ModuleView}
use Rattle.lp_spec_design.specs.Keys.{Node, Way, Source}
use Rattle.lp_spec_design.specs.Netlists.{Structure}
use Rattle.lp_spec_design.specs.Graph.{sources_of}
use Rattle.lp_spec_design.specs.Nodes.{nodes_of}
use Rattle.lp_spec_design.specs.Winners.{IsIn}
use Rattle.lp_spec_realises.specs.Projects.{Project}
use Rattle.lp_spec_realises.specs.ProjectNetlists.{netlist_of, has_names_apart, has_single_source}
use Rattle.lp_spec_realises.specs.Implements.{Lists}
use Rattle.lp_spec_faultless.specs.Faults.{IsRead}
use Rattle.lp_spec_written.specs.Written.{Additions, additions}
use Rattle.lp_spec_wired.specs.Contents.{IsWrittenAt}
use Rattle.lp_spec_driven.specs.Sound.{IsProper}
use Rattle.lp_spec_proper.specs.Insertable.{IsInsertable, IsWithinLimits}
use Rattle.lp_spec_single.specs.Names.{HasOwnNames}

-- two sources of a node of the written netlist are one
abbrev pub SourcesAreEqual : Type 0
SourcesAreEqual =
    (p : Project) (a : Additions) (w : Structure) (from : Way → Node)
    → IsWrittenAt p a w
    → IsProper p a from
    → HasOwnNames w
    → (k : Node) (y z : Source)
    → IsIn y (sources_of w k)
    → IsIn z (sources_of w k)
    → y ≡ z

-- the parts of each of its modules, and the pins of each of its cells, have names of their own
abbrev pub ContentHasOwnNames : Type 0
ContentHasOwnNames =
    (p : Project) (l : Lists) (switch_command : ℕ → ℕ) (modules : List ModuleView)
    → IsRead p → IsInsertable p l switch_command → IsWithinLimits p l
    → IsWrittenAt p (additions p l) (netlist_of p modules)
    → IsTrue (has_names_apart modules)
    → HasOwnNames (netlist_of p modules)

-- together: each of its nodes has at most one source
abbrev pub ContentHasSingleSources : Type 0
ContentHasSingleSources =
    (p : Project) (l : Lists) (switch_command : ℕ → ℕ) (modules : List ModuleView)
    → IsRead p → IsInsertable p l switch_command → IsWithinLimits p l
    → IsWrittenAt p (additions p l) (netlist_of p modules)
    → IsTrue (has_names_apart modules)
    → IsTrue (list_all (has_single_source (netlist_of p modules)) (nodes_of (netlist_of p modules)))
