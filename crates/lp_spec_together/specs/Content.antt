-- What is written content, and what it is that a netlist of it is wired (own rule).
use Rattle.std.specs.Prelude.{List, IsTrue}
use Rattle.lp_model.specs.NetlistView.{ModuleView}
use Rattle.lp_spec_design.specs.Nodes.{fuel_of}
use Rattle.lp_spec_realises.specs.Projects.{Project}
use Rattle.lp_spec_realises.specs.ProjectNetlists.{netlist_of, has_names_apart}
use Rattle.lp_spec_realises.specs.Realises.{begins_right, controls_begin, supplies_begin}
use Rattle.lp_spec_realises.specs.Implements.{Lists}
use Rattle.lp_spec_written.specs.Written.{additions}
use Rattle.lp_spec_written.specs.Implements.{bits_begin, named_bits}
use Rattle.lp_spec_wired.specs.Contents.{IsWrittenAt}
use Rattle.lp_spec_wired.specs.Names.{placement_of}
use Rattle.lp_spec_written_at.specs.Sources.{IsReached}
use Rattle.lp_spec_written_at.specs.Laws.{IsDrivenOnce}

-- ---- the netlist

-- a netlist of the written content: at each path of the source the written module of that path, each of its modules that of an instance, and no name twice
pub record HasWrittenContent (p : Project) (l : Lists) (modules : List ModuleView) : Type 0 where
  pub at_paths : IsWrittenAt p (additions p l) (netlist_of p modules)
  pub reached : IsReached (netlist_of p modules)
  pub names : IsTrue (has_names_apart modules)

-- its wires begin where they have to
pub record IsWired (p : Project) (l : Lists) (modules : List ModuleView) : Type 0 where
  -- each node has at most one source, and no net bit comes from itself by wires alone
  pub driven : IsDrivenOnce (netlist_of p modules)
  -- pins, outputs of the top, controls and supplies begin where they have to, and so do the net bits of the source
  pub wires : IsTrue (begins_right p (netlist_of p modules) (placement_of p l) (fuel_of (netlist_of p modules)))
  pub controls : IsTrue (controls_begin p (netlist_of p modules) (placement_of p l) (fuel_of (netlist_of p modules)))
  pub supplies : IsTrue (supplies_begin p (netlist_of p modules) (placement_of p l) (fuel_of (netlist_of p modules)))
  pub bits : IsTrue (bits_begin p (netlist_of p modules) (placement_of p l) (fuel_of (netlist_of p modules)) (named_bits p l))
