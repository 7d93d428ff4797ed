-- What each instance of each module is of: a module or a cell, by its place (IEEE 1364-2005, module instantiation).
use Rattle.std.specs.Prelude.{◌≡◌, List, map, Option, None, slice_get}
use Rattle.lp_model.specs.NetlistView.{InstanceView, ModuleView}
use Rattle.lp_model.specs.LibraryView.{CellView}
use Rattle.lp_spec_design.specs.Netlists.{Structure, module_named, cell_named}
use Rattle.lp_targets.specs.declared.target.Target.{Target}
use Rattle.lp_targets.specs.declared.target.Target.TheVariants.{OfModule, OfCell}

abbrev pub module_of : Structure → Target → Option ModuleView
module_of s (OfModule k) = slice_get s.modules k
module_of s (OfCell k) = None

abbrev pub cell_of : Structure → Target → Option CellView
cell_of s (OfModule k) = None
cell_of s (OfCell k) = slice_get s.cells k

-- a row for each module, and in it a target for each instance
pub record AreTargets (s : Structure) (rows : List (List Target)) : Type 0 where
  pub modules : map (map (module_of s)) rows ≡ map (λ (m : ModuleView). map (λ (i : InstanceView). module_named s i.target) m.instances) s.modules
  pub cells : map (map (cell_of s)) rows ≡ map (λ (m : ModuleView). map (λ (i : InstanceView). cell_named s i.target) m.instances) s.modules
