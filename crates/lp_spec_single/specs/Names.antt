-- A netlist in which the parts of a module, and the pins of a cell, have names of their own (own rule; IEEE 1364-2005, scope rules).
use Rattle.std.specs.Prelude.{◌≡◌, true, Some}
use Rattle.lp_model.specs.NetlistView.{InstanceView, ModuleView}
use Rattle.lp_model.specs.LibraryView.{CellView}
use Rattle.lp_spec_design.specs.Keys.{Path}
use Rattle.lp_spec_design.specs.Netlists.{Structure, cell_named, module_at}
use Rattle.lp_spec_design.specs.Winners.{IsIn}
use Rattle.lp_spec_realises.specs.ProjectNetlists.{are_apart, has_names_apart}
use Rattle.lp_spec_written_at.specs.Sources.{cell_names}

-- no two modules, no two ports, nets and instances of a module, and no two pins of a cell that is instantiated have one name
pub record HasOwnNames (w : Structure) : Type 0 where
  pub parts : has_names_apart w.modules ≡ true
  pub pins :
      (x : Path) (m : ModuleView) (y : InstanceView) (c : CellView)
      → module_at w x ≡ Some m
      → IsIn y m.instances
      → cell_named w y.target ≡ Some c
      → are_apart (cell_names c) ≡ true
