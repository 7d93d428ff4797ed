-- What is known of a netlist when it is elaborated (own rule).
use Rattle.std.specs.Prelude.{◌≡◌, ℕ, true, List, None}
use Rattle.std.specs.List.{list_all}
use Rattle.lp_model.specs.declared.library.Library.{Library}
use Rattle.lp_model.specs.declared.netlist.Netlist.{Netlist}
use Rattle.lp_model.specs.LibraryView.{library_view}
use Rattle.lp_model.specs.NetlistView.{netlist_view}
use Rattle.lp_cells.specs.Sound.{is_sound_cell}
use Rattle.lp_spec_bridge.specs.Names.{HasNamesApart}
use Rattle.lp_targets.specs.declared.hierarchy.Hierarchy.{Hierarchy}
use Rattle.lp_targets.specs.Reports.{hierarchy_report}
use Rattle.lp_targets.specs.Sizes.{IsResolved, sizes_of}
use Rattle.lp_targets.specs.Structures.{structure_of, AreNamed}
use Rattle.lp_connections.specs.Reports.{connections_report}
use Rattle.lp_spec_numbered.specs.Read.{DeclareTheirBits}

-- it was read over a table of names, among cells of which those that can be used are sound; what its instances are of and the sizes of its modules are known, and no line of names, targets, modules, connections and cells holds
pub record IsJudged (texts : List (List ℕ)) (n : Netlist) (l : Library) (h : Hierarchy) : Type 0 where
  pub named : AreNamed texts n l
  pub sound : list_all is_sound_cell (library_view texts l) ≡ true
  pub names : HasNamesApart (structure_of texts n l)
  pub declared : DeclareTheirBits (netlist_view texts n)
  pub resolved : IsResolved (structure_of texts n l) h.rows h.order.items h.top
  pub sizes : h.sizes.items ≡ sizes_of (structure_of texts n l)
  pub modules : hierarchy_report (structure_of texts n l) ≡ None
  pub connections : connections_report (structure_of texts n l) ≡ None
