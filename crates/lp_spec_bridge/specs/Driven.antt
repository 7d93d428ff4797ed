-- Cell instances whose pins have one bit each (IEEE 1364-2005, port connection widths).
use Rattle.std.specs.Prelude.{Bool, true, nat_le, ◌&&◌, Option, None, ◌≡◌, ◌≤◌, [], length, Some}
use Rattle.std.specs.List.{list_all}
use Rattle.lp_model.specs.NetlistView.{InstanceView, ModuleView}
use Rattle.lp_model.specs.LibraryView.{PgPinView, CellView, PinView}
use Rattle.lp_spec_design.specs.Keys.{Path}
use Rattle.lp_spec_design.specs.Netlists.{Structure, module_at, cell_named, connected}
use Rattle.lp_spec_design.specs.Winners.{IsIn}

-- at most one bit is connected to a pin
pub record JoinsSingleBits (s : Structure) : Type 0 where
  pub pins : (p : Path) (m : ModuleView) (x : InstanceView) (c : CellView) (q : PinView) → module_at s p ≡ Some m → IsIn x m.instances → cell_named s x.target ≡ Some c → IsIn q c.pins → length (connected [] q.name x.connections) ≤ 1
  pub pgs : (p : Path) (m : ModuleView) (x : InstanceView) (c : CellView) (g : PgPinView) → module_at s p ≡ Some m → IsIn x m.instances → cell_named s x.target ≡ Some c → IsIn g c.pgs → length (connected [] g.name x.connections) ≤ 1

-- the test of it, module by module
abbrev pub has_single_bits : InstanceView → Option CellView → Bool
has_single_bits x None = true
has_single_bits x (Some c) = list_all (λ (q : PinView). nat_le (length (connected [] q.name x.connections)) 1) c.pins && list_all (λ (g : PgPinView). nat_le (length (connected [] g.name x.connections)) 1) c.pgs

abbrev pub joins_single_bits : Structure → Bool
joins_single_bits s = list_all (λ (m : ModuleView). list_all (λ (x : InstanceView). has_single_bits x (cell_named s x.target)) m.instances) s.modules
