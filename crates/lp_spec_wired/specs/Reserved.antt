-- What the source has to leave free for the names of what is added (own rule).
use Rattle.std.specs.Prelude.{◌≡◌, false, Some}
use Rattle.lp_model.specs.NetlistView.{PortView, ConnectionView, InstanceView, ModuleView}
use Rattle.lp_spec_design.specs.Keys.{Path}
use Rattle.lp_spec_design.specs.Netlists.{Structure, module_named, module_at}
use Rattle.lp_spec_design.specs.Winners.{IsIn}
use Rattle.lp_spec_faults.specs.Modules.{is_own}
use Rattle.lp_spec_written.specs.Nets.{by_names}

-- no port, and nothing that is connected to an instance of a module, has the name of an addition (F19 holds nowhere, and connections name ports)
pub record LeavesNames (s : Structure) : Type 0 where
  pub ports : (x : Path) (m : ModuleView) (q : PortView) → module_at s x ≡ Some m → IsIn q m.ports → is_own q.name ≡ false
  pub connected : (x : Path) (m inner : ModuleView) (y : InstanceView) (c : ConnectionView) → module_at s x ≡ Some m → IsIn y m.instances → module_named s y.target ≡ Some inner → IsIn c (by_names inner.ports y.connections) → is_own c.port ≡ false
