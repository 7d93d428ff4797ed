-- When a netlist has at each path a module of the written content, whatever the names of its modules (own rule).
use Rattle.std.specs.Prelude.{◌≡◌, List, [], ◌∷◌, Some, None}
use Rattle.lp_model.specs.NetlistView.{InstanceView, ModuleView}
use Rattle.lp_spec_design.specs.Keys.{Path}
use Rattle.lp_spec_design.specs.Netlists.{Structure, module_named, module_at}
use Rattle.lp_spec_realises.specs.Projects.{Project}
use Rattle.lp_spec_written.specs.Written.{Additions, written_module}

-- an instance as it is written: its target is the module of its path, or else the cell that is written
pub record IsInstance (w : Structure) (x : Path) (y here : InstanceView) : Type 0 where
  pub name : here.name ≡ y.name
  pub connections : here.connections ≡ y.connections
  pub inner : module_named w here.target ≡ module_at w (y.name ∷ x)
  pub cell : module_at w (y.name ∷ x) ≡ None → here.target ≡ y.target

abbrev pub AreInstances : Structure → Path → List InstanceView → List InstanceView → Type 0
AreInstances w x [] [] = Unit {0}
AreInstances w x (y ∷ ys) (here ∷ more) = IsInstance w x y here × AreInstances w x ys more
AreInstances w x _ _ = ⊥

-- a module of a netlist has the ports, nets, instances and assigns of the written one; the names of modules are free
pub record IsContent (w : Structure) (x : Path) (m here : ModuleView) : Type 0 where
  pub ports : here.ports ≡ m.ports
  pub nets : here.nets ≡ m.nets
  pub instances : AreInstances w x m.instances here.instances
  pub assigns : here.assigns ≡ m.assigns

pub record HasContent (w : Structure) (x : Path) (m : ModuleView) : Type 0 where
  pub here : ModuleView
  pub is : module_at w x ≡ Some here
  pub content : IsContent w x m here

-- a netlist over the project's cells has at each path of the source the written module of that path, and no other paths
pub record IsWrittenAt (p : Project) (a : Additions) (w : Structure) : Type 0 where
  pub cells : w.cells ≡ p.structure.cells
  pub modules : (x : Path) (m : ModuleView) → module_at p.structure x ≡ Some m → HasContent w x (written_module p a x m)
  pub none : (x : Path) → module_at p.structure x ≡ None → module_at w x ≡ None
