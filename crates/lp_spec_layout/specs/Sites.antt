-- Where the module instances of a design stand in an elaborated netlist: their numbers, their first nodes and their first cell instances (own rule).
use Rattle.std.specs.Prelude.{◌≡◌, ◌<◌, ℕ, ◌+◌, Bool, List, [], ◌∷◌, map, flat_map, length, Option, Some, None, slice_get}
use Rattle.lp_model.specs.NetlistView.{PortView, InstanceView, ModuleView}
use Rattle.lp_spec_design.specs.Keys.{Path}
use Rattle.lp_spec_design.specs.Netlists.{Structure, module_at, indices, is_input}
use Rattle.lp_spec_design.specs.Instances.{module_instances, cell_instances}
use Rattle.lp_spec_design.specs.Nodes.{inner_nodes}
use Rattle.lp_spec_bridge.specs.Templates.{start_of}
use Rattle.lp_spec_layout.specs.Parts.{Statement, OfModule, OfCell, Template, IsTemplate}

-- the number of an instance and the place of a statement in its module
abbrev pub Spot : Type 0
Spot = ℕ × ℕ

-- a module instance: its module's number, the statement by which it stands in another instance, its first node, and the first cell instance in it or below
pub record Site : Type 0 where
  pub of : ℕ
  pub by : Option Spot
  pub start : ℕ
  pub leaf : ℕ

-- the templates of all modules, the sites of all instances, the number of net bits of instances, and which bits of the top's ports are inputs
pub record Layout : Type 0 where
  pub templates : List Template
  pub sites : List Site
  pub inner : ℕ
  pub ports : List Bool

-- ---- that each instance stands at its site

-- what a statement says of a path is the statement's instance
pub record IsInside (s : Structure) (p : Path) (at : Spot) : Type 0 where
  pub path : Path
  pub of : ModuleView
  pub by : InstanceView
  pub inst : slice_get (module_instances s) at.0 ≡ Some path
  pub is_of : module_at s path ≡ Some of
  pub place : slice_get of.instances at.1 ≡ Some by
  pub is : p ≡ by.name ∷ path

abbrev pub StandsInside : Structure → Path → Option Spot → Type 0
StandsInside s p None = p ≡ []
StandsInside s p (Some at) = IsInside s p at

-- each instance comes after the one in which it stands
abbrev pub IsBehind : ℕ → Option Spot → Type 0
IsBehind i None = Unit {0}
IsBehind i (Some at) = at.0 < i

-- the instances and the cell instances of a module's statements are where the sizes before them say
abbrev pub IsPlaced : Structure → ℕ → Path → Site → InstanceView → Statement → Type 0
IsPlaced s i p x y (OfModule c) = (slice_get (module_instances s) (i + c.before.instances) ≡ Some (y.name ∷ p)) × (start_of s (i + c.before.instances) ≡ x.start + c.before.bits)
IsPlaced s i p x y (OfCell c) = slice_get (cell_instances s) (x.leaf + c.before) ≡ Some (record { path = p; instance = y.name })

abbrev pub ArePlaced : Structure → ℕ → Path → Site → List InstanceView → List Statement → Type 0
ArePlaced s i p x [] zs = Unit {0}
ArePlaced s i p x (y ∷ ys) [] = Unit {0}
ArePlaced s i p x (y ∷ ys) (z ∷ zs) = IsPlaced s i p x y z × ArePlaced s i p x ys zs

pub record StandsAt (s : Structure) (l : Layout) (i : ℕ) (p : Path) : Type 0 where
  pub site : Site
  pub of : ModuleView
  pub template : Template
  pub at : slice_get l.sites i ≡ Some site
  pub is_of : module_at s p ≡ Some of
  pub has_of : slice_get s.modules site.of ≡ Some of
  pub has_template : slice_get l.templates site.of ≡ Some template
  pub resolved : IsTemplate s of template
  pub start : site.start ≡ start_of s i
  pub inside : StandsInside s p site.by
  pub behind : IsBehind i site.by
  pub placed : ArePlaced s i p site of.instances template.statements

-- the directions of a module's port bits, ports in order
abbrev pub port_bits : ModuleView → List Bool
port_bits m = flat_map (λ (x : PortView). map (λ i. is_input x) (indices x.range)) m.ports

pub record IsSited (s : Structure) (l : Layout) : Type 0 where
  pub top : ModuleView
  pub is_top : module_at s [] ≡ Some top
  pub ports : l.ports ≡ port_bits top
  pub inner : l.inner ≡ length (inner_nodes s)
  pub count : length l.sites ≡ length (module_instances s)
  pub each : (i : ℕ) (p : Path) → slice_get (module_instances s) i ≡ Some p → StandsAt s l i p
