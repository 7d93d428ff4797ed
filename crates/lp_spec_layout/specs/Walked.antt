-- Where instances stand, from the sizes of modules: what lies before each statement, and a walk over all instances in preorder (own rule).
use Rattle.std.specs.Prelude.{◌≡◌, ◌<◌, ℕ, zero, suc, ◌+◌, Bool, List, [], ◌∷◌, flat_map, length, Some, None, slice_get}
use Rattle.lp_model.specs.NetlistView.{ModuleView}
use Rattle.lp_spec_design.specs.Keys.{Path}
use Rattle.lp_spec_design.specs.Netlists.{Structure, module_at}
use Rattle.lp_spec_design.specs.Instances.{below, module_instances, cells_below, cell_instances}
use Rattle.lp_spec_design.specs.Graph.{numbered}
use Rattle.lp_spec_design.specs.Nodes.{nodes_in, inner_nodes}
use Rattle.lp_spec_bridge.specs.Templates.{bits_in}
use Rattle.lp_spec_layout.specs.Parts.{Size, Child, Statement, OfModule, OfCell, Template, statements_of}
use Rattle.lp_spec_layout.specs.Sites.{Site, Layout}

-- ---- sizes

-- an instance without what is below it: itself and its bits
abbrev pub own_size : ModuleView → Size
own_size m = record { instances = 1; bits = length (bits_in m); leaves = 0 }

abbrev pub leaf_size : Size
leaf_size = record { instances = 0; bits = 0; leaves = 1 }

abbrev pub joined_size : Size → Size → Size
joined_size a b = record { instances = a.instances + b.instances; bits = a.bits + b.bits; leaves = a.leaves + b.leaves }

-- each statement lies behind all before it, the modules of instances are lower than their own, and all together have a size
abbrev pub Follows : (ℕ → Size) → (ℕ → ℕ) → ℕ → Size → List Statement → Size → Type 0
Follows size height high before [] total = before ≡ total
Follows size height high before (OfModule c ∷ zs) total = (c.before ≡ before) × (height c.of < high) × Follows size height high (joined_size before (size c.of)) zs total
Follows size height high before (OfCell c ∷ zs) total = (c.before ≡ before.leaves) × Follows size height high (joined_size before leaf_size) zs total

-- the size of each module's instances with all below them, and its height above the lowest modules
pub record IsSized (s : Structure) (templates : List Template) : Type 0 where
  pub size : ℕ → Size
  pub height : ℕ → ℕ
  pub each : (n : ℕ) (m : ModuleView) (x : Template) → slice_get s.modules n ≡ Some m → slice_get templates n ≡ Some x → Follows size height (height n) (own_size m) x.statements (size n)

-- ---- the walk

-- the site of a statement's instance
abbrev pub site_in : ℕ → Site → ℕ → Child → Site
site_in i x place c = record { of = c.of; by = Some (i, place); start = x.start + c.before.bits; leaf = x.leaf + c.before.leaves }

abbrev pub walk_in : (ℕ → Site → List Site) → ℕ → Site → ℕ → Statement → List Site
walk_in more i x place (OfModule c) = more (i + c.before.instances) (site_in i x place c)
walk_in more i x place (OfCell c) = []

-- an instance of a number and those below it, down to a depth
abbrev pub walk : List Template → ℕ → ℕ → Site → List Site
walk templates zero i x = []
walk templates (suc depth) i x = x ∷ flat_map (λ (z : ℕ × Statement). walk_in (walk templates depth) i x z.0 z.1) (numbered 0 (statements_of (slice_get templates x.of)))

-- all of them, from the number of the top's module
unfoldable pub sites_of : List Template → ℕ → List Site
sites_of templates top = walk templates 64 0 (record { of = top; by = None; start = 0; leaf = 0 })

abbrev pub layout_of : List Template → ℕ → ℕ → List Bool → Layout
layout_of templates top inner ports = record { templates = templates; sites = sites_of templates top; inner = inner; ports = ports }

-- how many instances, net bits and cell instances a design has
pub record IsOfSize (s : Structure) (a : Size) : Type 0 where
  pub instances : length (module_instances s) ≡ a.instances
  pub bits : length (inner_nodes s) ≡ a.bits
  pub leaves : length (cell_instances s) ≡ a.leaves

-- and an instance with all below it, down to a depth
pub record HasSize (s : Structure) (depth : ℕ) (p : Path) (a : Size) : Type 0 where
  pub instances : length (below s depth p) ≡ a.instances
  pub bits : length (flat_map (λ q. nodes_in q (module_at s q)) (below s depth p)) ≡ a.bits
  pub leaves : length (cells_below s depth p) ≡ a.leaves

-- ---- heights that are no more than wanted

-- one of the statements is an instance of a module of this height
pub record HasHeight (height : ℕ → ℕ) (high : ℕ) (zs : List Statement) : Type 0 where
  pub place : ℕ
  pub child : Child
  pub at : slice_get zs place ≡ Some (OfModule child)
  pub is : height child.of ≡ high

-- each module that has a height has an instance of one that is one lower
abbrev pub AreHeights : Structure → List Template → (ℕ → ℕ) → Type 0
AreHeights s templates height = (n : ℕ) (m : ModuleView) (x : Template) → slice_get s.modules n ≡ Some m → slice_get templates n ≡ Some x → (k : ℕ) → height n ≡ suc k → HasHeight height k x.statements

-- an instance stands in so many others
pub record HasDepth (s : Structure) (depth : ℕ) : Type 0 where
  pub path : Path
  pub of : ModuleView
  pub is_of : module_at s path ≡ Some of
  pub size : length path ≡ depth
