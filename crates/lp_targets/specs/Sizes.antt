-- How many net bits, cells and module instances a module has with all below it, and how deep it is (IEEE 1364-2005, hierarchical structures; the limits are an own rule).
use Rattle.std.specs.Prelude.{◌≡◌, ◌+◌, ◌≤◌, ℕ, ◌||◌, List, [], ◌∷◌, map, length, min, max, nat_lt, sum_by, Option, Some, None, reverse, slice_get, slice_index_or, if◌then◌else◌, true}
use Rattle.lp_text.specs.Texts.{distinct}
use Rattle.lp_model.specs.declared.fault.netlist.NetlistLimit.{NetlistLimit}
use Rattle.lp_model.specs.declared.fault.netlist.NetlistLimit.TheVariants as limits
use Rattle.lp_model.specs.declared.netlist.Port.{Port}
use Rattle.lp_model.specs.declared.netlist.NetDecl.{NetDecl}
use Rattle.lp_model.specs.declared.netlist.Module.{Module}
use Rattle.lp_model.specs.declared.netlist.Netlist.{Netlist}
use Rattle.lp_model.specs.declared.library.Library.{Library}
use Rattle.lp_model.specs.NetlistView.{ModuleView}
use Rattle.lp_order.specs.Order.{row_of, ReadsBelow, IsOrder}
use Rattle.lp_spec_design.specs.Netlists.{Structure, top_of}
use Rattle.lp_spec_faults.specs.Modules.{bit_count, bits_in, cells_in, together, is_deeper, tops}
use Rattle.lp_targets.specs.declared.target.Target.{Target}
use Rattle.lp_targets.specs.declared.size.Size.{Size}
use Rattle.lp_targets.specs.declared.size.Counts.{Counts}
use Rattle.lp_targets.specs.Structures.{structure_of}
use Rattle.lp_targets.specs.Targets.{AreTargets}
use Rattle.lp_targets.specs.Children.{children, cell_rows}

-- what is read at most
abbrev pub node_limit : ℕ
node_limit = 4000000

abbrev pub instance_limit : ℕ
instance_limit = 1000000

abbrev pub depth_limit : ℕ
depth_limit = 64

-- what a module has together with all below it
abbrev pub in_module : Structure → (ModuleView → ℕ) → ModuleView → ℕ
in_module s each m = together s each (length s.modules) m

abbrev pub size_of : Structure → ModuleView → Size
size_of s m = record {
  nodes = in_module s bits_in m;
  cells = in_module s (cells_in s) m;
  instances = in_module s (λ k. 1) m;
}

abbrev pub sizes_of : Structure → List Size
sizes_of s = map (size_of s) s.modules

-- what each instance is of, by place
pub record AreRows (s : Structure) (rows : List (List Target)) : Type 0 where
  pub targets : AreTargets s rows
  pub closed : ReadsBelow (length rows) (children rows)
  pub cells : ReadsBelow (length s.cells) (cell_rows rows)

-- an order of the modules, each behind all that it contains, whose names differ, and the place of the one top
pub record IsResolved (s : Structure) (rows : List (List Target)) (order : List ℕ) (top : ℕ) : Type 0 where
  pub known : AreRows s rows
  pub ordered : IsOrder (children rows) (reverse order)
  pub apart : distinct (map (λ (m : ModuleView). m.name) s.modules) ≡ true
  pub placed : slice_get s.modules top ≡ top_of s
  pub one : length (tops s) ≡ 1

-- what is claimed of each netlist that has these rows and this order
abbrev pub OnRows : List (List Target) → List ℕ → (Structure → Type 0) → Type 0
OnRows rows order claim = (s : Structure) (top : ℕ) → IsResolved s rows order top → claim s

-- what is claimed of one netlist, by any table of names and with any library, where it has these rows, this order and this top
abbrev pub OnNetlist : Netlist → List (List Target) → List ℕ → ℕ → (List (List ℕ) → Structure → Type 0) → Type 0
OnNetlist n rows order top claim = (texts : List (List ℕ)) (l : Library) → IsResolved (structure_of texts n l) rows order top → claim texts (structure_of texts n l)

-- what is claimed of one netlist with any library, where it has these rows
abbrev pub OnLibrary : List (List ℕ) → Netlist → List (List Target) → (Structure → Type 0) → Type 0
OnLibrary texts n rows claim = (l : Library) → AreRows (structure_of texts n l) rows → claim (structure_of texts n l)

-- ---- tables by the place of a module

-- what each module has of its own, where more than a limit is as good as the limit
abbrev pub AreOwn : Structure → (ModuleView → ℕ) → ℕ → List ℕ → Type 0
AreOwn s each limit own = (a : ℕ) (m : ModuleView) → slice_get s.modules a ≡ Some m → min limit (slice_index_or own a 0) ≡ min limit (each m)

-- what each module has together with all below it, up to a limit
abbrev pub AreTogether : Structure → (ModuleView → ℕ) → ℕ → List ℕ → Type 0
AreTogether s each limit table = (a : ℕ) (m : ModuleView) → slice_get s.modules a ≡ Some m → slice_index_or table a 0 ≡ min limit (in_module s each m)

-- whether a chain of more module instances than a number goes down from each module, for numbers up to the limit
abbrev pub AreDepths : Structure → List ℕ → Type 0
AreDepths s table = (a n : ℕ) (m : ModuleView) → slice_get s.modules a ≡ Some m → n ≤ depth_limit → is_deeper s n m ≡ nat_lt n (slice_index_or table a 0)

pub record AreCounts (s : Structure) (c : Counts) : Type 0 where
  pub nodes : AreTogether s bits_in (node_limit + 1) c.nodes.items
  pub cells : AreTogether s (cells_in s) (instance_limit + 1) c.cells.items
  pub instances : AreTogether s (λ m. 1) (instance_limit + 1) c.instances.items
  pub depths : AreDepths s c.depths.items

-- ---- an entry by those of the modules in the module

abbrev pub sum_at : List (List ℕ) → List ℕ → ℕ → List ℕ → ℕ → ℕ
sum_at graph own limit table a = min limit (slice_index_or own a 0 + sum_by (λ b. slice_index_or table b 0) (row_of graph a))

-- one more than the deepest of some, up to one more than the limit
abbrev pub depth_above : (ℕ → ℕ) → List ℕ → ℕ
depth_above depth [] = 1
depth_above depth (b ∷ bs) = max (min (depth_limit + 1) (depth b + 1)) (depth_above depth bs)

abbrev pub depth_at : List (List ℕ) → List ℕ → ℕ → ℕ
depth_at graph table a = depth_above (λ b. slice_index_or table b 0) (row_of graph a)

-- ---- own counts

abbrev pub module_bits : Module → ℕ
module_bits m = sum_by (λ (p : Port). bit_count p.range) m.ports + sum_by (λ (n : NetDecl). bit_count n.range) m.nets

-- ---- what the top has

-- the first limit that counts are over
abbrev pub over_limit : ℕ → ℕ → ℕ → ℕ → Option NetlistLimit
over_limit nodes cells instances depth =
    if nat_lt node_limit nodes then Some limits.Nodes
    else if nat_lt instance_limit cells || nat_lt instance_limit instances then Some limits.Instances
    else if nat_lt depth_limit depth then Some limits.Depth
    else None

abbrev pub limit_at : Counts → ℕ → Option NetlistLimit
limit_at c top = over_limit (slice_index_or c.nodes.items top 0) (slice_index_or c.cells.items top 0) (slice_index_or c.instances.items top 0) (slice_index_or c.depths.items top 0)

-- counts of one module, where none is over its limit
abbrev pub size_at : Counts → ℕ → Size
size_at c a = record {
  nodes = min node_limit (slice_index_or c.nodes.items a 0);
  cells = min instance_limit (slice_index_or c.cells.items a 0);
  instances = min instance_limit (slice_index_or c.instances.items a 0);
}

abbrev pub AreSizes : Structure → Counts → Type 0
AreSizes s c = (a : ℕ) (m : ModuleView) → slice_get s.modules a ≡ Some m → size_at c a ≡ size_of s m

-- that holds where the top is over no limit
abbrev pub AreSizesBelow : Structure → Counts → ℕ → Type 0
AreSizesBelow s c top = limit_at c top ≡ None → AreSizes s c
