-- What an insertion adds, in which instance each part of it stands, and in which order (own rule).
use Rattle.std.specs.Prelude.{ℕ, ◌+◌, Bool, true, false, List, [], ◌∷◌, ◌++◌, filter, Option, Some, None, option_and_then, unwrap_or, codes, decimal, slice_get}
use Rattle.lp_model.specs.LibraryView.{CellView}
use Rattle.lp_spec_design.specs.Keys.{Name, Path, same_path}
use Rattle.lp_spec_design.specs.Instances.{Placed, cell_instances, module_instances}
use Rattle.lp_spec_design.specs.Graph.{numbered, some_of}
use Rattle.lp_spec_design.specs.Intents.{Strategy}
use Rattle.lp_spec_design.specs.Domains.{first_number}
use Rattle.lp_spec_design.specs.Winners.{one_if}
use Rattle.lp_spec_design.specs.Chains.{Operator, Clamp, Shift}
use Rattle.lp_spec_design.specs.Registers.{retention}
use Rattle.lp_spec_realises.specs.Projects.{Project}
use Rattle.lp_spec_realises.specs.Operators.{OperatorAt, all_operators, SwitchAt, all_switches}
use Rattle.lp_spec_realises.specs.Implements.{Lists, operator_path, operator_chosen, switch_chosen, register_chosen, is_retained}

-- ---- instances

-- in preorder, the top first
abbrev pub instances : Project → List Path
instances p = module_instances p.structure

-- the preorder number of a module instance; the top is 0
abbrev pub instance_number : Project → Path → ℕ
instance_number p x = unwrap_or (first_number (same_path x) 0 (instances p)) 0

-- an added name, with its number
abbrev pub with_number : Name → ℕ → Name
with_number start k = start ++ decimal k

-- ---- what is added, in plan order: port order (boundary bits in order, each chain in the flow of data), then registers in instance order, then switches in the order of their origins

-- an operator, the instance in which it stands, and its cell
pub record Standing : Type 0 where
  pub asked : OperatorAt
  pub path : Path
  pub cell : CellView

-- a register with retention, its strategy, and the cell that takes its place
pub record Kept : Type 0 where
  pub place : Placed
  pub strategy : Strategy
  pub cell : CellView

-- a switch, its number, the instance in which it stands, and its cell
pub record Switching : Type 0 where
  pub asked : SwitchAt
  pub number : ℕ
  pub path : Path
  pub cell : CellView

pub record Plan : Type 0 where
  pub operators : List Standing
  pub registers : List Kept
  pub switches : List Switching

abbrev pub cell_numbered : Project → Option ℕ → Option CellView
cell_numbered p k = option_and_then (slice_get p.structure.cells) k

abbrev pub standing_at : Project → Lists → OperatorAt → Option Path → Option Standing
standing_at p l o None = None
standing_at p l o (Some x) = option_and_then (λ c. Some (record { asked = o; path = x; cell = c })) (cell_numbered p (operator_chosen p l x o.operator))

-- an operator stands in the boundary instance (inside) or in its parent (outside)
abbrev pub standing : Project → Lists → OperatorAt → Option Standing
standing p l o = standing_at p l o (operator_path p o)

abbrev pub kept_by : Project → Lists → Placed → Option Strategy → Option Kept
kept_by p l a None = None
kept_by p l a (Some t) = option_and_then (λ c. Some (record { place = a; strategy = t; cell = c })) (cell_numbered p (register_chosen p l a))

abbrev pub kept : Project → Lists → Placed → Option Kept
kept p l a = kept_by p l a (retention p.intent a.path a.instance)

-- a switch stands in the scope of its command; switches count from 0 in origin order, over the whole design
abbrev pub switching : Project → Lists → ℕ × SwitchAt → Option Switching
switching p l x = option_and_then (λ c. Some (record { asked = x.1; number = x.0; path = l.scope_of_switch x.1.origin; cell = c })) (cell_numbered p (switch_chosen p l x.1))

-- what has no cell is not added
abbrev pub plan : Project → Lists → Plan
plan p l = record {
  operators = some_of (standing p l) (all_operators p);
  registers = some_of (kept p l) (filter (is_retained p) (cell_instances p.structure));
  switches = some_of (switching p l) (numbered 0 (all_switches p));
}

-- ---- names of added instances: lp_i_K clamps, lp_l_K shifters, lp_s_K switches, each counted by itself per module instance from 0, in plan order

abbrev pub is_clamp : Operator → Bool
is_clamp (Clamp t i) = true
is_clamp (Shift t a b) = false

abbrev pub is_shift : Operator → Bool
is_shift (Clamp t i) = false
is_shift (Shift t a b) = true

-- by how many clamps and how many shifters come before it
abbrev pub operator_name : ℕ → ℕ → Operator → Name
operator_name clamps shifts (Clamp t i) = with_number (codes "lp_i_") clamps
operator_name clamps shifts (Shift t a b) = with_number (codes "lp_l_") shifts

abbrev pub operator_names : ℕ → ℕ → List Operator → List Name
operator_names clamps shifts [] = []
operator_names clamps shifts (o ∷ rest) = operator_name clamps shifts o ∷ operator_names (clamps + one_if (is_clamp o)) (shifts + one_if (is_shift o)) rest

abbrev pub switches_in : Plan → Path → List Switching
switches_in a x = filter (λ (w : Switching). same_path w.path x) a.switches
