-- The template of each module by the numbers of names, with what lies before each statement (own rule).
use Rattle.std.specs.Prelude.{◌≡◌, ℕ, ◌+◌, ◌<◌, List, [], ◌∷◌, ◌++◌, sum_by, Option, Some, None, slice_get, slice_index_or}
use Rattle.lp_model.specs.declared.library.Cell.{Cell}
use Rattle.lp_model.specs.declared.netlist.Instance.{Instance}
use Rattle.lp_model.specs.declared.netlist.Module.{Module}
use Rattle.lp_targets.specs.declared.size.Size.{Size}
use Rattle.lp_targets.specs.declared.target.Target.{Target}
use Rattle.lp_targets.specs.declared.target.Target.TheVariants.{OfModule, OfCell}
use Rattle.lp_spec_layout.specs.Parts as parts
use Rattle.lp_templates.specs.Stocks.{Stock}
use Rattle.lp_templates.specs.Sizes.{joined, no_size, one_cell, own_of}
use Rattle.lp_templates.specs.Views.{size_view, cell_view}
use Rattle.lp_templates.specs.Numbered.{Declared, declared_in, port_width, net_width}
use Rattle.lp_templates.specs.Connected.{cell_row, inputs_from, outputs_from, assign_joints}

-- ---- statements

abbrev pub size_after : Stock → Size → Target → Size
size_after x before (OfModule k) = joined before (slice_index_or x.sizes k no_size)
size_after x before (OfCell k) = joined before one_cell

abbrev pub module_statement : Declared → Size → ℕ → Instance → Option Module → List parts.Statement
module_statement d before k y None = []
module_statement d before k y (Some inner) =
    parts.OfModule (record { of = k; before = size_view before; inputs = inputs_from d y.connections 0 0 inner.ports; outputs = outputs_from d y.connections 0 0 inner.ports }) ∷ []

abbrev pub cell_statement : Declared → Size → ℕ → Instance → Option Cell → List parts.Statement
cell_statement d before k y None = []
cell_statement d before k y (Some c) = parts.OfCell (cell_view k before.cells (cell_row d y.connections c)) ∷ []

abbrev pub statement_of : Stock → Declared → Size → Target → Instance → List parts.Statement
statement_of x d before (OfModule k) y = module_statement d before k y (slice_get x.modules k)
statement_of x d before (OfCell k) y = cell_statement d before k y (slice_get x.cells k)

-- of the target at a place, where there is one
abbrev pub placed_statement : Stock → Declared → Size → Option Target → Instance → List parts.Statement
placed_statement x d before None y = []
placed_statement x d before (Some t) y = statement_of x d before t y

abbrev pub size_placed : Stock → Size → Option Target → Size
size_placed x before None = before
size_placed x before (Some t) = size_after x before t

-- each behind what lies before it
abbrev pub statements_from : Stock → Declared → List Target → Size → ℕ → List Instance → List parts.Statement
statements_from x d row before j [] = []
statements_from x d row before j (y ∷ ys) = placed_statement x d before (slice_get row j) y ++ statements_from x d row (size_placed x before (slice_get row j)) (j + 1) ys

-- ---- modules

abbrev pub own_bits : Module → ℕ
own_bits m = sum_by port_width m.ports + sum_by net_width m.nets

abbrev pub template_of : Stock → List Target → Module → parts.Template
template_of x row m = record {
  statements = statements_from x (declared_in m) row (own_of (own_bits m)) 0 m.instances;
  assigns = assign_joints (declared_in m) m.assigns;
}

abbrev pub templates_from : Stock → List (List Target) → ℕ → List Module → List parts.Template
templates_from x rows j [] = []
templates_from x rows j (m ∷ ms) = template_of x (slice_index_or rows j []) m ∷ templates_from x rows (j + 1) ms

-- each module has fewer bits than 32 bits count
abbrev pub HasFewBits : Module → Type 0
HasFewBits m = own_bits m < 4294967296

abbrev pub AreFew : List Module → Type 0
AreFew ms = (k : ℕ) (m : Module) → slice_get ms k ≡ Some m → HasFewBits m

-- more statements behind the others
abbrev pub with_statements : parts.Template → List parts.Statement → parts.Template
with_statements x zs = record { statements = x.statements ++ zs; assigns = x.assigns }

-- those of all modules, by what their instances are of
abbrev pub templates_numbered : Stock → List (List Target) → List parts.Template
templates_numbered x rows = templates_from x rows 0 x.modules
