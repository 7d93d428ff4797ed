-- A module's template as it is held: rows of pins and instances of modules in tables of their own (own rule).
use Rattle.std.specs.Prelude.{ℕ, ◌+◌, ◌<◌, ◌≤◌, List, [], ◌∷◌, ◌++◌, map, length, take, drop, slice_index_or}
use Rattle.lp_model.specs.declared.graph.PinNet.{PinNet}
use Rattle.lp_targets.specs.declared.size.Size.{Size}
use Rattle.lp_spec_layout.specs.Parts as parts
use Rattle.lp_templates.specs.declared.template.Child.{Child}
use Rattle.lp_templates.specs.declared.template.CellRow.{CellRow}
use Rattle.lp_templates.specs.declared.template.Statement.{Statement}
use Rattle.lp_templates.specs.declared.template.Statement.TheVariants.{OfModule, OfCell}
use Rattle.lp_templates.specs.declared.template.Shown.{Shown}
use Rattle.lp_templates.specs.declared.template.Shown.TheVariants as shown

abbrev pub size_view : Size → parts.Size
size_view a = record { instances = a.instances; bits = a.nodes; leaves = a.cells }

abbrev pub child_view : Child → parts.Child
child_view c = record { of = c.of; before = size_view c.before; inputs = c.inputs; outputs = c.outputs }

abbrev pub no_child : Child
no_child = record { outputs = []; inputs = []; before = record { nodes = 0; cells = 0; instances = 0 }; of = 0 }

abbrev pub cell_view : ℕ → ℕ → List PinNet → parts.Cell
cell_view of before row = record { of = of; before = before; row = row }

abbrev pub row_view : List PinNet → CellRow → parts.Cell
row_view pins r = cell_view r.of r.before (take r.count (drop r.start pins))

abbrev pub statement_view : List Child → List PinNet → Statement → parts.Statement
statement_view children pins (OfModule k) = parts.OfModule (child_view (slice_index_or children k no_child))
statement_view children pins (OfCell r) = parts.OfCell (row_view pins r)

abbrev pub statements_view : List Child → List PinNet → List Statement → List parts.Statement
statements_view children pins xs = map (statement_view children pins) xs

-- what a statement names is in the tables
abbrev pub IsHeld : List Child → List PinNet → Statement → Type 0
IsHeld children pins (OfModule k) = k < length children
IsHeld children pins (OfCell r) = r.start + r.count ≤ length pins

abbrev pub AreHeld : List Child → List PinNet → List Statement → Type 0
AreHeld children pins [] = Unit {0}
AreHeld children pins (x ∷ xs) = IsHeld children pins x × AreHeld children pins xs

abbrev pub shown_view : Shown → parts.Statement
shown_view (shown.OfModule c) = parts.OfModule (child_view c.now)
shown_view (shown.OfCell of before row) = parts.OfCell (cell_view of before row.now)

-- one more statement behind the others
abbrev pub with_statement : parts.Template → parts.Statement → parts.Template
with_statement x z = record { statements = x.statements ++ z ∷ []; assigns = x.assigns }
