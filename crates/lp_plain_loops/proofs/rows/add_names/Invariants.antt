use Rattle.std.proofs.Common.{◌≡◌, ◌++◌, take}
use Rattle.std.specs.Prelude.{flat_map}
use Rattle.lp_plain_loops.specs.Numbered.{name_row}
use Rattle.lp_plain_loops.proofs.rows.add_names.Given as goal

abbrev pub invariant-loop-variable : goal.invariant-loop-variable
invariant-loop-variable l = l.row.items ≡ l.fn.row.items ++ flat_map (name_row l.nets l.pins l.connections) (take l.variable-index l.variables)
