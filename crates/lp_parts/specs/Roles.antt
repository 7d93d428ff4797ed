-- What a cell is for (Liberty is_isolation_cell, is_level_shifter, retention_cell and switch_cell_type).
use Rattle.std.specs.Prelude.{ℕ, Bool, List, Option, Some, None, is_some, if◌then◌else◌, codes}
use Rattle.std.specs.List.{find}
use Rattle.lp_model.specs.declared.library.VoltageRange.{VoltageRange}
use Rattle.lp_model.specs.declared.library.Shifter.{Shifter}
use Rattle.lp_model.specs.GroupsView.{GroupView}
use Rattle.lp_model.specs.LibraryView.{ExprView, RolesView}
use Rattle.lp_attributes.specs.Attributes.{value_of, values_of, says}
use Rattle.lp_attributes.specs.Words.{range, shifter_kind_if_any}
use Rattle.lp_parts.specs.Source.{is_part}
use Rattle.lp_parts.specs.Functions.{over_if_any}

abbrev pub is_switch : GroupView → Bool
is_switch head = says (codes "switch_cell_type") (codes "coarse_grain") head

abbrev pub range_if_any : Option (List (List ℕ)) → Option VoltageRange
range_if_any None = None
range_if_any (Some values) = range values

abbrev pub shifter_of : GroupView → Option Shifter
shifter_of head =
    if says (codes "is_level_shifter") (codes "true") head
    then Some (record {
      input = range_if_any (values_of (codes "input_voltage_range") head);
      output = range_if_any (values_of (codes "output_voltage_range") head);
      kind = shifter_kind_if_any (value_of (codes "level_shifter_type") head);
    })
    else None

abbrev pub down_in : Option GroupView → Option (List ℕ)
down_in None = None
down_in (Some g) = value_of (codes "power_down_function") g

unfoldable pub is_condition : ℕ → GroupView → Bool
is_condition place g = is_part place (codes "retention_condition") g

-- the function of the saved copy: that of the first retention_condition
abbrev pub copy_of : ℕ → List GroupView → Option (List ℕ)
copy_of place groups = down_in (find (is_condition place) groups)

abbrev pub copy_if_any : List (List ℕ) → Option (List ℕ) → Option ExprView
copy_if_any names None = None
copy_if_any names (Some text) = Some (over_if_any names (Some text))

-- a cell with the attribute is a retention cell, whatever its value
abbrev pub is_retention : GroupView → Bool
is_retention head = is_some (value_of (codes "retention_cell") head)

abbrev pub retention_of : ℕ → List (List ℕ) → GroupView → List GroupView → Option ExprView
retention_of place names head groups = if is_retention head then copy_if_any names (copy_of place groups) else None

abbrev pub roles_of : ℕ → List (List ℕ) → GroupView → List GroupView → RolesView
roles_of place names head groups = record {
  iso = says (codes "is_isolation_cell") (codes "true") head;
  shifter = shifter_of head;
  retention = retention_of place names head groups;
  switch = is_switch head;
}
