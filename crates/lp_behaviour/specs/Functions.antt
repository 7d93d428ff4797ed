-- The values of the functions of a cell (Liberty function and power_down_function).
use Rattle.std.specs.Prelude.{ℕ, Bool, List, Option, Some, None, map, slice_get}
use Rattle.std.specs.List.{flat_map}
use Rattle.lp_tern.specs.declared.tern.Tern.{Tern}
use Rattle.lp_tern.specs.declared.tern.Tern.TheVariants.{X}
use Rattle.lp_tern.specs.Values.{replacements, agreed}
use Rattle.lp_expr.specs.Formula.{Formula, truth, completions, value_of}
use Rattle.lp_model.specs.declared.library.Cell.{Cell}
use Rattle.lp_model.specs.declared.library.Pin.{Pin}
use Rattle.lp_behaviour.specs.Signals.{signal_value, level_at}

-- the values of a function's variables, where the state is this bit
abbrev pub variable_values : Cell → List Tern → Bool → Formula → List Tern
variable_values cell pins bit e = map (signal_value cell pins bit) e.variables

-- the truths of a function under all replacements of unknown pins, where the state is this bit
abbrev pub truths : Cell → List Tern → Formula → Bool → List Bool
truths cell pins e bit = map (truth e.steps) (completions (variable_values cell pins bit e))

-- the value on which all replacements of unknown pins and of the one state bit agree, else X
abbrev pub function_value : Cell → List Tern → Tern → Formula → Tern
function_value cell pins state e = agreed (flat_map (truths cell pins e) (replacements state))

-- the value of a function that may be missing
abbrev pub value_if_any : Cell → List Tern → Tern → Option Formula → Tern
value_if_any cell pins state None = X
value_if_any cell pins state (Some e) = function_value cell pins state e

abbrev pub pin_output : Cell → List Tern → Tern → Option Pin → Tern
pin_output cell pins state None = X
pin_output cell pins state (Some p) = value_if_any cell pins state p.function

-- what the pin at a place gives: its function's value, X where it has none
abbrev pub output_value : Cell → ℕ → List Tern → Tern → Tern
output_value cell pin pins state = pin_output cell pins state (slice_get cell.pins pin)

-- the value of a function of the power and ground pins, on which all replacements of unknown levels agree, else X
abbrev pub power_down_of : Cell → List Tern → Formula → Tern
power_down_of cell levels e = value_of e (map (level_at cell levels) e.variables)
