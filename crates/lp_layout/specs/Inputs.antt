-- Which bits of the top's ports are inputs, by the numbers of names (IEEE 1364-2005, port declarations).
use Rattle.std.specs.Prelude.{ℕ, zero, suc, Bool, true, false, List, [], ◌∷◌, map, flat_map, Option, Some, None}
use Rattle.lp_model.specs.declared.netlist.Direction.{Direction}
use Rattle.lp_model.specs.declared.netlist.Direction.TheVariants.{Input, Output}
use Rattle.lp_model.specs.declared.netlist.Module.{Module}
use Rattle.lp_model.specs.declared.netlist.Port.{Port}
use Rattle.lp_spec_design.specs.Netlists.{indices}

abbrev pub is_input : Direction → Bool
is_input Input = true
is_input Output = false

-- one answer for each of so many bits
abbrev pub times : Bool → ℕ → List Bool
times b zero = []
times b (suc n) = b ∷ times b n

abbrev pub inputs_at : Port → List Bool
inputs_at p = map (λ i. is_input p.direction) (indices p.range)

abbrev pub port_inputs : List Port → List Bool
port_inputs ports = flat_map inputs_at ports

abbrev pub top_inputs : Option Module → List Bool
top_inputs None = []
top_inputs (Some m) = port_inputs m.ports
