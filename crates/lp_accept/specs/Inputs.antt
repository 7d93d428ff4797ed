-- The inputs of an insertion by their texts.
use Rattle.std.specs.Prelude.{ℕ, List}
use Rattle.lp_spec_insertion.specs.Inputs.{Inputs}

abbrev pub inputs_of : List (List ℕ) → List ℕ → List ℕ → Inputs
inputs_of libraries netlist intent = record { libraries = libraries; netlist = netlist; intent = intent }
