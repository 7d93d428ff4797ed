-- How many ports and assigns a module may have, so that a position and a number of an assign have 32 bits (own rule).
use Rattle.std.specs.Prelude.{◌<◌, List, length}
use Rattle.std.specs.List.{All}
use Rattle.lp_model.specs.declared.netlist.Module.{Module}

pub record IsSmall (m : Module) : Type 0 where
  pub few_ports : length m.ports < 4294967295
  pub few_assigns : length m.assigns < 4294967295

-- each module is small
abbrev pub AreSmall : List Module → Type 0
AreSmall ms = All IsSmall ms
