-- When a netlist is the one that is written, and when it implements its project (own rule).
use Rattle.std.specs.Prelude.{◌≡◌, ℕ, Bool, List, [], map, flat_map, Option, Some, None, IsTrue}
use Rattle.std.specs.List.{list_all}
use Rattle.lp_model.specs.NetlistView.{ModuleView}
use Rattle.lp_spec_design.specs.Keys.{Path, Node, Inner}
use Rattle.lp_spec_design.specs.Netlists.{Structure, module_at, node_of}
use Rattle.lp_spec_design.specs.Nodes.{fuel_of}
use Rattle.lp_spec_realises.specs.Projects.{Project}
use Rattle.lp_spec_realises.specs.ProjectNetlists.{netlist_of}
use Rattle.lp_spec_realises.specs.Operators.{Placement}
use Rattle.lp_spec_realises.specs.Ends.{same_end, wire_end, intended}
use Rattle.lp_spec_realises.specs.Controls.{all_bits}
use Rattle.lp_spec_realises.specs.Realises.{Realises}
use Rattle.lp_spec_realises.specs.Implements.{Lists, as_chosen}
use Rattle.lp_spec_written.specs.Places.{instances, plan}
use Rattle.lp_spec_written.specs.Nets.{Stretch, stretches, bit_of, renamed}
use Rattle.lp_spec_written.specs.Shared.{shared}
use Rattle.lp_spec_written.specs.Written.{written}

-- the modules are the written ones, those of equal content once
pub record Named (p : Project) (l : Lists) (modules : List ModuleView) : Type 0 where
  pub same : modules ≡ shared (written p l)

-- each net bit of the source, with the bit that has its name in the written netlist: the inside rule says which
abbrev pub named_bits_in : List Stretch → Path → Option ModuleView → List (Node × Node)
named_bits_in chains x None = []
named_bits_in chains x (Some m) = map (λ b. (Inner b.0 b.1 x, node_of x (renamed chains x (bit_of b.0 b.1)))) (all_bits m)

abbrev pub named_bits_by : Project → List Stretch → List (Node × Node)
named_bits_by p chains = flat_map (λ x. named_bits_in chains x (module_at p.structure x)) (instances p)

abbrev pub named_bits : Project → Lists → List (Node × Node)
named_bits p l = named_bits_by p (stretches p (plan p l))

-- it begins there where the bit of the source has to
abbrev pub bit_begins : Project → Structure → Placement → ℕ → Node × Node → Bool
bit_begins p w at fuel b = same_end (wire_end w fuel b.1) (intended p w at b.0)

abbrev pub bits_begin : Project → Structure → Placement → ℕ → List (Node × Node) → Bool
bits_begin p w at fuel bits = list_all (bit_begins p w at fuel) bits

-- it realises the project by the chosen cells in their places, and each net bit of the source can be found in it
pub record Implements (p : Project) (l : Lists) (modules : List ModuleView) : Type 0 where
  pub realises : Realises p modules
  pub cells : IsTrue (as_chosen p (netlist_of p modules) l realises.placement)
  pub bits : IsTrue (bits_begin p (netlist_of p modules) realises.placement (fuel_of (netlist_of p modules)) (named_bits p l))
