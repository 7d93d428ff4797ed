-- The nodes that control names give, and which supplies read them (own rule, after IEEE 1801-2015 set_isolation, set_retention and create_power_switch).
use Rattle.std.specs.Prelude.{ℕ, Bool, false, List, ◌++◌, map, Option, Some, None, is_some, option_and_then, if◌then◌else◌, bytes_eq, flat_map, codes, decimal, slice_get}
use Rattle.lp_model.specs.declared.netlist.BitRange.{BitRange}
use Rattle.lp_model.specs.NetlistView.{PortView, NetView, ModuleView}
use Rattle.lp_spec_design.specs.Keys.{Name, Path, Node, Inner}
use Rattle.lp_spec_design.specs.Netlists.{Structure, first, module_at, indices}
use Rattle.lp_spec_design.specs.Intents.{SetNumber, SupplySet}
use Rattle.lp_spec_design.specs.Settled.{rail_of}
use Rattle.lp_spec_network.specs.Views.{lower_origins}
use Rattle.lp_spec_realises.specs.Projects.{Project, network_of, design_of}

-- a bit of a net of a module by its whole name: a scalar by its own, a bit of a vector as name[index]
abbrev pub whole_name : Name → Option ℕ → Name
whole_name n None = n
whole_name n (Some i) = n ++ (codes "[" ++ (decimal i ++ codes "]"))

abbrev pub bits_of_net : Name → Option BitRange → List (Name × Option ℕ)
bits_of_net n range = map (λ i. (n, i)) (indices range)

abbrev pub all_bits : ModuleView → List (Name × Option ℕ)
all_bits m = flat_map (λ (x : PortView). bits_of_net x.name x.range) m.ports ++ flat_map (λ (x : NetView). bits_of_net x.name x.range) m.nets

abbrev pub is_scalar : Name → Name × Option ℕ → Bool
is_scalar text b = if is_some b.1 then false else bytes_eq b.0 text

abbrev pub or_bit : Option (Name × Option ℕ) → Option (Name × Option ℕ) → Option (Name × Option ℕ)
or_bit (Some b) other = Some b
or_bit None other = other

-- the scalar of a name, else the bit of that whole name
abbrev pub bit_named : Name → List (Name × Option ℕ) → Option (Name × Option ℕ)
bit_named text bits = or_bit (first (is_scalar text) bits) (first (λ b. bytes_eq (whole_name b.0 b.1) text) bits)

-- a control name gives an inner node of an instance
abbrev pub control_node : Structure → Path → Name → Option Node
control_node s p text = option_and_then (λ (m : ModuleView). option_and_then (λ b. Some (Inner b.0 b.1 p)) (bit_named text (all_bits m))) (module_at s p)

-- ---- supplies that read a control

-- the origin of the power of a set
abbrev pub power_of : Project → Option SetNumber → Option ℕ
power_of p k = option_and_then (λ j. option_and_then (λ (s : SupplySet). Some s.power) (slice_get (network_of p).sets j)) k

abbrev pub power_of_rail : Project → Node → Option ℕ
power_of_rail p k = power_of p (rail_of (design_of p) k)

abbrev pub is_lower : Project → Option ℕ → Option ℕ → Bool
is_lower p (Some a) (Some b) = lower_origins p.supplies a b p.margin
is_lower p _ _ = false

-- the rail of a control may be lower, by more than the margin, than an origin by which it is read
abbrev pub reads_too_low : Project → Node → Option ℕ → Bool
reads_too_low p k reader = is_lower p (power_of_rail p k) reader
