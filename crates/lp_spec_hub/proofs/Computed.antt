-- The wires of the written netlists of small designs are driven as the hub says.
use Rattle.std.proofs.Common.{◌≡◌, ℕ, [], ◌∷◌, true, false, Option, Some, None, refl}
use Rattle.std.specs.Prelude.{Bool, not, ◌&&◌, map, ◌==◌, codes, if◌then◌else◌, bytes_eq}
use Rattle.lp_spec_design.specs.Keys.{Name, Path, same_path, Node, Inner, Way, PortBit}
use Rattle.lp_spec_design.specs.Nodes.{computing, has_wire_loop}
use Rattle.lp_spec_realises.specs.Projects.{Project}
use Rattle.lp_spec_realises.specs.Implements.{Lists}
use Rattle.lp_spec_realises.specs.ProjectNetlists.{has_names_apart}
use Rattle.lp_spec_faults.specs.Lines.{first_of}
use Rattle.lp_spec_faults.specs.Readings.{no_cell}
use Rattle.lp_spec_faults.specs.Strategies.{location_order}
use Rattle.lp_spec_design.proofs.Samples.{with_strategies}
use Rattle.lp_spec_written.specs.Routes.{Kind, PortOut, Between, PortIn}
use Rattle.lp_spec_written.proofs.Samples.{any_cell, bare, clamped, lower_block, clamped_outside, clamped_inside, fixed_input, wide_outside, wide_inside, higher_block, two_levels, fed, top_output, switched, exchanged, nested, in_the_block, retained, control_from_inside, control_renamed, control_beside, control_below, control_first_above, control_across}
use Rattle.lp_spec_written.proofs.Computed.{bare_modules, clamped_modules, shifted_modules, outside_modules, inside_modules, fixed_modules, wide_outside_modules, wide_inside_modules, higher_modules, two_levels_modules, fed_modules, top_output_modules}
use Rattle.lp_spec_written.proofs.ComputedRoutes.{from_inside_modules, renamed_modules, beside_modules, below_modules, first_above_modules, across_modules, retained_modules}
use Rattle.lp_spec_written.proofs.ComputedSupplies.{switched_modules, switched_inside_modules, switched_outwards_modules, nested_modules}
use Rattle.lp_spec_hub.specs.Spots.{Spot, OfNode, Behind, Before, Lead, Carried, Routed}
use Rattle.lp_spec_hub.proofs.Samples.{Operators, are_driven}

abbrev block : Path
block = codes "u" ∷ []

abbrev bit : Name → Path → Node
bit n x = Inner n None x

abbrev of_block : Name → Way
of_block n = PortBit block n None

-- a clamp is number 0, a shifter number 1, in one instance
abbrev both_in : Path → Name → Name → Operators
both_in x one other w k = (x, if k == 0 then one else other)

abbrev clamp_in : Path → Operators
clamp_in x = both_in x (codes "lp_i_0") (codes "lp_i_1")

-- ---- operators

without : are_driven bare any_cell bare_modules [] (clamp_in block) ≡ true
unfolding computing
without = refl

-- inside an output: the port is behind the clamp, the net bit before it
at_output : are_driven clamped any_cell clamped_modules ((OfNode (bit (codes "o") block), bit (codes "lp_n_0") block) ∷ (Behind (of_block (codes "o")) 0, bit (codes "o") block) ∷ []) (clamp_in block) ≡ true
unfolding computing
at_output = refl

shifted : are_driven lower_block any_cell shifted_modules ((OfNode (bit (codes "o") block), bit (codes "lp_n_0") block) ∷ (Behind (of_block (codes "o")) 0, bit (codes "lp_n_1") block) ∷ (Behind (of_block (codes "o")) 1, bit (codes "o") block) ∷ []) (both_in block (codes "lp_l_0") (codes "lp_i_0")) ≡ true
unfolding computing
shifted = refl

-- outside an output: the clamp reads a net of its own
outside : are_driven clamped_outside any_cell outside_modules ((Before (of_block (codes "o")) 0, bit (codes "lp_n_0") []) ∷ []) (clamp_in []) ≡ true
unfolding computing
outside = refl

-- inside an input: the clamps read the port, and the net bit is behind them
higher : are_driven higher_block any_cell higher_modules ((OfNode (bit (codes "i") block), bit (codes "lp_n_1") block) ∷ (Before (of_block (codes "i")) 0, bit (codes "i") block) ∷ (Before (of_block (codes "i")) 1, bit (codes "lp_n_0") block) ∷ []) (both_in block (codes "lp_i_0") (codes "lp_l_0")) ≡ true
unfolding computing
higher = refl

abbrev on_both_sides : Operators
on_both_sides w k = (if k == 0 then [] else block, codes "lp_i_0")

inside : are_driven clamped_inside any_cell inside_modules ((OfNode (bit (codes "i") block), bit (codes "lp_n_0") block) ∷ (Before (of_block (codes "i")) 1, bit (codes "i") block) ∷ (Behind (of_block (codes "i")) 0, bit (codes "lp_n_0") []) ∷ []) on_both_sides ≡ true
unfolding computing
inside = refl

-- a constant has a net of its own
constant : are_driven fixed_input any_cell fixed_modules ((Lead (of_block (codes "i")), bit (codes "lp_n_0") []) ∷ (Behind (of_block (codes "i")) 0, bit (codes "lp_n_1") []) ∷ []) (clamp_in []) ≡ true
unfolding computing
constant = refl

-- one bit of a bus
abbrev one_way : Way
one_way = PortBit block (codes "o") (Some 1)

bus_outside : are_driven wide_outside any_cell wide_outside_modules ((Before one_way 0, bit (codes "lp_n_0") []) ∷ []) (clamp_in []) ≡ true
unfolding computing
bus_outside = refl

bus_inside : are_driven wide_inside any_cell wide_inside_modules ((OfNode (Inner (codes "o") (Some 1) block), bit (codes "lp_n_0") block) ∷ (Behind one_way 0, Inner (codes "o") (Some 1) block) ∷ []) (clamp_in block) ≡ true
unfolding computing
bus_inside = refl

-- an instance in the block has its own clamp in the block
abbrev inner_instance : Path
inner_instance = codes "w" ∷ block

abbrev by_instance : Operators
by_instance (PortBit x n i) k = (block, if same_path x block then codes "lp_i_0" else codes "lp_i_1")
by_instance w k = ([], [])

levels : are_driven two_levels any_cell two_levels_modules ((OfNode (bit (codes "o") block), bit (codes "lp_n_0") block) ∷ (Behind (of_block (codes "o")) 0, bit (codes "o") block) ∷ (Before (PortBit inner_instance (codes "o") None) 0, bit (codes "lp_n_1") block) ∷ []) by_instance ≡ true
unfolding computing
levels = refl

-- an assign feeds an output
abbrev by_port : Operators
by_port (PortBit x n i) k = (block, if bytes_eq n (codes "t") then codes "lp_i_0" else codes "lp_i_1")
by_port w k = ([], [])

assigned : are_driven fed any_cell fed_modules ((OfNode (bit (codes "t") block), bit (codes "lp_n_0") block) ∷ (Behind (of_block (codes "t")) 0, bit (codes "t") block) ∷ (OfNode (bit (codes "o") block), bit (codes "lp_n_1") block) ∷ (Behind (of_block (codes "o")) 0, bit (codes "o") block) ∷ []) by_port ≡ true
unfolding computing
assigned = refl

-- the top's own output
top : are_driven top_output any_cell top_output_modules ((OfNode (bit (codes "y") []), bit (codes "lp_n_0") []) ∷ (Behind (PortBit [] (codes "y") None) 0, bit (codes "y") []) ∷ []) (clamp_in []) ≡ true
unfolding computing
top = refl

-- ---- supplies

abbrev supply : ℕ → Name → Path → Spot × Node
supply o n x = (Carried o x, bit n x)

supplied : are_driven bare any_cell bare_modules (supply 0 (codes "lp_v_VDD") [] ∷ supply 1 (codes "lp_v_VDC") [] ∷ supply 1 (codes "lp_v_VDC") block ∷ supply 2 (codes "lp_v_VSS") [] ∷ supply 2 (codes "lp_v_VSS") block ∷ []) (clamp_in block) ≡ true
unfolding computing
supplied = refl

switch_above : are_driven (switched (with_strategies [])) any_cell switched_modules (supply 0 (codes "lp_v_VDD") [] ∷ supply 1 (codes "lp_w_0") [] ∷ supply 1 (codes "lp_w_0") block ∷ []) (clamp_in block) ≡ true
unfolding computing
switch_above = refl

switch_inside : are_driven (switched (with_strategies [])) in_the_block switched_inside_modules (supply 0 (codes "lp_v_VDD") [] ∷ supply 0 (codes "lp_v_VDD") block ∷ supply 1 (codes "lp_w_0") block ∷ []) (clamp_in block) ≡ true
unfolding computing
switch_inside = refl

switch_below : are_driven (switched exchanged) in_the_block switched_outwards_modules (supply 1 (codes "lp_w_0") block ∷ supply 1 (codes "lp_w_0") [] ∷ []) (clamp_in block) ≡ true
unfolding computing
switch_below = refl

through_a_block : are_driven nested any_cell nested_modules ((OfNode (bit (codes "o") block), bit (codes "lp_n_0") block) ∷ (Behind (of_block (codes "o")) 0, bit (codes "o") block) ∷ supply 1 (codes "lp_w_0") [] ∷ supply 1 (codes "lp_w_0") block ∷ supply 1 (codes "lp_w_0") inner_instance ∷ []) (clamp_in block) ≡ true
unfolding computing
through_a_block = refl

-- ---- controls

abbrev led : Node → Kind → Path → Name → Spot × Node
led k kind x n = (Routed (record { control = k; path = x; kind = kind }), bit n x)

abbrev input_of_block : Node
input_of_block = bit (codes "i") block

upwards : are_driven control_from_inside any_cell from_inside_modules ((Before (of_block (codes "o")) 0, bit (codes "lp_n_0") []) ∷ led input_of_block PortOut block (codes "lp_c_0") ∷ led input_of_block Between [] (codes "lp_c_0") ∷ []) (clamp_in []) ≡ true
unfolding computing
upwards = refl

abbrev of_input : Operators
of_input (PortBit x n i) k = (if bytes_eq n (codes "i") then block else [], codes "lp_i_0")
of_input w k = ([], [])

renamed : are_driven control_renamed any_cell renamed_modules ((OfNode input_of_block, bit (codes "lp_n_0") block) ∷ (Before (of_block (codes "i")) 0, bit (codes "i") block) ∷ (Before (of_block (codes "o")) 0, bit (codes "lp_n_0") []) ∷ led (bit (codes "en") []) PortIn block (codes "lp_c_0") ∷ led input_of_block PortOut block (codes "lp_c_1") ∷ led input_of_block Between [] (codes "lp_c_0") ∷ []) of_input ≡ true
unfolding computing
renamed = refl

abbrev source : Path
source = codes "w" ∷ []

abbrev its_output : Node
its_output = bit (codes "s") source

abbrev across_output : Operators
across_output w k = (if k == 0 then block else [], codes "lp_i_0")

beside : are_driven control_beside any_cell beside_modules ((OfNode (bit (codes "o") block), bit (codes "lp_n_0") block) ∷ (Behind (of_block (codes "o")) 0, bit (codes "o") block) ∷ (Before (of_block (codes "o")) 1, bit (codes "lp_n_0") []) ∷ led its_output PortOut source (codes "lp_c_0") ∷ led its_output Between [] (codes "lp_c_0") ∷ led its_output PortIn block (codes "lp_c_0") ∷ []) across_output ≡ true
unfolding computing
beside = refl

-- a wire, and then a port that is joined to it
abbrev inner_source : Node
inner_source = bit (codes "s") inner_instance

below : are_driven control_below any_cell below_modules ((OfNode (bit (codes "i") block), bit (codes "lp_n_0") block) ∷ (Before (of_block (codes "i")) 0, bit (codes "i") block) ∷ (Before (of_block (codes "o")) 0, bit (codes "lp_n_0") []) ∷ led inner_source PortOut inner_instance (codes "lp_c_0") ∷ led inner_source Between block (codes "lp_c_0") ∷ led inner_source PortOut block (codes "lp_c_1") ∷ led inner_source Between [] (codes "lp_c_0") ∷ []) of_input ≡ true
unfolding computing
below = refl

-- a port, and then no wire
abbrev of_output : Operators
of_output (PortBit x n i) k = (if bytes_eq n (codes "o") then block else [], codes "lp_i_0")
of_output w k = ([], [])

above : are_driven control_first_above any_cell first_above_modules ((Behind (of_block (codes "i")) 0, bit (codes "lp_n_0") []) ∷ (OfNode (bit (codes "o") block), bit (codes "lp_n_0") block) ∷ (Behind (of_block (codes "o")) 0, bit (codes "o") block) ∷ led inner_source PortOut inner_instance (codes "lp_c_0") ∷ led inner_source PortOut block (codes "lp_c_0") ∷ led inner_source Between [] (codes "lp_c_0") ∷ []) of_output ≡ true
unfolding computing
above = refl

-- up by two ports, down by two
abbrev other_block : Path
other_block = codes "v" ∷ []

abbrev other_instance : Path
other_instance = codes "w" ∷ other_block

abbrev far_control : Node
far_control = bit (codes "i") inner_instance

across : are_driven control_across any_cell across_modules ((OfNode (bit (codes "o") other_instance), bit (codes "lp_n_0") other_instance) ∷ (Behind (PortBit other_instance (codes "o") None) 0, bit (codes "o") other_instance) ∷ (Before (PortBit other_instance (codes "o") None) 1, bit (codes "lp_n_0") other_block) ∷ led far_control PortOut inner_instance (codes "lp_c_0") ∷ led far_control PortOut block (codes "lp_c_0") ∷ led far_control Between [] (codes "lp_c_0") ∷ led far_control PortIn other_block (codes "lp_c_0") ∷ led far_control PortIn other_instance (codes "lp_c_0") ∷ []) (λ w k. (if k == 0 then other_instance else other_block, codes "lp_i_0")) ≡ true
unfolding computing
across = refl

-- the pins of a register
kept : are_driven retained any_cell retained_modules (led (bit (codes "sv") []) PortIn block (codes "lp_c_0") ∷ led (bit (codes "rs") []) PortIn block (codes "lp_c_1") ∷ supply 0 (codes "lp_v_VDD") [] ∷ supply 0 (codes "lp_v_VDD") block ∷ []) (clamp_in block) ≡ true
unfolding computing
kept = refl

-- ---- the premises of the whole plan hold of the small designs

abbrev is_none : {A : Type 0} → Option A → Bool
is_none None = true
is_none (Some x) = false

abbrev is_orderly : Project → Lists → Bool
is_orderly p l = has_names_apart p.structure.modules && (not (has_wire_loop p.structure) && (is_none (first_of (no_cell p l)) && is_none (first_of (location_order p))))

orderly : map (λ p. is_orderly p any_cell) (bare ∷ clamped ∷ lower_block ∷ clamped_outside ∷ clamped_inside ∷ fixed_input ∷ wide_outside ∷ higher_block ∷ two_levels ∷ fed ∷ top_output ∷ nested ∷ retained ∷ []) ≡ true ∷ true ∷ true ∷ true ∷ true ∷ true ∷ true ∷ true ∷ true ∷ true ∷ true ∷ true ∷ true ∷ []
unfolding computing
orderly = refl

orderly_routes : map (λ p. is_orderly p any_cell) (control_from_inside ∷ control_renamed ∷ control_beside ∷ control_below ∷ control_first_above ∷ control_across ∷ []) ≡ true ∷ true ∷ true ∷ true ∷ true ∷ true ∷ []
unfolding computing
orderly_routes = refl
