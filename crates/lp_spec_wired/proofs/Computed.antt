-- The net bits of wires in the written netlists of small designs, with which the hub's computed examples are driven.
use Rattle.std.proofs.Common.{◌≡◌, ℕ, [], ◌∷◌, Some, None, refl}
use Rattle.std.specs.Prelude.{codes, map}
use Rattle.lp_spec_design.specs.Keys.{Name, Path, Node, Inner, Way, PortBit}
use Rattle.lp_spec_design.specs.Nodes.{computing}
use Rattle.lp_spec_design.proofs.Samples.{with_strategies}
use Rattle.lp_spec_written.specs.Routes.{Kind, PortOut, Between, PortIn}
use Rattle.lp_spec_written.proofs.Samples.{any_cell, bare, clamped, lower_block, clamped_outside, clamped_inside, fixed_input, wide_outside, wide_inside, higher_block, two_levels, fed, top_output, switched, exchanged, nested, in_the_block, retained, control_from_inside, control_renamed, control_beside, control_below, control_first_above, control_across}
use Rattle.lp_spec_hub.specs.Spots.{Spot, OfNode, Behind, Before, Lead, Carried, Routed}
use Rattle.lp_spec_hub.proofs.Samples.{Names}
use Rattle.lp_spec_wired.specs.Names.{name_of_spot}
use Rattle.lp_spec_wired.proofs.Samples.{wires, given, agree}

abbrev block : Path
block = codes "u" ∷ []

abbrev bit : Name → Path → Node
bit n x = Inner n None x

abbrev of_block : Name → Way
of_block n = PortBit block n None

-- ---- operators

abbrev without_names : Names
without_names = []

without : map (name_of_spot bare any_cell) (wires bare without_names) ≡ given bare without_names
unfolding computing
without = agree bare any_cell without_names refl refl

-- inside an output: the port is behind the clamp, the net bit before it
abbrev at_output_names : Names
at_output_names = (OfNode (bit (codes "o") block), bit (codes "lp_n_0") block) ∷ (Behind (of_block (codes "o")) 0, bit (codes "o") block) ∷ []

at_output : map (name_of_spot clamped any_cell) (wires clamped at_output_names) ≡ given clamped at_output_names
unfolding computing
at_output = agree clamped any_cell at_output_names refl refl

abbrev shifted_names : Names
shifted_names =
    (OfNode (bit (codes "o") block), bit (codes "lp_n_0") block)
    ∷ (Behind (of_block (codes "o")) 0, bit (codes "lp_n_1") block)
    ∷ (Behind (of_block (codes "o")) 1, bit (codes "o") block)
    ∷ []

shifted : map (name_of_spot lower_block any_cell) (wires lower_block shifted_names) ≡ given lower_block shifted_names
unfolding computing
shifted = agree lower_block any_cell shifted_names refl refl

-- outside an output: the clamp reads a net of its own
abbrev outside_names : Names
outside_names = (Before (of_block (codes "o")) 0, bit (codes "lp_n_0") []) ∷ []

outside : map (name_of_spot clamped_outside any_cell) (wires clamped_outside outside_names) ≡ given clamped_outside outside_names
unfolding computing
outside = agree clamped_outside any_cell outside_names refl refl

-- inside an input: the clamps read the port, and the net bit is behind them
abbrev higher_names : Names
higher_names =
    (OfNode (bit (codes "i") block), bit (codes "lp_n_1") block)
    ∷ (Before (of_block (codes "i")) 0, bit (codes "i") block)
    ∷ (Before (of_block (codes "i")) 1, bit (codes "lp_n_0") block)
    ∷ []

higher : map (name_of_spot higher_block any_cell) (wires higher_block higher_names) ≡ given higher_block higher_names
unfolding computing
higher = agree higher_block any_cell higher_names refl refl

abbrev inside_names : Names
inside_names =
    (OfNode (bit (codes "i") block), bit (codes "lp_n_0") block)
    ∷ (Before (of_block (codes "i")) 1, bit (codes "i") block)
    ∷ (Behind (of_block (codes "i")) 0, bit (codes "lp_n_0") [])
    ∷ []

inside : map (name_of_spot clamped_inside any_cell) (wires clamped_inside inside_names) ≡ given clamped_inside inside_names
unfolding computing
inside = agree clamped_inside any_cell inside_names refl refl

-- a constant has a net of its own
abbrev constant_names : Names
constant_names = (Lead (of_block (codes "i")), bit (codes "lp_n_0") []) ∷ (Behind (of_block (codes "i")) 0, bit (codes "lp_n_1") []) ∷ []

constant : map (name_of_spot fixed_input any_cell) (wires fixed_input constant_names) ≡ given fixed_input constant_names
unfolding computing
constant = agree fixed_input any_cell constant_names refl refl

-- one bit of a bus
abbrev one_way : Way
one_way = PortBit block (codes "o") (Some 1)

abbrev bus_outside_names : Names
bus_outside_names = (Before one_way 0, bit (codes "lp_n_0") []) ∷ []

bus_outside : map (name_of_spot wide_outside any_cell) (wires wide_outside bus_outside_names) ≡ given wide_outside bus_outside_names
unfolding computing
bus_outside = agree wide_outside any_cell bus_outside_names refl refl

abbrev bus_inside_names : Names
bus_inside_names = (OfNode (Inner (codes "o") (Some 1) block), bit (codes "lp_n_0") block) ∷ (Behind one_way 0, Inner (codes "o") (Some 1) block) ∷ []

bus_inside : map (name_of_spot wide_inside any_cell) (wires wide_inside bus_inside_names) ≡ given wide_inside bus_inside_names
unfolding computing
bus_inside = agree wide_inside any_cell bus_inside_names refl refl

-- an instance in the block has its own clamp in the block
abbrev inner_instance : Path
inner_instance = codes "w" ∷ block

abbrev levels_names : Names
levels_names =
    (OfNode (bit (codes "o") block), bit (codes "lp_n_0") block)
    ∷ (Behind (of_block (codes "o")) 0, bit (codes "o") block)
    ∷ (Before (PortBit inner_instance (codes "o") None) 0, bit (codes "lp_n_1") block)
    ∷ []

levels : map (name_of_spot two_levels any_cell) (wires two_levels levels_names) ≡ given two_levels levels_names
unfolding computing
levels = agree two_levels any_cell levels_names refl refl

abbrev assigned_names : Names
assigned_names =
    (OfNode (bit (codes "t") block), bit (codes "lp_n_0") block)
    ∷ (Behind (of_block (codes "t")) 0, bit (codes "t") block)
    ∷ (OfNode (bit (codes "o") block), bit (codes "lp_n_1") block)
    ∷ (Behind (of_block (codes "o")) 0, bit (codes "o") block)
    ∷ []

assigned : map (name_of_spot fed any_cell) (wires fed assigned_names) ≡ given fed assigned_names
unfolding computing
assigned = agree fed any_cell assigned_names refl refl

-- the top's own output
abbrev top_names : Names
top_names = (OfNode (bit (codes "y") []), bit (codes "lp_n_0") []) ∷ (Behind (PortBit [] (codes "y") None) 0, bit (codes "y") []) ∷ []

top : map (name_of_spot top_output any_cell) (wires top_output top_names) ≡ given top_output top_names
unfolding computing
top = agree top_output any_cell top_names refl refl

-- ---- supplies

abbrev supply : ℕ → Name → Path → Spot × Node
supply o n x = (Carried o x, bit n x)

abbrev supplied_names : Names
supplied_names =
    supply 0 (codes "lp_v_VDD") []
    ∷ supply 1 (codes "lp_v_VDC") []
    ∷ supply 1 (codes "lp_v_VDC") block
    ∷ supply 2 (codes "lp_v_VSS") []
    ∷ supply 2 (codes "lp_v_VSS") block
    ∷ []

supplied : map (name_of_spot bare any_cell) (wires bare supplied_names) ≡ given bare supplied_names
unfolding computing
supplied = agree bare any_cell supplied_names refl refl

abbrev switch_above_names : Names
switch_above_names = supply 0 (codes "lp_v_VDD") [] ∷ supply 1 (codes "lp_w_0") [] ∷ supply 1 (codes "lp_w_0") block ∷ []

switch_above : map (name_of_spot (switched (with_strategies [])) any_cell) (wires (switched (with_strategies [])) switch_above_names) ≡ given (switched (with_strategies [])) switch_above_names
unfolding computing
switch_above = agree (switched (with_strategies [])) any_cell switch_above_names refl refl

abbrev switch_inside_names : Names
switch_inside_names = supply 0 (codes "lp_v_VDD") [] ∷ supply 0 (codes "lp_v_VDD") block ∷ supply 1 (codes "lp_w_0") block ∷ []

switch_inside : map (name_of_spot (switched (with_strategies [])) in_the_block) (wires (switched (with_strategies [])) switch_inside_names) ≡ given (switched (with_strategies [])) switch_inside_names
unfolding computing
switch_inside = agree (switched (with_strategies [])) in_the_block switch_inside_names refl refl

abbrev switch_below_names : Names
switch_below_names = supply 1 (codes "lp_w_0") block ∷ supply 1 (codes "lp_w_0") [] ∷ []

switch_below : map (name_of_spot (switched exchanged) in_the_block) (wires (switched exchanged) switch_below_names) ≡ given (switched exchanged) switch_below_names
unfolding computing
switch_below = agree (switched exchanged) in_the_block switch_below_names refl refl

abbrev through_a_block_names : Names
through_a_block_names =
    (OfNode (bit (codes "o") block), bit (codes "lp_n_0") block)
    ∷ (Behind (of_block (codes "o")) 0, bit (codes "o") block)
    ∷ supply 1 (codes "lp_w_0") []
    ∷ supply 1 (codes "lp_w_0") block
    ∷ supply 1 (codes "lp_w_0") inner_instance
    ∷ []

through_a_block : map (name_of_spot nested any_cell) (wires nested through_a_block_names) ≡ given nested through_a_block_names
unfolding computing
through_a_block = agree nested any_cell through_a_block_names refl refl

-- ---- controls

abbrev led : Node → Kind → Path → Name → Spot × Node
led k kind x n = (Routed (record { control = k; path = x; kind = kind }), bit n x)

abbrev input_of_block : Node
input_of_block = bit (codes "i") block

abbrev upwards_names : Names
upwards_names =
    (Before (of_block (codes "o")) 0, bit (codes "lp_n_0") [])
    ∷ led input_of_block PortOut block (codes "lp_c_0")
    ∷ led input_of_block Between [] (codes "lp_c_0")
    ∷ []

upwards : map (name_of_spot control_from_inside any_cell) (wires control_from_inside upwards_names) ≡ given control_from_inside upwards_names
unfolding computing
upwards = agree control_from_inside any_cell upwards_names refl refl

abbrev renamed_names : Names
renamed_names =
    (OfNode input_of_block, bit (codes "lp_n_0") block)
    ∷ (Before (of_block (codes "i")) 0, bit (codes "i") block)
    ∷ (Before (of_block (codes "o")) 0, bit (codes "lp_n_0") [])
    ∷ led (bit (codes "en") []) PortIn block (codes "lp_c_0")
    ∷ led input_of_block PortOut block (codes "lp_c_1")
    ∷ led input_of_block Between [] (codes "lp_c_0")
    ∷ []

renamed : map (name_of_spot control_renamed any_cell) (wires control_renamed renamed_names) ≡ given control_renamed renamed_names
unfolding computing
renamed = agree control_renamed any_cell renamed_names refl refl

abbrev source : Path
source = codes "w" ∷ []

abbrev its_output : Node
its_output = bit (codes "s") source

abbrev beside_names : Names
beside_names =
    (OfNode (bit (codes "o") block), bit (codes "lp_n_0") block)
    ∷ (Behind (of_block (codes "o")) 0, bit (codes "o") block)
    ∷ (Before (of_block (codes "o")) 1, bit (codes "lp_n_0") [])
    ∷ led its_output PortOut source (codes "lp_c_0")
    ∷ led its_output Between [] (codes "lp_c_0")
    ∷ led its_output PortIn block (codes "lp_c_0")
    ∷ []

beside : map (name_of_spot control_beside any_cell) (wires control_beside beside_names) ≡ given control_beside beside_names
unfolding computing
beside = agree control_beside any_cell beside_names refl refl

-- a wire, and then a port that is joined to it
abbrev inner_source : Node
inner_source = bit (codes "s") inner_instance

abbrev below_names : Names
below_names =
    (OfNode (bit (codes "i") block), bit (codes "lp_n_0") block)
    ∷ (Before (of_block (codes "i")) 0, bit (codes "i") block)
    ∷ (Before (of_block (codes "o")) 0, bit (codes "lp_n_0") [])
    ∷ led inner_source PortOut inner_instance (codes "lp_c_0")
    ∷ led inner_source Between block (codes "lp_c_0")
    ∷ led inner_source PortOut block (codes "lp_c_1")
    ∷ led inner_source Between [] (codes "lp_c_0")
    ∷ []

below : map (name_of_spot control_below any_cell) (wires control_below below_names) ≡ given control_below below_names
unfolding computing
below = agree control_below any_cell below_names refl refl

abbrev above_names : Names
above_names =
    (Behind (of_block (codes "i")) 0, bit (codes "lp_n_0") [])
    ∷ (OfNode (bit (codes "o") block), bit (codes "lp_n_0") block)
    ∷ (Behind (of_block (codes "o")) 0, bit (codes "o") block)
    ∷ led inner_source PortOut inner_instance (codes "lp_c_0")
    ∷ led inner_source PortOut block (codes "lp_c_0")
    ∷ led inner_source Between [] (codes "lp_c_0")
    ∷ []

above : map (name_of_spot control_first_above any_cell) (wires control_first_above above_names) ≡ given control_first_above above_names
unfolding computing
above = agree control_first_above any_cell above_names refl refl

-- up by two ports, down by two
abbrev other_block : Path
other_block = codes "v" ∷ []

abbrev other_instance : Path
other_instance = codes "w" ∷ other_block

abbrev far_control : Node
far_control = bit (codes "i") inner_instance

abbrev across_names : Names
across_names =
    (OfNode (bit (codes "o") other_instance), bit (codes "lp_n_0") other_instance)
    ∷ (Behind (PortBit other_instance (codes "o") None) 0, bit (codes "o") other_instance)
    ∷ (Before (PortBit other_instance (codes "o") None) 1, bit (codes "lp_n_0") other_block)
    ∷ led far_control PortOut inner_instance (codes "lp_c_0")
    ∷ led far_control PortOut block (codes "lp_c_0")
    ∷ led far_control Between [] (codes "lp_c_0")
    ∷ led far_control PortIn other_block (codes "lp_c_0")
    ∷ led far_control PortIn other_instance (codes "lp_c_0")
    ∷ []

across : map (name_of_spot control_across any_cell) (wires control_across across_names) ≡ given control_across across_names
unfolding computing
across = agree control_across any_cell across_names refl refl

-- the pins of a register
abbrev kept_names : Names
kept_names =
    led (bit (codes "sv") []) PortIn block (codes "lp_c_0")
    ∷ led (bit (codes "rs") []) PortIn block (codes "lp_c_1")
    ∷ supply 0 (codes "lp_v_VDD") []
    ∷ supply 0 (codes "lp_v_VDD") block
    ∷ []

kept : map (name_of_spot retained any_cell) (wires retained kept_names) ≡ given retained kept_names
unfolding computing
kept = agree retained any_cell kept_names refl refl
