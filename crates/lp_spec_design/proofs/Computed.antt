-- The definitions computed on the small designs.
use Rattle.std.proofs.Common.{◌≡◌, List, true, false, [], ◌∷◌, Option, Some, None, refl}
use Rattle.std.specs.Prelude.{ℕ, ◌==◌, bytes_eq, if◌then◌else◌, codes, map, option_and_then}
use Rattle.lp_model.specs.declared.side.Side.TheVariants.{Upper}
use Rattle.lp_model.specs.declared.intent.Applies.TheVariants.{Inputs, Outputs, Both}
use Rattle.lp_model.specs.declared.intent.StrategyKind.TheVariants.{Isolation}
use Rattle.lp_spec_design.specs.Keys.{Inner, Name, Outer, Way, PortBit}
use Rattle.lp_spec_design.specs.Netlists.{Structure}
use Rattle.lp_model.specs.NetlistView.{NetBit}
use Rattle.lp_spec_design.specs.Graph.{readers, readers_of, InputPin, TopOutput}
use Rattle.lp_model.specs.declared.netlist.Direction.TheVariants.{Input, Output}
use Rattle.lp_spec_design.specs.Nodes.{computing, nodes_of, has_wire_loop}
use Rattle.lp_spec_design.specs.Intents.{Element, Intent, AtInstance, AtPort, AtBit}
use Rattle.lp_spec_design.specs.Winners.{Crossing, crossing, winner, applying, is_tied, rank}
use Rattle.lp_spec_design.specs.Domains.{BoundaryBit, way_of, boundary}
use Rattle.lp_spec_design.specs.Chains.{Clamp, Shift, operators_at, rail}
use Rattle.lp_tern.specs.declared.tern.Tern.{Tern}
use Rattle.lp_tern.specs.declared.tern.Tern.TheVariants.{Zero, One, X}
use Rattle.lp_tern.specs.declared.supply.SupplyState.{SupplyState}
use Rattle.lp_tern.specs.declared.supply.SupplyState.TheVariants.{On, Off, Unknown}
use Rattle.lp_spec_design.specs.Settled.{Key, At, Of, Design, Event, Registers, output, computed}
use Rattle.lp_spec_design.proofs.Samples.{plain, switched_from_inside, read_inside, fed_through, wide, wide_output, by_supply, with_strategies, isolation, shifting, network, switched, switched_network, volts, port, top}
use Rattle.lp_spec_settling.specs.Settling.{has, IsOrder, Reaches}
use Rattle.lp_spec_settling.proofs.Laws.{order-no_loop}
use Rattle.lp_spec_design.specs.Reads.{keys, reads}

bits_in_order : map way_of (boundary plain (with_strategies [])) ≡ PortBit [] (codes "a") None ∷ PortBit [] (codes "en") None ∷ PortBit [] (codes "y") None ∷ PortBit (codes "u" ∷ []) (codes "i") None ∷ PortBit (codes "u" ∷ []) (codes "o") None ∷ []
unfolding computing
bits_in_order = refl

-- statement by statement: the pin in the block, which stands before the buffer, comes first
readers_in_order : map (λ r. r.0) (readers plain) ≡ InputPin (codes "u" ∷ []) (codes "g") (codes "A") ∷ InputPin [] (codes "b") (codes "A") ∷ TopOutput (codes "y") None ∷ []
unfolding computing
readers_in_order = refl

-- by instance, ports before nets, then the outer sides
nodes_in_order : nodes_of plain ≡ Inner (codes "a") None [] ∷ Inner (codes "en") None [] ∷ Inner (codes "y") None [] ∷ Inner (codes "n") None [] ∷ Inner (codes "i") None (codes "u" ∷ []) ∷ Inner (codes "o") None (codes "u" ∷ []) ∷ Outer (codes "a") None ∷ Outer (codes "en") None ∷ Outer (codes "y") None ∷ []
unfolding computing
nodes_in_order = refl

-- two nets that assigns lead to one another
abbrev ring : Structure
ring = record { modules = record top { instances = []; nets = record { name = codes "m"; range = None } ∷ top.nets; assigns = record { left = NetBit (codes "n") ∷ []; right = NetBit (codes "m") ∷ [] } ∷ record { left = NetBit (codes "m") ∷ []; right = NetBit (codes "n") ∷ [] } ∷ [] } ∷ []; cells = [] }

loops : map has_wire_loop (plain ∷ read_inside ∷ fed_through ∷ ring ∷ []) ≡ false ∷ false ∷ false ∷ true ∷ []
unfolding computing
loops = refl

abbrev out_bit : Way
out_bit = PortBit (codes "u" ∷ []) (codes "o") None

read_by_the_buffer : readers_of plain 8 out_bit ≡ InputPin [] (codes "b") (codes "A") ∷ []
unfolding computing
read_by_the_buffer = refl

-- one clamp at the output of the block, by its domain's strategy
abbrev clamped : Intent
clamped = with_strategies (isolation 1 None Outputs ∷ [])

one_clamp : operators_at plain (network (volts 1000000 1000000 800000)) clamped 8 out_bit (Some 1) ≡ Clamp 0 0 ∷ []
unfolding computing
one_clamp = refl

rail_behind : rail plain (network (volts 1000000 1000000 800000)) clamped 8 (Outer (codes "y") None) ≡ Some 0
unfolding computing
rail_behind = refl

-- a lower block: the shifter stands before the clamp
shifted_and_clamped : operators_at plain (network (volts 1000000 800000 800000)) (with_strategies (isolation 1 None Outputs ∷ shifting 1 0 ∷ [])) 8 out_bit (Some 1) ≡ Shift 1 1 0 ∷ Clamp 0 0 ∷ []
unfolding computing
shifted_and_clamped = refl

-- a threshold that is as large as the difference
no_shifter : operators_at plain (network (volts 1000000 800000 800000)) (with_strategies (isolation 1 None Outputs ∷ shifting 1 200000 ∷ [])) 8 out_bit (Some 1) ≡ Clamp 0 0 ∷ []
unfolding computing
no_shifter = refl

-- a strategy of the parent's domain acts on the lower side, where an output of the block is an input
lower_clamp : operators_at plain (network (volts 1000000 1000000 800000)) (with_strategies (isolation 0 (Some (AtInstance (codes "u" ∷ []) ∷ [])) Inputs ∷ [])) 8 out_bit (Some 1) ≡ Clamp 0 0 ∷ []
unfolding computing
lower_clamp = refl

both_sides : operators_at plain (network (volts 1000000 1000000 800000)) (with_strategies (isolation 1 None Outputs ∷ isolation 0 (Some (AtInstance (codes "u" ∷ []) ∷ [])) Inputs ∷ [])) 8 out_bit (Some 1) ≡ Clamp 0 0 ∷ Clamp 1 0 ∷ []
unfolding computing
both_sides = refl

-- a clamp of a lower supply of its own: the shifter follows it
clamped_and_shifted : operators_at plain (network (volts 1000000 800000 800000)) (with_strategies (by_supply 2 (isolation 1 None Outputs) ∷ shifting 1 0 ∷ [])) 8 out_bit (Some 1) ≡ Clamp 0 2 ∷ Shift 1 2 0 ∷ []
unfolding computing
clamped_and_shifted = refl

-- between both: two shifters, which are refused
two_shifters : operators_at plain (network (volts 1000000 800000 900000)) (with_strategies (by_supply 2 (isolation 1 None Outputs) ∷ shifting 1 0 ∷ [])) 8 out_bit (Some 1) ≡ Shift 1 1 2 ∷ Clamp 0 2 ∷ Shift 1 2 0 ∷ []
unfolding computing
two_shifters = refl

-- two strategies that name the same bit tie, and none wins
abbrev tie : Intent
tie = with_strategies (isolation 1 (Some (AtBit (codes "u" ∷ []) (codes "o") None ∷ [])) Outputs ∷ isolation 1 (Some (AtBit (codes "u" ∷ []) (codes "o") None ∷ [])) Outputs ∷ [])

abbrev crossing_in : Structure → Intent → BoundaryBit → Crossing
crossing_in s i b = crossing s i 8 b

abbrev out : BoundaryBit
out = record { path = codes "u" ∷ []; port = port (codes "o") Output None; index = None }

none_wins : winner (network (volts 1000000 1000000 800000)) tie Isolation Upper (crossing_in plain tie out) ≡ None
unfolding computing
none_wins = refl

both_tied : map (λ x. is_tied (rank out) (applying (network (volts 1000000 1000000 800000)) tie Isolation Upper (crossing_in plain tie out)) x) (applying (network (volts 1000000 1000000 800000)) tie Isolation Upper (crossing_in plain tie out)) ≡ true ∷ true ∷ []
unfolding computing
both_tied = refl

-- ---- an output of two bits, and strategies from a bit down to the whole domain

abbrev five : Intent
five = with_strategies (
    isolation 1 (Some (AtBit (codes "u" ∷ []) (codes "o") (Some 1) ∷ [])) Outputs
    ∷ isolation 1 (Some (AtPort (codes "u" ∷ []) (codes "o") ∷ [])) Outputs
    ∷ isolation 1 (Some (AtInstance (codes "u" ∷ []) ∷ [])) Outputs
    ∷ isolation 1 None Outputs
    ∷ isolation 1 None Both
    ∷ [])

abbrev number_of_winner : Intent → BoundaryBit → Option ℕ
number_of_winner i b = option_and_then (λ x. Some x.0) (winner (network (volts 1000000 1000000 800000)) i Isolation Upper (crossing_in wide i b))

the_input : number_of_winner five (record { path = codes "u" ∷ []; port = port (codes "i") Input None; index = None }) ≡ Some 4
unfolding computing
the_input = refl

the_named_bit : number_of_winner five (record { path = codes "u" ∷ []; port = wide_output; index = Some 1 }) ≡ Some 0
unfolding computing
the_named_bit = refl

the_named_port : number_of_winner five (record { path = codes "u" ∷ []; port = wide_output; index = Some 0 }) ≡ Some 1
unfolding computing
the_named_port = refl

-- ---- the output of the design over its events

abbrev design : Intent → Design
design i = record { structure = plain; network = network (volts 1000000 1000000 800000); intent = i }

-- the top's supply is on, the block's is given, and so is the ground
abbrev event : Tern → Tern → SupplyState → Event
event a en block = record {
  inputs = λ n j. if bytes_eq n (codes "a") then a else en;
  supplies = λ o. if o == 1 then block else if o == 3 then On 0 else On 1000000;
}

abbrev no_registers : Registers
no_registers p q = X

abbrev y : Intent → Event → Tern
y i ev = output (design i) (computed (design i) ev no_registers 8) (codes "y") None None

all_on : y clamped (event Zero Zero (On 1000000)) ≡ One
unfolding computing
all_on = refl

block_off : y clamped (event Zero Zero Off) ≡ X
unfolding computing
block_off = refl

block_off_and_clamped : y clamped (event Zero One Off) ≡ Zero
unfolding computing
block_off_and_clamped = refl

unknown_control_over_the_clamp_value : y clamped (event One X (On 1000000)) ≡ Zero
unfolding computing
unknown_control_over_the_clamp_value = refl

unknown_control_over_the_other : y clamped (event Zero X (On 1000000)) ≡ X
unfolding computing
unknown_control_over_the_other = refl

unknown_supply : y clamped (event Zero Zero Unknown) ≡ X
unfolding computing
unknown_supply = refl

-- with no strategy the value of the block goes to the top, and is lost with it
no_strategy : y (with_strategies []) (event Zero Zero Off) ≡ X
unfolding computing
no_strategy = refl

-- ---- a switch whose control is the output of a register

abbrev switched_design : Intent → Design
switched_design i = record { structure = switched; network = switched_network; intent = i }

abbrev in_state : Tern → Registers
in_state t p q = t

abbrev switched_y : Tern → Tern
switched_y t = output (switched_design clamped) (computed (switched_design clamped) (event Zero Zero Unknown) (in_state t) 12) (codes "y") None None

control_unknown : switched_y X ≡ X
unfolding computing
control_unknown = refl

control_active : switched_y Zero ≡ One
unfolding computing
control_active = refl

control_inactive : switched_y One ≡ X
unfolding computing
control_inactive = refl

-- ---- readers inside the block read what comes before the clamp

abbrev inside : Design
inside = record { structure = read_inside; network = network (volts 1000000 1000000 800000); intent = with_strategies (isolation 1 (Some (AtPort (codes "u" ∷ []) (codes "o") ∷ [])) Outputs ∷ []) }

abbrev inside_at : Name → Tern
inside_at n = output inside (computed inside (event Zero One (On 1000000)) no_registers 12) n None None

outside_is_clamped : inside_at (codes "y") ≡ Zero
unfolding computing
outside_is_clamped = refl

inside_is_not : inside_at (codes "z") ≡ Zero
unfolding computing
inside_is_not = refl

-- ---- an input that is driven by the block's supply, and no strategy

abbrev driven : Design
driven = record { structure = plain; network = network (volts 1000000 1200000 800000); intent = record (with_strategies []) { drivers = record { port = codes "a"; supply = 1 } ∷ [] } }

abbrev driven_y : Tern → SupplyState → Tern
driven_y a block = output driven (computed driven (event a Zero block) no_registers 8) (codes "y") None None

complement_of_zero : driven_y Zero (On 1200000) ≡ One
unfolding computing
complement_of_zero = refl

complement_of_one : driven_y One (On 1200000) ≡ Zero
unfolding computing
complement_of_one = refl

-- ---- a strategy that inserts nothing

abbrev kept_open : Element → Intent
kept_open e = with_strategies (record (isolation 1 (Some (e ∷ [])) Outputs) { inserts = false } ∷ [])

not_isolated : y (kept_open (AtPort (codes "u" ∷ []) (codes "o"))) (event Zero One Off) ≡ X
unfolding computing
not_isolated = refl

abbrev fed : Design
fed = record { structure = fed_through; network = network (volts 1000000 1000000 800000); intent = kept_open (AtPort (codes "u" ∷ []) (codes "t")) }

-- what an assign feeds through the block does not need the block's supply
passes_a_block_that_is_off : map (λ a. output fed (computed fed (event a Zero Off) no_registers 12) (codes "z") None None) (Zero ∷ One ∷ X ∷ []) ≡ Zero ∷ One ∷ X ∷ []
unfolding computing
passes_a_block_that_is_off = refl

open_port_has_no_operator : operators_at fed_through (network (volts 1000000 1000000 800000)) clamped 12 (PortBit (codes "u" ∷ []) (codes "open") None) None ≡ []
unfolding computing
open_port_has_no_operator = refl

-- ---- a switch whose control comes from the block that it supplies

abbrev looped : Design
looped = record { structure = switched_from_inside; network = switched_network; intent = with_strategies [] }

abbrev control : Key
control = At (Inner (codes "sl") None [])

-- the control reads the block's output, which reads the switch, which reads the control
control_reaches_itself : Reaches keys (reads looped) control control
control_reaches_itself = (At (Inner (codes "q") None (codes "u" ∷ [])) ∷ Of 1 ∷ [], (refl, (refl, refl)))

no_order : (order : List Key) → IsOrder keys (reads looped) order → has keys control order ≡ true → ⊥
no_order order o h = order-no_loop keys (reads looped) order o control h control_reaches_itself
