-- Lines about domains, strategies and what is read, computed on the small designs.
use Rattle.std.proofs.Common.{◌≡◌, true, false, [], ◌∷◌, Option, Some, None, refl}
use Rattle.std.specs.Prelude.{ℕ, Bool, codes, map, option_and_then}
use Rattle.lp_model.specs.declared.intent.Applies.TheVariants.{Inputs, Outputs}
use Rattle.lp_model.specs.declared.intent.DeclaredState.TheVariants.{On}
use Rattle.lp_model.specs.declared.side.Location.TheVariants.{Parent}
use Rattle.lp_model.specs.declared.side.Side.{Side}
use Rattle.lp_model.specs.declared.side.Side.TheVariants.{Upper, Lower}
use Rattle.lp_model.specs.declared.supply.OriginKind.TheVariants.{Port, Switch}
use Rattle.lp_model.specs.declared.netlist.Direction.TheVariants.{Output}
use Rattle.lp_model.specs.NetlistView.{NetBit}
use Rattle.lp_model.specs.LibraryView.{PinView}
use Rattle.lp_spec_design.specs.Keys.{Name, Node, Inner}
use Rattle.lp_spec_design.specs.Instances.{Placed}
use Rattle.lp_spec_design.specs.Nodes.{computing}
use Rattle.lp_spec_design.specs.Graph.{Reader, InputPin}
use Rattle.lp_spec_design.specs.Intents.{Element, AtInstance, AtPort, AtBit, BySet, Strategy, Intent}
use Rattle.lp_spec_design.proofs.Samples.{never, port, top, core, with_strategies, isolation, shifting, by_supply, switched_from_inside}
use Rattle.lp_spec_network.proofs.Samples.{origin}
use Rattle.lp_spec_fit.proofs.Samples.{buffer}
use Rattle.lp_spec_realises.specs.Projects.{Project}
use Rattle.lp_spec_realises.specs.Implements.{Lists}
use Rattle.lp_spec_realises.proofs.Samples.{inverter, cells, supplies, project, by_the_block}
use Rattle.lp_spec_faults.specs.Lines.{first_of}
use Rattle.lp_spec_faults.specs.Domains.{no_domain, no_primary}
use Rattle.lp_spec_faults.specs.Strategies.{split_sinks, shift_target, SideAt, StrategyAt, Where, OnSide, OnRegister, not_boundary, tied, no_place, no_supply, two_shifters, location_order, shift_supply}
use Rattle.lp_spec_faults.specs.Readings.{row_of_level, row_of_leak, Reading, ClampReads, PinReads, unfit_power, shift_forbidden, uncovered_level, uncovered_isolation, control_level, loop, no_cell}

-- ---- domains

top_in_no_domain : map (λ i. first_of (no_domain i)) (with_strategies [] ∷ record (with_strategies []) { domains = [] } ∷ []) ≡ None ∷ Some [] ∷ []
unfolding computing
top_in_no_domain = refl

without_primary : option_and_then (λ d. Some d.0) (first_of (no_primary (record (with_strategies []) { domains = record { elements = [] ∷ []; primary = Some 0; isolation = None; retention = None } ∷ record { elements = (codes "u" ∷ []) ∷ []; primary = None; isolation = None; retention = None } ∷ [] }))) ≡ Some 1
unfolding computing
without_primary = refl

-- ---- strategies

abbrev the_bit : Element
the_bit = AtBit (codes "u" ∷ []) (codes "o") None

-- a strategy of the top's domain, on the lower side of the block's boundary
abbrev from_outside : Strategy
from_outside = isolation 0 (Some (AtInstance (codes "u" ∷ []) ∷ [])) Inputs

abbrev side_of : Option StrategyAt → Option (Side × ℕ)
side_of x = option_and_then (λ (s : StrategyAt). Some (s.place.side, s.number)) x

abbrev in_parent : Strategy → Strategy
in_parent t = record t { location = Parent }

no_place_on_the_lower_side : side_of (first_of (no_place (project (with_strategies (in_parent from_outside ∷ []))))) ≡ Some (Lower, 0)
unfolding computing
no_place_on_the_lower_side = refl

a_place_in_the_parent : first_of (no_place (project (with_strategies (in_parent (isolation 1 None Outputs) ∷ from_outside ∷ [])))) ≡ None
unfolding computing
a_place_in_the_parent = refl

abbrev number_in : Option Where → Option ℕ
number_in None = None
number_in (Some (OnSide x)) = Some x.number
number_in (Some (OnRegister x)) = Some x.number

two_tie : map (λ i. number_in (first_of (tied (project i)))) (with_strategies (from_outside ∷ isolation 1 (Some (the_bit ∷ [])) Outputs ∷ isolation 1 (Some (the_bit ∷ [])) Outputs ∷ []) ∷ with_strategies (isolation 1 (Some (the_bit ∷ [])) Outputs ∷ isolation 1 None Outputs ∷ []) ∷ []) ≡ Some 1 ∷ None ∷ []
unfolding computing
two_tie = refl

without_supply : number_in (first_of (no_supply (project (with_strategies (record (isolation 1 None Outputs) { supply = None } ∷ []))))) ≡ Some 0
unfolding computing
without_supply = refl

-- an element of another domain, and one of the domain
elements : map (λ e. option_and_then (λ x. Some tt) (first_of (not_boundary (project (with_strategies (isolation 1 (Some (e ∷ [])) Outputs ∷ [])))))) (AtPort [] (codes "y") ∷ AtPort (codes "u" ∷ []) (codes "o") ∷ []) ≡ Some (tt {0}) ∷ None ∷ []
unfolding computing
elements = refl

abbrev lower : Project → Project
lower p = record p { supplies = supplies (On 800000 ∷ []) (On 900000 ∷ []) }

abbrev between : Intent
between = with_strategies (by_supply 2 (isolation 1 None Outputs) ∷ shifting 1 0 ∷ [])

abbrev where_shifted : Option SideAt → Option Side
where_shifted x = option_and_then (λ (s : SideAt). Some s.side) x

both_shifters : map (λ p. where_shifted (first_of (two_shifters p))) (lower (project between) ∷ project between ∷ []) ≡ Some Upper ∷ None ∷ []
unfolding computing
both_shifters = refl

-- a clamp outside of a shifter that follows it inside
against_the_flow : map (λ i. where_shifted (first_of (location_order (record (project i) { supplies = supplies (On 800000 ∷ []) (On 800000 ∷ []) })))) (with_strategies (in_parent (by_supply 2 (isolation 1 None Outputs)) ∷ shifting 1 0 ∷ []) ∷ with_strategies (by_supply 2 (isolation 1 None Outputs) ∷ in_parent (shifting 1 0) ∷ []) ∷ []) ≡ Some Upper ∷ None ∷ []
unfolding computing
against_the_flow = refl

-- a shifter for another input supply
other_input : map (λ k. where_shifted (first_of (shift_supply (lower (project (with_strategies (record (shifting 1 0) { input = Some k } ∷ []))))))) (2 ∷ 1 ∷ []) ≡ Some Upper ∷ None ∷ []
unfolding computing
other_input = refl

-- ---- an output of the block that the buffer and a top output with a supply of its own read

abbrev read_twice : Intent → Project
read_twice i = record (project i) {
  structure = record (project i).structure { modules = record top { ports = port (codes "z") Output None ∷ top.ports; assigns = record { left = NetBit (codes "z") ∷ []; right = NetBit (codes "n") ∷ [] } ∷ [] } ∷ core ∷ [] };
  intent = record i { receivers = record { port = codes "z"; supply = 2 } ∷ [] };
}

abbrev to_the_top : Intent
to_the_top = with_strategies (record (isolation 1 None Outputs) { sink = Some (BySet 0) } ∷ [])

-- the sink is that of one reader and not of the other
sinks_split : map (λ p. side_of (first_of (split_sinks p))) (read_twice to_the_top ∷ project to_the_top ∷ []) ≡ Some (Upper, 0) ∷ None ∷ []
unfolding computing
sinks_split = refl

targets : map (λ p. side_of (first_of (shift_target p))) (read_twice (with_strategies (shifting 1 0 ∷ [])) ∷ read_twice (with_strategies (record (shifting 1 0) { output = Some 0 } ∷ [])) ∷ project (with_strategies (shifting 1 0 ∷ [])) ∷ []) ≡ Some (Upper, 0) ∷ None ∷ None ∷ []
unfolding computing
targets = refl

-- ---- what is read

abbrev at_the_buffer : Reader × Node
at_the_buffer = (InputPin [] (codes "b") (codes "A"), Inner (codes "n") None [])

read_from_a_block_that_is_off : first_of (uncovered_isolation (project (with_strategies []))) ≡ Some at_the_buffer
unfolding computing
read_from_a_block_that_is_off = refl

covered : map (λ i. first_of (uncovered_isolation (project i))) (by_the_block ∷ with_strategies (from_outside ∷ []) ∷ with_strategies (record (isolation 1 None Outputs) { inserts = false } ∷ []) ∷ []) ≡ None ∷ None ∷ None ∷ []
unfolding computing
covered = refl

-- a strategy of the top's domain for outputs acts on the input of the block
covers_the_input : first_of (uncovered_isolation (project (with_strategies (isolation 0 (Some (AtInstance (codes "u" ∷ []) ∷ [])) Outputs ∷ [])))) ≡ Some at_the_buffer
unfolding computing
covers_the_input = refl

abbrev reader_of : Option Reading → Option (Bool × ℕ)
reader_of None = None
reader_of (Some (ClampReads o)) = Some (true, o.number)
reader_of (Some (PinReads r k)) = Some (false, 0)

-- the clamp reads the lower block where its shifter is not wanted; with the margin it may
clamp_reads_too_low : map (λ p. reader_of (first_of (uncovered_level p))) (lower (project (with_strategies (isolation 1 None Outputs ∷ shifting 1 300000 ∷ []))) ∷ record (lower (project (with_strategies (isolation 1 None Outputs ∷ shifting 1 300000 ∷ [])))) { margin = 200000 } ∷ lower (project (with_strategies (isolation 1 None Outputs ∷ shifting 1 0 ∷ []))) ∷ []) ≡ Some (true, 0) ∷ None ∷ None ∷ []
unfolding computing
clamp_reads_too_low = refl

buffer_reads_too_low : reader_of (first_of (uncovered_level (lower (project (with_strategies []))))) ≡ Some (false, 0)
unfolding computing
buffer_reads_too_low = refl

shown_by_row_0 : option_and_then (row_of_level (lower (project (with_strategies [])))) (first_of (uncovered_level (lower (project (with_strategies []))))) ≡ Some 0
unfolding computing
shown_by_row_0 = refl

leak_in_row_0 : row_of_leak (project (with_strategies [])) at_the_buffer ≡ Some 0
unfolding computing
leak_in_row_0 = refl

-- a strategy that forbids the shifter
forbidden : map (λ t. reader_of (first_of (shift_forbidden (lower (project (with_strategies (t ∷ []))))))) (record (shifting 1 0) { inserts = false } ∷ shifting 1 300000 ∷ []) ≡ Some (false, 0) ∷ None ∷ []
unfolding computing
forbidden = refl

-- the control of the clamp comes from the lower block, or from the top
controls : map (λ k. option_and_then (λ x. Some tt) (first_of (control_level (lower (project (with_strategies (record (isolation 1 None Outputs) { control = Some k } ∷ [])))) (λ o. 1)))) (Inner (codes "i") None (codes "u" ∷ []) ∷ Inner (codes "o") None (codes "u" ∷ []) ∷ []) ≡ None ∷ Some (tt {0}) ∷ []
unfolding computing
controls = refl

-- ---- cells

abbrev never_lost : PinView → PinView
never_lost q = record q { power_down = Some never }

abbrev placed_name : Option Placed → Option Name
placed_name a = option_and_then (λ (x : Placed). Some x.instance) a

unfit_buffer : map (λ c. placed_name (first_of (unfit_power (record (project (with_strategies [])) { structure = record (project (with_strategies [])).structure { cells = inverter ∷ c ∷ [] } })))) (record buffer { pins = map never_lost buffer.pins } ∷ buffer ∷ []) ≡ Some (codes "b") ∷ None ∷ []
unfolding computing
unfit_buffer = refl

abbrev any_cell : Lists
any_cell = record { of_strategy = λ k. None; of_switch = λ o. None; scope_of_switch = λ o. [] }

no_clamp_cell : map (λ cs. option_and_then (λ x. Some tt) (first_of (no_cell (record (project by_the_block) { structure = record (project by_the_block).structure { cells = cs } }) any_cell))) ((inverter ∷ buffer ∷ []) ∷ cells ∷ []) ≡ Some (tt {0}) ∷ None ∷ []
unfolding computing
no_clamp_cell = refl

-- ---- loops: the control of a switch comes from the block that the switch supplies; it is the net sl of the top, number 4

abbrev switched : Project
switched = record (project (with_strategies [])) {
  structure = switched_from_inside;
  supplies = record (supplies [] []) { origins = origin 0 (Port (On 1000000 ∷ [])) ∷ origin 0 (Switch (record { 0 = 0 }) (record { 0 = 4 }) false) ∷ origin 2 (Port []) ∷ origin 3 (Port []) ∷ [] };
}

the_control_loops : first_of (loop switched 3) ≡ Some (Inner (codes "sl") None [])
unfolding computing
the_control_loops = refl

no_loop : first_of (loop (project (with_strategies [])) 3) ≡ None
unfolding computing
no_loop = refl
