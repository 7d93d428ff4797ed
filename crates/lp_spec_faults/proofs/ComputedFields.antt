-- The fields of the lines of faults beside their places, and the order of commands, computed on the small designs.
use Rattle.std.proofs.Common.{◌≡◌, true, false, [], ◌∷◌, Option, Some, None, refl}
use Rattle.std.specs.Prelude.{ℕ, Bool, codes, map, option_map, option_and_then}
use Rattle.lp_model.specs.declared.intent.Applies.TheVariants.{Outputs}
use Rattle.lp_model.specs.declared.intent.DeclaredState.TheVariants.{On}
use Rattle.lp_model.specs.declared.intent.StrategyKind.TheVariants.{Isolation, Shifting}
use Rattle.lp_model.specs.declared.side.Location.TheVariants.{Parent}
use Rattle.lp_model.specs.declared.supply.OriginKind.TheVariants.{Port, Switch}
use Rattle.lp_model.specs.NetlistView.{NetBit, ConstBit, ByName, ByPosition, ConnectionsView, ModuleView}
use Rattle.lp_spec_design.specs.Keys.{Path, Inner}
use Rattle.lp_spec_design.specs.Nodes.{computing}
use Rattle.lp_spec_design.specs.Intents.{AtInstance, AtPort, AtBit, Strategy, Intent}
use Rattle.lp_spec_design.proofs.Samples.{plain, top, core, to, registered, with_strategies, isolation, shifting, by_supply, retaining}
use Rattle.lp_spec_network.proofs.Samples.{origin}
use Rattle.lp_spec_realises.specs.Projects.{Project}
use Rattle.lp_spec_realises.specs.Implements.{Lists}
use Rattle.lp_spec_realises.proofs.Samples.{inverter, supplies, project, by_the_block}
use Rattle.lp_spec_fit.proofs.Samples.{buffer}
use Rattle.lp_spec_faults.specs.Lines.{first_of}
use Rattle.lp_spec_faults.specs.Strategies.{SideAt, Where, OnSide, OnRegister, not_boundary, tied, tied_with, winner_at, two_shifters, location_order, shift_supply}
use Rattle.lp_spec_faults.specs.Order.{in_command_order}
use Rattle.lp_spec_faults.specs.Readings.{Driver, OfPin, OfInput, OfNothing, driver_of, driver_read, Reading, ClampReads, PinReads, all_readings, Asks, StrategyAsks, SwitchAsks, ControlRead, row_of_control, control_level, entry_strategy, no_cell}

abbrev block : Path
block = codes "u" ∷ []

-- ---- F50: a block without ports is a boundary instance

abbrev led : ConnectionsView → ModuleView
led u = record top {
  instances =
      record { name = codes "u"; target = codes "core"; connections = u }
      ∷ record { name = codes "b"; target = codes "BUF"; connections = ByName (to (codes "A") (NetBit (codes "n")) ∷ to (codes "Y") (NetBit (codes "y")) ∷ []) }
      ∷ [];
}

abbrev portless : Intent → Project
portless i = record (project i) { structure = record plain { modules = led (ByName []) ∷ record core { ports = []; instances = [] } ∷ [] } }

abbrev names_in : ℕ → Path → Intent
names_in domain p = with_strategies (isolation domain (Some (AtInstance p ∷ [])) Outputs ∷ [])

abbrev is_refused : Project → Bool
is_refused p = by (first_of (not_boundary p))
  where
    by : {A : Type 0} → Option A → Bool
    by None = false
    by (Some x) = true

-- by the block's domain and by that of its parent; the top has no side of the block's
block_without_ports : map is_refused (portless (names_in 1 block) ∷ portless (names_in 0 block) ∷ portless (names_in 1 []) ∷ portless (names_in 0 []) ∷ []) ≡ false ∷ false ∷ true ∷ false ∷ []
unfolding computing
block_without_ports = refl

-- where one domain has both, the block is no boundary instance
abbrev in_one_domain : Intent → Intent
in_one_domain i = record i { domains = record { elements = [] ∷ []; primary = Some 0; isolation = None; retention = None } ∷ [] }

no_boundary_there : map is_refused (portless (in_one_domain (names_in 0 block)) ∷ project (in_one_domain (names_in 0 block)) ∷ []) ≡ true ∷ true ∷ []
unfolding computing
no_boundary_there = refl

-- what is excluded is not asked: a port of the top, which is no part of the block's boundary
excluded_elements : map (λ t. is_refused (project (with_strategies (t ∷ [])))) (record (isolation 1 None Outputs) { excluded = AtPort [] (codes "y") ∷ [] } ∷ isolation 1 (Some (AtPort [] (codes "y") ∷ [])) Outputs ∷ []) ≡ false ∷ true ∷ []
unfolding computing
excluded_elements = refl

-- ---- F51: the first two of three

abbrev the_bit : Strategy
the_bit = isolation 1 (Some (AtBit block (codes "o") None ∷ [])) Outputs

abbrev pair_in : Project → Option Where → Option (ℕ × ℕ)
pair_in p None = None
pair_in p (Some (OnSide x)) = option_and_then (λ k. Some (x.number, k)) (tied_with p (OnSide x))
pair_in p (Some (OnRegister x)) = option_and_then (λ k. Some (x.number, k)) (tied_with p (OnRegister x))

abbrev tie_of : Project → Option (ℕ × ℕ)
tie_of p = pair_in p (first_of (tied p))

ties_on_a_side : map (λ i. tie_of (project i)) (with_strategies (isolation 1 None Outputs ∷ the_bit ∷ shifting 1 0 ∷ the_bit ∷ the_bit ∷ []) ∷ with_strategies (shifting 1 0 ∷ the_bit ∷ the_bit ∷ shifting 1 0 ∷ []) ∷ []) ≡ Some (1, 3) ∷ Some (0, 3) ∷ []
unfolding computing
ties_on_a_side = refl

ties_on_a_register : tie_of (record (project (with_strategies (retaining (Some (AtInstance block ∷ [])) ∷ retaining None ∷ retaining None ∷ retaining (Some (AtInstance block ∷ [])) ∷ []))) { structure = registered }) ≡ Some (0, 3)
unfolding computing
ties_on_a_register = refl

-- ---- F53 to F55: what drives

abbrev driven_by : Project → Reading → Bool × Driver
driven_by p (ClampReads o) = (true, driver_read p (ClampReads o))
driven_by p (PinReads r k) = (false, driver_read p (PinReads r k))

-- the clamp and, behind it, the buffer are driven by the block's inverter, that one by the top's input, and the top's output by the buffer
drivers : map (driven_by (project by_the_block)) (all_readings (project by_the_block)) ≡ (true, OfPin block (codes "g") (codes "Y")) ∷ (false, OfInput (codes "a") None) ∷ (false, OfPin block (codes "g") (codes "Y")) ∷ (false, OfPin [] (codes "b") (codes "Y")) ∷ []
unfolding computing
drivers = refl

-- a constant at the block's input, and an open input
abbrev fixed : ConnectionsView → Project
fixed u = record (project (with_strategies [])) { structure = record plain { modules = led u ∷ core ∷ [] } }

no_drivers : map (λ u. driver_of (fixed u) (Inner (codes "i") None block)) (ByPosition ((ConstBit true ∷ []) ∷ (NetBit (codes "n") ∷ []) ∷ []) ∷ ByPosition ([] ∷ (NetBit (codes "n") ∷ []) ∷ []) ∷ []) ≡ OfNothing ∷ OfNothing ∷ []
unfolding computing
no_drivers = refl

-- ---- F56, F57 and F65: the strategies of a side

abbrev strategies_at : Project → Option SideAt → Option ℕ × Option ℕ
strategies_at p a = (option_and_then (winner_at p Isolation) a, option_and_then (winner_at p Shifting) a)

abbrev lower : Intent → Project
lower i = record (project i) { supplies = supplies (On 800000 ∷ []) (On 900000 ∷ []) }

abbrev between : Project
between = lower (with_strategies (shifting 1 0 ∷ by_supply 2 (isolation 1 None Outputs) ∷ []))

two_shifters_of : strategies_at between (first_of (two_shifters between)) ≡ (Some 1, Some 0)
unfolding computing
two_shifters_of = refl

abbrev other_input : Project
other_input = lower (with_strategies (the_bit ∷ record (shifting 1 0) { input = Some 2 } ∷ []))

-- a clamp in the parent and a shifter behind it in the block
abbrev against_the_flow : Project
against_the_flow = record (project (with_strategies (shifting 1 0 ∷ record (by_supply 2 (isolation 1 None Outputs)) { location = Parent } ∷ []))) { supplies = supplies (On 800000 ∷ []) (On 800000 ∷ []) }

clamp_and_shifter_of : strategies_at against_the_flow (first_of (location_order against_the_flow)) ≡ (Some 1, Some 0)
unfolding computing
clamp_and_shifter_of = refl

shifter_of : strategies_at other_input (first_of (shift_supply other_input)) ≡ (Some 0, Some 1)
unfolding computing
shifter_of = refl

-- ---- F59: a control of a strategy and of a switch, both from a lower supply, in the order of the commands

-- the top's net en has number 1
abbrev low_controls : ℕ → Project
low_controls command = record (project (record (with_strategies (record (isolation 1 None Outputs) { command = command } ∷ [])) { drivers = record { port = codes "en"; supply = 2 } ∷ [] })) {
  supplies = record (supplies [] []) { origins = origin 0 (Port (On 1000000 ∷ [])) ∷ origin 0 (Switch (record { 0 = 0 }) (record { 0 = 1 }) true) ∷ origin 2 (Port (On 800000 ∷ [])) ∷ origin 3 (Port []) ∷ [] };
}

-- what is controlled, and the first row that shows it
abbrev first_control : Project → ℕ → Option (Asks × Option ℕ)
first_control p switch = option_and_then (λ (x : ControlRead). Some (x.asks, row_of_control p x)) (first_of (control_level p (λ o. switch)))

strategy_first : first_control (low_controls 3) 7 ≡ Some (StrategyAsks 0, Some 0)
unfolding computing
strategy_first = refl

switch_first : first_control (low_controls 7) 3 ≡ Some (SwitchAsks 1, Some 0)
unfolding computing
switch_first = refl

in_their_order : in_command_order ((4, codes "a") ∷ (0, codes "b") ∷ (2, codes "c") ∷ []) ≡ codes "b" ∷ codes "c" ∷ codes "a" ∷ []
in_their_order = refl

-- ---- F60: the strategy for which no cell fits; a switch has none

abbrev any_cell : Lists
any_cell = record { of_strategy = λ k. None; of_switch = λ o. None; scope_of_switch = λ o. [] }

abbrev without_clamps : Project
without_clamps = record (project (with_strategies (shifting 1 0 ∷ isolation 1 None Outputs ∷ []))) { structure = record plain { cells = inverter ∷ buffer ∷ [] } }

-- a register of which no cell keeps the state, and a switch
abbrev without_copies : Project
without_copies = record (project (with_strategies (shifting 1 0 ∷ retaining None ∷ []))) { structure = registered }

abbrev without_switches : Project
without_switches = record (low_controls 3) { intent = with_strategies [] }

abbrev no_cell_by : Project → Option (Option ℕ)
no_cell_by p = option_map (entry_strategy p) (first_of (no_cell p any_cell))

no_cells : map no_cell_by (without_clamps ∷ without_copies ∷ without_switches ∷ project (with_strategies []) ∷ []) ≡ Some (Some 1) ∷ Some (Some 1) ∷ Some None ∷ None ∷ []
unfolding computing
no_cells = refl
