-- Which retention strategy wins at each register (own rule, after IEEE 1801-2015 set_retention).
use Rattle.std.specs.Prelude.{◌≡◌, ℕ, List, map, Option, Some, None, option_and_then, if◌then◌else◌}
use Rattle.lp_model.specs.declared.fault.refs.Site.TheVariants.{Register}
use Rattle.lp_model.specs.declared.fault.refusal.DesignFault.TheVariants as of_design
use Rattle.lp_model.specs.declared.fault.refusal.Fault.TheVariants as kinds
use Rattle.lp_model.specs.declared.fault.refusal.Refusal.{Refusal}
use Rattle.lp_model.specs.declared.fault.refusal.Refusal.TheVariants as refusals
use Rattle.lp_model.specs.declared.fault.strategy.StrategyFault.{StrategyFault}
use Rattle.lp_model.specs.declared.fault.strategy.StrategyFault.TheVariants.{Tied}
use Rattle.lp_model.specs.declared.ids.StrategyId.{StrategyId}
use Rattle.lp_model.specs.declared.slot.StrategySlot.{StrategySlot}
use Rattle.lp_model.specs.Slots.{strategy_in}
use Rattle.lp_spec_design.specs.Intents.{Strategy}
use Rattle.lp_spec_design.specs.Instances.{Placed, cell_instances}
use Rattle.lp_spec_design.specs.Registers.{retention_winner}
use Rattle.lp_spec_realises.specs.Projects.{Project}
use Rattle.lp_spec_realises.specs.Realises.{cell_of}
use Rattle.lp_spec_bridge.specs.Keyed.{keys_of, leaf_at}
use Rattle.lp_spec_faults.specs.Lines.{Line, first_of}
use Rattle.lp_spec_faults.specs.Strategies.{has_state, RegisterAt, registers_with_strategies, Where, OnRegister, ties, tied_with}

-- the winner's number at a register; what is no register has none
abbrev pub winner_of : Project → Placed → Option ℕ
winner_of p a = if has_state (cell_of p.structure a) then option_and_then (λ (t : ℕ × Strategy). Some t.0) (retention_winner p.intent a.path a.instance) else None

abbrev pub number_in : StrategySlot → Option ℕ
number_in x = option_and_then (λ (k : StrategyId). Some k.0) (strategy_in x)

-- for each cell instance in its order
abbrev pub AreWinners : Project → List StrategySlot → Type 0
AreWinners p slots = map number_in slots ≡ map (winner_of p) (cell_instances p.structure)

-- the line of ties, on registers alone
abbrev pub tied_registers : Project → Line Where
tied_registers p = record { places = map (λ (x : RegisterAt). OnRegister x) (registers_with_strategies p); test = ties p }

-- no register has two strategies of the greatest rank, and the winners are given
pub record HasRetention (p : Project) (slots : List StrategySlot) : Type 0 where
  pub untied : first_of (tied_registers p) ≡ None
  pub winners : AreWinners p slots

-- the first register with two of them, by its number, and these two
pub record IsFirstTie (p : Project) (leaf x z : ℕ) : Type 0 where
  pub strategy : Strategy
  pub place : RegisterAt
  pub is : place ≡ record { register = leaf_at (keys_of p.structure) leaf; number = x; strategy = strategy }
  pub fault : first_of (tied_registers p) ≡ Some (OnRegister place)
  pub partner : tied_with p (OnRegister place) ≡ Some z

abbrev pub IsRegisterTie : Project → StrategyFault → Type 0
IsRegisterTie p (Tied (Register leaf) x z) = IsFirstTie p leaf.0 x.0 z.0
IsRegisterTie p _ = ⊥

-- memory was refused, or two share the greatest rank
abbrev pub IsRetentionFault : Project → Refusal → Type 0
IsRetentionFault p refusals.NoMemory = Unit {0}
IsRetentionFault p (refusals.Fault (kinds.Design (of_design.Strategy fault))) = IsRegisterTie p fault
IsRetentionFault p _ = ⊥
