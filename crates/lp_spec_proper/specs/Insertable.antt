-- What an insertion needs of a project beside the absence of faults that bear on values (own rule; IEEE 1801-2015 create_supply_set, set_isolation, set_retention).
use Rattle.lp_model.specs.declared.intent.StrategyKind.TheVariants.{Isolation}
use Rattle.std.specs.Prelude.{◌≡◌, ℕ, true, false, map, Some, None, is_some}
use Rattle.std.specs.List.{list_any}
use Rattle.lp_model.specs.LibraryView.{CellView}
use Rattle.lp_model.specs.declared.library.Action.{Action}
use Rattle.lp_spec_design.specs.Keys.{Node, Inner, Outer, Fixed}
use Rattle.lp_spec_design.specs.Netlists.{Structure, module_at}
use Rattle.lp_spec_design.specs.Intents.{SetNumber, Strategy}
use Rattle.lp_spec_design.specs.Winners.{IsIn, same_kind}
use Rattle.lp_spec_origins.specs.Used.{is_used_set}
use Rattle.lp_spec_realises.specs.Projects.{Project, functions_of}
use Rattle.lp_spec_realises.specs.ProjectNetlists.{are_apart}
use Rattle.lp_spec_realises.specs.Operators.{SwitchAt, all_switches}
use Rattle.lp_spec_realises.specs.Implements.{Lists}
use Rattle.lp_spec_faults.specs.Domains.{no_domain, no_primary}
use Rattle.lp_spec_faults.specs.Lines.{first_of}
use Rattle.lp_spec_faults.specs.Modules.{reserved_name, unknown_module, recursive, top_count}
use Rattle.lp_spec_faults.specs.Readings.{no_cell}
use Rattle.lp_spec_faults.specs.Strategies.{location_order}
use Rattle.lp_spec_faults.specs.Wires.{unknown_pin, already_powered, two_drivers}
use Rattle.lp_spec_faultless.specs.Faults.{HasNoFault}
use Rattle.lp_spec_written_at.specs.Sources.{takes_own_name, HasOriginNames, HasFewAdditions, HasControls}

-- no line of the table of faults holds that bears on an insertion
pub record IsInsertable (p : Project) (l : Lists) (switch_command : ℕ → ℕ) : Type 0 where
  -- what bears on values
  pub values : HasNoFault p switch_command
  -- F13, F17, F18 and F19
  pub targets : first_of (unknown_module p.structure) ≡ None
  pub not_recursive : first_of (recursive p.structure) ≡ None
  pub one_top : first_of (top_count p.structure) ≡ None
  pub names : first_of (reserved_name p.structure) ≡ None
  -- F14, F16 and F20
  pub pins : first_of (unknown_pin p.structure) ≡ None
  pub one_driver : first_of (two_drivers p.structure) ≡ None
  pub not_powered : first_of (already_powered p.structure) ≡ None
  -- F35 and F36
  pub domains : first_of (no_domain p.intent) ≡ None
  pub primaries : first_of (no_primary p.intent) ≡ None
  -- F57 and F60
  pub locations : first_of (location_order p) ≡ None
  pub cells : first_of (no_cell p l) ≡ None

-- a net bit of an instance that is there, or a constant
abbrev pub StandsInside : Structure → Node → Type 0
StandsInside s (Inner n i x) = is_some (module_at s x) ≡ true
StandsInside s (Outer n i) = ⊥
StandsInside s (Fixed b) = Unit {0}

-- what the resolver of power intent gives and no line of the table says: a control name is looked up in its scope,
-- which is an instance, a strategy that isolates names its control, and each used set has its origins by its number
pub record IsResolved (p : Project) : Type 0 where
  pub enables : (t : Strategy) (k : Node) → IsIn t p.intent.strategies → t.control ≡ Some k → StandsInside p.structure k
  pub saves : (t : Strategy) (k : Node × Action) → IsIn t p.intent.strategies → t.save ≡ Some k → StandsInside p.structure k.0
  pub restores : (t : Strategy) (k : Node × Action) → IsIn t p.intent.strategies → t.restore ≡ Some k → StandsInside p.structure k.0
  pub isolated : (t : Strategy) → IsIn t p.intent.strategies → same_kind Isolation t.kind ≡ true → t.inserts ≡ true → is_some t.control ≡ true
  pub sets : (k : SetNumber) → is_used_set p.intent k ≡ true → is_some (functions_of p (Some k)) ≡ true

-- what limits, readers and the resolver give beside: cells have names of their own, none that can be used begins as the
-- added ones, supply ports have names of their own, controls are declared, switches have scopes, and what is added is
-- not too much
pub record IsWithinLimits (p : Project) (l : Lists) : Type 0 where
  pub cell_names : are_apart (map (λ (c : CellView). c.name) p.structure.cells) ≡ true
  pub free_cells : list_any takes_own_name p.structure.cells ≡ false
  pub origin_names : HasOriginNames p
  pub controls : HasControls p
  pub resolved : IsResolved p
  pub scopes : (x : SwitchAt) → IsIn x (all_switches p) → is_some (module_at p.structure (l.scope_of_switch x.origin)) ≡ true
  pub few : HasFewAdditions p l
