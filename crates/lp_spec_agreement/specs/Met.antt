-- What it is to meet all premises of the theorem of insertion at once, and the operators of a project by their kinds (own rule).
use Rattle.std.specs.Prelude.{◌≡◌, Bool, true, false, not, ◌&&◌, nat_lt, List, length, Option, Some, None, IsTrue}
use Rattle.std.specs.List.{list_any}
use Rattle.lp_tern.specs.declared.supply.SupplyState.{SupplyState}
use Rattle.lp_tern.specs.declared.supply.SupplyState.TheVariants.{On, Off, Unknown}
use Rattle.lp_model.specs.NetlistView.{ModuleView}
use Rattle.lp_spec_design.specs.Instances.{Placed, cell_instances}
use Rattle.lp_spec_design.specs.Intents.{SupplySet}
use Rattle.lp_spec_design.specs.Registers.{is_retained_register}
use Rattle.lp_spec_design.specs.Domains.{node_before}
use Rattle.lp_spec_design.specs.Chains.{Operator, Clamp, Shift}
use Rattle.lp_spec_design.specs.Settled.{Event, rail_of, set_at}
use Rattle.lp_spec_pins.specs.Supplied.{is_supplied}
use Rattle.lp_spec_realises.specs.Projects.{Project, network_of, design_of}
use Rattle.lp_spec_realises.specs.Operators.{OperatorAt, all_operators, all_switches}
use Rattle.lp_spec_realises.specs.Realises.{Realises}
use Rattle.lp_spec_realises.specs.Surroundings.{powered_of, IsWithinRows}
use Rattle.lp_spec_agreement.specs.Faultless.{IsFaultless}
use Rattle.lp_spec_agreement.specs.Laws.{RunsAgree}

-- the project has no faults, the netlist realises it, each power and ground pin of the netlist has one supply, and their runs agree
pub record Meets (p : Project) (modules : List ModuleView) : Type 0 where
  pub faultless : IsFaultless p
  pub realises : Realises p modules
  pub supplied : is_supplied (powered_of p modules realises.placement) ≡ true
  pub agree : RunsAgree p modules realises

-- ---- operators

abbrev pub is_clamp : Operator → Bool
is_clamp (Clamp t s) = true
is_clamp (Shift t a b) = false

-- the power of a supply set is off
abbrev pub is_off : Event → Option SupplySet → Bool
is_off ev None = false
is_off ev (Some s) = by (ev.supplies s.power)
  where
    by : SupplyState → Bool
    by (On v) = false
    by Off = true
    by Unknown = false

-- the supply of what drives the boundary bit of an operator is off
abbrev pub is_driven_off : Project → Event → OperatorAt → Bool
is_driven_off p ev o = is_off ev (set_at (network_of p) (rail_of (design_of p) (node_before p.structure o.bit)))

-- in an event within the rows a clamp stands behind a driver whose supply is off
abbrev pub ClampsWhatIsOff : Project → Type 0
ClampsWhatIsOff p = (ev : Event) × IsWithinRows p ev × IsTrue (list_any (λ (o : OperatorAt). is_clamp o.operator && is_driven_off p ev o) (all_operators p))

-- a project and a netlist meet the premises, and the project has a clamp whose driver may be off
abbrev pub AgreementOfAClamp : Type 0
AgreementOfAClamp = (p : Project) × (modules : List ModuleView) × ClampsWhatIsOff p × Meets p modules

-- ---- switches and registers

abbrev pub has_clamp : Project → Bool
has_clamp p = list_any (λ (o : OperatorAt). is_clamp o.operator) (all_operators p)

-- some origin is a power switch
abbrev pub has_switch : Project → Bool
has_switch p = nat_lt 0 (length (all_switches p))

abbrev pub has_retained : Project → Bool
has_retained p = list_any (λ (a : Placed). is_retained_register p.structure p.intent a.path a.instance) (cell_instances p.structure)

-- a project and a netlist meet the premises, and the project has a power switch, a register with retention and a clamp
abbrev pub AgreementOfARegister : Type 0
AgreementOfARegister = (p : Project) × (modules : List ModuleView) × IsTrue (has_switch p) × IsTrue (has_retained p) × IsTrue (has_clamp p) × Meets p modules

-- ---- level shifters

abbrev pub has_shifter : Project → Bool
has_shifter p = list_any (λ (o : OperatorAt). not (is_clamp o.operator)) (all_operators p)

-- a project and a netlist meet the premises, and the project has a level shifter and a clamp
abbrev pub AgreementOfAShifter : Type 0
AgreementOfAShifter = (p : Project) × (modules : List ModuleView) × IsTrue (has_shifter p) × IsTrue (has_clamp p) × Meets p modules
