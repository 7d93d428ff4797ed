-- The statements of the laws of this crate (own rule).
use Rattle.lp_spec_design.specs.Chains.{Clamp}
use Rattle.lp_spec_realises.specs.Operators.{OperatorAt, all_operators}
use Rattle.std.specs.Prelude.{◌≡◌, ℕ, Some, true, Option, is_some, slice_get}
use Rattle.lp_model.specs.NetlistView.{PortView, InstanceView, ModuleView}
use Rattle.lp_model.specs.LibraryView.{CellView}
use Rattle.lp_spec_design.specs.Keys.{Path}
use Rattle.lp_spec_design.specs.Netlists.{module_at, cell_named}
use Rattle.lp_spec_design.specs.Intents.{SupplySet}
use Rattle.lp_spec_design.specs.Winners.{IsIn}
use Rattle.lp_spec_realises.specs.Projects.{Project, network_of}
use Rattle.lp_spec_realises.specs.ProjectNetlists.{are_apart}
use Rattle.lp_spec_realises.specs.Realises.{outer_supply}
use Rattle.lp_spec_realises.specs.Implements.{Lists}
use Rattle.lp_spec_faultless.specs.Faults.{IsRead}
use Rattle.lp_spec_written.specs.Places.{Standing, Kept, Switching, plan}
use Rattle.lp_spec_written.specs.Routes.{Route, routes, enable_of}
use Rattle.lp_spec_written.specs.Supplies.{Use, uses, cell_for}
use Rattle.lp_spec_written.specs.Written.{additions}
use Rattle.lp_spec_hub.specs.Drives.{comes_from}
use Rattle.lp_spec_hub.specs.Entries.{is_control}
use Rattle.lp_spec_hub.specs.Whole.{IsOrderly}
use Rattle.lp_spec_written_at.specs.Laws.{IsReady}
use Rattle.lp_spec_written_at.specs.Sources.{cell_names, HasFreePins}
use Rattle.lp_spec_driven.specs.Sound.{HasNames, IsPlainSource, IsOnWays, ComesFrom, HasRoutes, HasFitCells, HasSwitches, IsProper}
use Rattle.lp_spec_wires.specs.Standing.{HasPlaces}
use Rattle.lp_spec_proper.specs.Insertable.{IsInsertable, IsWithinLimits}

-- a source that is read and has no fault is ready, within limits
abbrev pub InsertableIsReady : Type 0
InsertableIsReady =
    (p : Project) (l : Lists) (switch_command : ℕ → ℕ)
    → IsRead p → IsInsertable p l switch_command → IsWithinLimits p l
    → IsReady p l

-- chains are those of the plan, and names are apart
abbrev pub AdditionsHaveNames : Type 0
AdditionsHaveNames =
    (p : Project) (l : Lists) (switch_command : ℕ → ℕ)
    → IsRead p → IsInsertable p l switch_command → IsWithinLimits p l
    → HasNames p (additions p l)

-- no net bit of the source has two sources, and no name of an addition stands in it
abbrev pub SourceIsPlain : Type 0
SourceIsPlain =
    (p : Project) (l : Lists) (switch_command : ℕ → ℕ)
    → IsRead p → IsInsertable p l switch_command → IsWithinLimits p l
    → IsPlainSource p.structure

-- the cells of the source and of what is added are as they have to be
abbrev pub AdditionsHaveFitCells : Type 0
AdditionsHaveFitCells =
    (p : Project) (l : Lists) (switch_command : ℕ → ℕ)
    → IsRead p → IsInsertable p l switch_command → IsWithinLimits p l
    → HasFitCells p (additions p l)

-- operators stand on ways that lead from bit to bit, those before the edge first
abbrev pub AdditionsStandOnWays : Type 0
AdditionsStandOnWays =
    (p : Project) (l : Lists) (switch_command : ℕ → ℕ)
    → IsRead p → IsInsertable p l switch_command → IsWithinLimits p l
    → IsOnWays p (additions p l)

-- and come from the nodes from which the ways come
abbrev pub WaysComeFromThere : Type 0
WaysComeFromThere =
    (p : Project) (l : Lists) (switch_command : ℕ → ℕ)
    → IsRead p → IsInsertable p l switch_command → IsWithinLimits p l
    → ComesFrom p (additions p l) (comes_from p)

-- each part of a control's route has what it comes from, and stands once
abbrev pub AdditionsHaveRoutes : Type 0
AdditionsHaveRoutes = (p : Project) (l : Lists) → HasRoutes (additions p l)

-- each switch has a cell with one switched pin, which is joined to its origin
abbrev pub AdditionsHaveSwitches : Type 0
AdditionsHaveSwitches =
    (p : Project) (l : Lists) (switch_command : ℕ → ℕ)
    → IsRead p → IsInsertable p l switch_command → IsWithinLimits p l
    → HasSwitches p (additions p l)

-- together: what is added is as the laws on wires ask
abbrev pub AdditionsAreProper : Type 0
AdditionsAreProper =
    (p : Project) (l : Lists) (switch_command : ℕ → ℕ)
    → IsRead p → IsInsertable p l switch_command → IsWithinLimits p l
    → IsProper p (additions p l) (comes_from p)

-- and stands in instances
abbrev pub AdditionsHavePlaces : Type 0
AdditionsHavePlaces =
    (p : Project) (l : Lists) (switch_command : ℕ → ℕ)
    → IsRead p → IsInsertable p l switch_command → IsWithinLimits p l
    → HasPlaces p (additions p l)

-- the pins of each cell that stands for one of the source have names of their own, and the source connects none that is added
abbrev pub CellsHaveFreePins : Type 0
CellsHaveFreePins =
    (p : Project) (l : Lists) (switch_command : ℕ → ℕ)
    → IsRead p → IsInsertable p l switch_command → IsWithinLimits p l
    → (x : Path) (m : ModuleView)
    → module_at p.structure x ≡ Some m
    → (y : InstanceView)
    → IsIn y m.instances
    → (source c : CellView)
    → cell_named p.structure y.target ≡ Some source
    → cell_for p (plan p l) (record { path = x; instance = y.name }) ≡ Some c
    → HasFreePins p l x y c

-- ---- what the laws on ends ask beside

-- names stand apart, no way comes back to where it began, nothing lacks a cell, and each upper part has an order of locations
abbrev pub InsertableIsOrderly : Type 0
InsertableIsOrderly = (p : Project) (l : Lists) (switch_command : ℕ → ℕ) → IsRead p → IsInsertable p l switch_command → IsWithinLimits p l → IsOrderly p l

-- no two pins of a cell that is added have one name, power and ground pins among them
pub record AddedPinsAreApart (p : Project) (l : Lists) : Type 0 where
  pub operators : (o : Standing) → IsIn o (plan p l).operators → are_apart (cell_names o.cell) ≡ true
  pub registers : (k : Kept) → IsIn k (plan p l).registers → are_apart (cell_names k.cell) ≡ true
  pub switches : (w : Switching) → IsIn w (plan p l).switches → are_apart (cell_names w.cell) ≡ true

abbrev pub AddedCellsHavePinsApart : Type 0
AddedCellsHavePinsApart =
    (p : Project) (l : Lists) (switch_command : ℕ → ℕ)
    → IsRead p → IsInsertable p l switch_command → IsWithinLimits p l
    → AddedPinsAreApart p l

-- what is led to a pin is a net bit of an instance or a constant
abbrev pub RoutesAreOfControls : Type 0
RoutesAreOfControls =
    (p : Project) (l : Lists) (switch_command : ℕ → ℕ)
    → IsRead p → IsInsertable p l switch_command → IsWithinLimits p l
    → (r : Route) → IsIn r (routes p (plan p l)) → is_control r.0 ≡ true

-- a clamp has an enable
abbrev pub ClampsHaveEnables : Type 0
ClampsHaveEnables =
    (p : Project) (l : Lists) (switch_command : ℕ → ℕ)
    → IsRead p → IsInsertable p l switch_command → IsWithinLimits p l
    → (q : OperatorAt) (t i : ℕ) → IsIn q (all_operators p) → q.operator ≡ Clamp t i → is_some (enable_of p q.operator) ≡ true

-- an origin of the supply network
abbrev pub IsOrigin : Project → ℕ → Type 0
IsOrigin p o = is_some (slice_get (network_of p).origins o) ≡ true

-- a supply set, whose power and ground are origins
pub record HasSupply (p : Project) (o : Option SupplySet) : Type 0 where
  pub set : SupplySet
  pub is : o ≡ Some set
  pub power : IsOrigin p set.power
  pub gnd : IsOrigin p set.gnd

-- the environment's side of each port of the top has a supply
abbrev pub PortsHaveSupplies : Type 0
PortsHaveSupplies =
    (p : Project) (l : Lists) (switch_command : ℕ → ℕ)
    → IsRead p → IsInsertable p l switch_command → IsWithinLimits p l
    → (q : PortView) → HasSupply p (outer_supply p q)

-- each use of a supply is of an origin
abbrev pub UsesAreOfOrigins : Type 0
UsesAreOfOrigins =
    (p : Project) (l : Lists) (switch_command : ℕ → ℕ)
    → IsRead p → IsInsertable p l switch_command → IsWithinLimits p l
    → (u : Use) → IsIn u (uses p (plan p l)) → IsOrigin p u.1
