-- The statements of the laws of this crate (own rule).
use Rattle.std.specs.Prelude.{◌≡◌, ◌≤◌, ◌<◌, ℕ, Bool, true, List, [], map, length, slice_get, unwrap_or, Some, None, Result, Ok, is_some}
use Rattle.std.specs.List.{list_all}
use Rattle.lp_model.specs.declared.library.Action.{Action}
use Rattle.lp_model.specs.declared.intent.ScopedName.{ScopedName}
use Rattle.lp_model.specs.NetlistView.{ModuleView}
use Rattle.lp_model.specs.declared.intent.StrategyKind.TheVariants.{Isolation, Retention}
use Rattle.lp_spec_upf.specs.Commands.{is_visible}
use Rattle.lp_spec_design.specs.Keys.{Path, Node, Inner, Outer, Fixed}
use Rattle.lp_spec_design.specs.Netlists.{Structure, module_at, upward}
use Rattle.lp_spec_design.specs.Nodes.{nodes_in, nodes_of}
use Rattle.lp_spec_design.specs.Intents.{SetNumber, Strategy, FromPort, FromSwitch}
use Rattle.lp_spec_design.specs.Winners.{IsIn, same_kind}
use Rattle.lp_spec_origins.specs.Commands.{Scoped, PowerSwitch, MakesSwitch}
use Rattle.lp_spec_origins.specs.Origins.{OfSwitch, sources}
use Rattle.lp_spec_origins.specs.Used.{is_used_set}
use Rattle.lp_spec_realises.specs.Projects.{Project, network_of, numbered_node, functions_of}
use Rattle.lp_spec_faults.specs.Lines.{first_of}
use Rattle.lp_spec_faults.specs.Supplies.{undriven, two_sources}
use Rattle.lp_spec_intent.specs.Made.{Made, SetFact, sets, set_count, network}
use Rattle.lp_spec_intent.specs.Laws.{StandsInside}
use Rattle.lp_spec_intent.specs.Intent.{resolved, asked}
use Rattle.lp_spec_resolved.specs.Supplies.{node_number, project_made, lists_made}
use Rattle.lp_spec_resolved.specs.Said.{IntentFault, Intends}

-- a node of a netlist is found again by its number
abbrev pub NodesAreFound : Type 0
NodesAreFound = (s : Structure) (k : Node) → IsIn k (nodes_of s) → numbered_node s (node_number s k) ≡ k

-- each text gives something over a netlist, or has its first fault
abbrev pub EachIsIntended : Type 0
EachIsIntended = (s : Structure) (text : List ℕ) → (r : Result Made IntentFault) × Intends s text r

-- in one way
abbrev pub IntendedOnce : Type 0
IntendedOnce = (s : Structure) (text : List ℕ) (a b : Result Made IntentFault) → Intends s text a → Intends s text b → a ≡ b

-- a strategy that inserts clamps names its control, and one that inserts retention cells its two signals
pub record NamesItsControls (t : Strategy) : Type 0 where
  pub isolates : same_kind Isolation t.kind ≡ true → t.inserts ≡ true → is_some t.control ≡ true
  pub saves : same_kind Retention t.kind ≡ true → t.inserts ≡ true → is_some t.save ≡ true
  pub restores : same_kind Retention t.kind ≡ true → t.inserts ≡ true → is_some t.restore ≡ true

abbrev pub StrategiesNameTheirControls : Type 0
StrategiesNameTheirControls = (s : Structure) (text : List ℕ) (m : Made) → Intends s text (Ok m) → (t : Strategy) → IsIn t (resolved m).strategies → NamesItsControls t

-- each used set has its origins by its number, where F37 and F38 hold nowhere
abbrev pub SetsHaveOrigins : Type 0
SetsHaveOrigins =
    (s : Structure) (text : List ℕ) (m : Made) (name : Scoped → ScopedName) (margin : ℕ)
    → Intends s text (Ok m)
    → first_of (undriven (asked m)) ≡ None
    → first_of (two_sources (asked m)) ≡ None
    → (k : SetNumber) → is_used_set (resolved m) k ≡ true
    → is_some (functions_of (project_made s name m margin) (Some k)) ≡ true

-- sets are numbered in the order of their commands, and whatever names a set names one of them
pub record HasSets (m : Made) : Type 0 where
  pub numbered : map (λ (x : SetFact). x.number) (sets m) ≡ upward (set_count m) 0
  pub used : (k : SetNumber) → is_used_set (resolved m) k ≡ true → k < set_count m

abbrev pub SetsAreNumbered : Type 0
SetsAreNumbered = (s : Structure) (text : List ℕ) (m : Made) → Intends s text (Ok m) → HasSets m

-- a net bit that its instance declares
abbrev pub IsDeclaredBit : Structure → Node → Type 0
IsDeclaredBit s (Inner n i x) = (m : ModuleView) → module_at s x ≡ Some m → IsIn (Inner n i x) (nodes_in x (Some m))
IsDeclaredBit s (Outer n i) = ⊥
IsDeclaredBit s (Fixed b) = ⊥

-- the controls of strategies and of switches are such
pub record HasDeclaredControls (s : Structure) (m : Made) : Type 0 where
  pub enables : (t : Strategy) (k : Node) → IsIn t (resolved m).strategies → t.control ≡ Some k → IsDeclaredBit s k
  pub saves : (t : Strategy) (k : Node × Action) → IsIn t (resolved m).strategies → t.save ≡ Some k → IsDeclaredBit s k.0
  pub restores : (t : Strategy) (k : Node × Action) → IsIn t (resolved m).strategies → t.restore ≡ Some k → IsDeclaredBit s k.0
  pub switches : (w : PowerSwitch) → IsIn (MakesSwitch w) (network m) → IsDeclaredBit s w.control

abbrev pub ControlsAreDeclared : Type 0
ControlsAreDeclared = (s : Structure) (text : List ℕ) (m : Made) → Intends s text (Ok m) → HasDeclaredControls s m

-- two supply ports of the top have two names
abbrev pub PortsHaveTheirNames : Project → Type 0
PortsHaveTheirNames p =
    (o r : ℕ)
    → slice_get (network_of p).origins o ≡ Some FromPort
    → slice_get (network_of p).origins r ≡ Some FromPort
    → unwrap_or (slice_get p.origin_names o) [] ≡ unwrap_or (slice_get p.origin_names r) []
    → o ≡ r

abbrev pub OriginsAreNamed : Type 0
OriginsAreNamed = (s : Structure) (text : List ℕ) (m : Made) (name : Scoped → ScopedName) (margin : ℕ) → Intends s text (Ok m) → PortsHaveTheirNames (project_made s name m margin)

-- and each of them is visible ASCII
abbrev pub OriginsAreVisible : Type 0
OriginsAreVisible =
    (s : Structure) (text : List ℕ) (m : Made) (name : Scoped → ScopedName) (margin : ℕ) → Intends s text (Ok m)
    → (o : ℕ) → slice_get (network_of (project_made s name m margin)).origins o ≡ Some FromPort
    → list_all is_visible (unwrap_or (slice_get (project_made s name m margin).origin_names o) []) ≡ true

-- an origin of a project is a switch with the control, the sense and the scope of its command
pub record IsOfSwitch (s : Structure) (m : Made) (o : ℕ) (k : Node) (high : Bool) : Type 0 where
  pub switch : PowerSwitch
  pub source : slice_get (sources (network m)) o ≡ Some (OfSwitch switch)
  pub control : switch.control ≡ k
  pub sense : switch.high ≡ high
  pub inside : StandsInside s k
  pub scope : (lists_made m).scope_of_switch o ≡ switch.name.scope
  pub instance : is_some (module_at s ((lists_made m).scope_of_switch o)) ≡ true

-- over a netlist with a top, no module instance of which is deeper than 64
abbrev pub SwitchesAreKept : Type 0
SwitchesAreKept =
    (s : Structure) (text : List ℕ) (m : Made) (name : Scoped → ScopedName) (margin : ℕ)
    → is_some (module_at s []) ≡ true
    → ((p : Path) → 64 ≤ length p → module_at s p ≡ None)
    → Intends s text (Ok m)
    → (o input : ℕ) (k : Node) (high : Bool) → slice_get (network_of (project_made s name m margin)).origins o ≡ Some (FromSwitch input k high)
    → IsOfSwitch s m o k high
