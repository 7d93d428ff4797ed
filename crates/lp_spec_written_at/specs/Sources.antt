-- What a source keeps free for the names that are added (own rule; IEEE 1364-2005, identifiers).
use Rattle.std.specs.Prelude.{◌≡◌, ◌≤◌, ◌<◌, ◌+◌, ◌^◌, ℕ, Bool, true, false, ◌&&◌, length, flat_map, Some, None, is_some, slice_get, unwrap_or, bytes_eq, List, [], ◌∷◌, ◌++◌, map, Option}
use Rattle.std.specs.List.{list_any}
use Rattle.lp_model.specs.NetlistView.{BitView, ConnectionView, ConnectionsView, ByName, ByPosition, InstanceView, ModuleView}
use Rattle.lp_model.specs.LibraryView.{PgPinView, PinView, CellView}
use Rattle.lp_model.specs.declared.library.Action.{Action}
use Rattle.lp_spec_design.specs.Keys.{Name, Path, Node, Inner, Outer, Fixed}
use Rattle.lp_spec_design.specs.Netlists.{Structure, module_at, node_of}
use Rattle.lp_spec_design.specs.Instances.{Placed, cell_instances}
use Rattle.lp_spec_design.specs.Nodes.{nodes_in}
use Rattle.lp_spec_design.specs.Intents.{Strategy, FromPort}
use Rattle.lp_spec_design.specs.Winners.{IsIn}
use Rattle.lp_spec_realises.specs.Projects.{Project, network_of}
use Rattle.lp_spec_realises.specs.ProjectNetlists.{are_apart, has_names_apart, knows_its_targets}
use Rattle.lp_spec_realises.specs.Operators.{SwitchAt, all_switches}
use Rattle.lp_spec_realises.specs.Implements.{Lists, switch_chosen, register_chosen, is_retained}
use Rattle.lp_spec_fit.specs.Fits.{is_usable, retention_pins}
use Rattle.lp_spec_faults.specs.Modules.{names_of, is_own, is_reserved, InstanceAt, all_instances}
use Rattle.lp_spec_written.specs.Places.{instances, Standing, Kept, Switching, cell_numbered, plan, switches_in}
use Rattle.lp_spec_written.specs.Nets.{Stretch, stretches, linked, by_names}
use Rattle.lp_spec_written.specs.Supplies.{kept_at, cell_for}
use Rattle.lp_spec_written.specs.Routes.{parts}
use Rattle.lp_spec_written.specs.Written.{Additions, additions}

-- a cell that can be used begins as the added ones
abbrev pub takes_own_name : CellView → Bool
takes_own_name c = is_usable c && is_own c.name

-- the target of an instance begins so
abbrev pub has_own_target : InstanceAt → Bool
has_own_target x = is_own x.instance.target

-- no name of the source, of a cell that can be used or of one that is instantiated begins as the added ones, no module is named as a cell, no name stands twice, each target is known, and the instances are not too many nor too deep
pub record IsFree (p : Project) : Type 0 where
  pub names : list_any (is_reserved p.structure) (flat_map names_of p.structure.modules) ≡ false
  pub cells : list_any takes_own_name p.structure.cells ≡ false
  pub targets : list_any has_own_target (all_instances p.structure) ≡ false
  pub apart : has_names_apart p.structure.modules ≡ true
  pub known : knows_its_targets p.structure ≡ true
  pub shallow : (x : Path) → 64 ≤ length x → module_at p.structure x ≡ None
  pub few : length (instances p) ≤ 1000000

-- a cell of the library that can be used
pub record IsListed (p : Project) (c : CellView) : Type 0 where
  pub listed : IsIn c p.structure.cells
  pub usable : is_usable c ≡ true

-- each cell that is added is one
pub record HasListedCells (p : Project) (a : Additions) : Type 0 where
  pub chains : (s : Stretch) → IsIn s a.chains → (o : Standing) → IsIn o s.operators → IsListed p o.cell
  pub registers : (k : Kept) → IsIn k a.plan.registers → IsListed p k.cell
  pub switches : (k : Switching) → IsIn k a.plan.switches → IsListed p k.cell

-- each module of a netlist is that of an instance
abbrev pub IsReached : Structure → Type 0
IsReached w = (m : ModuleView) → IsIn m w.modules → (x : Path) × (module_at w x ≡ Some m)

-- each switch has a cell and its scope is a module instance
pub record HasSwitchCells (p : Project) (l : Lists) : Type 0 where
  pub chosen : (x : SwitchAt) → IsIn x (all_switches p) → is_some (cell_numbered p (switch_chosen p l x)) ≡ true
  pub scope : (x : SwitchAt) → IsIn x (all_switches p) → is_some (module_at p.structure (l.scope_of_switch x.origin)) ≡ true

-- each register with retention has a cell
pub record HasRegisterCells (p : Project) (l : Lists) : Type 0 where
  pub chosen : (a : Placed) → IsIn a (cell_instances p.structure) → is_retained p a ≡ true → is_some (cell_numbered p (register_chosen p l a)) ≡ true

-- ---- names and numbers

-- the name of an origin, none where it has none
abbrev pub origin_name : Project → ℕ → Name
origin_name p o = unwrap_or (slice_get p.origin_names o) []

-- two supply ports have two names
abbrev pub HasOriginNames : Project → Type 0
HasOriginNames p =
    (o r : ℕ)
    → slice_get (network_of p).origins o ≡ Some FromPort
    → slice_get (network_of p).origins r ≡ Some FromPort
    → origin_name p o ≡ origin_name p r
    → o ≡ r

-- what is added is not too much: the numbers of nets, switches and controls have 64 bits, and an instance has at most 1,000,000,000 operators and as many switches
pub record HasFewAdditions (p : Project) (l : Lists) : Type 0 where
  pub nets : (s : Stretch) → IsIn s (stretches p (plan p l)) → s.start + s.count ≤ 2 ^ 64
  pub operators : (x : Path) → length (linked p (additions p l).chains x) ≤ 1000000000
  pub switches : (x : Path) → length (switches_in (plan p l) x) ≤ 1000000000
  pub numbers : length (all_switches p) ≤ 2 ^ 64
  pub controls : length (parts p (plan p l)) < 2 ^ 64

-- ---- controls

-- a net bit that its instance declares; a constant, and the outer side of a port, which no control is, are none
abbrev pub IsNetBit : Structure → Node → Type 0
IsNetBit s (Inner n i x) = (m : ModuleView) → module_at s x ≡ Some m → IsIn (Inner n i x) (nodes_in x (Some m))
IsNetBit s (Outer n i) = Unit {0}
IsNetBit s (Fixed b) = Unit {0}

-- the controls of strategies are declared
pub record HasControls (p : Project) : Type 0 where
  pub enables : (t : Strategy) (k : Node) → IsIn t p.intent.strategies → t.control ≡ Some k → IsNetBit p.structure k
  pub saves : (t : Strategy) (k : Node × Action) → IsIn t p.intent.strategies → t.save ≡ Some k → IsNetBit p.structure k.0
  pub restores : (t : Strategy) (k : Node × Action) → IsIn t p.intent.strategies → t.restore ≡ Some k → IsNetBit p.structure k.0

-- ---- pins

-- the net bit of the first of some bits, none where a pin is open
abbrev pub node_of_bits : Path → List BitView → Option Node
node_of_bits x [] = None
node_of_bits x (b ∷ bits) = Some (node_of x b)

-- connections by name; none are written by position
abbrev pub connections_of : ConnectionsView → List ConnectionView
connections_of (ByName cs) = cs
connections_of (ByPosition values) = []

-- the names of the pins of a cell, power and ground pins among them
abbrev pub cell_names : CellView → List Name
cell_names c = map (λ (q : PinView). q.name) c.pins ++ map (λ (g : PgPinView). g.name) c.pgs

-- a cell instance of the source and the cell that stands for it: its pins have names of their own, and no connection of the source names a retention pin of a cell that takes its place, or a power or ground pin
pub record HasFreePins (p : Project) (l : Lists) (x : Path) (y : InstanceView) (c : CellView) : Type 0 where
  pub cell : cell_for p (plan p l) (record { path = x; instance = y.name }) ≡ Some c
  pub apart : are_apart (cell_names c) ≡ true
  pub retention :
      (k : Kept) (d : ConnectionView) (q : PinView)
      → kept_at (plan p l) (record { path = x; instance = y.name }) ≡ Some k
      → IsIn d (by_names [] y.connections)
      → IsIn q (retention_pins c)
      → bytes_eq d.port q.name ≡ false
  pub supplies : (d : ConnectionView) (g : PgPinView) → IsIn d (by_names [] y.connections) → IsIn g c.pgs → bytes_eq d.port g.name ≡ false
