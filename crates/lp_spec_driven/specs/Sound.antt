-- What the laws of this crate ask of a project and of what is added to it (own rule).
use Rattle.std.specs.Prelude.{◌≡◌, ◌⊎◌, ◌<◌, ◌≤◌, ◌+◌, ◌==◌, ◌^◌, ℕ, Bool, true, false, [], ◌∷◌, length, map, filter, Option, Some, is_some, slice_get, bytes_eq}
use Rattle.lp_model.specs.NetlistView.{BitView, PortView, InstanceView, ModuleView}
use Rattle.lp_model.specs.LibraryView.{PgPinView, PinView, CellView}
use Rattle.lp_spec_design.specs.Keys.{Name, Path, Node, Inner, Outer, Way, From}
use Rattle.lp_spec_design.specs.Netlists.{Structure, first, cell_named, module_at, is_input}
use Rattle.lp_spec_design.specs.Graph.{is_output_pin, sources_of, source_of}
use Rattle.lp_spec_design.specs.Nodes.{joined_bits}
use Rattle.lp_spec_design.specs.Intents.{FromSwitch}
use Rattle.lp_spec_design.specs.Domains.{BoundaryBit, way_of}
use Rattle.lp_spec_design.specs.Winners.{IsIn}
use Rattle.lp_spec_fit.specs.Fits.{one_output, retention_pins}
use Rattle.lp_spec_realises.specs.Projects.{Project, network_of}
use Rattle.lp_spec_realises.specs.ProjectNetlists.{are_apart}
use Rattle.lp_spec_realises.specs.Implements.{parent_of}
use Rattle.lp_spec_realises.specs.Realises.{cell_of}
use Rattle.lp_spec_written.specs.Places.{instances, Standing, Kept, Switching, switches_in}
use Rattle.lp_spec_written.specs.Nets.{Stretch, stretches, stood, linked}
use Rattle.lp_spec_written.specs.Supplies.{switch_pins}
use Rattle.lp_spec_written.specs.Routes.{Part, same_part}
use Rattle.lp_spec_written.specs.Written.{Additions}
use Rattle.lp_spec_hub.specs.Entries.{HasWaysApart, IsInFlow, IsRouted, StandsAside}
use Rattle.lp_spec_wired.specs.Names.{node_at}
use Rattle.lp_spec_wired.specs.Laws.{HasChains, HasOneBit, HasSupplyNames, IsFreeBit}
use Rattle.lp_spec_wired.specs.Reserved.{LeavesNames}
use Rattle.lp_spec_written_at.specs.Sources.{IsFree, HasListedCells}
use Rattle.lp_spec_driven.specs.Wires.{IsFreeNode}

-- ---- names

-- chains are those of the plan, its operators stand in instances, each way is of one bit, supplies have names of their own, and numbers fit 64 bits
pub record HasNames (p : Project) (a : Additions) : Type 0 where
  pub chains : HasChains p a
  pub stand : (o : Standing) → IsIn o a.plan.operators → IsIn o.path (instances p)
  pub bits : HasOneBit p
  pub ways : HasWaysApart p
  pub nets : (s : Stretch) → IsIn s (stretches p a.plan) → s.start + s.count ≤ 2 ^ 64
  pub supplies : HasSupplyNames p a
  pub controls : length a.controls < 2 ^ 64

-- ---- the source

-- no net bit has two sources (F16 holds nowhere), no name of an addition stands in it (F19 holds nowhere), and ports have names of their own (F12 holds nowhere)
pub record IsPlainSource (s : Structure) : Type 0 where
  pub single : (k : Node) → length (sources_of s k) ≤ 1
  pub free : (x : Path) (m : ModuleView) (b : BitView) → module_at s x ≡ Some m → IsIn b (joined_bits m) → IsFreeBit b
  pub leaves : LeavesNames s
  pub ports :
      (x : Path) (m : ModuleView) (q : PortView)
      → module_at s x ≡ Some m
      → IsIn q m.ports
      → filter (λ (r : PortView). bytes_eq r.name q.name) m.ports ≡ q ∷ []

-- ---- ways

-- the node to which the way of a boundary bit leads: an input's own net bit, the outer side of the top's output, or the net bit that the parent has at an output
abbrev pub behind_by : Structure → BoundaryBit → Path → Bool → Node
behind_by s b x true = Inner b.port.name b.index b.path
behind_by s b [] false = Outer b.port.name b.index
behind_by s b (i ∷ x) false = node_at x (stood s b)

abbrev pub node_behind : Structure → BoundaryBit → Node
node_behind s b = behind_by s b b.path (is_input b.port)

-- the node from which it comes: the outer side of the top's input, the net bit that the parent has at an input, or an output's own net bit
abbrev pub ahead_by : Structure → BoundaryBit → Path → Bool → Node
ahead_by s b [] true = Outer b.port.name b.index
ahead_by s b (i ∷ x) true = node_at x (stood s b)
ahead_by s b x false = Inner b.port.name b.index b.path

abbrev pub node_ahead : Structure → BoundaryBit → Node
node_ahead s b = ahead_by s b b.path (is_input b.port)

-- operators stand in the instance of their bit or in its parent, those before the edge come first, and their ways lead from bit to bit
pub record IsOnWays (p : Project) (a : Additions) : Type 0 where
  pub flow : IsInFlow a.plan.operators
  pub near : (o : Standing) → IsIn o a.plan.operators → (o.path ≡ o.asked.bit.path) ⊎ (o.path ≡ parent_of o.asked.bit.path)
  pub leads :
      (o : Standing)
      → IsIn o a.plan.operators
      → source_of p.structure (node_behind p.structure o.asked.bit) ≡ Some (From (way_of o.asked.bit) (node_ahead p.structure o.asked.bit))
  pub ends : (o : Standing) → IsIn o a.plan.operators → IsFreeNode (node_behind p.structure o.asked.bit)

-- the ways of operators come from there
abbrev pub ComesFrom : Project → Additions → (Way → Node) → Type 0
ComesFrom p a from = (o : Standing) → IsIn o a.plan.operators → from (way_of o.asked.bit) ≡ node_ahead p.structure o.asked.bit

-- ---- controls

-- each part of a control's route is of a net bit of an instance and has what it comes from, and none stands twice
pub record HasRoutes (a : Additions) : Type 0 where
  pub routed : IsRouted a.controls
  pub aside : StandsAside a.controls
  pub once : (t : Part) → length (filter (same_part t) a.controls) ≤ 1
  pub inner : (t : Part) → IsIn t a.controls → (n : Name) × (i : Option ℕ) × (x : Path) × (t.control ≡ Inner n i x)

-- ---- cells

-- no two signal pins of a cell have one name, and no power or ground pin has that of a signal pin
pub record HasPinsApart (c : CellView) : Type 0 where
  pub pins : (q r : PinView) → IsIn q c.pins → IsIn r c.pins → bytes_eq q.name r.name ≡ true → q ≡ r
  pub pgs : (q : PinView) (g : PgPinView) → IsIn q c.pins → IsIn g c.pgs → bytes_eq g.name q.name ≡ false

-- no power or ground pin is switched
abbrev pub SwitchesNothing : CellView → Type 0
SwitchesNothing c = (g : PgPinView) → IsIn g c.pgs → is_some g.switched ≡ false

-- an output of the one cell is an output of the other by its name
abbrev pub HasOutputsOf : CellView → CellView → Type 0
HasOutputsOf c d = (q : PinView) → IsIn q c.pins → is_output_pin q ≡ true → (r : PinView) × IsIn r d.pins × (is_output_pin r ≡ true) × (r.name ≡ q.name)

-- a retention cell that takes the place of a register: it has the outputs of the register and no others, and its retention pins are inputs
pub record TakesPlace (c d : CellView) : Type 0 where
  pub outputs : HasOutputsOf d c
  pub all : HasOutputsOf c d
  pub retention : (r : PinView) → IsIn r (retention_pins d) → is_output_pin r ≡ false
  pub switches : SwitchesNothing d

-- cells of the source switch nothing, registers with retention have cells that take their places, and operators have cells of one output
pub record HasFitCells (p : Project) (a : Additions) : Type 0 where
  pub free : IsFree p
  pub listed : HasListedCells p a
  pub operator_cells : (o : Standing) → IsIn o a.plan.operators → IsIn o.cell p.structure.cells
  pub register_cells : (k : Kept) → IsIn k a.plan.registers → IsIn k.cell p.structure.cells
  pub switch_cells : (s : Switching) → IsIn s a.plan.switches → IsIn s.cell p.structure.cells
  pub few : (x : Path) → length (linked p a.chains x) ≤ 1000000000
  pub names : are_apart (map (λ (c : CellView). c.name) p.structure.cells) ≡ true
  pub operator_pins : (o : Standing) → IsIn o a.plan.operators → HasPinsApart o.cell
  pub register_pins : (k : Kept) → IsIn k a.plan.registers → HasPinsApart k.cell
  pub switch_cell_pins : (s : Switching) → IsIn s a.plan.switches → HasPinsApart s.cell
  pub source_pins :
      (x : Path) (m : ModuleView) (y : InstanceView) (c : CellView)
      → module_at p.structure x ≡ Some m
      → IsIn y m.instances
      → cell_named p.structure y.target ≡ Some c
      → HasPinsApart c
  pub sources :
      (x : Path) (m : ModuleView) (y : InstanceView) (c : CellView)
      → module_at p.structure x ≡ Some m
      → IsIn y m.instances
      → cell_named p.structure y.target ≡ Some c
      → SwitchesNothing c
  pub registers : (k : Kept) (c : CellView) → IsIn k a.plan.registers → cell_of p.structure k.place ≡ Some c → TakesPlace c k.cell
  pub outputs : (o : Standing) → IsIn o a.plan.operators → (q : PinView) × (one_output o.cell ≡ Some q)
  pub operators : (o : Standing) → IsIn o a.plan.operators → SwitchesNothing o.cell

-- ---- switches

-- a switch's cell has one switched pin, which is joined to the switch's own origin and to no other, and which has the name of no signal pin
pub record SwitchesOut (p : Project) (a : Additions) (s : Switching) : Type 0 where
  pub pin : PgPinView
  pub found : first (λ (g : PgPinView). is_some g.switched) s.cell.pgs ≡ Some pin
  pub one : (g : PgPinView) → IsIn g s.cell.pgs → is_some g.switched ≡ true → g ≡ pin
  pub names : (q : PinView) → IsIn q s.cell.pins → bytes_eq q.name pin.name ≡ false
  pub joined : (q : Name × ℕ) → IsIn q (switch_pins p s) → bytes_eq q.0 pin.name ≡ true → q.1 ≡ s.asked.origin
  pub has : (q : Name × ℕ) × IsIn q (switch_pins p s) × (q.0 ≡ pin.name)
  pub origin : (input : ℕ) × (control : Node) × (high : Bool) × (slice_get (network_of p).origins s.asked.origin ≡ Some (FromSwitch input control high))

-- no origin has two switches, and each switch has such a cell
pub record HasSwitches (p : Project) (a : Additions) : Type 0 where
  pub once : (o : ℕ) → length (filter (λ (s : Switching). s.asked.origin == o) a.plan.switches) ≤ 1
  pub few : (x : Path) → length (switches_in a.plan x) ≤ 1000000000
  pub out : (s : Switching) → IsIn s a.plan.switches → SwitchesOut p a s

-- ---- all of that

pub record IsProper (p : Project) (a : Additions) (from : Way → Node) : Type 0 where
  pub names : HasNames p a
  pub plain : IsPlainSource p.structure
  pub fit : HasFitCells p a
  pub on_ways : IsOnWays p a
  pub comes : ComesFrom p a from
  pub routes : HasRoutes a
  pub switches : HasSwitches p a
