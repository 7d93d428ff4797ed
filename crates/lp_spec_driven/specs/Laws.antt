-- The statements of the laws of this crate (own rule).
use Rattle.std.specs.Prelude.{◌≡◌, ◌<◌, ℕ, suc, [], ◌∷◌, ◌++◌, true, false, Option, Some, None, slice_get, map, flat_map, Bool, ◌⊎◌}
use Rattle.std.specs.List.{list_any}
use Rattle.lp_model.specs.NetlistView.{BitView, PortView, InstanceView, AssignView, ModuleView}
use Rattle.lp_model.specs.LibraryView.{PinView, CellView}
use Rattle.lp_spec_design.specs.Keys.{Name, Path, Node, Inner, Outer, Way, PortBit, Source, same_index}
use Rattle.lp_spec_design.specs.Netlists.{Structure, module_named, cell_named, module_at, node_of, indices, connected, is_input}
use Rattle.lp_spec_design.specs.Graph.{pairs, is_output_pin, some_of, numbered, joined_inside, from_one, from_assign, source_of}
use Rattle.lp_spec_design.specs.Winners.{IsIn}
use Rattle.lp_spec_faults.specs.Modules.{is_own}
use Rattle.lp_spec_realises.specs.Projects.{Project, network_of}
use Rattle.lp_spec_realises.specs.Operators.{Placement}
use Rattle.lp_spec_written.specs.Places.{instances, Standing, Switching, switches_in}
use Rattle.lp_spec_written.specs.Nets.{Linked, linked, stretches_in, renamed_assign, constant_assign, leads_constant}
use Rattle.lp_spec_written.specs.Routes.{control_ports, control_assigns, Kind, PortOut, Between, has_part, is_led_out}
use Rattle.lp_spec_written.specs.Written.{Additions, added_supply_ports, written_instance, written_operator, written_switch, named_operators}
use Rattle.lp_spec_hub.specs.Spots.{Spot, OfNode, Behind, Before, Lead, Carried, on_way, is_behind, Routed}
use Rattle.lp_spec_wired.specs.Contents.{IsInstance, IsWrittenAt}
use Rattle.lp_spec_wired.specs.Names.{name_by, placement_by}
use Rattle.lp_spec_wired.specs.Laws.{done_of, StandsFor}
use Rattle.lp_spec_hub.specs.Drives.{drive, part_at}
use Rattle.lp_spec_design.specs.Intents.{FromSwitch}
use Rattle.lp_spec_written.specs.Supplies.{switch_of, goes_out}
use Rattle.lp_spec_driven.specs.Sound.{HasNames, HasRoutes, IsPlainSource, HasFitCells, HasSwitches, IsOnWays, ComesFrom, node_behind, IsProper}
use Rattle.lp_spec_driven.specs.Wires.{IsThere, IsOfWire}

-- two wires that are there and have one net bit are one
abbrev pub WiresAreApart : Type 0
WiresAreApart =
    (p : Project) (a : Additions)
    → HasNames p a
    → (x y : Spot)
    → IsThere p a x
    → IsThere p a y
    → name_by p a x ≡ name_by p a y
    → x ≡ y

-- what a cell instance of the source drives in the written netlist are the net bits that it drives in the source
abbrev pub SourceCellsGive : Type 0
SourceCellsGive =
    (p : Project) (a : Additions) (w : Structure) (at : Placement) (from : Way → Node)
    → IsWrittenAt p a w
    → IsPlainSource p.structure
    → HasFitCells p a
    → (x : Path) (m : ModuleView)
    → module_at p.structure x ≡ Some m
    → (y here : InstanceView) (c : CellView)
    → IsIn y m.instances
    → cell_named p.structure y.target ≡ Some c
    → IsInstance w x (written_instance p a x y) here
    → (n : Name) (i : Option ℕ) (z : Source)
    → IsIn z (from_one w x n i here)
    → IsOfWire p a w at from (Inner n i x) z

-- what an operator drives there is the wire that it drives in the hub
abbrev pub OperatorsGive : Type 0
OperatorsGive =
    (p : Project) (a : Additions) (w : Structure) (from : Way → Node)
    → IsWrittenAt p a w
    → HasNames p a
    → HasFitCells p a
    → IsOnWays p a
    → (x : Path) (m : ModuleView)
    → module_at p.structure x ≡ Some m
    → IsIn x (instances p)
    → (y : Name × Linked)
    → IsIn y (named_operators (linked p a.chains x))
    → (here : InstanceView)
    → IsInstance w x (written_operator p a x y) here
    → (n : Name) (i : Option ℕ) (z : Source)
    → IsIn z (from_one w x n i here)
    → IsOfWire p a w (placement_by p a) from (Inner n i x) z

-- what an output port of a module instance drives in the parent: the net bit that it drives in the source, or what the first operator in the parent reads
abbrev pub OutputsGive : Type 0
OutputsGive =
    (p : Project) (a : Additions) (w : Structure) (at : Placement) (from : Way → Node)
    → IsWrittenAt p a w
    → HasNames p a
    → IsPlainSource p.structure
    → HasFitCells p a
    → IsOnWays p a
    → ComesFrom p a from
    → (x : Path) (m : ModuleView)
    → module_at p.structure x ≡ Some m
    → IsIn x (instances p)
    → (y here : InstanceView) (inner : ModuleView)
    → IsIn y m.instances
    → module_named p.structure y.target ≡ Some inner
    → IsInstance w x (written_instance p a x y) here
    → (r : PortView)
    → IsIn r inner.ports
    → is_input r ≡ false
    → (n : Name) (i : Option ℕ) (z : Source) (there : ModuleView)
    → IsIn z (joined_inside x n i here there r)
    → IsOfWire p a w at from (Inner n i x) z

-- what an assign of the source drives there is the net bit that it drives in the source
abbrev pub AssignsGive : Type 0
AssignsGive =
    (p : Project) (a : Additions) (w : Structure) (at : Placement) (from : Way → Node)
    → IsPlainSource p.structure
    → (x : Path) (m : ModuleView)
    → module_at p.structure x ≡ Some m
    → (n : Name) (i : Option ℕ) (z : Source) (u : ℕ × AssignView)
    → IsIn u (numbered 0 (map (renamed_assign a.chains x) m.assigns))
    → IsIn z (from_assign x n i u)
    → IsOfWire p a w at from (Inner n i x) z

-- what an added output of a module instance drives in the parent: a supply or a control that goes up
abbrev pub AddedOutputsGive : Type 0
AddedOutputsGive =
    (p : Project) (a : Additions) (w : Structure) (at : Placement) (from : Way → Node)
    → IsWrittenAt p a w
    → HasNames p a
    → HasRoutes a
    → IsPlainSource p.structure
    → HasFitCells p a
    → (x : Path) (m : ModuleView)
    → module_at p.structure x ≡ Some m
    → (y here : InstanceView) (inner : ModuleView)
    → IsIn y m.instances
    → module_named p.structure y.target ≡ Some inner
    → IsInstance w x (written_instance p a x y) here
    → (n : Name) (i : Option ℕ) (z : Source) (there : ModuleView) (r : PortView)
    → IsIn r (added_supply_ports p a (y.name ∷ x) ++ control_ports a.controls (y.name ∷ x))
    → is_input r ≡ false
    → IsIn z (joined_inside x n i here there r)
    → IsOfWire p a w at from (Inner n i x) z

-- an added assign of a constant drives the constant's own net
abbrev pub ConstantsGive : Type 0
ConstantsGive =
    (p : Project) (a : Additions) (w : Structure) (at : Placement) (from : Way → Node)
    → HasNames p a
    → HasFitCells p a
    → IsOnWays p a
    → ComesFrom p a from
    → (x : Path)
    → IsIn x (instances p)
    → (n : Name) (i : Option ℕ) (z : Source) (u : ℕ × AssignView)
    → IsIn u.1 (some_of (constant_assign p) (stretches_in a.chains x))
    → IsIn z (from_assign x n i u)
    → IsOfWire p a w at from (Inner n i x) z

-- an added assign of a control drives an output port that leads it out
abbrev pub ControlAssignsGive : Type 0
ControlAssignsGive =
    (p : Project) (a : Additions) (w : Structure) (at : Placement) (from : Way → Node)
    → HasRoutes a
    → (x : Path) (n : Name) (i : Option ℕ) (z : Source) (u : ℕ × AssignView)
    → IsIn u.1 (control_assigns a.chains a.controls x)
    → IsIn z (from_assign x n i u)
    → IsOfWire p a w at from (Inner n i x) z

-- what a switch drives there is the net of its own origin
abbrev pub SwitchesGive : Type 0
SwitchesGive =
    (p : Project) (a : Additions) (w : Structure) (from : Way → Node)
    → IsWrittenAt p a w
    → HasFitCells p a
    → HasSwitches p a
    → (x : Path) (m : ModuleView)
    → module_at p.structure x ≡ Some m
    → (y : ℕ × Switching)
    → IsIn y (numbered 0 (switches_in a.plan x))
    → (here : InstanceView)
    → IsInstance w x (written_switch p a x y) here
    → (n : Name) (i : Option ℕ) (z : Source)
    → IsIn z (from_one w x n i here)
    → IsOfWire p a w (placement_by p a) from (Inner n i x) z

-- each source of a net bit from the instances and the assigns of its module is what drives a wire that has this net bit
abbrev pub SourcesGive : Type 0
SourcesGive =
    (p : Project) (a : Additions) (w : Structure) (from : Way → Node)
    → IsWrittenAt p a w
    → IsProper p a from
    → (x : Path) (m here : ModuleView)
    → module_at p.structure x ≡ Some m
    → IsIn x (instances p)
    → module_at w x ≡ Some here
    → (n : Name) (i : Option ℕ) (z : Source)
    → IsIn z (flat_map (from_one w x n i) here.instances ++ flat_map (from_assign x n i) (numbered 0 here.assigns))
    → IsOfWire p a w (placement_by p a) from (Inner n i x) z

-- a wire that is there and whose net bit has a source stands for what drives it: its net bit is driven as the hub says, and by nothing else
abbrev pub DrivenAsTold : Type 0
DrivenAsTold =
    (p : Project) (a : Additions) (w : Structure) (from : Way → Node)
    → IsWrittenAt p a w
    → IsProper p a from
    → (wire : Spot)
    → IsThere p a wire
    → (n : Name) (i : Option ℕ) (x : Path)
    → name_by p a wire ≡ Inner n i x
    → (m : ModuleView)
    → module_at p.structure x ≡ Some m
    → (y : Source)
    → source_of w (Inner n i x) ≡ Some y
    → StandsFor p a w (placement_by p a) from wire

-- and so does one that nothing drives
abbrev pub UndrivenStand : Type 0
UndrivenStand =
    (p : Project) (a : Additions) (w : Structure) (from : Way → Node)
    → IsWrittenAt p a w
    → IsProper p a from
    → (wire : Spot)
    → IsThere p a wire
    → (n : Name) (i : Option ℕ) (x : Path)
    → name_by p a wire ≡ Inner n i x
    → (m : ModuleView)
    → module_at p.structure x ≡ Some m
    → drive p (done_of a) from wire ≡ None
    → StandsFor p a w (placement_by p a) from wire

-- a net bit that an output of a cell instance of the source drives: its net bit in the written netlist is driven as the hub says
abbrev pub CellBitsStand : Type 0
CellBitsStand =
    (p : Project) (a : Additions) (w : Structure) (from : Way → Node)
    → IsWrittenAt p a w
    → IsProper p a from
    → (x : Path) (m : ModuleView)
    → module_at p.structure x ≡ Some m
    → (y : InstanceView) (c : CellView)
    → IsIn y m.instances
    → cell_named p.structure y.target ≡ Some c
    → (r : PinView)
    → IsIn r c.pins
    → is_output_pin r ≡ true
    → (b : BitView)
    → IsIn b (connected [] r.name y.connections)
    → (n : Name) (i : Option ℕ)
    → is_own n ≡ false
    → node_of x b ≡ Inner n i x
    → (net : Name) (j : Option ℕ)
    → name_by p a (OfNode (Inner n i x)) ≡ Inner net j x
    → StandsFor p a w (placement_by p a) from (OfNode (Inner n i x))

-- and so is one to which an assign of the source leads
abbrev pub AssignBitsStand : Type 0
AssignBitsStand =
    (p : Project) (a : Additions) (w : Structure) (from : Way → Node)
    → IsWrittenAt p a w
    → IsProper p a from
    → (x : Path) (m : ModuleView)
    → module_at p.structure x ≡ Some m
    → (k l : ℕ) (q : AssignView) (two : BitView × BitView)
    → IsIn (k, q) (numbered 0 m.assigns)
    → IsIn (l, two) (numbered 0 (pairs q.left q.right))
    → (n : Name) (i : Option ℕ)
    → is_own n ≡ false
    → node_of x two.0 ≡ Inner n i x
    → (net : Name) (j : Option ℕ)
    → name_by p a (OfNode (Inner n i x)) ≡ Inner net j x
    → StandsFor p a w (placement_by p a) from (OfNode (Inner n i x))

-- what an operator makes is driven there by its output: the wire of its own before the edge, what the next one reads behind it, and behind the last one the net bit to which the way leads
pub record OperatorStands (p : Project) (a : Additions) (w : Structure) (from : Way → Node) (way : Way) (k : ℕ) (o : Standing) : Type 0 where
  pub before : is_behind o ≡ false → StandsFor p a w (placement_by p a) from (Behind way k)
  pub behind :
      (next : Standing)
      → is_behind o ≡ true
      → slice_get (on_way a.plan.operators way) (suc k) ≡ Some next
      → StandsFor p a w (placement_by p a) from (Before way (suc k))
  pub last :
      is_behind o ≡ true
      → slice_get (on_way a.plan.operators way) (suc k) ≡ None
      → StandsFor p a w (placement_by p a) from (OfNode (node_behind p.structure o.asked.bit))

abbrev pub OperatorsStand : Type 0
OperatorsStand =
    (p : Project) (a : Additions) (w : Structure) (from : Way → Node)
    → IsWrittenAt p a w
    → IsProper p a from
    → (way : Way) (k : ℕ) (o : Standing)
    → slice_get (on_way a.plan.operators way) k ≡ Some o
    → (m : ModuleView)
    → module_at p.structure o.path ≡ Some m
    → OperatorStands p a w from way k o

-- a bit of an output port of a module instance, with what the parent's connection has there
pub record HasOutput (p : Project) (x : Path) (m : ModuleView) (y : InstanceView) (r : PortView) (j : Option ℕ) (b : BitView) : Type 0 where
  pub at : module_at p.structure x ≡ Some m
  pub listed : IsIn y m.instances
  pub inner : ModuleView
  pub target : module_named p.structure y.target ≡ Some inner
  pub port : IsIn r inner.ports
  pub output : is_input r ≡ false
  pub pair : IsIn (j, b) (pairs (indices r.range) (connected inner.ports r.name y.connections))

-- where no operator of its way stands in the parent, the net bit that it drives in the source is driven from it there
abbrev pub OutputBitsStand : Type 0
OutputBitsStand =
    (p : Project) (a : Additions) (w : Structure) (from : Way → Node)
    → IsWrittenAt p a w
    → IsProper p a from
    → (x : Path) (m : ModuleView) (y : InstanceView) (r : PortView) (j : Option ℕ) (b : BitView)
    → HasOutput p x m y r j b
    → ((o : Standing) → IsIn o (on_way a.plan.operators (PortBit (y.name ∷ x) r.name j)) → is_behind o ≡ false)
    → (n : Name) (i : Option ℕ)
    → is_own n ≡ false
    → node_of x b ≡ Inner n i x
    → (net : Name) (l : Option ℕ)
    → name_by p a (OfNode (Inner n i x)) ≡ Inner net l x
    → StandsFor p a w (placement_by p a) from (OfNode (Inner n i x))

-- and where some do, what the first one of them reads is
abbrev pub OutputReadsStand : Type 0
OutputReadsStand =
    (p : Project) (a : Additions) (w : Structure) (from : Way → Node)
    → IsWrittenAt p a w
    → IsProper p a from
    → (x : Path) (m : ModuleView) (y : InstanceView) (r : PortView) (j : Option ℕ) (b : BitView)
    → HasOutput p x m y r j b
    → (k : ℕ) (o : Standing)
    → slice_get (on_way a.plan.operators (PortBit (y.name ∷ x) r.name j)) k ≡ Some o
    → is_behind o ≡ true
    → ((l : ℕ) (q : Standing) → l < k → slice_get (on_way a.plan.operators (PortBit (y.name ∷ x) r.name j)) l ≡ Some q → is_behind q ≡ false)
    → StandsFor p a w (placement_by p a) from (Before (PortBit (y.name ∷ x) r.name j) k)

-- the net of a switch's origin is driven by the switch in the instance where it stands
abbrev pub SwitchOutputsStand : Type 0
SwitchOutputsStand =
    (p : Project) (a : Additions) (w : Structure) (from : Way → Node)
    → IsWrittenAt p a w
    → IsProper p a from
    → (s : Switching)
    → IsIn s a.plan.switches
    → (m : ModuleView)
    → module_at p.structure s.path ≡ Some m
    → StandsFor p a w (placement_by p a) from (Carried s.asked.origin s.path)

-- the own net of a constant is driven from the constant
abbrev pub ConstantNetsStand : Type 0
ConstantNetsStand =
    (p : Project) (a : Additions) (w : Structure) (from : Way → Node)
    → IsWrittenAt p a w
    → IsProper p a from
    → (way : Way) (o : Standing)
    → slice_get (on_way a.plan.operators way) 0 ≡ Some o
    → leads_constant p.structure o.path o.asked.bit ≡ true
    → (m : ModuleView)
    → module_at p.structure o.path ≡ Some m
    → StandsFor p a w (placement_by p a) from (Lead way)

-- where a switch's output goes up out of a module instance, the net of its origin in the parent is driven from there
abbrev pub SuppliesGoUp : Type 0
SuppliesGoUp =
    (p : Project) (a : Additions) (w : Structure) (from : Way → Node)
    → IsWrittenAt p a w
    → IsProper p a from
    → (x : Path) (m : ModuleView)
    → module_at p.structure x ≡ Some m
    → (y : InstanceView) (inner : ModuleView)
    → IsIn y m.instances
    → module_named p.structure y.target ≡ Some inner
    → (o input : ℕ) (control : Node) (high : Bool)
    → slice_get (network_of p).origins o ≡ Some (FromSwitch input control high)
    → (s : Switching)
    → switch_of a.plan o ≡ Some s
    → goes_out a.uses s (y.name ∷ x) ≡ true
    → StandsFor p a w (placement_by p a) from (Carried o x)

-- where a control goes up out of a module instance by an output port, its wire in the parent, or the parent's own output port where there is no wire, is driven from there
abbrev pub ControlsGoUp : Type 0
ControlsGoUp =
    (p : Project) (a : Additions) (w : Structure) (from : Way → Node)
    → IsWrittenAt p a w
    → IsProper p a from
    → (x : Path) (m : ModuleView)
    → module_at p.structure x ≡ Some m
    → (y : InstanceView) (inner : ModuleView)
    → IsIn y m.instances
    → module_named p.structure y.target ≡ Some inner
    → (k : Node)
    → has_part a.controls (part_at k (y.name ∷ x) PortOut) ≡ true
    → (kind : Kind)
    → has_part a.controls (part_at k x kind) ≡ true
    → (kind ≡ Between) ⊎ ((kind ≡ PortOut) × (has_part a.controls (part_at k x Between) ≡ false))
    → StandsFor p a w (placement_by p a) from (Routed (part_at k x kind))

-- the output port by which a control is led out of an instance in which it has its own net bit or a wire is driven from that
abbrev pub ControlsLeadOut : Type 0
ControlsLeadOut =
    (p : Project) (a : Additions) (w : Structure) (from : Way → Node)
    → IsWrittenAt p a w
    → IsProper p a from
    → (x : Path) (m : ModuleView)
    → module_at p.structure x ≡ Some m
    → (k : Node)
    → has_part a.controls (part_at k x PortOut) ≡ true
    → is_led_out a.controls x (part_at k x PortOut) ≡ true
    → StandsFor p a w (placement_by p a) from (Routed (part_at k x PortOut))

-- the outer side of a bit of a port of the top: the environment drives that of an input, and that of an output is driven from what comes to the port's edge
abbrev pub OuterSidesStand : Type 0
OuterSidesStand =
    (p : Project) (a : Additions) (w : Structure) (from : Way → Node)
    → IsWrittenAt p a w
    → IsProper p a from
    → (m : ModuleView)
    → module_at p.structure [] ≡ Some m
    → (q : PortView)
    → IsIn q m.ports
    → (i : Option ℕ)
    → list_any (same_index i) (indices q.range) ≡ true
    → StandsFor p a w (placement_by p a) from (OfNode (Outer q.name i))
