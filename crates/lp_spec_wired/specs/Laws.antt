-- The statements of the laws of this crate (own rule).
use Rattle.std.specs.Prelude.{◌≡◌, ◌<◌, ◌≤◌, ◌+◌, ◌-◌, ◌^◌, if◌then◌else◌, ℕ, Bool, true, false, List, [], ◌∷◌, ◌++◌, filter, map, length, Option, Some, None, slice_get, bytes_eq, flat_map}
use Rattle.std.specs.List.{list_any}
use Rattle.lp_model.specs.NetlistView.{BitView, NetBit, SelectBit, ConstBit, PortView, AssignView, ModuleView}
use Rattle.lp_spec_design.specs.Keys.{Name, Path, Node, Inner, Way, Outer, PortBit, Source, From, same_index}
use Rattle.lp_spec_design.specs.Netlists.{Structure, module_at, indices, is_input}
use Rattle.lp_spec_design.specs.Graph.{numbered, some_of, from_port, ports_in, from_assign}
use Rattle.lp_spec_design.specs.Domains.{BoundaryBit, boundary, way_of}
use Rattle.lp_spec_design.specs.Winners.{IsIn}
use Rattle.lp_spec_design.specs.Intents.{FromPort, FromSwitch}
use Rattle.lp_spec_faults.specs.Modules.{is_own}
use Rattle.lp_spec_realises.specs.Projects.{Project, network_of, port_of_origin}
use Rattle.lp_spec_realises.specs.Operators.{Placement}
use Rattle.lp_spec_written.specs.Places.{instances, Standing, Switching, Plan}
use Rattle.lp_spec_written.specs.Nets.{Stretch, stretches, stretches_in, leads_constant, chain_net, constant_assign, is_inside, renamed_assign}
use Rattle.lp_spec_written.specs.Supplies.{switch_of, goes_in, origin_bits}
use Rattle.lp_spec_written.specs.Routes.{Part, PortOut, PortIn, has_part, control_assigns}
use Rattle.lp_spec_written.specs.Written.{Additions}
use Rattle.lp_spec_hub.specs.Spots.{Spot, OfNode, Before, Lead, Carried, Routed, Done, on_way, own_spot}
use Rattle.lp_spec_hub.specs.Drives.{drive, part_at}
use Rattle.lp_spec_hub.specs.Entries.{carries}
use Rattle.lp_spec_hub.specs.Begins.{IsWired}
use Rattle.lp_spec_wired.specs.Names.{name_by}
use Rattle.lp_spec_wired.specs.Contents.{IsWrittenAt}
use Rattle.lp_spec_wired.specs.Reserved.{LeavesNames}

-- what is done where all of that is added
abbrev pub done_of : Additions → Done
done_of a = record { plan = a.plan; parts = a.controls; uses = Some a.uses }

-- the net bit of a wire has as source what drives the wire
abbrev pub StandsFor : Project → Additions → Structure → Placement → (Way → Node) → Spot → Type 0
StandsFor p a w at from x = IsWired p w at (name_by p a) x (drive p (done_of a) from x)

-- a supply port goes from the top down to each instance that has it
abbrev pub PortsComeDown : Type 0
PortsComeDown =
    (p : Project) (a : Additions) (w : Structure) (at : Placement) (from : Way → Node)
    → IsWrittenAt p a w
    → LeavesNames p.structure
    → (o : ℕ)
    → slice_get (network_of p).origins o ≡ Some FromPort
    → (x : Path) (m : ModuleView)
    → module_at p.structure x ≡ Some m
    → StandsFor p a w at from (Carried o x)

-- the output of a switch goes down to each instance that has it as an input port
abbrev pub SwitchesComeDown : Type 0
SwitchesComeDown =
    (p : Project) (a : Additions) (w : Structure) (at : Placement) (from : Way → Node)
    → IsWrittenAt p a w
    → LeavesNames p.structure
    → (o input : ℕ) (control : Node) (high : Bool)
    → slice_get (network_of p).origins o ≡ Some (FromSwitch input control high)
    → (s : Switching)
    → switch_of a.plan o ≡ Some s
    → (i : Name) (x : Path) (m : ModuleView)
    → module_at p.structure (i ∷ x) ≡ Some m
    → goes_in a.uses s (i ∷ x) ≡ true
    → StandsFor p a w at from (Carried o (i ∷ x))

-- an input port that is the only port of its name
pub record IsOnlyInput (m : ModuleView) (q : PortView) : Type 0 where
  pub listed : IsIn q m.ports
  pub input : is_input q ≡ true
  pub alone : filter (λ (r : PortView). bytes_eq r.name q.name) m.ports ≡ q ∷ []

-- chains are those of the plan, whose operators are of boundary bits
pub record HasChains (p : Project) (a : Additions) : Type 0 where
  pub chains : a.chains ≡ stretches p a.plan
  pub bits : (o : Standing) → IsIn o a.plan.operators → IsIn o.asked.bit (boundary p.structure p.intent)

-- all operators of a way stand in one instance
abbrev pub StandIn : Plan → Way → Path → Type 0
StandIn plan way x = (o : Standing) → IsIn o (on_way plan.operators way) → o.path ≡ x

-- inside an input port below the top, whose operators, if there are any, stand in the parent, a net bit of the source that the parent drives keeps its name, and is driven as the hub says: by what stands for the parent's bit, or by the last operator
abbrev pub InputsComeDown : Type 0
InputsComeDown =
    (p : Project) (a : Additions) (w : Structure) (at : Placement) (from : Way → Node)
    → IsWrittenAt p a w
    → LeavesNames p.structure
    → HasChains p a
    → (i : Name) (x : Path) (m : ModuleView)
    → module_at p.structure (i ∷ x) ≡ Some m
    → IsIn x (instances p)
    → (q : PortView) (b : Option ℕ)
    → IsOnlyInput m q
    → StandIn a.plan (PortBit (i ∷ x) q.name b) x
    → (j : Node) (more : List Source)
    → from_port p.structure (i ∷ x) q.name b q ≡ From (PortBit (i ∷ x) q.name b) j ∷ more
    → StandsFor p a w at from (OfNode (Inner q.name b (i ∷ x)))

-- some operators of a way stand in one instance, and the others behind them, of which this one is the first, in another
pub record GoesIn (plan : Plan) (way : Way) (x y : Path) (outer : List Standing) (o : Standing) (inner : List Standing) : Type 0 where
  pub all : on_way plan.operators way ≡ outer ++ (o ∷ inner)
  pub outside : (r : Standing) → IsIn r outer → r.path ≡ x
  pub inside : (r : Standing) → IsIn r (o ∷ inner) → r.path ≡ y

-- what the first operator inside an input port reads is the port's own net bit, driven as the hub says: by what stands for the parent's bit, or by the last operator in the parent
abbrev pub InnerReadsComeDown : Type 0
InnerReadsComeDown =
    (p : Project) (a : Additions) (w : Structure) (at : Placement) (from : Way → Node)
    → IsWrittenAt p a w
    → LeavesNames p.structure
    → HasChains p a
    → (i : Name) (x : Path) (m : ModuleView)
    → module_at p.structure (i ∷ x) ≡ Some m
    → IsIn x (instances p)
    → IsIn (i ∷ x) (instances p)
    → (q : PortView) (b : Option ℕ)
    → IsOnlyInput m q
    → (outer : List Standing) (o : Standing) (inner : List Standing)
    → GoesIn a.plan (PortBit (i ∷ x) q.name b) x (i ∷ x) outer o inner
    → (j : Node) (more : List Source)
    → from_port p.structure (i ∷ x) q.name b q ≡ From (PortBit (i ∷ x) q.name b) j ∷ more
    → from (PortBit (i ∷ x) q.name b) ≡ j
    → StandsFor p a w at from (Before (PortBit (i ∷ x) q.name b) (length outer))

-- an instance has a control by an output port or by an input port alone
abbrev pub IsOneWay : List Part → Node → Path → Type 0
IsOneWay made k x = has_part made (part_at k x PortOut) ≡ true → has_part made (part_at k x PortIn) ≡ false

-- a control that comes in at an input port comes from where it is in the parent: its own net bit, a wire, or a port
abbrev pub ControlsComeDown : Type 0
ControlsComeDown =
    (p : Project) (a : Additions) (w : Structure) (at : Placement) (from : Way → Node)
    → IsWrittenAt p a w
    → LeavesNames p.structure
    → length a.controls < 2 ^ 64
    → (i : Name) (x : Path) (m : ModuleView)
    → module_at p.structure (i ∷ x) ≡ Some m
    → (n : Name) (b : Option ℕ) (own : Path)
    → has_part a.controls (part_at (Inner n b own) (i ∷ x) PortIn) ≡ true
    → carries a.controls (Inner n b own) x ≡ true
    → IsOneWay a.controls (Inner n b own) x
    → StandsFor p a w at from (Routed (part_at (Inner n b own) (i ∷ x) PortIn))

-- a net of an instance is one of a stretch by its number
pub record HasNet (s : Stretch) (k : ℕ) : Type 0 where
  pub above : s.start ≤ k
  pub below : k < s.start + s.count

-- two nets of chains in one instance that have one name are the same net of the same stretch
abbrev pub ChainNetsAreApart : Type 0
ChainNetsAreApart =
    (p : Project) (plan : Plan) (s t : Stretch)
    → IsIn s (stretches p plan)
    → IsIn t (stretches p plan)
    → s.path ≡ t.path
    → (j k : ℕ)
    → HasNet s j
    → HasNet t k
    → j < 2 ^ 64
    → k < 2 ^ 64
    → chain_net j ≡ chain_net k
    → (s ≡ t) × (j ≡ k)

-- each way is of one boundary bit at most, and no boundary port has the name of an addition
pub record HasOneBit (p : Project) : Type 0 where
  pub one : (b c : BoundaryBit) → IsIn b (boundary p.structure p.intent) → IsIn c (boundary p.structure p.intent) → way_of b ≡ way_of c → b ≡ c
  pub free : (b : BoundaryBit) → IsIn b (boundary p.structure p.intent) → is_own b.port.name ≡ false

-- two operators that make wires of one name are the same operator of the same way
abbrev pub OperatorWiresAreApart : Type 0
OperatorWiresAreApart =
    (p : Project) (a : Additions)
    → HasChains p a
    → ((o : Standing) → IsIn o a.plan.operators → IsIn o.path (instances p))
    → HasOneBit p
    → ((s : Stretch) → IsIn s (stretches p a.plan) → s.start + s.count ≤ 2 ^ 64)
    → (w v : Way) (k l : ℕ) (o r : Standing)
    → slice_get (on_way a.plan.operators w) k ≡ Some o
    → slice_get (on_way a.plan.operators v) l ≡ Some r
    → name_by p a (own_spot w k o) ≡ name_by p a (own_spot v l r)
    → (w ≡ v) × (k ≡ l)

-- two net bits of the source that have one net bit in the written netlist are one
abbrev pub NodesAreApart : Type 0
NodesAreApart =
    (p : Project) (a : Additions)
    → HasChains p a
    → ((s : Stretch) → IsIn s (stretches p a.plan) → s.start + s.count ≤ 2 ^ 64)
    → (n m : Name) (i j : Option ℕ) (x y : Path)
    → is_own n ≡ false
    → is_own m ≡ false
    → name_by p a (OfNode (Inner n i x)) ≡ name_by p a (OfNode (Inner m j y))
    → Inner n i x ≡ Inner m j y

-- the net bit of a net bit of the source is not that of a wire that an operator makes
abbrev pub NodesAreNotMade : Type 0
NodesAreNotMade =
    (p : Project) (a : Additions)
    → HasChains p a
    → ((o : Standing) → IsIn o a.plan.operators → IsIn o.path (instances p))
    → HasOneBit p
    → ((s : Stretch) → IsIn s (stretches p a.plan) → s.start + s.count ≤ 2 ^ 64)
    → (n : Name) (i : Option ℕ) (x : Path)
    → is_own n ≡ false
    → (w : Way) (k : ℕ) (o : Standing)
    → slice_get (on_way a.plan.operators w) k ≡ Some o
    → name_by p a (OfNode (Inner n i x)) ≡ name_by p a (own_spot w k o)
    → ⊥

-- an input port of the top whose ways have no operators: a net bit of the source is driven from the port's outer side
abbrev pub TopInputsComeIn : Type 0
TopInputsComeIn =
    (p : Project) (a : Additions) (w : Structure) (at : Placement) (from : Way → Node)
    → IsWrittenAt p a w
    → HasChains p a
    → (m : ModuleView)
    → module_at p.structure [] ≡ Some m
    → (q : PortView) (b : Option ℕ)
    → IsOnlyInput m q
    → list_any (same_index b) (indices q.range) ≡ true
    → on_way a.plan.operators (PortBit [] q.name b) ≡ []
    → StandsFor p a w at from (OfNode (Inner q.name b []))

-- where the first operator of the top's input stands in the top, what it reads is driven from the port's outer side
abbrev pub TopReadsComeIn : Type 0
TopReadsComeIn =
    (p : Project) (a : Additions) (w : Structure) (at : Placement) (from : Way → Node)
    → IsWrittenAt p a w
    → HasChains p a
    → ((o : Standing) → IsIn o a.plan.operators → IsIn o.path (instances p))
    → HasOneBit p
    → (m : ModuleView)
    → module_at p.structure [] ≡ Some m
    → (q : PortView) (b : Option ℕ)
    → IsOnlyInput m q
    → list_any (same_index b) (indices q.range) ≡ true
    → (o : Standing) (more : List Standing)
    → on_way a.plan.operators (PortBit [] q.name b) ≡ o ∷ more
    → o.path ≡ []
    → from (PortBit [] q.name b) ≡ Outer q.name b
    → StandsFor p a w at from (Before (PortBit [] q.name b) 0)

-- the net of its own by which a constant comes to the first operator of a way is no wire that an operator makes
abbrev pub LeadsAreNotMade : Type 0
LeadsAreNotMade =
    (p : Project) (a : Additions)
    → HasChains p a
    → ((o : Standing) → IsIn o a.plan.operators → IsIn o.path (instances p))
    → HasOneBit p
    → ((s : Stretch) → IsIn s (stretches p a.plan) → s.start + s.count ≤ 2 ^ 64)
    → (w v : Way) (l : ℕ) (o r : Standing)
    → slice_get (on_way a.plan.operators w) 0 ≡ Some o
    → slice_get (on_way a.plan.operators v) l ≡ Some r
    → leads_constant p.structure o.path o.asked.bit ≡ true
    → name_by p a (Lead w) ≡ name_by p a (own_spot v l r)
    → ⊥

-- two ways to which a constant comes by one net are one
abbrev pub LeadsAreApart : Type 0
LeadsAreApart =
    (p : Project) (a : Additions)
    → HasChains p a
    → ((o : Standing) → IsIn o a.plan.operators → IsIn o.path (instances p))
    → HasOneBit p
    → ((s : Stretch) → IsIn s (stretches p a.plan) → s.start + s.count ≤ 2 ^ 64)
    → (w v : Way) (o r : Standing)
    → slice_get (on_way a.plan.operators w) 0 ≡ Some o
    → slice_get (on_way a.plan.operators v) 0 ≡ Some r
    → leads_constant p.structure o.path o.asked.bit ≡ true
    → leads_constant p.structure r.path r.asked.bit ≡ true
    → name_by p a (Lead w) ≡ name_by p a (Lead v)
    → w ≡ v

-- the net bit of a net bit of the source is not the net of its own by which a constant comes to a way
abbrev pub NodesAreNotLed : Type 0
NodesAreNotLed =
    (p : Project) (a : Additions)
    → HasChains p a
    → ((o : Standing) → IsIn o a.plan.operators → IsIn o.path (instances p))
    → HasOneBit p
    → ((s : Stretch) → IsIn s (stretches p a.plan) → s.start + s.count ≤ 2 ^ 64)
    → (n : Name) (i : Option ℕ) (x : Path)
    → is_own n ≡ false
    → (w : Way) (o : Standing)
    → slice_get (on_way a.plan.operators w) 0 ≡ Some o
    → leads_constant p.structure o.path o.asked.bit ≡ true
    → name_by p a (OfNode (Inner n i x)) ≡ name_by p a (Lead w)
    → ⊥

-- a net of a chain is driven from no port: no input port of its instance has its name
abbrev pub ChainNetsHaveNoPorts : Type 0
ChainNetsHaveNoPorts =
    (p : Project) (a : Additions) (w : Structure)
    → IsWrittenAt p a w
    → LeavesNames p.structure
    → (x : Path) (m : ModuleView)
    → module_at p.structure x ≡ Some m
    → (here : ModuleView)
    → module_at w x ≡ Some here
    → (k : ℕ)
    → ports_in w x (chain_net k) None here ≡ []

-- two parts of control routes that have one net bit are one
abbrev pub ControlsAreApart : Type 0
ControlsAreApart =
    (p : Project) (a : Additions)
    → length a.controls < 2 ^ 64
    → (t u : Part)
    → has_part a.controls t ≡ true
    → has_part a.controls u ≡ true
    → name_by p a (Routed t) ≡ name_by p a (Routed u)
    → t ≡ u

-- a net bit that is none of the source's, of a wire that an operator makes, or of a constant's own net
pub record IsNoOther (p : Project) (a : Additions) (k : Node) : Type 0 where
  pub source : (n : Name) (i : Option ℕ) (x : Path) → is_own n ≡ false → name_by p a (OfNode (Inner n i x)) ≡ k → ⊥
  pub made : (w : Way) (j : ℕ) (o : Standing) → slice_get (on_way a.plan.operators w) j ≡ Some o → name_by p a (own_spot w j o) ≡ k → ⊥
  pub led : (w : Way) (o : Standing) → slice_get (on_way a.plan.operators w) 0 ≡ Some o → leads_constant p.structure o.path o.asked.bit ≡ true → name_by p a (Lead w) ≡ k → ⊥

-- an origin that has a net: in no instance is that the net bit of a wire that is no supply's and no control's
abbrev pub SuppliesAreNoOthers : Type 0
SuppliesAreNoOthers =
    (p : Project) (a : Additions)
    → HasChains p a
    → ((o : Standing) → IsIn o a.plan.operators → IsIn o.path (instances p))
    → HasOneBit p
    → ((s : Stretch) → IsIn s (stretches p a.plan) → s.start + s.count ≤ 2 ^ 64)
    → (o : ℕ) (n : Name)
    → origin_bits p a.plan o ≡ NetBit n ∷ []
    → (x : Path)
    → IsNoOther p a (name_by p a (Carried o x))

-- nor is the net bit of a part of a control route
abbrev pub ControlsAreNoOthers : Type 0
ControlsAreNoOthers =
    (p : Project) (a : Additions)
    → HasChains p a
    → ((o : Standing) → IsIn o a.plan.operators → IsIn o.path (instances p))
    → HasOneBit p
    → ((s : Stretch) → IsIn s (stretches p a.plan) → s.start + s.count ≤ 2 ^ 64)
    → (t : Part)
    → has_part a.controls t ≡ true
    → IsNoOther p a (name_by p a (Routed t))

-- the net bit of a supply is not that of a part of a control route
abbrev pub ControlsAreNotSupplies : Type 0
ControlsAreNotSupplies =
    (p : Project) (a : Additions)
    → (o : ℕ) (n : Name)
    → origin_bits p a.plan o ≡ NetBit n ∷ []
    → (x : Path)
    → (t : Part)
    → has_part a.controls t ≡ true
    → name_by p a (Carried o x) ≡ name_by p a (Routed t)
    → ⊥

-- port origins have ports of their own, and switches have numbers of their own
pub record HasSupplyNames (p : Project) (a : Additions) : Type 0 where
  pub ports : (o r : ℕ) → slice_get (network_of p).origins o ≡ Some FromPort → slice_get (network_of p).origins r ≡ Some FromPort → port_of_origin p o ≡ port_of_origin p r → o ≡ r
  pub switches : (o r : ℕ) (s t : Switching) → switch_of a.plan o ≡ Some s → switch_of a.plan r ≡ Some t → s.number ≡ t.number → o ≡ r
  pub numbers : (o : ℕ) (s : Switching) → switch_of a.plan o ≡ Some s → s.number < 2 ^ 64

-- two supplies that have one net bit are the same origin in the same instance
abbrev pub SuppliesAreApart : Type 0
SuppliesAreApart =
    (p : Project) (a : Additions)
    → HasSupplyNames p a
    → (o r : ℕ) (n m : Name)
    → origin_bits p a.plan o ≡ NetBit n ∷ []
    → origin_bits p a.plan r ≡ NetBit m ∷ []
    → (x y : Path)
    → name_by p a (Carried o x) ≡ name_by p a (Carried r y)
    → (o ≡ r) × (x ≡ y)

-- a net of a chain that is not a constant's own is driven by no assign that is added
abbrev pub AddedAssignsDriveNoChain : Type 0
AddedAssignsDriveNoChain =
    (p : Project) (a : Additions)
    → HasChains p a
    → ((s : Stretch) → IsIn s (stretches p a.plan) → s.start + s.count ≤ 2 ^ 64)
    → (s : Stretch)
    → IsIn s (stretches p a.plan)
    → (k : ℕ)
    → HasNet s k
    → (leads_constant p.structure s.path s.bit ≡ true → s.start < k)
    → (j : ℕ)
    → flat_map (from_assign s.path (chain_net k) None) (numbered j (some_of (constant_assign p) (stretches_in a.chains s.path) ++ control_assigns a.chains a.controls s.path)) ≡ []

-- a bit that has no name of an addition
abbrev pub IsFreeBit : BitView → Type 0
IsFreeBit (NetBit n) = is_own n ≡ false
IsFreeBit (SelectBit n i) = is_own n ≡ false
IsFreeBit (ConstBit c) = Unit {0}

-- a net of a chain that takes no bit's place is driven by no assign of the source, where those assign to no name of an addition
abbrev pub SourceAssignsDriveNoChain : Type 0
SourceAssignsDriveNoChain =
    (p : Project) (a : Additions)
    → HasChains p a
    → ((s : Stretch) → IsIn s (stretches p a.plan) → s.start + s.count ≤ 2 ^ 64)
    → (s : Stretch)
    → IsIn s (stretches p a.plan)
    → (k : ℕ)
    → HasNet s k
    → (is_inside s.path s.bit ≡ true → k ≡ (if is_input s.bit.port then (s.start + s.count) - 1 else s.start) → ⊥)
    → (m : ModuleView)
    → module_at p.structure s.path ≡ Some m
    → ((q : AssignView) (b : BitView) → IsIn q m.assigns → IsIn b q.left → IsFreeBit b)
    → (j : ℕ)
    → flat_map (from_assign s.path (chain_net k) None) (numbered j (map (renamed_assign a.chains s.path) m.assigns)) ≡ []
