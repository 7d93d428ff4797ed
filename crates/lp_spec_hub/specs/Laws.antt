-- The statements of the laws of this crate (own rule).
use Rattle.std.specs.Prelude.{◌≡◌, ◌⊎◌, ◌<◌, ◌^◌, ℕ, Bool, true, false, length, List, Option, [], ◌++◌, Some, None, slice_get}
use Rattle.lp_model.specs.NetlistView.{ModuleView}
use Rattle.lp_spec_design.specs.Keys.{Name, Path, Node, Way}
use Rattle.lp_spec_design.specs.Nodes.{fuel_of, HasFuel}
use Rattle.lp_spec_design.specs.Netlists.{Structure}
use Rattle.lp_spec_design.specs.Domains.{BoundaryBit, way_of, node_before}
use Rattle.lp_spec_design.specs.Chains.{chain, bit_of_way}
use Rattle.lp_spec_realises.specs.Projects.{Project, network_of}
use Rattle.lp_spec_realises.specs.Operators.{OperatorAt, Placement}
use Rattle.lp_spec_realises.specs.ProjectNetlists.{has_names_apart}
use Rattle.lp_spec_realises.specs.Ends.{wire_end, intended}
use Rattle.lp_spec_realises.specs.Realises.{data_intended, origin_end}
use Rattle.lp_spec_design.specs.Winners.{IsIn, Crossing}
use Rattle.lp_spec_design.specs.Intents.{SetNumber, Intent, Network, Origin}
use Rattle.lp_spec_written.specs.Places.{instances, Standing, standing, plan, Kept, Switching}
use Rattle.lp_spec_realises.specs.Implements.{Lists, parent_of}
use Rattle.lp_spec_written.specs.Written.{module_name}
use Rattle.lp_spec_faults.specs.Modules.{is_own}
use Rattle.lp_spec_faults.specs.Lines.{first_of}
use Rattle.lp_spec_faults.specs.Readings.{no_cell}
use Rattle.lp_spec_faults.specs.Strategies.{location_order}
use Rattle.lp_spec_written.specs.Supplies.{Use}
use Rattle.lp_spec_written.specs.Routes.{Route, Part, has_part, parts_of, new_among, parts_after}
use Rattle.lp_spec_hub.specs.Spots.{Spot, OfNode, Carried, Routed, Done, with_operator, with_parts, on_way, with_register, with_switch}
use Rattle.lp_spec_hub.specs.Drives.{drive, read_by, control_spot}
use Rattle.lp_spec_hub.specs.Begins.{Begin, EndsAt, begin_of, data_begin, end_of, IsWired, IsClosed}
use Rattle.lp_spec_hub.specs.Changes.{drive_with}
use Rattle.lp_spec_hub.specs.Whole.{IsOrderly, BeginAsTheyShould}
use Rattle.lp_spec_hub.specs.Contents.{ReadAlike, read_by_these, IsEquivalence}
use Rattle.lp_spec_hub.specs.Entries.{is_control, IsInFlow, HasAll, IsRouted, StandsAside, carries, origin_begin, is_there, HasItsCells, HasWaysApart, HasWaysFromBits, standing_of, IsNumber, AreFirst}

-- whichever entries are done, a net bit of the source begins at the last operator that is done on its way back, else at what its own way begins with
abbrev pub NodesBegin : Type 0
NodesBegin =
    (p : Project) (a : Done) (from : Way → Node)
    → HasFuel p.structure
    → (k : Node)
    → EndsAt (drive p a from) (OfNode k) (begin_of p.structure a.plan.operators k)

-- the first operator of a way takes what comes to the way, each other one what the one before it gives
abbrev pub DataBegins : Type 0
DataBegins =
    (p : Project) (a : Done) (from : Way → Node)
    → HasFuel p.structure
    → IsInFlow a.plan.operators
    → (w : Way) (k : ℕ) (o : Standing)
    → slice_get (on_way a.plan.operators w) k ≡ Some o
    → EndsAt (drive p a from) (read_by w (from w) k o) (data_begin p.structure a.plan.operators w (from w) k)

-- a control that has come to an instance begins there where its node does, however far it is led
abbrev pub ControlsBegin : Type 0
ControlsBegin =
    (p : Project) (a : Done) (from : Way → Node)
    → HasFuel p.structure
    → IsRouted a.parts
    → (k : Node) (x : Path)
    → carries a.parts k x ≡ true
    → EndsAt (drive p a from) (control_spot a.parts k x) (begin_of p.structure a.plan.operators k)

-- where all operators are done, a net bit of the source begins where the definition of realised netlists says
abbrev pub BeginAsIntended : Type 0
BeginAsIntended =
    (p : Project) (all : List Standing)
    → HasAll p all
    → (w : Structure) (at : Placement) (k : Node)
    → end_of p w at (begin_of p.structure all k) ≡ intended p w at k

-- and an operator takes its data there
abbrev pub DataAsIntended : Type 0
DataAsIntended =
    (p : Project) (all : List Standing)
    → HasAll p all
    → (w : Structure) (at : Placement) (o : OperatorAt)
    → end_of p w at (data_begin p.structure all (way_of o.bit) (node_before p.structure o.bit) o.number) ≡ data_intended p w at o

-- in a netlist whose net bits stand for some wires, each with what drives it as source, and no such wire is driven from another one, a wire's net bit has the end that begins at the wire
abbrev pub EndsAsWired : Type 0
EndsAsWired =
    (p : Project) (a : Done) (from : Way → Node) (w : Structure) (at : Placement) (name : Spot → Node) (there : Spot → Bool)
    → HasFuel w
    → ((x : Spot) → there x ≡ true → IsWired p w at name x (drive p a from x))
    → IsClosed (drive p a from) there
    → (x : Spot) (e : Begin)
    → there x ≡ true
    → EndsAt (drive p a from) x e
    → wire_end w (fuel_of w) (name x) ≡ end_of p w at e

-- what each part comes from is there: before the first route, and after more routes where it was so before
abbrev pub RoutesAreSound : Type 0
RoutesAreSound = IsRouted [] × ((made : List Part) (all : List Route) → IsRouted made → IsRouted (parts_after made all))

-- a control has come to each instance to which one of the routes leads it
abbrev pub RoutesCome : Type 0
RoutesCome =
    (made : List Part) (all : List Route)
    → IsRouted made
    → (r : Route)
    → IsIn r all
    → is_control r.0 ≡ true
    → carries (parts_after made all) r.0 r.1 ≡ true

-- input ports for a control stand in no instance above its own: before the first route, and after one more
abbrev pub PartsStandAside : Type 0
PartsStandAside =
    StandsAside []
    × ((made : List Part) (r : Route) → IsRouted made → StandsAside made → StandsAside (made ++ new_among made (parts_of made r)))

-- one more route leaves each part that is made with what it comes from
abbrev pub PartsStay : Type 0
PartsStay =
    (p : Project) (a : Done) (from : Way → Node) (r : Route)
    → IsRouted a.parts
    → StandsAside a.parts
    → (t : Part)
    → has_part a.parts t ≡ true
    → drive p (with_parts a (new_among a.parts (parts_of a.parts r))) from (Routed t) ≡ drive p a from (Routed t)

-- once supplies are joined, an origin begins in each instance that uses it at its port or at its switch
abbrev pub SuppliesBegin : Type 0
SuppliesBegin =
    (p : Project) (a : Done) (from : Way → Node) (all : List Use)
    → a.uses ≡ Some all
    → (o : ℕ) (x : Path) (origin : Origin)
    → slice_get (network_of p).origins o ≡ Some origin
    → is_there a.plan o origin ≡ true
    → IsIn (x, o) all
    → EndsAt (drive p a from) (Carried o x) (origin_begin o origin)

-- and that is where the definition of realised netlists has it
abbrev pub OriginsAsIntended : Type 0
OriginsAsIntended =
    (p : Project) (w : Structure) (at : Placement) (o : ℕ) (origin : Origin)
    → slice_get (network_of p).origins o ≡ Some origin
    → end_of p w at (origin_begin o origin) ≡ origin_end p w at o

-- in the whole plan the operators of a way are those of its boundary bit
abbrev pub PlanByBits : Type 0
PlanByBits =
    (p : Project) (l : Lists)
    → HasWaysApart p
    → (w : Way)
    → on_way (plan p l).operators w ≡ standing_of p l (bit_of_way p.structure p.intent w)

-- and where each has its cell, the place of one among them is its number in the chain
abbrev pub PlanByNumbers : Type 0
PlanByNumbers =
    (p : Project) (l : Lists)
    → HasWaysApart p
    → HasItsCells p l
    → (w : Way) (b : BoundaryBit)
    → bit_of_way p.structure p.intent w ≡ Some b
    → (k : ℕ) (o : Standing)
    → slice_get (on_way (plan p l).operators w) k ≡ Some o
    → IsNumber p b k o

-- in the whole plan each way that leads to a node has all operators of its chain
abbrev pub PlanIsWhole : Type 0
PlanIsWhole =
    (p : Project) (l : Lists)
    → HasWaysApart p
    → HasItsCells p l
    → HasWaysFromBits p
    → HasAll p (plan p l).operators

-- without a fault of location order, in the whole plan the operators before a way's edge come first
abbrev pub PlanIsInFlow : Type 0
PlanIsInFlow =
    (p : Project) (l : Lists)
    → first_of (location_order p) ≡ None
    → HasWaysApart p
    → HasItsCells p l
    → IsInFlow (plan p l).operators

-- and so they do among those that are done, where these are the first ones of each way
abbrev pub DoneIsInFlow : Type 0
DoneIsInFlow = (all done : List Standing) → AreFirst all done → IsInFlow all → IsInFlow done

-- a register with retention changes no wire, nor does a switch before supplies are joined
abbrev pub OtherEntries : Type 0
OtherEntries =
    (p : Project) (a : Done) (from : Way → Node)
    → ((r : Kept) (x : Spot) → drive p (with_register a r) from x ≡ drive p a from x)
    × ((w : Switching) → a.uses ≡ None → (x : Spot) → drive p (with_switch a w) from x ≡ drive p a from x)

-- ---- what is added

-- an operator stands in the instance of its bit or in the parent
abbrev pub StandsNear : Type 0
StandsNear =
    (p : Project) (l : Lists) (o : OperatorAt) (s : Standing)
    → standing p l o ≡ Some s
    → (s.path ≡ o.bit.path) ⊎ (s.path ≡ parent_of o.bit.path)

-- a chain depends on the set of supplies that read its crossing and on the first reader, not on their number and order
abbrev pub ChainByReaders : Type 0
ChainByReaders =
    (n : Network) (i : Intent) (c : Crossing) (rs qs : List (Option SetNumber))
    → ReadAlike rs qs
    → (s : Option SetNumber)
    → chain n i (read_by_these c rs) s ≡ chain n i (read_by_these c qs) s

-- down to a depth, equal content is an equivalence
abbrev pub ContentIsEquivalence : Type 0
ContentIsEquivalence = (modules : List ModuleView) (depth : ℕ) → IsEquivalence modules depth

-- the written modules of two instances have two names: those of the source do not begin as the added ones, and numbers differ
abbrev pub ModuleNamesDiffer : Type 0
ModuleNamesDiffer =
    (p : Project)
    → length (instances p) < 2 ^ 64
    → (x y : Path) (m n : Name)
    → IsIn x (instances p)
    → IsIn y (instances p)
    → is_own m ≡ false
    → is_own n ≡ false
    → module_name p x m ≡ module_name p y n
    → x ≡ y

-- where names stand apart, a way of a boundary bit that leads to a node comes from the node before the bit
abbrev pub WaysFromBits : Type 0
WaysFromBits = (p : Project) → has_names_apart p.structure.modules ≡ true → HasWaysFromBits p

-- one more operator changes what drives the net bit to which its way leads, makes its own wire, and leaves all others
abbrev pub OneMoreOperator : Type 0
OneMoreOperator =
    (p : Project) (a : Done) (from : Way → Node) (o : Standing) (x : Spot)
    → drive p (with_operator a o) from x ≡ drive_with p a from o x

-- where no operator lacks a cell, each has its place and its cell
abbrev pub CellsAreThere : Type 0
CellsAreThere = (p : Project) (l : Lists) → first_of (no_cell p l) ≡ None → HasItsCells p l

-- where names stand apart, no two boundary bits have one way
abbrev pub WaysApart : Type 0
WaysApart = (p : Project) → has_names_apart p.structure.modules ≡ true → HasWaysApart p

-- ---- the whole

-- once the whole plan is done, net bits of the source, what operators read, controls and supplies begin where the definition of realised netlists says
abbrev pub WholePlan : Type 0
WholePlan = (p : Project) (l : Lists) → IsOrderly p l → (w : Structure) (at : Placement) → BeginAsTheyShould p l w at
