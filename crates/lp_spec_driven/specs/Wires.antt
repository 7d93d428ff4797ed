-- Which wires are there, and what a source of a wire's net bit has to be where the wire is driven so (own rule).
use Rattle.std.specs.Prelude.{◌≡◌, ℕ, Bool, true, false, [], ◌∷◌, Some, None, slice_get}
use Rattle.lp_model.specs.NetlistView.{NetBit}
use Rattle.lp_spec_design.specs.Keys.{Name, Node, Inner, Outer, Fixed, Way, Source, From}
use Rattle.lp_spec_design.specs.Netlists.{Structure}
use Rattle.lp_spec_design.specs.Graph.{source_of, way_in}
use Rattle.lp_spec_faults.specs.Modules.{is_own}
use Rattle.lp_spec_realises.specs.Projects.{Project, port_of_origin}
use Rattle.lp_spec_realises.specs.Operators.{Placement}
use Rattle.lp_spec_realises.specs.Ends.{End, AtTop, own_end, end_across, output_end, switched_end}
use Rattle.lp_spec_written.specs.Places.{Standing}
use Rattle.lp_spec_written.specs.Nets.{leads_constant}
use Rattle.lp_spec_written.specs.Supplies.{origin_bits}
use Rattle.lp_spec_written.specs.Routes.{has_part}
use Rattle.lp_spec_written.specs.Written.{Additions}
use Rattle.lp_spec_hub.specs.Spots.{Spot, OfNode, Behind, Before, Lead, Carried, Routed, Drive, AsSource, ByOperator, BySwitch, ByPort, FromSpot, on_way, is_behind}
use Rattle.lp_spec_hub.specs.Drives.{drive}
use Rattle.lp_spec_hub.specs.Begins.{StartsAt}
use Rattle.lp_spec_wired.specs.Names.{name_by}
use Rattle.lp_spec_wired.specs.Laws.{done_of}

-- ---- wires that are there

-- operator k of a way, where it makes its wire before the edge, or behind it
pub record MakesWire (a : Additions) (w : Way) (k : ℕ) (behind : Bool) : Type 0 where
  pub operator : Standing
  pub at : slice_get (on_way a.plan.operators w) k ≡ Some operator
  pub side : is_behind operator ≡ behind

-- a constant comes to the first operator of a way by a net of its own
pub record HasLead (p : Project) (a : Additions) (w : Way) : Type 0 where
  pub operator : Standing
  pub at : slice_get (on_way a.plan.operators w) 0 ≡ Some operator
  pub leads : leads_constant p.structure operator.path operator.asked.bit ≡ true

-- an origin goes by a net
pub record GoesByNet (p : Project) (a : Additions) (o : ℕ) : Type 0 where
  pub net : Name
  pub bits : origin_bits p a.plan o ≡ NetBit net ∷ []

-- a net bit of the source has no name of an addition
abbrev pub IsFreeNode : Node → Type 0
IsFreeNode (Inner n i x) = is_own n ≡ false
IsFreeNode (Outer n i) = Unit {0}
IsFreeNode (Fixed b) = Unit {0}

abbrev pub IsThere : Project → Additions → Spot → Type 0
IsThere p a (OfNode k) = IsFreeNode k
IsThere p a (Behind w k) = MakesWire a w k false
IsThere p a (Before w k) = MakesWire a w k true
IsThere p a (Lead w) = HasLead p a w
IsThere p a (Carried o x) = GoesByNet p a o
IsThere p a (Routed t) = has_part a.controls t ≡ true

-- ---- sources

-- a source that is no way in, and with which a node has this end
pub record Starts (k : Node) (y : Source) (e : End) : Type 0 where
  pub first : way_in (Some y) ≡ None
  pub own : own_end k (Some y) ≡ e

abbrev pub StartsAlike : Project → Structure → (Spot → Node) → Spot → Source → Type 0
StartsAlike p w name (OfNode k) y = Starts (name (OfNode k)) y (end_across p.structure w (own_end k (source_of p.structure k)))
StartsAlike p w name _ y = Unit {0}

-- a way from this node
pub record Leads (j : Node) (y : Source) : Type 0 where
  pub way : Way
  pub is : y ≡ From way j

-- a way from a supply port of the top
pub record LeadsIn (p : Project) (w : Structure) (o : ℕ) (y : Source) : Type 0 where
  pub leads : Leads (Outer (port_of_origin p o) None) y
  pub starts : StartsAt w (Outer (port_of_origin p o) None) (AtTop (port_of_origin p o) None)

-- a source of the net bit of a wire is what drives the wire
abbrev pub Gives : Project → Structure → Placement → (Spot → Node) → Spot → Drive → Source → Type 0
Gives p w at name x (AsSource z) y = StartsAlike p w name x y
Gives p w at name x (ByOperator way k) y = Starts (name x) y (output_end w (at.operator way k))
Gives p w at name x (BySwitch o) y = Starts (name x) y (switched_end w (at.switch o))
Gives p w at name x (ByPort o) y = LeadsIn p w o y
Gives p w at name x (FromSpot z) y = Leads (name z) y

-- a source of a net bit is what drives a wire that is there and has this net bit
pub record IsOfWire (p : Project) (a : Additions) (w : Structure) (at : Placement) (from : Way → Node) (k : Node) (y : Source) : Type 0 where
  pub wire : Spot
  pub there : IsThere p a wire
  pub name : name_by p a wire ≡ k
  pub driven : Drive
  pub is : drive p (done_of a) from wire ≡ Some driven
  pub gives : Gives p w at (name_by p a) wire driven y
