-- Where the wires begin when some entries of the plan are done, and where a net bit of the source has to (own rule).
use Rattle.std.specs.Prelude.{◌≡◌, ℕ, zero, suc, Bool, true, List, [], ◌∷◌, length, Option, Some, None}
use Rattle.lp_spec_design.specs.Keys.{Node, Outer, Way, From}
use Rattle.lp_spec_design.specs.Netlists.{Structure}
use Rattle.lp_spec_design.specs.Nodes.{fuel_of}
use Rattle.lp_spec_design.specs.Graph.{source_of, trail, way_in}
use Rattle.lp_spec_realises.specs.Projects.{Project, port_of_origin}
use Rattle.lp_spec_realises.specs.Operators.{Placement}
use Rattle.lp_spec_realises.specs.Ends.{End, AtTop, own_end, end_across, output_end, switched_end}
use Rattle.lp_spec_written.specs.Places.{Standing}
use Rattle.lp_spec_hub.specs.Spots.{Spot, OfNode, Drive, AsSource, ByOperator, BySwitch, ByPort, FromSpot, on_way}

-- what a node of the source has of its own (a cell's output, an input of the top, a constant, nothing), the output of
-- operator k of a way, the output of a switch, or a supply port of the top
pub data Begin : Type 0 where
  InNode : Node → Begin
  InOperator : Way → ℕ → Begin
  InSwitch : ℕ → Begin
  InPort : ℕ → Begin

-- ---- by the wires

-- a node of the source that nothing drives has what it has of its own
abbrev pub own_begin : Spot → Option Begin
own_begin (OfNode k) = Some (InNode k)
own_begin _ = None

-- what begins at a wire by what drives it; none where another wire does, or where there is no such wire
abbrev pub begins_by : Option Drive → Spot → Option Begin
begins_by None x = own_begin x
begins_by (Some (AsSource y)) x = own_begin x
begins_by (Some (ByOperator w k)) x = Some (InOperator w k)
begins_by (Some (BySwitch o)) x = Some (InSwitch o)
begins_by (Some (ByPort o)) x = Some (InPort o)
begins_by (Some (FromSpot y)) x = None

-- so many wires back from a wire it begins there
abbrev pub EndsIn : (Spot → Option Drive) → ℕ → Spot → Begin → Type 0
EndsIn driven zero x e = begins_by (driven x) x ≡ Some e
EndsIn driven (suc n) x e = (y : Spot) × (driven x ≡ Some (FromSpot y)) × EndsIn driven n y e

-- a wire begins there
abbrev pub EndsAt : (Spot → Option Drive) → Spot → Begin → Type 0
EndsAt driven x e = (n : ℕ) × EndsIn driven n x e

-- ---- as it has to be

-- behind so many operators of a way it is the output of the last one
abbrev pub behind_way : Way → ℕ → Begin → Begin
behind_way w zero e = e
behind_way w (suc k) e = InOperator w k

abbrev pub begin_along : List Standing → Node → List (Way × Node) → Begin
begin_along all k [] = InNode k
begin_along all k (step ∷ back) = behind_way step.0 (length (on_way all step.0)) (begin_along all step.1 back)

-- where a net bit of the source has to begin, over the operators that are done
abbrev pub begin_of : Structure → List Standing → Node → Begin
begin_of s all k = begin_along all k (trail s (fuel_of s) k)

-- where operator k of a way has to take its data
abbrev pub data_begin : Structure → List Standing → Way → Node → ℕ → Begin
data_begin s all w from zero = begin_of s all from
data_begin s all w from (suc k) = InOperator w k

-- ---- as an end of a netlist

abbrev pub end_of : Project → Structure → Placement → Begin → End
end_of p w at (InNode k) = end_across p.structure w (own_end k (source_of p.structure k))
end_of p w at (InOperator way k) = output_end w (at.operator way k)
end_of p w at (InSwitch o) = switched_end w (at.switch o)
end_of p w at (InPort o) = AtTop (port_of_origin p o) None

-- ---- in a netlist whose net bits stand for the wires

-- no way leads to a node, and what it has of its own is this end
pub record StartsAt (w : Structure) (k : Node) (e : End) : Type 0 where
  pub first : way_in (source_of w k) ≡ None
  pub own : own_end k (source_of w k) ≡ e

-- the bit of a net bit of the source that nothing leads to has what that one has
abbrev pub StartsOwn : Project → Structure → (Spot → Node) → Spot → Type 0
StartsOwn p w name (OfNode k) = StartsAt w (name (OfNode k)) (end_across p.structure w (own_end k (source_of p.structure k)))
StartsOwn p w name _ = Unit {0}

-- a wire's net bit is led to from that of another wire
pub record LeadsTo (w : Structure) (j k : Node) : Type 0 where
  pub way : Way
  pub source : source_of w k ≡ Some (From way j)

-- a supply port of the top
pub record ComesIn (p : Project) (w : Structure) (o : ℕ) (k : Node) : Type 0 where
  pub leads : LeadsTo w (Outer (port_of_origin p o) None) k
  pub starts : StartsAt w (Outer (port_of_origin p o) None) (AtTop (port_of_origin p o) None)

-- the net bit that stands for a wire has as source what drives the wire
abbrev pub IsWired : Project → Structure → Placement → (Spot → Node) → Spot → Option Drive → Type 0
IsWired p w at name x None = StartsOwn p w name x
IsWired p w at name x (Some (AsSource y)) = StartsOwn p w name x
IsWired p w at name x (Some (ByOperator way k)) = StartsAt w (name x) (output_end w (at.operator way k))
IsWired p w at name x (Some (BySwitch o)) = StartsAt w (name x) (switched_end w (at.switch o))
IsWired p w at name x (Some (ByPort o)) = ComesIn p w o (name x)
IsWired p w at name x (Some (FromSpot y)) = LeadsTo w (name y) (name x)

-- some wires are closed: what drives one of them from another wire comes from one of them
abbrev pub IsClosed : (Spot → Option Drive) → (Spot → Bool) → Type 0
IsClosed driven there = (x y : Spot) → there x ≡ true → driven x ≡ Some (FromSpot y) → there y ≡ true
