-- Where the wires of a netlist begin, and where they have to (own rule).
use Rattle.std.specs.Prelude.{ℕ, Bool, true, false, ◌&&◌, List, [], ◌∷◌, length, Option, Some, None, is_some, option_and_then, bytes_eq}
use Rattle.lp_model.specs.LibraryView.{PgPinView, PinView, CellView}
use Rattle.lp_spec_design.specs.Keys.{Name, Path, same_path, same_index, same_bool, Node, Outer, Fixed, Way, Source, CellPin, SwitchedPin, Environment}
use Rattle.lp_spec_design.specs.Netlists.{Structure, first, cell_at}
use Rattle.lp_spec_design.specs.Instances.{Placed}
use Rattle.lp_spec_design.specs.Nodes.{fuel_of}
use Rattle.lp_spec_design.specs.Graph.{source_of, trail, beginning}
use Rattle.lp_spec_design.specs.Chains.{Operator}
use Rattle.lp_spec_design.specs.Settled.{node_at_pin, rail_of, operators_of}
use Rattle.lp_spec_fit.specs.Fits.{one_output}
use Rattle.lp_spec_realises.specs.Projects.{Project, design_of}
use Rattle.lp_spec_realises.specs.Tops.{index_across}
use Rattle.lp_spec_realises.specs.Operators.{Placement}

-- an output pin or a switched pin of a cell instance, a bit of a top input, a constant, or nothing
pub data End : Type 0 where
  AtPin : Path → Name → Name → End
  AtSwitched : Path → Name → Name → End
  AtTop : Name → Option ℕ → End
  AtConstant : Bool → End
  Nowhere : End

abbrev pub same_end : End → End → Bool
same_end (AtPin p x q) (AtPin r y s) = bytes_eq x y && (bytes_eq q s && same_path p r)
same_end (AtSwitched p x q) (AtSwitched r y s) = bytes_eq x y && (bytes_eq q s && same_path p r)
same_end (AtTop m i) (AtTop n j) = bytes_eq m n && same_index i j
same_end (AtConstant a) (AtConstant b) = same_bool a b
same_end Nowhere Nowhere = true
same_end _ _ = false

-- what a node begins with that no way leads to
abbrev pub own_end : Node → Option Source → End
own_end k (Some (CellPin p x q)) = AtPin p x q
own_end k (Some (SwitchedPin p x q)) = AtSwitched p x q
own_end (Outer n j) (Some Environment) = AtTop n j
own_end (Fixed b) source = AtConstant b
own_end k source = Nowhere

-- the wire source of a node
abbrev pub wire_end : Structure → ℕ → Node → End
wire_end s fuel k = own_end (beginning k (trail s fuel k)) (source_of s (beginning k (trail s fuel k)))

-- the wire source at a pin of a cell instance; an open pin has none
abbrev pub some_end : Structure → ℕ → Option Node → End
some_end s fuel None = Nowhere
some_end s fuel (Some k) = wire_end s fuel k

abbrev pub end_at_pin : Structure → ℕ → Path → Name → Name → End
end_at_pin s fuel p x q = some_end s fuel (node_at_pin s p x q)

-- the one output of a cell instance
abbrev pub output_end : Structure → Placed → End
output_end w a = by (option_and_then one_output (cell_at w a.path a.instance))
  where
    by : Option PinView → End
    by None = Nowhere
    by (Some q) = AtPin a.path a.instance q.name

-- the one switched pin of a cell instance
abbrev pub switched_pin : Structure → Placed → Option PgPinView
switched_pin w a = option_and_then (λ (c : CellView). first (λ (g : PgPinView). is_some g.switched) c.pgs) (cell_at w a.path a.instance)

abbrev pub switched_end : Structure → Placed → End
switched_end w a = by (switched_pin w a)
  where
    by : Option PgPinView → End
    by None = Nowhere
    by (Some g) = AtSwitched a.path a.instance g.name

-- ---- where a node of the source has to begin in the written netlist

-- an end of the source as one of the netlist
abbrev pub end_across : Structure → Structure → End → End
end_across s w (AtTop n i) = AtTop n (index_across s w n i)
end_across s w (AtPin p x q) = AtPin p x q
end_across s w (AtSwitched p x g) = AtSwitched p x g
end_across s w (AtConstant b) = AtConstant b
end_across s w Nowhere = Nowhere

-- behind operators it is the output of the last one's cell
abbrev pub behind : Structure → Placement → Way → List Operator → End → End
behind w at way [] e = e
behind w at way (o ∷ operators) e = output_end w (at.operator way (length operators))

abbrev pub intended_along : Project → Structure → Placement → Node → List (Way × Node) → End
intended_along p w at k [] = end_across p.structure w (own_end k (source_of p.structure k))
intended_along p w at k (step ∷ back) =
    behind w at step.0 (operators_of (design_of p) step.0 (rail_of (design_of p) step.1)) (intended_along p w at step.1 back)

-- the node's own source, or what the node has from which a way without operators leads to it, or the output pin of the last cell on that way
abbrev pub intended : Project → Structure → Placement → Node → End
intended p w at k = intended_along p w at k (trail p.structure (fuel_of p.structure) k)

abbrev pub some_intended : Project → Structure → Placement → Option Node → End
some_intended p w at None = Nowhere
some_intended p w at (Some k) = intended p w at k
