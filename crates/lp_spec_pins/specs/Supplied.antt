-- Every power and ground pin has exactly one supply (own rule).
use Rattle.std.specs.Prelude.{Bool, false, ◌&&◌, List, [], ◌∷◌, map, Option, Some, None, is_some, flat_map}
use Rattle.std.specs.List.{list_all}
use Rattle.lp_model.specs.LibraryView.{PgPinView, CellView}
use Rattle.lp_spec_design.specs.Keys.{Name, Path, Node}
use Rattle.lp_spec_design.specs.Netlists.{Structure, cell_at}
use Rattle.lp_spec_design.specs.Instances.{Placed, cell_instances}
use Rattle.lp_spec_design.specs.Nodes.{fuel_of}
use Rattle.lp_spec_design.specs.Graph.{sources_of, trail}
use Rattle.lp_spec_design.specs.Settled.{node_at_pin}
use Rattle.lp_spec_pins.specs.Pins.{Powered, is_joined, supply_of_pin, only}

-- a power or ground pin of a cell instance
pub record PgPinAt : Type 0 where
  pub path : Path
  pub instance : Name
  pub pin : Name

abbrev pub pg_pins_of : Placed → Option CellView → List PgPinAt
pg_pins_of a None = []
pg_pins_of a (Some c) = map (λ (g : PgPinView). record { path = a.path; instance = a.instance; pin = g.name }) c.pgs

-- all of them, by cell instance
abbrev pub pg_pins : Powered → List PgPinAt
pg_pins w = flat_map (λ a. pg_pins_of a (cell_at w.structure a.path a.instance)) (cell_instances w.structure)

-- the nodes of a wire, from one of them back to that in which it begins
abbrev pub wire_of : Powered → Node → List Node
wire_of w k = k ∷ map (λ step. step.1) (trail w.structure (fuel_of w.structure) k)

abbrev pub has_one_source : Structure → Node → Bool
has_one_source s k = is_some (only (sources_of s k))

-- each node of the wire has exactly one source
abbrev pub is_single : Powered → Option Node → Bool
is_single w None = false
is_single w (Some k) = list_all (has_one_source w.structure) (wire_of w k)

-- the wire of each has exactly one source at each of its nodes, and begins in a supply port of the top or in a switched pin
abbrev pub has_one_supply : Powered → PgPinAt → Bool
has_one_supply w a = is_joined (supply_of_pin w a.path a.instance a.pin) && is_single w (node_at_pin w.structure a.path a.instance a.pin)

abbrev pub is_supplied : Powered → Bool
is_supplied w = list_all (has_one_supply w) (pg_pins w)
