-- By which ports and wires each origin comes to the cells that it supplies (own rule).
use Rattle.std.specs.Prelude.{ℕ, ◌==◌, Bool, true, not, ◌&&◌, List, [], ◌∷◌, ◌++◌, map, filter, Option, Some, None, option_and_then, if◌then◌else◌, flat_map, codes, slice_get}
use Rattle.std.specs.List.{list_any}
use Rattle.lp_model.specs.declared.netlist.Direction.{Direction}
use Rattle.lp_model.specs.declared.netlist.Direction.TheVariants.{Input, Output}
use Rattle.lp_model.specs.NetlistView.{BitView, NetBit, PortView, NetView, ConnectionView}
use Rattle.lp_model.specs.LibraryView.{CellView}
use Rattle.lp_spec_design.specs.Keys.{Name, Path, same_path}
use Rattle.lp_spec_design.specs.Netlists.{first}
use Rattle.lp_spec_design.specs.Instances.{Placed, cell_instances}
use Rattle.lp_spec_design.specs.Graph.{numbered, some_of, when}
use Rattle.lp_spec_design.specs.Intents.{Origin, FromPort, FromSwitch}
use Rattle.lp_spec_design.specs.Registers.{is_above}
use Rattle.lp_spec_fit.specs.Joins.{Joins}
use Rattle.lp_spec_realises.specs.Projects.{Project, network_of, port_of_origin}
use Rattle.lp_spec_realises.specs.Realises.{cell_of, same_placed, joins_of_source, joins_of_operator, joins_of_switch}
use Rattle.lp_spec_written.specs.Places.{with_number, Standing, Kept, Switching, Plan}

-- ---- what each power and ground pin is joined to

abbrev pub joined_pins : CellView → Option Joins → List (Name × ℕ)
joined_pins c None = []
joined_pins c (Some join) = some_of (λ g. option_and_then (λ o. Some (g.1.name, o)) (join g.0 g.1)) (numbered 0 c.pgs)

-- the cell of a source instance in the written netlist: a register with retention has the chosen one
abbrev pub or_cell : Option CellView → Option Kept → Option CellView
or_cell c None = c
or_cell c (Some k) = Some k.cell

abbrev pub kept_at : Plan → Placed → Option Kept
kept_at a place = first (λ (k : Kept). same_placed k.place place) a.registers

abbrev pub cell_for : Project → Plan → Placed → Option CellView
cell_for p a place = or_cell (cell_of p.structure place) (kept_at a place)

abbrev pub pins_of_cell : Project → Placed → Option CellView → List (Name × ℕ)
pins_of_cell p place None = []
pins_of_cell p place (Some c) = joined_pins c (joins_of_source p place c)

abbrev pub source_pins : Project → Plan → Placed → List (Name × ℕ)
source_pins p a place = pins_of_cell p place (cell_for p a place)

abbrev pub operator_pins : Project → Standing → List (Name × ℕ)
operator_pins p o = joined_pins o.cell (joins_of_operator p o.path o.asked.operator o.cell)

abbrev pub switch_pins : Project → Switching → List (Name × ℕ)
switch_pins p w = joined_pins w.cell (joins_of_switch p w.asked w.cell)

-- ---- users: the cell instances with a pin joined to an origin

-- the instance in which one stands, and the origin
abbrev pub Use : Type 0
Use = Path × ℕ

abbrev pub uses_at : Path → List (Name × ℕ) → List Use
uses_at x pins = map (λ q. (x, q.1)) pins

abbrev pub uses : Project → Plan → List Use
uses p a =
    flat_map (λ (c : Placed). uses_at c.path (source_pins p a c)) (cell_instances p.structure)
    ++ (flat_map (λ (o : Standing). uses_at o.path (operator_pins p o)) a.operators
    ++ flat_map (λ (w : Switching). uses_at w.path (switch_pins p w)) a.switches)

-- an instance has a user in it or below it
abbrev pub is_used : List Use → ℕ → Path → Bool
is_used all o x = list_any (λ u. (u.1 == o) && is_above x u.0) all

-- ---- lp_w_K: the output of switch K

-- the nearest instance above the first, or itself, that is above the second, or itself
abbrev pub common : Path → Path → Path
common [] q = []
common (i ∷ p) q = let next = common p q in if is_above (i ∷ p) q then i ∷ p else next

abbrev pub common_of : Path → List Path → Path
common_of x [] = x
common_of x (y ∷ more) = common_of (common x y) more

-- it is a wire in the nearest common instance of the switch's scope and all users; a switch without users has its wire in its scope
abbrev pub home : List Use → Switching → Path
home all w = common_of w.path (map (λ u. u.0) (filter (λ u. u.1 == w.asked.origin) all))

-- an output port of each instance on the way from the switch's scope up to below that one
abbrev pub goes_out : List Use → Switching → Path → Bool
goes_out all w x = is_above x w.path && not (is_above x (home all w))

-- an input port of each other instance below that one that has a user in it or below
abbrev pub goes_in : List Use → Switching → Path → Bool
goes_in all w x = is_used all w.asked.origin x && not (is_above x w.path)

abbrev pub switch_net : Switching → Name
switch_net w = with_number (codes "lp_w_") w.number

-- ---- ports and wires of an instance

abbrev pub scalar : Name → Direction → PortView
scalar n d = record { name = n; direction = d; range = None }

-- lp_v_NAME: the port of port origin NAME; the top has all of them, a lower module has those that a cell instance in it or below it uses
abbrev pub has_port_of : List Use → ℕ → Path → Bool
has_port_of all o [] = true
has_port_of all o (i ∷ x) = is_used all o (i ∷ x)

abbrev pub switch_port : List Use → Switching → Path → Option PortView
switch_port all w x = if goes_out all w x then Some (scalar (switch_net w) Output) else when (goes_in all w x) (scalar (switch_net w) Input)

abbrev pub switch_of : Plan → ℕ → Option Switching
switch_of a o = first (λ (w : Switching). w.asked.origin == o) a.switches

abbrev pub port_by_kind : Project → Plan → List Use → Path → ℕ → Origin → Option PortView
port_by_kind p a all x o FromPort = when (has_port_of all o x) (scalar (port_of_origin p o) Input)
port_by_kind p a all x o (FromSwitch input control high) = option_and_then (λ w. switch_port all w x) (switch_of a o)

abbrev pub origin_port : Project → Plan → List Use → Path → ℕ × Origin → Option PortView
origin_port p a all x o = port_by_kind p a all x o.0 o.1

-- lp_v and lp_w, in the order of the origins
abbrev pub supply_ports : Project → Plan → List Use → Path → List PortView
supply_ports p a all x = some_of (origin_port p a all x) (numbered 0 (network_of p).origins)

abbrev pub wire : Name → NetView
wire n = record { name = n; range = None }

abbrev pub supply_wires : Plan → List Use → Path → List NetView
supply_wires a all x = map (λ (w : Switching). wire (switch_net w)) (filter (λ (w : Switching). same_path (home all w) x) a.switches)

-- ---- connections

abbrev pub joined_to : Name → List BitView → ConnectionView
joined_to n bits = record { port = n; bits = bits }

-- an origin goes by one name in every instance
abbrev pub bits_by_kind : Project → ℕ → Option Origin → Option Switching → List BitView
bits_by_kind p o (Some FromPort) w = NetBit (port_of_origin p o) ∷ []
bits_by_kind p o (Some (FromSwitch input control high)) (Some w) = NetBit (switch_net w) ∷ []
bits_by_kind p o _ _ = []

abbrev pub origin_bits : Project → Plan → ℕ → List BitView
origin_bits p a o = bits_by_kind p o (slice_get (network_of p).origins o) (switch_of a o)

abbrev pub supply_connections : Project → Plan → List (Name × ℕ) → List ConnectionView
supply_connections p a pins = map (λ q. joined_to q.0 (origin_bits p a q.1)) pins
