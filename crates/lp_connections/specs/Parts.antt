-- The modules of a netlist and the cells of its library, and their ports and pins by the numbers of their names
-- (IEEE 1364-2005, port declarations; Liberty pin, pg_pin).
use Rattle.std.specs.Prelude.{◌≡◌, ℕ, Bool, true, false, ◌||◌, List, map, filter, Option, is_some, option_and_then, slice_get}
use Rattle.std.specs.Option.{option_map_or}
use Rattle.lp_model.specs.declared.library.Cell.{Cell}
use Rattle.lp_model.specs.declared.library.PgPin.{PgPin}
use Rattle.lp_model.specs.declared.library.Pin.{Pin}
use Rattle.lp_model.specs.declared.netlist.Direction.{Direction}
use Rattle.lp_model.specs.declared.netlist.Direction.TheVariants.{Input, Output}
use Rattle.lp_model.specs.declared.netlist.Module.{Module}
use Rattle.lp_model.specs.declared.netlist.Port.{Port}
use Rattle.lp_places.specs.Places.{place_of_number, has_number}
use Rattle.lp_targets.specs.declared.target.Target.{Target}
use Rattle.lp_targets.specs.declared.target.Target.TheVariants.{OfModule, OfCell}
use Rattle.lp_connections.specs.Limits.{AreSmall}
use Rattle.lp_connections.specs.declared.cell_names.CellNames.{CellNames}

pub record Parts : Type 0 where
  pub modules : List Module
  pub cells : List Cell

abbrev pub parts_of : List Module → List Cell → Parts
parts_of ms cs = record { modules = ms; cells = cs }

abbrev pub is_outward : Direction → Bool
is_outward Input = false
is_outward Output = true

abbrev pub port_names : List Port → List ℕ
port_names ports = map (λ (p : Port). p.name.0) ports

abbrev pub pin_names : List Pin → List ℕ
pin_names pins = map (λ (q : Pin). q.name.0) pins

abbrev pub output_names : List Pin → List ℕ
output_names pins = pin_names (filter (λ (q : Pin). is_outward q.direction) pins)

abbrev pub pg_names : List PgPin → List ℕ
pg_names pgs = map (λ (g : PgPin). g.name.0) pgs

-- of a cell the names of its pins, of its outputs and of its power and ground pins
abbrev pub names_in : Cell → CellNames
names_in c = record { pins = pin_names c.pins; outputs = output_names c.pins; pgs = pg_names c.pgs }

-- for each module and each cell the names that belong to it
pub record IsNamed (rows : List (List ℕ)) (names : List CellNames) (modules : List Module) (cells : List Cell) : Type 0 where
  pub ports : rows ≡ map (λ (m : Module). port_names m.ports) modules
  pub pins : names ≡ map names_in cells
  pub small : AreSmall modules

-- the place is that of a module or a cell
abbrev pub is_there : Parts → Target → Bool
is_there d (OfModule k) = is_some (slice_get d.modules k)
is_there d (OfCell k) = is_some (slice_get d.cells k)

-- the port at a position of a module, from 0
abbrev pub port_placed : Parts → ℕ → ℕ → Option Port
port_placed d k j = option_and_then (λ (m : Module). slice_get m.ports j) (slice_get d.modules k)

-- the position of the first port of a name
abbrev pub position_of : Parts → ℕ → ℕ → Option ℕ
position_of d k n = option_and_then (λ (m : Module). place_of_number n (port_names m.ports)) (slice_get d.modules k)

-- the first port of a name
abbrev pub port_named : Parts → ℕ → ℕ → Option Port
port_named d k n = option_and_then (port_placed d k) (position_of d k n)

-- a cell has a pin of the name, of signals or of power and ground
abbrev pub has_pin : Parts → ℕ → ℕ → Bool
has_pin d k n = option_map_or (λ (c : Cell). has_number n (pin_names c.pins) || has_number n (pg_names c.pgs)) (slice_get d.cells k) false

abbrev pub has_output : Parts → ℕ → ℕ → Bool
has_output d k n = option_map_or (λ (c : Cell). has_number n (output_names c.pins)) (slice_get d.cells k) false

abbrev pub has_pg : Parts → ℕ → ℕ → Bool
has_pg d k n = option_map_or (λ (c : Cell). has_number n (pg_names c.pgs)) (slice_get d.cells k) false
