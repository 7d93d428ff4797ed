-- Which pins of each cell drive what is connected to them, and the places that statements drive (Liberty pin direction, switch_function).
use Rattle.std.specs.Prelude.{ℕ, Bool, true, false, List, [], Option, Some, None, ◌++◌, map, flat_map, is_some, slice_index_or}
use Rattle.lp_model.specs.declared.graph.PinNet.{PinNet}
use Rattle.lp_model.specs.declared.library.Cell.{Cell}
use Rattle.lp_model.specs.declared.library.Pin.{Pin}
use Rattle.lp_model.specs.declared.library.PgPin.{PgPin}
use Rattle.lp_model.specs.declared.netlist.Direction.{Direction}
use Rattle.lp_model.specs.declared.netlist.Direction.TheVariants.{Input, Output}
use Rattle.lp_spec_design.specs.Graph.{pairs, and_more, some_of}
use Rattle.lp_spec_layout.specs.Parts.{Statement, OfModule, OfCell, Template}
use Rattle.lp_spec_drivers.specs.Drivers.{joint_places, pin_place}

abbrev pub is_output : Direction → Bool
is_output Input = false
is_output Output = true

-- signal pins, then power and ground pins
abbrev pub pins_driving : Cell → List Bool
pins_driving c = map (λ (q : Pin). is_output q.direction) c.pins ++ map (λ (g : PgPin). is_some g.switched) c.pgs

-- by what is known of the cells
abbrev pub places_by : List (List Bool) → Statement → List ℕ
places_by cells (OfModule c) = joint_places c.outputs
places_by cells (OfCell c) = some_of pin_place (pairs (slice_index_or cells c.of []) c.row)

abbrev pub places_inside : List (List Bool) → Template → List ℕ
places_inside cells x = flat_map (places_by cells) x.statements ++ joint_places x.assigns

-- ---- for loops

-- the place at a pin, where it drives
abbrev pub place_at_pin : Option Bool → PinNet → List ℕ
place_at_pin None net = []
place_at_pin (Some d) net = and_more (pin_place (d, net)) []

-- the places of a statement, where there is one
abbrev pub places_at : List (List Bool) → Option Statement → List ℕ
places_at cells None = []
places_at cells (Some z) = places_by cells z
