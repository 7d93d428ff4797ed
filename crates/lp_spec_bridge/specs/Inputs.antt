-- What is connected to the input pins of a cell instance, by number (own rule).
use Rattle.std.specs.Prelude.{ℕ, List, [], map, Option, Some, None, if◌then◌else◌, slice_get, slice_index_or}
use Rattle.lp_model.specs.declared.graph.EdgeFrom.{EdgeFrom}
use Rattle.lp_model.specs.declared.graph.EdgeFrom.TheVariants.{Node as FromNode, Const as FromConst}
use Rattle.lp_model.specs.declared.graph.Leaf.{Leaf}
use Rattle.lp_model.specs.declared.graph.PinNet.{PinNet}
use Rattle.lp_model.specs.declared.graph.PinNet.TheVariants.{Unconnected, Const as PinConst, Node as PinNode}
use Rattle.lp_model.specs.LibraryView.{CellView, PinView}
use Rattle.lp_spec_design.specs.Keys.{Name, Node}
use Rattle.lp_spec_design.specs.Netlists.{Structure}
use Rattle.lp_spec_design.specs.Instances.{Placed}
use Rattle.lp_spec_design.specs.Graph.{Reader, InputPin, pairs, some_of, numbered, is_output_pin}
use Rattle.lp_spec_bridge.specs.Tables.{Tables}
use Rattle.lp_spec_bridge.specs.Keyed.{Keyed}
use Rattle.lp_spec_bridge.specs.Represents.{row_of, from_key}

-- a pin by its number with what is connected to it, none where it is open
abbrev pub placed : ℕ → PinNet → Option (ℕ × EdgeFrom)
placed j Unconnected = None
placed j (PinConst b) = Some (j, FromConst b)
placed j (PinNode k) = Some (j, FromNode k)

abbrev pub input_at : (ℕ × PinView) × PinNet → Option (ℕ × EdgeFrom)
input_at z = if is_output_pin z.0.1 then None else placed z.0.0 z.1

-- the input pins of a row that are connected
abbrev pub inputs_in : Option CellView → List PinNet → List (ℕ × EdgeFrom)
inputs_in None row = []
inputs_in (Some c) row = some_of input_at (pairs (numbered 0 c.pins) row)

abbrev pub inputs_by : Structure → Tables → Leaf → List (ℕ × EdgeFrom)
inputs_by s t l = inputs_in (slice_get s.cells l.cell.0) (row_of s t l)

-- the names of a cell's pins
abbrev pub pin_names : Option CellView → List Name
pin_names None = []
pin_names (Some c) = map (λ (q : PinView). q.name) c.pins

-- what such a pin is as a reader, with its node
abbrev pub input_key : Keyed → Placed → Option CellView → ℕ × EdgeFrom → Reader × Node
input_key ks a c x = (InputPin a.path a.instance (slice_index_or (pin_names c) x.0 []), from_key ks x.1)
