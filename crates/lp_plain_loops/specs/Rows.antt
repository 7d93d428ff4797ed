-- What the nets of a module read, by their numbers: the rows of a graph (own rule).
use Rattle.std.specs.Prelude.{ℕ, List, [], ◌∷◌, ◌++◌, map, flat_map, replicate, length, Option, Some, None, is_some, option_to_list, unwrap_or, if◌then◌else◌, slice_index_or, slice_set}
use Rattle.lp_text.specs.Texts.{place_of}
use Rattle.lp_model.specs.NetlistView.{BitView, NetBit, PortView, NetView, ConnectionsView, InstanceView, ModuleView}
use Rattle.lp_model.specs.LibraryView.{ExprView, PinView, CellView}
use Rattle.lp_spec_design.specs.Keys.{Name}
use Rattle.lp_spec_design.specs.Netlists.{connected, is_input}
use Rattle.lp_spec_design.specs.Graph.{is_output_pin}
use Rattle.lp_spec_design.specs.Settled.{read_pin, function_of}
use Rattle.lp_spec_plain_netlist.specs.Fits.{cell_named}

-- a net's number is its place in this list
abbrev pub net_names : ModuleView → List Name
net_names m = map (λ (p : PortView). p.name) m.ports ++ map (λ (n : NetView). n.name) m.nets

-- the net at a pin, none where the pin is open
abbrev pub net_in : List BitView → Option Name
net_in (NetBit n ∷ rest) = Some n
net_in bits = None

abbrev pub net_at : ConnectionsView → Name → Option Name
net_at cs q = net_in (connected [] q cs)

abbrev pub number_of : List Name → Option Name → List ℕ
number_of nets None = []
number_of nets (Some n) = option_to_list (place_of n nets)

-- what a function reads by one of its names: the net at the input pin of that name; a state variable is no pin
abbrev pub if_pin : Option PinView → List ℕ → List ℕ
if_pin None row = []
if_pin (Some q) row = row

abbrev pub name_row : List Name → CellView → ConnectionsView → Name → List ℕ
name_row nets c cs v = if_pin (read_pin c v) (number_of nets (net_at cs v))

abbrev pub function_row : List Name → CellView → ConnectionsView → Option ExprView → List ℕ
function_row nets c cs None = []
function_row nets c cs (Some e) = flat_map (name_row nets c cs) e.variables

-- what an output pin reads
abbrev pub output_row : List Name → CellView → ConnectionsView → Name → List ℕ
output_row nets c cs q = function_row nets c cs (function_of c q)

-- a source: the net that it drives, and the numbers of the nets that it reads
abbrev pub Entry : Type 0
Entry = Name × List ℕ

abbrev pub net_entries : Option Name → List ℕ → List Entry
net_entries None row = []
net_entries (Some n) row = (n, row) ∷ []

abbrev pub pin_entries : List Name → CellView → ConnectionsView → PinView → List Entry
pin_entries nets c cs q = if is_output_pin q then net_entries (net_at cs q.name) (output_row nets c cs q.name) else []

abbrev pub cell_entries : List Name → ConnectionsView → Option CellView → List Entry
cell_entries nets cs None = []
cell_entries nets cs (Some c) = flat_map (pin_entries nets c cs) c.pins

abbrev pub instance_entries : List CellView → List Name → InstanceView → List Entry
instance_entries cells nets x = cell_entries nets x.connections (cell_named cells x.target)

-- an input is driven from outside, and so reads no net
abbrev pub port_entries : PortView → List Entry
port_entries p = if is_input p then (p.name, []) ∷ [] else []

-- the first source of each net is kept
abbrev pub note_at : List (Option (List ℕ)) → Option ℕ → List ℕ → List (Option (List ℕ))
note_at found None row = found
note_at found (Some k) row = if is_some (slice_index_or found k None) then found else slice_set found k (Some row)

abbrev pub note : List Name → List (Option (List ℕ)) → Entry → List (Option (List ℕ))
note nets found e = note_at found (place_of e.0 nets) e.1

abbrev pub note_all : List Name → List (Option (List ℕ)) → List Entry → List (Option (List ℕ))
note_all nets found [] = found
note_all nets found (e ∷ more) = note_all nets (note nets found e) more

-- what is noted of a module
abbrev pub noted : List CellView → List Name → ModuleView → List (Option (List ℕ))
noted cells nets m = note_all nets (note_all nets (replicate (length nets) None) (flat_map port_entries m.ports)) (flat_map (instance_entries cells nets) m.instances)

-- the numbers of the nets that a net reads
abbrev pub row_of : Option (List ℕ) → List ℕ
row_of found = unwrap_or found []

-- a row for each net
abbrev pub rows : List CellView → ModuleView → List (List ℕ)
rows cells m = map row_of (noted cells (net_names m) m)
