-- The rows of a module by the numbers of names in place of their texts.
use Rattle.std.specs.Prelude.{◌≡◌, ℕ, ◌==◌, Bool, true, false, ◌&&◌, List, [], ◌∷◌, ◌++◌, map, flat_map, replicate, length, Option, Some, None, option_to_list, option_and_then, if◌then◌else◌}
use Rattle.lp_text.specs.declared.names.NameId.{NameId}
use Rattle.lp_expr.specs.Formula.{Formula}
use Rattle.lp_model.specs.declared.bits.Bit.{Bit}
use Rattle.lp_model.specs.declared.bits.Bit.TheVariants.{Net}
use Rattle.lp_model.specs.declared.netlist.Direction.{Direction}
use Rattle.lp_model.specs.declared.netlist.Direction.TheVariants.{Input, Output}
use Rattle.lp_model.specs.declared.netlist.Port.{Port}
use Rattle.lp_model.specs.declared.netlist.NetDecl.{NetDecl}
use Rattle.lp_model.specs.declared.netlist.Connection.{Connection}
use Rattle.lp_model.specs.declared.netlist.Connections.{Connections}
use Rattle.lp_model.specs.declared.netlist.Connections.TheVariants.{Named, Ordered}
use Rattle.lp_model.specs.declared.netlist.Instance.{Instance}
use Rattle.lp_model.specs.declared.netlist.Module.{Module}
use Rattle.lp_model.specs.declared.library.Pin.{Pin}
use Rattle.lp_model.specs.declared.library.Cell.{Cell}
use Rattle.lp_behaviour.specs.Signals.{is_input}
use Rattle.lp_spec_design.specs.Netlists.{first}
use Rattle.lp_plain_index.specs.Places.{place_of_number}
use Rattle.lp_plain_index.specs.Cells.{cell_numbered}
use Rattle.lp_plain_loops.specs.declared.driver.Driver.{Driver}
use Rattle.lp_plain_loops.specs.declared.driver.Driver.TheVariants as driver
use Rattle.lp_plain_loops.specs.Rows.{note_at, row_of}

-- the nets in the order of their numbers
abbrev pub net_numbers : Module → List ℕ
net_numbers m = map (λ (p : Port). p.name.0) m.ports ++ map (λ (n : NetDecl). n.name.0) m.nets

abbrev pub is_in : Direction → Bool
is_in Input = true
is_in Output = false

abbrev pub is_out : Direction → Bool
is_out Input = false
is_out Output = true

abbrev pub named : Connections → List Connection
named (Named cs) = cs
named (Ordered values) = []

-- ---- pins

abbrev pub net_in : List Bit → Option NameId
net_in (Net n ∷ rest) = Some n
net_in bits = None

abbrev pub bits_at : List Connection → ℕ → List Bit
bits_at [] n = []
bits_at (c ∷ cs) n = if c.port.0 == n then c.bits else bits_at cs n

abbrev pub net_at : List Connection → ℕ → Option NameId
net_at cs n = net_in (bits_at cs n)

abbrev pub pin_at : List Pin → ℕ → Option Pin
pin_at pins n = first (λ (q : Pin). q.name.0 == n) pins

abbrev pub input_at : List Pin → ℕ → Option Pin
input_at pins n = first (λ (q : Pin). is_input q.direction && (q.name.0 == n)) pins

-- ---- rows

abbrev pub number_of : List ℕ → Option NameId → Option ℕ
number_of nets None = None
number_of nets (Some n) = place_of_number n.0 nets

abbrev pub if_pin : Option Pin → Option ℕ → Option ℕ
if_pin None number = None
if_pin (Some q) number = number

-- the number of the net at the input pin of a name
abbrev pub name_number : List ℕ → List Pin → List Connection → ℕ → Option ℕ
name_number nets pins cs v = if_pin (input_at pins v) (number_of nets (net_at cs v))

abbrev pub name_row : List ℕ → List Pin → List Connection → NameId → List ℕ
name_row nets pins cs v = option_to_list (name_number nets pins cs v.0)

abbrev pub function_row : List ℕ → List Pin → List Connection → Option Formula → List ℕ
function_row nets pins cs None = []
function_row nets pins cs (Some e) = flat_map (name_row nets pins cs) e.variables

abbrev pub function_at : List Pin → ℕ → Option Formula
function_at pins q = option_and_then (λ (x : Pin). x.function) (pin_at pins q)

abbrev pub output_row : List ℕ → List Pin → List Connection → ℕ → List ℕ
output_row nets pins cs q = function_row nets pins cs (function_at pins q)

abbrev pub driver_row : List ℕ → Driver → List ℕ
driver_row nets driver.Port = []
driver_row nets (driver.Pin i c q) = output_row nets c.now.pins (named i.now.connections) q.0

-- ---- what is noted

-- a source: the number of the name of the net that it drives, and the numbers of the nets that it reads
abbrev pub Entry : Type 0
Entry = ℕ × List ℕ

abbrev pub net_entries : Option NameId → List ℕ → List Entry
net_entries None row = []
net_entries (Some n) row = (n.0, row) ∷ []

-- the source of the net at the output pin of a name
abbrev pub output_entries : List ℕ → List Pin → List Connection → ℕ → List Entry
output_entries nets pins cs q = net_entries (net_at cs q) (output_row nets pins cs q)

abbrev pub pin_entries : List ℕ → List Pin → List Connection → Pin → List Entry
pin_entries nets pins cs q = if is_out q.direction then output_entries nets pins cs q.name.0 else []

abbrev pub cell_entries : List ℕ → List Connection → Option Cell → List Entry
cell_entries nets cs None = []
cell_entries nets cs (Some c) = flat_map (pin_entries nets c.pins cs) c.pins

abbrev pub instance_entries : List Cell → List ℕ → Instance → List Entry
instance_entries cells nets i = cell_entries nets (named i.connections) (cell_numbered cells i.target.0)

abbrev pub port_entries : Port → List Entry
port_entries p = if is_in p.direction then (p.name.0, []) ∷ [] else []

abbrev pub note : List ℕ → List (Option (List ℕ)) → Entry → List (Option (List ℕ))
note nets found e = note_at found (place_of_number e.0 nets) e.1

abbrev pub note_all : List ℕ → List (Option (List ℕ)) → List Entry → List (Option (List ℕ))
note_all nets found [] = found
note_all nets found (e ∷ more) = note_all nets (note nets found e) more

abbrev pub noted : List Cell → List ℕ → Module → List (Option (List ℕ))
noted cells nets m = note_all nets (note_all nets (replicate (length nets) None) (flat_map port_entries m.ports)) (flat_map (instance_entries cells nets) m.instances)

abbrev pub rows : List Cell → Module → List (List ℕ)
rows cells m = map row_of (noted cells (net_numbers m) m)

-- what is noted, by the rows of the drivers
abbrev pub shown : List ℕ → Option Driver → Option (List ℕ)
shown nets None = None
shown nets (Some d) = Some (driver_row nets d)

abbrev pub all_shown : List ℕ → List (Option Driver) → List (Option (List ℕ))
all_shown nets found = map (shown nets) found

-- what was noted has these sources more
abbrev pub Notes : List ℕ → List (Option Driver) → List (Option Driver) → List Entry → Type 0
Notes nets old new more = all_shown nets new ≡ note_all nets (all_shown nets old) more
