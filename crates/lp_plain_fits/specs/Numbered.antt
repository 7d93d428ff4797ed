-- When a module fits the cells, by the numbers of names in place of their texts.
use Rattle.std.specs.Prelude.{ℕ, Bool, true, false, not, ◌&&◌, ◌==◌, List, [], ◌∷◌, ◌++◌, map, filter, Option, Some, None, is_none, flat_map, if◌then◌else◌}
use Rattle.std.specs.List.{list_all, list_any}
use Rattle.lp_model.specs.declared.bits.Bit.{Bit}
use Rattle.lp_model.specs.declared.bits.Bit.TheVariants.{Net}
use Rattle.lp_model.specs.declared.netlist.Direction.{Direction}
use Rattle.lp_model.specs.declared.netlist.Direction.TheVariants.{Input, Output}
use Rattle.lp_model.specs.declared.netlist.Port.{Port}
use Rattle.lp_model.specs.declared.netlist.Connection.{Connection}
use Rattle.lp_model.specs.declared.netlist.Connections.{Connections}
use Rattle.lp_model.specs.declared.netlist.Connections.TheVariants.{Named, Ordered}
use Rattle.lp_model.specs.declared.netlist.Instance.{Instance}
use Rattle.lp_model.specs.declared.netlist.Module.{Module}
use Rattle.lp_model.specs.declared.library.PgPin.{PgPin}
use Rattle.lp_model.specs.declared.library.Pin.{Pin}
use Rattle.lp_model.specs.declared.library.Cell.{Cell}
use Rattle.lp_spec_plain_netlist.specs.Fits.{is_extra}
use Rattle.lp_plain_index.specs.Places.{has_number}
use Rattle.lp_plain_index.specs.Cells.{cell_numbered}

abbrev pub are_distinct : List ℕ → Bool
are_distinct [] = true
are_distinct (n ∷ ns) = not (has_number n ns) && are_distinct ns

-- ---- cells

abbrev pub is_taken : Cell → Bool
is_taken c =
    is_none c.unusable
    && (is_none c.roles.shifter
    && (is_none c.roles.retention
    && (not c.roles.switch
    && list_all (λ (g : PgPin). not (is_extra g.kind)) c.pgs)))

-- ---- connections

abbrev pub named : Connections → List Connection
named (Named cs) = cs
named (Ordered values) = []

abbrev pub has_pin : ℕ → List Pin → Bool
has_pin n pins = list_any (λ (q : Pin). n == q.name.0) pins

abbrev pub connects : ℕ → List Connection → Bool
connects n cs = list_any (λ (c : Connection). n == c.port.0) cs

abbrev pub connects_once : List Connection → Bool
connects_once [] = true
connects_once (c ∷ cs) = not (connects c.port.0 cs) && connects_once cs

abbrev pub connects_each_once : List Connection → List Pin → Bool
connects_each_once cs pins = list_all (λ (c : Connection). has_pin c.port.0 pins) cs && (connects_once cs && list_all (λ (q : Pin). connects q.name.0 cs) pins)

abbrev pub is_joined : Instance → Option Cell → Bool
is_joined x None = false
is_joined x (Some c) = is_taken c && connects_each_once (named x.connections) c.pins

abbrev pub are_joined : List Cell → List Instance → Bool
are_joined cells xs = list_all (λ (x : Instance). is_joined x (cell_numbered cells x.target.0)) xs

-- ---- sources of nets

abbrev pub is_input : Direction → Bool
is_input Input = true
is_input Output = false

abbrev pub is_output : Direction → Bool
is_output Input = false
is_output Output = true

abbrev pub inputs : List Port → List ℕ
inputs ports = map (λ (p : Port). p.name.0) (filter (λ (p : Port). is_input p.direction) ports)

abbrev pub net_of : List Bit → List ℕ
net_of (Net n ∷ []) = n.0 ∷ []
net_of bits = []

abbrev pub is_output_of : List Pin → ℕ → Bool
is_output_of pins n = list_any (λ (q : Pin). is_output q.direction && (q.name.0 == n)) pins

abbrev pub driven_at : List Pin → Connection → List ℕ
driven_at pins k = if is_output_of pins k.port.0 then net_of k.bits else []

abbrev pub driven_by : List Connection → Option Cell → List ℕ
driven_by cs None = []
driven_by cs (Some c) = flat_map (driven_at c.pins) cs

abbrev pub driven : List Cell → List Instance → List ℕ
driven cells xs = flat_map (λ (x : Instance). driven_by (named x.connections) (cell_numbered cells x.target.0)) xs

-- ---- the whole test

abbrev pub is_fit : List Cell → Module → Bool
is_fit cells m =
    is_none (cell_numbered cells m.name.0)
    && (are_joined cells m.instances
    && are_distinct (inputs m.ports ++ driven cells m.instances))
