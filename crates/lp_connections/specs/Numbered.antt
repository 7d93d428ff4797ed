-- The faults of connections and assigns by the numbers of names in place of their texts (IEEE 1364-2005, port connections, continuous assignments; Liberty pg_pin).
use Rattle.std.specs.Prelude.{ℕ, ◌+◌, ◌==◌, Bool, true, false, not, ◌&&◌, ◌||◌, List, [], ◌∷◌, ◌++◌, length, Option, Some, None, is_some, option_map, option_and_then, slice_get, slice_index_or, if◌then◌else◌}
use Rattle.std.specs.List.{list_any}
use Rattle.lp_text.specs.declared.names.NameId.{NameId}
use Rattle.lp_model.specs.Bits.{is_constant}
use Rattle.lp_model.specs.declared.bits.Bit.{Bit}
use Rattle.lp_model.specs.declared.reason.Reason.{Reason}
use Rattle.lp_model.specs.declared.fault.netlist.InstanceRef.{InstanceRef}
use Rattle.lp_model.specs.declared.fault.netlist.JoinRef.{JoinRef}
use Rattle.lp_model.specs.declared.fault.netlist.JoinRef.TheVariants as joins
use Rattle.lp_model.specs.declared.fault.netlist.NetlistFault.{NetlistFault}
use Rattle.lp_model.specs.declared.fault.netlist.NetlistFault.TheVariants as faults
use Rattle.lp_model.specs.declared.fault.netlist.PinRef.{PinRef}
use Rattle.lp_model.specs.declared.fault.netlist.PinRef.TheVariants as pins
use Rattle.lp_model.specs.declared.fault.netlist.UnfitReason.{UnfitReason}
use Rattle.lp_model.specs.declared.fault.netlist.UnfitReason.TheVariants as unfit
use Rattle.lp_model.specs.declared.library.Cell.{Cell}
use Rattle.lp_model.specs.declared.library.PgKind.{PgKind}
use Rattle.lp_model.specs.declared.library.PgPin.{PgPin}
use Rattle.lp_model.specs.declared.netlist.Assign.{Assign}
use Rattle.lp_model.specs.declared.netlist.Connection.{Connection}
use Rattle.lp_model.specs.declared.netlist.Connections.{Connections}
use Rattle.lp_model.specs.declared.netlist.Connections.TheVariants.{Named, Ordered}
use Rattle.lp_model.specs.declared.netlist.Instance.{Instance}
use Rattle.lp_model.specs.declared.netlist.Module.{Module}
use Rattle.lp_model.specs.declared.netlist.Port.{Port}
use Rattle.lp_spec_design.specs.Netlists.{first}
use Rattle.lp_spec_faults.specs.Modules.{bit_count, is_backup, is_internal}
use Rattle.lp_places.specs.Places.{has_number}
use Rattle.lp_targets.specs.Reports.{or_else}
use Rattle.lp_targets.specs.declared.target.Target.{Target}
use Rattle.lp_targets.specs.declared.target.Target.TheVariants.{OfModule, OfCell}
use Rattle.lp_connections.specs.Parts.{Parts, is_outward, is_there, port_placed, port_named, has_pin, has_output, has_pg}
use Rattle.lp_connections.specs.declared.question.Question.{Question}
use Rattle.lp_connections.specs.declared.question.Question.TheVariants.{Pins, Powered, Widths, Cells}

-- what the first of a list gives that gives anything, by its number and itself
abbrev pub found_at : {A B : Type 0} → (ℕ → A → Option B) → ℕ → List A → Option B
found_at f k [] = None
found_at f k (x ∷ xs) = or_else (f k x) (found_at f (k + 1) xs)

-- the name that a connection has
abbrev pub port_name : Option Connection → Option NameId
port_name o = option_map (λ (c : Connection). c.port) o

-- ---- no port or pin takes a connection, it is the second of its name, or it has a constant at an output

abbrev pub has_constant : List Bit → Bool
has_constant bits = list_any is_constant bits

abbrev pub refuses : Option Port → Bool → List Bit → Bool
refuses None second bits = true
refuses (Some p) second bits = second || (is_outward p.direction && has_constant bits)

abbrev pub refuses_named : Parts → Target → Bool → Connection → Bool
refuses_named d (OfModule k) second c = refuses (port_named d k c.port.0) second c.bits
refuses_named d (OfCell k) second c = not (has_pin d k c.port.0) || (second || (has_output d k c.port.0 && has_constant c.bits))

abbrev pub refuses_placed : Parts → Target → ℕ → List Bit → Bool
refuses_placed d (OfModule k) j bits = refuses (port_placed d k j) false bits
refuses_placed d (OfCell k) j bits = true

-- the name of the first that is refused, behind connections of these names
abbrev pub first_named : Parts → Target → List ℕ → List Connection → Option NameId
first_named d t before [] = None
first_named d t before (c ∷ cs) = if refuses_named d t (has_number c.port.0 before) c then Some c.port else first_named d t (before ++ c.port.0 ∷ []) cs

-- the position of the first that is refused, from 1
abbrev pub refused_at : Parts → Target → ℕ → List Bit → Option ℕ
refused_at d t j bits = if refuses_placed d t j bits then Some (j + 1) else None

abbrev pub first_placed : Parts → Target → ℕ → List (List Bit) → Option ℕ
first_placed d t j values = found_at (refused_at d t) j values

abbrev pub refused_in : Parts → Target → Connections → Option PinRef
refused_in d t (Named cs) = option_map (λ n. pins.Named n) (first_named d t [] cs)
refused_in d t (Ordered values) = option_map (λ n. pins.Ordered n) (first_placed d t 0 values)

abbrev pub unknown_pin_of : Parts → Target → Connections → Option PinRef
unknown_pin_of d t cs = if is_there d t then refused_in d t cs else None

-- ---- a connection names a power or ground pin

abbrev pub powered_pin_of : Parts → Target → Connections → Option NameId
powered_pin_of d (OfCell k) (Named cs) = port_name (first (λ (c : Connection). has_pg d k c.port.0) cs)
powered_pin_of d (OfCell k) (Ordered values) = None
powered_pin_of d (OfModule k) cs = None

-- ---- two joined values have different numbers of bits

-- an open connection has no bits to count
abbrev pub is_uneven : Option ℕ → List Bit → Bool
is_uneven None bits = false
is_uneven (Some width) bits = not (length bits == 0) && not (length bits == width)

abbrev pub width_named : Parts → Target → ℕ → Option ℕ
width_named d (OfModule k) n = option_map (λ (p : Port). bit_count p.range) (port_named d k n)
width_named d (OfCell k) n = if has_pin d k n then Some 1 else None

abbrev pub uneven_named : Parts → Target → Connection → Bool
uneven_named d t c = is_uneven (width_named d t c.port.0) c.bits

-- the port of a position, where its width is another
abbrev pub uneven_port : Option Port → List Bit → Option NameId
uneven_port None bits = None
uneven_port (Some p) bits = if is_uneven (Some (bit_count p.range)) bits then Some p.name else None

abbrev pub uneven_placed : Parts → Target → ℕ → List Bit → Option NameId
uneven_placed d (OfModule k) j bits = uneven_port (port_placed d k j) bits
uneven_placed d (OfCell k) j bits = None

abbrev pub uneven_pin_of : Parts → Target → Connections → Option NameId
uneven_pin_of d t (Named cs) = port_name (first (uneven_named d t) cs)
uneven_pin_of d t (Ordered values) = found_at (uneven_placed d t) 0 values

-- the number of an assign with other sides
abbrev pub uneven_assign : ℕ → Assign → Option ℕ
uneven_assign k a = if not (length a.left == length a.right) then Some k else None

-- ---- a cell that a source may not have

abbrev pub has_kind : (PgKind → Bool) → List PgPin → Bool
has_kind test pgs = list_any (λ (g : PgPin). test g.kind) pgs

-- of a cell that can be used
abbrev pub reason_by_role : Cell → Option UnfitReason
reason_by_role c =
    if is_some c.roles.shifter then Some unfit.Shifter
    else if is_some c.roles.retention then Some unfit.RetentionCell
    else if c.roles.switch then Some unfit.SwitchCell
    else if has_kind is_backup c.pgs then Some unfit.Backup
    else if has_kind is_internal c.pgs then Some unfit.Internal
    else None

abbrev pub reason_by : Option Reason → Cell → Option UnfitReason
reason_by (Some reason) c = Some (unfit.Unusable reason)
reason_by None c = reason_by_role c

abbrev pub reason_of : Cell → Option UnfitReason
reason_of c = reason_by c.unusable c

abbrev pub unfit_reason_of : Parts → Target → Option UnfitReason
unfit_reason_of d (OfModule k) = None
unfit_reason_of d (OfCell k) = option_and_then reason_of (slice_get d.cells k)

-- ---- the faults of one question

abbrev pub at_of : NameId → Instance → InstanceRef
at_of parent x = record { parent = parent; instance = x.name }

abbrev pub join_of : Instance → NameId → JoinRef
join_of x port = joins.Connection x.name port

abbrev pub pin_fault : Parts → NameId → Target → Instance → Option NetlistFault
pin_fault d parent t x = option_map (λ pin. faults.UnknownPin (at_of parent x) pin) (unknown_pin_of d t x.connections)

abbrev pub power_fault : Parts → NameId → Target → Instance → Option NetlistFault
power_fault d parent t x = option_map (λ pin. faults.AlreadyPowered (at_of parent x) pin) (powered_pin_of d t x.connections)

abbrev pub width_fault : Parts → NameId → Target → Instance → Option NetlistFault
width_fault d parent t x = option_map (λ port. faults.Width parent (join_of x port)) (uneven_pin_of d t x.connections)

abbrev pub cell_fault : Parts → NameId → Target → Instance → Option NetlistFault
cell_fault d parent t x = option_map (λ reason. faults.UnfitCell (at_of parent x) reason) (unfit_reason_of d t)

abbrev pub fault_of : Question → Parts → NameId → Target → Instance → Option NetlistFault
fault_of Pins d parent t x = pin_fault d parent t x
fault_of Powered d parent t x = power_fault d parent t x
fault_of Widths d parent t x = width_fault d parent t x
fault_of Cells d parent t x = cell_fault d parent t x

-- ---- in their order

-- of the instance at a place, by the target at that place
abbrev pub fault_placed : Question → Parts → NameId → List Target → ℕ → Instance → Option NetlistFault
fault_placed q d parent row j x = option_and_then (λ t. fault_of q d parent t x) (slice_get row j)

abbrev pub instance_fault : Question → Parts → NameId → List Target → List Instance → Option NetlistFault
instance_fault q d parent row xs = found_at (fault_placed q d parent row) 0 xs

abbrev pub assign_fault : NameId → List Assign → Option NetlistFault
assign_fault parent assigns = option_map (λ number. faults.Width parent (joins.Assign number)) (found_at uneven_assign 0 assigns)

-- assigns are asked for widths alone, behind the instances of their module
abbrev pub own_fault : Question → NameId → List Assign → Option NetlistFault
own_fault Pins parent assigns = None
own_fault Powered parent assigns = None
own_fault Widths parent assigns = assign_fault parent assigns
own_fault Cells parent assigns = None

abbrev pub module_fault : Question → Parts → List Target → Module → Option NetlistFault
module_fault q d row m = or_else (instance_fault q d m.name row m.instances) (own_fault q m.name m.assigns)

abbrev pub row_of : List (List Target) → ℕ → List Target
row_of rows k = slice_index_or rows k []

abbrev pub line_fault : Question → Parts → List (List Target) → List Module → Option NetlistFault
line_fault q d rows ms = found_at (λ k m. module_fault q d (row_of rows k) m) 0 ms

-- one line behind the other
abbrev pub first_fault : Parts → List (List Target) → Option NetlistFault
first_fault d rows =
    or_else (line_fault Pins d rows d.modules)
    (or_else (line_fault Powered d rows d.modules)
    (or_else (line_fault Widths d rows d.modules) (line_fault Cells d rows d.modules)))
