-- Uses of a port that the header of a module lists, before its direction stands, computed.
use Rattle.std.proofs.Common.{◌≡◌, true, false, [], ◌∷◌, Some, None, refl}
use Rattle.lp_model.specs.declared.netlist.Direction.TheVariants.{Input}
use Rattle.lp_model.specs.declared.netlist.BitRange.{BitRange}
use Rattle.lp_verilog_draft.specs.declared.declaring.Declaring.{Declaring}
use Rattle.lp_verilog_draft.specs.declared.declaring.Form.TheVariants.{Ports, Wires}
use Rattle.lp_verilog_draft.specs.declared.scope.Kind.TheVariants as kinds
use Rattle.lp_verilog_draft.specs.declared.stop.Off.TheVariants.{Syntax, Duplicate}
use Rattle.lp_verilog_draft.specs.declared.value.Side.TheVariants.{Left, Right, Connection}
use Rattle.lp_verilog_draft.specs.Scopes.{Entries, listed, declare, use_name}
use Rattle.lp_verilog_draft.specs.Verdicts.{Goes, Stops, and_then}

-- `module m (a);`, whose `a` is byte 10
abbrev header : Entries
header = (5, listed 10) ∷ []

abbrev scalar : Entries
scalar = (5, record { kind = kinds.Port; direction = None; range = None; fixed = true; wired = false; at = 10 }) ∷ []

abbrev vector : BitRange
vector = record { left = 1; right = 0 }

abbrev input_vector : Declaring
input_vector = record { form = Ports; direction = Input; range = Some vector; left = 1 }

abbrev wire_scalar : Declaring
wire_scalar = record { form = Wires; direction = Input; range = None; left = 0 }

right_side : use_name Right 30 header (record { 0 = 5 }) ≡ Stops Syntax
right_side = refl

left_side : use_name Left 30 header (record { 0 = 5 }) ≡ Goes scalar
left_side = refl

connection : use_name Connection 30 header (record { 0 = 5 }) ≡ Goes scalar
connection = refl

-- what a connection has made a scalar may stand on a right side, and no range can follow
right_side_later : use_name Right 40 scalar (record { 0 = 5 }) ≡ Goes scalar
right_side_later = refl

range_later : declare input_vector 40 scalar (record { 0 = 5 }) ≡ Stops (Duplicate (record { 0 = 5 }))
range_later = refl

-- a `wire` item declares the port
right_side_of_a_wire : and_then (declare wire_scalar 20 header (record { 0 = 5 })) (λ es. use_name Right 30 es (record { 0 = 5 })) ≡ declare wire_scalar 20 header (record { 0 = 5 })
right_side_of_a_wire = refl
