-- What each token does to the netlist that is read.
use Rattle.std.specs.Prelude.{ℕ, true, false, ◌&&◌, List, [], ◌∷◌, ◌++◌, Option, Some, None, if◌then◌else◌}
use Rattle.lp_text.specs.declared.names.NameId.{NameId}
use Rattle.lp_model.specs.declared.netlist.BitRange.{BitRange}
use Rattle.lp_model.specs.declared.netlist.Connections.{Connections}
use Rattle.lp_model.specs.declared.netlist.Connections.TheVariants.{Named, Ordered}
use Rattle.lp_model.specs.declared.netlist.Instance.{Instance}
use Rattle.lp_model.specs.declared.netlist.Module.{Module}
use Rattle.lp_model.specs.declared.bits.Bit.{Bit}
use Rattle.lp_model.specs.declared.bits.Bit.TheVariants as bits
use Rattle.lp_verilog_draft.specs.declared.stop.Off.TheVariants as offs
use Rattle.lp_verilog_draft.specs.declared.value.Side.{Side}
use Rattle.lp_verilog_draft.specs.declared.value.Side.TheVariants as sides
use Rattle.lp_verilog_draft.specs.declared.value.Value.{Value}
use Rattle.lp_verilog_draft.specs.declared.draft.Joint.{Joint}
use Rattle.lp_verilog_draft.specs.declared.draft.Draft.{Draft}
use Rattle.lp_verilog_draft.specs.Values.{is_in, goes_along, select, whole, constant_bits}
use Rattle.lp_verilog_draft.specs.Scopes.{lacking_of, ports_of, nets_of}
use Rattle.lp_verilog_draft.specs.Verdicts.{Verdict, Goes, Stops}

-- stands where no name has been read, and is the number of none
abbrev pub no_name : NameId
no_name = record { 0 = 4294967295 }

abbrev pub no_value : Value
no_value = record { side = sides.Connection; subject = no_name; range = None; index = 0; bits = [] }

abbrev pub value_side : Side → Value → Value
value_side side v = record v { side = side }

abbrev pub value_subject : NameId → Option BitRange → Value → Value
value_subject name range v = record v { subject = name; range = range }

-- only a vector has a select
abbrev pub value_select_by : Value → Option BitRange → Verdict Value
value_select_by v None = Stops offs.Syntax
value_select_by v (Some r) = Goes v

abbrev pub value_select : Value → Verdict Value
value_select v = value_select_by v v.range

-- an index has to lie in the range
abbrev pub value_index_by : ℕ → Value → Option BitRange → Verdict Value
value_index_by i v None = Stops offs.Syntax
value_index_by i v (Some r) = if is_in r i then Goes (record v { index = i }) else Stops offs.Syntax

abbrev pub value_index : ℕ → Value → Verdict Value
value_index i v = value_index_by i v v.range

abbrev pub value_with : List Bit → Value → Value
value_with more v = record v { bits = v.bits ++ more }

abbrev pub value_one : Value → Value
value_one v = value_with (bits.Select v.subject v.index ∷ []) v

-- a second index has to lie in the range, and behind the first one
abbrev pub value_many_by : ℕ → Value → Option BitRange → Verdict Value
value_many_by j v None = Stops offs.Syntax
value_many_by j v (Some r) = if is_in r j && goes_along r v.index j then Goes (value_with (select v.subject v.index j) v) else Stops offs.Syntax

abbrev pub value_many : ℕ → Value → Verdict Value
value_many j v = value_many_by j v v.range

abbrev pub value_whole : Value → Value
value_whole v = value_with (whole v.subject v.range) v

-- no constant on a left side
abbrev pub constant_on : Side → ℕ → ℕ → Value → Verdict Value
constant_on sides.Left size value v = Stops offs.Syntax
constant_on sides.Right size value v = Goes (value_with (constant_bits size value) v)
constant_on sides.Connection size value v = Goes (value_with (constant_bits size value) v)

abbrev pub value_constant : ℕ → ℕ → Value → Verdict Value
value_constant size value v = constant_on v.side size value v

abbrev pub value_emptied : Value → Value
value_emptied v = record v { bits = [] }

abbrev pub no_joint : Joint
no_joint = record { target = no_name; name = no_name; port = no_name; positional = false; named = []; ordered = [] }

abbrev pub joint_named : List Bit → Joint → Joint
joint_named value j = record j { named = j.named ++ record { bits = value; port = j.port } ∷ [] }

abbrev pub joint_ordered : List Bit → Joint → Joint
joint_ordered value j = record j { ordered = j.ordered ++ value ∷ [] }

abbrev pub joint_connections : Joint → Connections
joint_connections j = if j.positional then Ordered j.ordered else Named j.named

abbrev pub joint_instance : Joint → Instance
joint_instance j = record { name = j.name; target = j.target; connections = joint_connections j }

abbrev pub joint_emptied : Joint → Joint
joint_emptied j = record j { named = []; ordered = [] }

abbrev pub joint_target : NameId → Joint → Joint
joint_target name j = record j { target = name }

abbrev pub joint_begun : NameId → Joint → Joint
joint_begun name j = record j { name = name; positional = false }

abbrev pub joint_port : NameId → Joint → Joint
joint_port name j = record j { port = name }

abbrev pub joint_positional : Joint → Joint
joint_positional j = record j { positional = true }

abbrev pub module_named : NameId → Draft
module_named name = record { name = name; scope = []; instances = []; assigns = [] }

abbrev pub with_instance : Instance → Draft → Draft
with_instance i d = record d { instances = d.instances ++ i ∷ [] }

abbrev pub with_assign : List Bit → List Bit → Draft → Draft
with_assign l r d = record d { assigns = d.assigns ++ record { left = l; right = r } ∷ [] }

abbrev pub module_of : Draft → Module
module_of d = record { name = d.name; ports = ports_of d.scope; nets = nets_of d.scope; instances = d.instances; assigns = d.assigns }

-- each port has a direction at the end of its module
abbrev pub end_by : Draft → Option ℕ → Verdict Module
end_by d None = Goes (module_of d)
end_by d (Some at) = Stops (offs.Lacking at)

abbrev pub end_module : Draft → Verdict Module
end_module d = end_by d (lacking_of d.scope)
