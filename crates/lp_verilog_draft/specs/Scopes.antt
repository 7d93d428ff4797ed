-- What the names of a module stand for, in the order of their first declaration or use, and how declarations change it
-- (IEEE 1364-2005, module declarations, implicit declarations).
use Rattle.std.specs.Prelude.{ℕ, Bool, true, false, not, ◌&&◌, ◌||◌, ◌==◌, nat_eq, List, [], ◌∷◌, Option, Some, None, is_none, if◌then◌else◌}
use Rattle.std.specs.Map.{lookup}
use Rattle.indexmap.specs.IndexMap.{insert_entry}
use Rattle.lp_text.specs.declared.names.NameId.{NameId}
use Rattle.lp_model.specs.declared.netlist.Direction.{Direction}
use Rattle.lp_model.specs.declared.netlist.BitRange.{BitRange}
use Rattle.lp_model.specs.declared.netlist.Port.{Port}
use Rattle.lp_model.specs.declared.netlist.NetDecl.{NetDecl}
use Rattle.lp_verilog_draft.specs.declared.scope.Kind.{Kind}
use Rattle.lp_verilog_draft.specs.declared.scope.Kind.TheVariants as kinds
use Rattle.lp_verilog_draft.specs.declared.scope.Entry.{Entry}
use Rattle.lp_verilog_draft.specs.declared.declaring.Form.{Form}
use Rattle.lp_verilog_draft.specs.declared.declaring.Form.TheVariants as forms
use Rattle.lp_verilog_draft.specs.declared.declaring.Declaring.{Declaring}
use Rattle.lp_verilog_draft.specs.declared.stop.Off.TheVariants as offs
use Rattle.lp_verilog_draft.specs.declared.value.Side.{Side}
use Rattle.lp_verilog_draft.specs.declared.value.Side.TheVariants as sides
use Rattle.lp_verilog_draft.specs.Verdicts.{Verdict, Goes, Stops}

-- numbers of names, and what they stand for
abbrev pub Entries : Type 0
Entries = List (ℕ × Entry)

abbrev pub is_port : Kind → Bool
is_port kinds.Port = true
is_port kinds.Wire = false
is_port kinds.Instance = false

abbrev pub lacks_direction : Entry → Bool
lacks_direction e = is_port e.kind && is_none e.direction

-- the place of the first port without a direction
abbrev pub lacking_of : Entries → Option ℕ
lacking_of [] = None
lacking_of (e ∷ es) = if lacks_direction e.1 then Some e.1.at else lacking_of es

abbrev pub port_with : ℕ → Entry → Kind → Option Direction → Option Port
port_with name e kinds.Port (Some d) = Some (record { name = record { 0 = name }; range = e.range; direction = d })
port_with name e _ _ = None

abbrev pub port_of : ℕ → Entry → Option Port
port_of name e = port_with name e e.kind e.direction

abbrev pub net_with : ℕ → Entry → Kind → Option NetDecl
net_with name e kinds.Wire = Some (record { name = record { 0 = name }; range = e.range })
net_with name e _ = None

abbrev pub net_of : ℕ → Entry → Option NetDecl
net_of name e = net_with name e e.kind

abbrev pub with_some : {A : Type 0} → Option A → List A → List A
with_some None xs = xs
with_some (Some x) xs = x ∷ xs

abbrev pub ports_of : Entries → List Port
ports_of [] = []
ports_of (e ∷ es) = with_some (port_of e.0 e.1) (ports_of es)

abbrev pub nets_of : Entries → List NetDecl
nets_of [] = []
nets_of (e ∷ es) = with_some (net_of e.0 e.1) (nets_of es)

abbrev pub put : Entries → NameId → Entry → Entries
put es name e = insert_entry nat_eq es name.0 e

abbrev pub found : Entries → NameId → Option Entry
found es name = lookup (nat_eq name.0) es

abbrev pub same_range : Option BitRange → Option BitRange → Bool
same_range None None = true
same_range (Some a) (Some b) = (a.left == b.left) && (a.right == b.right)
same_range _ _ = false

-- a port that a header lists
abbrev pub listed : ℕ → Entry
listed at = record { kind = kinds.Port; direction = None; range = None; fixed = false; wired = false; at = at }

-- a port that a header declares
abbrev pub headed : Declaring → ℕ → Entry
headed d at = record { kind = kinds.Port; direction = Some d.direction; range = d.range; fixed = true; wired = false; at = at }

abbrev pub wire : Option BitRange → ℕ → Entry
wire range at = record { kind = kinds.Wire; direction = None; range = range; fixed = true; wired = true; at = at }

abbrev pub instance_entry : ℕ → Entry
instance_entry at = record { kind = kinds.Instance; direction = None; range = None; fixed = true; wired = true; at = at }

-- a name that nothing stands for yet
abbrev pub add_new : Entries → NameId → Entry → Option Entry → Verdict Entries
add_new es name e None = Goes (put es name e)
add_new es name e (Some other) = Stops (offs.Duplicate name)

-- the range of a declaration fits what is settled of a name
abbrev pub agrees : Declaring → Entry → Bool
agrees d e = not e.fixed || same_range e.range d.range

-- the direction of a port: it has to be one of the header that has none yet
abbrev pub give_direction : Declaring → Entries → NameId → Option Entry → Verdict Entries
give_direction d es name None = Stops offs.Syntax
give_direction d es name (Some e) =
    if not (is_port e.kind) then Stops offs.Syntax
    else if is_none e.direction && agrees d e
    then Goes (put es name (record { kind = e.kind; direction = Some d.direction; range = d.range; fixed = true; wired = e.wired; at = e.at }))
    else Stops (offs.Duplicate name)

-- a wire: a new name, or a port that no wire item has named yet
abbrev pub give_wire : Declaring → ℕ → Entries → NameId → Option Entry → Verdict Entries
give_wire d at es name None = Goes (put es name (wire d.range at))
give_wire d at es name (Some e) =
    if is_port e.kind && (not e.wired && agrees d e)
    then Goes (put es name (record { kind = e.kind; direction = e.direction; range = d.range; fixed = true; wired = true; at = e.at }))
    else Stops (offs.Duplicate name)

abbrev pub declare_by : Form → Declaring → ℕ → Entries → NameId → Verdict Entries
declare_by forms.Header d at es name = add_new es name (headed d at) (found es name)
declare_by forms.Ports d at es name = give_direction d es name (found es name)
declare_by forms.Wires d at es name = give_wire d at es name (found es name)

-- a name in a declaration
abbrev pub declare : Declaring → ℕ → Entries → NameId → Verdict Entries
declare d at es name = declare_by d.form d at es name

abbrev pub use_new : Side → ℕ → Entries → NameId → Verdict Entries
use_new sides.Right at es name = Stops offs.Syntax
use_new sides.Left at es name = Goes (put es name (wire None at))
use_new sides.Connection at es name = Goes (put es name (wire None at))

abbrev pub use_instance : Side → NameId → Verdict Entries
use_instance sides.Right name = Stops offs.Syntax
use_instance sides.Left name = Stops (offs.Duplicate name)
use_instance sides.Connection name = Stops (offs.Duplicate name)

abbrev pub settle : Entries → NameId → Entry → Entries
settle es name e = if e.fixed then es else put es name (record { kind = e.kind; direction = e.direction; range = e.range; fixed = true; wired = e.wired; at = e.at })

-- a port that the header lists alone becomes a scalar, but on a right side
abbrev pub use_net : Side → Entries → NameId → Entry → Verdict Entries
use_net sides.Right es name e = if e.fixed then Goes es else Stops offs.Syntax
use_net sides.Left es name e = Goes (settle es name e)
use_net sides.Connection es name e = Goes (settle es name e)

abbrev pub use_old : Kind → Side → Entries → NameId → Entry → Verdict Entries
use_old kinds.Instance side es name e = use_instance side name
use_old kinds.Port side es name e = use_net side es name e
use_old kinds.Wire side es name e = use_net side es name e

-- a name in a value: what is not declared becomes a scalar wire, but on a right side
abbrev pub use_by : Side → ℕ → Entries → NameId → Option Entry → Verdict Entries
use_by side at es name None = use_new side at es name
use_by side at es name (Some e) = use_old e.kind side es name e

abbrev pub use_name : Side → ℕ → Entries → NameId → Verdict Entries
use_name side at es name = use_by side at es name (found es name)

abbrev pub entry_range : Option Entry → Option BitRange
entry_range None = None
entry_range (Some e) = e.range

-- the range of a name, none where it is a scalar or nothing
abbrev pub range_in : Entries → NameId → Option BitRange
range_in es name = entry_range (found es name)
