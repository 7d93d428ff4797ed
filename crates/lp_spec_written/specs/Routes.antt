-- By which ports and wires, lp_c_K, each control comes to the cells that read it (own rule).
use Rattle.std.specs.Prelude.{ℕ, Bool, true, false, not, ◌&&◌, ◌||◌, List, [], ◌∷◌, ◌++◌, map, filter, Option, Some, None, is_some, option_and_then, if◌then◌else◌, flat_map, codes, slice_get}
use Rattle.std.specs.List.{list_any}
use Rattle.lp_model.specs.declared.library.Action.{Action}
use Rattle.lp_model.specs.declared.netlist.Direction.TheVariants.{Input, Output}
use Rattle.lp_model.specs.NetlistView.{BitView, NetBit, ConstBit, PortView, NetView, ConnectionView, AssignView}
use Rattle.lp_spec_design.specs.Keys.{Name, Path, same_path, Node, Inner, Outer, Fixed, same_node}
use Rattle.lp_spec_design.specs.Netlists.{first}
use Rattle.lp_spec_design.specs.Graph.{numbered, some_of, when}
use Rattle.lp_spec_design.specs.Intents.{Strategy}
use Rattle.lp_spec_design.specs.Chains.{Operator, Clamp, Shift}
use Rattle.lp_spec_realises.specs.Projects.{Project}
use Rattle.lp_spec_written.specs.Places.{with_number, Standing, Kept, Switching, Plan}
use Rattle.lp_spec_written.specs.Nets.{Stretch, bit_of, renamed}
use Rattle.lp_spec_written.specs.Supplies.{common, scalar, wire, joined_to}

-- ---- routes

-- a control and the instance in which a cell reads it
abbrev pub Route : Type 0
Route = Node × Path

abbrev pub to_instance : Path → Option Node → List Route
to_instance x None = []
to_instance x (Some k) = (k, x) ∷ []

abbrev pub enable_of : Project → Operator → Option Node
enable_of p (Clamp t i) = option_and_then (λ (x : Strategy). x.control) (slice_get p.intent.strategies t)
enable_of p (Shift t a b) = None

abbrev pub node_in : Option (Node × Action) → Option Node
node_in control = option_and_then (λ x. Some x.0) control

-- pins in plan order: enables of clamps; save then restore of registers with retention (one pin for both has one node, and the second route makes nothing); switch pins
abbrev pub routes : Project → Plan → List Route
routes p a =
    flat_map (λ (o : Standing). to_instance o.path (enable_of p o.asked.operator)) a.operators
    ++ (flat_map (λ (r : Kept). to_instance r.place.path (node_in r.strategy.save) ++ to_instance r.place.path (node_in r.strategy.restore)) a.registers
    ++ map (λ (w : Switching). (w.asked.control, w.path)) a.switches)

-- ---- parts: each that an earlier route of the same node made is used again; two names of one wire are two nodes with routes of their own

pub data Kind : Type 0 where
  PortOut : Kind
  Between : Kind
  PortIn : Kind

abbrev pub same_part_kind : Kind → Kind → Bool
same_part_kind PortOut PortOut = true
same_part_kind Between Between = true
same_part_kind PortIn PortIn = true
same_part_kind _ _ = false

-- an output port, a wire or an input port of an instance for a control
pub record Part : Type 0 where
  pub control : Node
  pub path : Path
  pub kind : Kind

abbrev pub same_part : Part → Part → Bool
same_part a b = same_part_kind a.kind b.kind && (same_path a.path b.path && same_node a.control b.control)

abbrev pub has_part : List Part → Part → Bool
has_part made x = list_any (same_part x) made

-- the instances from one up to below another one
abbrev pub up_to : Path → Path → List Path
up_to [] c = []
up_to (i ∷ x) c = let more = up_to x c in if same_path (i ∷ x) c then [] else (i ∷ x) ∷ more

abbrev pub parts_at : Node → Kind → List Path → List Part
parts_at k kind paths = map (λ x. record { control = k; path = x; kind = kind }) paths

-- the nearest common instance gets a wire where the control's own is not the common one; where an earlier route passed it upwards and left an output port there, no wire is made
abbrev pub crossing_wire : List Part → Node → Path → Path → List Part
crossing_wire made k own c =
    if same_path own c || has_part made (record { control = k; path = c; kind = PortOut }) then [] else parts_at k Between (c ∷ [])

-- going up, each instance from the control's own to below the common one gets an output port; going down, each instance below the common one on the way gets an input port
abbrev pub parts_by : List Part → Node → Path → Path → Path → List Part
parts_by made k own c x = parts_at k PortOut (up_to own c) ++ (crossing_wire made k own c ++ parts_at k PortIn (up_to x c))

abbrev pub parts_to : List Part → Path → Node → List Part
parts_to made x (Inner n i own) = parts_by made (Inner n i own) own (common own x) x
parts_to made x (Outer n i) = []
parts_to made x (Fixed b) = []

abbrev pub parts_of : List Part → Route → List Part
parts_of made r = parts_to made r.1 r.0

-- each part is made once
abbrev pub new_among : List Part → List Part → List Part
new_among made parts = filter (λ x. not (has_part made x)) parts

-- in the order of making
abbrev pub parts_after : List Part → List Route → List Part
parts_after made [] = made
parts_after made (r ∷ more) = parts_after (made ++ new_among made (parts_of made r)) more

abbrev pub parts : Project → Plan → List Part
parts p a = parts_after [] (routes p a)

-- ---- lp_c_K: ports and wires of control routes, one counter for both

abbrev pub parts_in : List Part → Path → List (ℕ × Part)
parts_in all x = numbered 0 (filter (λ (y : Part). same_path y.path x) all)

abbrev pub control_net : ℕ → Name
control_net k = with_number (codes "lp_c_") k

abbrev pub port_of_kind : ℕ → Kind → Option PortView
port_of_kind k PortOut = Some (scalar (control_net k) Output)
port_of_kind k Between = None
port_of_kind k PortIn = Some (scalar (control_net k) Input)

abbrev pub control_port : ℕ × Part → Option PortView
control_port y = port_of_kind y.0 y.1.kind

abbrev pub control_ports : List Part → Path → List PortView
control_ports all x = some_of control_port (parts_in all x)

abbrev pub is_between : Part → Bool
is_between y = same_part_kind y.kind Between

abbrev pub control_wires : List Part → Path → List NetView
control_wires all x = map (λ y. wire (control_net y.0)) (filter (λ y. is_between y.1) (parts_in all x))

-- ---- the net of a control in an instance

abbrev pub part_for : List (ℕ × Part) → Node → (Part → Bool) → Option (ℕ × Part)
part_for here k test = first (λ y. same_node y.1.control k && test y.1) here

abbrev pub part_bits : Option (ℕ × Part) → Option (ℕ × Part) → List BitView
part_bits (Some y) other = NetBit (control_net y.0) ∷ []
part_bits None (Some y) = NetBit (control_net y.0) ∷ []
part_bits None None = []

-- where an instance has a wire and a port, the child's port is connected to the wire, and so are the cells of that instance
abbrev pub carried : List (ℕ × Part) → Node → List BitView
carried here k = part_bits (part_for here k is_between) (part_for here k (λ y. true))

-- in the control's own instance its bit, renamed by the inside rule
abbrev pub control_bits : List Stretch → List Part → Path → Node → List BitView
control_bits chains all x (Inner n i own) = if same_path own x then renamed chains x (bit_of n i) ∷ [] else carried (parts_in all x) (Inner n i own)
control_bits chains all x (Outer n i) = []
control_bits chains all x (Fixed b) = ConstBit b ∷ []

abbrev pub some_control_bits : List Stretch → List Part → Path → Option Node → List BitView
some_control_bits chains all x None = []
some_control_bits chains all x (Some k) = control_bits chains all x k

-- ---- assigns

abbrev pub is_own_control : Path → Node → Bool
is_own_control x (Inner n i own) = same_path own x
is_own_control x _ = false

-- in the control's own instance an output port is joined to the control's bit; where a route goes up out of an instance in which an earlier one left a wire, the port is joined to the wire
abbrev pub is_led_out : List Part → Path → Part → Bool
is_led_out all x y = same_part_kind y.kind PortOut && (is_own_control x y.control || is_some (part_for (parts_in all x) y.control is_between))

abbrev pub control_assign : List Stretch → List Part → Path → ℕ × Part → Option AssignView
control_assign chains all x y = when (is_led_out all x y.1) (record { left = NetBit (control_net y.0) ∷ []; right = control_bits chains all x y.1.control })

abbrev pub control_assigns : List Stretch → List Part → Path → List AssignView
control_assigns chains all x = some_of (control_assign chains all x) (parts_in all x)

-- ---- the connections of a module instance to the control ports of its target

abbrev pub control_connection : List Stretch → List Part → Path → ℕ × Part → Option ConnectionView
control_connection chains all x y = when (not (is_between y.1)) (joined_to (control_net y.0) (control_bits chains all x y.1.control))

abbrev pub control_connections : List Stretch → List Part → Path → Path → List ConnectionView
control_connections chains all x y = some_of (control_connection chains all x) (parts_in all y)
