-- What drives each wire when some entries of the plan are done, by cases and with no search by name (own rule).
use Rattle.std.specs.Prelude.{ℕ, zero, suc, Bool, true, false, not, ◌&&◌, ◌||◌, List, [], ◌∷◌, length, Option, Some, None, option_and_then, if◌then◌else◌, slice_get}
use Rattle.lp_spec_design.specs.Keys.{Path, same_path, Node, Inner, Fixed, Way, Source, From}
use Rattle.lp_spec_design.specs.Netlists.{Structure}
use Rattle.lp_spec_design.specs.Graph.{source_of, when}
use Rattle.lp_spec_design.specs.Intents.{Origin, FromPort, FromSwitch}
use Rattle.lp_spec_design.specs.Domains.{BoundaryBit, node_before}
use Rattle.lp_spec_design.specs.Chains.{bit_of_way}
use Rattle.lp_spec_design.specs.Registers.{is_above}
use Rattle.lp_spec_realises.specs.Projects.{Project, network_of}
use Rattle.lp_spec_realises.specs.Implements.{parent_of}
use Rattle.lp_spec_written.specs.Places.{Standing, Switching}
use Rattle.lp_spec_written.specs.Supplies.{Use, has_port_of, switch_of, home, goes_out, goes_in}
use Rattle.lp_spec_written.specs.Routes.{Part, Kind, PortOut, Between, PortIn, has_part}
use Rattle.lp_spec_hub.specs.Spots.{Spot, OfNode, Behind, Before, Lead, Carried, Routed, Drive, AsSource, ByOperator, BySwitch, ByPort, FromSpot, Done, on_way, is_behind}

-- ---- ways

-- the node from which the way of a boundary bit comes; other ways have no operators
abbrev pub start_of : Structure → Option BoundaryBit → Node
start_of s None = Fixed false
start_of s (Some b) = node_before s b

abbrev pub comes_from : Project → Way → Node
comes_from p w = start_of p.structure (bit_of_way p.structure p.intent w)

-- what comes behind the last of some operators of a way: the edge comes from what that one drives, or it stands behind the edge itself
abbrev pub behind_last : Way → ℕ → Option Standing → Drive
behind_last w k None = FromSpot (Behind w k)
behind_last w k (Some o) = if is_behind o then ByOperator w k else FromSpot (Behind w k)

-- what comes behind so many operators of a way that comes from a node
abbrev pub passed : List Standing → Way → Node → ℕ → Drive
passed here w from zero = FromSpot (OfNode from)
passed here w from (suc k) = behind_last w k (slice_get here k)

-- a net bit of the source: a way that leads to it passes all of its operators that are done
abbrev pub drive_by : List Standing → Source → Drive
drive_by all (From w j) = passed (on_way all w) w j (length (on_way all w))
drive_by all x = AsSource x

abbrev pub drive_node : Structure → List Standing → Node → Option Drive
drive_node s all k = option_and_then (λ x. Some (drive_by all x)) (source_of s k)

abbrev pub drive_behind : Way → ℕ → Option Standing → Option Drive
drive_behind w k None = None
drive_behind w k (Some o) = when (not (is_behind o)) (ByOperator w k)

abbrev pub drive_before : List Standing → Way → Node → ℕ → Option Standing → Option Drive
drive_before here w from k None = None
drive_before here w from k (Some o) = when (is_behind o) (passed here w from k)

-- ---- constants

abbrev pub is_fixed : Node → Bool
is_fixed (Fixed b) = true
is_fixed _ = false

-- a constant has a net of its own where the first operator stands before the edge
abbrev pub is_led : Node → Option Standing → Bool
is_led from None = false
is_led from (Some o) = not (is_behind o) && is_fixed from

-- ---- controls

abbrev pub own_instance : Node → Path
own_instance (Inner n i own) = own
own_instance _ = []

-- the instance right below the second on the way down to the first
abbrev pub toward : Path → Path → Path
toward [] x = []
toward (i ∷ p) x = if same_path p x then i ∷ p else toward p x

abbrev pub part_at : Node → Path → Kind → Part
part_at k x kind = record { control = k; path = x; kind = kind }

-- where a control is in an instance that is not its own: on its wire, else at its port
abbrev pub part_in : List Part → Node → Path → Part
part_in made k x = part_at k x (if has_part made (part_at k x Between) then Between else if has_part made (part_at k x PortOut) then PortOut else PortIn)

-- where a control is in an instance
abbrev pub control_spot : List Part → Node → Path → Spot
control_spot made k x = if is_fixed k || same_path (own_instance k) x then OfNode k else Routed (part_in made k x)

-- a wire is driven by the output port of the instance on the way to the control, an output port likewise or by the wire or
-- the control of its instance, an input port by where the control is in the parent
abbrev pub part_from : List Part → Node → Path → Kind → Spot
part_from made k x PortOut =
    if same_path (own_instance k) x then OfNode k
    else if has_part made (part_at k x Between) then Routed (part_at k x Between)
    else Routed (part_at k (toward (own_instance k) x) PortOut)
part_from made k x Between = Routed (part_at k (toward (own_instance k) x) PortOut)
part_from made k x PortIn = control_spot made k (parent_of x)

abbrev pub drive_part : List Part → Part → Option Drive
drive_part made t = when (has_part made t) (FromSpot (part_from made t.control t.path t.kind))

-- ---- supplies

-- a port origin comes in at the top's port and goes down
abbrev pub port_from : ℕ → Path → Drive
port_from o [] = ByPort o
port_from o (i ∷ x) = FromSpot (Carried o x)

-- a switch's output goes up from the switch's instance, and down from there
abbrev pub switch_from : ℕ → Path → Path → Drive
switch_from o scope x =
    if same_path x scope then BySwitch o
    else FromSpot (Carried o (if is_above x scope then toward scope x else parent_of x))

-- an instance has the output of a switch as a wire or a port
abbrev pub has_switch : List Use → Switching → Path → Bool
has_switch all w x = same_path (home all w) x || (goes_out all w x || goes_in all w x)

abbrev pub drive_switch : List Use → ℕ → Path → Option Switching → Option Drive
drive_switch all o x None = None
drive_switch all o x (Some w) = when (has_switch all w x) (switch_from o w.path x)

abbrev pub drive_origin : Done → List Use → ℕ → Path → Option Origin → Option Drive
drive_origin a all o x None = None
drive_origin a all o x (Some FromPort) = when (has_port_of all o x) (port_from o x)
drive_origin a all o x (Some (FromSwitch input control high)) = drive_switch all o x (switch_of a.plan o)

abbrev pub drive_supply : Project → Done → ℕ → Path → Option (List Use) → Option Drive
drive_supply p a o x None = None
drive_supply p a o x (Some all) = drive_origin a all o x (slice_get (network_of p).origins o)

-- ---- the whole

-- what drives a wire, where ways come from these nodes; none where there is no such wire, or where nothing drives it
abbrev pub drive : Project → Done → (Way → Node) → Spot → Option Drive
drive p a from (OfNode k) = drive_node p.structure a.plan.operators k
drive p a from (Behind w k) = drive_behind w k (slice_get (on_way a.plan.operators w) k)
drive p a from (Before w k) = drive_before (on_way a.plan.operators w) w (from w) k (slice_get (on_way a.plan.operators w) k)
drive p a from (Lead w) = when (is_led (from w) (slice_get (on_way a.plan.operators w) 0)) (FromSpot (OfNode (from w)))
drive p a from (Carried o x) = drive_supply p a o x a.uses
drive p a from (Routed t) = drive_part a.parts t

-- ---- what operators read

-- the first one before the edge reads what comes to the way, a constant by its own net
abbrev pub first_read : Way → Node → Spot
first_read w from = if is_fixed from then Lead w else OfNode from

abbrev pub read_before : Way → Node → ℕ → Spot
read_before w from zero = first_read w from
read_before w from (suc k) = Behind w k

-- what operator k of a way reads at its data pin
abbrev pub read_by : Way → Node → ℕ → Standing → Spot
read_by w from k o = if is_behind o then Before w k else read_before w from k
