-- How the names of power intent are resolved over a design (IEEE 1801-2015, hierarchical names; the order of the steps is an own rule).
use Rattle.std.specs.Prelude.{ℕ, zero, suc, ◌==◌, nat_lt, Bool, false, ◌&&◌, ◌||◌, List, [], ◌∷◌, ◌++◌, map, filter, length, codes, Option, Some, None, is_some, option_and_then, if◌then◌else◌, bytes_eq, flat_map}
use Rattle.std.specs.List.{list_any}
use Rattle.lp_model.specs.NetlistView.{PortView, InstanceView, ModuleView}
use Rattle.lp_spec_design.specs.Keys.{Name, Path, Node}
use Rattle.lp_spec_design.specs.Netlists.{Structure, first, cell_named, module_at}
use Rattle.lp_spec_design.specs.Graph.{some_of, when}
use Rattle.lp_spec_design.specs.Intents.{Element, AtInstance, AtCell, AtPort, AtBit}
use Rattle.lp_spec_origins.specs.Commands.{Scoped}
use Rattle.lp_spec_realises.specs.Controls.{control_node, bits_of_net}
use Rattle.lp_spec_realises.specs.Controls.{whole_name as written_name}

abbrev pub at : Path → Name → Scoped
at scope name = record { scope = scope; name = name }

-- the first, or else the other
abbrev pub or_that : {A : Type 0} → Option A → Option A → Option A
or_that None other = other
or_that (Some x) other = Some x

-- ---- steps

-- an instance that one step leads to, by the name of the step
pub record Place : Type 0 where
  pub name : Name
  pub path : Path

abbrev pub parent_of : Path → List Place
parent_of [] = []
parent_of (x ∷ p) = record { name = codes ".."; path = p } ∷ []

abbrev pub is_module_instance : Structure → Path → InstanceView → Bool
is_module_instance s p x = is_some (module_at s (x.name ∷ p))

abbrev pub instances_in : Structure → Path → Option ModuleView → List Place
instances_in s p None = []
instances_in s p (Some m) = map (λ (x : InstanceView). record { name = x.name; path = x.name ∷ p }) (filter (is_module_instance s p) m.instances)

-- from an instance: itself, its parent and the module instances of its module
abbrev pub places_from : Structure → Path → List Place
places_from s p = record { name = codes "."; path = p } ∷ parent_of p ++ instances_in s p (module_at s p)

-- what a text has behind a name and a slash
abbrev pub behind : Name → Name → Option Name
behind [] [] = None
behind [] (c ∷ text) = when (c == 47) text
behind (a ∷ name) [] = None
behind (a ∷ name) (c ∷ text) = if a == c then behind name text else None

abbrev pub taken : Name → Place → Option Scoped
taken text x = option_and_then (λ rest. Some (at x.path rest)) (behind x.name text)

abbrev pub shorter : Scoped → Option Scoped → Scoped
shorter a None = a
shorter a (Some b) = if nat_lt (length b.name) (length a.name) then b else a

-- the longest name leaves the least
abbrev pub least : List Scoped → Option Scoped
least [] = None
least (a ∷ more) = Some (shorter a (least more))

-- the step by the longest name that is followed by a slash
abbrev pub step_from : Structure → Scoped → Option Scoped
step_from s a = least (some_of (taken a.name) (places_from s a.scope))

-- a step, or none
abbrev pub on_by : Scoped → Option Scoped → (Scoped → Scoped) → Scoped
on_by a None further = a
on_by a (Some b) further = further b

-- the steps of a name, none of which is taken back: they end before what is whole the name of an instance of the kind that is meant, or where no further step is found
abbrev pub walk : Structure → (Scoped → Bool) → ℕ → Scoped → Scoped
walk s ends zero a = a
walk s ends (suc fuel) a = if ends a then a else on_by a (step_from s a) (walk s ends fuel)

-- a name begins at the top where it begins with a slash, else at the scope
abbrev pub beginning : Path → Name → Scoped
beginning scope [] = at scope []
beginning scope (c ∷ text) = if c == 47 then at [] text else at scope (c ∷ text)

-- the instance in which the last part of a name is looked up, and that last part
abbrev pub last_part : Structure → (Scoped → Bool) → Path → Name → Scoped
last_part s ends scope text = walk s ends (length text) (beginning scope text)

-- ---- names of things that commands make: they live in the scope in which they were made

abbrev pub no_instance : Scoped → Bool
no_instance a = false

abbrev pub whole_name : Structure → Path → Name → Scoped
whole_name s scope text = last_part s no_instance scope text

-- ---- module instances

abbrev pub path_of : Option Place → Option Path
path_of None = None
path_of (Some x) = Some x.path

abbrev pub instance_at : Structure → Scoped → Option Path
instance_at s a = path_of (first (λ (x : Place). bytes_eq x.name a.name) (places_from s a.scope))

abbrev pub is_instance : Structure → Scoped → Bool
is_instance s a = is_some (instance_at s a)

-- a slash alone is the top, `.` is the scope and `..` its parent
abbrev pub instance_of : Structure → Path → Name → Option Path
instance_of s scope text = if bytes_eq text (codes "/") then Some [] else instance_at s (last_part s (is_instance s) scope text)

-- ---- elements of strategies

abbrev pub cell_by : Structure → Path → Name → Option ModuleView → Bool
cell_by s p name None = false
cell_by s p name (Some m) = list_any (λ (x : InstanceView). bytes_eq x.name name && is_some (cell_named s x.target)) m.instances

abbrev pub is_cell_instance : Structure → Scoped → Bool
is_cell_instance s a = cell_by s a.scope a.name (module_at s a.scope)

abbrev pub is_any_instance : Structure → Scoped → Bool
is_any_instance s a = is_instance s a || is_cell_instance s a

abbrev pub as_instance : Option Path → Option Element
as_instance None = None
as_instance (Some p) = Some (AtInstance p)

abbrev pub as_bit : Path → Option (Name × Option ℕ) → Option Element
as_bit p None = None
as_bit p (Some b) = Some (AtBit p b.0 b.1)

abbrev pub ports_of : Option ModuleView → List PortView
ports_of None = []
ports_of (Some m) = m.ports

abbrev pub has_port : List PortView → Name → Bool
has_port ports name = list_any (λ (x : PortView). bytes_eq x.name name) ports

-- a bit is named by its port and its index in brackets, the index without a leading zero
abbrev pub bit_among : List PortView → Name → Option (Name × Option ℕ)
bit_among ports name = first (λ b. bytes_eq (written_name b.0 b.1) name) (flat_map (λ (x : PortView). bits_of_net x.name x.range) ports)

-- a module instance, a cell instance, a port of a module instance, or a bit of one
abbrev pub element_at : Structure → Scoped → Option Element
element_at s a =
    or_that (as_instance (instance_at s a))
    (or_that (when (is_cell_instance s a) (AtCell a.scope a.name))
    (or_that (when (has_port (ports_of (module_at s a.scope)) a.name) (AtPort a.scope a.name))
    (as_bit a.scope (bit_among (ports_of (module_at s a.scope)) a.name))))

abbrev pub element_of : Structure → Path → Name → Option Element
element_of s scope text = if bytes_eq text (codes "/") then Some (AtInstance []) else element_at s (last_part s (is_any_instance s) scope text)

-- ---- controls

-- a scalar port or net, or one bit
abbrev pub control_of : Structure → Path → Name → Option Node
control_of s scope text = by (whole_name s scope text)
  where
    by : Scoped → Option Node
    by a = control_node s a.scope a.name

-- ---- top ports

abbrev pub port_at_top : Structure → Path → Name → Option PortView
port_at_top s [] name = first (λ (x : PortView). bytes_eq x.name name) (ports_of (module_at s []))
port_at_top s (x ∷ p) name = None

-- a whole port of the top: bits are no ports
abbrev pub top_port_of : Structure → Path → Name → Option PortView
top_port_of s scope text = by (whole_name s scope text)
  where
    by : Scoped → Option PortView
    by a = port_at_top s a.scope a.name
