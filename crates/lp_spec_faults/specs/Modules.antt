-- The lines of the table of faults about modules and their instances (IEEE 1364-2005, module instantiation, hierarchical structures; Liberty cell, pg_pin; the limits and what a source may instantiate are own rules).
use Rattle.std.specs.Prelude.{ℕ, zero, suc, ◌+◌, ◌-◌, ◌==◌, nat_lt, nat_le, nat_eq, Bool, true, false, not, ◌&&◌, ◌||◌, if◌then◌else◌, List, [], ◌∷◌, ◌++◌, map, filter, length, sum_by, Option, Some, None, is_some, is_none, option_map, option_and_then, codes, bytes_eq, flat_map}
use Rattle.std.specs.List.{list_any, starts_with}
use Rattle.std.specs.Option.{option_map_or}
use Rattle.lp_model.specs.declared.reason.Reason.{Reason}
use Rattle.lp_model.specs.declared.library.PgKind.{PgKind}
use Rattle.lp_model.specs.declared.library.PgKind.TheVariants.{BackupPower, BackupGround, InternalPower, InternalGround}
use Rattle.lp_model.specs.declared.netlist.BitRange.{BitRange}
use Rattle.lp_model.specs.declared.fault.netlist.NetlistLimit.{NetlistLimit}
use Rattle.lp_model.specs.declared.fault.netlist.NetlistLimit.TheVariants as limits
use Rattle.lp_model.specs.declared.fault.netlist.UnfitReason.{UnfitReason}
use Rattle.lp_model.specs.declared.fault.netlist.UnfitReason.TheVariants as unfit
use Rattle.lp_model.specs.FaultWords.{unfit_word}
use Rattle.lp_model.specs.NetlistView.{PortView, NetView, InstanceView, ModuleView}
use Rattle.lp_model.specs.LibraryView.{PgPinView, CellView}
use Rattle.lp_spec_design.specs.Keys.{Name}
use Rattle.lp_spec_design.specs.Netlists.{Structure, module_named, cell_named, is_instantiated, top_of}
use Rattle.lp_spec_design.specs.Graph.{some_of}
use Rattle.lp_spec_faults.specs.Lines.{Line}

-- ---- F19 ReservedName: a name begins with `lp_`, or a module has the name of a cell

-- a name that the netlist declares: a module's, or that of a port, a net or an instance
pub data Declared : Type 0 where
  OfModule : Name → Declared
  OfPart : Name → Declared

-- of a module its own name first, then those of its ports, its nets and its instances
abbrev pub names_of : ModuleView → List Declared
names_of m =
    OfModule m.name
    ∷ (map (λ (p : PortView). OfPart p.name) m.ports
    ++ (map (λ (n : NetView). OfPart n.name) m.nets
    ++ map (λ (i : InstanceView). OfPart i.name) m.instances))

-- names that the tool keeps for what it adds begin so
abbrev pub is_own : Name → Bool
is_own n = starts_with nat_eq n (codes "lp_")

abbrev pub is_cell : Structure → Name → Bool
is_cell s n = list_any (λ (c : CellView). bytes_eq c.name n) s.cells

abbrev pub is_reserved : Structure → Declared → Bool
is_reserved s (OfModule n) = is_own n || is_cell s n
is_reserved s (OfPart n) = is_own n

abbrev pub reserved_name : Structure → Line Declared
reserved_name s = record { places = flat_map names_of s.modules; test = is_reserved s }

-- ---- F13 UnknownModule: the target of an instance is no module and no cell

-- an instance with the module in which it stands
pub record InstanceAt : Type 0 where
  pub parent : ModuleView
  pub instance : InstanceView

abbrev pub instances_of : ModuleView → List InstanceAt
instances_of m = map (λ i. record { parent = m; instance = i }) m.instances

abbrev pub all_instances : Structure → List InstanceAt
all_instances s = flat_map instances_of s.modules

abbrev pub is_unknown : Structure → InstanceAt → Bool
is_unknown s x = is_none (module_named s x.instance.target) && is_none (cell_named s x.instance.target)

abbrev pub unknown_module : Structure → Line InstanceAt
unknown_module s = record { places = all_instances s; test = is_unknown s }

-- ---- F17 Recursive: a module contains itself through instances

-- the modules of the instances of a module
abbrev pub modules_in : Structure → ModuleView → List ModuleView
modules_in s m = some_of (λ (i : InstanceView). module_named s i.target) m.instances

-- a module of that name is found within so many steps down from another
abbrev pub is_within : Structure → Name → ℕ → ModuleView → Bool
is_within s n zero m = false
is_within s n (suc steps) m = list_any (λ (k : ModuleView). bytes_eq k.name n || is_within s n steps k) (modules_in s m)

abbrev pub recursive : Structure → Line ModuleView
recursive s = record { places = s.modules; test = λ (m : ModuleView). is_within s m.name (length s.modules) m }

-- ---- F18 Top: not one module is instantiated by none

abbrev pub tops : Structure → List ModuleView
tops s = filter (λ (m : ModuleView). not (is_instantiated s m.name)) s.modules

abbrev pub top_count : Structure → Line ℕ
top_count s = record { places = length (tops s) ∷ []; test = λ n. not (n == 1) }

-- ---- F22 Limit: net bits, instances and depth of what the top contains

-- the bits of a port or net; a scalar has one
abbrev pub bit_count : Option BitRange → ℕ
bit_count None = 1
bit_count (Some r) = if nat_le r.left r.right then r.right + 1 - r.left else r.left + 1 - r.right

abbrev pub bits_in : ModuleView → ℕ
bits_in m = sum_by (λ (p : PortView). bit_count p.range) m.ports + sum_by (λ (n : NetView). bit_count n.range) m.nets

abbrev pub cells_in : Structure → ModuleView → ℕ
cells_in s m = length (filter (λ (i : InstanceView). is_some (cell_named s i.target)) m.instances)

-- what a module instance and all below it have together; no chain of instances is longer than there are modules
abbrev pub together : Structure → (ModuleView → ℕ) → ℕ → ModuleView → ℕ
together s each zero m = 0
together s each (suc depth) m = each m + sum_by (together s each depth) (modules_in s m)

abbrev pub in_all : Structure → (ModuleView → ℕ) → ℕ
in_all s each = option_map_or (together s each (length s.modules)) (top_of s) 0

-- a chain of more module instances than a number goes down from a module, which is its first
abbrev pub is_deeper : Structure → ℕ → ModuleView → Bool
is_deeper s zero m = true
is_deeper s (suc n) m = list_any (is_deeper s n) (modules_in s m)

-- the top is a module instance too
abbrev pub is_over : Structure → NetlistLimit → Bool
is_over s limits.Nodes = nat_lt 4000000 (in_all s bits_in)
is_over s limits.Instances = nat_lt 1000000 (in_all s (cells_in s)) || nat_lt 1000000 (in_all s (λ m. 1))
is_over s limits.Depth = option_map_or (is_deeper s 64) (top_of s) false
is_over s limits.Bytes = false
is_over s limits.Names = false

-- limits 2, 3 and 4; those of the text and of the written names are no limits of modules
abbrev pub netlist_limits : Structure → Line NetlistLimit
netlist_limits s = record { places = limits.Nodes ∷ limits.Instances ∷ limits.Depth ∷ []; test = is_over s }

-- ---- F61 UnfitCell: an instance of a cell that a source may not have

abbrev pub is_backup : PgKind → Bool
is_backup BackupPower = true
is_backup BackupGround = true
is_backup _ = false

abbrev pub is_internal : PgKind → Bool
is_internal InternalPower = true
is_internal InternalGround = true
is_internal _ = false

abbrev pub has_kind : (PgKind → Bool) → CellView → Bool
has_kind test c = list_any (λ (g : PgPinView). test g.kind) c.pgs

-- the first reason that holds: a cell that cannot be used, then what it is for, then its pins
abbrev pub unfit_reason : CellView → Option UnfitReason
unfit_reason c = by c.unusable
  where
    by : Option Reason → Option UnfitReason
    by (Some reason) = Some (unfit.Unusable reason)
    by None =
        if is_some c.roles.shifter then Some unfit.Shifter
        else if is_some c.roles.retention then Some unfit.RetentionCell
        else if c.roles.switch then Some unfit.SwitchCell
        else if has_kind is_backup c then Some unfit.Backup
        else if has_kind is_internal c then Some unfit.Internal
        else None

abbrev pub reason_at : Structure → InstanceAt → Option UnfitReason
reason_at s x = option_and_then unfit_reason (cell_named s x.instance.target)

abbrev pub unfit_cell : Structure → Line InstanceAt
unfit_cell s = record { places = all_instances s; test = λ (x : InstanceAt). is_some (reason_at s x) }

-- the word of its line
abbrev pub word_at : Structure → InstanceAt → Option Name
word_at s x = option_map unfit_word (reason_at s x)
