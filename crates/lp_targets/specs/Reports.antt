-- The faults of names, targets and modules in a netlist as they are written: the word and the fields, the first line that holds (own rule).
use Rattle.std.specs.Prelude.{◌≡◌, ℕ, List, [], ◌∷◌, Option, Some, None, not, ◌==◌, codes, decimal, option_map, if◌then◌else◌}
use Rattle.lp_model.specs.declared.fault.netlist.NetlistFault.{NetlistFault}
use Rattle.lp_model.specs.declared.fault.netlist.NetlistLimit.{NetlistLimit}
use Rattle.lp_model.specs.declared.fault.refusal.DesignFault.TheVariants as of_design
use Rattle.lp_model.specs.declared.fault.refusal.Fault.TheVariants as faults
use Rattle.lp_model.specs.declared.fault.refusal.Refusal.{Refusal}
use Rattle.lp_model.specs.declared.fault.refusal.Refusal.TheVariants as refusals
use Rattle.lp_model.specs.FaultLines.{netlist_fields}
use Rattle.lp_model.specs.FaultWords.{netlist_fault_word, netlist_limit_number}
use Rattle.lp_model.specs.NetlistView.{ModuleView}
use Rattle.lp_spec_design.specs.Keys.{Name}
use Rattle.lp_spec_design.specs.Netlists.{Structure}
use Rattle.lp_spec_faults.specs.Lines.{first_of}
use Rattle.lp_spec_faults.specs.Modules.{Declared, OfModule, OfPart, InstanceAt, reserved_name, unknown_module, recursive, top_count, netlist_limits}

-- a word and its fields
abbrev pub Report : Type 0
Report = Name × List Name

abbrev pub report_of : List (List ℕ) → NetlistFault → Report
report_of texts f = (netlist_fault_word f, netlist_fields texts f)

-- one line of the table, else the next
abbrev pub or_else : {A : Type 0} → Option A → Option A → Option A
or_else (Some x) later = Some x
or_else None later = later

abbrev pub name_of : Declared → Name
name_of (OfModule n) = n
name_of (OfPart n) = n

abbrev pub reserved_report : Structure → Option Report
reserved_report s = option_map (λ d. (codes "F19 ReservedName", name_of d ∷ [])) (first_of (reserved_name s))

abbrev pub unknown_report : Structure → Option Report
unknown_report s = option_map (λ (x : InstanceAt). (codes "F13 UnknownModule", x.parent.name ∷ x.instance.name ∷ [])) (first_of (unknown_module s))

-- a module that contains itself
abbrev pub recursive_report : Structure → Option Report
recursive_report s = option_map (λ (m : ModuleView). (codes "F17 Recursive", m.name ∷ [])) (first_of (recursive s))

-- not exactly one module that none instantiates
abbrev pub top_told : ℕ → Option Report
top_told count = option_map (λ n. (codes "F18 Top", decimal n ∷ [])) (if not (count == 1) then Some count else None)

abbrev pub top_report : Structure → Option Report
top_report s = option_map (λ n. (codes "F18 Top", decimal n ∷ [])) (first_of (top_count s))

-- a reserved name, else an instance of nothing
abbrev pub names_report : Structure → Option Report
names_report s = or_else (reserved_report s) (unknown_report s)

-- a call stops where memory is refused, or with the fault of a report
abbrev pub IsStop : List (List ℕ) → Option Report → Refusal → Type 0
IsStop texts expected refusals.NoMemory = Unit {0}
IsStop texts expected (refusals.Fault (faults.Design (of_design.Netlist f))) = expected ≡ Some (report_of texts f)
IsStop texts expected _ = ⊥

-- a limit that the top is over
abbrev pub limit_told : Option NetlistLimit → Option Report
limit_told limit = option_map (λ l. (codes "F22 Limit", decimal (netlist_limit_number l) ∷ [])) limit

abbrev pub limits_report : Structure → Option Report
limits_report s = limit_told (first_of (netlist_limits s))

-- a module that contains itself, else not one top, else a limit
abbrev pub shape_report : Structure → Option Report
shape_report s = or_else (recursive_report s) (or_else (top_report s) (limits_report s))

-- the first of all lines about modules and what their instances are of
abbrev pub hierarchy_report : Structure → Option Report
hierarchy_report s = or_else (names_report s) (shape_report s)
