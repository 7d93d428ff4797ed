-- Reserved names and targets by the numbers of names in place of their texts.
use Rattle.std.specs.Prelude.{ℕ, Bool, ◌||◌, List, [], ◌∷◌, ◌++◌, map, Option, Some, None, is_none, option_map, if◌then◌else◌}
use Rattle.lp_text.specs.Texts.{text_at}
use Rattle.lp_text.specs.declared.names.NameId.{NameId}
use Rattle.lp_model.specs.declared.fault.netlist.InstanceRef.{InstanceRef}
use Rattle.lp_model.specs.declared.fault.netlist.NetlistFault.{NetlistFault}
use Rattle.lp_model.specs.declared.fault.netlist.NetlistFault.TheVariants as faults
use Rattle.lp_model.specs.declared.library.Cell.{Cell}
use Rattle.lp_model.specs.declared.netlist.Port.{Port}
use Rattle.lp_model.specs.declared.netlist.NetDecl.{NetDecl}
use Rattle.lp_model.specs.declared.netlist.Instance.{Instance}
use Rattle.lp_model.specs.declared.netlist.Module.{Module}
use Rattle.lp_spec_design.specs.Netlists.{first}
use Rattle.lp_spec_design.specs.Graph.{some_of}
use Rattle.lp_spec_faults.specs.Modules.{is_own}
use Rattle.lp_places.specs.Places.{place_of_number, has_number}
use Rattle.lp_targets.specs.Reports.{or_else}
use Rattle.lp_targets.specs.declared.target.Target.{Target}
use Rattle.lp_targets.specs.declared.target.Target.TheVariants.{OfModule, OfCell}

-- what the first of a list gives that gives anything
abbrev pub found : {A B : Type 0} → (A → Option B) → List A → Option B
found f [] = None
found f (x ∷ xs) = or_else (f x) (found f xs)

abbrev pub module_numbers : List Module → List ℕ
module_numbers ms = map (λ (m : Module). m.name.0) ms

abbrev pub cell_numbers : List Cell → List ℕ
cell_numbers cs = map (λ (c : Cell). c.name.0) cs

-- ---- reserved names

abbrev pub is_own_name : List (List ℕ) → NameId → Bool
is_own_name texts n = is_own (text_at texts n.0)

-- of a module the names of its ports, its nets and its instances
abbrev pub part_names : Module → List NameId
part_names m = map (λ (p : Port). p.name) m.ports ++ (map (λ (n : NetDecl). n.name) m.nets ++ map (λ (i : Instance). i.name) m.instances)

abbrev pub is_reserved_module : List (List ℕ) → List ℕ → NameId → Bool
is_reserved_module texts cells n = is_own_name texts n || has_number n.0 cells

abbrev pub reserved_in : List (List ℕ) → List ℕ → Module → Option NameId
reserved_in texts cells m = if is_reserved_module texts cells m.name then Some m.name else first (is_own_name texts) (part_names m)

abbrev pub first_reserved : List (List ℕ) → List ℕ → List Module → Option NameId
first_reserved texts cells ms = found (reserved_in texts cells) ms

-- ---- targets

-- a module of the name, else a cell of it
abbrev pub target_by : Option ℕ → Option ℕ → Option Target
target_by (Some k) cell = Some (OfModule k)
target_by None (Some k) = Some (OfCell k)
target_by None None = None

abbrev pub target_numbered : List ℕ → List ℕ → ℕ → Option Target
target_numbered modules cells n = target_by (place_of_number n modules) (place_of_number n cells)

abbrev pub target_of : List ℕ → List ℕ → Instance → Option Target
target_of modules cells i = target_numbered modules cells i.target.0

abbrev pub unknown_in : List ℕ → List ℕ → Module → Option InstanceRef
unknown_in modules cells m =
    option_map (λ (i : Instance). record { parent = m.name; instance = i.name }) (first (λ (i : Instance). is_none (target_of modules cells i)) m.instances)

abbrev pub first_unknown : List ℕ → List ℕ → List Module → Option InstanceRef
first_unknown modules cells ms = found (unknown_in modules cells) ms

abbrev pub row_in : List ℕ → List ℕ → Module → List Target
row_in modules cells m = some_of (target_of modules cells) m.instances

-- ---- faults

abbrev pub reserved_fault : NameId → NetlistFault
reserved_fault name = faults.ReservedName name

abbrev pub unknown_fault : InstanceRef → NetlistFault
unknown_fault at = faults.UnknownModule at

abbrev pub fault_numbered : List (List ℕ) → List ℕ → List ℕ → List Module → Option NetlistFault
fault_numbered texts modules cells ms =
    or_else (option_map reserved_fault (first_reserved texts cells ms)) (option_map unknown_fault (first_unknown modules cells ms))
