-- Lines about modules and their instances, computed on small netlists.
use Rattle.std.proofs.Common.{◌≡◌, [], ◌∷◌, ◌++◌, Option, Some, None, refl}
use Rattle.std.specs.Prelude.{ℕ, ◌+◌, List, codes, map, option_map, replicate}
use Rattle.lp_model.specs.declared.netlist.Direction.TheVariants.{Input}
use Rattle.lp_model.specs.declared.library.PgKind.TheVariants.{InternalPower}
use Rattle.lp_model.specs.declared.reason.Reason.TheVariants.{Range}
use Rattle.lp_model.specs.FaultWords.{netlist_limit_number}
use Rattle.lp_model.specs.NetlistView.{ByName, InstanceView, ModuleView}
use Rattle.lp_model.specs.LibraryView.{CellView}
use Rattle.lp_spec_design.specs.Keys.{Name}
use Rattle.lp_spec_design.specs.Netlists.{Structure, upward}
use Rattle.lp_spec_design.proofs.Samples.{port, top, core, plain}
use Rattle.lp_spec_fit.proofs.Samples.{pg, plain_pgs, buffer, clamp, clamp_with_backup, shifter, retention_register, header}
use Rattle.lp_spec_realises.proofs.Samples.{inverter}
use Rattle.lp_spec_faults.specs.Lines.{first_of}
use Rattle.lp_spec_faults.specs.Modules.{OfModule, OfPart, reserved_name, InstanceAt, unknown_module, recursive, top_count, netlist_limits, unfit_cell, word_at}

-- ---- small netlists

abbrev of_modules : List ModuleView → Structure
of_modules modules = record { modules = modules; cells = inverter ∷ buffer ∷ [] }

-- a module with instances alone, and an instance without connections
abbrev module_of : Name → List InstanceView → ModuleView
module_of n instances = record { name = n; ports = []; nets = []; instances = instances; assigns = [] }

abbrev instance : Name → Name → InstanceView
instance n target = record { name = n; target = target; connections = ByName [] }

abbrev where_in : Option InstanceAt → Option (Name × Name)
where_in x = option_map (λ (a : InstanceAt). (a.parent.name, a.instance.name)) x

abbrev named : Option ModuleView → Option Name
named m = option_map (λ (k : ModuleView). k.name) m

-- ---- names

own_module_name : map (λ m. first_of (reserved_name (of_modules (m ∷ [])))) (module_of (codes "lp_x") [] ∷ module_of (codes "lp") [] ∷ []) ≡ Some (OfModule (codes "lp_x")) ∷ None ∷ []
own_module_name = refl

-- a module, and a port that may have that name
name_of_a_cell : map (λ m. first_of (reserved_name (of_modules (m ∷ [])))) (module_of (codes "BUF") [] ∷ record (module_of (codes "t") []) { ports = port (codes "BUF") Input None ∷ [] } ∷ []) ≡ Some (OfModule (codes "BUF")) ∷ None ∷ []
name_of_a_cell = refl

-- nets come before instances, and the names of one module before the next module
first_own_name : first_of (reserved_name (of_modules (record (module_of (codes "t") (instance (codes "lp_i") (codes "BUF") ∷ [])) { nets = record { name = codes "lp_n"; range = None } ∷ [] } ∷ module_of (codes "lp_m") [] ∷ []))) ≡ Some (OfPart (codes "lp_n"))
first_own_name = refl

no_own_name : first_of (reserved_name plain) ≡ None
no_own_name = refl

-- ---- targets

unknown_target : map (λ n. where_in (first_of (unknown_module (of_modules (module_of (codes "t") (instance (codes "f") (codes "BUF") ∷ instance (codes "g") n ∷ []) ∷ module_of (codes "u") [] ∷ []))))) (codes "nothing" ∷ codes "u" ∷ codes "INV" ∷ []) ≡ Some (codes "t", codes "g") ∷ None ∷ None ∷ []
unknown_target = refl

-- ---- modules that contain themselves

contains_itself : named (first_of (recursive (of_modules (module_of (codes "t") [] ∷ module_of (codes "r") (instance (codes "i") (codes "r") ∷ []) ∷ [])))) ≡ Some (codes "r")
contains_itself = refl

-- by way of another module; the top leads to them and is not one of them
contains_itself_by_another : named (first_of (recursive (of_modules (module_of (codes "t") (instance (codes "i") (codes "b") ∷ []) ∷ module_of (codes "a") (instance (codes "i") (codes "b") ∷ []) ∷ module_of (codes "b") (instance (codes "i") (codes "a") ∷ []) ∷ [])))) ≡ Some (codes "a")
contains_itself_by_another = refl

contains_no_module_twice_over : named (first_of (recursive plain)) ≡ None
contains_no_module_twice_over = refl

-- ---- tops

one_top : map (λ ms. first_of (top_count (of_modules ms))) ((module_of (codes "t") [] ∷ module_of (codes "u") [] ∷ []) ∷ [] ∷ (top ∷ core ∷ []) ∷ []) ≡ Some 2 ∷ Some 0 ∷ None ∷ []
one_top = refl

-- ---- limits

abbrev limit_of : Structure → Option ℕ
limit_of s = option_map netlist_limit_number (first_of (netlist_limits s))

-- a module with a port of so many bits
abbrev wide : Name → ℕ → ModuleView
wide n count = record (module_of n []) { ports = port (codes "a") Input (Some (record { left = 0; right = count })) ∷ [] }

too_many_bits : map (λ n. limit_of (of_modules (wide (codes "t") n ∷ []))) (4000000 ∷ 3999999 ∷ []) ≡ Some 2 ∷ None ∷ []
too_many_bits = refl

-- the bits of a block count at each of its instances
too_many_bits_in_blocks : map (λ n. limit_of (of_modules (module_of (codes "t") (instance (codes "u") (codes "b") ∷ instance (codes "v") (codes "b") ∷ []) ∷ wide (codes "b") n ∷ []))) (2000000 ∷ 1999999 ∷ []) ≡ Some 2 ∷ None ∷ []
too_many_bits_in_blocks = refl

-- ten instances of the next module in each of six, and of a last target in the sixth
abbrev ten : Name → List InstanceView
ten target = replicate 10 (instance (codes "i") target)

abbrev tenfold : Name → List ModuleView
tenfold target = map (λ k. module_of (k ∷ []) (ten ((k + 1) ∷ []))) (upward 5 1) ++ module_of (6 ∷ []) (ten target) ∷ []

too_many_cells : limit_of (of_modules (module_of (codes "t") (instance (codes "i") (1 ∷ []) ∷ instance (codes "j") (codes "BUF") ∷ []) ∷ tenfold (codes "BUF"))) ≡ Some 3
too_many_cells = refl

just_as_many_cells : limit_of (of_modules (module_of (codes "t") (instance (codes "i") (1 ∷ []) ∷ []) ∷ tenfold (codes "BUF"))) ≡ None
just_as_many_cells = refl

too_many_instances : limit_of (of_modules (tenfold (codes "b") ++ module_of (codes "b") [] ∷ [])) ≡ Some 3
too_many_instances = refl

-- each module has an instance of the next
abbrev chain : ℕ → List ModuleView
chain n = map (λ k. module_of (k ∷ []) (instance (codes "i") ((k + 1) ∷ []) ∷ [])) (upward n 1)

too_deep : map (λ n. limit_of (of_modules (chain n))) (65 ∷ 64 ∷ []) ≡ Some 4 ∷ None ∷ []
too_deep = refl

-- ---- cells that a source may not have

abbrev with_cell : CellView → Structure
with_cell c = record { modules = module_of (codes "t") (instance (codes "f") (codes "INV") ∷ instance (codes "g") c.name ∷ []) ∷ []; cells = inverter ∷ c ∷ [] }

unfit : map (λ c. where_in (first_of (unfit_cell (with_cell c)))) (shifter ∷ buffer ∷ clamp ∷ []) ≡ Some (codes "t", codes "g") ∷ None ∷ None ∷ []
unfit = refl

abbrev word_of : CellView → Option Name
word_of c = word_at (with_cell c) (record { parent = module_of (codes "t") []; instance = instance (codes "g") c.name })

roles : map word_of (shifter ∷ retention_register ∷ header ∷ buffer ∷ []) ≡ Some (codes "shifter") ∷ Some (codes "retention_cell") ∷ Some (codes "switch_cell") ∷ None ∷ []
roles = refl

pins : map word_of (clamp_with_backup ∷ record buffer { pgs = plain_pgs ++ pg (codes "VI") InternalPower ∷ [] } ∷ []) ≡ Some (codes "backup") ∷ Some (codes "internal") ∷ []
pins = refl

-- the reason comes before what the cell is for
cannot_be_used : map word_of (record buffer { unusable = Some Range } ∷ record shifter { unusable = Some Range } ∷ []) ≡ Some (codes "range") ∷ Some (codes "range") ∷ []
cannot_be_used = refl
