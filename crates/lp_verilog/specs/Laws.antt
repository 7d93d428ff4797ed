-- Words of the laws about what texts denote.
use Rattle.std.specs.Prelude.{◌≡◌, ◌≤◌, ℕ, true, List, length, map}
use Rattle.std.specs.List.{flat_map, All}
use Rattle.lp_text.specs.declared.shelf.TheConstants.{LIMIT}
use Rattle.lp_text.specs.Texts.{distinct}
use Rattle.lp_model.specs.declared.fault.refusal.Fault.{Fault}
use Rattle.lp_model.specs.declared.fault.refusal.Refusal.TheVariants as refusals
use Rattle.lp_model.specs.declared.netlist.Module.{Module}
use Rattle.lp_model.specs.Agreement.{numbers_below}
use Rattle.lp_model.specs.FaultLines.{fault_line}
use Rattle.lp_model.specs.NetlistView.{ModuleView, module_numbers, module_view}
use Rattle.lp_text.specs.Limits.{most_names}
use Rattle.lp_verilog.specs.Denotes.{Denotes}
use Rattle.lp_verilog.specs.Reads.{Reads}
use Rattle.lp_verilog.specs.Refusing.{Refuses}

-- what holds where the texts of a table are distinct, and few enough that a number has 32 bits
abbrev pub OverTable : List (List ℕ) → Type 0 → Type 0
OverTable names holds = distinct names ≡ true → length names ≤ most_names → holds

-- the faults of a text over two tables have the same line
abbrev pub SameLine : List (List ℕ) → List (List ℕ) → List ℕ → Fault → Fault → Type 0
SameLine a b text f g = Refuses a text (refusals.Fault f) → Refuses b text (refusals.Fault g) → fault_line a f ≡ fault_line b g

-- a text that is not too long is not refused and read
abbrev pub NotBoth : List (List ℕ) → List ℕ → Fault → List ModuleView → Type 0
NotBoth names text f v = length text ≤ LIMIT → Refuses names text (refusals.Fault f) → Reads text v → ⊥

-- the numbers in modules lie below the count of the names
abbrev pub AreNumbered : List (List ℕ) → List Module → Type 0
AreNumbered names modules = numbers_below (length names) (flat_map module_numbers modules) ≡ true

-- what a text denotes over one table is seen alike over another
abbrev pub SeenAlike : List (List ℕ) → List (List ℕ) → List ℕ → List Module → Type 0
SeenAlike old new text modules = Denotes old text modules → map (module_view new) modules ≡ map (module_view old) modules

-- a module has at most so many ports, and at most so many assigns
pub record HasFew (n : ℕ) (m : Module) : Type 0 where
  pub ports : length m.ports ≤ n
  pub assigns : length m.assigns ≤ n

abbrev pub AreFew : ℕ → List Module → Type 0
AreFew n modules = All (HasFew n) modules
