-- The faults of a command, of which the one of the earliest place counts (own rule).
use Rattle.std.specs.Prelude.{ℕ, Bool, true, false, ◌||◌, List, [], ◌∷◌, Option, Some, None}
use Rattle.std.specs.Option.{option_map}
use Rattle.lp_text.specs.Texts.{text_at}
use Rattle.lp_model.specs.Agreement.{option_numbers}
use Rattle.lp_model.specs.CommandsView.{option_text}
use Rattle.lp_spec_upf.specs.Commands.{Fault, Syntax, Unsupported, ClampRefused, earlier, first_after, is_any_syntax}
use Rattle.lp_upf.specs.declared.fault.CommandFault.{CommandFault}
use Rattle.lp_upf.specs.declared.fault.CommandFault.TheVariants as faults
use Rattle.lp_upf.specs.declared.fault.Faults.{Faults}

abbrev pub fault_view : List (List ℕ) → CommandFault → Fault
fault_view names (faults.Syntax p) = Syntax p
fault_view names (faults.Unsupported p word) = Unsupported p (text_at names word.0)
fault_view names (faults.Expression p word) = Unsupported p (option_text word)
fault_view names (faults.ClampRefused p) = ClampRefused p

abbrev pub is_off : CommandFault → Bool
is_off (faults.Syntax p) = true
is_off f = false

abbrev pub fault_numbers : CommandFault → List ℕ
fault_numbers (faults.Unsupported p word) = word.0 ∷ []
fault_numbers f = []

-- the fault of the earliest place
abbrev pub least : List Fault → Option Fault
least [] = None
least (f ∷ faults) = Some (first_after f faults)

abbrev pub join : Option Fault → Option Fault → Option Fault
join None g = g
join (Some f) None = Some f
join (Some f) (Some g) = Some (earlier f g)

-- what counts of faults: the earliest, and whether one is off the form
pub record Judged : Type 0 where
  pub first : Option Fault
  pub cut : Bool

abbrev pub judged : List Fault → Judged
judged faults = record { first = least faults; cut = is_any_syntax faults }

abbrev pub joined : Judged → Judged → Judged
joined a b = record { first = join a.first b.first; cut = a.cut || b.cut }

-- one fault more
abbrev pub added : Judged → Fault → Judged
added a f = joined a (judged (f ∷ []))

abbrev pub first_view : List (List ℕ) → Option CommandFault → Option Fault
first_view names f = option_map (fault_view names) f

abbrev pub faults_view : List (List ℕ) → Faults → Judged
faults_view names f = record { first = first_view names f.first; cut = f.cut }

abbrev pub first_numbers : Option CommandFault → List ℕ
first_numbers f = option_numbers fault_numbers f
