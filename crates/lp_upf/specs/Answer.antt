-- What the reader of power intent answers (IEEE 1801-2015, clause 6; the subset and the faults are an own rule).
use Rattle.std.specs.Prelude.{◌≡◌, ℕ, ◌<◌, true, List, length, Some, Ok, Err}
use Rattle.lp_text.specs.declared.shelf.TheConstants.{LIMIT}
use Rattle.lp_model.specs.Agreement.{numbers_below}
use Rattle.lp_model.specs.CommandsView.{CommandView, commands_view}
use Rattle.lp_model.specs.declared.upf.Commands.{Commands}
use Rattle.lp_model.specs.declared.fault.refusal.Refusal.{Refusal}
use Rattle.lp_model.specs.declared.fault.refusal.Refusal.TheVariants as refusals
use Rattle.lp_model.specs.declared.fault.refusal.Fault.TheVariants as faults
use Rattle.lp_model.specs.declared.fault.refusal.DesignFault.TheVariants as designs
use Rattle.lp_model.specs.declared.fault.intent.IntentFault.{IntentFault}
use Rattle.lp_model.specs.declared.fault.intent.IntentFault.TheVariants as intents
use Rattle.lp_model.specs.declared.fault.intent.IntentLimit.TheVariants as limits
use Rattle.lp_spec_upf.specs.Commands.{Fault}
use Rattle.lp_spec_upf.specs.Intent.{Denotes}
use Rattle.lp_upf.specs.Said.{all_done, intent_numbers, intent_view}

-- the text says these commands
pub record Says (text : List ℕ) (names : List (List ℕ)) (c : Commands) : Type 0 where
  pub commands : List CommandView
  pub denotes : Denotes text (Ok commands)
  pub shown : commands_view names c ≡ all_done commands

-- it has this fault
pub record HasFault (text : List ℕ) (names : List (List ℕ)) (f : IntentFault) : Type 0 where
  pub fault : Fault
  pub denotes : Denotes text (Err fault)
  pub is : intent_view names f ≡ Some fault
  pub known : numbers_below (length names) (intent_numbers f) ≡ true

-- it is too long, or has a fault
abbrev pub RefusesBy : List ℕ → List (List ℕ) → IntentFault → Type 0
RefusesBy text names (intents.Limit limits.Bytes) = LIMIT < length text
RefusesBy text names f = HasFault text names f

abbrev pub Refuses : List ℕ → List (List ℕ) → Refusal → Type 0
Refuses text names (refusals.Fault (faults.Design (designs.Intent f))) = RefusesBy text names f
Refuses text names refusals.NoMemory = Unit {0}
Refuses text names refusal = ⊥
