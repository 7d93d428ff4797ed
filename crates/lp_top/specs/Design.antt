-- The inputs of an insertion, and when it is refused.
use Rattle.std.specs.Prelude.{◌≡◌, ℕ, List, Result, Ok, Err}
use Rattle.lp_spec_insertion.specs.Inputs.{Inputs}
use Rattle.lp_spec_insertion.specs.Faults.{FirstFault}
use Rattle.lp_accept.specs.declared.stop.Stop.{Stop}
use Rattle.lp_accept.specs.declared.stop.Stop.TheVariants as stops
use Rattle.lp_top.specs.declared.design.Written.{Written}
use Rattle.lp_top.specs.declared.design.Refusal.{Refusal}
use Rattle.lp_top.specs.declared.design.Refusal.TheVariants as refusals

-- a fault is the first one of the inputs
abbrev pub RefusedBy : Inputs → Result Written Refusal → Type 0
RefusedBy inputs (Ok w) = Unit {0}
RefusedBy inputs (Err (refusals.Fault line)) = FirstFault inputs line
RefusedBy inputs (Err refusals.NoMemory) = Unit {0}

-- where the inputs have this first fault, it is the answer, memory aside
abbrev pub GivesFault : List ℕ → Result Written Refusal → Type 0
GivesFault line (Ok w) = ⊥
GivesFault line (Err (refusals.Fault l)) = l ≡ line
GivesFault line (Err refusals.NoMemory) = Unit {0}

-- where the inputs have no fault the texts are the answer, memory aside
abbrev pub GivesTexts : Result Written Refusal → Type 0
GivesTexts (Ok w) = Unit {0}
GivesTexts (Err (refusals.Fault l)) = ⊥
GivesTexts (Err refusals.NoMemory) = Unit {0}

-- the refusal for a stop
abbrev pub OfStop : Stop → Refusal
OfStop (stops.Fault line) = refusals.Fault line
OfStop stops.NoMemory = refusals.NoMemory
