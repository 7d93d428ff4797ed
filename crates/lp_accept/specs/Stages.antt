-- The stages in which inputs are read and judged, each with the fault that is its own.
use Rattle.std.specs.Prelude.{◌≡◌, ℕ, true, List, Result, Ok, Err}
use Rattle.lp_text.specs.declared.memory.NoMemory.{NoMemory as Memory}
use Rattle.lp_model.specs.FaultLines.{fault_line, is_plain}
use Rattle.lp_model.specs.declared.fault.refusal.Refusal.{Refusal}
use Rattle.lp_model.specs.declared.fault.refusal.Refusal.TheVariants as refusals
use Rattle.lp_accept.specs.declared.stop.Stop.{Stop}
use Rattle.lp_accept.specs.declared.stop.Stop.TheVariants as stops

-- a stop by this line, or for want of memory
abbrev pub IsLine : List ℕ → Stop → Type 0
IsLine line (stops.Fault l) = l ≡ line
IsLine line stops.NoMemory = Unit {0}

abbrev pub StopsBy : Result (List ℕ) Memory → Stop → Type 0
StopsBy (Ok line) stop = IsLine line stop
StopsBy (Err e) stop = stop ≡ stops.NoMemory

-- what a stage gives, or its fault
abbrev pub OrStop : {T : Type 0} → (T → Type 0) → (List ℕ → Type 0) → Result T Stop → Type 0
OrStop P Q (Ok t) = P t
OrStop P Q (Err (stops.Fault line)) = Q line
OrStop P Q (Err stops.NoMemory) = Unit {0}

-- the refusal of a call whose line names and places alone give
abbrev pub IsPlainRefusal : Refusal → Type 0
IsPlainRefusal (refusals.Fault fault) = is_plain fault ≡ true
IsPlainRefusal refusals.NoMemory = Unit {0}

-- the stop at such a refusal
abbrev pub StopsAs : List (List ℕ) → Refusal → Stop → Type 0
StopsAs names (refusals.Fault fault) stop = IsLine (fault_line names fault) stop
StopsAs names refusals.NoMemory stop = stop ≡ stops.NoMemory
