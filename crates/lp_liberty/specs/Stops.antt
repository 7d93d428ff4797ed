-- Where the reader stops, and the refusal that it gives there.
use Rattle.std.specs.Prelude.{ℕ, ◌≤◌, List, length}
use Rattle.lp_text.specs.Places.{place_in}
use Rattle.lp_model.specs.Refusals.{library_refusal}
use Rattle.lp_model.specs.declared.fault.library.LibraryFault.TheVariants as faults
use Rattle.lp_model.specs.declared.fault.refusal.Refusal.{Refusal}
use Rattle.lp_model.specs.declared.fault.refusal.Refusal.TheVariants as refusals
use Rattle.lp_liberty.specs.declared.run.Stop.{Stop}
use Rattle.lp_liberty.specs.declared.run.Stop.TheVariants as stops
use Rattle.lp_liberty.specs.Tokens.{tokens_of}
use Rattle.lp_liberty.specs.Denotes.{LeavesForm, HasDeepGroup, HasLongToken}

abbrev pub StopsAt : List ℕ → Stop → Type 0
StopsAt text (stops.Syntax index) = (index ≤ length text) × LeavesForm (length text) (tokens_of text) index
StopsAt text (stops.Deep index) = (index ≤ length text) × HasDeepGroup (length text) (tokens_of text) index
StopsAt text (stops.Long index) = (index ≤ length text) × HasLongToken (tokens_of text) index
StopsAt text stops.NoMemory = Unit {0}

abbrev pub refusal_by : ℕ → List ℕ → Stop → Refusal
refusal_by file text (stops.Syntax index) = library_refusal (faults.Syntax file (place_in text index))
refusal_by file text (stops.Deep index) = library_refusal (faults.Limit file (place_in text index))
refusal_by file text (stops.Long index) = library_refusal (faults.Limit file (place_in text index))
refusal_by file text stops.NoMemory = refusals.NoMemory
