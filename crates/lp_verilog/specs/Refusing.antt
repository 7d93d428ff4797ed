-- What the reader of netlists answers.
use Rattle.std.specs.Prelude.{◌≡◌, ◌<◌, ◌≤◌, ◌⊎◌, ℕ, true, List, length, unwrap_or}
use Rattle.lp_text.specs.declared.shelf.TheConstants.{LIMIT}
use Rattle.lp_text.specs.Texts.{place_of, has_text}
use Rattle.lp_text.specs.Places.{place_in}
use Rattle.lp_model.specs.declared.fault.netlist.NetlistFault.{NetlistFault}
use Rattle.lp_model.specs.declared.fault.netlist.NetlistFault.TheVariants as faults
use Rattle.lp_model.specs.declared.fault.netlist.NetlistLimit.TheVariants as limits
use Rattle.lp_model.specs.declared.fault.refusal.Refusal.{Refusal}
use Rattle.lp_model.specs.declared.fault.refusal.Refusal.TheVariants as refusals
use Rattle.lp_model.specs.Refusals.{netlist_refusal}
use Rattle.lp_model.specs.NetlistView.{ModuleView}
use Rattle.lp_verilog.specs.Reads.{Reads}
use Rattle.lp_verilog_draft.specs.declared.stop.Off.{Off}
use Rattle.lp_verilog_draft.specs.declared.stop.Off.TheVariants as offs
use Rattle.lp_verilog.specs.Reading.{Left}
use Rattle.lp_verilog.specs.Denotes.{LeadsTo}
use Rattle.lp_verilog.specs.Places.{FirstFault}

-- the fault of a token at a byte, in this text
abbrev pub fault_of : List (List ℕ) → List ℕ → ℕ → List ℕ → Off → NetlistFault
fault_of names text at word offs.Syntax = faults.Syntax (place_in text at)
fault_of names text at word offs.Unsupported = faults.Unsupported (place_in text at) (record { 0 = unwrap_or (place_of word names) 0 })
fault_of names text at word (offs.Duplicate name) = faults.DuplicateName (place_in text at) name
fault_of names text at word (offs.Lacking port) = faults.Syntax (place_in text port)

-- the first token that cannot stand where it does, and its fault; there the text leaves the netlists, and a word that is not
-- read is among the names
pub record StopsAt (names : List (List ℕ)) (text : List ℕ) (r : Refusal) : Type 0 where
  pub off : Off
  pub at : ℕ
  pub word : List ℕ
  pub leads : LeadsTo names text (Left off at word)
  pub known : off ≡ offs.Unsupported → has_text word names ≡ true
  pub fault : r ≡ netlist_refusal (fault_of names text at word off)
  pub first : FirstFault text at

-- the text is too long
abbrev pub too_long : Refusal
too_long = netlist_refusal (faults.Limit limits.Bytes)

-- a refusal for this fault, or for want of memory
abbrev pub IsFault : Refusal → NetlistFault → Type 0
IsFault refusals.NoMemory f = Unit {0}
IsFault (refusals.Fault fault) f = refusals.Fault fault ≡ netlist_refusal f

-- a refusal that names a word of the table, or one for want of memory
abbrev pub HasWord : Refusal → List ℕ → List (List ℕ) → Type 0
HasWord refusals.NoMemory word names = Unit {0}
HasWord (refusals.Fault fault) word names = has_text word names ≡ true

-- a text that is too long, or the first token that cannot stand where it does
abbrev pub Refuses : List (List ℕ) → List ℕ → Refusal → Type 0
Refuses names text refusals.NoMemory = Unit {0}
Refuses names text (refusals.Fault fault) =
    ((LIMIT < length text) × (refusals.Fault fault ≡ too_long))
    ⊎ ((length text ≤ LIMIT) × StopsAt names text (refusals.Fault fault))

-- a text that is not too long and is refused denotes no netlist
abbrev pub HasNone : List ℕ → Refusal → Type 0
HasNone text refusals.NoMemory = Unit {0}
HasNone text (refusals.Fault fault) = length text ≤ LIMIT → (view : List ModuleView) → Reads text view → ⊥
