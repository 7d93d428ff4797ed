-- What a text of power intent gives over a netlist: what its commands make, or its first fault (own rule, after IEEE 1801-2015).
use Rattle.std.specs.Prelude.{◌≡◌, ℕ, Bool, List, length, nat_lt, Option, Some, None, Result, Ok, Err, if◌then◌else◌}
use Rattle.lp_model.specs.declared.fault.intent.IntentLimit.{IntentLimit}
use Rattle.lp_model.specs.declared.fault.intent.IntentLimit.TheVariants as limits
use Rattle.lp_model.specs.CommandsView.{CommandView}
use Rattle.lp_spec_upf.specs.Commands as upf
use Rattle.lp_spec_upf.specs.Intent.{Denotes}
use Rattle.lp_spec_design.specs.Netlists.{Structure}
use Rattle.lp_spec_faults.specs.Lines.{first_of}
use Rattle.lp_spec_faults.specs.Supplies.{intent_limits}
use Rattle.lp_spec_intent.specs.Made.{Made, network}
use Rattle.lp_spec_intent.specs.Faults.{NameFault}
use Rattle.lp_spec_intent.specs.Intent.{made_by}

-- a limit is passed, the words are no commands that are read, or a name is at fault
pub data IntentFault : Type 0 where
  OfLimit : IntentLimit → IntentFault
  OfText : upf.Fault → IntentFault
  OfName : NameFault → IntentFault

-- strategies, rows and origins are counted behind all commands
abbrev pub within : Made → Option IntentLimit → Result Made IntentFault
within m None = Ok m
within m (Some l) = Err (OfLimit l)

abbrev pub named : Result Made NameFault → Result Made IntentFault
named (Ok m) = within m (first_of (intent_limits (network m)))
named (Err f) = Err (OfName f)

-- names are judged where all words of the text are commands
abbrev pub intended : Structure → Result (List CommandView) upf.Fault → Result Made IntentFault
intended s (Ok commands) = named (made_by s commands)
intended s (Err f) = Err (OfText f)

-- 64 MiB
abbrev pub is_too_long : List ℕ → Bool
is_too_long text = nat_lt 67108864 (length text)

-- a text that is too long is not read
pub record Intends (s : Structure) (text : List ℕ) (result : Result Made IntentFault) : Type 0 where
  pub said : Result (List CommandView) upf.Fault
  pub denotes : Denotes text said
  pub is : result ≡ (if is_too_long text then Err (OfLimit limits.Bytes) else intended s said)
