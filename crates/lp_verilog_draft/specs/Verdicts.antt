-- A step that may stop with a fault.
use Rattle.std.specs.Prelude.{◌≡◌, Result, Ok, Err}
use Rattle.lp_verilog_draft.specs.declared.stop.Off.{Off}
use Rattle.lp_verilog_draft.specs.declared.stop.Stop.{Stop}
use Rattle.lp_verilog_draft.specs.declared.stop.Stop.TheVariants as stops

pub data Verdict (A : Type 0) : Type 0 where
  Goes : A → Verdict A
  Stops : Off → Verdict A

abbrev pub and_then : {A B : Type 0} → Verdict A → (A → Verdict B) → Verdict B
and_then (Goes x) f = f x
and_then (Stops off) f = Stops off

-- a call that changes a value: it goes on to the new one, or stops with the same fault, or for want of memory
abbrev pub Gives : {A B : Type 0} → Result B Stop → A → Verdict A → Type 0
Gives (Ok b) new v = v ≡ Goes new
Gives (Err (stops.Off off)) new v = v ≡ Stops off
Gives (Err stops.NoMemory) new v = Unit {0}

-- a call that makes a value: this one, or it stops with the same fault, or for want of memory
abbrev pub Makes : {A : Type 0} → Result A Stop → Verdict A → Type 0
Makes (Ok x) v = v ≡ Goes x
Makes (Err (stops.Off off)) v = v ≡ Stops off
Makes (Err stops.NoMemory) v = Unit {0}
