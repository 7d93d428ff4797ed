use Rattle.std.proofs.Common.{◌≡◌, ◌++◌, drop}
use Rattle.lp_model.specs.FaultLines.{fields_text}
use Rattle.lp_model.proofs.fault.line.put_texts.Given as goal

-- what is written, and the fields to come
abbrev pub invariant-loop-text : goal.invariant-loop-text
invariant-loop-text l = l.out.items ++ fields_text (drop l.text-index l.fields) ≡ l.fn.out.items ++ fields_text l.fields
