use Rattle.std.proofs.Common.{◌≡◌, ◌-◌, drop, length}
use Rattle.lp_verilog_grammar.specs.Machine.{awaiting}
use Rattle.lp_verilog_grammar.proofs.reader.Reader.wait_for.Given as goal

abbrev pub invariant-loop-k : goal.invariant-loop-k
invariant-loop-k l = l.self ≡ awaiting (drop (length l.symbols - l.k) l.symbols) l.fn.self
