use Rattle.std.proofs.Common.{◌≡◌, drop}
use Rattle.lp_verilog_tokens.specs.Cutting.{gap_behind}
use Rattle.lp_verilog_tokens.specs.declared.gap.GapMode.TheVariants.{Between}
use Rattle.lp_verilog_tokens.proofs.gap.gap_len.Given as goal

abbrev pub invariant-loop-at : goal.invariant-loop-at
invariant-loop-at l = gap_behind l.mode l.at (drop l.at l.text) ≡ gap_behind (Between l.fresh) 0 l.text
