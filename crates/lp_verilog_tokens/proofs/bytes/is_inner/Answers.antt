use Rattle.std.proofs.Common.{get_or, refl, arith, nat_le}
use Rattle.lp_verilog_tokens.specs.declared.bytes.TheConstants.{LETTERS}
use Rattle.lp_verilog_tokens.specs.Lexical.{is_inner}
use Rattle.lp_verilog_tokens.proofs.Tables.{same_below_at}
use Rattle.lp_verilog_tokens.proofs.bytes.is_inner.Goals as goal

pub returns : goal.returns
unfolding is_inner
returns c = same_below_at (λ b. nat_le 48 (get_or LETTERS b 0)) is_inner 256 c.args.byte refl (omega arith)
