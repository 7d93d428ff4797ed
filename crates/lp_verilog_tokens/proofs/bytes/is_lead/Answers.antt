use Rattle.std.proofs.Common.{get_or, refl, arith, nat_eq}
use Rattle.lp_verilog_tokens.specs.declared.bytes.TheConstants.{LETTERS}
use Rattle.lp_verilog_tokens.specs.Lexical.{is_lead}
use Rattle.lp_verilog_tokens.proofs.Tables.{same_below_at}
use Rattle.lp_verilog_tokens.proofs.bytes.is_lead.Goals as goal

pub returns : goal.returns
unfolding is_lead
returns c = same_below_at (λ b. nat_eq (get_or LETTERS b 0) 97) is_lead 256 c.args.byte refl (omega arith)
