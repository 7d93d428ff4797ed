use Rattle.std.proofs.Common.{get_or, refl, arith}
use Rattle.lp_token.specs.declared.class.TheConstants.{LIBERTY, VERILOG}
use Rattle.lp_token.specs.declared.token.Language.TheVariants.{Liberty, Verilog}
use Rattle.lp_token.specs.Tokens.{class_of}
use Rattle.lp_token.specs.View.{class_named}
use Rattle.lp_token.proofs.Tables.{same_below_at}
use Rattle.lp_token.proofs.class.class.Goals as goal

pub returns-in-Liberty : goal.returns-in-Liberty
unfolding class_of
returns-in-Liberty c = rw c.in-Liberty.is (same_below_at (λ b. class_named (get_or LIBERTY b 0)) (class_of Liberty) 256 c.args.b refl (omega arith))

pub returns-in-Verilog : goal.returns-in-Verilog
unfolding class_of
returns-in-Verilog c = rw c.in-Verilog.is (same_below_at (λ b. class_named (get_or VERILOG b 0)) (class_of Verilog) 256 c.args.b refl (omega arith))
