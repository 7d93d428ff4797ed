use Rattle.std.proofs.Common.{◌≡◌, arith}
use Rattle.lp_text.specs.Texts.{text_at}
use Rattle.std.proofs.Common.{drop}
use Rattle.lp_model.specs.Bits.{between}
use Rattle.lp_vwrite.proofs.Whole.{constants-stop}
use Rattle.lp_vwrite.proofs.bits.run_steps.Goals as goal

pub returns-in-Digits : goal.returns-in-Digits
returns-in-Digits c =
    let some : c.in-Digits.field-1 ≡ 0 → ⊥ = λ e. absurd (omega arith) in
    rw (c.in-Digits.is) (constants-stop c.args.names.now (text_at c.args.names.now c.args.name.0) (drop c.args.done (between c.args.range.left c.args.range.right)) c.in-Digits.field-1 c.in-Digits.field-0 some)
