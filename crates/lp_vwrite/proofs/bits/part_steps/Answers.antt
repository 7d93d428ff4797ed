use Rattle.std.proofs.Common.{◌≡◌, ◌-◌, ◌<◌, length, true, false, ◌∙◌, arith}
use Rattle.lp_text.specs.Texts.{text_at, same_text}
use Rattle.lp_model.specs.Bits.{between}
use Rattle.lp_model.proofs.Runs.{length-select}
use Rattle.lp_vwrite.proofs.Whole.{part-goes, part-long, part-other, part-apart, between-filled}
use Rattle.lp_vwrite.proofs.bits.part_steps.Goals as goal

pub returns-then-size-done : goal.returns-then-size-done
returns-then-size-done c =
    let all = between c.args.range.left c.args.range.right in
    let count : c.width-count.result ≡ length (between c.args.part.1 c.args.part.2) = c.width-count.ensures.width ∙ length-select c.args.part.0 c.args.part.1 c.args.part.2 in
    let size : c.size.result ≡ length all = c.size.ensures in
    let long : length all - c.args.done < length (between c.args.part.1 c.args.part.2) = omega (arith, count, size) in
    part-long c.args.names.now (text_at c.args.names.now c.args.name.0) all c.args.done c.args.part.0 c.args.part.1 c.args.part.2 long

pub returns-then-not-is_same : goal.returns-then-not-is_same
returns-then-not-is_same c =
    let other : same_text (text_at c.args.names.now c.args.name.0) (text_at c.args.names.now c.args.part.0.0) ≡ false = cc in
    part-other c.args.names.now (text_at c.args.names.now c.args.name.0) (between c.args.range.left c.args.range.right) c.args.done c.args.part.0 c.args.part.1 c.args.part.2 (between-filled c.args.part.1 c.args.part.2) other

pub returns-then-not-is_along : goal.returns-then-not-is_along
returns-then-not-is_along c =
    part-apart c.args.names.now (text_at c.args.names.now c.args.name.0) (between c.args.range.left c.args.range.right) c.args.done c.args.part.0 c.args.part.1 c.args.part.2 (λ stands. let along : c.is_along.result ≡ true = c.is_along.ensures.1 stands in absurd cc)

pub returns-else-not-is_along : goal.returns-else-not-is_along
returns-else-not-is_along c =
    let count : c.width-count.result ≡ length (between c.args.part.1 c.args.part.2) = c.width-count.ensures.width ∙ length-select c.args.part.0 c.args.part.1 c.args.part.2 in
    let same : same_text (text_at c.args.names.now c.args.name.0) (text_at c.args.names.now c.args.part.0.0) ≡ true = cc in
    let along : c.is_along.result ≡ true = cc in
    part-goes c.args.names.now (text_at c.args.names.now c.args.name.0) (between c.args.range.left c.args.range.right) c.args.done c.args.part.0 c.args.part.1 c.args.part.2 c.width-count.result count same (c.is_along.ensures.0 along)
