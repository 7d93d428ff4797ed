use Rattle.std.proofs.Common.{◌≡◌, ℕ, ◌++◌, ◌∙◌, replicate, arith, get_or, ap, pow-suc, add-one}
use Rattle.std.specs.Option.{unwrap_or}
use Rattle.lp_text.proofs.Digits.{decimal-more, digit_at, padded_at}
use Rattle.lp_text.proofs.decimal.millionths.Goals as goal

pub loop-place-preserved : goal.loop-place-preserved
loop-place-preserved c =
    let place : ℕ = c.loop-place.place in
    let padded = padded_at c.args.decimals.now place c.loop-place-test.true in
    let more = decimal-more (c.args.decimals.now ++ replicate 6 48) place padded.0 in
    let digit : c.unwrap_or-digit.result ≡ get_or c.args.decimals.now place 48 = c.unwrap_or-digit.ensures ∙ ap (λ o. unwrap_or o 48) c.copied.ensures ∙ c.get.ensures.lookup.4 (omega arith) 48 in
    let range = digit_at c.args.decimals.now place c.requires in
    record { value = omega arith; below = rw (add-one, pow-suc) (omega arith) }
