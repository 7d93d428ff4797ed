use Rattle.std.proofs.Common.{ℕ, Option, length, ap, sym, arith}
use Rattle.std.specs.Prelude.{unwrap_or}
use Rattle.lp_text.specs.Texts.{place_of-distinct}
use Rattle.lp_choice.proofs.keys.key_of.Goals as goal

pub returns-then-name-count : goal.returns-then-name-count
returns-then-name-count c =
    let texts = c.args.names.now in
    sym (ap (λ (o : Option ℕ). unwrap_or o (length texts)) (place_of-distinct texts c.args.name.0 c.count.ensures.distinct (omega (arith, c.if-name-count.true, c.count.ensures.count))))
