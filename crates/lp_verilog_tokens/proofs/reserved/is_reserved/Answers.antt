use Rattle.std.proofs.Common.{◌<◌, get_or, sym, ap, ◌∙◌, arith}
use Rattle.lp_text.specs.Texts.{has_text}
use Rattle.lp_verilog_tokens.proofs.Words.{reserved_from, reserved_empty, among}
use Rattle.lp_verilog_tokens.proofs.reserved.is_reserved.Goals as goal

pub returns-in-empty : goal.returns-in-empty
returns-in-empty c = sym (reserved_empty c.args.word.now (omega arith))

pub returns-in-len1-up : goal.returns-in-len1-up
returns-in-len1-up c =
    let word = c.args.word.now in
    let small : get_or word 0 0 < 256 = let fits = c.type_inv.word 0 in omega (arith, fits) in
    c.is_among.ensures ∙ among (λ w. w.now) word c.words_from.result.now ∙ ap (has_text word) c.words_from.ensures ∙ sym (reserved_from word c.in-len1-up.len_at_least small)
