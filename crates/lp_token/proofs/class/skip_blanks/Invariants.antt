use Rattle.std.proofs.Common.{◌≡◌, drop}
use Rattle.lp_token.specs.Tokens.{is_blank}
use Rattle.lp_token.specs.Reading.{drop_while}
use Rattle.lp_token.proofs.class.skip_blanks.Given as goal

abbrev pub invariant-loop-i : goal.invariant-loop-i
invariant-loop-i l = drop_while (is_blank l.language) (drop l.i l.bytes) ≡ drop_while (is_blank l.language) l.bytes
