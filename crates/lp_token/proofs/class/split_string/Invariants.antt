use Rattle.std.proofs.Common.{◌≡◌, ◌+◌, drop}
use Rattle.std.specs.List.{prefix_len}
use Rattle.lp_token.specs.Tokens.{is_quotable}
use Rattle.lp_token.specs.Reading.{drop_while}
use Rattle.lp_token.proofs.class.split_string.Given as goal

abbrev pub invariant-loop-i : goal.invariant-loop-i
invariant-loop-i l = record {
  passed : prefix_len is_quotable l.bytes ≡ l.i + prefix_len is_quotable (drop l.i l.bytes);
  left : drop_while is_quotable (drop l.i l.bytes) ≡ drop_while is_quotable l.bytes;
}
