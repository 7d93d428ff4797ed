use Rattle.std.proofs.Common.{◌≡◌, ◌-◌, ◌≤◌, length, drop}
use Rattle.lp_liberty.specs.Tokens.{bare, tokens_from}
use Rattle.lp_liberty.specs.Machine.{context_of, opens_group}
use Rattle.lp_liberty.proofs.ahead.opens_group.Given as goal

abbrev pub invariant-loop-round : goal.invariant-loop-round
invariant-loop-round l = record {
  same : opens_group l.mode (bare (tokens_from (l.most - l.round) (context_of l.mode) l.at (drop l.at l.text))) ≡ opens_group l.fn.start (bare (tokens_from l.most (context_of l.fn.start) 0 l.text));
  inside : l.at ≤ length l.text;
}
