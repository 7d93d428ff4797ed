use Rattle.std.proofs.Common.{◌≡◌, ◌++◌, ◌<◌, ◌^◌, take, replicate}
use Rattle.lp_text.specs.Micros.{decimal}
use Rattle.lp_text.proofs.decimal.millionths.Given as goal

abbrev pub invariant-loop-place : goal.invariant-loop-place
invariant-loop-place l = record {
  value : l.millionths ≡ decimal (take l.place (l.decimals ++ replicate 6 48));
  below : l.millionths < 10 ^ l.place;
}
