use Rattle.std.proofs.Common.{◌≡◌, map, take}
use Rattle.lp_choice.specs.Clamps.{clamp_origin}
use Rattle.lp_choice.proofs.clamps.clamp_origins.Given as goal

abbrev pub invariant-loop-pg : goal.invariant-loop-pg
invariant-loop-pg l = l.origins.items ≡ map (clamp_origin l.need l.backup) (take l.pg-index l.pgs)
