use Rattle.std.proofs.Common.{◌≡◌}
use Rattle.std.specs.Prelude.{option_map}
use Rattle.lp_scopes.specs.Numbered.{last_split}
use Rattle.lp_scopes.specs.Spots.{spot_view, find}
use Rattle.lp_scopes.proofs.steps.step.Given as goal

abbrev pub invariant-loop-at : goal.invariant-loop-at
invariant-loop-at l = option_map spot_view l.last ≡ last_split (find l.names l.scopes l.instances l.spot.inst.0) l.spot.name.now l.at
