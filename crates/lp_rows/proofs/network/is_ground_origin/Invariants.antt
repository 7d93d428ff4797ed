use Rattle.std.proofs.Common.{◌≡◌, drop}
use Rattle.std.specs.List.{list_any}
use Rattle.lp_rows.specs.Network.{is_ground, is_ground_of}
use Rattle.lp_rows.proofs.network.is_ground_origin.Given as goal

abbrev pub invariant-loop-set : goal.invariant-loop-set
invariant-loop-set l = list_any (is_ground_of l.origin) (drop l.set-index l.set-items) ≡ is_ground l.s l.origin
