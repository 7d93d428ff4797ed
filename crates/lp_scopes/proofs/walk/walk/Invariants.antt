use Rattle.std.proofs.Common.{◌≡◌, drop}
use Rattle.lp_scopes.specs.Numbered.{walk_by}
use Rattle.lp_scopes.specs.Spots.{spot_view, next}
use Rattle.lp_scopes.proofs.walk.walk.Given as goal

abbrev pub invariant-loop-byte : goal.invariant-loop-byte
invariant-loop-byte l = walk_by (next l.names l.scopes l.instances l.ends) (drop l._byte-index l._byte-items) (spot_view l.here) ≡ walk_by (next l.names l.scopes l.instances l.ends) l._byte-items (spot_view l.fn.spot)
