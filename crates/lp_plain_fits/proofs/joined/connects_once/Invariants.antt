use Rattle.std.proofs.Common.{◌≡◌, drop}
use Rattle.lp_plain_fits.specs.Numbered.{connects_once}
use Rattle.lp_plain_fits.proofs.joined.connects_once.Given as goal

abbrev pub invariant-loop-place : goal.invariant-loop-place
invariant-loop-place l = connects_once (drop l.place l.connections) ≡ connects_once l.connections
