use Rattle.std.proofs.Common.{◌≡◌, drop, map}
use Rattle.lp_plain_upf.specs.Reading.{all_at}
use Rattle.lp_plain_upf.proofs.pieces.expect_all.Given as goal

abbrev pub invariant-loop-piece : goal.invariant-loop-piece
invariant-loop-piece l = all_at (map (λ p. p.now) (drop l.piece-index l.pieces)) l.rest ≡ all_at (map (λ p. p.now) l.pieces) l.bytes
