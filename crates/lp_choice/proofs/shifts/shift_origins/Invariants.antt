use Rattle.std.proofs.Common.{◌≡◌, ◌++◌, drop}
use Rattle.lp_choice.specs.Rails.{placed_origins}
use Rattle.lp_choice.specs.Shifts.{shift_origin}
use Rattle.lp_choice.proofs.shifts.shift_origins.Given as goal

abbrev pub invariant-loop-place : goal.invariant-loop-place
invariant-loop-place l = l.origins.items ++ placed_origins (shift_origin l.need l.given l.output) l.place (drop l.place l.pgs) ≡ placed_origins (shift_origin l.need l.given l.output) 0 l.pgs
