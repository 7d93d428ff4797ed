use Rattle.std.proofs.Common.{◌≡◌, ◌++◌, drop}
use Rattle.std.specs.Prelude.{map}
use Rattle.lp_cells.proofs.judge.push_pin_names.Given as goal

abbrev pub invariant-loop-pin : goal.invariant-loop-pin
invariant-loop-pin l = l.ids.items ++ map (λ p. p.name) (drop l.pin-index l.pins) ≡ l.fn.ids.items ++ map (λ p. p.name) l.pins
