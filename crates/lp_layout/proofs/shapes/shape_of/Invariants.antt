use Rattle.std.proofs.Common.{◌≡◌, map, take}
use Rattle.lp_model.specs.declared.library.Pin.{Pin}
use Rattle.lp_layout.proofs.shapes.shape_of.Given as goal

abbrev pub invariant-loop-pin : goal.invariant-loop-pin
invariant-loop-pin l = l.pins ≡ map (λ (q : Pin). q.direction) (take l.pin-index l.pin-items)
