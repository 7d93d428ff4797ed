use Rattle.std.proofs.Common.{◌≡◌, ◌++◌, map, take}
use Rattle.std.specs.Prelude.{is_some}
use Rattle.lp_model.specs.declared.library.PgPin.{PgPin}
use Rattle.lp_model.specs.declared.library.Pin.{Pin}
use Rattle.lp_layout.specs.Fed.{drives_out}
use Rattle.lp_layout.proofs.pins.drives_of.Given as goal

abbrev pub invariant-loop-pin : goal.invariant-loop-pin
invariant-loop-pin l = l.drives ≡ map (λ (q : Pin). drives_out q.direction) (take l.pin-index l.pin-items)

abbrev pub invariant-loop-pg : goal.invariant-loop-pg
invariant-loop-pg l = l.drives ≡ map (λ (q : Pin). drives_out q.direction) l.cell.pins ++ map (λ (g : PgPin). is_some g.switched) (take l.pg-index l.pg-items)
