use Rattle.std.proofs.Common.{◌≡◌, ◌++◌, map, drop}
use Rattle.lp_spec_bridge.specs.Kept.{pin_at_start}
use Rattle.lp_layout.specs.Held.{held_pin}
use Rattle.lp_layout.proofs.rows.push_row.Given as goal

abbrev pub invariant-loop-net : goal.invariant-loop-net
invariant-loop-net l = l.pins ++ map held_pin (map (pin_at_start l.start) (drop l.net-index l.row)) ≡ l.fn.pins ++ map held_pin (map (pin_at_start l.start) l.row)
