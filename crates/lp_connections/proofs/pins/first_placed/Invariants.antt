use Rattle.std.proofs.Common.{◌≡◌, ◌<◌, drop}
use Rattle.lp_connections.specs.Numbered.{first_placed}
use Rattle.lp_connections.proofs.pins.first_placed.Given as goal

abbrev pub invariant-loop-bits : goal.invariant-loop-bits
invariant-loop-bits l = record {
  same : first_placed l.design l.target l.position (drop l.bits-index l.values) ≡ first_placed l.design l.target 0 l.values;
  few : l.position < 4294967295;
}
