use Rattle.std.proofs.Common.{◌≡◌, drop, filter, slice_get}
use Rattle.lp_fault_text.specs.Supplies.{in_order, origins}
use Rattle.lp_fault_text.proofs.supply.origin_name.Given as goal

-- the origin is the one that is left to go among those of the ports to come and of the switches that are left
abbrev pub invariant-loop-port : goal.invariant-loop-port
invariant-loop-port l = slice_get (in_order (filter (λ p. p.is_source) (drop l.port-index l.port-items)) l.rest) l.left ≡ slice_get (origins l.intent) l.number
