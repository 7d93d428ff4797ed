use Rattle.std.proofs.Common.{◌≡◌, map, take}
use Rattle.lp_text.specs.declared.names.NameId.{NameId}
use Rattle.lp_choice.specs.Rails.{rail_of, rail_wire}
use Rattle.lp_choice.proofs.rails.rail_wires.Given as goal

abbrev pub invariant-loop-name : goal.invariant-loop-name
invariant-loop-name l = l.wires.items ≡ map (λ (n : NameId). rail_wire l.keys (rail_of l.names l.pgs l.origins n)) (take l.name-index l.variables)
