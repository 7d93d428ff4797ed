use Rattle.std.proofs.Common.{◌≡◌, drop}
use Rattle.std.specs.Prelude.{nat_le}
use Rattle.std.specs.List.{list_all}
use Rattle.lp_loops.specs.Loops.{component_of}
use Rattle.lp_loops.proofs.components.are_within.Given as goal

abbrev pub invariant-loop-read : goal.invariant-loop-read
invariant-loop-read l = list_all (λ b. nat_le (component_of l.components b) l.highest) (drop l.read-index l.row) ≡ list_all (λ b. nat_le (component_of l.components b) l.highest) l.row
