use Rattle.std.proofs.Common.{◌≡◌, drop}
use Rattle.std.specs.Prelude.{not}
use Rattle.lp_spec_design.specs.Netlists.{first}
use Rattle.lp_strategy.specs.Sides.{is_placed_by}
use Rattle.lp_strategy.specs.Elements.{misplaced_in}
use Rattle.lp_strategy.proofs.elements.misplaced_in.Given as goal

abbrev pub invariant-loop-element : goal.invariant-loop-element
invariant-loop-element l = first (λ e. not (is_placed_by l.graph l.domains l.strategy.kind l.strategy.domain e)) (drop l.element-index l.element-items) ≡ misplaced_in l.graph l.domains l.strategy
