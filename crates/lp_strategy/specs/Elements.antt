-- The first element of a strategy that names nothing on which the strategy can act, by number (own rule).
use Rattle.std.specs.Prelude.{ℕ, ◌+◌, not, List, [], ◌∷◌, Option, Some, None, option_map}
use Rattle.lp_model.specs.declared.fault.strategy.StrategyFault.{StrategyFault}
use Rattle.lp_model.specs.declared.fault.strategy.StrategyFault.TheVariants.{NotBoundary}
use Rattle.lp_model.specs.declared.graph.Graph.{Graph}
use Rattle.lp_model.specs.declared.intent.Element.{Element}
use Rattle.lp_model.specs.declared.intent.Strategy.{Strategy}
use Rattle.lp_spec_design.specs.Netlists.{first}
use Rattle.lp_strategy.specs.Sides.{is_placed_by}

abbrev pub listed : Option (List Element) → List Element
listed None = []
listed (Some elements) = elements

abbrev pub misplaced_in : Graph → List ℕ → Strategy → Option Element
misplaced_in g domains t = first (λ e. not (is_placed_by g domains t.kind t.domain e)) (listed t.elements)

abbrev pub or_later : Option StrategyFault → Option StrategyFault → Option StrategyFault
or_later (Some x) later = Some x
or_later None later = later

-- the fault of the strategy of a number
abbrev pub fault_of : ℕ → Option Element → Option StrategyFault
fault_of k e = option_map (λ (e : Element). NotBoundary (record { 0 = k }) e) e

abbrev pub misplaced_from : Graph → List ℕ → ℕ → List Strategy → Option StrategyFault
misplaced_from g domains k [] = None
misplaced_from g domains k (t ∷ ts) = or_later (fault_of k (misplaced_in g domains t)) (misplaced_from g domains (k + 1) ts)
