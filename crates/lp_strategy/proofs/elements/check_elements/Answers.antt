use Rattle.std.proofs.Common.{◌≡◌, List, ℕ, Option, sym, ◌∙◌}
use Rattle.lp_model.specs.declared.fault.strategy.StrategyFault.{StrategyFault}
use Rattle.lp_model.specs.declared.graph.Graph.{Graph}
use Rattle.lp_model.specs.declared.intent.Strategy.{Strategy}
use Rattle.lp_strategy.specs.Elements.{misplaced_from}
use Rattle.lp_strategy.proofs.Placing.{none-right, some-right}
use Rattle.lp_strategy.proofs.elements.check_elements.Goals as goal

-- what is found by equal lists
found-is : (g : Graph) (found : Option StrategyFault) (xs same : List ℕ) (ts known : List Strategy) → found ≡ misplaced_from g xs 0 ts → xs ≡ same → ts ≡ known → misplaced_from g same 0 known ≡ found
found-is g found xs same ts known is a b = sym (is ∙ (λ r. misplaced_from g (a r) 0 (b r)))

pub returns-in-Some-clause-err : goal.returns-in-Some-clause-err
returns-in-Some-clause-err c = λ p given.
    some-right p c.args.intent.now c.args.graph.now c.args.domains.now.domain_of given c.in-Some.fault
    (found-is c.args.graph.now c.first_misplaced.result c.as_slice.result.now c.args.domains.now.domain_of c.as_slice-strategies.result.now c.args.intent.now.strategies c.first_misplaced.ensures c.as_slice.ensures c.as_slice-strategies.ensures ∙ c.in-Some.is)

pub returns-in-None-clause-ok : goal.returns-in-None-clause-ok
returns-in-None-clause-ok c = λ p given.
    none-right p c.args.intent.now c.args.graph.now c.args.domains.now.domain_of given
    (found-is c.args.graph.now c.first_misplaced.result c.as_slice.result.now c.args.domains.now.domain_of c.as_slice-strategies.result.now c.args.intent.now.strategies c.first_misplaced.ensures c.as_slice.ensures c.as_slice-strategies.ensures ∙ c.in-None.is)
