use Rattle.std.proofs.Common.{◌≡◌, drop, map}
use Rattle.lp_spec_upf.specs.Commands.{lacks_none}
use Rattle.lp_upf.specs.Tables.{rule_view}
use Rattle.lp_upf.proofs.needs.lacks_none.Given as goal

abbrev pub invariant-loop-rule : goal.invariant-loop-rule
invariant-loop-rule l = lacks_none (map rule_view (drop l.rule-index l.rules)) (map (λ o. o.word) l.options) ≡ lacks_none (map rule_view l.rules) (map (λ o. o.word) l.options)
