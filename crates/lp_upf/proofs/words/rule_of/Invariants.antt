use Rattle.std.proofs.Common.{◌≡◌, drop, map}
use Rattle.lp_spec_upf.specs.Commands.{rule_of}
use Rattle.lp_upf.specs.Tables.{rule_view}
use Rattle.lp_upf.proofs.words.rule_of.Given as goal

abbrev pub invariant-loop-rule : goal.invariant-loop-rule
invariant-loop-rule l = rule_of (map rule_view (drop l.rule-index l.rules)) l.text ≡ rule_of (map rule_view l.rules) l.text
