use Rattle.std.proofs.Common.{◌≡◌, drop, None}
use Rattle.lp_node_text.specs.Numbered.{entered_from}
use Rattle.lp_node_text.proofs.entered.last_entered.Given as goal

abbrev pub invariant-loop-number : goal.invariant-loop-number
invariant-loop-number l = entered_from l.place l.last l.number (drop l.number l.template.statements) ≡ entered_from l.place None 0 l.template.statements
