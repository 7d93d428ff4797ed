use Rattle.std.proofs.Common.{◌≡◌, drop, map}
use Rattle.lp_spec_upf.specs.Commands.{has_option}
use Rattle.lp_upf.proofs.options.has_option.Given as goal

abbrev pub invariant-loop-option : goal.invariant-loop-option
invariant-loop-option l = has_option (map (λ o. o.word) (drop l.option-index l.options)) l.word ≡ has_option (map (λ o. o.word) l.options) l.word
