use Rattle.std.proofs.Common.{◌≡◌, drop, map}
use Rattle.lp_spec_upf.specs.Commands.{is_among}
use Rattle.lp_upf.proofs.words.is_among.Given as goal

abbrev pub invariant-loop-word : goal.invariant-loop-word
invariant-loop-word l = is_among (map (λ w. w.now) (drop l.word-index l.words)) l.text ≡ is_among (map (λ w. w.now) l.words) l.text
