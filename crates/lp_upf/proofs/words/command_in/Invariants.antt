use Rattle.std.proofs.Common.{◌≡◌, drop}
use Rattle.lp_spec_upf.specs.Commands.{command_in}
use Rattle.lp_upf.proofs.words.command_in.Given as goal

abbrev pub invariant-loop-word : goal.invariant-loop-word
invariant-loop-word l = command_in (drop l.word-index l.words) l.text ≡ command_in l.words l.text
