use Rattle.std.proofs.Common.{◌≡◌, drop}
use Rattle.std.specs.List.{list_all}
use Rattle.lp_spec_upf.specs.Commands.{is_visible}
use Rattle.lp_upf.proofs.words.are_visible.Given as goal

abbrev pub invariant-loop-byte : goal.invariant-loop-byte
invariant-loop-byte l = list_all is_visible (drop l.byte-index l.text) ≡ list_all is_visible l.text
