use Rattle.std.proofs.Common.{◌≡◌, drop}
use Rattle.lp_plain_upf.specs.Names.{has_name}
use Rattle.lp_top.proofs.parsing.is_among.Given as goal

abbrev pub invariant-loop-other : goal.invariant-loop-other
invariant-loop-other l = has_name l.name (drop l.other-index l.names) ≡ has_name l.name l.names
