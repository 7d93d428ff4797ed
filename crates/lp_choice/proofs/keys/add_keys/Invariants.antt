use Rattle.std.proofs.Common.{◌≡◌, ◌++◌, take}
use Rattle.lp_choice.specs.Keys.{keys_of}
use Rattle.lp_choice.proofs.keys.add_keys.Given as goal

abbrev pub invariant-loop-name : goal.invariant-loop-name
invariant-loop-name l = l.keys.items ≡ l.initial.keys.items ++ keys_of l.names (take l.name-index l.more)
