use Rattle.std.proofs.Common.{◌≡◌, map, drop}
use Rattle.lp_scopes.specs.Numbered.{leaf_key, noted_from, all_noted}
use Rattle.lp_scopes.proofs.scopes.leaf_keys.Given as goal

abbrev pub invariant-loop-place : goal.invariant-loop-place
invariant-loop-place l = noted_from l.keys l.place (map leaf_key (drop l.place l.leaves)) ≡ all_noted (map leaf_key l.leaves)
