use Rattle.std.proofs.Common.{◌≡◌, map, drop}
use Rattle.lp_scopes.specs.Numbered.{inst_key, noted_from, all_noted}
use Rattle.lp_scopes.proofs.scopes.inst_keys.Given as goal

abbrev pub invariant-loop-place : goal.invariant-loop-place
invariant-loop-place l = noted_from l.keys l.place (map inst_key (drop l.place l.instances)) ≡ all_noted (map inst_key l.instances)
