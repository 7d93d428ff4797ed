use Rattle.std.proofs.Common.{◌≡◌, drop}
use Rattle.lp_domains.specs.Listed.{note_all}
use Rattle.lp_domains.proofs.listed.note_all.Given as goal

abbrev pub invariant-loop-instance : goal.invariant-loop-instance
invariant-loop-instance l = note_all l.table.items (drop l.instance-index l.instances) l.domain ≡ note_all l.fn.table.items l.instances l.domain
