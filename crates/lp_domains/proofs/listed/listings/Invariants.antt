use Rattle.std.proofs.Common.{◌≡◌, drop}
use Rattle.lp_domains.specs.Listed.{note_from, listings}
use Rattle.lp_domains.proofs.listed.listings.Given as goal

abbrev pub invariant-loop-number : goal.invariant-loop-number
invariant-loop-number l = note_from l.table.items l.number (drop l.number l.domains) ≡ listings l.count l.domains
