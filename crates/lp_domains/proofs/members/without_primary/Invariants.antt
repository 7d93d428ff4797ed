use Rattle.std.proofs.Common.{◌≡◌, drop}
use Rattle.std.specs.Prelude.{not, is_some}
use Rattle.lp_model.specs.declared.intent.Domain.{Domain}
use Rattle.lp_spec_design.specs.Domains.{first_number}
use Rattle.lp_domains.specs.Domains.{without_primary}
use Rattle.lp_domains.proofs.members.without_primary.Given as goal

abbrev pub invariant-loop-number : goal.invariant-loop-number
invariant-loop-number l = first_number (λ (d : Domain). not (is_some d.primary)) l.number (drop l.number l.domains) ≡ without_primary l.domains
