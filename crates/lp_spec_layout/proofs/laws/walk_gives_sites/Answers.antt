use Rattle.lp_spec_layout.proofs.Walked.{walk_sites}
use Rattle.lp_spec_layout.proofs.laws.walk_gives_sites.Goals as goal

pub returns : goal.returns
returns c = λ s templates top m names is has are z low. walk_sites s names templates are z top m is has low
