use Rattle.lp_spec_layout.proofs.Measured.{sized_below}
use Rattle.lp_spec_layout.proofs.Walked.{sizes_count}
use Rattle.lp_spec_layout.proofs.laws.sizes_count.Goals as goal

pub returns-clause-whole : goal.returns-clause-whole
returns-clause-whole c = λ s templates top m names is has are z low. sizes_count s names templates are z top m is has low

pub returns-clause-each : goal.returns-clause-each
returns-clause-each c = λ s templates names are z depth p m n is has low. sized_below s names templates are z depth p m n is has low
