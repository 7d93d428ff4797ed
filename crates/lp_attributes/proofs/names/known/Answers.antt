use Rattle.std.proofs.Common.{[], sym, ◌∙◌, arith}
use Rattle.std.proofs.lemmas.Bool.{true≢false}
use Rattle.lp_attributes.proofs.Finding.{found, not_found, beyond}
use Rattle.lp_attributes.proofs.names.known.Goals as goal

pub returns-in-Some-clause-below : goal.returns-in-Some-clause-below
returns-in-Some-clause-below c = (found c.args.names.now [] c.find.result c.in-Some.empty c.find.ensures c.in-Some.is).below

pub returns-in-Some-clause-same : goal.returns-in-Some-clause-same
returns-in-Some-clause-same c = (found c.args.names.now [] c.find.result c.in-Some.empty c.find.ensures c.in-Some.is).same ∙ sym (beyond c.args.names.now c.args.id.0 (omega (arith, c.count.ensures.count)))

pub returns-in-None-clause-below : goal.returns-in-None-clause-below
returns-in-None-clause-below c = absurd (true≢false (sym c.requires ∙ not_found c.args.names.now [] c.find.result c.find.ensures c.in-None.is))
