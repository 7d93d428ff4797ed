use Rattle.std.proofs.Common.{[], sym, ◌∙◌}
use Rattle.std.proofs.lemmas.Bool.{true≢false}
use Rattle.lp_attributes.proofs.Finding.{found, not_found}
use Rattle.lp_parts.proofs.source.empty.Goals as goal

pub returns-in-Some-clause-below : goal.returns-in-Some-clause-below
returns-in-Some-clause-below c = (found c.args.names.now [] c.find.result c.in-Some.empty c.find.ensures c.in-Some.is).below

pub returns-in-Some-clause-same : goal.returns-in-Some-clause-same
returns-in-Some-clause-same c = (found c.args.names.now [] c.find.result c.in-Some.empty c.find.ensures c.in-Some.is).same

pub returns-in-None-clause-below : goal.returns-in-None-clause-below
returns-in-None-clause-below c = absurd (true≢false (sym c.requires ∙ not_found c.args.names.now [] c.find.result c.find.ensures c.in-None.is))

pub returns-in-None-clause-same : goal.returns-in-None-clause-same
returns-in-None-clause-same c = absurd (true≢false (sym c.requires ∙ not_found c.args.names.now [] c.find.result c.find.ensures c.in-None.is))
