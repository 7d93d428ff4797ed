use Rattle.lp_spec_layout.proofs.Numbered.{rows-go-on, edges-go-on}
use Rattle.lp_spec_layout.proofs.laws.feeds_go_on.Goals as goal

pub returns-clause-rows : goal.returns-clause-rows
returns-clause-rows c = rows-go-on

pub returns-clause-edges : goal.returns-clause-edges
returns-clause-edges c = edges-go-on
