use Rattle.std.proofs.Common.{ap}
use Rattle.lp_model.specs.CommandsView.{option_view}
use Rattle.std.specs.Prelude.{map}
use Rattle.lp_upf.specs.Faults.{Judged}
use Rattle.lp_upf.specs.Options.{read}
use Rattle.lp_upf.proofs.command.with_faults.Goals as goal

pub returns-clause-value : goal.returns-clause-value
returns-clause-value c = λ names. ap (λ (j : Judged). read (map (option_view names) c.args.rest.options) j c.args.rest.whole) (c.joined.ensures.value names)
