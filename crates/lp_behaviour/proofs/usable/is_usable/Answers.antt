use Rattle.std.proofs.Common.{sym, ◌∙◌}
use Rattle.lp_behaviour.proofs.Usability.{passes-usable}
use Rattle.lp_behaviour.proofs.usable.is_usable.Goals as goal

pub returns : goal.returns
returns c = (
  λ passing. (passes-usable c.args.cell.now).0 (sym c.passes.ensures ∙ passing),
  λ usable. c.passes.ensures ∙ (passes-usable c.args.cell.now).1 usable,
)
