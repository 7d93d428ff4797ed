use Rattle.std.proofs.Common.{◌≡◌, None, sym, ap, ◌∙◌}
use Rattle.std.specs.Prelude.{slice_get}
use Rattle.std.specs.Option.{option_copied}
use Rattle.lp_strategy.proofs.Entries.{get-none}
use Rattle.lp_strategy.proofs.sides.domain_at.Goals as goal

pub returns-in-None : goal.returns-in-None
returns-in-None c =
    let none : slice_get c.args.domains.now c.args.instance.0 ≡ None = sym c.at.ensures ∙ ap option_copied c.in-None.is in
    sym (get-none c.args.domains.now c.args.instance.0 0 none)
