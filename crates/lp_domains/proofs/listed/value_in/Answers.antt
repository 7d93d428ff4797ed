use Rattle.std.proofs.Common.{◌≡◌, None, sym, ap, ◌∙◌}
use Rattle.std.specs.Prelude.{slice_get}
use Rattle.std.specs.Option.{option_copied}
use Rattle.lp_spec_bridge.specs.Inherited.{value_in}
use Rattle.lp_domains.specs.Listed.{own_or_first, own_or}
use Rattle.lp_domains.proofs.Noted.{get-none}
use Rattle.lp_domains.proofs.listed.value_in.Goals as goal

pub returns-in-None-at : goal.returns-in-None-at
returns-in-None-at c =
    let none : slice_get c.args.done.now c.in-Some-parent.parent.0 ≡ None = sym c.at.ensures ∙ ap option_copied c.in-None-at.is in
    sym ((λ r. value_in own_or_first own_or c.args.done.now (c.in_default.is r) (c.in-Some-parent.is r)) ∙ get-none c.args.done.now c.in-Some-parent.parent.0 0 none)
