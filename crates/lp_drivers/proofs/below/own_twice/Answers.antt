use Rattle.std.proofs.Common.{◌≡◌, None, sym, ap, ◌∙◌}
use Rattle.std.specs.Prelude.{slice_get}
use Rattle.std.specs.Option.{option_copied}
use Rattle.lp_templates.specs.Views.{child_view}
use Rattle.lp_drivers.proofs.Joined.{no-module-seen}
use Rattle.lp_drivers.proofs.below.own_twice.Goals as goal

pub returns-in-None : goal.returns-in-None
returns-in-None c =
    let none : slice_get c.args.seen.now c.args.child.now.of ≡ None = sym c.at.ensures ∙ ap option_copied c.in-None.is in
    sym (no-module-seen c.args.seen.now (child_view c.args.child.now) none)
