use Rattle.std.proofs.Common.{◌≡◌, None, sym, ap, ◌∙◌}
use Rattle.std.specs.Prelude.{slice_get}
use Rattle.std.specs.Option.{option_copied}
use Rattle.lp_strategy.proofs.Entries.{get-none}
use Rattle.lp_retention.specs.Best.{none_yet}
use Rattle.lp_retention.proofs.ranks.best_at.Goals as goal

pub returns-in-None : goal.returns-in-None
returns-in-None c =
    let none : slice_get c.args.bests.now c.args.place ≡ None = sym c.at.ensures ∙ ap option_copied c.in-None.is in
    c.none_yet.ensures ∙ sym (get-none c.args.bests.now c.args.place none_yet none)
