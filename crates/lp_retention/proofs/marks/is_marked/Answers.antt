use Rattle.std.proofs.Common.{◌≡◌, None, false, sym, ap, ◌∙◌}
use Rattle.std.specs.Prelude.{slice_get}
use Rattle.std.specs.Option.{option_copied}
use Rattle.lp_strategy.proofs.Entries.{get-none}
use Rattle.lp_retention.proofs.marks.is_marked.Goals as goal

pub returns-in-None : goal.returns-in-None
returns-in-None c =
    let none : slice_get c.args.table.now c.args.place ≡ None = sym c.at.ensures ∙ ap option_copied c.in-None.is in
    sym (get-none c.args.table.now c.args.place false none)
