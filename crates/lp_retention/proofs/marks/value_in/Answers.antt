use Rattle.std.proofs.Common.{◌≡◌, None, refl, sym, ap, ◌∙◌}
use Rattle.std.specs.Prelude.{slice_get, Bool, true, false, ◌||◌}
use Rattle.std.specs.Option.{option_copied}
use Rattle.lp_spec_bridge.specs.Inherited.{value_in}
use Rattle.lp_strategy.proofs.Entries.{get-none}
use Rattle.lp_retention.specs.Marks.{own_mark, either_mark}
use Rattle.lp_retention.proofs.marks.value_in.Goals as goal

or-self : (b : Bool) → (b || b) ≡ b
or-self true = refl
or-self false = refl

pub returns-in-None-at : goal.returns-in-None-at
returns-in-None-at c =
    let none : slice_get c.args.done.now c.in-Some.parent.0 ≡ None = sym c.at.ensures ∙ ap option_copied c.in-None-at.is in
    sym
    (ap (value_in own_mark either_mark c.args.done.now c.args.own) c.in-Some.is
    ∙ ap (either_mark c.args.own) (get-none c.args.done.now c.in-Some.parent.0 c.args.own none)
    ∙ or-self c.args.own)
