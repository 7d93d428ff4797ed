use Rattle.std.proofs.Common.{◌∙◌, ap}
use Rattle.lp_expr.specs.Formula.{value_of}
use Rattle.lp_expr.specs.Places.{is_one}
use Rattle.lp_choice.proofs.Values.{value-of-wires}
use Rattle.lp_choice.proofs.wires.value_at.Goals as goal

pub returns : goal.returns
returns c =
    c.is_one.ensures
    ∙ (ap is_one (c.value.ensures ∙ ap (value_of c.args.e.now) c.levels_of-levels.ensures)
    ∙ value-of-wires c.args.e.now c.args.wires.now c.args.choice.now)
