use Rattle.std.proofs.Common.{◌∙◌}
use Rattle.lp_expr.specs.Table.{is_bit}
use Rattle.lp_expr.proofs.SlotsLemmas.{place-slots, value-slots}
use Rattle.lp_expr.proofs.compare.value_in.Goals as goal

pub bit-requires : goal.bit-requires
bit-requires c = place-slots c.args.e.now (is_bit c.args.choice) c.args.slots.now c.place_in.result c.requires.length c.place_in.ensures

pub returns : goal.returns
returns c = c.bit.ensures ∙ value-slots c.args.e.now (is_bit c.args.choice) c.args.slots.now c.place_in.result c.requires.length c.place_in.ensures
