use Rattle.lp_tern.specs.declared.tern.Tern.TheVariants.{X}
use Rattle.lp_behaviour.proofs.Replacing.{by_bit}
use Rattle.lp_behaviour.proofs.function.evaluate_unknown.Goals as goal

pub returns-in-Some : goal.returns-in-Some
returns-in-Some c =
    let e = by_bit c.args.cell.now c.args.pins.now X c.args.e.now in
    rw (e, ← c.evaluate_at.ensures, ← c.evaluate_at-low.ensures) c.choose.ensures
