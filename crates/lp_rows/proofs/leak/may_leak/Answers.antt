use Rattle.std.proofs.Common.{◌≡◌, ◌&&◌, false, length, sym, ap, ◌∙◌}
use Rattle.std.proofs.lemmas.Bool.{and_left, and_right}
use Rattle.lp_rows.specs.Network.{root_of}
use Rattle.lp_rows.specs.Leaks.{has_fit, fits, each_below}
use Rattle.lp_rows.proofs.leak.may_leak.Goals as goal

pub returns-else-has_fitting : goal.returns-else-has_fitting
returns-else-has_fitting c =
    let s = c.args.s.now in
    let test = has_fit s c.args.row.now c.args.a c.args.b in
    let first = test (root_of s c.args.a) in
    let second = test (root_of s c.args.b) in
    let others = each_below (fits s c.args.row.now c.args.a c.args.b) (length s.origins) in
    let misses : second ≡ false = ap test (sym c.root-to.ensures) ∙ sym c.has_fitting-2.ensures ∙ c.if-has_fitting.false in
    c.if-has_fitting.false ∙ sym (and_left (first && second) others (and_right first second misses))
