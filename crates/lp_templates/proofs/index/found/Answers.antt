use Rattle.std.proofs.Common.{◌≡◌, Some, None, sym, arith}
use Rattle.std.specs.Prelude.{slice_get}
use Rattle.lp_templates.proofs.Indexed.{found_here, found_other}
use Rattle.lp_templates.proofs.index.found.Goals as goal

pub returns-then-other-number : goal.returns-then-other-number
returns-then-other-number c =
    let got : slice_get c.args.numbers.now c.noted-place.result ≡ Some c.args.number = grind (arith, c.in-Some.ensures, c.at.ensures, c.in-Some.is, c.if-other-number.true) in
    sym (found_here c.args.firsts.now c.args.numbers.now c.requires c.args.number c.noted-place.result c.noted-place.ensures got)

pub returns-else-other-number : goal.returns-else-other-number
returns-else-other-number c =
    let got : slice_get c.args.numbers.now c.noted-place.result ≡ Some c.in-Some.other.now = grind (arith, c.in-Some.ensures, c.at.ensures, c.in-Some.is) in
    sym (found_other c.args.firsts.now c.args.numbers.now c.requires c.args.number c.noted-place.result c.noted-place.ensures (Some c.in-Some.other.now) got (λ (e : Some c.in-Some.other.now ≡ Some c.args.number). let same : c.in-Some.other.now ≡ c.args.number = cc in c.if-other-number.false same))

pub returns-in-None : goal.returns-in-None
returns-in-None c =
    let got : slice_get c.args.numbers.now c.noted-place.result ≡ None = grind (arith, c.in-None.ensures, c.at.ensures, c.in-None.is) in
    sym (found_other c.args.firsts.now c.args.numbers.now c.requires c.args.number c.noted-place.result c.noted-place.ensures None got (λ (e : None ≡ Some c.args.number). let no : None ≡ Some c.args.number = e in cc))
