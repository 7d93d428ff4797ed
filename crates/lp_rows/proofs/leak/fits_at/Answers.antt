use Rattle.std.proofs.Common.{◌≡◌, ◌||◌, ◌==◌, not, false, length, sym, ap, ◌∙◌, arith}
use Rattle.std.proofs.lemmas.Bool.{eq-eqb}
use Rattle.lp_rows.specs.Network.{root_of}
use Rattle.lp_rows.specs.Leaks.{agrees, agrees_under, held, is_cut}
use Rattle.lp_rows.proofs.BelowLemmas.{each_below-false}
use Rattle.lp_rows.proofs.leak.fits_at.Goals as goal

pub returns-then-not-fits_under : goal.returns-then-not-fits_under
returns-then-not-fits_under c =
    let s = c.args.s.now in
    let row = c.args.row.now in
    let o = c.loop-origin.origin in
    let n = length s.origins in
    let answer = agrees s row c.args.a c.args.b o (held (is_cut s row c.args.a n o) c.args.state) in
    let here : (root_of s o == c.args.port) ≡ _ = eq-eqb (root_of s o) c.args.port (sym c.root.ensures ∙ c.if-root-port.true) in
    let missed : answer ≡ false = sym c.fits_under.ensures ∙ c.if-not-fits_under.true in
    let fails : agrees_under s row c.args.a c.args.b c.args.port c.args.state o ≡ false = ap (λ b. not b || answer) here ∙ missed in
    sym (each_below-false (agrees_under s row c.args.a c.args.b c.args.port c.args.state) n o (omega arith) fails)
