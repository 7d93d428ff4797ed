use Rattle.std.proofs.Common.{◌≡◌, ℕ, true, length, map, inr, sym, ◌∙◌, subst, arith}
use Rattle.std.specs.Bool.{OnFalse, OnTrue}
use Rattle.lp_model.specs.LibraryView.{cell_view}
use Rattle.lp_model.specs.NetlistView.{module_view}
use Rattle.lp_spec_design.specs.Keys.{Name}
use Rattle.lp_spec_plain_netlist.specs.Single.{is_single_module}
use Rattle.lp_spec_plain_netlist.specs.Fits.{are_read, is_fit}
use Rattle.lp_spec_plain_netlist.specs.Flats.{HasLoop, IsOrdered, flat_of}
use Rattle.lp_accept.specs.Judged.{Sound}
use Rattle.lp_accept.proofs.Judging.{read-few, unsound}
use Rattle.lp_accept.proofs.Accepting.{names-below}
use Rattle.lp_accept.proofs.judge.check_sound.Goals as goal

pub are_plain-requires-clause-cells : goal.are_plain-requires-clause-cells
are_plain-requires-clause-cells c = names-below (length c.args.names.now) c.args.index.now c.requires.cells

pub has_loop-requires-clause-small : goal.has_loop-requires-clause-small
has_loop-requires-clause-small c =
    let few = read-few c.args.names.now (map (cell_view c.args.names.now) c.args.index.now) c.args.source.now c.requires.source c.requires.read in
    let names = c.requires.few in
    omega (arith, few, names)

pub returns-then-looped : goal.returns-then-looped
returns-then-looped c =
    let names = c.args.names.now in
    let cells = map (cell_view names) c.args.index.now in
    let m = module_view names c.args.source.now in
    let loops = subst (λ b. OnTrue b ((power gnd : Name) (margin : ℕ) → is_single_module m ≡ true → are_read cells m ≡ true → is_fit cells m ≡ true → HasLoop (flat_of cells m power gnd margin))) c.if-looped.true c.in_ok-looped.ensures.looped in
    unsound {T = Unit {0}} (λ _. Sound cells m) cells m c.not_yet-then-looped.result c.not_yet-then-looped.ensures
    (inr (sym c.in_ok-plain.ensures ∙ c.if-not-plain.false, λ power gnd margin. loops power gnd margin c.requires.single c.requires.read c.requires.fits))

pub returns : goal.returns
returns c =
    let names = c.args.names.now in
    let cells = map (cell_view names) c.args.index.now in
    let m = module_view names c.args.source.now in
    let ordered = subst (λ b. OnFalse b ((power gnd : Name) (margin : ℕ) → is_single_module m ≡ true → are_read cells m ≡ true → is_fit cells m ≡ true → IsOrdered (flat_of cells m power gnd margin))) c.if-looped.false c.in_ok-looped.ensures.ordered in
    record {
      plain = sym c.in_ok-plain.ensures ∙ c.if-not-plain.false;
      ordered = λ power gnd margin. ordered power gnd margin c.requires.single c.requires.read c.requires.fits;
    }
