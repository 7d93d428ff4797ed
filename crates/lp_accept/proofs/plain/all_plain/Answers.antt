use Rattle.std.proofs.Common.{◌<◌, length, map, sym, ap, ◌∙◌, subst, refl, arith}
use Rattle.std.specs.List.{list_all}
use Rattle.lp_text.specs.Texts.{text_at}
use Rattle.lp_model.specs.declared.netlist.Instance.{Instance}
use Rattle.lp_model.specs.LibraryView.{cell_view}
use Rattle.lp_spec_plain_netlist.specs.Fits.{cell_named, is_plain_target}
use Rattle.lp_accept.proofs.Readings.{take-all}
use Rattle.lp_accept.proofs.Plains.{target-below, all-more, all-false}
use Rattle.lp_accept.proofs.plain.all_plain.Goals as goal

pub loop-instance-init : goal.loop-instance-init
loop-instance-init c = refl

pub is_plain_at-requires-clause-below : goal.is_plain_at-requires-clause-below
is_plain_at-requires-clause-below c =
    subst (λ (x : Instance). x.target.0 < length c.args.names.now) (sym c.instance-item.is)
    (target-below (length c.args.names.now) c.args.instances.now c.loop-instance.instance-index c.instance-item.result c.loop-instance-test.true c.requires.below)

pub loop-instance-preserved : goal.loop-instance-preserved
loop-instance-preserved c =
    let names = c.args.names.now in
    all-more (λ (x : Instance). is_plain_target (cell_named (map (cell_view names) c.args.index.now) (text_at names x.target.0))) c.args.instances.now c.loop-instance.instance-index c.instance-item.result c.loop-instance-test.true c.instance-item.is
    c.loop-instance.invariant (sym c.is_plain_at.ensures ∙ c.if-not-is_plain_at.false)

pub returns-then-not-is_plain_at : goal.returns-then-not-is_plain_at
returns-then-not-is_plain_at c =
    let names = c.args.names.now in
    sym (all-false (λ (x : Instance). is_plain_target (cell_named (map (cell_view names) c.args.index.now) (text_at names x.target.0))) c.args.instances.now c.loop-instance.instance-index c.instance-item.result c.loop-instance-test.true c.instance-item.is
    (sym c.is_plain_at.ensures ∙ c.if-not-is_plain_at.true))

pub returns : goal.returns
returns c =
    let names = c.args.names.now in
    let all = λ (x : Instance). is_plain_target (cell_named (map (cell_view names) c.args.index.now) (text_at names x.target.0)) in
    sym (sym (ap (list_all all) (take-all c.args.instances.now c.loop-instance.instance-index (let out = c.loop-instance-test.false in omega (arith, out)))) ∙ c.loop-instance.invariant)
