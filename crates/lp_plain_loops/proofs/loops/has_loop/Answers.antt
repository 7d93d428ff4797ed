use Rattle.std.proofs.Common.{Bool, true, false, subst, map}
use Rattle.std.specs.Bool.{OnTrue, OnFalse}
use Rattle.lp_order.specs.Order as order
use Rattle.lp_model.specs.NetlistView.{module_view}
use Rattle.lp_model.specs.LibraryView.{cell_view}
use Rattle.lp_plain_loops.proofs.Graphs.{order_is, loop_is}
use Rattle.lp_plain_loops.proofs.Views.{rows_same}
use Rattle.lp_plain_loops.proofs.loops.has_loop.Goals as goal

OnFalse-map : {P Q : Type 0} (b : Bool) → (P → Q) → OnFalse b P → OnFalse b Q
OnFalse-map true f p = tt
OnFalse-map false f p = f p

OnTrue-map : {P Q : Type 0} (b : Bool) → (P → Q) → OnTrue b P → OnTrue b Q
OnTrue-map true f p = f p
OnTrue-map false f p = tt

pub returns-clause-ordered : goal.returns-clause-ordered
returns-clause-ordered c =
    let texts = c.args.names.now in
    let same = rows_same texts c.count.ensures.distinct c.args.index.now c.args.source.now c.requires.cells c.requires.source in
    OnFalse-map c.in_ok-looped.looped
    (λ h power gnd margin single read fit. order_is (map (cell_view texts) c.args.index.now) (module_view texts c.args.source.now) power gnd margin single read fit (subst order.HasOrder same h))
    c.in_ok-looped.ensures.ordered

pub returns-clause-looped : goal.returns-clause-looped
returns-clause-looped c =
    let texts = c.args.names.now in
    let same = rows_same texts c.count.ensures.distinct c.args.index.now c.args.source.now c.requires.cells c.requires.source in
    OnTrue-map c.in_ok-looped.looped
    (λ h power gnd margin single read fit. loop_is (map (cell_view texts) c.args.index.now) (module_view texts c.args.source.now) power gnd margin single read fit (subst order.HasLoop same h))
    c.in_ok-looped.ensures.looped
