use Rattle.std.proofs.Common.{◌++◌}
use Rattle.std.specs.Prelude.{flat_map, map}
use Rattle.lp_model.specs.NetlistView.{module_view}
use Rattle.lp_vwrite.specs.Layout.{module_text}
use Rattle.lp_vwrite.proofs.Runs.{written-step}
use Rattle.lp_vwrite.proofs.netlist.put_modules.Goals as goal

pub loop-source-preserved : goal.loop-source-preserved
loop-source-preserved c =
    written-step module_text (module_view c.args.names.now) c.args.modules.now c.loop-source.source-index c.source-item.result c.loop-source.out.items c.put_module.new.out.items
    (c.args.out.now.items ++ flat_map module_text (map (module_view c.args.names.now) c.args.modules.now)) c.loop-source-test.true c.source-item.is c.in_ok-put_module.ensures c.loop-source.invariant
