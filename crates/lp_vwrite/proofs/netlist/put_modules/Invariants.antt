use Rattle.std.proofs.Common.{◌≡◌, ◌++◌, drop, map}
use Rattle.std.specs.List.{flat_map}
use Rattle.lp_model.specs.NetlistView.{module_view}
use Rattle.lp_vwrite.specs.Layout.{module_text}
use Rattle.lp_vwrite.proofs.netlist.put_modules.Given as goal

abbrev pub invariant-loop-source : goal.invariant-loop-source
invariant-loop-source l = l.out.items ++ flat_map module_text (map (module_view l.names) (drop l.source-index l.modules)) ≡ l.fn.out.items ++ flat_map module_text (map (module_view l.names) l.modules)
