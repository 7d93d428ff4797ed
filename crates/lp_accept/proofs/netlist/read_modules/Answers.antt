use Rattle.std.proofs.Common.{arith}
use Rattle.lp_model.specs.NetlistView.{netlist_view}
use Rattle.lp_accept.proofs.Checking.{are_modules}
use Rattle.lp_accept.proofs.netlist.read_modules.Goals as goal

pub returns-in-Ok-clause-gives : goal.returns-in-Ok-clause-gives
returns-in-Ok-clause-gives c =
    let names = c.read_netlist.new.names in
    let text = c.args.bytes.now in
    let n = c.in-Ok.netlist in
    let short = c.in-Ok.ensures.short in
    let few = c.in-Ok.ensures.few in
    let before = c.requires in
    let below = c.numbers_stand.ensures names text n.modules c.count.ensures.distinct (omega (arith, few, before, short)) c.in-Ok.ensures.numbers in
    record {
      has = record { short = short; reads = c.in-Ok.ensures.reads };
      are = are_modules names text n short (omega (arith, few, before, short)) below (c.read_is_sound.ensures text (netlist_view names n) c.in-Ok.ensures.reads) (c.parts_are_few.ensures names text n.modules c.in-Ok.ensures.numbers);
    }
