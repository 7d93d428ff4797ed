use Rattle.std.proofs.Common.{arith}
use Rattle.lp_verilog.specs.Reading.{Whole, Left}
use Rattle.lp_verilog.proofs.Found.{grown_same}
use Rattle.lp_verilog.proofs.Faults.{first_fault}
use Rattle.lp_verilog.proofs.Unread.{ends_visible, few_after}
use Rattle.lp_verilog.proofs.Answering.{leads_to, left_at, refused, has_none, reads_view}
use Rattle.lp_verilog.proofs.netlist.read_netlist.Goals as goal

pub returns-in-Ok-clause-numbers : goal.returns-in-Ok-clause-numbers
returns-in-Ok-clause-numbers c = leads_to c.args.bytes.now c.args.names.now c.read_modules.new.names c.read_modules.new.names (Whole c.in-Ok.modules) c.in-Ok.ensures.reads (grown_same c.read_modules.new.names)

pub returns-in-Ok-clause-reads : goal.returns-in-Ok-clause-reads
returns-in-Ok-clause-reads c =
    let names = c.read_modules.new.names in
    reads_view names c.args.bytes.now c.in-Ok.modules c.count.ensures.distinct (omega arith) (leads_to c.args.bytes.now c.args.names.now names names (Whole c.in-Ok.modules) c.in-Ok.ensures.reads (grown_same names))

pub returns-in-Err-Left-clause-err : goal.returns-in-Err-Left-clause-err
returns-in-Err-Left-clause-err c =
    let reads = left_at c.in-Err-Left.field-0 c.in-Err-Left.off c.in-Err-Left.at c.in-Err-Left.word c.read_modules.new.names _ c.in-Err-Left.field-0-is c.in-Err-Left.ensures.reads in
    let leads = leads_to c.args.bytes.now c.args.names.now c.read_modules.new.names c.refusal.new.names (Left c.in-Err-Left.off c.in-Err-Left.at c.in-Err-Left.word.now) reads c.refusal.ensures.grown in
    let names = c.read_modules.new.names in
    let before = leads_to c.args.bytes.now c.args.names.now names names (Left c.in-Err-Left.off c.in-Err-Left.at c.in-Err-Left.word.now) reads (grown_same names) in
    let first = first_fault names c.args.bytes.now c.in-Err-Left.off c.in-Err-Left.at c.in-Err-Left.word.now c.count-in-Err-Left.ensures.distinct (omega arith) (omega arith) before in
    refused c.refusal.new.names c.args.bytes.now c.refusal.result c.in-Err-Left.off c.in-Err-Left.at c.in-Err-Left.word.now (omega arith) leads c.refusal.ensures.known first c.refusal.ensures.fault

pub returns-in-Err-Left-clause-none : goal.returns-in-Err-Left-clause-none
returns-in-Err-Left-clause-none c =
    let names = c.read_modules.new.names in
    let reads = left_at c.in-Err-Left.field-0 c.in-Err-Left.off c.in-Err-Left.at c.in-Err-Left.word names _ c.in-Err-Left.field-0-is c.in-Err-Left.ensures.reads in
    let leads = leads_to c.args.bytes.now c.args.names.now names names (Left c.in-Err-Left.off c.in-Err-Left.at c.in-Err-Left.word.now) reads (grown_same names) in
    has_none names c.args.bytes.now c.refusal.result c.in-Err-Left.off c.in-Err-Left.at c.in-Err-Left.word.now c.count-in-Err-Left.ensures.distinct (omega arith) leads

pub refusal-requires-clause-seen : goal.refusal-requires-clause-seen
refusal-requires-clause-seen c = ends_visible c.in-Err-Left.field-0 c.in-Err-Left.off c.in-Err-Left.at c.in-Err-Left.word _ _ c.in-Err-Left.field-0-is c.in-Err-Left.ensures.unread

pub returns-in-Err-Left-clause-few : goal.returns-in-Err-Left-clause-few
returns-in-Err-Left-clause-few c = few_after c.in-Err-Left.field-0 c.in-Err-Left.off c.in-Err-Left.at c.in-Err-Left.word c.read_modules.new.names c.refusal.new.names _ c.in-Err-Left.field-0-is c.in-Err-Left.ensures.unread (omega arith) (omega arith) c.refusal.ensures.same
