use Rattle.std.proofs.Common.{map, length, ap, ◌∙◌, subst, arith}
use Rattle.std.specs.Prelude.{Err}
use Rattle.std.specs.List.{flat_map}
use Rattle.lp_model.specs.Agreement.{numbers_below}
use Rattle.lp_model.specs.LibraryView.{cell_view, cell_numbers, library_view}
use Rattle.lp_model.specs.NetlistView.{netlist_view, module_view}
use Rattle.lp_spec_plain_netlist.specs.Fits.{are_read}
use Rattle.lp_accept.specs.Inputs.{inputs_of}
use Rattle.lp_accept.specs.Stages.{OrStop}
use Rattle.lp_accept.specs.Read.{IsModules}
use Rattle.lp_accept.specs.Judged.{IsSource, Judged, Unjudged}
use Rattle.lp_accept.proofs.Accepting.{both, still-cells, few-cells, are-cells, exit-netlist, exit-source, exit-judge, accepted}
use Rattle.lp_accept.proofs.accepted.accept.Goals as goal

pub returns-in-Err-read_modules : goal.returns-in-Err-read_modules
returns-in-Err-read_modules c =
    exit-netlist c.args.libs.now c.args.netlist.now c.args.upf.now (IsModules c.read_modules.new.names c.args.netlist.now) (library_view c.read_library.new.names c.in-Ok.library) c.in-Ok.ensures.gives.has
    c.in-Err-read_modules.stop c.in-Err-read_modules.ensures.gives

pub source_of-requires-clause-cells : goal.source_of-requires-clause-cells
source_of-requires-clause-cells c =
    let names = c.read_modules.new.names in
    let still = still-cells c.read_library.new.names names c.in-Ok-read_modules.ensures.grown c.args.libs.now c.in-Ok.library c.in-Ok.ensures.gives in
    let few = few-cells c.read_library.new.names c.args.libs.now c.in-Ok.library c.in-Ok.ensures.gives in
    let short = c.in-Ok.ensures.short in
    are-cells names c.args.libs.now c.in-Ok.library still (omega (arith, few, short))

pub returns-in-Err-source_of : goal.returns-in-Err-source_of
returns-in-Err-source_of c =
    let names = c.read_modules.new.names in
    let still = still-cells c.read_library.new.names names c.in-Ok-read_modules.ensures.grown c.args.libs.now c.in-Ok.library c.in-Ok.ensures.gives in
    let cells = library_view names c.in-Ok.library in
    let modules = netlist_view names c.in-Ok-read_modules.modules in
    exit-source c.args.libs.now c.args.netlist.now c.args.upf.now (IsSource names cells modules) cells modules still.has c.in-Ok-read_modules.ensures.gives.has
    c.in-Err-source_of.stop c.in-Err-source_of.ensures

pub judge-requires-clause-cells : goal.judge-requires-clause-cells
judge-requires-clause-cells c =
    let still = still-cells c.read_library.new.names c.read_modules.new.names c.in-Ok-read_modules.ensures.grown c.args.libs.now c.in-Ok.library c.in-Ok.ensures.gives in
    ap (λ cs. numbers_below (length c.read_modules.new.names) (flat_map cell_numbers cs)) c.as_slice.ensures ∙ still.below

pub judge-requires-clause-read : goal.judge-requires-clause-read
judge-requires-clause-read c =
    let names = c.read_modules.new.names in
    let still = still-cells c.read_library.new.names names c.in-Ok-read_modules.ensures.grown c.args.libs.now c.in-Ok.library c.in-Ok.ensures.gives in
    let m = module_view names c.in-Ok-source_of.source in
    let read = c.inputs_are_read.ensures (inputs_of c.args.libs.now c.args.netlist.now c.args.upf.now) (library_view names c.in-Ok.library) m
    (both c.args.libs.now c.args.netlist.now c.args.upf.now (library_view names c.in-Ok.library) m still.has (netlist_view names c.in-Ok-read_modules.modules) c.in-Ok-read_modules.ensures.gives.has c.in-Ok-source_of.ensures.one) in
    ap (λ cs. are_read (map (cell_view names) cs) m) c.as_slice.ensures ∙ read

pub judge-requires-clause-few_cells : goal.judge-requires-clause-few_cells
judge-requires-clause-few_cells c =
    let few = few-cells c.read_library.new.names c.args.libs.now c.in-Ok.library c.in-Ok.ensures.gives in
    let short = c.in-Ok.ensures.short in
    let e = ap length c.as_slice.ensures in
    omega (arith, few, short, e)

pub returns-in-Ok-judge : goal.returns-in-Ok-judge
returns-in-Ok-judge c =
    let names = c.read_modules.new.names in
    let source = c.in-Ok-source_of.source in
    let still = still-cells c.read_library.new.names names c.in-Ok-read_modules.ensures.grown c.args.libs.now c.in-Ok.library c.in-Ok.ensures.gives in
    let few = few-cells c.read_library.new.names c.args.libs.now c.in-Ok.library c.in-Ok.ensures.gives in
    let short = c.in-Ok.ensures.short in
    let few_names = c.in-Ok-read_modules.ensures.short in
    accepted c.args.libs.now c.args.netlist.now c.args.upf.now c.ordered_has_no_loop.ensures (c.inputs_are_read.ensures (inputs_of c.args.libs.now c.args.netlist.now c.args.upf.now))
    (record { names = names; library = c.in-Ok.library; source = source; intent = c.in-Ok-judge.intent })
    still (omega (arith, few, short)) few_names (netlist_view names c.in-Ok-read_modules.modules) c.in-Ok-read_modules.ensures.gives.has c.in-Ok-source_of.ensures.one c.in-Ok-source_of.ensures.below
    (subst (λ cs. Judged (map (cell_view names) cs) (module_view names source) c.args.upf.now c.in-Ok-judge.intent) c.as_slice.ensures c.in-Ok-judge.ensures)

pub returns-in-Err-judge : goal.returns-in-Err-judge
returns-in-Err-judge c =
    let names = c.read_modules.new.names in
    let source = c.in-Ok-source_of.source in
    let still = still-cells c.read_library.new.names names c.in-Ok-read_modules.ensures.grown c.args.libs.now c.in-Ok.library c.in-Ok.ensures.gives in
    exit-judge c.args.libs.now c.args.netlist.now c.args.upf.now (library_view names c.in-Ok.library) (module_view names source) still.has
    (netlist_view names c.in-Ok-read_modules.modules) c.in-Ok-read_modules.ensures.gives.has c.in-Ok-source_of.ensures.one
    c.in-Err-judge.stop
    (subst (λ cs. OrStop (Judged (map (cell_view names) cs) (module_view names source) c.args.upf.now) (Unjudged (map (cell_view names) cs) (module_view names source) c.args.upf.now) (Err c.in-Err-judge.stop)) c.as_slice.ensures c.in-Err-judge.ensures)
