use Rattle.std.proofs.Common.{sym, ◌∙◌}
use Rattle.lp_accept.proofs.Checking.{no-source, some-source}
use Rattle.lp_accept.proofs.source.check_sources.Goals as goal

pub returns-in-Ok-None : goal.returns-in-Ok-None
returns-in-Ok-None c = no-source c.args.names.now c.args.netlist.now c.args.library.now c.args.hierarchy.now c.requires.judged (sym c.in-Ok-None.field-0-is ∙ c.in-Ok-None.ensures)

pub returns-in-Ok-Some : goal.returns-in-Ok-Some
returns-in-Ok-Some c = some-source c.args.names.now c.args.netlist.now c.args.library.now c.args.hierarchy.now c.requires.judged c.in-Ok-Some.line (sym c.in-Ok-Some.field-0-is ∙ c.in-Ok-Some.ensures)
