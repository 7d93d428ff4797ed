use Rattle.std.proofs.Common.{ap, ◌∙◌}
use Rattle.lp_text.specs.Texts.{with_text}
use Rattle.lp_verilog.proofs.Answering.{word_put}
use Rattle.lp_verilog.proofs.netlist.refusal.Goals as goal

pub returns-in-Ok-clause-known : goal.returns-in-Ok-clause-known
returns-in-Ok-clause-known c off = word_put c.from-in-Ok.result c.args.word.now c.args.names.now c.intern.new.names (c.in-Ok.ensures.ok ∙ ap (with_text c.args.names.now) c.text_of.ensures)
