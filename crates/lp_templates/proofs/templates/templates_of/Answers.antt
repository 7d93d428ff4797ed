use Rattle.lp_templates.proofs.Few.{all_few}
use Rattle.lp_templates.proofs.templates.templates_of.Goals as goal

pub templates_with-requires-clause-few : goal.templates_with-requires-clause-few
templates_with-requires-clause-few c = rw (c.new-design.ensures, c.as_slice-modules.ensures) (all_few c.args.netlist.now.modules c.requires)
