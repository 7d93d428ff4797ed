use Rattle.lp_spec_bridge.proofs.Templates.{template_serves}
use Rattle.lp_spec_bridge.proofs.laws.templates_serve.Goals as goal

pub returns : goal.returns
returns c = template_serves
