use Rattle.lp_spec_begun.proofs.Whole.{content-has-wires}
use Rattle.lp_spec_begun.proofs.laws.written_content_has_its_wires.Goals as goal

pub returns : goal.returns
returns c = content-has-wires c.wires_stand.ensures c.wires_are_closed.ensures
