use Rattle.lp_plain_upf.proofs.Reading.{is_found, is_only}
use Rattle.lp_plain_upf.proofs.intent.read_intent.Goals as goal

pub returns-clause-found : goal.returns-clause-found
returns-clause-found c = is_found c.args.bytes.now c.intent.result c.intent.ensures

pub returns-clause-only : goal.returns-clause-only
returns-clause-only c = is_only c.args.bytes.now c.intent.result c.intent.ensures
