use Rattle.lp_plain_upf.specs.Upf.{IsIntent}
use Rattle.lp_accept.proofs.Judging.{no-intent}
use Rattle.lp_accept.proofs.judge.read_power.Goals as goal

pub returns-in-None : goal.returns-in-None
returns-in-None c = no-intent (IsIntent c.args.bytes.now) c.args.bytes.now c.in_ok-intent.field-0 c.not_yet.result c.not_yet.ensures c.in-None.is c.in_ok-intent.ensures.only
