use Rattle.std.proofs.Common.{sym, append-nil}
use Rattle.lp_templates.specs.Pieces.{places_from}
use Rattle.lp_templates.proofs.Joined.{places_driven, constants_not_driven}
use Rattle.lp_templates.proofs.join.put.Goals as goal

pub returns-in-Node : goal.returns-in-Node
returns-in-Node c = rw (c.in-Node.is, places_driven c.in-Node.place c.args.from c.args.count 0) c.push.ensures.ok

pub returns-in-Const : goal.returns-in-Const
returns-in-Const c = rw (c.in-Const.is, constants_not_driven c.in-Const.field-0 c.args.count 0 (places_from c.args.from c.args.count)) (sym (append-nil c.args.joints.now))
