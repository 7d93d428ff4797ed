use Rattle.std.proofs.Common.{sym, ap, ◌∙◌}
use Rattle.std.specs.Option.{option_copied}
use Rattle.lp_parts.proofs.Viewed.{arg_some, arg_none}
use Rattle.lp_parts.proofs.source.arg_of.Goals as goal

pub returns-in-None-clause-same : goal.returns-in-None-clause-same
returns-in-None-clause-same c = c.empty.ensures.same ∙ sym (arg_none c.args.names.now c.args.group.now.args c.args.n (sym c.get.ensures.value ∙ ap option_copied c.in-None.is))

pub returns-in-Some-clause-same : goal.returns-in-Some-clause-same
returns-in-Some-clause-same c = c.known.ensures.same ∙ sym (arg_some c.args.names.now c.args.group.now.args c.args.n c.in-Some.arg.now (sym c.get.ensures.value ∙ ap option_copied c.in-Some.is))
