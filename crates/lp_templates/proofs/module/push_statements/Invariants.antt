use Rattle.std.proofs.Common.{◌≡◌, drop}
use Rattle.lp_templates.specs.Modules.{statements_from, with_statements}
use Rattle.lp_templates.proofs.module.push_statements.Given as goal

abbrev pub invariant-loop-place : goal.invariant-loop-place
invariant-loop-place l = with_statements l.template (statements_from l.design l.scope l.row l.before l.place (drop l.place l.instances)) ≡ with_statements l.fn.template (statements_from l.design l.scope l.row l.fn.first 0 l.instances)
