use Rattle.std.proofs.Common.{◌≡◌, ◌++◌, drop}
use Rattle.lp_templates.specs.Modules.{templates_from}
use Rattle.lp_templates.proofs.templates.templates_in.Given as goal

abbrev pub invariant-loop-place : goal.invariant-loop-place
invariant-loop-place l = l.templates.items ++ templates_from l.design l.rows l.place (drop l.place l.modules) ≡ templates_from l.design l.rows 0 l.modules
