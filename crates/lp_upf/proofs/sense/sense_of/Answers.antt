use Rattle.std.proofs.Common.{Bool, sym, subst}
use Rattle.std.specs.Prelude.{Option}
use Rattle.lp_expr.specs.declared.dialect.Dialect.TheVariants.{Control}
use Rattle.lp_expr.specs.declared.read.ExprFault.{ExprFault}
use Rattle.lp_expr.specs.Answers.{Refuses}
use Rattle.lp_upf.specs.Senses.{IsSenseOf}
use Rattle.lp_upf.proofs.Sensed.{OneTree, by_reading, too-many}
use Rattle.lp_upf.proofs.sense.sense_of.Goals as goal

pub returns-in-Ok : goal.returns-in-Ok
returns-in-Ok c =
    let text = c.args.text.now in
    let control = c.args.control.now in
    let one : OneTree = λ t a b. c.one_expression.ensures Control t a b in
    subst (λ (o : Option Bool). IsSenseOf text control o) (sym c.sense_in.ensures) (by_reading text control c.read_control.new.names c.in-Ok.e one c.postfix_computes.ensures c.in-Ok.ensures.ok)

pub returns : goal.returns
returns c =
    let one : OneTree = λ t a b. c.one_expression.ensures Control t a b in
    too-many c.args.text.now c.args.control.now one (subst (λ (x : ExprFault). Refuses Control c.args.text.now x) c.in-Err-TooManyVariables.field-0-is c.in-Err-TooManyVariables.ensures.err)
