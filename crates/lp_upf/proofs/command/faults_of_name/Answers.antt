use Rattle.std.proofs.Common.{refl, sym, ap, ◌∙◌}
use Rattle.lp_upf.specs.Faults.{faults_view}
use Rattle.lp_upf.specs.Tables.{name_rule_of}
use Rattle.lp_upf.proofs.Behind.{listed_name}
use Rattle.lp_upf.proofs.command.faults_of_name.Goals as goal

pub returns-in_ok-elements-in-NameList-clause-value : goal.returns-in_ok-elements-in-NameList-clause-value
returns-in_ok-elements-in-NameList-clause-value c =
    let new = c.read_elements.new.names in
    listed_name c.args.names.now new c.args.words.now _ _ c.in_ok-elements-in-NameList.elements (name_rule_of c.args.rule) (faults_view new c.list_faults.result)
    (sym c.is_empty.ensures ∙ c.if-is_empty.false) refl (ap name_rule_of c.in-NameList.is) c.in_ok-elements-in-NameList.ensures.ok c.list_faults.ensures.value
