use Rattle.std.proofs.Common.{◌≡◌, ◌++◌, drop, length, true}
use Rattle.std.specs.List.{list_all}
use Rattle.lp_text.specs.Texts.{has_text}
use Rattle.lp_model.specs.Agreement.{name_numbers, name_texts, numbers_below}
use Rattle.lp_attributes.proofs.expression.standing_names.Given as goal

abbrev pub invariant-loop-variable : goal.invariant-loop-variable
invariant-loop-variable l = record {
  same : name_texts l.names l.ids.items ++ name_texts l.own (drop l.variable-index l.variables) ≡ name_texts l.own l.variables;
  all : list_all (λ n. has_text n l.stand) (name_texts l.own (drop l.variable-index l.variables)) ≡ list_all (λ n. has_text n l.stand) (name_texts l.own l.variables);
  below : numbers_below (length l.names) (name_numbers l.ids.items) ≡ true;
}
