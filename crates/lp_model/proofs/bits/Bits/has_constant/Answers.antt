use Rattle.std.proofs.Common.{sym, ap, ◌∙◌}
use Rattle.std.specs.List.{list_any}
use Rattle.lp_model.specs.Bits.{run_bits, is_constant}
use Rattle.lp_model.proofs.Runs.{any-flat}
use Rattle.lp_model.proofs.bits.Bits.has_constant.Goals as goal

pub returns-in-Many : goal.returns-in-Many
returns-in-Many c = c.have_constant.ensures ∙ sym (any-flat is_constant run_bits c.in-Many.runs.now) ∙ ap (list_any is_constant) c.in-Many.ensures
