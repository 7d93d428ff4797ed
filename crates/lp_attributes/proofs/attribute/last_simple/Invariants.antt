use Rattle.std.proofs.Common.{◌≡◌, drop, map}
use Rattle.std.specs.Option.{option_copied, option_map}
use Rattle.lp_model.specs.GroupsView.{attr_view}
use Rattle.lp_attributes.specs.Attributes.{is_simple, last_that}
use Rattle.lp_attributes.proofs.Lasts.{last_from}
use Rattle.lp_attributes.proofs.attribute.last_simple.Given as goal

abbrev pub invariant-loop-attr : goal.invariant-loop-attr
invariant-loop-attr l = last_from (is_simple l.word) (option_map (attr_view l.names) (option_copied l.found)) (map (attr_view l.names) (drop l.attr-index l.attrs)) ≡ last_that (is_simple l.word) (map (attr_view l.names) l.attrs)
