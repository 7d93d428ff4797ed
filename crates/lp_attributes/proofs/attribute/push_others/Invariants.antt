use Rattle.std.proofs.Common.{◌≡◌, ◌++◌, ◌∷◌, drop}
use Rattle.std.specs.List.{flat_map}
use Rattle.std.specs.String.{string_bytes}
use Rattle.lp_model.specs.Agreement.{name_texts}
use Rattle.lp_attributes.proofs.attribute.push_others.Given as goal

abbrev pub invariant-loop-other : goal.invariant-loop-other
invariant-loop-other l = string_bytes l.text ++ flat_map (λ u. 32 ∷ u) (name_texts l.names (drop l.other-index l.others)) ≡ string_bytes l.fn.text ++ flat_map (λ u. 32 ∷ u) (name_texts l.names l.others)
