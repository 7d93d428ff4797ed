use Rattle.std.proofs.Common.{◌≡◌, ◌++◌, drop}
use Rattle.std.specs.Prelude.{map}
use Rattle.lp_expr.specs.Parts.{item_of}
use Rattle.lp_expr.specs.Denotes.{texts_of, item_step}
use Rattle.lp_expr.proofs.number.steps_of.Given as goal

abbrev pub invariant-loop-part : goal.invariant-loop-part
invariant-loop-part l = l.steps.items ++ map (λ p. item_step (texts_of l.names l.ids) (item_of l.text p)) (drop l.part-index l.parts) ≡ map (λ p. item_step (texts_of l.names l.ids) (item_of l.text p)) l.parts
