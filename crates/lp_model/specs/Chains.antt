-- Operators of chains.
use Rattle.lp_model.specs.declared.chain.Operator.{Operator}
use Rattle.lp_model.specs.declared.chain.Passage.TheVariants.{Clamp}
use Rattle.lp_model.specs.declared.side.Side.TheVariants.{Upper}
use Rattle.lp_model.specs.declared.side.Location.TheVariants.{Own}

-- what stands at the places of a chain that no operator takes
abbrev pub blank : Operator
blank = record { passage = Clamp (record { 0 = 0 }); strategy = record { 0 = 0 }; side = Upper; location = Own }
