-- A flat design is plain: nothing is inserted, and its one supply serves everything.
use Rattle.std.proofs.Common.{◌≡◌, ℕ, zero, suc, Bool, true, false, cond, List, [], ◌∷◌, Option, Some, None, refl, ap}
use Rattle.std.specs.Prelude.{slice_get}
use Rattle.lp_spec_design.specs.Keys.{Name, Path, Node, Way}
use Rattle.lp_spec_design.specs.Netlists.{is_input}
use Rattle.lp_spec_design.specs.Nodes.{fuel_of}
use Rattle.lp_spec_design.specs.Intents.{SetNumber, FromSwitch, Network}
use Rattle.lp_spec_design.specs.Domains.{BoundaryBit, domain_of, primary_of}
use Rattle.lp_spec_design.specs.Winners.{crossing}
use Rattle.lp_spec_design.specs.Chains.{Operator, chain, bit_of_way}
use Rattle.lp_spec_design.specs.Settled.{Design, set_at, operators_of}
use Rattle.lp_spec_design.specs.Registers.{retention}
use Rattle.lp_spec_plain.specs.Designs.{supply_at}
use Rattle.lp_spec_plain_module.specs.Designs.{Flat, one_set, no_strategies, design_of}

module _ (f : Flat) where
  abbrev d : Design
  d = design_of f

  no_operators : List Operator
  no_operators = []

  either : (x : Bool) → cond x no_operators no_operators ≡ no_operators
  either true = refl
  either false = refl

  chain-none : (n : Network) (b : BoundaryBit) (fuel : ℕ) (r : Option SetNumber) → chain n no_strategies (crossing d.structure no_strategies fuel b) r ≡ []
  unfolding no_operators
  chain-none n b fuel r = either (is_input b.port)

  pub no_operator : (w : Way) (r : Option SetNumber) → operators_of d w r ≡ []
  no_operator w r = by (bit_of_way d.structure d.intent w) refl
    where
      by : (o : Option BoundaryBit) → bit_of_way d.structure d.intent w ≡ o → operators_of d w r ≡ []
      by None e = rw (e) refl
      by (Some b) e = rw (e) (chain-none d.network b (fuel_of d.structure) r)

  pub no_retention : (p : Path) (x : Name) → retention d.intent p x ≡ None
  no_retention p x = refl

  pub no_switch : (o input : ℕ) (control : Node) (high : Bool) → slice_get d.network.origins o ≡ Some (FromSwitch input control high) → ⊥
  no_switch zero input control high e = absurd cc
  no_switch (suc zero) input control high e = absurd cc
  no_switch (suc (suc o)) input control high e = absurd cc

  domain-one : (p : Path) → domain_of d.intent p ≡ Some 0
  domain-one [] = refl
  domain-one (x ∷ p) = domain-one p

  pub cells_supplied : (p : Path) → set_at d.network (supply_at d p) ≡ Some one_set
  cells_supplied p = ap (λ o. set_at d.network (primary_of d.intent o)) (domain-one p)
