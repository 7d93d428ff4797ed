use Rattle.std.proofs.Common.{◌≡◌, ℕ, zero, suc, Bool, true, List, [], ◌∷◌, refl, set}
use Rattle.std.specs.List.{list_all, zip}
use Rattle.std.proofs.lemmas.Bool.{and_parts, and_from}
use Rattle.lp_tern.specs.declared.supply.SupplyState.{SupplyState}
use Rattle.lp_tern.specs.declared.supply.SupplyState.TheVariants.{Off}
use Rattle.lp_model.specs.declared.intent.DeclaredState.{DeclaredState}
use Rattle.lp_model.specs.declared.intent.RowState.{RowState}
use Rattle.lp_model.specs.declared.supply.Supplies.{Supplies}
use Rattle.lp_rows.specs.Rows.{accepts, allowed, ports}
use Rattle.lp_rows.proofs.laws.ports_may_be_off.Goals as goal

accepts-off : (xs : List DeclaredState) → accepts xs Off ≡ true
accepts-off [] = refl
accepts-off (x ∷ xs) = refl

module _ (s : Supplies) (row : List RowState) where
  abbrev accepted : ℕ × SupplyState → Bool
  accepted e = accepts (allowed s row e.0) e.1

  stays : (numbers : List ℕ) (tuple : List SupplyState) (place : ℕ) → list_all accepted (zip numbers tuple) ≡ true → list_all accepted (zip numbers (set tuple place Off)) ≡ true
  stays [] tuple place e = refl
  stays (o ∷ numbers) [] place e = refl
  stays (o ∷ numbers) (x ∷ tuple) zero e =
      let both = and_parts (accepted (o, x)) (list_all accepted (zip numbers tuple)) e in
      and_from (accepted (o, Off)) (list_all accepted (zip numbers tuple)) (accepts-off (allowed s row o)) both.1
  stays (o ∷ numbers) (x ∷ tuple) (suc place) e =
      let both = and_parts (accepted (o, x)) (list_all accepted (zip numbers tuple)) e in
      and_from (accepted (o, x)) (list_all accepted (zip numbers (set tuple place Off))) both.0 (stays numbers tuple place both.1)

pub returns : goal.returns
returns c = λ s row tuple place e. stays s row (ports s) tuple place e
