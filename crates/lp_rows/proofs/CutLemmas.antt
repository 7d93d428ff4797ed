-- Steps along the way from an origin to its root.
use Rattle.std.proofs.Common.{◌≡◌, ◌<◌, ◌+◌, ◌-◌, ◌==◌, ℕ, zero, suc, false, ◌||◌, List, Some, None, refl, sym, ap, ◌∙◌, arith}
use Rattle.std.specs.Option.{option_map_or}
use Rattle.std.proofs.lemmas.Bool.{ne_eqb}
use Rattle.lp_model.specs.declared.supply.Supplies.{Supplies}
use Rattle.lp_model.specs.declared.intent.RowState.{RowState}
use Rattle.lp_rows.specs.Network.{input_of}
use Rattle.lp_rows.specs.Rows.{listed}
use Rattle.lp_rows.specs.Leaks.{is_off, is_cut}

module _ (s : Supplies) (row : List RowState) (a : ℕ) where
  pub cut_port : (k o : ℕ) → input_of s o ≡ None → is_cut s row a k o ≡ false
  cut_port zero o e = refl
  cut_port (suc k) o e = ap (λ found. option_map_or (λ i. (is_off (listed row o) || (o == a)) || is_cut s row a k i) found false) e

  pub cut_switch : (k o i : ℕ) → input_of s o ≡ Some i → is_cut s row a (suc k) o ≡ ((is_off (listed row o) || (o == a)) || is_cut s row a k i)
  cut_switch k o i e = ap (λ found. option_map_or (λ i. (is_off (listed row o) || (o == a)) || is_cut s row a k i) found false) e

  -- a switch that does not cut leaves the answer to its input
  pub cut_next : (k o i : ℕ) → input_of s o ≡ Some i → is_off (listed row o) ≡ false → (o ≡ a → ⊥) → is_cut s row a (suc k) o ≡ is_cut s row a k i
  cut_next k o i e on apart =
      cut_switch k o i e
      ∙ ap (λ x. (x || (o == a)) || is_cut s row a k i) on
      ∙ ap (λ x. x || is_cut s row a k i) (ne_eqb o a apart)

  -- a loop with as many steps as there are origins
  pub cut_step : (n step o i : ℕ) → step < n → input_of s o ≡ Some i → is_off (listed row o) ≡ false → (o ≡ a → ⊥) → is_cut s row a (n - (step + 1)) i ≡ is_cut s row a (n - step) o
  cut_step n step o i below e on apart =
      let left : n - step ≡ suc (n - (step + 1)) = omega arith in
      sym (ap (λ k. is_cut s row a k o) left ∙ cut_next (n - (step + 1)) o i e on apart)
