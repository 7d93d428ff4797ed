-- A test that some row passes.
use Rattle.std.proofs.Common.{◌≡◌, ℕ, zero, suc, Bool, true, false, List, [], ◌∷◌, length, Some, inl, inr, refl, sym, subst, ap, ◌∙◌}
use Rattle.std.specs.Prelude.{IsTrue, ◌↔◌, map, slice_get, option_and_then}
use Rattle.std.specs.List.{list_any}
use Rattle.std.specs.Option.{option_map}
use Rattle.std.proofs.lemmas.Bool.{or_cases, or_left, or_right, false≢true}
use Rattle.std.proofs.lemmas.List.Elements.{All-get_or}
use Rattle.std.proofs.lemmas.Option.{get_or_from_slice_get, slice_get_within}
use Rattle.lp_model.specs.declared.intent.RowState.{RowState}
use Rattle.lp_model.specs.declared.supply.Row.{Row}
use Rattle.lp_model.specs.declared.supply.SetOrigins.{SetOrigins}
use Rattle.lp_model.specs.declared.supply.Supplies.{Supplies}
use Rattle.lp_rows.specs.Network.{AreOrigins, IsSetOf, IsNetwork}
use Rattle.lp_rows.specs.Rows.{row_among, InSomeRow, lower_in, IsLower}
use Rattle.lp_rows.specs.Leaks.{LeaksInSomeRow, leaks_in}
use Rattle.lp_rows.proofs.LeakLemmas.{leaks_in-from, MayLeak-from}
use Rattle.lp_spec_design.specs.Keys.{Node}
use Rattle.lp_spec_network.specs.Views.{all_rows, rows_of, lower_origins, leaking_origins, of_powers, lower_sets, leaking_sets, network_view}

abbrev states_of : Row → List RowState
states_of r = r.states

module _ (p : List RowState → Bool) where
  place : (rows : List Row) → list_any p (map states_of rows) ≡ true → (n : ℕ) × (row : Row) × (slice_get rows n ≡ Some row) × (p row.states ≡ true)
  place [] e = absurd (false≢true e)
  place (r ∷ rows) e =
      elim (or_cases (p r.states) (list_any p (map states_of rows)) e) [
        | inl h ↦ (zero, r, refl, h)
        | inr h ↦ let found = place rows h in (suc found.0, found.1, found.2, found.3)
      ]

  pub found : (rows : List Row) → list_any p (all_rows rows) ≡ true → (n : ℕ) × (row : List RowState) × (row_among rows n ≡ Some row) × (p row ≡ true)
  found [] e = (zero, [], refl, elim (or_cases (p []) false e) [ inl h ↦ h | inr h ↦ absurd (false≢true h) ])
  found (r ∷ rows) e = let at = place (r ∷ rows) e in (suc at.0, at.1.states, ap (option_map states_of) at.2, at.3)

  passes : (rows : List Row) (n : ℕ) (row : List RowState) → option_map states_of (slice_get rows n) ≡ Some row → p row ≡ true → list_any p (map states_of rows) ≡ true
  passes [] n row e h = cc
  passes (r ∷ rows) zero row e h = let same : r.states ≡ row = cc in or_left (p r.states) (list_any p (map states_of rows)) (ap p same ∙ h)
  passes (r ∷ rows) (suc n) row e h = or_right (p r.states) (list_any p (map states_of rows)) (passes rows n row e h)

  pub back : (rows : List Row) (n : ℕ) (row : List RowState) → row_among rows n ≡ Some row → p row ≡ true → list_any p (all_rows rows) ≡ true
  back [] zero row e h = let same : [] ≡ row = cc in or_left (p []) false (ap p same ∙ h)
  back [] (suc n) row e h = cc
  back (r ∷ rows) zero row e h = cc
  back (r ∷ rows) (suc n) row e h = passes (r ∷ rows) n row e h

pub some_row : (s : Supplies) (p : List RowState → Bool) → IsTrue (list_any p (rows_of s)) ↔ InSomeRow s (λ row. p row ≡ true)
some_row s p = (λ h. found p s.rows h, λ h. back p s.rows h.0 h.1 h.2 h.3)

pub lower_is : (s : Supplies) (node : ℕ → Node) (margin : ℕ) (j k : ℕ) (a b : SetOrigins) (by : ℕ) → slice_get s.sets j ≡ Some (Some a) → slice_get s.sets k ≡ Some (Some b) → IsTrue ((network_view node margin s).lower j k by) ↔ IsLower s a.power.0 b.power.0 by
lower_is s node margin j k a b by e f =
    let same : lower_sets s j k by ≡ lower_origins s a.power.0 b.power.0 by = λ i. of_powers (λ o q. lower_origins s o q by) (option_and_then (λ x. x) (e i)) (option_and_then (λ x. x) (f i)) in
    let rows = some_row s (λ row. lower_in s row a.power.0 b.power.0 by) in
    (λ h. rows.0 (sym same ∙ h), λ h. same ∙ rows.1 h)

-- the functions of a set of a network are origins
are_origins : (s : Supplies) (k : ℕ) (a : SetOrigins) → IsNetwork s → slice_get s.sets k ≡ Some (Some a) → AreOrigins (length s.origins) a
are_origins s k a network at =
    let found = All-get_or (IsSetOf (length s.origins)) s.sets k (Some a) (slice_get_within s.sets k (Some a) at) network.sets in
    subst (IsSetOf (length s.origins)) (get_or_from_slice_get s.sets k (Some a) (Some a) at) found

pub leaks_is : (s : Supplies) (j k : ℕ) (a b : SetOrigins) → IsNetwork s → slice_get s.sets j ≡ Some (Some a) → slice_get s.sets k ≡ Some (Some b) → IsTrue (leaking_sets s j k) ↔ LeaksInSomeRow s a.power.0 b.power.0
leaks_is s j k a b network e f =
    let same : leaking_sets s j k ≡ leaking_origins s a.power.0 b.power.0 = λ i. of_powers (leaking_origins s) (option_and_then (λ x. x) (e i)) (option_and_then (λ x. x) (f i)) in
    let rows = some_row s (λ row. leaks_in s row a.power.0 b.power.0) in
    let first = (are_origins s j a network e).power in
    let second = (are_origins s k b network f).power in
    let forth : IsTrue (leaking_sets s j k) → LeaksInSomeRow s a.power.0 b.power.0 = λ h.
    let at = rows.0 (sym same ∙ h) in (at.0, at.1, at.2, MayLeak-from s network at.1 a.power.0 b.power.0 at.3 first second) in
    let back : LeaksInSomeRow s a.power.0 b.power.0 → IsTrue (leaking_sets s j k) = λ at.
    same ∙ rows.1 (at.0, at.1, at.2, leaks_in-from s network at.1 a.power.0 b.power.0 at.3) in
    (forth, back)
