-- A node whose way back ends does not lie on it.
use Rattle.std.proofs.Common.{◌≡◌, ◌<◌, ℕ, zero, suc, Bool, true, false, ◌||◌, Some, None, inl, inr, refl, sym, ap, ◌∙◌, subst, arith}
use Rattle.std.specs.List.{list_any}
use Rattle.std.proofs.lemmas.Bool.{false≢true}
use Rattle.lp_spec_design.specs.Keys.{Node, Way, From, same_node}
use Rattle.lp_spec_design.specs.Netlists.{Structure}
use Rattle.lp_spec_design.specs.Graph.{source_of, trail, way_in, going_back}
use Rattle.lp_spec_design.specs.Nodes.{fuel_of, is_on_its_way}
use Rattle.lp_spec_design.specs.Reads.{node-true}
use Rattle.lp_spec_added_wires.proofs.Places.{or-either}

module _ (w : Structure) where
  -- so many ways lead to it and no more
  abbrev pub Ends : ℕ → Node → Type 0
  Ends zero k = way_in (source_of w k) ≡ None
  Ends (suc n) k = (v : Way) × (j : Node) × (source_of w k ≡ Some (From v j)) × Ends n j

  abbrev pub Rests : Node → Type 0
  Rests k = (n : ℕ) × Ends n k

  goes-on : (k j : Node) (v : Way) → source_of w k ≡ Some (From v j) → way_in (source_of w k) ≡ None → ⊥
  goes-on k j v e stops = let bad : way_in (Some (From v j)) ≡ None = ap way_in (sym e) ∙ stops in absurd cc

  one-number : (m n : ℕ) (k : Node) → Ends m k → Ends n k → m ≡ n
  one-number zero zero k e f = refl
  one-number zero (suc n) k e f = absurd (goes-on k f.1 f.0 f.2 e)
  one-number (suc m) zero k e f = absurd (goes-on k e.1 e.0 e.2 f)
  one-number (suc m) (suc n) k e f =
      let both : Some (From f.0 f.1) ≡ Some (From e.0 e.1) = sym f.2 ∙ e.2 in
      let same : f.1 ≡ e.1 = cc in
      ap suc (one-number m n e.1 e.3 (subst (Ends n) same f.3))

  -- what lies on the way back ends sooner
  sooner : (fuel n : ℕ) (k j : Node) → Ends n k → list_any (λ step. same_node step.1 j) (trail w fuel k) ≡ true → (m : ℕ) × Ends m j × (m < n)
  sooner zero n k j e h = absurd (false≢true h)
  sooner (suc fuel) zero k j e h =
      absurd (false≢true (ap (λ o. list_any (λ step. same_node step.1 j) (going_back (λ i. trail w fuel i) o)) (sym e) ∙ h))
  sooner (suc fuel) (suc n) k j e h =
      let first : (same_node e.1 j || list_any (λ step. same_node step.1 j) (trail w fuel e.1)) ≡ true =
      ap (λ o. list_any (λ step. same_node step.1 j) (going_back (λ i. trail w fuel i) (way_in o))) (sym e.2) ∙ h in
      elim (or-either (same_node e.1 j) (list_any (λ step. same_node step.1 j) (trail w fuel e.1)) first) [
        | inl here ↦ (n, subst (Ends n) (node-true e.1 j here) e.3, omega arith)
        | inr rest ↦ let more = sooner fuel n e.1 j e.3 rest in (more.0, more.1, let less = more.2 in omega (arith, less))
      ]

  pub not-on-its-way : (k : Node) → Rests k → is_on_its_way w k ≡ false
  not-on-its-way k rests = by (is_on_its_way w k) refl
    where
      by : (b : Bool) → is_on_its_way w k ≡ b → b ≡ false
      by true is =
          let found = sooner (fuel_of w) rests.0 k k rests.1 is in
          let less = found.2 in
          let same = one-number found.0 rests.0 k found.1 rests.1 in
          absurd (omega (arith, less, same))
      by false is = refl
