-- Without a wire loop no way back is longer than there are nodes: it has no node twice.
use Rattle.std.proofs.Common.{◌≡◌, ◌≤◌, ℕ, zero, suc, ◌+◌, Bool, true, false, ◌||◌, List, [], ◌∷◌, Option, Some, None, inl, inr, refl, sym, ap, ◌∙◌, arith}
use Rattle.std.specs.Prelude.{length}
use Rattle.std.specs.List.{list_any}
use Rattle.lp_spec_design.specs.Keys.{Way, Node, Source, CellPin, SwitchedPin, Environment, From, same_node}
use Rattle.lp_spec_design.specs.Netlists.{Structure}
use Rattle.lp_spec_design.specs.Graph.{source_of, trail, way_in, going_back}
use Rattle.lp_spec_design.specs.Winners.{IsIn}
use Rattle.lp_spec_design.specs.Reads.{node-self}
use Rattle.lp_spec_design.proofs.Members.{IsApart, no-longer}

module _ (s : Structure) where
  -- so many ways back from the first node is the second
  abbrev pub Back : ℕ → Node → Node → Type 0
  Back zero x y = x ≡ y
  Back (suc m) x y = (w : Way) × (j : Node) × (source_of s x ≡ Some (From w j)) × Back m j y

  pub back-more : (m : ℕ) (x k j : Node) (w : Way) → Back m x k → source_of s k ≡ Some (From w j) → Back (suc m) x j
  back-more zero x k j w is e = (w, j, ap (source_of s) is ∙ e, refl)
  back-more (suc m) x k j w back e = (back.0, back.1, back.2, back-more m back.1 k j w back.3 e)

  or-right : (a b : Bool) → b ≡ true → (a || b) ≡ true
  or-right true b e = refl
  or-right false b e = e

  -- what is found in so many ways stands on the trail
  pub back-on : (m fuel : ℕ) (x y : Node) → Back (suc m) x y → suc m ≤ fuel → list_any (λ step. same_node step.1 y) (trail s fuel x) ≡ true
  back-on m zero x y back enough = absurd (omega arith)
  back-on zero (suc fuel) x y back enough =
      ap (λ o. list_any (λ step. same_node step.1 y) (going_back (λ j. trail s fuel j) (way_in o))) back.2
      ∙ ap (λ b. b || list_any (λ step. same_node step.1 y) (trail s fuel back.1)) (ap (λ j. same_node j y) back.3 ∙ node-self y)
  back-on (suc m) (suc fuel) x y back enough =
      ap (λ o. list_any (λ step. same_node step.1 y) (going_back (λ j. trail s fuel j) (way_in o))) back.2
      ∙ or-right (same_node back.1 y) (list_any (λ step. same_node step.1 y) (trail s fuel back.1)) (back-on m fuel back.1 y back.3 (omega arith))

  -- each node leads to the one before it in the list, the first to a node
  abbrev Leads : Node → List Node → Type 0
  Leads k [] = Unit {0}
  Leads k (x ∷ seen) = (w : Way) × (source_of s x ≡ Some (From w k)) × Leads x seen

  reaches : (k x : Node) (seen : List Node) → Leads k seen → IsIn x seen → (m : ℕ) × Back (suc m) x k × (suc m ≤ length seen)
  reaches k x [] leads h = absurd h
  reaches k x (y ∷ seen) leads (inl is) = (0, (leads.0, k, ap (source_of s) is ∙ leads.1, refl), omega arith)
  reaches k x (y ∷ seen) leads (inr h) =
      let more = reaches y x seen leads.2 h in
      (suc more.0, back-more (suc more.0) x y k leads.0 more.1 leads.1, omega (arith, more.2))

  driven : (k : Node) (seen : List Node) → Leads k seen → (x : Node) → IsIn x seen → (w : Way) × (j : Node) × (source_of s x ≡ Some (From w j))
  driven k [] leads x h = absurd h
  driven k (y ∷ seen) leads x h = elim h [ inl is ↦ (leads.0, k, ap (source_of s) is ∙ leads.1) | inr rest ↦ driven y seen leads.2 x rest ]

  stopped : (fuel : ℕ) (k : Node) → way_in (source_of s k) ≡ None → trail s fuel k ≡ []
  stopped zero k e = refl
  stopped (suc fuel) k e = ap (going_back (λ j. trail s fuel j)) e

  module _ (all : List Node) (known : (k : Node) (x : Source) → source_of s k ≡ Some x → IsIn k all) (no_loop : (k : Node) (m : ℕ) → Back (suc m) k k → suc m ≤ length all → ⊥) where
    few : (k : Node) (seen : List Node) → Leads k seen → IsApart seen → length seen ≤ length all
    few k seen leads apart = no-longer seen all apart (λ x h. let at = driven k seen leads x h in known x (From at.0 at.1) at.2)

    none : (fuel : ℕ) (k : Node) → way_in (source_of s k) ≡ None → trail s (suc fuel) k ≡ trail s fuel k
    none fuel k e = stopped (suc fuel) k e ∙ sym (stopped fuel k e)

    -- one more way back finds nothing more, where as many are left as nodes were not seen
    ends : (fuel : ℕ) (k : Node) (seen : List Node) → Leads k seen → IsApart seen → (IsIn k seen → ⊥) → length all ≤ length seen + fuel → trail s (suc fuel) k ≡ trail s fuel k
    ends zero k seen leads apart out enough = by (source_of s k) refl
      where
        by : (o : Option Source) → source_of s k ≡ o → trail s (suc zero) k ≡ trail s zero k
        by None e = none zero k (ap way_in e)
        by (Some (CellPin p x q)) e = none zero k (ap way_in e)
        by (Some (SwitchedPin p x q)) e = none zero k (ap way_in e)
        by (Some Environment) e = none zero k (ap way_in e)
        by (Some (From w j)) e = let size = few j (k ∷ seen) (w, e, leads) (out, apart) in absurd (omega (arith, size))
    ends (suc fuel) k seen leads apart out enough = by (source_of s k) refl (λ w j e fresh. ends fuel j (k ∷ seen) (w, e, leads) (out, apart) fresh (omega arith))
      where
        by : (o : Option Source) → source_of s k ≡ o → ((w : Way) (j : Node) → source_of s k ≡ Some (From w j) → (IsIn j (k ∷ seen) → ⊥) → trail s (suc fuel) j ≡ trail s fuel j) → trail s (suc (suc fuel)) k ≡ trail s (suc fuel) k
        by None e more = none (suc fuel) k (ap way_in e)
        by (Some (CellPin p x q)) e more = none (suc fuel) k (ap way_in e)
        by (Some (SwitchedPin p x q)) e more = none (suc fuel) k (ap way_in e)
        by (Some Environment) e more = none (suc fuel) k (ap way_in e)
        by (Some (From w j)) e more =
            let size = few j (k ∷ seen) (w, e, leads) (out, apart) in
            let fresh : IsIn j (k ∷ seen) → ⊥ = λ h. let loop = reaches j j (k ∷ seen) (w, e, leads) h in no_loop j loop.0 loop.1 (omega (arith, size, loop.2)) in
            ap (λ o. going_back (λ i. trail s (suc fuel) i) (way_in o)) e
            ∙ ap (λ rest. (w, j) ∷ rest) (more w j e fresh)
            ∙ sym (ap (λ o. going_back (λ i. trail s fuel i) (way_in o)) e)

    pub has-fuel : (k : Node) → trail s (suc (length all)) k ≡ trail s (length all) k
    has-fuel k = ends (length all) k [] tt tt (λ h. h) (omega arith)
