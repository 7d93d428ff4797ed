-- Induction along ways back, and where the wires of nodes begin.
use Rattle.std.proofs.Common.{◌≡◌, ◌<◌, ℕ, zero, suc, Bool, List, length, Option, Some, None, refl, sym, ap, ◌∙◌, arith}
use Rattle.lp_spec_design.specs.Keys.{Way, Node, Fixed, Source, CellPin, SwitchedPin, Environment, From}
use Rattle.lp_spec_design.specs.Netlists.{Structure}
use Rattle.lp_spec_design.specs.Graph.{source_of, trail, way_in, going_back, beginning}
use Rattle.lp_spec_design.specs.Nodes.{fuel_of, HasFuel}
use Rattle.lp_spec_realises.specs.Ends.{End, AtConstant, own_end, wire_end}

module _ (s : Structure) (enough : HasFuel s) where
  pub trail_is : (k : Node) (o : Option Source) → source_of s k ≡ o → trail s (fuel_of s) k ≡ going_back (λ j. trail s (fuel_of s) j) (way_in o)
  trail_is k o e = sym (enough k) ∙ ap (λ x. going_back (λ j. trail s (fuel_of s) j) (way_in x)) e

  shorter : (k : Node) (w : Way) (j : Node) → source_of s k ≡ Some (From w j) → length (trail s (fuel_of s) k) ≡ suc (length (trail s (fuel_of s) j))
  shorter k w j e = ap length (trail_is k (Some (From w j)) e)

  -- what holds of a node if it holds of the node from which a way leads to it, holds of all
  module _ (P : Node → Type 0) (step : (k : Node) → ((w : Way) (j : Node) → source_of s k ≡ Some (From w j) → P j) → P k) where
    within : (n : ℕ) (k : Node) → length (trail s (fuel_of s) k) < n → P k
    within zero k few = absurd (omega arith)
    within (suc n) k few = step k (λ w j e. let less = shorter k w j e in within n j (omega arith))

    pub by_ways : (k : Node) → P k
    by_ways k = within (suc (length (trail s (fuel_of s) k))) k (omega arith)

  -- ---- ends

  -- where a wire begins, by what drives its node
  abbrev pub end_by : Node → Option Source → End
  end_by k None = own_end k None
  end_by k (Some (CellPin p x q)) = own_end k (Some (CellPin p x q))
  end_by k (Some (SwitchedPin p x g)) = own_end k (Some (SwitchedPin p x g))
  end_by k (Some Environment) = own_end k (Some Environment)
  end_by k (Some (From w j)) = wire_end s (fuel_of s) j

  abbrev ended : Node → List (Way × Node) → End
  ended k steps = own_end (beginning k steps) (source_of s (beginning k steps))

  end_at : (k : Node) (o : Option Source) → source_of s k ≡ o → ended k (going_back (λ j. trail s (fuel_of s) j) (way_in o)) ≡ end_by k o
  end_at k None e = ap (own_end k) e
  end_at k (Some (CellPin p x q)) e = ap (own_end k) e
  end_at k (Some (SwitchedPin p x g)) e = ap (own_end k) e
  end_at k (Some Environment) e = ap (own_end k) e
  end_at k (Some (From w j)) e = refl

  pub end_is : (k : Node) (o : Option Source) → source_of s k ≡ o → wire_end s (fuel_of s) k ≡ end_by k o
  end_is k o e = ap (ended k) (trail_is k o e) ∙ end_at k o e

  pub fixed_end : (b : Bool) → wire_end s (fuel_of s) (Fixed b) ≡ AtConstant b
  fixed_end b = end_is (Fixed b) None refl
