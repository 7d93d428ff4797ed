-- Where all operators are done, a net bit of the source begins where the definition of realised netlists says.
use Rattle.std.proofs.Common.{◌≡◌, ℕ, zero, suc, List, [], ◌∷◌, length, Option, Some, None, refl, ap, ◌∙◌, arith}
use Rattle.lp_spec_design.specs.Keys.{Node, Way, Source, CellPin, SwitchedPin, Environment, From}
use Rattle.lp_spec_design.specs.Netlists.{Structure}
use Rattle.lp_spec_design.specs.Nodes.{fuel_of}
use Rattle.lp_spec_design.specs.Graph.{source_of, trail, way_in, going_back}
use Rattle.lp_spec_design.specs.Domains.{BoundaryBit, way_of, node_before}
use Rattle.lp_spec_design.specs.Chains.{Operator}
use Rattle.lp_spec_design.specs.Settled.{rail_of, operators_of}
use Rattle.lp_spec_realises.specs.Projects.{Project, design_of}
use Rattle.lp_spec_realises.specs.Operators.{OperatorAt, Placement}
use Rattle.lp_spec_realises.specs.Ends.{output_end, behind, intended, intended_along}
use Rattle.lp_spec_realises.specs.Realises.{data_intended}
use Rattle.lp_spec_written.specs.Places.{Standing}
use Rattle.lp_spec_hub.specs.Spots.{on_way}
use Rattle.lp_spec_hub.specs.Begins.{Begin, behind_way, begin_along, begin_of, data_begin, end_of}
use Rattle.lp_spec_hub.specs.Entries.{HasAll}

module _ (p : Project) (w : Structure) (at : Placement) where
  end-behind : (way : Way) (n : ℕ) (operators : List Operator) → n ≡ length operators → (e : Begin) → end_of p w at (behind_way way n e) ≡ behind w at way operators (end_of p w at e)
  end-behind way zero [] h e = refl
  end-behind way (suc n) [] h e = absurd (omega (arith, h))
  end-behind way zero (o ∷ operators) h e = absurd (omega (arith, h))
  end-behind way (suc n) (o ∷ operators) h e = let less : n ≡ length operators = omega (arith, h) in ap (λ m. output_end w (at.operator way m)) less

  module _ (all : List Standing) (whole : HasAll p all) where
    along : (fuel : ℕ) (k : Node) → end_of p w at (begin_along all k (trail p.structure fuel k)) ≡ intended_along p w at k (trail p.structure fuel k)
    along zero k = refl
    along (suc fuel) k = by (source_of p.structure k) refl (λ j. along fuel j)
      where
        by : (o : Option Source) → source_of p.structure k ≡ o
            → ((j : Node) → end_of p w at (begin_along all j (trail p.structure fuel j)) ≡ intended_along p w at j (trail p.structure fuel j))
            → end_of p w at (begin_along all k (going_back (λ j. trail p.structure fuel j) (way_in o))) ≡ intended_along p w at k (going_back (λ j. trail p.structure fuel j) (way_in o))
        by None e more = refl
        by (Some (CellPin q x n)) e more = refl
        by (Some (SwitchedPin q x n)) e more = refl
        by (Some Environment) e more = refl
        by (Some (From way j)) e more =
            let operators : List Operator = operators_of (design_of p) way (rail_of (design_of p) j) in
            end-behind way (length (on_way all way)) operators (whole k j way e) (begin_along all j (trail p.structure fuel j))
            ∙ ap (behind w at way operators) (more j)

    pub as-intended : (k : Node) → end_of p w at (begin_of p.structure all k) ≡ intended p w at k
    as-intended k = along (fuel_of p.structure) k

    data-by : (b : BoundaryBit) (n : ℕ) (o : Operator) → end_of p w at (data_begin p.structure all (way_of b) (node_before p.structure b) n) ≡ data_intended p w at (record { bit = b; number = n; operator = o })
    data-by b zero o = as-intended (node_before p.structure b)
    data-by b (suc n) o = refl

    pub data-intended : (o : OperatorAt) → end_of p w at (data_begin p.structure all (way_of o.bit) (node_before p.structure o.bit) o.number) ≡ data_intended p w at o
    data-intended o = data-by o.bit o.number o.operator
