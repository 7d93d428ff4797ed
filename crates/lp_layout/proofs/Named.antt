-- The bits of ports and nets, one behind another.
use Rattle.std.proofs.Common.{◌≡◌, ℕ, ◌+◌, ◌-◌, ◌<◌, ◌≤◌, List, [], ◌∷◌, ◌++◌, Some, refl, sym, ap, ◌∙◌, append_assoc}
use Rattle.std.specs.Prelude.{map, if◌then◌else◌}
use Rattle.std.proofs.lemmas.Bool.{le-leb, lt-leb}
use Rattle.lp_text.specs.declared.names.NameId.{NameId}
use Rattle.lp_model.specs.declared.graph.Node.{Node as NodeRow}
use Rattle.lp_model.specs.declared.graph.NodeName.TheVariants.{Bit}
use Rattle.lp_model.specs.declared.ids.InstId.{InstId}
use Rattle.lp_model.specs.declared.netlist.BitRange.{BitRange}
use Rattle.lp_spec_design.specs.Netlists.{upward, downward}
use Rattle.lp_layout.specs.Labels.{name_at, names_in}
use Rattle.lp_layout.specs.Nodes.{named_at, bits_named}

-- one more bit
pub bits_more : (nodes next : List NodeRow) (inst : InstId) (name : NameId) (k : ℕ) {ks : List ℕ} (rest : List ℕ) {node : NodeRow} {goal : List NodeRow} → ks ≡ k ∷ rest → node ≡ named_at inst (Bit name k) → next ≡ nodes ++ node ∷ []
    → nodes ++ bits_named inst name ks ≡ goal → next ++ bits_named inst name rest ≡ goal
bits_more nodes next inst name k rest step is pushed e =
    ap (λ z. z ++ bits_named inst name rest) (pushed ∙ ap (λ z. nodes ++ z ∷ []) is)
    ∙ append_assoc nodes (named_at inst (Bit name k) ∷ []) (bits_named inst name rest)
    ∙ ap (λ z. nodes ++ bits_named inst name z) (sym step)
    ∙ e

map-names : (inst : InstId) (name : NameId) (ks : List ℕ) → map (named_at inst) (map (name_at name) (map (λ i. Some i) ks)) ≡ bits_named inst name ks
map-names inst name [] = refl
map-names inst name (k ∷ ks) = ap (λ z. named_at inst (Bit name k) ∷ z) (map-names inst name ks)

module _ (inst : InstId) (name : NameId) (r : BitRange) where
  pub named_up : r.left ≤ r.right → map (named_at inst) (names_in name (Some r)) ≡ bits_named inst name (upward (r.right + 1 - r.left) r.left)
  named_up low =
      ap (λ b. map (named_at inst) (map (name_at name) (map (λ i. Some i) (if b then upward (r.right + 1 - r.left) r.left else downward (r.left + 1 - r.right) r.left)))) (le-leb r.left r.right low)
      ∙ map-names inst name (upward (r.right + 1 - r.left) r.left)

  pub named_down : r.right < r.left → map (named_at inst) (names_in name (Some r)) ≡ bits_named inst name (downward (r.left + 1 - r.right) r.left)
  named_down high =
      ap (λ b. map (named_at inst) (map (name_at name) (map (λ i. Some i) (if b then upward (r.right + 1 - r.left) r.left else downward (r.left + 1 - r.right) r.left)))) (lt-leb r.left r.right high)
      ∙ map-names inst name (downward (r.left + 1 - r.right) r.left)
