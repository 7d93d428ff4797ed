-- All tables of the small design, as they are made module by module: they are its elaborated netlist.
use Rattle.std.specs.Prelude.{◌≡◌, ◌<◌, ℕ, zero, suc, List, [], ◌∷◌, Some, None, slice_get, codes}
use Rattle.std.proofs.Common.{subst, refl, arith}
use Rattle.lp_model.specs.declared.graph.EdgeKind.TheVariants.{In, Out, Assign}
use Rattle.lp_model.specs.declared.graph.Node.{Node as NodeRow}
use Rattle.lp_model.specs.declared.graph.NodeName.{NodeName}
use Rattle.lp_model.specs.declared.graph.NodeName.TheVariants.{Scalar, Bit}
use Rattle.lp_model.specs.declared.graph.Source.{Source as SourceRow}
use Rattle.lp_model.specs.declared.graph.Source.TheVariants.{Env}
use Rattle.lp_model.specs.NetlistView.{ModuleView}
use Rattle.lp_spec_design.specs.Nodes.{computing}
use Rattle.lp_spec_bridge.specs.Tables.{Tables}
use Rattle.lp_spec_bridge.specs.Elaborates.{Elaborates}
use Rattle.lp_spec_bridge.proofs.Samples.{node, of_edge, of_leaf, edge, pin_at, inst, leaf, gate}
use Rattle.lp_spec_bridge.proofs.Tested.{names_tested, single_tested}
use Rattle.lp_spec_layout.specs.Parts.{Size, Template}
use Rattle.lp_spec_layout.specs.Walked.{own_size, Follows, IsSized, AreHeights, HasHeight, HasDepth, sites_of}
use Rattle.lp_spec_layout.specs.Leaves.{leaf_sites_of}
use Rattle.lp_spec_layout.specs.Laid.{Label, IsLaidOut}
use Rattle.lp_spec_layout.proofs.Computed.{core, top, design, block, top_template, core_template, resolved, constant_edge}
use Rattle.lp_spec_layout.proofs.Heights.{heights_reached}
use Rattle.lp_spec_layout.proofs.Laid.{laid_elaborates}

abbrev texts : List (List ℕ)
texts = codes "top" ∷ codes "core" ∷ codes "a" ∷ codes "y" ∷ codes "z" ∷ codes "d" ∷ codes "q" ∷ codes "u" ∷ codes "g" ∷ []

abbrev scalar : ℕ → NodeName
scalar n = Scalar (record { 0 = n })

abbrev bus_bit : ℕ → NodeName
bus_bit i = Bit (record { 0 = 5 }) i

abbrev bus_node : ℕ → SourceRow → NodeRow
bus_node i x = record { inst = record { 0 = 1 }; name = bus_bit i; source = x }

abbrev tables : Tables
tables = record {
  instances = inst 0 0 None 0 ∷ inst 7 1 (Some 0) 3 ∷ [];
  leaves = leaf 1 8 0 0 ∷ [];
  pins = pin_at 3 ∷ pin_at 5 ∷ [];
  nodes =
      node 0 2 (of_edge 0) ∷ node 0 3 (of_edge 1) ∷ node 0 4 (of_edge 2)
      ∷ bus_node 1 (of_edge 3) ∷ bus_node 0 (of_edge 4) ∷ node 1 6 (of_leaf 1 0)
      ∷ node 0 2 Env ∷ node 0 3 (of_edge 5) ∷ node 0 4 (of_edge 6) ∷ [];
  edges = edge 6 0 In ∷ edge 5 1 Out ∷ edge 1 2 Assign ∷ edge 0 3 In ∷ constant_edge ∷ edge 1 7 Out ∷ edge 2 8 Out ∷ [];
  shapes = gate ∷ [];
  inner = 6;
}

abbrev size : ℕ → Size
size zero = record { instances = 2; bits = 6; leaves = 1 }
size (suc n) = record { instances = 1; bits = 3; leaves = 1 }

abbrev height : ℕ → ℕ
height zero = 1
height (suc n) = 0

sized : IsSized design (top_template ∷ core_template ∷ [])
sized = record { size = size; height = height; each = each }
  where
    lower : 0 < 1
    lower = omega arith

    each : (n : ℕ) (m : ModuleView) (x : Template) → slice_get design.modules n ≡ Some m → slice_get (top_template ∷ core_template ∷ []) n ≡ Some x → Follows size height (height n) (own_size m) x.statements (size n)
    each zero m x hm hx =
        let a : top ≡ m = cc in
        let b : top_template ≡ x = cc in
        subst (λ (w : ModuleView). Follows size height 1 (own_size w) x.statements (size 0)) a (subst (λ (w : Template). Follows size height 1 (own_size top) w.statements (size 0)) b (refl, lower, refl))
    each (suc zero) m x hm hx =
        let a : core ≡ m = cc in
        let b : core_template ≡ x = cc in
        subst (λ (w : ModuleView). Follows size height 0 (own_size w) x.statements (size 1)) a (subst (λ (w : Template). Follows size height 0 (own_size core) w.statements (size 1)) b (refl, refl))
    each (suc (suc n)) m x hm hx = absurd cc

abbrev labels : List Label
labels =
    record { bits = scalar 2 ∷ scalar 3 ∷ scalar 4 ∷ []; statements = 7 ∷ [] }
    ∷ record { bits = bus_bit 1 ∷ bus_bit 0 ∷ scalar 6 ∷ []; statements = 8 ∷ [] }
    ∷ []

low : height 0 < 64
low = omega arith

laid : IsLaidOut texts design tables
unfolding computing sites_of leaf_sites_of sized
laid = record {
  top = top;
  of = 0;
  own = 0;
  templates = top_template ∷ core_template ∷ [];
  labels = labels;
  sized = sized;
  is_top = refl;
  has_top = refl;
  low = low;
  resolved = resolved;
  labelled = (record { bits = refl; statements = refl }, (record { bits = refl; statements = refl }, tt));
  instances = refl;
  leaves = refl;
  pins = refl;
  edges = refl;
  inner = refl;
  names = refl;
  outer = refl;
  count = refl;
  sources = refl;
  shapes = refl;
}

elaborated : Elaborates texts design tables
elaborated = laid_elaborates texts design tables (names_tested design refl) (single_tested design refl) laid

-- the top has an instance of the lowest module, and its height is no more than that wants
exact : AreHeights design (top_template ∷ core_template ∷ []) height
exact zero m x hm hx k e =
    let is : top_template ≡ x = cc in
    let low : 0 ≡ k = omega (arith, e) in
    let first : HasHeight height k top_template.statements = record { place = 0; child = block; at = refl; is = low } in
    subst (λ (w : Template). HasHeight height k w.statements) is first
exact (suc n) m x hm hx k e = absurd (omega (arith, e))

deep : HasDepth design 1
deep = heights_reached design (top_template ∷ core_template ∷ []) (names_tested design refl) resolved height exact 0 top refl refl
