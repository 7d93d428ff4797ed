-- The first node that is driven twice is found module by module.
use Rattle.std.proofs.Common.{◌≡◌, ◌<◌, ◌≤◌, ◌+◌, ℕ, zero, suc, List, [], ◌∷◌, ◌++◌, length, Option, Some, None, refl, sym, ap, ◌∙◌, subst, arith, Bool}
use Rattle.std.specs.Prelude.{nat_lt, flat_map, option_map, slice_get}
use Rattle.lp_model.specs.NetlistView.{InstanceView, ModuleView}
use Rattle.lp_spec_design.specs.Netlists.{Structure, first, upward, module_at}
use Rattle.lp_spec_design.specs.Graph.{numbered}
use Rattle.lp_spec_design.specs.Nodes.{inner_nodes}
use Rattle.lp_spec_design.specs.Instances.{cell_instances}
use Rattle.lp_spec_bridge.specs.Keyed.{keys_of, node_at}
use Rattle.lp_spec_bridge.specs.Tables.{Tables}
use Rattle.lp_spec_bridge.specs.Driven.{JoinsSingleBits}
use Rattle.lp_spec_bridge.specs.Names.{HasNamesApart}
use Rattle.lp_spec_bridge.proofs.Kept.{cells_kept}
use Rattle.lp_spec_layout.specs.Parts.{Size, Child, Statement, OfModule, OfCell, Template, statements_of, AreStatements, AreTemplates}
use Rattle.lp_spec_layout.specs.Sites.{Site, Layout, port_bits}
use Rattle.lp_spec_layout.specs.Feeds.{child_inputs, feeds, edge_rows}
use Rattle.lp_spec_layout.specs.Walked.{own_size, leaf_size, joined_size, Follows, IsSized, site_in, walk_in, walk, sites_of, layout_of}
use Rattle.lp_spec_layout.specs.Leaves.{leaf_sites_of, leaf_rows, pin_rows}
use Rattle.lp_spec_layout.proofs.Lists.{Has, has-all, has-head, has-tail, has-left, has-right}
use Rattle.lp_spec_layout.proofs.Measured.{template-at, walk-sized}
use Rattle.lp_spec_layout.proofs.Walked.{walk_sites, leaf_rows_are}
use Rattle.lp_spec_faults.specs.Lines.{first_of}
use Rattle.lp_spec_faults.specs.Wires.{two_drivers}
use Rattle.lp_spec_drivers.specs.Counts.{times, first_twice, or_else, found}
use Rattle.lp_spec_drivers.specs.Drivers.{joint_places, inside_places, input_places, outside_places, entered_places, width_of, twice_at, first_driven_twice, own_twice, twice_in, AreTwiceBelow}
use Rattle.lp_spec_drivers.proofs.Numbers.{found-append, map-else, moved-twice, moved-none}
use Rattle.lp_spec_drivers.proofs.Sited.{first-node, first-two}
use Rattle.lp_spec_drivers.proofs.Placed.{fed}
use Rattle.lp_spec_drivers.proofs.Least.{IsLeast, first-is-least}

has-at : {A : Type 0} (all : List A) (k n : ℕ) (xs : List A) → k ≡ n → Has all k xs → Has all n xs
has-at all k n xs e h = subst (λ i. Has all i xs) e h

module _ (s : Structure) (names : HasNamesApart s) (templates : List Template) (are : AreTemplates s s.modules templates) (z : IsSized s templates) (below : ℕ → Option ℕ) (known : AreTwiceBelow s templates below) (all : List Site) (inner : ℕ) (ports : List Bool) where
  abbrev l : Layout
  l = record { templates = templates; sites = all; inner = inner; ports = ports }

  -- what is known of lower instances
  abbrev Lower : ℕ → ℕ → Type 0
  Lower depth high = (i : ℕ) (x : Site) (w : ModuleView) (es : List ℕ) → slice_get s.modules x.of ≡ Some w → z.height x.of < high → entered_places l x.by ≡ es → Has all i (walk templates depth i x)
      → found (twice_at s l) (walk templates depth i x) ≡ option_map (λ j. x.start + j) (or_else (own_twice s templates x.of es) (below x.of))

  module _ (depth high i : ℕ) (m : ModuleView) (x : Site) (template : Template) (low : high ≤ depth) (at : slice_get all i ≡ Some x) (is : slice_get templates x.of ≡ Some template) (more : Lower depth high) where
    abbrev walked : ℕ → List Statement → List Site
    walked k zs = flat_map (λ (w : ℕ × Statement). walk_in (walk templates depth) i x w.0 w.1) (numbered k zs)

    -- what a statement's instance has from outside
    entered-is : (k : ℕ) (c : Child) → slice_get template.statements k ≡ Some (OfModule c) → entered_places l (Some (i, k)) ≡ joint_places c.inputs
    entered-is k c here =
        ap (outside_places templates k) at
        ∙ ap (λ o. joint_places (child_inputs (slice_get (statements_of o) k))) is
        ∙ ap (λ o. joint_places (child_inputs o)) here

    statements-found : (ys : List InstanceView) (zs : List Statement) (k : ℕ) (before total : Size) → Has template.statements k zs → AreStatements s m ys zs → Follows z.size z.height high before zs total → Has all (i + before.instances) (walked k zs)
        → found (twice_at s l) (walked k zs) ≡ option_map (λ j. x.start + j) (found (twice_in s templates below) zs)
    statements-found [] [] k before total members r f sh = refl
    statements-found [] (w ∷ zs) k before total members r f sh = absurd r
    statements-found (y ∷ ys) [] k before total members r f sh = absurd r
    statements-found (y ∷ ys) (OfModule c ∷ zs) k before total members r f sh =
        let under : z.height c.of < depth = omega (arith, low, f.1) in
        let ei : c.before.instances ≡ before.instances = ap (λ (a : Size). a.instances) f.0 in
        let here : i + before.instances ≡ i + c.before.instances = omega (arith, ei) in
        let site = site_in i x k c in
        let child = walk templates depth (i + c.before.instances) (site_in i x k c) in
        let first = more (i + c.before.instances) (site_in i x k c) r.0.inner (joint_places c.inputs) r.0.has_inner f.1 (entered-is k c (has-head template.statements k (OfModule c) zs members))
        (has-at all (i + before.instances) (i + c.before.instances) child here (has-left all (i + before.instances) child (walked (k + 1) zs) sh)) in
        let walks : length (walk templates depth (i + c.before.instances) (site_in i x k c)) ≡ (z.size c.of).instances = walk-sized s names templates are z depth (i + c.before.instances) (site_in i x k c) r.0.inner r.0.has_inner under in
        let next : (i + before.instances) + length (walk templates depth (i + c.before.instances) (site_in i x k c)) ≡ i + (before.instances + (z.size c.of).instances) = omega (arith, walks) in
        let rest = statements-found ys zs (k + 1) (joined_size before (z.size c.of)) total (has-tail template.statements k (OfModule c) zs members) r.1 f.2
        (has-at all ((i + before.instances) + length child) (i + (before.instances + (z.size c.of).instances)) (walked (k + 1) zs) next (has-right all (i + before.instances) child (walked (k + 1) zs) sh)) in
        found-append (twice_at s l) child (walked (k + 1) zs)
        ∙ ap (λ o. or_else o (found (twice_at s l) (walked (k + 1) zs))) (first ∙ sym (moved-twice x.start c.before.bits (or_else (own_twice s templates c.of (joint_places c.inputs)) (below c.of))))
        ∙ ap (or_else (option_map (λ j. x.start + j) (twice_in s templates below (OfModule c)))) rest
        ∙ sym (map-else (λ j. x.start + j) (twice_in s templates below (OfModule c)) (found (twice_in s templates below) zs))
    statements-found (y ∷ ys) (OfCell c ∷ zs) k before total members r f sh =
        let next : i + before.instances ≡ i + (before.instances + 0) = omega arith in
        statements-found ys zs (k + 1) (joined_size before leaf_size) total (has-tail template.statements k (OfCell c) zs members) r.1 f.1
        (has-at all (i + before.instances) (i + (before.instances + 0)) (walked (k + 1) zs) next sh)

  walk-found : (depth : ℕ) → Lower depth depth
  walk-found zero i x w es has low entered sh = absurd (omega (arith, low))
  walk-found (suc depth) i x w es has low entered sh =
      let tp = template-at s s.modules templates x.of w are has in
      let zs = tp.template.statements in
      let made : List Statement → List Site = λ ss. flat_map (λ (v : ℕ × Statement). walk_in (walk templates depth) i x v.0 v.1) (numbered 0 ss) in
      let sites : Has all i (x ∷ made tp.template.statements) = subst (λ o. Has all i (x ∷ made (statements_of o))) tp.at sh in
      let rest = statements-found depth (z.height x.of) i w x tp.template (omega (arith, low)) (has-head all i x (made tp.template.statements) sites) tp.at
      (λ j y v fs a b c d. walk-found depth j y v fs a (omega (arith, b, low)) c d)
      w.instances tp.template.statements 0 (own_size w) (z.size x.of) (has-all tp.template.statements) tp.is.statements (z.each x.of w tp.template has tp.at) (has-tail all i x (made tp.template.statements) sites) in
      ap (λ o. found (twice_at s l) (x ∷ made (statements_of o))) tp.at
      ∙ ap (λ (fs : List ℕ). or_else (option_map (λ j. x.start + j) (first_twice (width_of s x.of) (fs ++ inside_places s.cells (slice_get templates x.of)))) (found (twice_at s l) (made tp.template.statements))) entered
      ∙ ap (or_else (option_map (λ j. x.start + j) (own_twice s templates x.of es))) (rest ∙ ap (option_map (λ j. x.start + j)) (sym (known x.of w tp.template has tp.at)))
      ∙ sym (map-else (λ j. x.start + j) (own_twice s templates x.of es) (below x.of))

module _ (s : Structure) (names : HasNamesApart s) (templates : List Template) (are : AreTemplates s s.modules templates) (z : IsSized s templates) (below : ℕ → Option ℕ) (known : AreTwiceBelow s templates below) (top : ℕ) (m : ModuleView) (has : slice_get s.modules top ≡ Some m) where
  abbrev first_site : Site
  first_site = record { of = top; by = None; start = 0; leaf = 0 }

  found-at : (depth : ℕ) (all : List Site) (inner : ℕ) (ports : List Bool) → z.height top < depth → all ≡ walk templates depth 0 first_site
      → first_driven_twice s (record { templates = templates; sites = all; inner = inner; ports = ports }) ≡ or_else (own_twice s templates top (input_places ports)) (below top)
  found-at depth all inner ports low walks =
      ap (found (twice_at s (record { templates = templates; sites = all; inner = inner; ports = ports }))) walks
      ∙ walk-found s names templates are z below known all inner ports depth 0 first_site m (input_places ports) has low refl (subst (λ ps. Has all 0 ps) walks (has-all all))
      ∙ moved-none (or_else (own_twice s templates top (input_places ports)) (below top))

  sites-are : sites_of templates top ≡ walk templates 64 0 first_site
  unfolding sites_of
  sites-are = refl

  pub found_by_module : z.height top < 64 → (inner : ℕ) (ports : List Bool) → first_driven_twice s (layout_of templates top inner ports) ≡ or_else (own_twice s templates top (input_places ports)) (below top)
  found_by_module low inner ports = found-at 64 (sites_of templates top) inner ports low sites-are

  pub two_by_module : JoinsSingleBits s → module_at s [] ≡ Some m → z.height top < 64 → first_of (two_drivers s) ≡ option_map (node_at (keys_of s)) (or_else (own_twice s templates top (input_places (port_bits m))) (below top))
  two_by_module single is low =
      let layout = layout_of templates top (z.size top).bits (port_bits m) in
      let leaf_sites = leaf_sites_of templates top in
      let t : Tables = record {
        instances = [];
        leaves = leaf_rows (λ n k. 0) 0 (leaf_sites_of templates top);
        pins = pin_rows (leaf_sites_of templates top);
        nodes = [];
        edges = edge_rows s.cells (layout_of templates top (z.size top).bits (port_bits m));
        shapes = [];
        inner = 0;
      } in
      let stand = leaf_rows_are s names templates are z top m is has t (λ n k. 0) low refl refl in
      let cells = cells_kept s t t.leaves (cell_instances s) stand in
      first-two s names layout (walk_sites s names templates are z top m is has low) single t cells refl
      ∙ ap (option_map (node_at (keys_of s))) (found_by_module low (z.size top).bits (port_bits m))

  -- and it is a net bit of an instance
  pub twice_within : module_at s [] ≡ Some m → z.height top < 64 → (k : ℕ) → or_else (own_twice s templates top (input_places (port_bits m))) (below top) ≡ Some k → k < (z.size top).bits
  twice_within is low k e =
      let layout = layout_of templates top (z.size top).bits (port_bits m) in
      let sited = walk_sites s names templates are z top m is has low in
      let all = fed (feeds s.cells (layout_of templates top (z.size top).bits (port_bits m))) in
      let p : ℕ → Bool = λ j. nat_lt 1 (times j (fed (feeds s.cells (layout_of templates top (z.size top).bits (port_bits m))))) in
      let at : first p (upward (length (inner_nodes s)) 0) ≡ Some k = first-node s names layout sited ∙ found_by_module low (z.size top).bits (port_bits m) ∙ e in
      let least = subst (λ (o : Option ℕ). IsLeast p (length (inner_nodes s)) o) {x = first p (upward (length (inner_nodes s)) 0)} at (first-is-least p (length (inner_nodes s))) in
      let under = least.low in
      let size : (z.size top).bits ≡ length (inner_nodes s) = sited.inner in
      omega (arith, under, size)
