-- There are as many nodes as the design has net bits and outer sides.
use Rattle.std.proofs.Common.{◌≡◌, ℕ, zero, suc, ◌+◌, List, [], ◌∷◌, length, Option, Some, None, refl, sym, ap, ◌∙◌, arith}
use Rattle.std.specs.Prelude.{map, flat_map, slice_get}
use Rattle.std.proofs.lemmas.List.{length-map, length-append}
use Rattle.lp_model.specs.declared.graph.NodeName.{NodeName}
use Rattle.lp_model.specs.declared.graph.Node.{Node as NodeRow}
use Rattle.lp_model.specs.declared.netlist.Module.{Module}
use Rattle.lp_model.specs.declared.netlist.NetDecl.{NetDecl}
use Rattle.lp_model.specs.declared.netlist.Port.{Port}
use Rattle.lp_model.specs.NetlistView.{ModuleView, PortView, NetView, port_view, net_view, module_view}
use Rattle.lp_spec_design.specs.Keys.{Path, Inner}
use Rattle.lp_spec_design.specs.Netlists.{Structure, module_at, indices}
use Rattle.lp_spec_design.specs.Graph.{numbered}
use Rattle.lp_spec_design.specs.Instances.{module_instances}
use Rattle.lp_spec_design.specs.Nodes as design
use Rattle.lp_spec_layout.specs.Sites.{Site, Layout, IsSited}
use Rattle.lp_layout.specs.Held.{word}
use Rattle.lp_layout.specs.Labels.{name_at, names_in, port_names, net_names, bit_names}
use Rattle.lp_layout.specs.Nodes.{named_at, module_nodes, site_nodes, inner_nodes, outer_nodes}
use Rattle.lp_layout.proofs.Noted.{names_of}
use Rattle.lp_spec_laid.proofs.Nodes.{outer_named, outer-of}

abbrev bits-of : Option Module → List NodeName
bits-of None = []
bits-of (Some m) = bit_names m

placed-length : (k : ℕ) (o : Option Module) → length (module_nodes k o) ≡ length (bits-of o)
placed-length k None = refl
placed-length k (Some m) = length-map (bit_names m) (named_at (record { 0 = word k }))

sites-length : (ms : List Module) (k : ℕ) (xs : List Site) → length (flat_map (site_nodes ms) (numbered k xs)) ≡ length (flat_map (λ (x : Site). bits-of (slice_get ms x.of)) xs)
sites-length ms k [] = refl
sites-length ms k (x ∷ xs) =
    let a = length-append (module_nodes k (slice_get ms x.of)) (flat_map (site_nodes ms) (numbered (k + 1) xs)) in
    let b = length-append (bits-of (slice_get ms x.of)) (flat_map (λ (x : Site). bits-of (slice_get ms x.of)) xs) in
    let c = placed-length k (slice_get ms x.of) in
    let d = sites-length ms (k + 1) xs in
    omega (arith, a, b, c, d)

-- lists made from two lists, place by place
flat-length : {A B X Y : Type 0} (f : A → List X) (g : B → List Y) (xs : List A) (ys : List B) → length xs ≡ length ys → ((k : ℕ) (x : A) (y : B) → slice_get xs k ≡ Some x → slice_get ys k ≡ Some y → length (f x) ≡ length (g y)) → length (flat_map f xs) ≡ length (flat_map g ys)
flat-length f g [] [] size each = refl
flat-length f g [] (y ∷ ys) size each = absurd (omega (arith, size))
flat-length f g (x ∷ xs) [] size each = absurd (omega (arith, size))
flat-length f g (x ∷ xs) (y ∷ ys) size each =
    let a = length-append (f x) (flat_map f xs) in
    let b = length-append (g y) (flat_map g ys) in
    let c = each 0 x y refl refl in
    let d = flat-length f g xs ys (omega (arith, size)) (λ k. each (suc k)) in
    omega (arith, a, b, c, d)

-- ---- one module

module _ (texts : List (List ℕ)) where
  ports-length : (p : Path) (ps : List Port) → length (port_names ps) ≡ length (flat_map (λ (x : PortView). map (λ i. Inner x.name i p) (indices x.range)) (map (port_view texts) ps))
  ports-length p [] = refl
  ports-length p (x ∷ ps) =
      let a = length-append (names_in x.name x.range) (port_names ps) in
      let v = port_view texts x in
      let b = length-append (map (λ i. Inner v.name i p) (indices v.range)) (flat_map (λ (x : PortView). map (λ i. Inner x.name i p) (indices x.range)) (map (port_view texts) ps)) in
      let c = length-map (indices x.range) (name_at x.name) in
      let d = length-map (indices v.range) (λ i. Inner v.name i p) in
      let e = ports-length p ps in
      omega (arith, a, b, c, d, e)

  nets-length : (p : Path) (ns : List NetDecl) → length (net_names ns) ≡ length (flat_map (λ (x : NetView). map (λ i. Inner x.name i p) (indices x.range)) (map (net_view texts) ns))
  nets-length p [] = refl
  nets-length p (x ∷ ns) =
      let a = length-append (names_in x.name x.range) (net_names ns) in
      let v = net_view texts x in
      let b = length-append (map (λ i. Inner v.name i p) (indices v.range)) (flat_map (λ (x : NetView). map (λ i. Inner x.name i p) (indices x.range)) (map (net_view texts) ns)) in
      let c = length-map (indices x.range) (name_at x.name) in
      let d = length-map (indices v.range) (λ i. Inner v.name i p) in
      let e = nets-length p ns in
      omega (arith, a, b, c, d, e)

  module-length : (p : Path) (m : Module) → length (bit_names m) ≡ length (design.nodes_in p (Some (module_view texts m)))
  module-length p m =
      let v = module_view texts m in
      let a = length-append (port_names m.ports) (net_names m.nets) in
      let b = length-append (flat_map (λ (x : PortView). map (λ i. Inner x.name i p) (indices x.range)) v.ports) (flat_map (λ (x : NetView). map (λ i. Inner x.name i p) (indices x.range)) v.nets) in
      let c = ports-length p m.ports in
      let d = nets-length p m.nets in
      omega (arith, a, b, c, d)

  at-length : (ms : List Module) (of : ℕ) (p : Path) (v : ModuleView) → slice_get (map (module_view texts) ms) of ≡ Some v → length (bits-of (slice_get ms of)) ≡ length (design.nodes_in p (Some v))
  at-length [] of p v e = cc
  at-length (m ∷ ms) zero p v e = let same : module_view texts m ≡ v = cc in module-length p m ∙ ap (λ z. length (design.nodes_in p (Some z))) same
  at-length (m ∷ ms) (suc of) p v e = at-length ms of p v e

  -- ---- all of them

  pub inner_length : (ms : List Module) (s : Structure) (l : Layout) → s.modules ≡ map (module_view texts) ms → IsSited s l → length (inner_nodes ms l.sites) ≡ length (design.inner_nodes s)
  unfolding design.inner_nodes
  inner_length ms s l are sited =
      sites-length ms 0 l.sites
      ∙ flat-length (λ (x : Site). bits-of (slice_get ms x.of)) (λ p. design.nodes_in p (module_at s p)) l.sites (module_instances s) sited.count
      (λ k x p at is.
      let w = sited.each k p is in
      let same : x ≡ w.site = cc-site x w.site (sym at ∙ w.at) in
      at-length ms x.of p w.of (ap (λ z. slice_get z x.of) (sym are) ∙ ap (λ (z : Site). slice_get s.modules z.of) same ∙ w.has_of)
      ∙ ap (λ o. length (design.nodes_in p o)) (sym w.is_of))
    where
      cc-site : (x y : Site) → Some x ≡ Some y → x ≡ y
      cc-site x y e = cc

  pub outer_length : (m : Module) → length (outer_nodes (Some m)) ≡ length (design.outer_in (Some (module_view texts m)))
  outer_length m =
      sym (length-map (outer_nodes (Some m)) (λ (x : NodeRow). (x.inst.0, x.name)))
      ∙ sym (length-map (names_of (outer_nodes (Some m))) (outer-of texts))
      ∙ ap length (outer_named texts m)
