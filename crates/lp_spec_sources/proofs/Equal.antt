-- Two sources of a node of the written netlist are one.
use Rattle.std.proofs.Common.{◌≡◌, ◌⊎◌, ℕ, suc, Bool, false, not, ◌&&◌, List, [], ◌∷◌, ◌++◌, map, length, Option, Some, None, inl, inr, refl, sym, ◌∙◌, ap, subst, arith}
use Rattle.std.specs.Prelude.{bytes_eq, filter, flat_map}
use Rattle.std.specs.List.{list_any}
use Rattle.lp_model.specs.NetlistView.{BitView, NetBit, SelectBit, ConstBit, PortView, InstanceView, ModuleView}
use Rattle.lp_model.specs.LibraryView.{CellView}
use Rattle.lp_spec_design.specs.Keys.{Name, Path, Node, Inner, Outer, Fixed, Way, PortBit, AssignBit, Source, From, same_node, same_index}
use Rattle.lp_spec_design.specs.Netlists.{Structure, module_named, cell_named, module_at, node_of, indices, connected, is_input}
use Rattle.lp_spec_design.specs.Graph.{pairs, when, numbered, ports_in, joined_inside, from_target, from_one, from_assign, outside, in_module, sources_of, source_of, way_in}
use Rattle.lp_spec_design.specs.Reads.{name-true, one}
use Rattle.lp_spec_design.specs.Winners.{IsIn}
use Rattle.lp_spec_design.proofs.Members.{in-either, of-flat, of-filter, of-map, of-some}
use Rattle.lp_spec_design.proofs.Looped.{source_by}
use Rattle.lp_spec_realises.specs.Projects.{Project}
use Rattle.lp_spec_realises.specs.Operators.{Placement}
use Rattle.lp_spec_written.specs.Written.{Additions}
use Rattle.lp_spec_hub.specs.Spots.{Drive}
use Rattle.lp_spec_hub.specs.Drives.{drive}
use Rattle.lp_spec_hub.specs.Begins.{IsWired}
use Rattle.lp_spec_wired.specs.Contents.{IsWrittenAt}
use Rattle.lp_spec_wired.specs.Names.{name_by, placement_by}
use Rattle.lp_spec_wired.specs.Laws.{ChainNetsHaveNoPorts, StandsFor, done_of}
use Rattle.lp_spec_written_at.proofs.Modules.{in-instances}
use Rattle.lp_spec_driven.specs.Wires.{IsOfWire, Gives}
use Rattle.lp_spec_driven.specs.Sound.{IsProper}
use Rattle.lp_spec_driven.proofs.Sources.{of-when-is, in-by, cell-source}
use Rattle.lp_spec_driven.proofs.WiresApart.{wires-apart}
use Rattle.lp_spec_driven.proofs.Given.{sources-give}
use Rattle.lp_spec_driven.proofs.Inputs.{comes-in-by}
use Rattle.lp_spec_single.specs.Names.{HasOwnNames}
use Rattle.lp_spec_single.proofs.Lists.{named-same}
use Rattle.lp_spec_single.proofs.Differ.{name_of_port, port-names}
use Rattle.lp_spec_sources.specs.Laws.{SourcesAreEqual}
use Rattle.lp_spec_sources.proofs.Alike.{Alike, Begin, Come, given, alike, begin-same}
use Rattle.lp_spec_sources.proofs.Ports.{PortWay, ports-way, ports-same}
use Rattle.lp_spec_sources.proofs.Assigns.{Assigned, assigned, assigns-same}
use Rattle.lp_spec_sources.proofs.Clash.{no-clash}

abbrev node_before : Source → Node
node_before (From v j) = j
node_before _ = Fixed false

abbrev out_of : Node → Source
out_of (Inner q j y) = From (PortBit y q j) (Inner q j y)
out_of k = From (AssignBit [] 0 0) k

-- so deep stands a net bit
abbrev depth : Node → ℕ
depth (Inner n i x) = suc (length x)
depth _ = 0

not-below : (x : Path) (b : BitView) (q inst : Name) (j : Option ℕ) → Inner q j (inst ∷ x) ≡ node_of x b → ⊥
not-below x (NetBit n) q inst j e = let deep : suc (suc (length x)) ≡ suc (length x) = ap depth e in omega (arith, deep)
not-below x (SelectBit n i) q inst j e = let deep : suc (suc (length x)) ≡ suc (length x) = ap depth e in omega (arith, deep)
not-below x (ConstBit c) q inst j e = absurd cc

not-above : (x : Path) (b : BitView) (q inst up : Name) (j : Option ℕ) → Inner q j (inst ∷ up ∷ x) ≡ node_of x b → ⊥
not-above x (NetBit n) q inst up j e = let deep : suc (suc (suc (length x))) ≡ suc (length x) = ap depth e in omega (arith, deep)
not-above x (SelectBit n i) q inst up j e = let deep : suc (suc (suc (length x))) ≡ suc (length x) = ap depth e in omega (arith, deep)
not-above x (ConstBit c) q inst up j e = absurd cc

not-outer : (x : Path) (b : BitView) (n : Name) (i : Option ℕ) → Outer n i ≡ node_of x b → ⊥
not-outer x (NetBit m) n i e = absurd cc
not-outer x (SelectBit m j) n i e = absurd cc
not-outer x (ConstBit c) n i e = absurd cc

begins : (y : Source) (v : Way) (j : Node) → way_in (Some y) ≡ None → y ≡ From v j → ⊥
begins y v j first is = let bad : way_in (Some (From v j)) ≡ None = ap (λ z. way_in (Some z)) (sym is) ∙ first in absurd cc

-- an assign and an input port lead to no net bit from one node
no-assign : (p : Project) (a : Additions) (w : Structure) (from : Way → Node) (written : IsWrittenAt p a w) (proper : IsProper p a from) (own : HasOwnNames w) (no_ports : ChainNetsHaveNoPorts)
    (x : Path) (m here : ModuleView) (e : module_at p.structure x ≡ Some m) (f : module_at w x ≡ Some here) (n : Name) (i : Option ℕ) (z : Source)
    → IsIn z (ports_in w x n i here)
    → (y : Source) → Assigned p a w from written proper own no_ports x m here e f n i y
    → node_before z ≡ node_before y
    → ⊥
no-assign p a w from written proper own no_ports [] m here e f n i z h y q same =
    let way : z ≡ From (PortBit [] n i) (Outer n i) = ports-way p a w proper.plain.leaves written own [] m here e f n i z h in
    not-outer [] q.bits.1.1 n i (ap node_before (sym way) ∙ (same ∙ ap node_before q.is))
no-assign p a w from written proper own no_ports (inst ∷ up) m here e f n i z h y q same = no-clash p a w from written proper own no_ports inst up m here e f n i z h y q

module _ (p : Project) (a : Additions) (w : Structure) (from : Way → Node) (written : IsWrittenAt p a w) (proper : IsProper p a from) (own : HasOwnNames w) (no_ports : ChainNetsHaveNoPorts)
    (x : Path) (m here : ModuleView) (e : module_at p.structure x ≡ Some m) (f : module_at w x ≡ Some here) (n : Name) (i : Option ℕ) where
  abbrev at : Placement
  at = placement_by p a

  abbrev k : Node
  k = Inner n i x

  abbrev from_instances : List Source
  from_instances = flat_map (from_one w x n i) here.instances

  abbrev from_assigns : List Source
  from_assigns = flat_map (from_assign x n i) (numbered 0 here.assigns)

  abbrev others : List Source
  others = from_instances ++ from_assigns

  abbrev ports : List Source
  ports = ports_in w x n i here

  abbrev At : Source → Type 0
  At z = Assigned p a w from written proper own no_ports x m here e f n i z

  -- ---- where a source is listed

  -- out of a module instance
  record IsOut (z : Source) : Type 0 where
    port : Name
    index : Option ℕ
    inst : Name
    is : z ≡ out_of (Inner port index (inst ∷ x))

  abbrev Item : Source → Type 0
  Item z = (way_in (Some z) ≡ None) ⊎ (IsOut z ⊎ At z)

  by-target : (z : Source) (y : InstanceView) (o : Option ModuleView) (c : Option CellView) → IsIn z (from_target x n i y o c) → Item z
  by-target z y (Some inner) c h =
      let q = of-flat (joined_inside x n i y inner) z (filter (λ (r : PortView). not (is_input r)) inner.ports) h in
      let name = q.0.name in
      let found = of-some (λ (u : Option ℕ × BitView). when (same_node (node_of x u.1) (Inner n i x)) (From (PortBit (y.name ∷ x) name u.0) (Inner name u.0 (y.name ∷ x)))) z (pairs (indices q.0.range) (connected inner.ports name y.connections)) q.2 in
      inr (inl (record {
        port = name;
        index = found.0.0;
        inst = y.name;
        is = of-when-is (same_node (node_of x found.0.1) (Inner n i x)) (From (PortBit (y.name ∷ x) name found.0.0) (Inner name found.0.0 (y.name ∷ x))) z found.2;
      }))
  by-target z y None (Some c) h = elim (cell-source x n i y c z h) [
    | inl pin ↦ inl (ap (λ u. way_in (Some u)) pin.is)
    | inr pg ↦ inl (ap (λ u. way_in (Some u)) pg.is)
  ]
  by-target z y None None h = absurd h

  item : (z : Source) → IsIn z others → Item z
  item z h = elim (in-either z from_instances from_assigns h) [
    | inl l ↦ let y = of-flat (from_one w x n i) z here.instances l in by-target z y.0 (module_named w y.0.target) (cell_named w y.0.target) y.2
    | inr r ↦ let u = of-flat (from_assign x n i) z (numbered 0 here.assigns) r in inr (inr (assigned p a w from written proper own no_ports x m here e f n i z u.0 u.1 u.2))
  ]

  -- ---- two ways from one node

  ways-same : (y z : Source) (j : Node) (v u : Way) → y ≡ From v j → z ≡ From u j → Item y → Item z → y ≡ z
  ways-same y z j v u y_is z_is (inl first) q = absurd (begins y v j first y_is)
  ways-same y z j v u y_is z_is (inr r) (inl first) = absurd (begins z u j first z_is)
  ways-same y z j v u y_is z_is (inr (inl r)) (inr (inl q)) =
      let nodes : Inner r.port r.index (r.inst ∷ x) ≡ Inner q.port q.index (q.inst ∷ x) = ap node_before (sym r.is ∙ y_is) ∙ ap node_before (sym z_is ∙ q.is) in
      r.is ∙ (ap out_of nodes ∙ sym q.is)
  ways-same y z j v u y_is z_is (inr (inl r)) (inr (inr q)) = absurd (not-below x q.bits.1.1 r.port r.inst r.index (ap node_before (sym r.is ∙ y_is) ∙ ap node_before (sym z_is ∙ q.is)))
  ways-same y z j v u y_is z_is (inr (inr r)) (inr (inl q)) = absurd (not-below x r.bits.1.1 q.port q.inst q.index (ap node_before (sym q.is ∙ z_is) ∙ ap node_before (sym y_is ∙ r.is)))
  ways-same y z j v u y_is z_is (inr (inr r)) (inr (inr q)) = assigns-same p a w from written proper own no_ports x m here e f n i y z r q (ap node_before (sym r.is ∙ y_is) ∙ ap node_before (sym z_is ∙ q.is))

  -- ---- by their wires

  wire-of : (z : Source) → IsIn z others → IsOfWire p a w at from k z
  wire-of z h = sources-give p a w from written proper x m here e (in-instances p a proper.fit.free proper.fit.listed x m e) f n i z h

  others-alike : (y z : Source) → IsOfWire p a w at from k y → IsOfWire p a w at from k z → Alike k y z
  others-alike y z b c =
      let same : c.wire ≡ b.wire = wires-apart p a proper.names c.wire b.wire c.there b.there (c.name ∙ sym b.name) in
      let drives : Some c.driven ≡ Some b.driven = sym c.is ∙ (ap (drive p (done_of a) from) same ∙ b.is) in
      let driven : c.driven ≡ b.driven = some-same c.driven b.driven drives in
      let gives = subst (λ d. Gives p w at (name_by p a) b.wire d z) driven (subst (λ v. Gives p w at (name_by p a) v c.driven z) same c.gives) in
      subst (λ v. Alike v y z) b.name (alike p a w at from (name_by p a) b.wire b.driven y z b.is b.gives gives)
    where
      some-same : (d g : Drive) → Some d ≡ Some g → d ≡ g
      some-same d g h = cc

  others-same : (y z : Source) → IsIn y others → IsIn z others → y ≡ z
  others-same y z h g = by (others-alike y z (wire-of y h) (wire-of z g))
    where
      by : Alike k y z → y ≡ z
      by (Begin first second ends) = begin-same n i x y z first second ends
      by (Come j v u y_is z_is) = ways-same y z j v u y_is z_is (item y h) (item z g)

  -- ---- beside an input port

  port-source : (z : Source) → IsIn z ports → source_of w k ≡ Some z
  port-source z h = by ports refl
    where
      by : (zs : List Source) → ports ≡ zs → source_of w k ≡ Some z
      by [] list = absurd (subst (λ l. IsIn z l) list h)
      by (y ∷ more) list =
          let same : y ≡ z = ports-same p a w proper.plain.leaves written own x m here e f n i y z (subst (λ l. IsIn y l) (sym list) (inl refl)) h in
          source_by w k (y ∷ (more ++ others)) (in-by w x n i here f ∙ ap (λ l. l ++ others) list) ∙ ap (λ u. Some u) same

  port-alike : (z : Source) → IsIn z ports → (y : Source) → IsOfWire p a w at from k y → Alike k y z
  port-alike z h y b =
      let found = comes-in-by p a w at from written proper x m here e f n i z h in
      let same : found.wire ≡ b.wire = wires-apart p a proper.names found.wire b.wire found.there b.there (found.name ∙ sym b.name) in
      let stands = subst (IsWired p w at (name_by p a) b.wire) b.is (subst (StandsFor p a w at from) same found.stands) in
      let gives = given p w at (name_by p a) b.wire b.driven z (ap (source_of w) b.name ∙ port-source z h) stands in
      subst (λ v. Alike v y z) b.name (alike p a w at from (name_by p a) b.wire b.driven y z b.is b.gives gives)

  is-way : (u : Path) (z : Source) → PortWay u n i z → (v : Way) × (j : Node) × (z ≡ From v j)
  is-way [] z is = (PortBit [] n i, Outer n i, is)
  is-way (inst ∷ up) z there = (PortBit (inst ∷ up) n i, node_of up there.0, there.1)

  -- an input port comes from above, an instance's output from below
  not-out : (u : Path) (z : Source) → PortWay u n i z → (q inst : Name) (j : Option ℕ) → node_before z ≡ Inner q j (inst ∷ u) → ⊥
  not-out [] z is q inst j same = let bad : Outer n i ≡ Inner q j (inst ∷ []) = ap node_before (sym is) ∙ same in absurd cc
  not-out (l ∷ up) z there q inst j same = not-above up there.0 q inst l j (sym same ∙ ap node_before there.1)

  port-other : (z : Source) → IsIn z ports → (y : Source) → IsIn y others → ⊥
  port-other z h y g = by (port-alike z h y (wire-of y g)) (item y g)
    where
      way : PortWay x n i z
      way = ports-way p a w proper.plain.leaves written own x m here e f n i z h

      by : Alike k y z → Item y → ⊥
      by (Begin first second ends) q = let z_is = is-way x z way in begins z z_is.0 z_is.1 second z_is.2
      by (Come j v u y_is z_is) (inl first) = begins y v j first y_is
      by (Come j v u y_is z_is) (inr (inl q)) = not-out x z way q.port q.inst q.index (ap node_before z_is ∙ ap node_before (sym y_is ∙ q.is))
      by (Come j v u y_is z_is) (inr (inr q)) = no-assign p a w from written proper own no_ports x m here e f n i z h y q (ap node_before z_is ∙ ap node_before (sym y_is))

  pub inner-same : (y z : Source) → IsIn y (in_module w x n i here) → IsIn z (in_module w x n i here) → y ≡ z
  inner-same y z h g = by (in-either y ports others h) (in-either z ports others g)
    where
      by : IsIn y ports ⊎ IsIn y others → IsIn z ports ⊎ IsIn z others → y ≡ z
      by (inl b) (inl c) = ports-same p a w proper.plain.leaves written own x m here e f n i y z b c
      by (inl b) (inr c) = absurd (port-other y b z c)
      by (inr b) (inl c) = absurd (port-other z c y b)
      by (inr b) (inr c) = others-same y z b c

-- ---- any node

abbrev is_outer_port : Name → Option ℕ → PortView → Bool
is_outer_port n i q = bytes_eq q.name n && list_any (same_index i) (indices q.range)

outer-list : (w : Structure) (n : Name) (i : Option ℕ) (m : ModuleView) → module_at w [] ≡ Some m → sources_of w (Outer n i) ≡ map (outside n i) (filter (is_outer_port n i) m.ports)
outer-list w n i m e = rw (e) refl

outer-none : (w : Structure) (n : Name) (i : Option ℕ) → module_at w [] ≡ None → sources_of w (Outer n i) ≡ []
outer-none w n i e = rw (e) refl

inner-none : (w : Structure) (x : Path) (n : Name) (i : Option ℕ) → module_at w x ≡ None → sources_of w (Inner n i x) ≡ []
inner-none w x n i e = rw (e) refl

outer-same : (w : Structure) → HasOwnNames w → (n : Name) (i : Option ℕ) (y z : Source) → IsIn y (sources_of w (Outer n i)) → IsIn z (sources_of w (Outer n i)) → y ≡ z
outer-same w own n i y z h g = by (module_at w []) refl
  where
    by : (o : Option ModuleView) → module_at w [] ≡ o → y ≡ z
    by None e = absurd (subst (λ l. IsIn y l) (outer-none w n i e) h)
    by (Some m) e =
        let b = of-map (outside n i) y (filter (is_outer_port n i) m.ports) (subst (λ l. IsIn y l) (outer-list w n i m e) h) in
        let c = of-map (outside n i) z (filter (is_outer_port n i) m.ports) (subst (λ l. IsIn z l) (outer-list w n i m e) g) in
        let b_is = of-filter (is_outer_port n i) b.0 m.ports b.1 in
        let c_is = of-filter (is_outer_port n i) c.0 m.ports c.1 in
        let same : b.0 ≡ c.0 = named-same name_of_port m.ports (port-names w own [] m e) b.0 c.0 b_is.0 c_is.0
        (name-true b.0.name n (one (bytes_eq b.0.name n) _ b_is.1) ∙ sym (name-true c.0.name n (one (bytes_eq c.0.name n) _ c_is.1))) in
        b.2 ∙ (ap (outside n i) same ∙ sym c.2)

pub sources-equal : ChainNetsHaveNoPorts → SourcesAreEqual
sources-equal no_ports p a w from written proper own (Fixed b) y z h g = absurd h
sources-equal no_ports p a w from written proper own (Outer n i) y z h g = outer-same w own n i y z h g
sources-equal no_ports p a w from written proper own (Inner n i x) y z h g = by (module_at p.structure x) (module_at w x) refl refl
  where
    by : (o r : Option ModuleView) → module_at p.structure x ≡ o → module_at w x ≡ r → y ≡ z
    by o None e f = absurd (subst (λ l. IsIn y l) (inner-none w x n i f) h)
    by None (Some here) e f = let bad : None ≡ Some here = sym (written.none x e) ∙ f in absurd cc
    by (Some m) (Some here) e f =
        inner-same p a w from written proper own no_ports x m here e f n i y z
        (subst (λ l. IsIn y l) (in-by w x n i here f) h) (subst (λ l. IsIn z l) (in-by w x n i here f) g)
