-- What an instance's ports join by numbers is what they join by texts.
use Rattle.std.proofs.Common.{◌≡◌, ℕ, ◌+◌, ◌<◌, true, false, not, List, [], ◌∷◌, ◌++◌, map, length, Some, refl, sym, ap, ◌∙◌, subst, arith}
use Rattle.std.specs.Prelude.{filter, flat_map, slice_get, if◌then◌else◌}
use Rattle.lp_text.specs.Texts.{text_at, distinct}
use Rattle.lp_model.specs.Agreement.{numbers_below}
use Rattle.lp_model.specs.declared.bits.Bit.{Bit}
use Rattle.lp_model.specs.declared.netlist.Direction.{Direction}
use Rattle.lp_model.specs.declared.netlist.Direction.TheVariants.{Input, Output}
use Rattle.lp_model.specs.declared.netlist.Instance.{Instance}
use Rattle.lp_model.specs.declared.netlist.Module.{Module}
use Rattle.lp_model.specs.declared.netlist.Port.{Port}
use Rattle.lp_model.specs.NetlistView.{BitView, PortView, NetView, ModuleView, bit_view, bits_view, port_view, instance_view, connections_view, module_view, connections_numbers}
use Rattle.lp_spec_design.specs.Netlists.{indices, connected, is_input}
use Rattle.lp_spec_design.specs.Nodes.{connected_bits}
use Rattle.lp_spec_design.specs.Graph.{pairs}
use Rattle.lp_spec_design.specs.Winners.{IsIn}
use Rattle.lp_spec_faults.specs.Wires.{has_constant}
use Rattle.lp_spec_bridge.specs.Keyed.{IsApart}
use Rattle.lp_spec_bridge.specs.Names.{net_names}
use Rattle.lp_spec_bridge.specs.Templates.{bit_named, bits_in}
use Rattle.lp_spec_bridge.proofs.Distinct.{apart-left}
use Rattle.lp_spec_layout.specs.Parts.{BitPair, port_pairs, input_pairs, output_pairs, IsJoined}
use Rattle.lp_spec_design.proofs.Members.{in-map}
use Rattle.lp_spec_layout.proofs.Lists.{get-map, Has, has-all, has-head, has-tail, has-left, has-right}
use Rattle.lp_places.proofs.Numbers.{below-head, below-tail}
use Rattle.lp_templates.specs.Numbered.{port_width, declared_in}
use Rattle.lp_templates.specs.Pieces.{joints_of}
use Rattle.lp_templates.specs.Values.{places_of}
use Rattle.lp_templates.specs.Connected.{port_bits, input_joints, output_joints, port_places, inputs_from, outputs_from}
use Rattle.lp_spec_numbered.specs.Read.{IsBitOf}
use Rattle.lp_spec_numbered.proofs.Places.{nets_of, numbers, length-map, length-indices}
use Rattle.lp_spec_numbered.proofs.Joined.{AreDriven, none-joined, more-joined, lists-joined, driven-are-placed}
use Rattle.lp_spec_numbered.proofs.Connected.{bit-connected, at-port}
use Rattle.lp_spec_numbered.proofs.Values.{IsKnown, IsNet, pairs-left, pairs-turned, run-driven, no-constants, all-placed, all-driven}

abbrev bits-of-port : List (List ℕ) → Port → List BitView
bits-of-port texts p = map (bit_named (text_at texts p.name.0)) (indices p.range)

-- the bits of some ports, one behind the other
abbrev bits-of-ports : List (List ℕ) → List Port → List BitView
bits-of-ports texts ps = flat_map (λ (x : PortView). map (bit_named x.name) (indices x.range)) (map (port_view texts) ps)

module _ (texts : List (List ℕ)) (apart : distinct texts ≡ true) (m : Module) (below : numbers_below (length texts) (numbers (nets_of m)) ≡ true) (names : IsApart (net_names (module_view texts m))) where
  abbrev v : ModuleView
  v = module_view texts m

  module _ (inner : Module) (inner-below : numbers_below (length texts) (map (λ (p : Port). p.name.0) inner.ports) ≡ true) (inner-names : IsApart (net_names (module_view texts inner))) where
    abbrev vi : ModuleView
    vi = module_view texts inner

    port-names : IsApart (map (λ (q : PortView). q.name) (map (port_view texts) inner.ports))
    port-names = apart-left (map (λ (q : PortView). q.name) vi.ports) (map (λ (x : NetView). x.name) vi.nets) inner-names

    module _ (y : Instance) (y-below : numbers_below (length texts) (connections_numbers y.connections) ≡ true) (declared : (b : BitView) → IsIn b (connected_bits (connections_view texts y.connections)) → IsBitOf v b) where
      known : (j name : ℕ) (b : Bit) → IsIn b (port_bits y.connections j name) → IsKnown texts m b
      known j name b h =
          let there = bit-connected texts (length texts) y.connections j name b h y-below in
          (there.0, declared (bit_view texts b) there.1)

      -- ---- one port

      module _ (k j : ℕ) (p : Port) (at : slice_get inner.ports j ≡ Some p) (low : p.name.0 < length texts) (stands : Has (bits_in vi) k (bits-of-port texts p)) where
        inside : AreDriven vi (bits-of-port texts p) (port_places k p)
        inside =
            let size : length (bits-of-port texts p) ≡ port_width p = length-map (bit_named (text_at texts p.name.0)) (indices p.range) ∙ length-indices p.range in
            let start : k ≡ 0 + k = omega arith in
            run-driven vi (bits-of-port texts p) k 0 (port_width p) size (subst (λ z. Has (bits_in vi) z (bits-of-port texts p)) start stands)

        outside : connected vi.ports (text_at texts p.name.0) (connections_view texts y.connections) ≡ bits_view texts (port_bits y.connections j p.name.0)
        outside = at-port texts apart y.connections inner.ports j p at port-names low y-below

        paired : port_pairs (instance_view texts y) vi (port_view texts p) ≡ pairs (bits-of-port texts p) (bits_view texts (port_bits y.connections j p.name.0))
        paired =
            pairs-left (bit_named (text_at texts p.name.0)) (indices p.range) (connected vi.ports (text_at texts p.name.0) (connections_view texts y.connections))
            ∙ ap (pairs (bits-of-port texts p)) outside

        in-port : IsJoined vi v (port_pairs (instance_view texts y) vi (port_view texts p)) (joints_of (port_places k p) (places_of (declared_in m) (port_bits y.connections j p.name.0)))
        in-port =
            subst (λ z. IsJoined vi v z (joints_of (port_places k p) (places_of (declared_in m) (port_bits y.connections j p.name.0)))) (sym paired)
            (lists-joined vi v (bits-of-port texts p) (bits_view texts (port_bits y.connections j p.name.0)) (port_places k p) (places_of (declared_in m) (port_bits y.connections j p.name.0)) inside
            (all-placed texts apart m below names (port_bits y.connections j p.name.0) (known j p.name.0)))

        out-port : has_constant (connected vi.ports (text_at texts p.name.0) (connections_view texts y.connections)) ≡ false
            → IsJoined v vi (map (λ (b : BitPair). (b.1, b.0)) (port_pairs (instance_view texts y) vi (port_view texts p))) (joints_of (places_of (declared_in m) (port_bits y.connections j p.name.0)) (port_places k p))
        out-port clean =
            let bits = port_bits y.connections j p.name.0 in
            let turned : map (λ (b : BitPair). (b.1, b.0)) (port_pairs (instance_view texts y) vi (port_view texts p)) ≡ pairs (bits_view texts bits) (bits-of-port texts p) =
            ap (map (λ (b : BitPair). (b.1, b.0))) paired ∙ pairs-turned (bits-of-port texts p) (bits_view texts bits) in
            let free : has_constant (bits_view texts bits) ≡ false = ap has_constant (sym outside) ∙ clean in
            let nets : (b : Bit) → IsIn b bits → IsNet texts m b = λ b h. let is = known j p.name.0 b h in (is.0, no-constants v (bits_view texts bits) free (bit_view texts b) (in-map (bit_view texts) b bits h) is.1) in
            subst (λ z. IsJoined v vi z (joints_of (places_of (declared_in m) bits) (port_places k p))) (sym turned)
            (lists-joined v vi (bits_view texts bits) (bits-of-port texts p) (places_of (declared_in m) bits) (port_places k p) (all-driven texts apart m below names bits nets) (driven-are-placed vi (bits-of-port texts p) (port_places k p) inside))

      -- ---- all ports

      inputs-joined : (k j : ℕ) (ps : List Port) → Has inner.ports j ps → numbers_below (length texts) (map (λ (p : Port). p.name.0) ps) ≡ true → Has (bits_in vi) k (bits-of-ports texts ps)
          → IsJoined vi v (flat_map (port_pairs (instance_view texts y) vi) (filter is_input (map (port_view texts) ps))) (inputs_from (declared_in m) y.connections k j ps)
      inputs-joined k j [] at low stands = none-joined vi v
      inputs-joined k j (p ∷ ps) at low stands =
          let size : k + length (bits-of-port texts p) ≡ k + port_width p = ap (λ z. k + z) (length-map (bit_named (text_at texts p.name.0)) (indices p.range) ∙ length-indices p.range) in
          let behind = subst (λ z. Has (bits_in vi) z (bits-of-ports texts ps)) size (has-right (bits_in vi) k (bits-of-port texts p) (bits-of-ports texts ps) stands) in
          let rest = inputs-joined (k + port_width p) (j + 1) ps (has-tail inner.ports j p ps at) (below-tail (length texts) p.name.0 (map (λ (q : Port). q.name.0) ps) low) behind in
          let here = in-port k j p (has-head inner.ports j p ps at) (below-head (length texts) p.name.0 (map (λ (q : Port). q.name.0) ps) low) (has-left (bits_in vi) k (bits-of-port texts p) (bits-of-ports texts ps) stands) in
          by p.direction here rest
        where
          by : (d : Direction)
              → IsJoined vi v (port_pairs (instance_view texts y) vi (port_view texts p)) (joints_of (port_places k p) (places_of (declared_in m) (port_bits y.connections j p.name.0)))
              → IsJoined vi v (flat_map (port_pairs (instance_view texts y) vi) (filter is_input (map (port_view texts) ps))) (inputs_from (declared_in m) y.connections (k + port_width p) (j + 1) ps)
              → IsJoined vi v
              (flat_map (port_pairs (instance_view texts y) vi) (if is_input (record { name = text_at texts p.name.0; direction = d; range = p.range }) then port_view texts p ∷ filter is_input (map (port_view texts) ps) else filter is_input (map (port_view texts) ps)))
              (input_joints d (port_places k p) (places_of (declared_in m) (port_bits y.connections j p.name.0)) ++ inputs_from (declared_in m) y.connections (k + port_width p) (j + 1) ps)
          by Input here rest =
              more-joined vi v (port_pairs (instance_view texts y) vi (port_view texts p)) (flat_map (port_pairs (instance_view texts y) vi) (filter is_input (map (port_view texts) ps)))
              (joints_of (port_places k p) (places_of (declared_in m) (port_bits y.connections j p.name.0))) (inputs_from (declared_in m) y.connections (k + port_width p) (j + 1) ps) here rest
          by Output here rest = rest

      module _ (clean : (j : ℕ) (p : PortView) → slice_get vi.ports j ≡ Some p → is_input p ≡ false → has_constant (connected vi.ports p.name (connections_view texts y.connections)) ≡ false) where
        abbrev turned : PortView → List BitPair
        turned port = map (λ (b : BitPair). (b.1, b.0)) (port_pairs (instance_view texts y) vi port)

        outputs-joined : (k j : ℕ) (ps : List Port) → Has inner.ports j ps → numbers_below (length texts) (map (λ (p : Port). p.name.0) ps) ≡ true → Has (bits_in vi) k (bits-of-ports texts ps)
            → IsJoined v vi (flat_map turned (filter (λ port. not (is_input port)) (map (port_view texts) ps))) (outputs_from (declared_in m) y.connections k j ps)
        outputs-joined k j [] at low stands = none-joined v vi
        outputs-joined k j (p ∷ ps) at low stands =
            let size : k + length (bits-of-port texts p) ≡ k + port_width p = ap (λ z. k + z) (length-map (bit_named (text_at texts p.name.0)) (indices p.range) ∙ length-indices p.range) in
            let behind = subst (λ z. Has (bits_in vi) z (bits-of-ports texts ps)) size (has-right (bits_in vi) k (bits-of-port texts p) (bits-of-ports texts ps) stands) in
            let rest = outputs-joined (k + port_width p) (j + 1) ps (has-tail inner.ports j p ps at) (below-tail (length texts) p.name.0 (map (λ (q : Port). q.name.0) ps) low) behind in
            let place = has-head inner.ports j p ps at in
            let here = out-port k j p place (below-head (length texts) p.name.0 (map (λ (q : Port). q.name.0) ps) low) (has-left (bits_in vi) k (bits-of-port texts p) (bits-of-ports texts ps) stands) in
            by p.direction (λ out. here (clean j (port_view texts p) (get-map (port_view texts) inner.ports j p place) out)) rest
          where
            by : (d : Direction)
                → (is_input (record { name = text_at texts p.name.0; direction = d; range = p.range }) ≡ false → IsJoined v vi (turned (port_view texts p)) (joints_of (places_of (declared_in m) (port_bits y.connections j p.name.0)) (port_places k p)))
                → IsJoined v vi (flat_map turned (filter (λ port. not (is_input port)) (map (port_view texts) ps))) (outputs_from (declared_in m) y.connections (k + port_width p) (j + 1) ps)
                → IsJoined v vi
                (flat_map turned (if not (is_input (record { name = text_at texts p.name.0; direction = d; range = p.range })) then port_view texts p ∷ filter (λ port. not (is_input port)) (map (port_view texts) ps) else filter (λ port. not (is_input port)) (map (port_view texts) ps)))
                (output_joints d (port_places k p) (places_of (declared_in m) (port_bits y.connections j p.name.0)) ++ outputs_from (declared_in m) y.connections (k + port_width p) (j + 1) ps)
            by Input here rest = rest
            by Output here rest =
                more-joined v vi (turned (port_view texts p)) (flat_map turned (filter (λ port. not (is_input port)) (map (port_view texts) ps)))
                (joints_of (places_of (declared_in m) (port_bits y.connections j p.name.0)) (port_places k p)) (outputs_from (declared_in m) y.connections (k + port_width p) (j + 1) ps) (here refl) rest

        pub all-outputs : IsJoined v vi (output_pairs (instance_view texts y) vi) (outputs_from (declared_in m) y.connections 0 0 inner.ports)
        all-outputs =
            outputs-joined 0 0 inner.ports (has-all inner.ports) inner-below
            (has-left (bits_in vi) 0 (bits-of-ports texts inner.ports) (flat_map (λ (x : NetView). map (bit_named x.name) (indices x.range)) vi.nets) (has-all (bits_in vi)))

      pub all-inputs : IsJoined vi v (input_pairs (instance_view texts y) vi) (inputs_from (declared_in m) y.connections 0 0 inner.ports)
      all-inputs =
          inputs-joined 0 0 inner.ports (has-all inner.ports) inner-below
          (has-left (bits_in vi) 0 (bits-of-ports texts inner.ports) (flat_map (λ (x : NetView). map (bit_named x.name) (indices x.range)) vi.nets) (has-all (bits_in vi)))
