-- An elaborated netlist is sound for editing.
use Rattle.std.proofs.Common.{◌≡◌, ◌≤◌, ℕ, false, List, [], length, Option, Some, None, refl, sym, ap, ◌∙◌, subst, arith}
use Rattle.std.specs.Prelude.{filter, nat_lt, slice_get, ◌&&◌}
use Rattle.std.proofs.lemmas.Bool.{ltb-true}
use Rattle.std.proofs.lemmas.List.{length-map}
use Rattle.lp_model.specs.declared.graph.Edge.{Edge as EdgeRow}
use Rattle.lp_spec_design.specs.Keys.{Node, Source, CellPin, SwitchedPin, Environment, From, AssignBit, Fixed, same_node}
use Rattle.lp_spec_design.specs.Netlists.{Structure}
use Rattle.lp_spec_design.specs.Graph.{sources_of, source_of}
use Rattle.lp_spec_design.specs.Nodes.{nodes_of, HasFuel}
use Rattle.lp_spec_design.specs.Reads.{node-self, other}
use Rattle.lp_spec_design.specs.Winners.{IsIn}
use Rattle.lp_spec_design.proofs.Looped.{no_loop_fuel}
use Rattle.lp_spec_design.proofs.Members.{in-map, of-some}
use Rattle.lp_spec_design.proofs.Sources.{sources_known}
use Rattle.lp_spec_faults.specs.Lines.{HasFirst}
use Rattle.lp_spec_faults.specs.Wires.{wire_loop}
use Rattle.lp_spec_faults.proofs.Loops.{has_first}
use Rattle.lp_spec_bridge.specs.Tables.{Tables, has_node}
use Rattle.lp_spec_bridge.specs.Keyed.{keys_of, node_at, way_at}
use Rattle.lp_spec_bridge.specs.Represents.{from_key}
use Rattle.lp_spec_bridge.specs.Edges.{Drive, Edge, edge_of, edges_of, drives_of, drivers_among}
use Rattle.lp_spec_bridge.specs.Elaborates.{Elaborates, Ends, row_ends, edge_ends}
use Rattle.lp_spec_bridge.proofs.Apart.{in-at}
use Rattle.lp_spec_bridge.proofs.Driven.{drivers_listed}
use Rattle.lp_spec_layout.proofs.Lists.{get-in}
use Rattle.lp_spec_edits.specs.Net.{CellPins, net_of, row_at}
use Rattle.lp_spec_edits.specs.Sound.{IsSound}
use Rattle.lp_spec_held.specs.Held.{AreCells}
use Rattle.lp_spec_held.proofs.Begun.{entry-of, map-at}
use Rattle.lp_spec_elaborated.specs.Elaborated.{HasSoundWires, DrivesByPins}
use Rattle.lp_spec_elaborated.proofs.Lists.{in-filter, all-entry}
use Rattle.lp_spec_elaborated.proofs.Numbers.{only-source, by-pin, by-output, by-edge, by-lead, pin-within, is-edge, ends}
use Rattle.lp_spec_elaborated.proofs.Single.{single}

-- an edge as what drives the node to which it leads
edge-parts : (d : Drive) (y : Edge) → edge_of d ≡ Some y → (d.0 ≡ y.to) × (d.1 ≡ From y.way y.from)
edge-parts d y e = by d.1 refl e
  where
    row : Source → Option Edge
    row (From w j) = Some (record { way = w; from = j; to = d.0 })
    row _ = None

    by : (x : Source) → d.1 ≡ x → edge_of d ≡ Some y → (d.0 ≡ y.to) × (d.1 ≡ From y.way y.from)
    by (From w j) g h =
        let same : Some (record { way = w; from = j; to = d.0 }) ≡ Some y = sym (ap (λ x. edge_of (d.0, x)) g) ∙ h in
        let is : record { way = w; from = j; to = d.0 } ≡ y = cc in
        (ap (λ (z : Edge). z.to) is, g ∙ ap (λ (z : Edge). From z.way z.from) is)
    by (CellPin p i q) g h = let no_ : None ≡ Some y = sym (ap (λ x. edge_of (d.0, x)) g) ∙ h in absurd cc
    by (SwitchedPin p i q) g h = let no_ : None ≡ Some y = sym (ap (λ x. edge_of (d.0, x)) g) ∙ h in absurd cc
    by Environment g h = let no_ : None ≡ Some y = sym (ap (λ x. edge_of (d.0, x)) g) ∙ h in absurd cc

module _ (texts : List (List ℕ)) (s : Structure) (cells : List CellPins) (t : Tables) (elaborated : Elaborates texts s t) (library : AreCells s cells) (sound : HasSoundWires s) where
  one-source : (k : Node) → IsIn k (nodes_of s) → length (sources_of s k) ≤ 1
  one-source = single s sound.names sound.drivers

  -- the way of an edge is the source of the node to which it leads
  edge-source : (e : ℕ) (x : EdgeRow) → slice_get t.edges e ≡ Some x → source_of s (node_at (keys_of s) x.to.0) ≡ Some (From (way_at (keys_of s) e) (from_key (keys_of s) x.from))
  edge-source e x h =
      let found = entry-of edge_ends (row_ends (keys_of s)) (edges_of s) t.edges e x (sym elaborated.edges) h in
      let y = found.0 in
      let d = of-some edge_of found.0 (drives_of s) (get-in (edges_of s) e found.0 found.1) in
      let parts = edge-parts d.0 found.0 d.2 in
      let comes : found.0.from ≡ from_key (keys_of s) x.from = ap (λ (z : Ends). z.0) found.2 in
      let leads : found.0.to ≡ node_at (keys_of s) x.to.0 = ap (λ (z : Ends). z.1) found.2 in
      let closed = all-entry (λ (z : EdgeRow). has_node t z.from && nat_lt z.to.0 (length t.nodes)) t.edges e x elaborated.represents.closed.edges h in
      let low = ltb-true x.to.0 (length t.nodes) (other (has_node t x.from) (nat_lt x.to.0 (length t.nodes)) closed) in
      let count = elaborated.represents.count in
      let node : IsIn (node_at (keys_of s) x.to.0) (nodes_of s) = in-at (nodes_of s) x.to.0 (Fixed false) (omega (arith, low, count)) in
      let to : d.0.0 ≡ node_at (keys_of s) x.to.0 = parts.0 ∙ leads in
      let member : IsIn d.0.1 (drivers_among d.0.0 (drives_of s)) = in-map (λ (z : Drive). z.1) d.0 (filter (λ (z : Drive). same_node z.0 d.0.0) (drives_of s)) (in-filter (λ (z : Drive). same_node z.0 d.0.0) (drives_of s) d.0 d.1 (node-self d.0.0)) in
      let listed : IsIn d.0.1 (sources_of s (node_at (keys_of s) x.to.0)) =
      subst (IsIn d.0.1) (ap (λ k. drivers_among k (drives_of s)) to ∙ drivers_listed s sound.bits elaborated.apart.instances (node_at (keys_of s) x.to.0) node) member in
      let way : way_at (keys_of s) e ≡ found.0.way = map-at (λ (z : Edge). z.way) (edges_of s) e found.0 (AssignBit [] 0 0) found.1 in
      only-source s (node_at (keys_of s) x.to.0) d.0.1 (one-source (node_at (keys_of s) x.to.0) node) listed
      ∙ ap (λ z. Some z) (parts.1 ∙ (ap (λ w. From w found.0.from) (sym way) ∙ ap (From (way_at (keys_of s) e)) comes))

  fuel : HasFuel s
  fuel = no_loop_fuel s (sources_known s sound.declares) (subst (HasFirst (wire_loop s)) sound.loops (has_first (wire_loop s)))

  module _ (own : DrivesByPins s t) where
    pub sound-net : IsSound (net_of cells t)
    sound-net =
        record {
          wires = record {
            by_pin = λ k l q e. (by-pin s cells t elaborated.represents elaborated.apart library sound one-source edge-source own k l q e).0;
            by_edge = by-edge s cells t elaborated.represents elaborated.apart library sound one-source edge-source;
            leads = by-lead s cells t elaborated.represents elaborated.apart library sound one-source edge-source;
            outputs = by-output s cells t elaborated.represents elaborated.apart library sound one-source edge-source;
            inputs = λ k l q e. (by-pin s cells t elaborated.represents elaborated.apart library sound one-source edge-source own k l q e).1;
            pins = pin-within s cells t elaborated.represents elaborated.apart library sound one-source edge-source;
            edges = is-edge s cells t elaborated.represents elaborated.apart library sound one-source edge-source;
          };
          ends = ends s cells t elaborated.represents elaborated.apart library sound one-source edge-source fuel;
          leaves = elaborated.represents.closed.leaves;
          instances = elaborated.represents.closed.instances;
          rows = length-map t.leaves (row_at cells t.pins);
        }
