-- The ports and nets of a written module have legal names and ranges.
use Rattle.std.proofs.Common.{◌≡◌, ℕ, Bool, true, false, ◌++◌, map, Option, Some, inl, inr, refl, sym, ap, ◌∙◌}
use Rattle.std.specs.Prelude.{codes, flat_map, slice_get, if◌then◌else◌}
use Rattle.std.specs.List.{list_all}
use Rattle.std.proofs.lemmas.Bool.{and_parts, and_from}
use Rattle.std.proofs.lemmas.List.Folds.{list_all-append}
use Rattle.lp_model.specs.declared.netlist.Direction.{Direction}
use Rattle.lp_model.specs.declared.netlist.Direction.TheVariants.{Input, Output}
use Rattle.lp_model.specs.declared.netlist.BitRange.{BitRange}
use Rattle.lp_model.specs.NetlistView.{PortView, NetView, ModuleView}
use Rattle.lp_vwrite.specs.Layout.{port_nets, wire_nets, declared}
use Rattle.lp_vwrite.specs.WellFormed.{is_name, is_net}
use Rattle.lp_spec_design.specs.Keys.{Name, Path}
use Rattle.lp_spec_design.specs.Graph.{numbered, when}
use Rattle.lp_spec_design.specs.Intents.{Origin, FromPort, FromSwitch}
use Rattle.lp_spec_design.specs.Winners.{IsIn}
use Rattle.lp_spec_design.proofs.Members.{in-either, in-map, of-map, of-flat, of-some}
use Rattle.lp_spec_design.proofs.Sources.{then_is}
use Rattle.lp_spec_realises.specs.Projects.{Project, network_of, port_of_origin}
use Rattle.lp_spec_written.specs.Places.{Switching}
use Rattle.lp_spec_written.specs.Nets.{chain_net, nets_of, stretches_in}
use Rattle.lp_spec_design.specs.Netlists.{upward}
use Rattle.lp_spec_written.specs.Supplies.{scalar, wire, switch_net, goes_out, goes_in, switch_port, switch_of, has_port_of, port_by_kind, origin_port, supply_ports, supply_wires}
use Rattle.lp_spec_written.specs.Routes.{Part, Kind, PortOut, Between, PortIn, parts_in, control_net, port_of_kind, control_port, control_ports, control_wires}
use Rattle.lp_spec_written.specs.Written.{Additions, written_ports, written_nets, written_module}
use Rattle.lp_spec_written_at.proofs.Lists.{of-all, all-of}
use Rattle.lp_spec_written_at.proofs.Wiring.{at-numbered}
use Rattle.lp_spec_legal.specs.Legal.{IsLegal}
use Rattle.lp_spec_legal.proofs.Names.{numbered-legal, origin-legal, read-parts}

plain-scalar : (n : Name) (d : Direction) (q : PortView) → is_name n ≡ true → q ≡ scalar n d → is_net (q.name, q.range) ≡ true
plain-scalar n d q h is = ap (λ (z : PortView). is_net (z.name, z.range)) is ∙ and_from (is_name n) true h refl

plain-wire : (n : Name) (v : NetView) → is_name n ≡ true → v ≡ wire n → is_net (v.name, v.range) ≡ true
plain-wire n v h is = ap (λ (z : NetView). is_net (z.name, z.range)) is ∙ and_from (is_name n) true h refl

is-when : {A : Type 0} (b : Bool) (x y : A) → when b x ≡ Some y → y ≡ x
is-when true x y e = cc
is-when false x y e = absurd cc

module _ (p : Project) (legal : IsLegal p) (a : Additions) (x : Path) where
  -- ---- supplies

  switch-legal : (w : Switching) → is_name (switch_net w) ≡ true
  switch-legal w = numbered-legal (codes "lp_w_") w.number refl

  by-way : (out into : Bool) (w : Switching) (q : PortView) → (if out then Some (scalar (switch_net w) Output) else when into (scalar (switch_net w) Input)) ≡ Some q → is_net (q.name, q.range) ≡ true
  by-way true into w q e = plain-scalar (switch_net w) Output q (switch-legal w) (is-when true (scalar (switch_net w) Output) q e)
  by-way false into w q e = plain-scalar (switch_net w) Input q (switch-legal w) (is-when into (scalar (switch_net w) Input) q e)

  by-kind : (o : ℕ) (k : Origin) (q : PortView) → slice_get (network_of p).origins o ≡ Some k → port_by_kind p a.plan a.uses x o k ≡ Some q → is_net (q.name, q.range) ≡ true
  by-kind o FromPort q at e = plain-scalar (port_of_origin p o) Input q (origin-legal p legal o at) (is-when (has_port_of a.uses o x) (scalar (port_of_origin p o) Input) q e)
  by-kind o (FromSwitch input control high) q at e =
      let w = then_is (λ (v : Switching). switch_port a.uses v x) (switch_of a.plan o) q e in
      by-way (goes_out a.uses w.0 x) (goes_in a.uses w.0 x) w.0 q w.2

  pub supply-port : (q : PortView) → IsIn q (supply_ports p a.plan a.uses x) → is_net (q.name, q.range) ≡ true
  supply-port q h =
      let z = of-some (origin_port p a.plan a.uses x) q (numbered 0 (network_of p).origins) h in
      by-kind z.0.0 z.0.1 q (at-numbered (network_of p).origins z.0 z.1) z.2

  supply-wire : (v : NetView) → IsIn v (supply_wires a.plan a.uses x) → is_net (v.name, v.range) ≡ true
  supply-wire v h = let w = of-map (λ (w : Switching). wire (switch_net w)) v _ h in plain-wire (switch_net w.0) v (switch-legal w.0) w.2

  -- ---- chains

  chain-wire : (v : NetView) → IsIn v (map wire (flat_map nets_of (stretches_in a.chains x))) → is_net (v.name, v.range) ≡ true
  chain-wire v h =
      let n = of-map wire v (flat_map nets_of (stretches_in a.chains x)) h in
      let s = of-flat nets_of n.0 (stretches_in a.chains x) n.1 in
      let k = of-map chain_net n.0 (upward s.0.count s.0.start) s.2 in
      plain-wire n.0 v (ap is_name k.2 ∙ numbered-legal (codes "lp_n_") k.0 refl) n.2

  -- ---- controls

  of-kind : (k : ℕ) (kind : Kind) (q : PortView) → port_of_kind k kind ≡ Some q → is_net (q.name, q.range) ≡ true
  of-kind k PortOut q e = plain-scalar (control_net k) Output q (numbered-legal (codes "lp_c_") k refl) (is-when true (scalar (control_net k) Output) q e)
  of-kind k Between q e = absurd cc
  of-kind k PortIn q e = plain-scalar (control_net k) Input q (numbered-legal (codes "lp_c_") k refl) (is-when true (scalar (control_net k) Input) q e)

  pub control-here : (q : PortView) → IsIn q (control_ports a.controls x) → is_net (q.name, q.range) ≡ true
  control-here q h = let y = of-some control_port q (parts_in a.controls x) h in of-kind y.0.0 y.0.1.kind q y.2

  control-wire : (v : NetView) → IsIn v (control_wires a.controls x) → is_net (v.name, v.range) ≡ true
  control-wire v h = let y = of-map (λ (y : ℕ × Part). wire (control_net y.0)) v _ h in plain-wire (control_net y.0.0) v (numbered-legal (codes "lp_c_") y.0.0 refl) y.2

  -- ---- all of a module

  module _ (m : ModuleView) (there : IsIn m p.structure.modules) where
    own-parts : (list_all is_net (port_nets m.ports) ≡ true) × (list_all is_net (wire_nets m.nets) ≡ true)
    own-parts = and_parts (list_all is_net (port_nets m.ports)) (list_all is_net (wire_nets m.nets)) (sym (list_all-append is_net (port_nets m.ports) (wire_nets m.nets)) ∙ (read-parts p legal m there).nets)

    pub own-port : (q : PortView) → IsIn q m.ports → is_net (q.name, q.range) ≡ true
    own-port q h = of-all is_net (q.name, q.range) (port_nets m.ports) own-parts.0 (in-map (λ (r : PortView). (r.name, r.range)) q m.ports h)

    pub own-wire : (v : NetView) → IsIn v m.nets → is_net (v.name, v.range) ≡ true
    own-wire v h = of-all is_net (v.name, v.range) (wire_nets m.nets) own-parts.1 (in-map (λ (r : NetView). (r.name, r.range)) v m.nets h)

    port-net : (q : PortView) → IsIn q (written_ports p a x m) → is_net (q.name, q.range) ≡ true
    port-net q h = elim (in-either q m.ports (supply_ports p a.plan a.uses x ++ control_ports a.controls x) h) [
      | inl g ↦ own-port q g
      | inr g ↦ elim (in-either q (supply_ports p a.plan a.uses x) (control_ports a.controls x) g) [ inl r ↦ supply-port q r | inr r ↦ control-here q r ]
    ]

    wire-net : (v : NetView) → IsIn v (written_nets a x m) → is_net (v.name, v.range) ≡ true
    wire-net v h = elim (in-either v m.nets (supply_wires a.plan a.uses x ++ (map wire (flat_map nets_of (stretches_in a.chains x)) ++ control_wires a.controls x)) h) [
      | inl g ↦ own-wire v g
      | inr g ↦ elim (in-either v (supply_wires a.plan a.uses x) (map wire (flat_map nets_of (stretches_in a.chains x)) ++ control_wires a.controls x) g) [
        | inl r ↦ supply-wire v r
        | inr r ↦ elim (in-either v (map wire (flat_map nets_of (stretches_in a.chains x))) (control_wires a.controls x) r) [ inl s ↦ chain-wire v s | inr s ↦ control-wire v s ]
      ]
    ]

    pub nets-formed : list_all is_net (declared (written_module p a x m)) ≡ true
    nets-formed =
        list_all-append is_net (port_nets (written_ports p a x m)) (wire_nets (written_nets a x m))
        ∙ and_from _ _ (all-of is_net (port_nets (written_ports p a x m)) ports) (all-of is_net (wire_nets (written_nets a x m)) nets)
      where
        ports : (z : Name × Option BitRange) → IsIn z (port_nets (written_ports p a x m)) → is_net z ≡ true
        ports z h = let q = of-map (λ (r : PortView). (r.name, r.range)) z (written_ports p a x m) h in ap is_net q.2 ∙ port-net q.0 q.1

        nets : (z : Name × Option BitRange) → IsIn z (wire_nets (written_nets a x m)) → is_net z ≡ true
        nets z h = let v = of-map (λ (r : NetView). (r.name, r.range)) z (written_nets a x m) h in ap is_net v.2 ∙ wire-net v.0 v.1
