-- Ways back from the net bits of wires, and from the outer sides of ports, end.
use Rattle.std.proofs.Common.{◌≡◌, ℕ, zero, suc, Bool, true, false, not, ◌&&◌, List, [], ◌∷◌, ◌++◌, map, Option, Some, None, inl, inr, refl, sym, ap, ◌∙◌, subst}
use Rattle.std.specs.Prelude.{filter, bytes_eq, if◌then◌else◌}
use Rattle.std.specs.List.{list_any}
use Rattle.std.proofs.lemmas.Bool.{both_ways}
use Rattle.lp_model.specs.NetlistView.{PortView, ModuleView}
use Rattle.lp_model.specs.declared.netlist.Direction.TheVariants.{Input, Output}
use Rattle.lp_spec_design.specs.Keys.{Name, Node, Inner, Outer, Way, PortBit, Environment, From, same_index}
use Rattle.lp_spec_design.specs.Netlists.{Structure, module_at, indices, is_input}
use Rattle.lp_spec_design.specs.Nodes.{HasFuel}
use Rattle.lp_spec_design.specs.Graph.{when, numbered, outside, source_of, way_in}
use Rattle.lp_spec_design.specs.Intents.{Origin, FromPort, FromSwitch}
use Rattle.lp_spec_design.specs.Registers.{is_above}
use Rattle.lp_spec_design.specs.Winners.{IsIn}
use Rattle.lp_spec_design.proofs.Members.{in-either, of-filter, of-some, any-in}
use Rattle.lp_spec_design.proofs.Sources.{then_is}
use Rattle.lp_spec_design.proofs.Looped.{source_by, head_of, outer_sources, outer_by}
use Rattle.lp_spec_realises.specs.Projects.{Project, network_of, port_of_origin}
use Rattle.lp_spec_realises.specs.Operators.{Placement}
use Rattle.lp_spec_written.specs.Places.{Switching}
use Rattle.lp_spec_written.specs.Supplies.{scalar, switch_net, switch_of, switch_port, has_port_of, goes_out, goes_in, home, port_by_kind, origin_port}
use Rattle.lp_spec_written.specs.Routes.{Part, Kind, PortOut, Between, PortIn, parts_in, port_of_kind, control_port, control_ports, control_net}
use Rattle.lp_spec_written.specs.Written.{Additions, added_supply_ports, written_module}
use Rattle.lp_spec_hub.specs.Spots.{Spot, OfNode, Behind, Before, Lead, Carried, Routed, Drive, AsSource, ByOperator, BySwitch, ByPort, FromSpot}
use Rattle.lp_spec_hub.specs.Drives.{drive}
use Rattle.lp_spec_hub.specs.Begins.{Begin, begins_by, own_begin, EndsIn, StartsOwn, IsWired}
use Rattle.lp_spec_hub.proofs.Paths.{top-above}
use Rattle.lp_spec_wired.specs.Contents.{IsContent, IsWrittenAt}
use Rattle.lp_spec_wired.specs.Names.{name_by, placement_by}
use Rattle.lp_spec_wired.specs.Laws.{done_of}
use Rattle.lp_spec_written_at.proofs.Paths.{source-at}
use Rattle.lp_spec_driven.specs.Sound.{IsProper}
use Rattle.lp_spec_driven.proofs.Parts.{is-made}
use Rattle.lp_spec_wires.specs.Standing.{is_top_bit, is_wire, AllStand, HasPlaces}
use Rattle.lp_spec_added_wires.proofs.Places.{is-when}
use Rattle.lp_spec_added_wires.proofs.Closed.{wires-are-closed}
use Rattle.lp_spec_added_wires.proofs.Beginnings.{wire-begins}
use Rattle.lp_spec_added_wires.proofs.Back.{Rests}

module _ (p : Project) (a : Additions) (w : Structure) (from : Way → Node) (written : IsWrittenAt p a w) (proper : IsProper p a from) (places : HasPlaces p a) (stand : AllStand p a w from) (fuel : HasFuel p.structure) where
  abbrev s : Structure
  s = p.structure

  abbrev at : Placement
  at = placement_by p a

  abbrev name : Spot → Node
  name x = name_by p a x

  abbrev driven : Spot → Option Drive
  driven x = drive p (done_of a) from x

  -- ---- wires

  wired : (x : Spot) (d : Option Drive) → is_wire p a from x ≡ true → driven x ≡ d → IsWired p w at name x d
  wired x d there e = subst (IsWired p w at name x) e (stand x there)

  own-rests : (x : Spot) (e : Begin) → own_begin x ≡ Some e → StartsOwn p w name x → Rests w (name x)
  own-rests (OfNode k) e is h = (zero, h.first)
  own-rests (Behind v k) e is h = absurd cc
  own-rests (Before v k) e is h = absurd cc
  own-rests (Lead v) e is h = absurd cc
  own-rests (Carried o y) e is h = absurd cc
  own-rests (Routed t) e is h = absurd cc

  stops : (x : Spot) (e : Begin) (d : Option Drive) → begins_by d x ≡ Some e → IsWired p w at name x d → Rests w (name x)
  stops x e None is h = own-rests x e is h
  stops x e (Some (AsSource z)) is h = own-rests x e is h
  stops x e (Some (ByOperator v k)) is h = (zero, h.first)
  stops x e (Some (BySwitch o)) is h = (zero, h.first)
  stops x e (Some (ByPort o)) is h = (suc zero, (h.leads.way, Outer (port_of_origin p o) None, h.leads.source, h.starts.first))
  stops x e (Some (FromSpot y)) is h = absurd cc

  ends-in : (n : ℕ) (x : Spot) (e : Begin) → is_wire p a from x ≡ true → EndsIn driven n x e → Rests w (name x)
  ends-in zero x e there h = stops x e (driven x) h (stand x there)
  ends-in (suc n) x e there h =
      let leads = wired x (Some (FromSpot h.0)) there h.1 in
      let more = ends-in n h.0 e (wires-are-closed p a from proper places x h.0 there h.1) h.2 in
      (suc more.0, (leads.way, name h.0, leads.source, more.1))

  pub wire-rests : (x : Spot) → is_wire p a from x ≡ true → Rests w (name x)
  wire-rests x there = let begin = wire-begins p a from proper places fuel x there in ends-in begin.1.0 x begin.0 there begin.1.1

  -- ---- outer sides

  -- an added port of the top is an input
  supply-input : (o : ℕ) (kind : Origin) (q : PortView) → port_by_kind p a.plan a.uses [] o kind ≡ Some q → is_input q ≡ true
  supply-input o FromPort q e = ap is_input (sym (is-when (has_port_of a.uses o []) (scalar (port_of_origin p o) Input) q e).1)
  supply-input o (FromSwitch input control high) q e =
      let r = then_is (λ (v : Switching). switch_port a.uses v []) (switch_of a.plan o) q e in
      let none : goes_out a.uses r.0 [] ≡ false =
      ap (λ b. is_above [] r.0.path && not b) (top-above (home a.uses r.0)) ∙ and-false (is_above [] r.0.path) in
      let as_input : when (goes_in a.uses r.0 []) (scalar (switch_net r.0) Input) ≡ Some q =
      ap (λ b. if b then Some (scalar (switch_net r.0) Output) else when (goes_in a.uses r.0 []) (scalar (switch_net r.0) Input)) (sym none) ∙ r.2 in
      ap is_input (sym (is-when (goes_in a.uses r.0 []) (scalar (switch_net r.0) Input) q as_input).1)
    where
      and-false : (b : Bool) → (b && false) ≡ false
      and-false true = refl
      and-false false = refl

  control-input : (t : ℕ × Part) → IsIn t (parts_in a.controls []) → (q : PortView) (kind : Kind) → t.1.kind ≡ kind → port_of_kind t.0 kind ≡ Some q → is_input q ≡ true
  control-input t t_in q PortOut is e =
      let made = is-made p a proper.routes [] t t_in in
      absurd (places.below t.1 made.0 is made.1)
  control-input t t_in q Between is e = absurd cc
  control-input t t_in q PortIn is e = let same : scalar (control_net t.0) Input ≡ q = cc in ap is_input (sym same)

  added-input : (q : PortView) → IsIn q (added_supply_ports p a [] ++ control_ports a.controls []) → is_input q ≡ true
  added-input q h = elim (in-either q (added_supply_ports p a []) (control_ports a.controls []) h) [
    | inl l ↦ let found = of-some (origin_port p a.plan a.uses []) q (numbered 0 (network_of p).origins) l in supply-input found.0.0 found.0.1 q found.2
    | inr r ↦ let found = of-some control_port q (parts_in a.controls []) r in control-input found.0 found.1 q found.0.1.kind refl found.2
  ]

  outside-rests : (n : Name) (i : Option ℕ) (m here : ModuleView) → module_at s [] ≡ Some m → IsContent w [] (written_module p a [] m) here → (ports : List PortView) → filter (λ (q : PortView). bytes_eq q.name n && list_any (same_index i) (indices q.range)) here.ports ≡ ports
      → source_of w (Outer n i) ≡ head_of (map (outside n i) ports) → Rests w (Outer n i)
  outside-rests n i m here e content [] g source = (zero, ap way_in source)
  outside-rests n i m here e content (q ∷ more) g source = by (is_input q) refl
    where
      kept : IsIn q here.ports × ((bytes_eq q.name n && list_any (same_index i) (indices q.range)) ≡ true)
      kept = of-filter (λ (r : PortView). bytes_eq r.name n && list_any (same_index i) (indices r.range)) q here.ports (subst (λ l. IsIn q l) (sym g) (inl refl))

      of-source : IsIn q m.ports → Rests w (Outer n i)
      of-source q_in =
          wire-rests (OfNode (Outer n i))
          (ap (is_top_bit n i) e ∙ any-in (λ (r : PortView). bytes_eq r.name n && list_any (same_index i) (indices r.range)) q m.ports q_in kept.1)

      by : (b : Bool) → is_input q ≡ b → Rests w (Outer n i)
      by true input = (zero, ap way_in source ∙ ap (λ b. way_in (Some (if b then Environment else From (PortBit [] n i) (Inner n i [])))) input)
      by false output = elim (in-either q m.ports (added_supply_ports p a [] ++ control_ports a.controls []) (subst (λ l. IsIn q l) content.ports kept.0)) [
        | inl l ↦ of-source l
        | inr r ↦ absurd (both_ways (is_input q) output (added-input q r))
      ]

  pub outer-rests : (n : Name) (i : Option ℕ) → Rests w (Outer n i)
  outer-rests n i = by (module_at w []) refl
    where
      by : (o : Option ModuleView) → module_at w [] ≡ o → Rests w (Outer n i)
      by None f = (zero, ap way_in (source_by w (Outer n i) [] (outer_by w n i None f)))
      by (Some here) f =
          let of = source-at p a w proper.fit.free written [] here f in
          outside-rests n i of.0 here of.1 of.2 (filter (λ (q : PortView). bytes_eq q.name n && list_any (same_index i) (indices q.range)) here.ports) refl
          (source_by w (Outer n i) (outer_sources w n i (Some here)) (outer_by w n i (Some here) f))
