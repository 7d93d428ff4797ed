-- Supplies that go down: ports of the top, and outputs of switches as input ports.
use Rattle.std.proofs.Common.{◌≡◌, ◌⊎◌, ℕ, Bool, true, false, not, ◌&&◌, ◌||◌, [], ◌∷◌, map, Some, None, inl, inr, refl, sym, ◌∙◌, ap, subst}
use Rattle.std.specs.Prelude.{bytes_eq, slice_get, if◌then◌else◌, option_and_then}
use Rattle.std.specs.List.{list_any}
use Rattle.std.proofs.lemmas.Bool.{both_ways, not-true}
use Rattle.lp_model.specs.declared.netlist.Direction.TheVariants.{Input, Output}
use Rattle.lp_model.specs.NetlistView.{NetBit, PortView, ConnectionView, ModuleView}
use Rattle.lp_spec_design.specs.Keys.{Name, Path, same_path, same_index, Node, Inner, Outer, Way, PortBit, Environment}
use Rattle.lp_spec_design.specs.Netlists.{Structure, first, module_at, indices, bits_named, is_input}
use Rattle.lp_spec_design.specs.Graph.{numbered, when, source_of, way_in}
use Rattle.lp_spec_design.specs.Reads.{name-true, name-self, path-true, path-self, one, other, both}
use Rattle.lp_spec_design.specs.Registers.{is_above}
use Rattle.lp_spec_design.specs.Winners.{IsIn}
use Rattle.lp_spec_design.specs.Intents.{Origin, FromPort, FromSwitch}
use Rattle.lp_spec_design.proofs.Members.{in-left, in-either, in-map, of-map, of-some}
use Rattle.lp_spec_design.proofs.Sources.{then_is}
use Rattle.lp_spec_realises.specs.Projects.{Project, network_of, port_of_origin}
use Rattle.lp_spec_realises.specs.Operators.{Placement}
use Rattle.lp_spec_realises.specs.Ends.{own_end}
use Rattle.lp_spec_written.specs.Places.{Switching}
use Rattle.lp_spec_written.specs.Supplies.{scalar, switch_net, switch_port, switch_of, has_port_of, is_used, goes_out, goes_in, home, port_by_kind, origin_port, joined_to, bits_by_kind}
use Rattle.lp_spec_written.specs.Routes.{Kind, PortOut, Between, PortIn, port_of_kind, control_port, control_ports, control_net, control_connections, parts_in}
use Rattle.lp_spec_written.specs.Written.{Additions, added_supply_ports}
use Rattle.lp_spec_hub.specs.Spots.{Carried, BySwitch, FromSpot}
use Rattle.lp_spec_hub.specs.Drives.{drive, drive_origin, drive_switch, port_from, switch_from, has_switch, toward}
use Rattle.lp_spec_hub.specs.Begins.{LeadsTo, ComesIn, IsWired}
use Rattle.lp_spec_wired.specs.Names.{name_by, node_at}
use Rattle.lp_spec_wired.specs.Contents.{IsWrittenAt}
use Rattle.lp_spec_wired.specs.Reserved.{LeavesNames}
use Rattle.lp_spec_wired.specs.Laws.{done_of, StandsFor, PortsComeDown, SwitchesComeDown}
use Rattle.lp_spec_wired.proofs.Added.{own-apart, switch-origin, control-origin}
use Rattle.lp_spec_wired.proofs.Lists.{first-behind, first-there, in-some, numbered-at, bits-there}
use Rattle.lp_spec_wired.proofs.Inputs.{is_input_named, is_scalar_named, top-input, outer-input}
use Rattle.lp_spec_wired.proofs.Down.{added_ports, added_connections, module-input, added-input}

of-when-is : {A : Type 0} (b : Bool) (x y : A) → when b x ≡ Some y → y ≡ x
of-when-is true x y e = cc
of-when-is false x y e = absurd cc

above-self : (q : Path) → is_above q q ≡ true
above-self [] = refl
above-self (i ∷ q) = ap (λ b. if b then true else is_above (i ∷ q) q) (path-self (i ∷ q))

-- ---- what added ports are

switch-name : (out into : Bool) (n : Name) (q : PortView) → (if out then Some (scalar n Output) else when into (scalar n Input)) ≡ Some q → q.name ≡ n
switch-name true into n q e = let is : q ≡ scalar n Output = cc in ap (λ (r : PortView). r.name) is
switch-name false into n q e = ap (λ (r : PortView). r.name) (of-when-is into (scalar n Input) q e)

part-name : (k : ℕ) (kind : Kind) (q : PortView) → port_of_kind k kind ≡ Some q → q.name ≡ control_net k
part-name k PortOut q e = let is : q ≡ scalar (control_net k) Output = cc in ap (λ (r : PortView). r.name) is
part-name k Between q e = absurd cc
part-name k PortIn q e = let is : q ≡ scalar (control_net k) Input = cc in ap (λ (r : PortView). r.name) is

module _ (p : Project) (a : Additions) where
  -- an input for a port origin, or a port for a switch
  kind-is : (x : Path) (o : ℕ) (kind : Origin) (q : PortView) → port_by_kind p a.plan a.uses x o kind ≡ Some q → (is_input q ≡ true) ⊎ ((s : Switching) × (q.name ≡ switch_net s))
  kind-is x o FromPort q e = inl (ap is_input (of-when-is (has_port_of a.uses o x) (scalar (port_of_origin p o) Input) q e))
  kind-is x o (FromSwitch input control high) q e =
      let found = then_is (λ (s : Switching). switch_port a.uses s x) (switch_of a.plan o) q e in
      inr (found.0, switch-name (goes_out a.uses found.0 x) (goes_in a.uses found.0 x) (switch_net found.0) q found.2)

  not-other : (n m : Name) (q : PortView) → bytes_eq m n ≡ false → q.name ≡ m → bytes_eq q.name n ≡ true → ⊥
  not-other n m q apart is e = both_ways (bytes_eq m n) apart (ap (λ k. bytes_eq k n) (sym is) ∙ e)

  origin-input : (x : Path) (o : ℕ) (q : PortView) → IsIn q (added_ports p a x) → bytes_eq q.name (port_of_origin p o) ≡ true → is_input q ≡ true
  origin-input x o q h e = elim (in-either q (added_supply_ports p a x) (control_ports a.controls x) h) [ inl l ↦ supply l | inr r ↦ control r ]
    where
      supply : IsIn q (added_supply_ports p a x) → is_input q ≡ true
      supply l =
          let found = of-some (origin_port p a.plan a.uses x) q (numbered 0 (network_of p).origins) l in
          elim (kind-is x found.0.0 found.0.1 q found.2) [ inl is ↦ is | inr s ↦ absurd (not-other (port_of_origin p o) (switch_net s.0) q (switch-origin p o s.0.number) s.1 e) ]

      control : IsIn q (control_ports a.controls x) → is_input q ≡ true
      control r =
          let found = of-some control_port q (parts_in a.controls x) r in
          absurd (not-other (port_of_origin p o) (control_net found.0.0) q (control-origin p o found.0.0) (part-name found.0.0 found.0.1.kind q found.2) e)

  -- the parent connects an added supply port to its own bit of that name
  pub supply-bits : (x y : Path) (q : PortView) → IsIn q (added_supply_ports p a y) → bits_named q.name (added_connections p a x y) ≡ NetBit q.name ∷ []
  supply-bits x y q h =
      bits-there q.name (NetBit q.name ∷ []) (map (λ (r : PortView). joined_to r.name (NetBit r.name ∷ [])) (added_supply_ports p a y)) (control_connections a.chains a.controls x y) (joined_to q.name (NetBit q.name ∷ []))
      (in-map (λ (r : PortView). joined_to r.name (NetBit r.name ∷ [])) q (added_supply_ports p a y) h)
      (name-self q.name)
      (λ d g e.
      let source = of-map (λ (r : PortView). joined_to r.name (NetBit r.name ∷ [])) d (added_supply_ports p a y) g in
      ap (λ (c : ConnectionView). c.bits) source.2 ∙ ap (λ k. NetBit k ∷ []) (name-true source.0.name q.name (ap (λ (c : ConnectionView). bytes_eq c.port q.name) (sym source.2) ∙ e)))

  module _ (w : Structure) (written : IsWrittenAt p a w) (free : LeavesNames p.structure) where
    -- ---- a port origin

    module _ (o : ℕ) (kind : slice_get (network_of p).origins o ≡ Some FromPort) where
      abbrev n : Name
      n = port_of_origin p o

      port-in : (x : Path) → has_port_of a.uses o x ≡ true → IsIn (scalar n Input) (added_supply_ports p a x)
      port-in x h = in-some (origin_port p a.plan a.uses x) (o, FromPort) (scalar n Input) (numbered 0 (network_of p).origins) (numbered-at (network_of p).origins o FromPort kind) (ap (λ b. when b (scalar n Input)) h)

      outer-side : (m : ModuleView) → module_at p.structure [] ≡ Some m → source_of w (Outer n None) ≡ Some Environment
      outer-side m e =
          let here = written.modules [] m e in
          let there = first-there (is_scalar_named n) (added_ports p a []) (scalar n Input) (in-left (scalar n Input) (added_supply_ports p a []) (control_ports a.controls []) (port-in [] refl)) (both (bytes_eq n n) true (name-self n) refl) in
          outer-input w n here.here there.0 here.is
          (ap (first (is_scalar_named n)) here.content.ports
          ∙ (first-behind (is_scalar_named n) m.ports (added_ports p a []) (λ q g. ap (λ b. b && list_any (same_index None) (indices q.range)) (own-apart q.name n (free.ports [] m q e g) refl))
          ∙ there.3))
          (origin-input [] o there.0 there.1 (one (bytes_eq there.0.name n) _ there.2))

      comes-in : (m : ModuleView) → module_at p.structure [] ≡ Some m → ComesIn p w o (Inner n None [])
      comes-in m e =
          let here = written.modules [] m e in
          record {
            leads = record {
              way = PortBit [] n None;
              source = top-input w n here.here here.is (ap (first (is_input_named n)) here.content.ports ∙ module-input p a free [] m e n refl (in-left (scalar n Input) (added_supply_ports p a []) (control_ports a.controls []) (port-in [] refl)));
            };
            starts = record { first = ap way_in (outer-side m e); own = ap (own_end (Outer n None)) (outer-side m e) };
          }

      goes-down : (i : Name) (x : Path) (m : ModuleView) → module_at p.structure (i ∷ x) ≡ Some m → has_port_of a.uses o (i ∷ x) ≡ true → LeadsTo w (Inner n None x) (Inner n None (i ∷ x))
      goes-down i x m e h = added-input p a free w written i x m e n refl (in-left (scalar n Input) (added_supply_ports p a (i ∷ x)) (control_ports a.controls (i ∷ x)) (port-in (i ∷ x) h)) (NetBit n) (supply-bits x (i ∷ x) (scalar n Input) (port-in (i ∷ x) h))

      module _ (at : Placement) (from : Way → Node) where
        named : (x : Path) → name_by p a (Carried o x) ≡ Inner n None x
        named x = ap (λ k. node_at x (bits_by_kind p o k (switch_of a.plan o))) kind

        driven : (x : Path) → drive p (done_of a) from (Carried o x) ≡ when (has_port_of a.uses o x) (port_from o x)
        driven x = ap (drive_origin (done_of a) a.uses o x) kind

        by-path : (x : Path) (m : ModuleView) → module_at p.structure x ≡ Some m → (b : Bool) → has_port_of a.uses o x ≡ b → IsWired p w at (name_by p a) (Carried o x) (when b (port_from o x))
        by-path x m e false is = tt
        by-path [] m e true is = subst (ComesIn p w o) (sym (named [])) (comes-in m e)
        by-path (i ∷ x) m e true is = subst (λ j. LeadsTo w j (name_by p a (Carried o (i ∷ x)))) (sym (named x)) (subst (LeadsTo w (Inner n None x)) (sym (named (i ∷ x))) (goes-down i x m e is))

        pub port-stands : (x : Path) (m : ModuleView) → module_at p.structure x ≡ Some m → StandsFor p a w at from (Carried o x)
        port-stands x m e = subst (IsWired p w at (name_by p a) (Carried o x)) (sym (driven x)) (by-path x m e (has_port_of a.uses o x) refl)

    -- ---- the output of a switch

    module _ (o input : ℕ) (control : Node) (high : Bool) (kind : slice_get (network_of p).origins o ≡ Some (FromSwitch input control high)) (s : Switching) (its : switch_of a.plan o ≡ Some s) where
      abbrev net : Name
      net = switch_net s

      not-above : (x : Path) → goes_in a.uses s x ≡ true → is_above x s.path ≡ false
      not-above x h = not-true _ (other (is_used a.uses s.asked.origin x) (not (is_above x s.path)) h)

      has-port : (x : Path) → goes_in a.uses s x ≡ true → switch_port a.uses s x ≡ Some (scalar net Input)
      has-port x h =
          ap (λ b. if (b && not (is_above x (home a.uses s))) then Some (scalar net Output) else when (goes_in a.uses s x) (scalar net Input)) (not-above x h)
          ∙ ap (λ b. when b (scalar net Input)) h

      switch-in : (x : Path) → goes_in a.uses s x ≡ true → IsIn (scalar net Input) (added_supply_ports p a x)
      switch-in x h =
          in-some (origin_port p a.plan a.uses x) (o, FromSwitch input control high) (scalar net Input) (numbered 0 (network_of p).origins) (numbered-at (network_of p).origins o (FromSwitch input control high) kind)
          (ap (λ v. option_and_then (λ (t : Switching). switch_port a.uses t x) v) its ∙ has-port x h)

      leads-down : (i : Name) (x : Path) (m : ModuleView) → module_at p.structure (i ∷ x) ≡ Some m → goes_in a.uses s (i ∷ x) ≡ true → LeadsTo w (Inner net None x) (Inner net None (i ∷ x))
      leads-down i x m e h = added-input p a free w written i x m e net refl (in-left (scalar net Input) (added_supply_ports p a (i ∷ x)) (control_ports a.controls (i ∷ x)) (switch-in (i ∷ x) h)) (NetBit net) (supply-bits x (i ∷ x) (scalar net Input) (switch-in (i ∷ x) h))

      module _ (at : Placement) (from : Way → Node) where
        net-named : (x : Path) → name_by p a (Carried o x) ≡ Inner net None x
        net-named x = ap (λ k. node_at x (bits_by_kind p o k (switch_of a.plan o))) kind ∙ ap (λ v. node_at x (bits_by_kind p o (Some (FromSwitch input control high)) v)) its

        not-scope : (x : Path) → is_above x s.path ≡ false → same_path x s.path ≡ false
        not-scope x h = by (same_path x s.path) refl
          where
            by : (b : Bool) → same_path x s.path ≡ b → b ≡ false
            by true is = absurd (both_ways (is_above x s.path) h (subst (λ y. is_above x y ≡ true) (path-true x s.path is) (above-self x)))
            by false is = refl

        either-has : (b c : Bool) → (b || (c || true)) ≡ true
        either-has true c = refl
        either-has false true = refl
        either-has false false = refl

        has : (x : Path) → goes_in a.uses s x ≡ true → has_switch a.uses s x ≡ true
        has x h = ap (λ b. same_path (home a.uses s) x || (goes_out a.uses s x || b)) h ∙ either-has (same_path (home a.uses s) x) (goes_out a.uses s x)

        parent-drives : (i : Name) (x : Path) → goes_in a.uses s (i ∷ x) ≡ true → switch_from o s.path (i ∷ x) ≡ FromSpot (Carried o x)
        parent-drives i x h =
            ap (λ b. if b then BySwitch o else FromSpot (Carried o (if is_above (i ∷ x) s.path then toward s.path (i ∷ x) else x))) (not-scope (i ∷ x) (not-above (i ∷ x) h))
            ∙ ap (λ b. FromSpot (Carried o (if b then toward s.path (i ∷ x) else x))) (not-above (i ∷ x) h)

        net-driven : (i : Name) (x : Path) → goes_in a.uses s (i ∷ x) ≡ true → drive p (done_of a) from (Carried o (i ∷ x)) ≡ Some (FromSpot (Carried o x))
        net-driven i x h =
            ap (drive_origin (done_of a) a.uses o (i ∷ x)) kind
            ∙ (ap (drive_switch a.uses o (i ∷ x)) its
            ∙ (ap (λ b. when b (switch_from o s.path (i ∷ x))) (has (i ∷ x) h)
            ∙ ap (λ d. Some d) (parent-drives i x h)))

        pub switch-stands : (i : Name) (x : Path) (m : ModuleView) → module_at p.structure (i ∷ x) ≡ Some m → goes_in a.uses s (i ∷ x) ≡ true → StandsFor p a w at from (Carried o (i ∷ x))
        switch-stands i x m e h =
            subst (IsWired p w at (name_by p a) (Carried o (i ∷ x))) (sym (net-driven i x h))
            (subst (λ j. LeadsTo w j (name_by p a (Carried o (i ∷ x)))) (sym (net-named x)) (subst (LeadsTo w (Inner net None x)) (sym (net-named (i ∷ x))) (leads-down i x m e h)))

pub ports-come-down : PortsComeDown
ports-come-down p a w at from written free o kind x m e = port-stands p a w written free o kind at from x m e

pub switches-come-down : SwitchesComeDown
switches-come-down p a w at from written free o input control high kind s its i x m e h = switch-stands p a w written free o input control high kind s its at from i x m e h
