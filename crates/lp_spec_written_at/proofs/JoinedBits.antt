-- So each bit that a netlist of the written content joins is declared.
use Rattle.std.proofs.Common.{◌≡◌, ℕ, zero, suc, true, not, ◌||◌, List, [], ◌∷◌, ◌++◌, map, Option, Some, None, inl, inr, refl, sym, ap, ◌∙◌, subst}
use Rattle.std.specs.Prelude.{filter, flat_map, is_some, slice_get, IsTrue}
use Rattle.std.specs.List.{list_all}
use Rattle.lp_model.specs.NetlistView.{BitView, NetBit, SelectBit, ConstBit, PortView, NetView, ConnectionView, InstanceView, AssignView, ModuleView}
use Rattle.lp_model.specs.LibraryView.{PinView, CellView}
use Rattle.lp_spec_design.specs.Keys.{Name, Path, same_path, Inner}
use Rattle.lp_spec_design.specs.Netlists.{Structure, module_named, cell_named, module_at, indices}
use Rattle.lp_spec_design.specs.Graph.{numbered, pairs, some_of}
use Rattle.lp_spec_design.specs.Instances.{Placed, children_in, children, below, module_instances, cells_of_target, cells_of, cells_in, cells_below, cell_instances}
use Rattle.lp_spec_design.specs.Intents.{Origin, FromPort, FromSwitch}
use Rattle.lp_spec_design.specs.Nodes.{nodes_in, connected_bits, joined_bits, IsDeclared, DeclaresBits}
use Rattle.lp_spec_design.specs.Winners.{IsIn}
use Rattle.lp_spec_design.specs.Reads.{path-true, node-self}
use Rattle.lp_spec_design.proofs.Members.{in-left, in-right, in-either, in-map, of-map, in-flat, of-flat, of-filter, of-some, of-when, of-pairs, of-numbered, any-in}
use Rattle.lp_spec_design.proofs.Sources.{then_is, first_in}
use Rattle.lp_spec_fit.specs.Fits.{one_output, is_iso_enable, is_switch_pin, retention_pins}
use Rattle.lp_spec_pins.specs.Pins.{input_for}
use Rattle.lp_spec_realises.specs.Projects.{Project, network_of}
use Rattle.lp_spec_realises.specs.ProjectNetlists.{is_known, is_declared, declares_its_bits}
use Rattle.lp_spec_realises.specs.Realises.{data_pin, control_of}
use Rattle.lp_spec_realises.specs.Implements.{Lists}
use Rattle.lp_spec_written.specs.Places.{Standing, Kept, Switching, plan, operator_names, switches_in}
use Rattle.lp_spec_written.specs.Nets.{Stretch, stretches, stretches_in, chain_net, Linked, linked, links, with_next, leads_constant, stood, by_names, led_bits, indices_named, led_connections, renamed, renamed_connections, renamed_assign, constant_assign}
use Rattle.lp_spec_written.specs.Supplies.{Use, uses_at, source_pins, operator_pins, switch_pins, kept_at, switch_of, switch_port, goes_out, goes_in, has_port_of, port_by_kind, origin_port, joined_to, origin_bits, supply_connections}
use Rattle.lp_spec_written.specs.Routes.{Part, parts_in, is_between, is_led_out, control_net, control_bits, some_control_bits, control_assign, control_assigns, control_connection, control_connections, enable_of}
use Rattle.lp_spec_written.specs.Written.{Additions, additions, added_supply_ports, retention_connections, written_module_instance, written_cell_instance, written_by_target, written_instance, at_pin, named_operators, written_operator, written_operators, written_switch, written_switches, written_instances, written_assigns, written_module}
use Rattle.lp_spec_wired.specs.Contents.{IsContent, IsWrittenAt}
use Rattle.lp_spec_written_at.specs.Sources.{IsFree, HasControls}
use Rattle.lp_spec_written_at.proofs.Lists.{of-all, all-of}
use Rattle.lp_spec_written_at.proofs.Modules.{from-modules, in-instances, cells-listed}
use Rattle.lp_spec_written_at.proofs.Paths.{source-at, of-instances, some-is}
use Rattle.lp_spec_written_at.proofs.SupplyNames.{of-when-is, by-way}
use Rattle.lp_spec_written_at.proofs.ControlNodes.{enable-good, control-good, register-strategy, switch-good, part-good}
use Rattle.lp_spec_written_at.proofs.Wiring.{at-numbered, on-its-way}
use Rattle.lp_spec_written_at.proofs.Homes.{port-parent, at-parent}
use Rattle.lp_spec_written_at.proofs.Declared.{by-names-in, IsBit, part-here, control-here, some-control-here, port-origin-here, switch-here, origin-here, source-joined, source-left, renamed-bit, led-bits, linked-here, constant-here}

-- ---- a cell instance is one of the source's

module _ (s : Structure) (x : Path) (m : ModuleView) (e : module_at s x ≡ Some m) (y : InstanceView) (h : IsIn y m.instances) (none : module_named s y.target ≡ None) (c : CellView) (is : cell_named s y.target ≡ Some c) where
  abbrev place : Placed
  place = record { path = x; instance = y.name }

  here-cell : (depth : ℕ) → IsIn place (cells_below s (suc depth) x)
  here-cell depth =
      subst (λ o. IsIn place (cells_in s (cells_below s depth) x o)) (sym e)
      (in-flat (cells_of s (cells_below s depth) x) y place m.instances h
      (subst (λ o. IsIn place (cells_of_target (cells_below s depth) x y.name o (cell_named s y.target))) (sym none)
      (subst (λ o. IsIn place (cells_of_target (cells_below s depth) x y.name None o)) (sym is) (inl refl))))

  below-cell : (depth : ℕ) (q : Path) → IsIn x (below s depth q) → IsIn place (cells_below s depth q)
  below-cell zero q g = absurd g
  below-cell (suc depth) q (inl at) = subst (λ z. IsIn place (cells_below s (suc depth) z)) at (here-cell depth)
  below-cell (suc depth) q (inr g) = let child = of-flat (below s depth) x (children s q) g in by (module_at s q) refl child.0 child.1 (below-cell depth child.0 child.2)
    where
      by : (o : Option ModuleView) → module_at s q ≡ o → (z : Path) → IsIn z (children_in s q o) → IsIn place (cells_below s depth z) → IsIn place (cells_below s (suc depth) q)
      by None f z r t = absurd r
      by (Some k) f z r t =
          let one = of-map (λ (i : InstanceView). i.name ∷ q) z (filter (λ (i : InstanceView). is_some (module_named s i.target)) k.instances) r in
          let kept = of-filter (λ (i : InstanceView). is_some (module_named s i.target)) one.0 k.instances one.1 in
          let inner = some-is (module_named s one.0.target) kept.1 in
          subst (λ o. IsIn place (cells_in s (cells_below s depth) q o)) (sym f)
          (in-flat (cells_of s (cells_below s depth) q) one.0 place k.instances kept.0
          (subst (λ o. IsIn place (cells_of_target (cells_below s depth) q one.0.name o (cell_named s one.0.target))) (sym inner.1) (subst (λ v. IsIn place (cells_below s depth v)) one.2 t)))

known-cell : (s : Structure) (y : InstanceView) → is_known s y ≡ true → module_named s y.target ≡ None → is_some (cell_named s y.target) ≡ true
known-cell s y k none = ap (λ o. is_some o || is_some (cell_named s y.target)) (sym none) ∙ k

-- ---- connections

of-at-pin : (o : Option PinView) (bits : List BitView) (c : ConnectionView) (b : BitView) → IsIn c (at_pin o bits) → IsIn b c.bits → IsIn b bits
of-at-pin None bits c b h g = absurd h
of-at-pin (Some q) bits c b (inl is) g = subst (λ (d : ConnectionView). IsIn b d.bits) is g
of-at-pin (Some q) bits c b (inr h) g = absurd h

single : (b c : BitView) → IsIn b (c ∷ []) → b ≡ c
single b c (inl is) = is
single b c (inr h) = absurd h

module _ (p : Project) (l : Lists) (f : IsFree p) (d : DeclaresBits p.structure) (has : HasControls p) (x : Path) (m : ModuleView) (e : module_at p.structure x ≡ Some m) where
  abbrev a : Additions
  a = additions p l

  abbrev chains : List Stretch
  chains = stretches p (plan p l)

  abbrev Good : BitView → Type 0
  Good b = IsBit p l x m e b

  -- ---- supplies

  supply-good : (pins : List (Name × ℕ)) → ((q : Name × ℕ) → IsIn q pins → IsIn (x, q.1) a.uses) → (c : ConnectionView) (b : BitView) → IsIn c (supply_connections p a.plan pins) → IsIn b c.bits → Good b
  supply-good pins used c b h g =
      let one = of-map (λ (q : Name × ℕ). joined_to q.0 (origin_bits p a.plan q.1)) c pins h in
      origin-here p l x m e one.0.1 (used one.0 one.1) b (subst (λ (z : ConnectionView). IsIn b z.bits) one.2 g)

  abbrev of_cells : List Use
  of_cells = flat_map (λ (c : Placed). uses_at c.path (source_pins p a.plan c)) (cell_instances p.structure)

  abbrev of_operators : List Use
  of_operators = flat_map (λ (o : Standing). uses_at o.path (operator_pins p o)) a.plan.operators

  abbrev of_switches : List Use
  of_switches = flat_map (λ (w : Switching). uses_at w.path (switch_pins p w)) a.plan.switches

  in-use : (y : Path) (pins : List (Name × ℕ)) (q : Name × ℕ) → y ≡ x → IsIn q pins → IsIn (x, q.1) (uses_at y pins)
  in-use y pins q is h = subst (λ z. IsIn (z, q.1) (uses_at y pins)) is (in-map (λ (r : Name × ℕ). (y, r.1)) q pins h)

  -- ---- module instances of the source

  module _ (y : InstanceView) (h : IsIn y m.instances) where
    abbrev z : Path
    z = y.name ∷ x

    led-good : (inner : ModuleView) (c : ConnectionView) (b : BitView) → IsIn c (led_connections chains x z inner.ports y.connections) → IsIn b c.bits → Good b
    led-good inner c b g r =
        let one = of-map (λ (k : ConnectionView). record k { bits = led_bits chains x z k.port (indices_named inner.ports k.port) k.bits }) c (by_names inner.ports y.connections) g in
        led-bits p l x m e d y.name one.0.port (indices_named inner.ports one.0.port) one.0.bits
        (λ v t. source-joined p l x m e d y h v (by-names-in inner.ports y.connections one.0 v one.1 t)) b (subst (λ (k : ConnectionView). IsIn b k.bits) one.2 r)

    origin-good : (o : ℕ) (k : Origin) (q : PortView) → slice_get (network_of p).origins o ≡ Some k → port_by_kind p a.plan a.uses z o k ≡ Some q → Good (NetBit q.name)
    origin-good o FromPort q is g =
        subst (λ n. Good (NetBit n)) (ap (λ (r : PortView). r.name) (sym (of-when-is (has_port_of a.uses o z) _ q g)))
        (port-origin-here p l x m e o is (port-parent a.uses o y.name x (of-when (has_port_of a.uses o z) _ q g)))
    origin-good o (FromSwitch input control high) q is g =
        let found = then_is (λ (w : Switching). switch_port a.uses w z) (switch_of a.plan o) q g in
        let port = by-way p a x (goes_out a.uses found.0 z) (goes_in a.uses found.0 z) found.0 q found.2 in
        subst (λ n. Good (NetBit n)) (sym port.0) (switch-here p l x m e o input control high found.0 is found.1 (at-parent a.uses found.0 y.name x port.1))

    port-good : (c : ConnectionView) (b : BitView) → IsIn c (map (λ (q : PortView). joined_to q.name (NetBit q.name ∷ [])) (added_supply_ports p a z)) → IsIn b c.bits → Good b
    port-good c b g r =
        let one = of-map (λ (q : PortView). joined_to q.name (NetBit q.name ∷ [])) c (added_supply_ports p a z) g in
        let two = of-some (origin_port p a.plan a.uses z) one.0 (numbered 0 (network_of p).origins) one.1 in
        subst Good (sym (single b (NetBit one.0.name) (subst (λ (k : ConnectionView). IsIn b k.bits) one.2 r)))
        (origin-good two.0.0 two.0.1 one.0 (at-numbered (network_of p).origins two.0 two.1) two.2)

    led-control : (c : ConnectionView) (b : BitView) → IsIn c (control_connections chains a.controls x z) → IsIn b c.bits → Good b
    led-control c b g r =
        let one = of-some (control_connection chains a.controls x) c (parts_in a.controls z) g in
        let part = of-filter (λ (t : Part). same_path t.path z) one.0.1 a.controls (of-numbered 0 one.0 (filter (λ (t : Part). same_path t.path z) a.controls) one.1) in
        let is = of-when-is (not (is_between one.0.1)) (joined_to (control_net one.0.0) (control_bits chains a.controls x one.0.1.control)) c one.2 in
        control-here p l x m e one.0.1.control (part-good p has l one.0.1 part.0) b (subst (λ (k : ConnectionView). IsIn b k.bits) is r)

    module-good : (inner : ModuleView) (b : BitView) → IsIn b (connected_bits (written_module_instance p a x y inner).connections) → Good b
    module-good inner b g =
        let own = led_connections chains x z inner.ports y.connections in
        let ports = map (λ (q : PortView). joined_to q.name (NetBit q.name ∷ [])) (added_supply_ports p a z) in
        let controls = control_connections chains a.controls x z in
        let c = of-flat (λ (k : ConnectionView). k.bits) b (own ++ (ports ++ controls)) g in
        elim (in-either c.0 own (ports ++ controls) c.1) [
          | inl one ↦ led-good inner c.0 b one c.2
          | inr more ↦ elim (in-either c.0 ports controls more) [ inl two ↦ port-good c.0 b two c.2 | inr three ↦ led-control c.0 b three c.2 ]
        ]

    -- ---- cell instances of the source

    abbrev cell_place : Placed
    cell_place = record { path = x; instance = y.name }

    renamed-good : (c : ConnectionView) (b : BitView) → IsIn c (renamed_connections chains x y.connections) → IsIn b c.bits → Good b
    renamed-good c b g r =
        let one = of-map (λ (k : ConnectionView). record k { bits = map (renamed chains x) k.bits }) c (by_names [] y.connections) g in
        let old = of-map (renamed chains x) b one.0.bits (subst (λ (k : ConnectionView). IsIn b k.bits) one.2 r) in
        subst Good (sym old.2) (renamed-bit p l x m e d old.0 (source-joined p l x m e d y h old.0 (by-names-in [] y.connections one.0 old.0 one.1 old.1)))

    retained-good : (k : Kept) → IsIn k a.plan.registers → (c : ConnectionView) (b : BitView) → IsIn c (retention_connections a x (Some k)) → IsIn b c.bits → Good b
    retained-good k listed c b g r =
        let one = of-map (λ (q : PinView). joined_to q.name (some_control_bits chains a.controls x (control_of k.strategy q.use_of))) c (retention_pins k.cell) g in
        some-control-here p l x m e (control_of k.strategy one.0.use_of) (λ n t. control-good p has k.strategy one.0.use_of n (register-strategy p has l k listed) t) b
        (subst (λ (v : ConnectionView). IsIn b v.bits) one.2 r)

    retention-good : (o : Option Kept) → kept_at a.plan cell_place ≡ o → (c : ConnectionView) (b : BitView) → IsIn c (retention_connections a x o) → IsIn b c.bits → Good b
    retention-good None is c b g r = absurd g
    retention-good (Some k) is c b g r = retained-good k (first_in _ a.plan.registers k is).0 c b g r

    cell-good : module_named p.structure y.target ≡ None → (b : BitView) → IsIn b (connected_bits (written_cell_instance p a x y).connections) → Good b
    unfolding cell_instances module_instances
    cell-good none b g =
        let own = renamed_connections chains x y.connections in
        let kept = retention_connections a x (kept_at a.plan cell_place) in
        let supplies = supply_connections p a.plan (source_pins p a.plan cell_place) in
        let c = of-flat (λ (k : ConnectionView). k.bits) b (own ++ (kept ++ supplies)) g in
        elim (in-either c.0 own (kept ++ supplies) c.1) [
          | inl one ↦ renamed-good c.0 b one c.2
          | inr more ↦ elim (in-either c.0 kept supplies more) [
            | inl two ↦ retention-good (kept_at a.plan cell_place) refl c.0 b two c.2
            | inr three ↦ supply-good (source_pins p a.plan cell_place) used c.0 b three c.2
          ]
        ]
      where
        listed : IsIn cell_place (cell_instances p.structure)
        listed =
            let there = from-modules p.structure x m e in
            let known = of-all (is_known p.structure) y m.instances (of-all (λ (k : ModuleView). list_all (is_known p.structure) k.instances) m p.structure.modules f.known there) h in
            let c = some-is (cell_named p.structure y.target) (known-cell p.structure y known none) in
            below-cell p.structure x m e y h none c.0 c.1 64 [] (in-instances p a f (cells-listed p l) x m e)

        used : (q : Name × ℕ) → IsIn q (source_pins p a.plan cell_place) → IsIn (x, q.1) a.uses
        used q t =
            in-left (x, q.1) of_cells (of_operators ++ of_switches)
            (in-flat (λ (c : Placed). uses_at c.path (source_pins p a.plan c)) cell_place (x, q.1) (cell_instances p.structure) listed (in-use x (source_pins p a.plan cell_place) q refl t))

    source-good : (b : BitView) → IsIn b (connected_bits (written_instance p a x y).connections) → Good b
    source-good b g = by (module_named p.structure y.target) refl g
      where
        by : (o : Option ModuleView) → module_named p.structure y.target ≡ o → IsIn b (connected_bits (written_by_target p a x y o).connections) → Good b
        by (Some inner) is r = module-good inner b r
        by None is r = cell-good is b r

  -- ---- operators

  operator-good : (y : Name × Linked) → IsIn y (named_operators (linked p chains x)) → (b : BitView) → IsIn b (connected_bits (written_operator p a x y).connections) → Good b
  operator-good y h b g =
      let o = y.1.0 in
      let pair = of-pairs y (operator_names 0 0 (map (λ (z : Linked). z.0.asked.operator) (linked p chains x))) (linked p chains x) h in
      let reads = at_pin (data_pin o.asked.operator o.cell) y.1.1.0 in
      let enable = at_pin (input_for is_iso_enable o.cell) (some_control_bits chains a.controls x (enable_of p o.asked.operator)) in
      let drives = at_pin (one_output o.cell) y.1.1.1 in
      let supplies = supply_connections p a.plan (operator_pins p o) in
      let c = of-flat (λ (k : ConnectionView). k.bits) b (reads ++ (enable ++ (drives ++ supplies))) g in
      elim (in-either c.0 reads (enable ++ (drives ++ supplies)) c.1) [
        | inl one ↦ linked-here p l x m e d y.1 pair.1 b (inl (of-at-pin (data_pin o.asked.operator o.cell) y.1.1.0 c.0 b one c.2))
        | inr r ↦ elim (in-either c.0 enable (drives ++ supplies) r) [
          | inl two ↦
              some-control-here p l x m e (enable_of p o.asked.operator) (λ n t. enable-good p has o.asked.operator n t) b
              (of-at-pin (input_for is_iso_enable o.cell) (some_control_bits chains a.controls x (enable_of p o.asked.operator)) c.0 b two c.2)
          | inr q ↦ elim (in-either c.0 drives supplies q) [
            | inl three ↦ linked-here p l x m e d y.1 pair.1 b (inr (of-at-pin (one_output o.cell) y.1.1.1 c.0 b three c.2))
            | inr four ↦ supply-good (operator_pins p o) (used o (stands y.1 pair.1)) c.0 b four c.2
          ]
        ]
      ]
    where
      stands : (z : Linked) → IsIn z (linked p chains x) → IsIn z.0 a.plan.operators × (z.0.path ≡ x)
      stands z r =
          let s = of-flat (λ (s : Stretch). pairs s.operators (with_next (links p chains s))) z (stretches_in chains x) r in
          let kept = of-filter (λ (t : Stretch). same_path t.path x) s.0 chains s.1 in
          let its = on-its-way p (plan p l) s.0 kept.0 z.0 (of-pairs z s.0.operators (with_next (links p chains s.0)) s.2).0 in
          ((of-filter _ z.0 a.plan.operators its.0).0, its.1 ∙ path-true s.0.path x kept.1)

      used : (o : Standing) → IsIn o a.plan.operators × (o.path ≡ x) → (q : Name × ℕ) → IsIn q (operator_pins p o) → IsIn (x, q.1) a.uses
      used o at q t =
          in-right (x, q.1) of_cells (of_operators ++ of_switches)
          (in-left (x, q.1) of_operators of_switches (in-flat (λ (r : Standing). uses_at r.path (operator_pins p r)) o (x, q.1) a.plan.operators at.0 (in-use o.path (operator_pins p o) q at.1 t)))

  -- ---- switches

  written-switch-good : (y : ℕ × Switching) → IsIn y (numbered 0 (switches_in a.plan x)) → (b : BitView) → IsIn b (connected_bits (written_switch p a x y).connections) → Good b
  written-switch-good y h b g =
      let kept = of-filter (λ (w : Switching). same_path w.path x) y.1 a.plan.switches (of-numbered 0 y (switches_in a.plan x) h) in
      let control = at_pin (input_for is_switch_pin y.1.cell) (control_bits chains a.controls x y.1.asked.control) in
      let supplies = supply_connections p a.plan (switch_pins p y.1) in
      let c = of-flat (λ (k : ConnectionView). k.bits) b (control ++ supplies) g in
      elim (in-either c.0 control supplies c.1) [
        | inl one ↦
            control-here p l x m e y.1.asked.control (switch-good p has l y.1 kept.0) b
            (of-at-pin (input_for is_switch_pin y.1.cell) (control_bits chains a.controls x y.1.asked.control) c.0 b one c.2)
        | inr two ↦ supply-good (switch_pins p y.1) (used (path-true y.1.path x kept.1) kept.0) c.0 b two c.2
      ]
    where
      used : y.1.path ≡ x → IsIn y.1 a.plan.switches → (q : Name × ℕ) → IsIn q (switch_pins p y.1) → IsIn (x, q.1) a.uses
      used is at q t =
          in-right (x, q.1) of_cells (of_operators ++ of_switches)
          (in-right (x, q.1) of_operators of_switches (in-flat (λ (w : Switching). uses_at w.path (switch_pins p w)) y.1 (x, q.1) a.plan.switches at (in-use y.1.path (switch_pins p y.1) q is t)))

  -- ---- all of a module

  pub instance-good : (y : InstanceView) → IsIn y (written_instances p a x m) → (b : BitView) → IsIn b (connected_bits y.connections) → Good b
  instance-good y h b g = elim (in-either y (map (written_instance p a x) m.instances) (written_operators p a x ++ written_switches p a x) h) [
    | inl own ↦ let one = of-map (written_instance p a x) y m.instances own in source-good one.0 one.1 b (subst (λ (z : InstanceView). IsIn b (connected_bits z.connections)) one.2 g)
    | inr new ↦ elim (in-either y (written_operators p a x) (written_switches p a x) new) [
      | inl o ↦ let one = of-map (written_operator p a x) y (named_operators (linked p chains x)) o in operator-good one.0 one.1 b (subst (λ (z : InstanceView). IsIn b (connected_bits z.connections)) one.2 g)
      | inr s ↦ let one = of-map (written_switch p a x) y (numbered 0 (switches_in a.plan x)) s in written-switch-good one.0 one.1 b (subst (λ (z : InstanceView). IsIn b (connected_bits z.connections)) one.2 g)
    ]
  ]

  pub assign-good : (q : AssignView) → IsIn q (written_assigns p a x m) → (b : BitView) → IsIn b q.left → Good b
  assign-good q h b g = elim (in-either q (map (renamed_assign chains x) m.assigns) (constants ++ controls) h) [
    | inl own ↦
        let one = of-map (renamed_assign chains x) q m.assigns own in
        let bit = of-map (renamed chains x) b one.0.left (subst (λ (z : AssignView). IsIn b z.left) one.2 g) in
        subst Good (sym bit.2) (renamed-bit p l x m e d bit.0 (source-left p l x m e d one.0 one.1 bit.0 bit.1))
    | inr new ↦ elim (in-either q constants controls new) [
      | inl c ↦
          let one = of-some (constant_assign p) q (stretches_in chains x) c in
          let is = of-when-is (leads_constant p.structure one.0.path one.0.bit) (record { left = NetBit (chain_net one.0.start) ∷ []; right = stood p.structure one.0.bit }) q one.2 in
          subst Good (sym (single b (NetBit (chain_net one.0.start)) (subst (λ (z : AssignView). IsIn b z.left) is g))) (constant-here p l x m e d one.0 one.1)
      | inr c ↦
          let one = of-some (control_assign chains a.controls x) q (parts_in a.controls x) c in
          let is = of-when-is (is_led_out a.controls x one.0.1) (record { left = NetBit (control_net one.0.0) ∷ []; right = control_bits chains a.controls x one.0.1.control }) q one.2 in
          subst Good (sym (single b (NetBit (control_net one.0.0)) (subst (λ (z : AssignView). IsIn b z.left) is g))) (part-here p l x m e one.0 one.1)
    ]
  ]
    where
      constants : List AssignView
      constants = some_of (constant_assign p) (stretches_in chains x)

      controls : List AssignView
      controls = control_assigns chains a.controls x

-- ---- a netlist of the content

module _ (p : Project) (l : Lists) (w : Structure) (f : IsFree p) (d : DeclaresBits p.structure) (has : HasControls p) (is : IsWrittenAt p (additions p l) w) where
  nodes-same : (x : Path) (h k : ModuleView) → h.ports ≡ k.ports → h.nets ≡ k.nets → nodes_in x (Some h) ≡ nodes_in x (Some k)
  nodes-same x h k ports nets =
      ap (λ (qs : List PortView). flat_map (λ (q : PortView). map (λ i. Inner q.name i x) (indices q.range)) qs ++ flat_map (λ (n : NetView). map (λ i. Inner n.name i x) (indices n.range)) h.nets) ports
      ∙ ap (λ (ns : List NetView). flat_map (λ (q : PortView). map (λ i. Inner q.name i x) (indices q.range)) k.ports ++ flat_map (λ (n : NetView). map (λ i. Inner n.name i x) (indices n.range)) ns) nets

  moved : (x : Path) (h k : ModuleView) → nodes_in x (Some h) ≡ nodes_in x (Some k) → (b : BitView) → IsDeclared x h b → IsDeclared x k b
  moved x h k same (NetBit n) g = subst (λ ns. IsIn (Inner n None x) ns) same g
  moved x h k same (SelectBit n i) g = subst (λ ns. IsIn (Inner n (Some i) x) ns) same g
  moved x h k same (ConstBit c) g = tt

  written-bit : (x : Path) (m : ModuleView) (e : module_at p.structure x ≡ Some m) (h : ModuleView) → IsContent w x (written_module p (additions p l) x m) h → (b : BitView) → IsIn b (joined_bits h) → IsBit p l x m e b
  written-bit x m e h content b g = elim (in-either b (flat_map (λ (y : InstanceView). connected_bits y.connections) h.instances) (flat_map (λ (q : AssignView). q.left) h.assigns) g) [
    | inl i ↦
        let y = of-flat (λ (y : InstanceView). connected_bits y.connections) b h.instances i in
        let one = of-instances w x (written_instances p (additions p l) x m) h.instances content.instances y.0 y.1 in
        instance-good p l f d has x m e one.written one.among b (subst (λ cs. IsIn b (connected_bits cs)) one.is.connections y.2)
    | inr s ↦
        let q = of-flat (λ (q : AssignView). q.left) b h.assigns s in
        assign-good p l f d has x m e q.0 (subst (λ qs. IsIn q.0 qs) content.assigns q.1) b q.2
  ]

  pub content-declares : DeclaresBits w
  content-declares = record {
    declared = λ x h b at g.
        let of = source-at p (additions p l) w f is x h at in
        moved x (written_module p (additions p l) x of.0) h (sym (nodes-same x h (written_module p (additions p l) x of.0) of.2.ports of.2.nets)) b (written-bit x of.0 of.1 h of.2 b g);
    shallow = λ x long. is.none x (f.shallow x long);
  }

-- ---- as a test

declared-test : (x : Path) (m : ModuleView) (b : BitView) → IsDeclared x m b → is_declared x (nodes_in x (Some m)) b ≡ true
declared-test x m (NetBit n) h = any-in _ (Inner n None x) (nodes_in x (Some m)) h (node-self (Inner n None x))
declared-test x m (SelectBit n i) h = any-in _ (Inner n (Some i) x) (nodes_in x (Some m)) h (node-self (Inner n (Some i) x))
declared-test x m (ConstBit c) h = refl

pub declares-by-test : (w : Structure) → DeclaresBits w → IsTrue (list_all (λ x. declares_its_bits x (module_at w x)) (module_instances w))
declares-by-test w d = all-of (λ x. declares_its_bits x (module_at w x)) (module_instances w) (λ x h. by x (module_at w x) refl)
  where
    by : (x : Path) (o : Option ModuleView) → module_at w x ≡ o → declares_its_bits x o ≡ true
    by x None e = refl
    by x (Some m) e = all-of (is_declared x (nodes_in x (Some m))) (joined_bits m) (λ b h. declared-test x m b (d.declared x m b e h))
