-- Where the names in the instances of a written module come from: the source, the cells that are added, and the ports that are added.
use Rattle.std.proofs.Common.{◌≡◌, ◌⊎◌, ◌&&◌, ℕ, Bool, true, false, not, List, [], ◌∷◌, ◌++◌, map, Option, Some, None, inl, inr, refl, sym, ap, ◌∙◌, subst}
use Rattle.std.specs.Prelude.{filter, is_some, option_and_then}
use Rattle.std.proofs.lemmas.Bool.{false≢true}
use Rattle.lp_model.specs.declared.netlist.Direction.TheVariants.{Input, Output}
use Rattle.lp_model.specs.NetlistView.{BitView, NetBit, PortView, ConnectionView, ConnectionsView, ByName, ByPosition, InstanceView, ModuleView}
use Rattle.lp_model.specs.LibraryView.{PgPinView, PinView, CellView}
use Rattle.lp_vwrite.specs.WellFormed.{instance_texts, module_texts}
use Rattle.lp_spec_design.specs.Keys.{Name, Path}
use Rattle.lp_spec_design.specs.Netlists.{Structure, module_at, module_named, instance_named, cell_named}
use Rattle.lp_spec_design.specs.Instances.{Placed}
use Rattle.lp_spec_design.specs.Graph.{numbered, pairs, when, is_output_pin}
use Rattle.lp_spec_design.specs.Winners.{IsIn}
use Rattle.lp_spec_design.proofs.Members.{in-left, in-right, in-either, in-map, of-map, of-flat, of-filter, of-some, of-pairs, of-numbered}
use Rattle.lp_spec_design.proofs.Sources.{then_is, first_in}
use Rattle.lp_spec_pins.specs.Pins.{is_input_pin, is_data, only, input_for}
use Rattle.lp_spec_fit.specs.Fits.{one_output, is_iso_data, is_iso_enable, is_switch_pin, is_retention_pin, retention_pins}
use Rattle.lp_spec_fit.specs.Joins.{Joins}
use Rattle.lp_spec_realises.specs.Projects.{Project}
use Rattle.lp_spec_realises.specs.Realises.{cell_of, data_pin, joins_of_source, joins_of_operator, joins_of_switch}
use Rattle.lp_spec_realises.specs.Implements.{Lists}
use Rattle.lp_spec_agreement.proofs.Apart.{instance_found}
use Rattle.lp_spec_agreement.proofs.Framed.{cell_in}
use Rattle.lp_spec_faultless.specs.Faults.{IsRead}
use Rattle.lp_spec_written.specs.Places.{Kept, Switching, operator_names, switches_in}
use Rattle.lp_spec_written.specs.Nets.{stretches_in, with_next, links, Linked, linked, by_names, led_bits, indices_named, led_connections, renamed, renamed_connections, Stretch}
use Rattle.lp_spec_written.specs.Supplies.{joined_pins, or_cell, kept_at, cell_for, pins_of_cell, source_pins, operator_pins, switch_pins, scalar, supply_ports, joined_to, origin_bits, supply_connections}
use Rattle.lp_spec_written.specs.Routes.{Kind, PortOut, Between, PortIn, Part, parts_in, control_net, control_port, port_of_kind, control_ports, is_between, same_part_kind, control_bits, some_control_bits, enable_of, control_connection, control_connections}
use Rattle.lp_spec_realises.specs.Realises.{control_of}
use Rattle.lp_spec_design.specs.Chains.{Operator, Clamp, Shift}
use Rattle.lp_spec_written.specs.Written.{Additions, additions, added_supply_ports, written_module_instance, kept_target, retention_connections, written_cell_instance, written_by_target, written_instance, at_pin, named_operators, written_operator, written_operators, written_switch, written_switches, written_instances}
use Rattle.lp_spec_written_at.specs.Sources.{IsListed, connections_of, cell_names}
use Rattle.lp_spec_written_at.proofs.Lists.{in-some}
use Rattle.lp_spec_written_at.proofs.Modules.{from-modules, cells-listed}
use Rattle.lp_spec_written_at.proofs.Paths.{source-by-names}
use Rattle.lp_spec_proper.specs.Insertable.{IsInsertable, IsWithinLimits}
use Rattle.lp_spec_proper.proofs.Free.{ready}
use Rattle.lp_spec_proper.proofs.Cells.{source-cell}
use Rattle.lp_spec_legal.proofs.Texts.{port-text, instance-text, connection-text}

is-when : {A : Type 0} (b : Bool) (x y : A) → when b x ≡ Some y → (b ≡ true) × (y ≡ x)
is-when true x y e = let is : y ≡ x = cc in (refl, is)
is-when false x y e = absurd cc

of-only : {A : Type 0} (xs : List A) (x : A) → only xs ≡ Some x → IsIn x xs
of-only [] x e = absurd cc
of-only (y ∷ []) x e = let is : y ≡ x = cc in inl (sym is)
of-only (y ∷ z ∷ rest) x e = absurd cc

input-in : (t : PinView → Bool) (c : CellView) (q : PinView) → input_for t c ≡ Some q → IsIn q c.pins
input-in t c q e = (of-filter (λ z. is_input_pin z && t z) q c.pins (of-only (filter (λ z. is_input_pin z && t z) c.pins) q e)).0

output-in : (c : CellView) (q : PinView) → one_output c ≡ Some q → IsIn q c.pins
output-in c q e = (of-filter is_output_pin q c.pins (of-only (filter is_output_pin c.pins) q e)).0

data-in : (o : Operator) (c : CellView) (q : PinView) → data_pin o c ≡ Some q → IsIn q c.pins
data-in (Clamp t i) c q e = input-in is_iso_data c q e
data-in (Shift t a b) c q e = input-in is_data c q e

of-pin : (o : Option PinView) (bits : List BitView) (c : ConnectionView) → IsIn c (at_pin o bits) → (q : PinView) × (o ≡ Some q) × (c.port ≡ q.name)
of-pin None bits c h = absurd h
of-pin (Some q) bits c (inl is) = (q, refl, ap (λ (d : ConnectionView). d.port) is)
of-pin (Some q) bits c (inr h) = absurd h

-- a power or ground pin that is joined is one of the cell
joined-in : (c : CellView) (o : Option Joins) (z : Name × ℕ) → IsIn z (joined_pins c o) → IsIn z.0 (map (λ (g : PgPinView). g.name) c.pgs)
joined-in c None z h = absurd h
joined-in c (Some join) z h =
    let g = of-some (λ g. option_and_then (λ o. Some (g.1.name, o)) (join g.0 g.1)) z (numbered 0 c.pgs) h in
    let o = then_is (λ o. Some (g.0.1.name, o)) (join g.0.0 g.0.1) z g.2 in
    let same : Some (g.0.1.name, o.0) ≡ Some z = o.2 in
    let is : (g.0.1.name, o.0) ≡ z = cc in
    subst (λ n. IsIn n (map (λ (r : PgPinView). r.name) c.pgs)) (ap (λ (v : Name × ℕ). v.0) is) (in-map (λ (r : PgPinView). r.name) g.0.1 c.pgs (of-numbered 0 g.0 c.pgs g.1))

module _ (p : Project) (l : Lists) (switch_command : ℕ → ℕ) (read : IsRead p) (good : IsInsertable p l switch_command) (within : IsWithinLimits p l) where
  abbrev a : Additions
  a = additions p l

  abbrev s : Structure
  s = p.structure

  -- what holds of the names of the source, of cells that can be used and their pins, and of ports that are added
  pub record HoldsOfNames (P : Name → Type 0) : Type 0 where
    pub source : (m : ModuleView) → IsIn m p.structure.modules → (t : Name) → IsIn t (module_texts m) → P t
    pub cells : (c : CellView) → IsListed p c → (t : Name) → IsIn t (c.name ∷ cell_names c) → P t
    pub ports : (x : Path) (m : ModuleView) → module_at p.structure x ≡ Some m → (q : PortView) → IsIn q (supply_ports p (additions p l).plan (additions p l).uses x ++ control_ports (additions p l).controls x) → P q.name

  module _ (P : Name → Type 0) (holds : HoldsOfNames P) where
    of-signal : (c : CellView) → IsListed p c → (q : PinView) → IsIn q c.pins → P q.name
    of-signal c listed q h =
        holds.cells c listed q.name
        (inr (in-left q.name (map (λ (r : PinView). r.name) c.pins) (map (λ (r : PgPinView). r.name) c.pgs) (in-map (λ (r : PinView). r.name) q c.pins h)))

    of-supply : (c : CellView) → IsListed p c → (o : Option Joins) → (d : ConnectionView) → IsIn d (supply_connections p a.plan (joined_pins c o)) → P d.port
    of-supply c listed o d h =
        let z = of-map (λ (q : Name × ℕ). joined_to q.0 (origin_bits p a.plan q.1)) d (joined_pins c o) h in
        subst P (sym (ap (λ (k : ConnectionView). k.port) z.2))
        (holds.cells c listed z.0.0 (inr (in-right z.0.0 (map (λ (r : PinView). r.name) c.pins) (map (λ (r : PgPinView). r.name) c.pgs) (joined-in c o z.0 z.1))))

    of-input : (t : PinView → Bool) (c : CellView) → IsListed p c → (bits : List BitView) (d : ConnectionView) → IsIn d (at_pin (input_for t c) bits) → P d.port
    of-input t c listed bits d h = let q = of-pin (input_for t c) bits d h in subst P (sym q.2) (of-signal c listed q.0 (input-in t c q.0 q.1))

    module _ (x : Path) (m : ModuleView) (e : module_at s x ≡ Some m) where
      there : IsIn m s.modules
      there = from-modules s x m e

      -- ---- what the source connects

      module _ (y : InstanceView) (h : IsIn y m.instances) where
        own-text : (t : Name) → IsIn t (instance_texts y) → P t
        own-text t g = holds.source m there t (instance-text m y h t g)

        -- an ordered connection is named by a port
        of-source : (ports : List PortView) → ((q : PortView) → IsIn q ports → P q.name) → (d : ConnectionView) → IsIn d (by_names ports y.connections) → P d.port
        of-source ports named d g = by y.connections refl g
          where
            by : (cs : ConnectionsView) → y.connections ≡ cs → IsIn d (by_names ports cs) → P d.port
            by (ByName cs) is r = own-text d.port (connection-text y cs is d r)
            by (ByPosition values) is r =
                let z = of-map (λ (z : PortView × List BitView). record { port = z.0.name; bits = z.1 }) d (pairs ports values) r in
                subst P (sym (ap (λ (k : ConnectionView). k.port) z.2)) (named z.0.0 (of-pairs z.0 ports values z.1).0)

        -- ---- an instance of a module

        module _ (inner : ModuleView) (is : module_named s y.target ≡ Some inner) where
          abbrev z : Path
          z = y.name ∷ x

          below : module_at s (y.name ∷ x) ≡ Some inner
          below = sym (source-by-names p (ready p l switch_command read good within).free x m y e h) ∙ is

          of-led : (d : ConnectionView) → IsIn d (led_connections a.chains x z inner.ports y.connections) → P d.port
          of-led d g =
              let k = of-map (λ (k : ConnectionView). record k { bits = led_bits a.chains x z k.port (indices_named inner.ports k.port) k.bits }) d (by_names inner.ports y.connections) g in
              subst P (sym (ap (λ (v : ConnectionView). v.port) k.2))
              (of-source inner.ports (λ q r. holds.source inner (from-modules s z inner below) q.name (port-text inner q r)) k.0 k.1)

          of-port : (d : ConnectionView) → IsIn d (map (λ (q : PortView). joined_to q.name (NetBit q.name ∷ [])) (added_supply_ports p a z)) → P d.port
          of-port d g =
              let q = of-map (λ (q : PortView). joined_to q.name (NetBit q.name ∷ [])) d (added_supply_ports p a z) g in
              subst P (sym (ap (λ (v : ConnectionView). v.port) q.2)) (holds.ports z inner below q.0 (in-left q.0 (added_supply_ports p a z) (control_ports a.controls z) q.1))

          of-part : (k : ℕ × Part) → IsIn k (parts_in a.controls z) → is_between k.1 ≡ false → P (control_net k.0)
          of-part k g off = by k.1.kind refl
            where
              port : (q : PortView) → control_port k ≡ Some q → P q.name
              port q r = holds.ports z inner below q (in-right q (added_supply_ports p a z) (control_ports a.controls z) (in-some control_port k q (parts_in a.controls z) g r))

              by : (kind : Kind) → k.1.kind ≡ kind → P (control_net k.0)
              by PortOut r = port (scalar (control_net k.0) Output) (ap (port_of_kind k.0) r)
              by PortIn r = port (scalar (control_net k.0) Input) (ap (port_of_kind k.0) r)
              by Between r = absurd (false≢true (sym off ∙ ap (λ v. same_part_kind v Between) r))

          not-true : (b : Bool) → not b ≡ true → b ≡ false
          not-true true r = absurd (false≢true r)
          not-true false r = refl

          of-control : (d : ConnectionView) → IsIn d (control_connections a.chains a.controls x z) → P d.port
          of-control d g =
              let k = of-some (control_connection a.chains a.controls x) d (parts_in a.controls z) g in
              let made = is-when (not (is_between k.0.1)) (joined_to (control_net k.0.0) (control_bits a.chains a.controls x k.0.1.control)) d k.2 in
              subst P (sym (ap (λ (v : ConnectionView). v.port) made.1)) (of-part k.0 k.1 (not-true (is_between k.0.1) made.0))

          module-ports : (d : ConnectionView) → IsIn d (connections_of (written_module_instance p a x y inner).connections) → P d.port
          module-ports d g =
              elim (in-either d (led_connections a.chains x z inner.ports y.connections) (map (λ (q : PortView). joined_to q.name (NetBit q.name ∷ [])) (added_supply_ports p a z) ++ control_connections a.chains a.controls x z) g) [
                | inl r ↦ of-led d r
                | inr r ↦ elim (in-either d (map (λ (q : PortView). joined_to q.name (NetBit q.name ∷ [])) (added_supply_ports p a z)) (control_connections a.chains a.controls x z) r) [ inl t ↦ of-port d t | inr t ↦ of-control d t ]
              ]

        -- ---- an instance of a cell

        abbrev place : Placed
        place = record { path = x; instance = y.name }

        of-renamed : (d : ConnectionView) → IsIn d (renamed_connections a.chains x y.connections) → P d.port
        of-renamed d g =
            let k = of-map (λ (k : ConnectionView). record k { bits = map (renamed a.chains x) k.bits }) d (by_names [] y.connections) g in
            subst P (sym (ap (λ (v : ConnectionView). v.port) k.2)) (of-source [] (λ q r. absurd r) k.0 k.1)

        of-retention : (o : Option Kept) → kept_at a.plan place ≡ o → (d : ConnectionView) → IsIn d (retention_connections a x o) → P d.port
        of-retention None is d g = absurd g
        of-retention (Some k) is d g =
            let q = of-map (λ (q : PinView). joined_to q.name (some_control_bits a.chains a.controls x (control_of k.strategy q.use_of))) d (retention_pins k.cell) g in
            subst P (sym (ap (λ (v : ConnectionView). v.port) q.2))
            (of-signal k.cell ((cells-listed p l).registers k (first_in _ a.plan.registers k is).0) q.0 (of-filter is_retention_pin q.0 k.cell.pins q.1).0)

        -- the cell that stands for it can be used
        its-cell : (c : CellView) → cell_for p a.plan place ≡ Some c → IsListed p c
        its-cell c g = by (kept_at a.plan place) refl g
          where
            some-same : {A : Type 0} (u v : A) → Some u ≡ Some v → u ≡ v
            some-same u v r = cc

            source : cell_named s y.target ≡ Some c → IsListed p c
            source r = record { listed = cell_in s y.target c r; usable = ap (λ o. not (is_some o)) (source-cell p l switch_command read good x m y c e h r).usable }

            by : (o : Option Kept) → kept_at a.plan place ≡ o → or_cell (cell_of s place) o ≡ Some c → IsListed p c
            by (Some k) is r = subst (IsListed p) (some-same k.cell c r) ((cells-listed p l).registers k (first_in _ a.plan.registers k is).0)
            by None is r =
                source (sym (ap (λ o. option_and_then (λ (k : ModuleView). option_and_then (λ (v : InstanceView). cell_named s v.target) (instance_named k y.name)) o) e
                ∙ ap (λ o. option_and_then (λ (v : InstanceView). cell_named s v.target) o) (instance_found s read.netlist.names_apart x m e y h))
                ∙ r)

        of-supplies : (o : Option CellView) → cell_for p a.plan place ≡ o → (d : ConnectionView) → IsIn d (supply_connections p a.plan (pins_of_cell p place o)) → P d.port
        of-supplies None is d g = absurd g
        of-supplies (Some c) is d g = of-supply c (its-cell c is) (joins_of_source p place c) d g

        cell-ports : (d : ConnectionView) → IsIn d (connections_of (written_cell_instance p a x y).connections) → P d.port
        cell-ports d g =
            elim (in-either d (renamed_connections a.chains x y.connections) (retention_connections a x (kept_at a.plan place) ++ supply_connections p a.plan (source_pins p a.plan place)) g) [
              | inl r ↦ of-renamed d r
              | inr r ↦ elim (in-either d (retention_connections a x (kept_at a.plan place)) (supply_connections p a.plan (source_pins p a.plan place)) r) [
                | inl t ↦ of-retention (kept_at a.plan place) refl d t
                | inr t ↦ of-supplies (cell_for p a.plan place) refl d t
              ]
            ]

        of-target : (o : Option Kept) → kept_at a.plan place ≡ o → P (kept_target y.target o)
        of-target None is = own-text y.target (inr (inl refl))
        of-target (Some k) is = holds.cells k.cell ((cells-listed p l).registers k (first_in _ a.plan.registers k is).0) k.cell.name (inl refl)

        source-ports : (d : ConnectionView) → IsIn d (connections_of (written_instance p a x y).connections) → P d.port
        source-ports d g = by (module_named s y.target) refl g
          where
            by : (o : Option ModuleView) → module_named s y.target ≡ o → IsIn d (connections_of (written_by_target p a x y o).connections) → P d.port
            by (Some inner) is r = module-ports inner is d r
            by None is r = cell-ports d r

      -- ---- operators and switches

      stands : (z : Linked) → IsIn z (linked p a.chains x) → IsListed p z.0.cell
      stands z g =
          let t = of-flat (λ (t : Stretch). pairs t.operators (with_next (links p a.chains t))) z (stretches_in a.chains x) g in
          (cells-listed p l).chains t.0 (of-filter _ t.0 a.chains t.1).0 z.0 (of-pairs z t.0.operators (with_next (links p a.chains t.0)) t.2).0

      operator-listed : (y : Name × Linked) → IsIn y (named_operators (linked p a.chains x)) → IsListed p y.1.0.cell
      operator-listed y g = stands y.1 (of-pairs y (operator_names 0 0 (map (λ (z : Linked). z.0.asked.operator) (linked p a.chains x))) (linked p a.chains x) g).1

      operator-ports : (y : Name × Linked) → IsIn y (named_operators (linked p a.chains x)) → (d : ConnectionView) → IsIn d (connections_of (written_operator p a x y).connections) → P d.port
      operator-ports y g d r =
          let o = y.1.0 in
          let listed = operator-listed y g in
          let reads = at_pin (data_pin o.asked.operator o.cell) y.1.1.0 in
          let enable = at_pin (input_for is_iso_enable o.cell) (some_control_bits a.chains a.controls x (enable_of p o.asked.operator)) in
          let drives = at_pin (one_output o.cell) y.1.1.1 in
          let supplies = supply_connections p a.plan (operator_pins p o) in
          elim (in-either d reads (enable ++ (drives ++ supplies)) r) [
            | inl t ↦ let q = of-pin (data_pin o.asked.operator o.cell) y.1.1.0 d t in subst P (sym q.2) (of-signal o.cell listed q.0 (data-in o.asked.operator o.cell q.0 q.1))
            | inr t ↦ elim (in-either d enable (drives ++ supplies) t) [
              | inl u ↦ of-input is_iso_enable o.cell listed (some_control_bits a.chains a.controls x (enable_of p o.asked.operator)) d u
              | inr u ↦ elim (in-either d drives supplies u) [
                | inl v ↦ let q = of-pin (one_output o.cell) y.1.1.1 d v in subst P (sym q.2) (of-signal o.cell listed q.0 (output-in o.cell q.0 q.1))
                | inr v ↦ of-supply o.cell listed (joins_of_operator p o.path o.asked.operator o.cell) d v
              ]
            ]
          ]

      switch-listed : (y : ℕ × Switching) → IsIn y (numbered 0 (switches_in a.plan x)) → IsListed p y.1.cell
      switch-listed y g = (cells-listed p l).switches y.1 (of-filter _ y.1 a.plan.switches (of-numbered 0 y (switches_in a.plan x) g)).0

      switch-ports : (y : ℕ × Switching) → IsIn y (numbered 0 (switches_in a.plan x)) → (d : ConnectionView) → IsIn d (connections_of (written_switch p a x y).connections) → P d.port
      switch-ports y g d r =
          let bits = control_bits a.chains a.controls x y.1.asked.control in
          elim (in-either d (at_pin (input_for is_switch_pin y.1.cell) bits) (supply_connections p a.plan (switch_pins p y.1)) r) [
            | inl t ↦ of-input is_switch_pin y.1.cell (switch-listed y g) bits d t
            | inr t ↦ of-supply y.1.cell (switch-listed y g) (joins_of_switch p y.1.asked y.1.cell) d t
          ]

      -- ---- all instances of the module

      pub ports-hold : (y : InstanceView) → IsIn y (written_instances p a x m) → (d : ConnectionView) → IsIn d (connections_of y.connections) → P d.port
      ports-hold y h d g = elim (in-either y (map (written_instance p a x) m.instances) (written_operators p a x ++ written_switches p a x) h) [
        | inl r ↦ let z = of-map (written_instance p a x) y m.instances r in source-ports z.0 z.1 d (subst (λ (v : InstanceView). IsIn d (connections_of v.connections)) z.2 g)
        | inr r ↦ elim (in-either y (written_operators p a x) (written_switches p a x) r) [
          | inl t ↦ let z = of-map (written_operator p a x) y (named_operators (linked p a.chains x)) t in operator-ports z.0 z.1 d (subst (λ (v : InstanceView). IsIn d (connections_of v.connections)) z.2 g)
          | inr t ↦ let z = of-map (written_switch p a x) y (numbered 0 (switches_in a.plan x)) t in switch-ports z.0 z.1 d (subst (λ (v : InstanceView). IsIn d (connections_of v.connections)) z.2 g)
        ]
      ]

      -- an instance of a module of the source, which has its path below, or else the target is a name of the source or of a cell
      pub target-holds : (y : InstanceView) → IsIn y (written_instances p a x m)
          → ((z : InstanceView) × (inner : ModuleView) × (module_at s (z.name ∷ x) ≡ Some inner) × (y ≡ written_module_instance p a x z inner)) ⊎ P y.target
      target-holds y h = elim (in-either y (map (written_instance p a x) m.instances) (written_operators p a x ++ written_switches p a x) h) [
        | inl r ↦ let z = of-map (written_instance p a x) y m.instances r in of-own z.0 z.1 (module_named s z.0.target) refl z.2
        | inr r ↦ elim (in-either y (written_operators p a x) (written_switches p a x) r) [
          | inl t ↦
              let z = of-map (written_operator p a x) y (named_operators (linked p a.chains x)) t in
              inr (subst P (sym (ap (λ (v : InstanceView). v.target) z.2)) (holds.cells z.0.1.0.cell (operator-listed z.0 z.1) z.0.1.0.cell.name (inl refl)))
          | inr t ↦
              let z = of-map (written_switch p a x) y (numbered 0 (switches_in a.plan x)) t in
              inr (subst P (sym (ap (λ (v : InstanceView). v.target) z.2)) (holds.cells z.0.1.cell (switch-listed z.0 z.1) z.0.1.cell.name (inl refl)))
        ]
      ]
        where
          of-own : (z : InstanceView) → IsIn z m.instances → (o : Option ModuleView) → module_named s z.target ≡ o → y ≡ written_by_target p a x z (module_named s z.target)
              → ((v : InstanceView) × (inner : ModuleView) × (module_at s (v.name ∷ x) ≡ Some inner) × (y ≡ written_module_instance p a x v inner)) ⊎ P y.target
          of-own z g (Some inner) is e2 = inl (z, inner, below z g inner is, e2 ∙ ap (written_by_target p a x z) is)
          of-own z g None is e2 = inr (subst P (sym (ap (λ (v : InstanceView). v.target) (e2 ∙ ap (written_by_target p a x z) is))) (of-target z g (kept_at a.plan (record { path = x; instance = z.name })) refl))
