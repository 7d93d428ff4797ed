-- The names in the instances of a written module are legal: their own, those of their targets and those of the ports that they connect.
use Rattle.std.proofs.Common.{◌≡◌, ℕ, ◌+◌, true, ◌&&◌, List, [], ◌∷◌, ◌++◌, map, Option, Some, inl, inr, refl, ap, ◌∙◌}
use Rattle.std.specs.Prelude.{codes, flat_map}
use Rattle.std.specs.List.{list_all}
use Rattle.std.proofs.lemmas.Bool.{and_parts}
use Rattle.lp_model.specs.declared.netlist.BitRange.{BitRange}
use Rattle.lp_model.specs.NetlistView.{PortView, NetView, ConnectionView, ConnectionsView, ByName, ByPosition, InstanceView, ModuleView}
use Rattle.lp_vwrite.specs.Layout.{declared}
use Rattle.lp_vwrite.specs.WellFormed.{is_name, is_range, is_net, is_bit, is_connection, port_names_of, instance_texts, module_texts}
use Rattle.lp_vwrite.specs.Sound.{is_read_connections, is_read_instance}
use Rattle.lp_spec_design.specs.Keys.{Name, Path}
use Rattle.lp_spec_design.specs.Netlists.{module_at}
use Rattle.lp_spec_design.specs.Chains.{Operator, Clamp, Shift}
use Rattle.lp_spec_design.specs.Graph.{numbered}
use Rattle.lp_spec_design.specs.Winners.{IsIn, one_if}
use Rattle.lp_spec_design.proofs.Members.{in-either, of-map, of-flat, of-pairs}
use Rattle.lp_spec_realises.specs.Projects.{Project}
use Rattle.lp_spec_realises.specs.Implements.{Lists}
use Rattle.lp_spec_faultless.specs.Faults.{IsRead}
use Rattle.lp_spec_written.specs.Places.{is_clamp, is_shift, operator_names, switches_in}
use Rattle.lp_spec_written.specs.Nets.{Linked, linked}
use Rattle.lp_spec_written.specs.Supplies.{supply_ports}
use Rattle.lp_spec_written.specs.Routes.{control_ports}
use Rattle.lp_spec_written.specs.Written.{Additions, additions, written_instance, named_operators, written_operator, written_operators, written_switch, written_switches, written_instances}
use Rattle.lp_spec_written_at.specs.Sources.{connections_of}
use Rattle.lp_spec_written_at.proofs.Lists.{of-all}
use Rattle.lp_spec_written_at.proofs.Modules.{from-modules, cells-listed, written-name}
use Rattle.lp_spec_proper.specs.Insertable.{IsInsertable, IsWithinLimits}
use Rattle.lp_spec_proper.proofs.Free.{ready}
use Rattle.lp_spec_legal.specs.Legal.{IsLegal}
use Rattle.lp_spec_legal.proofs.Names.{numbered-legal, module-legal, cell-names-legal, read-parts}
use Rattle.lp_spec_legal.proofs.Nets.{supply-port, control-here, own-port, own-wire}
use Rattle.lp_spec_legal.proofs.Texts.{instance-text}
use Rattle.lp_spec_legal.proofs.From.{HoldsOfNames, ports-hold, target-holds}

operators-legal : (j k : ℕ) (os : List Operator) (n : Name) → IsIn n (operator_names j k os) → is_name n ≡ true
operators-legal j k [] n h = absurd h
operators-legal j k (Clamp t i ∷ os) n (inl is) = ap is_name is ∙ numbered-legal (codes "lp_i_") j refl
operators-legal j k (Shift t u v ∷ os) n (inl is) = ap is_name is ∙ numbered-legal (codes "lp_l_") k refl
operators-legal j k (o ∷ os) n (inr h) = operators-legal (j + one_if (is_clamp o)) (k + one_if (is_shift o)) os n h

module _ (p : Project) (l : Lists) (switch_command : ℕ → ℕ) (read : IsRead p) (good : IsInsertable p l switch_command) (within : IsWithinLimits p l) (legal : IsLegal p) where
  abbrev a : Additions
  a = additions p l

  abbrev Legal : Name → Type 0
  Legal n = is_name n ≡ true

  -- ---- names of the source

  of-net : (n : Name) (r : Option BitRange) → is_net (n, r) ≡ true → is_name n ≡ true
  of-net n r e = (and_parts (is_name n) (is_range r) e).0

  of-connections : (nets : List (Name × Option BitRange)) (cs : ConnectionsView) → is_read_connections nets cs ≡ true → (t : Name) → IsIn t (port_names_of cs) → is_name t ≡ true
  of-connections nets (ByPosition values) e t h = absurd h
  of-connections nets (ByName cs) e t h =
      let c = of-map (λ (d : ConnectionView). d.port) t cs h in
      ap is_name c.2 ∙ (and_parts (is_name c.0.port) (list_all (is_bit nets) c.0.bits) (of-all (is_connection nets) c.0 cs e c.1)).0

  module _ (m : ModuleView) (there : IsIn m p.structure.modules) where
    of-instance : (y : InstanceView) → IsIn y m.instances → (t : Name) → IsIn t (instance_texts y) → is_name t ≡ true
    of-instance y h t g = by g
      where
        whole : (is_name y.name ≡ true) × ((is_name y.target && is_read_connections (declared m) y.connections) ≡ true)
        whole = and_parts (is_name y.name) _ (of-all (is_read_instance (declared m)) y m.instances (read-parts p legal m there).instances h)

        rest : (is_name y.target ≡ true) × (is_read_connections (declared m) y.connections ≡ true)
        rest = and_parts (is_name y.target) (is_read_connections (declared m) y.connections) whole.1

        by : IsIn t (instance_texts y) → is_name t ≡ true
        by (inl is) = ap is_name is ∙ whole.0
        by (inr (inl is)) = ap is_name is ∙ rest.0
        by (inr (inr r)) = of-connections (declared m) y.connections rest.1 t r

    source-legal : (t : Name) → IsIn t (module_texts m) → is_name t ≡ true
    source-legal t (inl is) = ap is_name is ∙ (read-parts p legal m there).name
    source-legal t (inr h) = elim (in-either t (map (λ (q : PortView). q.name) m.ports) (map (λ (n : NetView). n.name) m.nets ++ flat_map instance_texts m.instances) h) [
      | inl r ↦ let q = of-map (λ (q : PortView). q.name) t m.ports r in ap is_name q.2 ∙ of-net q.0.name q.0.range (own-port p legal a [] m there q.0 q.1)
      | inr r ↦ elim (in-either t (map (λ (n : NetView). n.name) m.nets) (flat_map instance_texts m.instances) r) [
        | inl g ↦ let n = of-map (λ (n : NetView). n.name) t m.nets g in ap is_name n.2 ∙ of-net n.0.name n.0.range (own-wire p legal a [] m there n.0 n.1)
        | inr g ↦ let y = of-flat instance_texts t m.instances g in of-instance y.0 y.1 t y.2
      ]
    ]

  holds : HoldsOfNames p l switch_command read good within Legal
  holds = record {
    source = source-legal;
    cells = cell-names-legal p legal;
    ports = λ x m e q h. elim (in-either q (supply_ports p a.plan a.uses x) (control_ports a.controls x) h) [
      | inl r ↦ of-net q.name q.range (supply-port p legal a x q r)
      | inr r ↦ of-net q.name q.range (control-here p legal a x q r)
    ];
  }

  -- ---- the instances of a module

  pub record IsNamed (y : InstanceView) : Type 0 where
    pub name : is_name y.name ≡ true
    pub target : is_name y.target ≡ true
    pub ports : (c : ConnectionView) → IsIn c (connections_of y.connections) → is_name c.port ≡ true

  module _ (x : Path) (m : ModuleView) (e : module_at p.structure x ≡ Some m) where
    there : IsIn m p.structure.modules
    there = from-modules p.structure x m e

    own-name : (y : InstanceView) → IsIn y (written_instances p a x m) → is_name y.name ≡ true
    own-name y h = elim (in-either y (map (written_instance p a x) m.instances) (written_operators p a x ++ written_switches p a x) h) [
      | inl r ↦
          let z = of-map (written_instance p a x) y m.instances r in
          ap (λ (v : InstanceView). is_name v.name) z.2
          ∙ (ap is_name (written-name p a (ready p l switch_command read good within).free (cells-listed p l) x z.0)
          ∙ source-legal m there z.0.name (instance-text m z.0 z.1 z.0.name (inl refl)))
      | inr r ↦ elim (in-either y (written_operators p a x) (written_switches p a x) r) [
        | inl g ↦
            let z = of-map (written_operator p a x) y (named_operators (linked p a.chains x)) g in
            let os = map (λ (v : Linked). v.0.asked.operator) (linked p a.chains x) in
            ap (λ (v : InstanceView). is_name v.name) z.2 ∙ operators-legal 0 0 os z.0.0 (of-pairs z.0 (operator_names 0 0 os) (linked p a.chains x) z.1).0
        | inr g ↦
            let z = of-map (written_switch p a x) y (numbered 0 (switches_in a.plan x)) g in
            ap (λ (v : InstanceView). is_name v.name) z.2 ∙ numbered-legal (codes "lp_s_") z.0.0 refl
      ]
    ]

    pub instance-named : (y : InstanceView) → IsIn y (written_instances p a x m) → IsNamed y
    instance-named y h = record {
      name = own-name y h;
      target = elim (target-holds p l switch_command read good within Legal holds x m e y h) as (λ _. is_name y.target ≡ true) [
        | inl (z, inner, below, is) ↦
            ap (λ (v : InstanceView). is_name v.target) is
            ∙ module-legal p (z.name ∷ x) inner.name (read-parts p legal inner (from-modules p.structure (z.name ∷ x) inner below)).name
        | inr g ↦ g
      ];
      ports = ports-hold p l switch_command read good within Legal holds x m e y h;
    }
