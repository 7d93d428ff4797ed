-- The instances of a written module are well formed.
use Rattle.std.proofs.Common.{◌≡◌, ℕ, true, ◌&&◌, List, ◌++◌, map, Option, Some, None, inl, inr, refl, sym, ap, ◌∙◌, subst}
use Rattle.std.specs.List.{list_all}
use Rattle.std.proofs.lemmas.Bool.{and_from}
use Rattle.lp_text.specs.Texts.{distinct}
use Rattle.lp_model.specs.NetlistView.{BitView, ConnectionView, ByName, InstanceView, ModuleView}
use Rattle.lp_vwrite.specs.Layout.{declared}
use Rattle.lp_vwrite.specs.WellFormed.{is_name, is_bit, is_connection, are_connections, is_instance}
use Rattle.lp_spec_design.specs.Keys.{Name, Path, same_path}
use Rattle.lp_spec_design.specs.Netlists.{module_named, module_at}
use Rattle.lp_spec_design.specs.Graph.{numbered, pairs}
use Rattle.lp_spec_design.specs.Nodes.{connected_bits, IsDeclared}
use Rattle.lp_spec_design.specs.Winners.{IsIn}
use Rattle.lp_spec_design.proofs.Members.{in-either, of-map, in-flat, of-flat, of-filter, of-pairs, of-numbered}
use Rattle.lp_spec_realises.specs.Projects.{Project}
use Rattle.lp_spec_realises.specs.ProjectNetlists.{are_apart}
use Rattle.lp_spec_realises.specs.Implements.{Lists}
use Rattle.lp_spec_faultless.specs.Faults.{IsRead}
use Rattle.lp_spec_written.specs.Places.{Switching, plan, operator_names, switches_in}
use Rattle.lp_spec_written.specs.Nets.{Stretch, stretches, stretches_in, Linked, linked, links, with_next}
use Rattle.lp_spec_written.specs.Written.{Additions, additions, written_by_target, written_instance, named_operators, written_operator, written_operators, written_switch, written_switches, written_instances, written_module}
use Rattle.lp_spec_written_at.specs.Laws.{IsReady}
use Rattle.lp_spec_written_at.specs.Sources.{connections_of}
use Rattle.lp_spec_written_at.proofs.Lists.{all-of}
use Rattle.lp_spec_written_at.proofs.InstanceNames.{apart-names}
use Rattle.lp_spec_written_at.proofs.JoinedBits.{instance-good}
use Rattle.lp_spec_written_at.proofs.PartNames.{part-names}
use Rattle.lp_spec_written_at.proofs.PinsAt.{operator-ports, switch-ports}
use Rattle.lp_spec_written_at.proofs.Wiring.{on-its-way}
use Rattle.lp_spec_proper.specs.Insertable.{IsInsertable, IsWithinLimits}
use Rattle.lp_spec_proper.specs.Laws.{AddedPinsAreApart}
use Rattle.lp_spec_proper.proofs.Free.{ready}
use Rattle.lp_spec_proper.proofs.Owed.{pins-apart}
use Rattle.lp_spec_legal.specs.Legal.{IsLegal}
use Rattle.lp_spec_legal.proofs.Declares.{declared-bit}
use Rattle.lp_spec_legal.proofs.Named.{instance-named}
use Rattle.lp_spec_legal.proofs.Ports.{port_name, module-once, cell-once}

-- connections by name, of each port at most one
record NamesOnce (y : InstanceView) : Type 0 where
  by_name : y.connections ≡ ByName (connections_of y.connections)
  once : are_apart (map port_name (connections_of y.connections)) ≡ true

module _ (p : Project) (l : Lists) (switch_command : ℕ → ℕ) (read : IsRead p) (insertable : IsInsertable p l switch_command) (limits : IsWithinLimits p l) (legal : IsLegal p) (x : Path) (m : ModuleView) (e : module_at p.structure x ≡ Some m) where
  abbrev a : Additions
  a = additions p l

  abbrev chains : List Stretch
  chains = stretches p (plan p l)

  abbrev here : ModuleView
  here = written_module p a x m

  is-ready : IsReady p l
  is-ready = ready p l switch_command read insertable limits

  added : AddedPinsAreApart p l
  added = pins-apart p l switch_command read insertable limits

  -- ---- each names a port once

  source-once : (y : InstanceView) → IsIn y m.instances → NamesOnce (written_instance p a x y)
  source-once y h = by (module_named p.structure y.target) refl
    where
      by : (o : Option ModuleView) → module_named p.structure y.target ≡ o → NamesOnce (written_by_target p a x y o)
      by (Some inner) is = record { by_name = refl; once = apart-names _ (module-once p l switch_command read insertable limits x m e y h inner is) }
      by None is = record { by_name = refl; once = apart-names _ (cell-once p l switch_command read insertable limits x m e y h is) }

  operator-once : (y : Name × Linked) → IsIn y (named_operators (linked p chains x)) → NamesOnce (written_operator p a x y)
  operator-once y h =
      let pair = of-pairs y (operator_names 0 0 (map (λ (z : Linked). z.0.asked.operator) (linked p chains x))) (linked p chains x) h in
      let s = of-flat (λ (t : Stretch). pairs t.operators (with_next (links p chains t))) y.1 (stretches_in chains x) pair.1 in
      let kept = of-filter (λ (t : Stretch). same_path t.path x) s.0 chains s.1 in
      let its = on-its-way p (plan p l) s.0 kept.0 y.1.0 (of-pairs y.1 s.0.operators (with_next (links p chains s.0)) s.2).0 in
      record { by_name = refl; once = operator-ports p a x y (added.operators y.1.0 (of-filter _ y.1.0 (plan p l).operators its.0).0) }

  switch-once : (y : ℕ × Switching) → IsIn y (numbered 0 (switches_in (plan p l) x)) → NamesOnce (written_switch p a x y)
  switch-once y h =
      let kept = of-filter (λ (w : Switching). same_path w.path x) y.1 (plan p l).switches (of-numbered 0 y (switches_in (plan p l) x) h) in
      record { by_name = refl; once = switch-ports p a x y (added.switches y.1 kept.0) }

  names-once : (y : InstanceView) → IsIn y (written_instances p a x m) → NamesOnce y
  names-once y h = elim (in-either y (map (written_instance p a x) m.instances) (written_operators p a x ++ written_switches p a x) h) [
    | inl own ↦ let one = of-map (written_instance p a x) y m.instances own in subst NamesOnce (sym one.2) (source-once one.0 one.1)
    | inr new ↦ elim (in-either y (written_operators p a x) (written_switches p a x) new) [
      | inl o ↦ let one = of-map (written_operator p a x) y (named_operators (linked p chains x)) o in subst NamesOnce (sym one.2) (operator-once one.0 one.1)
      | inr s ↦ let one = of-map (written_switch p a x) y (numbered 0 (switches_in (plan p l) x)) s in subst NamesOnce (sym one.2) (switch-once one.0 one.1)
    ]
  ]

  -- ---- all together

  bit-formed : (b : BitView) → IsDeclared x here b → is_bit (declared here) b ≡ true
  bit-formed b h = declared-bit x here (part-names p l is-ready.free is-ready.names is-ready.few x m e) b h

  bits-formed : (y : InstanceView) → IsIn y (written_instances p a x m) → (cs : List ConnectionView) → y.connections ≡ ByName cs → (c : ConnectionView) → IsIn c cs → list_all (is_bit (declared here)) c.bits ≡ true
  bits-formed y h cs is c g =
      all-of (is_bit (declared here)) c.bits (λ b r.
      bit-formed b (instance-good p l is-ready.free is-ready.bits is-ready.controls x m e y h b (within y cs is c g b r)))
    where
      within : (v : InstanceView) (ds : List ConnectionView) → v.connections ≡ ByName ds → (d : ConnectionView) → IsIn d ds → (b : BitView) → IsIn b d.bits → IsIn b (connected_bits v.connections)
      within v ds eq d i b r = subst (λ k. IsIn b (connected_bits k)) (sym eq) (in-flat (λ (k : ConnectionView). k.bits) d b ds i r)

  instance-formed : (y : InstanceView) → IsIn y (written_instances p a x m) → is_instance (declared here) y ≡ true
  instance-formed y h =
      let names = instance-named p l switch_command read insertable limits legal x m e y h in
      let of = names-once y h in
      let cs = connections_of y.connections in
      and_from (is_name y.name) (is_name y.target && are_connections (declared here) y.connections) names.name
      (and_from (is_name y.target) (are_connections (declared here) y.connections) names.target
      (ap (are_connections (declared here)) of.by_name
      ∙ and_from (distinct (map port_name cs)) (list_all (is_connection (declared here)) cs) of.once
      (all-of (is_connection (declared here)) cs (λ c g. and_from (is_name c.port) (list_all (is_bit (declared here)) c.bits) (names.ports c g) (bits-formed y h cs of.by_name c g)))))

  pub instances-formed : list_all (is_instance (declared (written_module p (additions p l) x m))) (written_instances p (additions p l) x m) ≡ true
  instances-formed = all-of (is_instance (declared here)) (written_instances p a x m) instance-formed
