-- The names of the netlist of an insertion can have a table: those of the source, of cells and of pins have one, and few are added.
use Rattle.std.proofs.Common.{◌≡◌, ◌⊎◌, ℕ, true, false, List, [], ◌∷◌, ◌++◌, length, map, Option, Some, None, inl, inr, refl, sym, ap, ◌∙◌, subst}
use Rattle.std.specs.Prelude.{bytes_eq, filter, flat_map}
use Rattle.std.proofs.lemmas.Bool.{ltb-false}
use Rattle.lp_text.specs.Texts.{has_text}
use Rattle.lp_model.specs.declared.fault.netlist.NetlistLimit.TheVariants as limits
use Rattle.lp_model.specs.declared.reason.Reason.{Reason}
use Rattle.lp_model.specs.LibraryView.{CellView}
use Rattle.lp_model.specs.NetlistView.{PortView, NetView, ConnectionView, ConnectionsView, ByName, ByPosition, InstanceView, ModuleView}
use Rattle.lp_vwrite.specs.WellFormed.{port_names_of, instance_texts, module_texts}
use Rattle.lp_spec_design.specs.Keys.{Name, Path}
use Rattle.lp_spec_design.specs.Netlists.{Structure, module_named, module_at}
use Rattle.lp_spec_design.specs.Reads.{name-true}
use Rattle.lp_spec_design.specs.Winners.{IsIn}
use Rattle.lp_spec_design.proofs.Members.{in-left, in-right, in-either, in-map, of-map, in-flat, of-flat, of-filter}
use Rattle.lp_spec_design.proofs.Sources.{first_in}
use Rattle.lp_spec_fit.specs.Fits.{is_usable}
use Rattle.lp_spec_realises.specs.Projects.{Project}
use Rattle.lp_spec_realises.specs.ProjectNetlists.{netlist_of}
use Rattle.lp_spec_realises.specs.Implements.{Lists}
use Rattle.lp_spec_faults.specs.Modules.{is_own}
use Rattle.lp_spec_agreement.proofs.Framed.{no_fault}
use Rattle.lp_spec_faultless.specs.Faults.{IsRead}
use Rattle.lp_spec_written.specs.Nets.{nets_of, stretches_in, chain_net}
use Rattle.lp_spec_written.specs.Limits.{names_in, names_added, name_limit}
use Rattle.lp_spec_written.specs.Shared.{is_first, shared_module, shared}
use Rattle.lp_spec_written.specs.Supplies.{wire, supply_ports, supply_wires}
use Rattle.lp_spec_written.specs.Routes.{control_ports, control_wires}
use Rattle.lp_spec_written.specs.Written.{Additions, additions, written_instance, written_operators, written_switches, written_instances, written_module, written}
use Rattle.lp_spec_wired.specs.Contents.{IsInstance, IsContent, IsWrittenAt}
use Rattle.lp_spec_written_at.specs.Sources.{IsListed, connections_of, cell_names}
use Rattle.lp_spec_written_at.specs.Laws.{IsReady}
use Rattle.lp_spec_written_at.proofs.Lists.{of-all}
use Rattle.lp_spec_written_at.proofs.Modules.{from-modules, cells-listed, is-added, of-written, written-name}
use Rattle.lp_spec_written_at.proofs.Paths.{source-at, of-instances}
use Rattle.lp_spec_written_at.proofs.SupplyNames.{port-own, of-wire, of-control-port, of-control-wire}
use Rattle.lp_spec_shared.proofs.Written.{shared-at, shared-reached}
use Rattle.lp_spec_proper.specs.Insertable.{IsInsertable, IsWithinLimits}
use Rattle.lp_spec_proper.proofs.Free.{ready}
use Rattle.lp_spec_legal.specs.Legal.{HasNamesBefore}
use Rattle.lp_spec_legal.specs.Laws.{SharedHasTable}
use Rattle.lp_spec_legal.proofs.Texts.{port-text, net-text, instance-text}
use Rattle.lp_spec_legal.proofs.From.{HoldsOfNames, ports-hold, target-holds}
use Rattle.lp_spec_legal.proofs.Counted.{Fits, table-of}

-- the names of connections
of-ports : (cs : ConnectionsView) (t : Name) → IsIn t (port_names_of cs) → (c : ConnectionView) × IsIn c (connections_of cs) × (t ≡ c.port)
of-ports (ByName cs) t h = of-map (λ (c : ConnectionView). c.port) t cs h
of-ports (ByPosition values) t h = absurd h

module _ (p : Project) (l : Lists) (switch_command : ℕ → ℕ) (read : IsRead p) (good : IsInsertable p l switch_command) (within : IsWithinLimits p l) (before : HasNamesBefore p) where
  abbrev a : Additions
  a = additions p l

  abbrev modules : List ModuleView
  modules = shared (written p l)

  abbrev w : Structure
  w = netlist_of p modules

  is-ready : IsReady p l
  is-ready = ready p l switch_command read good within

  at : IsWrittenAt p a w
  at = shared-at p l is-ready.free

  abbrev HasName : Name → Type 0
  HasName n = Fits modules before.names n

  -- ---- names that are there before

  source-known : (m : ModuleView) → IsIn m p.structure.modules → (t : Name) → IsIn t (module_texts m) → HasName t
  source-known m h t g = inl (of-all (λ n. has_text n before.names) t (flat_map module_texts p.structure.modules) before.source (in-flat module_texts m t p.structure.modules h g))

  cells-known : (c : CellView) → IsListed p c → (t : Name) → IsIn t (c.name ∷ cell_names c) → HasName t
  cells-known c h t g = inl (of-all (λ n. has_text n before.names) t (c.name ∷ cell_names c) (before.cells c h.listed (by c.unusable h.usable)) g)
    where
      by : (o : Option Reason) → is_usable (record c { unusable = o }) ≡ true → o ≡ None
      by None e = refl
      by (Some r) e = absurd (let bad : false ≡ true = e in cc)

  -- ---- names that are added

  module _ (k : ModuleView) (h : IsIn k modules) where
    abbrev instance_names : List Name
    instance_names = map (λ (y : InstanceView). y.name) k.instances

    abbrev net_names : List Name
    net_names = map (λ (v : NetView). v.name) k.nets

    abbrev port_names : List Name
    port_names = map (λ (q : PortView). q.name) k.ports

    added-here : (n : Name) → is_own n ≡ true → IsIn n (names_in k) → HasName n
    added-here n own g = inr (own, in-flat names_in k n modules h g)

    added-port : (n : Name) → is_own n ≡ true → IsIn n port_names → HasName n
    added-port n own g = added-here n own (inr (in-left n port_names (net_names ++ instance_names) g))

    added-net : (n : Name) → is_own n ≡ true → IsIn n net_names → HasName n
    added-net n own g = added-here n own (inr (in-right n port_names (net_names ++ instance_names) (in-left n net_names instance_names g)))

    added-instance : (n : Name) → is_own n ≡ true → IsIn n instance_names → HasName n
    added-instance n own g = added-here n own (inr (in-right n port_names (net_names ++ instance_names) (in-right n net_names instance_names g)))

    -- the module's own name
    name-fits : HasName k.name
    name-fits =
        let j = of-map (shared_module (written p l)) k (filter (is_first (written p l)) (written p l)) h in
        let of = of-written p a is-ready.free (cells-listed p l) j.0 (of-filter (is_first (written p l)) j.0 (written p l) j.1).0 in
        by of.path of.source of.at (ap (λ (z : ModuleView). z.name) j.2 ∙ ap (λ (z : ModuleView). z.name) of.is)
      where
        by : (x : Path) (m : ModuleView) → module_at p.structure x ≡ Some m → k.name ≡ (written_module p a x m).name → HasName k.name
        by [] m e same = subst HasName (sym same) (source-known m (from-modules p.structure [] m e) m.name (inl refl))
        by (i ∷ x) m e same = added-here k.name (ap is_own same) (inl refl)

  -- ---- a module at its path

  module _ (x : Path) (m : ModuleView) (e : module_at p.structure x ≡ Some m) (k : ModuleView) (h : IsIn k modules) (content : IsContent w x (written_module p a x m) k) where
    there : IsIn m p.structure.modules
    there = from-modules p.structure x m e

    port-added : (q : PortView) → IsIn q (supply_ports p a.plan a.uses x ++ control_ports a.controls x) → HasName q.name
    port-added q g = added-port k h q.name (own (in-either q (supply_ports p a.plan a.uses x) (control_ports a.controls x) g)) listed
      where
        listed : IsIn q.name (map (λ (r : PortView). r.name) k.ports)
        listed =
            in-map (λ (r : PortView). r.name) q k.ports
            (subst (λ qs. IsIn q qs) (sym content.ports) (in-right q m.ports (supply_ports p a.plan a.uses x ++ control_ports a.controls x) g))

        own : IsIn q (supply_ports p a.plan a.uses x) ⊎ IsIn q (control_ports a.controls x) → is_own q.name ≡ true
        own (inl r) = port-own p a x q.name (in-map (λ (z : PortView). z.name) q (supply_ports p a.plan a.uses x) r)
        own (inr r) = ap is_own (of-control-port a.controls is-ready.few.controls x q.name (in-map (λ (z : PortView). z.name) q (control_ports a.controls x) r)).2

    port-fits : (q : PortView) → IsIn q k.ports → HasName q.name
    port-fits q g = elim (in-either q m.ports (supply_ports p a.plan a.uses x ++ control_ports a.controls x) (subst (λ qs. IsIn q qs) content.ports g)) [
      | inl r ↦ source-known m there q.name (port-text m q r)
      | inr r ↦ port-added q r
    ]

    net-fits : (v : NetView) → IsIn v k.nets → HasName v.name
    net-fits v g = elim (in-either v m.nets (supply_wires a.plan a.uses x ++ (map wire chains ++ control_wires a.controls x)) (subst (λ vs. IsIn v vs) content.nets g)) [
      | inl r ↦ source-known m there v.name (net-text m v r)
      | inr r ↦ added-net k h v.name (elim (in-either v (supply_wires a.plan a.uses x) (map wire chains ++ control_wires a.controls x) r) as (λ _. is_own v.name ≡ true) [
        | inl t ↦ ap is_own (of-wire p l is-ready.few x v.name (in-map (λ (z : NetView). z.name) v (supply_wires a.plan a.uses x) t)).3
        | inr t ↦ elim (in-either v (map wire chains) (control_wires a.controls x) t) as (λ _. is_own v.name ≡ true) [
          | inl u ↦ chain-own u
          | inr u ↦ ap is_own (of-control-wire a.controls is-ready.few.controls x v.name (in-map (λ (z : NetView). z.name) v (control_wires a.controls x) u)).2
        ]
      ]) (in-map (λ (z : NetView). z.name) v k.nets g)
    ]
      where
        chains : List Name
        chains = flat_map nets_of (stretches_in a.chains x)

        chain-own : IsIn v (map wire chains) → is_own v.name ≡ true
        chain-own u =
            let n = of-map wire v chains u in
            let s = of-flat nets_of n.0 (stretches_in a.chains x) n.1 in
            let c = of-map chain_net n.0 _ s.2 in
            ap (λ (z : NetView). is_own z.name) n.2 ∙ ap is_own c.2

  -- ---- all of them

  holds : HoldsOfNames p l switch_command read good within HasName
  holds = record {
    source = source-known;
    cells = cells-known;
    ports = λ x m e q h. let has = at.modules x m e in port-added x m e has.here (from-modules w x has.here has.is) has.content q h;
  }

  module _ (x : Path) (m : ModuleView) (e : module_at p.structure x ≡ Some m) (k : ModuleView) (h : IsIn k modules) (content : IsContent w x (written_module p a x m) k) where
    module _ (z y : InstanceView) (g : IsIn z k.instances) (among : IsIn y (written_instances p a x m)) (is : IsInstance w x y z) where
      instance-name : HasName z.name
      instance-name = elim (in-either y (map (written_instance p a x) m.instances) (written_operators p a x ++ written_switches p a x) among) [
        | inl r ↦
            let v = of-map (written_instance p a x) y m.instances r in
            let same : z.name ≡ v.0.name = is.name ∙ (ap (λ (u : InstanceView). u.name) v.2 ∙ written-name p a is-ready.free (cells-listed p l) x v.0) in
            subst HasName (sym same) (source-known m (from-modules p.structure x m e) v.0.name (instance-text m v.0 v.1 v.0.name (inl refl)))
        | inr r ↦
            added-instance k h z.name (ap is_own is.name ∙ (is-added p a is-ready.free (cells-listed p l) x y r).own) (in-map (λ (u : InstanceView). u.name) z k.instances g)
      ]

      of-module : (j : ModuleView) → module_named w z.target ≡ Some j → HasName z.target
      of-module j f =
          let found = first_in (λ (u : ModuleView). bytes_eq u.name z.target) modules j f in
          subst HasName (name-true j.name z.target found.1) (name-fits j found.0)

      instance-target : HasName z.target
      instance-target = by (module_at w (y.name ∷ x)) refl
        where
          inside : (inner : ModuleView) (n : Name) → module_at p.structure (n ∷ x) ≡ Some inner → n ≡ y.name → module_at w (y.name ∷ x) ≡ None → ⊥
          inside inner n below same none =
              let has = at.modules (n ∷ x) inner below in
              let bad : Some has.here ≡ None = sym has.is ∙ (ap (λ i. module_at w (i ∷ x)) same ∙ none) in
              absurd cc

          by : (o : Option ModuleView) → module_at w (y.name ∷ x) ≡ o → HasName z.target
          by (Some j) f = of-module j (is.inner ∙ f)
          by None f = elim (target-holds p l switch_command read good within HasName holds x m e y among) [
            | inl (v, inner, below, same) ↦ absurd (inside inner v.name below (sym (ap (λ (u : InstanceView). u.name) same)) f)
            | inr r ↦ subst HasName (sym (is.cell f)) r
          ]

      instance-fits : (t : Name) → IsIn t (instance_texts z) → HasName t
      instance-fits t (inl same) = subst HasName (sym same) instance-name
      instance-fits t (inr (inl same)) = subst HasName (sym same) instance-target
      instance-fits t (inr (inr r)) =
          let c = of-ports y.connections t (subst (λ cs. IsIn t (port_names_of cs)) is.connections r) in
          subst HasName (sym c.2) (ports-hold p l switch_command read good within HasName holds x m e y among c.0 c.1)

    texts-fit : (t : Name) → IsIn t (module_texts k) → HasName t
    texts-fit t (inl same) = subst HasName (sym same) (name-fits k h)
    texts-fit t (inr g) = elim (in-either t (map (λ (q : PortView). q.name) k.ports) (map (λ (v : NetView). v.name) k.nets ++ flat_map instance_texts k.instances) g) [
      | inl r ↦ let q = of-map (λ (q : PortView). q.name) t k.ports r in subst HasName (sym q.2) (port-fits x m e k h content q.0 q.1)
      | inr r ↦ elim (in-either t (map (λ (v : NetView). v.name) k.nets) (flat_map instance_texts k.instances) r) [
        | inl u ↦ let v = of-map (λ (v : NetView). v.name) t k.nets u in subst HasName (sym v.2) (net-fits x m e k h content v.0 v.1)
        | inr u ↦
            let z = of-flat instance_texts t k.instances u in
            let y = of-instances w x (written_instances p a x m) k.instances content.instances z.0 z.1 in
            instance-fits z.0 y.written z.1 y.among y.is t z.2
      ]
    ]

  all-fit : (t : Name) → IsIn t (flat_map module_texts modules) → HasName t
  all-fit t g =
      let k = of-flat module_texts t modules g in
      let x = shared-reached p l is-ready.free k.0 k.1 in
      let m = source-at p a w is-ready.free at x.0 k.0 x.1 in
      texts-fit x.0 m.0 m.1 k.0 k.1 m.2 t k.2

pub shared-has : SharedHasTable
shared-has p l switch_command read good within before limit =
    table-of (shared (written p l)) before.names before.apart before.few (ltb-false 1000000000 (length (names_added p l)) (no_fault (name_limit p l) limit limits.Names (inl refl)))
    (all-fit p l switch_command read good within before)
