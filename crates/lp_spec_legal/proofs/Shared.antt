-- Modules that are well formed stay so where those of equal content are written once, and so does a table of their names.
use Rattle.std.proofs.Common.{◌≡◌, ◌⊎◌, Bool, true, ◌&&◌, List, ◌++◌, map, Option, Some, None, inl, inr, refl, sym, ap, ◌∙◌, subst}
use Rattle.std.specs.Prelude.{filter, flat_map, option_and_then}
use Rattle.std.specs.List.{list_all}
use Rattle.std.proofs.lemmas.Bool.{and_parts, and_from}
use Rattle.lp_text.specs.Texts.{has_text, distinct}
use Rattle.lp_model.specs.NetlistView.{PortView, NetView, InstanceView, ModuleView}
use Rattle.lp_vwrite.specs.Layout.{declared}
use Rattle.lp_vwrite.specs.WellFormed.{is_name, is_net, are_connections, is_instance, is_assign, names_of, is_module, IsWellFormed, instance_texts, module_texts, HasTable}
use Rattle.lp_spec_design.specs.Keys.{Name}
use Rattle.lp_spec_design.specs.Winners.{IsIn}
use Rattle.lp_spec_design.proofs.Members.{in-left, in-right, in-either, in-flat, of-map, of-flat, of-filter}
use Rattle.lp_spec_design.proofs.Sources.{first_in, then_is}
use Rattle.lp_spec_realises.specs.ProjectNetlists.{are_apart, names_in, has_names_apart}
use Rattle.lp_spec_written.specs.Shared.{named, same_content, first_of_content, is_first, or_name, shared_name, shared_module, shared}
use Rattle.lp_spec_written_at.proofs.Lists.{of-all, all-of}
use Rattle.lp_spec_written_at.proofs.InstanceNames.{map-twice}
use Rattle.lp_spec_shared.proofs.Names.{shared-names}
use Rattle.lp_spec_legal.proofs.Declares.{names-by}

module _ (modules : List ModuleView) where
  -- a target is shared under its own name, or under that of a module
  abbrev IsTarget : Name → Name → Type 0
  IsTarget n k = (k ≡ n) ⊎ ((m : ModuleView) × IsIn m modules × (k ≡ m.name))

  target-of : (n : Name) → IsTarget n (shared_name modules n)
  target-of n = by (option_and_then (first_of_content modules) (named modules n)) refl
    where
      by : (o : Option ModuleView) → option_and_then (first_of_content modules) (named modules n) ≡ o → IsTarget n (or_name n o)
      by None e = inl refl
      by (Some k) e =
          let m = then_is (first_of_content modules) (named modules n) k e in
          inr (k, (first_in (λ (j : ModuleView). same_content modules 64 j m.0) modules k m.2).0, refl)

  abbrev retargeted : InstanceView → InstanceView
  retargeted y = record y { target = shared_name modules y.target }

  of-shared : (k : ModuleView) → IsIn k (shared modules) → (m : ModuleView) × IsIn m modules × (k ≡ shared_module modules m)
  of-shared k h =
      let m = of-map (shared_module modules) k (filter (is_first modules) modules) h in
      (m.0, (of-filter (is_first modules) m.0 modules m.1).0, m.2)

  -- ---- form

  module _ (formed : IsWellFormed modules) where
    parts : (distinct (map (λ (m : ModuleView). m.name) modules) ≡ true) × (list_all is_module modules ≡ true)
    parts = and_parts (distinct (map (λ (m : ModuleView). m.name) modules)) (list_all is_module modules) formed

    one-formed : (m : ModuleView) → IsIn m modules → is_module m ≡ true
    one-formed m h = of-all is_module m modules parts.1 h

    target-legal : (n k : Name) → is_name n ≡ true → IsTarget n k → is_name k ≡ true
    target-legal n k e (inl same) = ap is_name same ∙ e
    target-legal n k e (inr m) = ap is_name m.2 ∙ (and_parts (is_name m.0.name) _ (one-formed m.0 m.1)).0

    module _ (m : ModuleView) (h : IsIn m modules) where
      its-name : (is_name m.name ≡ true) × ((list_all is_net (declared m) && (distinct (names_of m) && (list_all (is_instance (declared m)) m.instances && list_all (is_assign (declared m)) m.assigns))) ≡ true)
      its-name = and_parts (is_name m.name) _ (one-formed m h)

      its-nets : (list_all is_net (declared m) ≡ true) × ((distinct (names_of m) && (list_all (is_instance (declared m)) m.instances && list_all (is_assign (declared m)) m.assigns)) ≡ true)
      its-nets = and_parts (list_all is_net (declared m)) _ its-name.1

      its-names : (distinct (names_of m) ≡ true) × ((list_all (is_instance (declared m)) m.instances && list_all (is_assign (declared m)) m.assigns) ≡ true)
      its-names = and_parts (distinct (names_of m)) _ its-nets.1

      its-items : (list_all (is_instance (declared m)) m.instances ≡ true) × (list_all (is_assign (declared m)) m.assigns ≡ true)
      its-items = and_parts (list_all (is_instance (declared m)) m.instances) (list_all (is_assign (declared m)) m.assigns) its-names.1

      names-same : names_of (shared_module modules m) ≡ names_of m
      names-same = ap (λ names. map (λ n. n.0) (declared m) ++ names) (map-twice (λ (y : InstanceView). y.name) retargeted (λ (y : InstanceView). y.name) (λ y. refl) m.instances)

      instance-kept : (y : InstanceView) → is_instance (declared m) y ≡ true → is_instance (declared m) (retargeted y) ≡ true
      instance-kept y e =
          let name = and_parts (is_name y.name) _ e in
          let target = and_parts (is_name y.target) (are_connections (declared m) y.connections) name.1 in
          and_from (is_name y.name) _ name.0 (and_from (is_name (shared_name modules y.target)) (are_connections (declared m) y.connections) (target-legal y.target (shared_name modules y.target) target.0 (target-of y.target)) target.1)

      instances-kept : list_all (is_instance (declared m)) (map retargeted m.instances) ≡ true
      instances-kept =
          all-of (is_instance (declared m)) (map retargeted m.instances) (λ z g.
          let y = of-map retargeted z m.instances g in
          ap (is_instance (declared m)) y.2 ∙ instance-kept y.0 (of-all (is_instance (declared m)) y.0 m.instances its-items.0 y.1))

      module-kept : is_module (shared_module modules m) ≡ true
      module-kept =
          and_from (is_name m.name) _ its-name.0
          (and_from (list_all is_net (declared m)) _ its-nets.0
          (and_from (distinct (names_of (shared_module modules m))) _ (ap distinct names-same ∙ its-names.0)
          (and_from (list_all (is_instance (declared m)) (map retargeted m.instances)) (list_all (is_assign (declared m)) m.assigns) instances-kept its-items.1)))

    names-apart : has_names_apart modules ≡ true
    names-apart =
        and_from (are_apart (map (λ (m : ModuleView). m.name) modules)) (list_all (λ m. are_apart (names_in m)) modules) parts.0
        (all-of (λ m. are_apart (names_in m)) modules (λ m h. sym (ap are_apart (names-by m)) ∙ (its-names m h).0))

    pub shared-formed : IsWellFormed (shared modules)
    shared-formed =
        and_from (distinct (map (λ (m : ModuleView). m.name) (shared modules))) (list_all is_module (shared modules))
        (and_parts (are_apart (map (λ (m : ModuleView). m.name) (shared modules))) (list_all (λ m. are_apart (names_in m)) (shared modules)) (shared-names modules names-apart)).0
        (all-of is_module (shared modules) (λ k h. let m = of-shared k h in ap is_module m.2 ∙ module-kept m.0 m.1))

  -- ---- a table of names

  module _ (table : HasTable modules) where
    abbrev known : Name → Bool
    known t = has_text t table.names

    module-known : (m : ModuleView) → IsIn m modules → (t : Name) → IsIn t (module_texts m) → known t ≡ true
    module-known m h t g = of-all known t (flat_map module_texts modules) table.known (in-flat module_texts m t modules h g)

    -- names of ports, of nets, and those of instances
    abbrev front : ModuleView → List Name
    front m = map (λ (p : PortView). p.name) m.ports

    abbrev middle : ModuleView → List Name
    middle m = map (λ (n : NetView). n.name) m.nets

    instance-known : (m : ModuleView) → IsIn m modules → (y : InstanceView) → IsIn y m.instances → (t : Name) → IsIn t (instance_texts y) → known t ≡ true
    instance-known m h y i t g =
        module-known m h t
        (inr (in-right t (front m) (middle m ++ flat_map instance_texts m.instances) (in-right t (middle m) (flat_map instance_texts m.instances) (in-flat instance_texts y t m.instances i g))))

    target-known : (n k : Name) → known n ≡ true → IsTarget n k → known k ≡ true
    target-known n k e (inl same) = ap known same ∙ e
    target-known n k e (inr m) = ap known m.2 ∙ module-known m.0 m.1 m.0.name (inl refl)

    texts-known : (m : ModuleView) → IsIn m modules → (t : Name) → IsIn t (module_texts (shared_module modules m)) → known t ≡ true
    texts-known m h t (inl is) = module-known m h t (inl is)
    texts-known m h t (inr g) = elim (in-either t (front m) (middle m ++ flat_map instance_texts (map retargeted m.instances)) g) [
      | inl q ↦ module-known m h t (inr (in-left t (front m) (middle m ++ flat_map instance_texts m.instances) q))
      | inr r ↦ elim (in-either t (middle m) (flat_map instance_texts (map retargeted m.instances)) r) [
        | inl v ↦ module-known m h t (inr (in-right t (front m) (middle m ++ flat_map instance_texts m.instances) (in-left t (middle m) (flat_map instance_texts m.instances) v)))
        | inr i ↦
            let z = of-flat instance_texts t (map retargeted m.instances) i in
            let y = of-map retargeted z.0 m.instances z.1 in
            of-instance y.0 y.1 (subst (λ (w : InstanceView). IsIn t (instance_texts w)) y.2 z.2)
      ]
    ]
      where
        of-instance : (y : InstanceView) → IsIn y m.instances → IsIn t (instance_texts (retargeted y)) → known t ≡ true
        of-instance y i (inl is) = instance-known m h y i t (inl is)
        of-instance y i (inr (inl is)) = ap known is ∙ target-known y.target (shared_name modules y.target) (instance-known m h y i y.target (inr (inl refl))) (target-of y.target)
        of-instance y i (inr (inr c)) = instance-known m h y i t (inr (inr c))

    pub shared-table : HasTable (shared modules)
    shared-table = record {
      names = table.names;
      apart = table.apart;
      few = table.few;
      known =
          all-of known (flat_map module_texts (shared modules)) (λ t h.
          let k = of-flat module_texts t (shared modules) h in
          let m = of-shared k.0 k.1 in
          texts-known m.0 m.1 t (subst (λ (j : ModuleView). IsIn t (module_texts j)) m.2 k.2));
    }
