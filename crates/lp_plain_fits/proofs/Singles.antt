-- The tests of a module of scalars, over texts and in the words of the code.
use Rattle.std.proofs.Common.{◌≡◌, ℕ, ◌<◌, ◌≤◌, Bool, true, false, not, ◌&&◌, List, [], ◌∷◌, ◌++◌, length, Option, refl, sym, ap, ◌∙◌, arith, get_or}
use Rattle.std.specs.Prelude.{map, is_none}
use Rattle.std.specs.List.{list_all}
use Rattle.std.proofs.lemmas.List.{map-append}
use Rattle.std.proofs.lemmas.List.Folds.{list_all-append, list_all-map}
use Rattle.lp_text.specs.Texts.{text_at}
use Rattle.lp_model.specs.declared.bits.Bit.{Bit}
use Rattle.lp_model.specs.declared.bits.Bit.TheVariants.{Net, Select, Const}
use Rattle.lp_model.specs.declared.netlist.BitRange.{BitRange}
use Rattle.lp_model.specs.declared.netlist.Port.{Port}
use Rattle.lp_model.specs.declared.netlist.NetDecl.{NetDecl}
use Rattle.lp_model.specs.declared.netlist.Connection.{Connection}
use Rattle.lp_model.specs.declared.netlist.Connections.{Connections}
use Rattle.lp_model.specs.declared.netlist.Connections.TheVariants.{Named, Ordered}
use Rattle.lp_model.specs.declared.netlist.Instance.{Instance}
use Rattle.lp_model.specs.declared.netlist.Assign.{Assign}
use Rattle.lp_model.specs.declared.netlist.Module.{Module}
use Rattle.lp_model.specs.NetlistView.{PortView, NetView, ConnectionView, bits_view, port_view, net_view, connection_view, instance_view, assign_view, module_view}
use Rattle.lp_spec_plain_module.specs.Tests as flat
use Rattle.lp_vwrite.specs.Layout.{declared}
use Rattle.lp_vwrite.specs.WellFormed.{names_of}
use Rattle.lp_spec_plain_netlist.specs.Single as by_text
use Rattle.lp_plain_fits.specs.Scalars.{is_one_net, are_one_nets, is_free, has_no_assign, has_free_names, is_single_module}

module _ (texts : List (List ℕ)) where
  one_net : (bits : List Bit) → by_text.is_scalar_bit (bits_view texts bits) ≡ is_one_net bits
  one_net [] = refl
  one_net (Net n ∷ []) = refl
  one_net (Select n i ∷ []) = refl
  one_net (Const b ∷ []) = refl
  one_net (Net n ∷ b ∷ bits) = refl
  one_net (Select n i ∷ b ∷ bits) = refl
  one_net (Const c ∷ b ∷ bits) = refl

  one_nets : (cs : List Connection) → list_all (λ (c : ConnectionView). by_text.is_scalar_bit c.bits) (map (connection_view texts) cs) ≡ list_all (λ (c : Connection). is_one_net c.bits) cs
  one_nets [] = refl
  one_nets (c ∷ cs) = λ i. one_net c.bits i && one_nets cs i

  single_instance : (x : Instance) (cs : Connections) → x.connections ≡ cs → by_text.is_single_instance (instance_view texts x) ≡ are_one_nets cs
  single_instance x (Named cs) e = rw (e) (one_nets cs)
  single_instance x (Ordered values) e = rw (e) refl

  single_instances : (xs : List Instance) → list_all by_text.is_single_instance (map (instance_view texts) xs) ≡ list_all (λ (x : Instance). are_one_nets x.connections) xs
  single_instances [] = refl
  single_instances (x ∷ xs) = λ i. single_instance x x.connections refl i && single_instances xs i

  no_assign : (assigns : List Assign) → flat.has_no_assign (map (assign_view texts) assigns) ≡ has_no_assign assigns
  no_assign [] = refl
  no_assign (a ∷ rest) = refl

  -- ---- names

  ports_named : (ports : List Port) → map (λ (n : List ℕ × Option BitRange). n.0) (map (λ p. (p.name, p.range)) (map (port_view texts) ports)) ≡ map (text_at texts) (map (λ p. p.name.0) ports)
  ports_named [] = refl
  ports_named (p ∷ ports) = ap (λ names. text_at texts p.name.0 ∷ names) (ports_named ports)

  nets_named : (nets : List NetDecl) → map (λ (n : List ℕ × Option BitRange). n.0) (map (λ n. (n.name, n.range)) (map (net_view texts) nets)) ≡ map (text_at texts) (map (λ n. n.name.0) nets)
  nets_named [] = refl
  nets_named (n ∷ nets) = ap (λ names. text_at texts n.name.0 ∷ names) (nets_named nets)

  instances_named : (xs : List Instance) → map (λ x. x.name) (map (instance_view texts) xs) ≡ map (text_at texts) (map (λ x. x.name.0) xs)
  instances_named [] = refl
  instances_named (x ∷ xs) = ap (λ names. text_at texts x.name.0 ∷ names) (instances_named xs)

  abbrev declared_numbers : Module → List ℕ
  declared_numbers m = map (λ (p : Port). p.name.0) m.ports ++ map (λ (n : NetDecl). n.name.0) m.nets

  -- the names of ports and nets
  declared_named : (m : Module) → map (λ (n : List ℕ × Option BitRange). n.0) (declared (module_view texts m)) ≡ map (text_at texts) (declared_numbers m)
  declared_named m =
      map-append (λ (n : List ℕ × Option BitRange). n.0) (map (λ p. (p.name, p.range)) (map (port_view texts) m.ports)) (map (λ n. (n.name, n.range)) (map (net_view texts) m.nets))
      ∙ (λ i. ports_named m.ports i ++ nets_named m.nets i)
      ∙ sym (map-append (text_at texts) (map (λ p. p.name.0) m.ports) (map (λ n. n.name.0) m.nets))

  -- and of instances
  all_named : (m : Module) → names_of (module_view texts m) ≡ map (text_at texts) (declared_numbers m ++ map (λ x. x.name.0) m.instances)
  all_named m = (λ i. declared_named m i ++ instances_named m.instances i) ∙ sym (map-append (text_at texts) (declared_numbers m) (map (λ x. x.name.0) m.instances))

  free_of : {A : Type 0} (f : A → ℕ) (xs : List A) → list_all (λ n. not (by_text.is_reserved n)) (map (text_at texts) (map f xs)) ≡ list_all (λ x. is_free texts (f x)) xs
  free_of f [] = refl
  free_of f (x ∷ xs) = ap (λ b. is_free texts (f x) && b) (free_of f xs)

  regroup : (a b c : Bool) → ((a && b) && c) ≡ (a && (b && c))
  regroup true b c = refl
  regroup false b c = refl

  free_names : (m : Module) → list_all (λ n. not (by_text.is_reserved n)) (names_of (module_view texts m)) ≡ (list_all (λ (p : Port). is_free texts p.name.0) m.ports && (list_all (λ (n : NetDecl). is_free texts n.name.0) m.nets && list_all (λ (x : Instance). is_free texts x.name.0) m.instances))
  free_names m =
      let free : List ℕ → Bool = λ n. not (by_text.is_reserved n) in
      let ports = map (text_at texts) (map (λ (p : Port). p.name.0) m.ports) in
      let nets = map (text_at texts) (map (λ (n : NetDecl). n.name.0) m.nets) in
      let instances = map (text_at texts) (map (λ (x : Instance). x.name.0) m.instances) in
      let names : names_of (module_view texts m) ≡ (ports ++ nets) ++ instances =
      all_named m ∙ map-append (text_at texts) (declared_numbers m) (map (λ x. x.name.0) m.instances)
      ∙ ap (λ front. front ++ instances) (map-append (text_at texts) (map (λ p. p.name.0) m.ports) (map (λ n. n.name.0) m.nets)) in
      ap (list_all free) names ∙ list_all-append free (ports ++ nets) instances ∙ ap (λ b. b && list_all free instances) (list_all-append free ports nets)
      ∙ (λ i. (free_of (λ (p : Port). p.name.0) m.ports i && free_of (λ (n : NetDecl). n.name.0) m.nets i) && free_of (λ (x : Instance). x.name.0) m.instances i)
      ∙ regroup (list_all (λ (p : Port). is_free texts p.name.0) m.ports) (list_all (λ (n : NetDecl). is_free texts n.name.0) m.nets) (list_all (λ (x : Instance). is_free texts x.name.0) m.instances)

  regroup_all : (a b c d e : Bool) → (a && (b && (c && (d && e)))) ≡ ((a && (b && (c && d))) && e)
  regroup_all true true true d e = refl
  regroup_all true true false d e = refl
  regroup_all true false c d e = refl
  regroup_all false b c d e = refl

  pub single_same : (m : Module) → by_text.is_single_module (module_view texts m) ≡ is_single_module texts m
  single_same m =
      (λ i.
      list_all-map (λ (p : PortView). is_none p.range) (port_view texts) m.ports i
      && (list_all-map (λ (n : NetView). is_none n.range) (net_view texts) m.nets i
      && (single_instances m.instances i
      && (no_assign m.assigns i
      && (is_free texts m.name.0 && free_names m i)))))
      ∙ regroup_all
      (list_all (λ (p : Port). is_none p.range) m.ports)
      (list_all (λ (n : NetDecl). is_none n.range) m.nets)
      (list_all (λ (x : Instance). are_one_nets x.connections) m.instances)
      (has_no_assign m.assigns)
      (has_free_names texts m)

  -- a netlist of one module
  pub one_module : (modules : List Module) (m : Module) → 1 ≤ length modules → length modules < 2 → m ≡ get_or modules 0 m → by_text.is_single (map (module_view texts) modules) ≡ is_single_module texts m
  one_module [] m some few e = absurd (omega arith)
  one_module (x ∷ []) m some few e = single_same x ∙ ap (is_single_module texts) (sym e)
  one_module (x ∷ y ∷ modules) m some few e = absurd (omega arith)
