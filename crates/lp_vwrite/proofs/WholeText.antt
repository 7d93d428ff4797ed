-- What is written of well-formed modules reads back as these modules.
use Rattle.std.proofs.Common.{◌≡◌, ℕ, true, false, List, [], ◌∷◌, ◌++◌, map, refl, sym, ap, ◌∙◌, subst, append_assoc}
use Rattle.std.specs.Prelude.{codes, ◌&&◌, flat_map}
use Rattle.std.specs.List.{list_all}
use Rattle.std.proofs.lemmas.Bool.{and_parts, and_from}
use Rattle.std.proofs.lemmas.List.{append-nil, map-append}
use Rattle.std.proofs.lemmas.List.Folds.{list_all-append}
use Rattle.lp_text.specs.Texts.{has_text, distinct, distinct-append_left}
use Rattle.lp_model.specs.declared.netlist.Module.{Module}
use Rattle.lp_model.specs.NetlistView.{PortView, NetView, InstanceView, ModuleView}
use Rattle.lp_verilog.specs.Reading.{Outcome}
use Rattle.lp_vwrite.specs.Layout.{declared, range_of, header_line, port_line, net_line, instance_line, assign_line, module_text}
use Rattle.lp_vwrite.specs.WellFormed.{is_name, is_net, is_instance, is_assign, is_module, names_of, instance_texts, module_texts}
use Rattle.lp_vwrite.proofs.Parts.{id}
use Rattle.lp_vwrite.proofs.Scope.{names_in, all_known}
use Rattle.lp_vwrite.proofs.ItemSteps.{Ready, instance_of, assign_of}
use Rattle.lp_vwrite.proofs.ModuleSteps.{port_names, Between, header_onward}
use Rattle.lp_vwrite.proofs.Facts.{Nets}
use Rattle.lp_vwrite.proofs.Bodies.{port_nets, net_nets, module_of, net_names, instance_names, declared_ports, declared_nets, declared_instances, ports_lines, nets_lines, instances_lines, assigns_lines, ended_module, names_of_ports, names_of_nets, names_of_instances, port_names_good}

abbrev texts_of : Nets → List (List ℕ)
texts_of nets = map (λ n. n.0) nets

port_texts : (ps : List PortView) → texts_of (port_nets ps) ≡ port_names ps
port_texts [] = refl
port_texts (p ∷ ps) = ap (λ (t : List (List ℕ)). p.name ∷ t) (port_texts ps)

net_texts : (ns : List NetView) → texts_of (net_nets ns) ≡ net_names ns
net_texts [] = refl
net_texts (n ∷ ns) = ap (λ (t : List (List ℕ)). n.name ∷ t) (net_texts ns)

names_of_declared : (m : ModuleView) → texts_of (declared m) ≡ port_names m.ports ++ net_names m.nets
names_of_declared m = map-append (λ n. n.0) (port_nets m.ports) (net_nets m.nets) ∙ (λ j. port_texts m.ports j ++ net_texts m.nets j)

known_pairs : (names : List (List ℕ)) (nets : Nets) → list_all (λ n. has_text n.0 names) nets ≡ all_known names (texts_of nets)
known_pairs names [] = refl
known_pairs names (n ∷ nets) = ap (λ b. has_text n.0 names && b) (known_pairs names nets)

module _ (names : List (List ℕ)) (size : ℕ) (o : Outcome) where
  instances_known : (is : List InstanceView) → all_known names (flat_map instance_texts is) ≡ true → all_known names (instance_names is) ≡ true
  instances_known [] h = refl
  instances_known (i ∷ is) h =
      let parts = and_parts (all_known names (instance_texts i)) (all_known names (flat_map instance_texts is)) (sym (list_all-append (λ t. has_text t names) (instance_texts i) (flat_map instance_texts is)) ∙ h) in
      and_from (has_text i.name names) (all_known names (instance_names is)) (and_parts (has_text i.name names) _ parts.0).0 (instances_known is parts.1)

  module_text_split : (m : ModuleView) (rest : List ℕ) → module_text m ++ rest ≡ header_line m ++ (flat_map port_line m.ports ++ (flat_map net_line m.nets ++ (flat_map (instance_line (range_of m)) m.instances ++ (flat_map (assign_line (range_of m)) m.assigns ++ (codes "endmodule\n" ++ rest)))))
  module_text_split m rest =
      let end = codes "endmodule\n" in
      let a = flat_map (assign_line (range_of m)) m.assigns in
      let i = flat_map (instance_line (range_of m)) m.instances in
      let n = flat_map net_line m.nets in
      let p = flat_map port_line m.ports in
      append_assoc (header_line m) (p ++ (n ++ (i ++ (a ++ end)))) rest
      ∙ ap (λ t. header_line m ++ t) (append_assoc p (n ++ (i ++ (a ++ end))) rest
      ∙ ap (λ t. p ++ t) (append_assoc n (i ++ (a ++ end)) rest
      ∙ ap (λ t. n ++ t) (append_assoc i (a ++ end) rest
      ∙ ap (λ t. i ++ t) (append_assoc a end rest))))

  -- the names of the declared nets are known
  pub declared_known : (m : ModuleView) → all_known names (module_texts m) ≡ true → list_all (λ n. has_text n.0 names) (declared m) ≡ true
  declared_known m known =
      let k0 = and_parts (has_text m.name names) (all_known names (port_names m.ports ++ (net_names m.nets ++ flat_map instance_texts m.instances))) known in
      let k1 = and_parts (all_known names (port_names m.ports)) (all_known names (net_names m.nets ++ flat_map instance_texts m.instances)) (sym (list_all-append (λ t. has_text t names) (port_names m.ports) (net_names m.nets ++ flat_map instance_texts m.instances)) ∙ k0.1) in
      let k2 = and_parts (all_known names (net_names m.nets)) (all_known names (flat_map instance_texts m.instances)) (sym (list_all-append (λ t. has_text t names) (net_names m.nets) (flat_map instance_texts m.instances)) ∙ k1.1) in
      known_pairs names (declared m) ∙ ap (all_known names) (names_of_declared m) ∙ list_all-append (λ t. has_text t names) (port_names m.ports) (net_names m.nets) ∙ and_from (all_known names (port_names m.ports)) (all_known names (net_names m.nets)) k1.0 k2.0

  -- one module
  pub module_steps : (m : ModuleView) (rest : List ℕ) (modules : List Module) (done : List (List ℕ)) → is_module m ≡ true → all_known names (module_texts m) ≡ true → all_known names done ≡ true → has_text m.name done ≡ false
      → Between names size o (range_of m) rest (modules ++ module_of names m ∷ []) (map (λ x. (id names x).0) done ++ (id names m.name).0 ∷ []) → Between names size o (range_of m) (module_text m ++ rest) modules (map (λ x. (id names x).0) done)
  module_steps m rest modules done h known known_done absent next =
      let g0 = and_parts (is_name m.name) _ h in
      let g1 = and_parts (list_all is_net (declared m)) _ g0.1 in
      let g2 = and_parts (distinct (names_of m)) _ g1.1 in
      let g3 = and_parts (list_all (is_instance (declared m)) m.instances) (list_all (is_assign (declared m)) m.assigns) g2.1 in
      let nets_split = and_parts (list_all is_net (port_nets m.ports)) (list_all is_net (net_nets m.nets)) (sym (list_all-append is_net (port_nets m.ports) (net_nets m.nets)) ∙ g1.0) in
      let k0 = and_parts (has_text m.name names) (all_known names (port_names m.ports ++ (net_names m.nets ++ flat_map instance_texts m.instances))) known in
      let k1 = and_parts (all_known names (port_names m.ports)) (all_known names (net_names m.nets ++ flat_map instance_texts m.instances)) (sym (list_all-append (λ t. has_text t names) (port_names m.ports) (net_names m.nets ++ flat_map instance_texts m.instances)) ∙ k0.1) in
      let k2 = and_parts (all_known names (net_names m.nets)) (all_known names (flat_map instance_texts m.instances)) (sym (list_all-append (λ t. has_text t names) (net_names m.nets) (flat_map instance_texts m.instances)) ∙ k1.1) in
      let known_declared = declared_known m known in
      let apart : distinct ((port_names m.ports ++ net_names m.nets) ++ instance_names m.instances) ≡ true = ap (λ x. distinct (x ++ instance_names m.instances)) (sym (names_of_declared m)) ∙ g2.0 in
      let apart_nets : distinct (port_names m.ports ++ net_names m.nets) ≡ true = distinct-append_left (port_names m.ports ++ net_names m.nets) (instance_names m.instances) apart in
      let apart_ports : distinct (port_names m.ports) ≡ true = distinct-append_left (port_names m.ports) (net_names m.nets) apart_nets in
      let ports_in = names_of_ports m.ports in
      let front_in : names_in (declared_ports m.ports ++ declared_nets m.nets) ≡ port_names m.ports ++ net_names m.nets = map-append (λ e. e.0) (declared_ports m.ports) (declared_nets m.nets) ∙ (λ j. ports_in j ++ names_of_nets m.nets j) in
      let front_known : all_known names (names_in (declared_ports m.ports ++ declared_nets m.nets)) ≡ true = ap (all_known names) front_in ∙ list_all-append (λ t. has_text t names) (port_names m.ports) (net_names m.nets) ∙ and_from (all_known names (port_names m.ports)) (all_known names (net_names m.nets)) k1.0 k2.0 in
      let front = declared_ports m.ports ++ declared_nets m.nets in
      let all_in : names_in (front ++ declared_instances m.instances) ≡ names_in front ++ instance_names m.instances = map-append (λ e. e.0) front (declared_instances m.instances) ∙ ap (λ x. names_in front ++ x) (names_of_instances m.instances) in
      let all_known_in : all_known names (names_in (front ++ declared_instances m.instances)) ≡ true = ap (all_known names) all_in ∙ list_all-append (λ t. has_text t names) (names_in front) (instance_names m.instances) ∙ and_from (all_known names (names_in front)) (all_known names (instance_names m.instances)) front_known (instances_known m.instances k2.1) in
      let taken = map (λ x. (id names x).0) done ++ (id names m.name).0 ∷ [] in
      let end = codes "endmodule\n" ++ rest in
      let assigns_text = flat_map (assign_line (range_of m)) m.assigns ++ end in
      let instances_text = flat_map (instance_line (range_of m)) m.instances ++ assigns_text in
      let nets_text = flat_map net_line m.nets ++ instances_text in
      let five = ended_module names size o (range_of m) modules taken (id names m.name) m.ports m.nets m.instances (map (instance_of names) m.instances) (map (assign_of names) m.assigns) rest next in
      let four = assigns_lines names size o m g1.0 known_declared modules taken (id names m.name) m.assigns end (declared_instances m.instances) (map (instance_of names) m.instances) [] g3.1 all_known_in five in
      let nil_known : all_known names (names_in (front ++ [])) ≡ true = ap (λ d. all_known names (names_in d)) (append-nil front) ∙ front_known in
      let nil_apart : distinct (names_in (front ++ []) ++ instance_names m.instances) ≡ true = ap (λ d. distinct (names_in d ++ instance_names m.instances)) (append-nil front) ∙ ap (λ x. distinct (x ++ instance_names m.instances)) front_in ∙ apart in
      let three = instances_lines names size o m g1.0 known_declared modules taken (id names m.name) m.instances assigns_text [] [] g3.0 k2.1 nil_known nil_apart four in
      let two = nets_lines names size o (range_of m) modules taken (id names m.name) m.nets instances_text (declared_ports m.ports) nets_split.1 k2.0 (ap (all_known names) ports_in ∙ k1.0) (ap (λ x. distinct (x ++ net_names m.nets)) ports_in ∙ apart_nets) (subst (λ d. Ready names size o (range_of m) modules taken (id names m.name) instances_text d [] []) (append-nil front) three) in
      let one = ports_lines names size o (range_of m) modules taken (id names m.name) m.ports nets_text [] nets_split.0 k1.0 refl apart_ports two in
      subst (λ t. Between names size o (range_of m) t modules (map (λ x. (id names x).0) done)) (sym (module_text_split m rest))
      (header_onward names size o (range_of m) m (flat_map port_line m.ports ++ nets_text) modules done (g0.0, k0.0) known_done absent (port_names_good m.ports nets_split.0) k1.0 apart_ports one)
