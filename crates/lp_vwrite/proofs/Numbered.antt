-- The names of a netlist over a table stand in that table.
use Rattle.std.proofs.Common.{◌≡◌, ℕ, ◌≤◌, Bool, true, List, [], ◌∷◌, ◌++◌, map, length, refl, sym, ◌∙◌}
use Rattle.std.specs.Prelude.{ltb, flat_map}
use Rattle.std.specs.List.{list_all}
use Rattle.std.proofs.lemmas.Bool.{and_parts, and_from, ltb-true}
use Rattle.std.proofs.lemmas.List.Folds.{list_all-append}
use Rattle.lp_text.specs.Texts.{has_text, has_text-at, text_at, distinct}
use Rattle.lp_model.specs.Agreement.{numbers_below}
use Rattle.lp_model.specs.declared.netlist.Connection.{Connection}
use Rattle.lp_model.specs.declared.netlist.Connections.{Connections}
use Rattle.lp_model.specs.declared.netlist.Connections.TheVariants.{Named, Ordered}
use Rattle.lp_model.specs.declared.netlist.Instance.{Instance}
use Rattle.lp_model.specs.declared.netlist.Port.{Port}
use Rattle.lp_model.specs.declared.netlist.NetDecl.{NetDecl}
use Rattle.lp_model.specs.declared.netlist.Module.{Module}
use Rattle.lp_model.specs.declared.netlist.Netlist.{Netlist}
use Rattle.lp_model.specs.NetlistView.{port_view, net_view, connections_view, instance_view, module_view, netlist_view, port_numbers, net_numbers, bits_numbers, connection_numbers, connections_numbers, instance_numbers, assign_numbers, module_numbers, netlist_numbers}
use Rattle.lp_vwrite.specs.WellFormed.{port_names_of, instance_texts, module_texts, HasTable}

module _ (names : List (List ℕ)) where
  abbrev known : List (List ℕ) → Bool
  known ts = list_all (λ t. has_text t names) ts

  abbrev below : List ℕ → Bool
  below ns = numbers_below (length names) ns

  here : (n : ℕ) → ltb n (length names) ≡ true → has_text (text_at names n) names ≡ true
  here n h = has_text-at names n (ltb-true n (length names) h)

  split : (xs ys : List ℕ) → below (xs ++ ys) ≡ true → (below xs ≡ true) × (below ys ≡ true)
  split xs ys h = and_parts (below xs) (below ys) (sym (list_all-append (λ n. ltb n (length names)) xs ys) ∙ h)

  join : (xs ys : List (List ℕ)) → known xs ≡ true → known ys ≡ true → known (xs ++ ys) ≡ true
  join xs ys h k = list_all-append (λ t. has_text t names) xs ys ∙ and_from (known xs) (known ys) h k

  each : {A : Type 0} (numbers : A → List ℕ) (texts : A → List (List ℕ)) → ((x : A) → below (numbers x) ≡ true → known (texts x) ≡ true) → (xs : List A) → below (flat_map numbers xs) ≡ true → known (flat_map texts xs) ≡ true
  each numbers texts one [] h = refl
  each numbers texts one (x ∷ xs) h =
      let parts = split (numbers x) (flat_map numbers xs) h in
      join (texts x) (flat_map texts xs) (one x parts.0) (each numbers texts one xs parts.1)

  ports_known : (ps : List Port) → below (flat_map port_numbers ps) ≡ true → known (map (λ p. p.name) (map (port_view names) ps)) ≡ true
  ports_known [] h = refl
  ports_known (p ∷ ps) h =
      let parts = and_parts (ltb p.name.0 (length names)) (below (flat_map port_numbers ps)) h in
      and_from (has_text (text_at names p.name.0) names) (known (map (λ x. x.name) (map (port_view names) ps))) (here p.name.0 parts.0) (ports_known ps parts.1)

  nets_known : (ns : List NetDecl) → below (flat_map net_numbers ns) ≡ true → known (map (λ n. n.name) (map (net_view names) ns)) ≡ true
  nets_known [] h = refl
  nets_known (n ∷ ns) h =
      let parts = and_parts (ltb n.name.0 (length names)) (below (flat_map net_numbers ns)) h in
      and_from (has_text (text_at names n.name.0) names) (known (map (λ x. x.name) (map (net_view names) ns))) (here n.name.0 parts.0) (nets_known ns parts.1)

  named_known : (cs : List Connection) → below (flat_map connection_numbers cs) ≡ true → known (port_names_of (connections_view names (Named cs))) ≡ true
  named_known [] h = refl
  named_known (c ∷ cs) h =
      let first = and_parts (ltb c.port.0 (length names)) (below (bits_numbers c.bits ++ flat_map connection_numbers cs)) h in
      let more = split (bits_numbers c.bits) (flat_map connection_numbers cs) first.1 in
      and_from (has_text (text_at names c.port.0) names) (known (port_names_of (connections_view names (Named cs)))) (here c.port.0 first.0) (named_known cs more.1)

  connections_known : (cs : Connections) → below (connections_numbers cs) ≡ true → known (port_names_of (connections_view names cs)) ≡ true
  connections_known (Named cs) h = named_known cs h
  connections_known (Ordered values) h = refl

  instance_known : (i : Instance) → below (instance_numbers i) ≡ true → known (instance_texts (instance_view names i)) ≡ true
  instance_known i h =
      let first = and_parts (ltb i.name.0 (length names)) (below (i.target.0 ∷ connections_numbers i.connections)) h in
      let second = and_parts (ltb i.target.0 (length names)) (below (connections_numbers i.connections)) first.1 in
      let ports = port_names_of (connections_view names i.connections) in
      and_from (has_text (text_at names i.name.0) names) (known (text_at names i.target.0 ∷ ports)) (here i.name.0 first.0)
      (and_from (has_text (text_at names i.target.0) names) (known ports) (here i.target.0 second.0) (connections_known i.connections second.1))

  instances_known : (is : List Instance) → below (flat_map instance_numbers is) ≡ true → known (flat_map instance_texts (map (instance_view names) is)) ≡ true
  instances_known [] h = refl
  instances_known (i ∷ is) h =
      let parts = split (instance_numbers i) (flat_map instance_numbers is) h in
      join (instance_texts (instance_view names i)) (flat_map instance_texts (map (instance_view names) is)) (instance_known i parts.0) (instances_known is parts.1)

  module_known : (m : Module) → below (module_numbers m) ≡ true → known (module_texts (module_view names m)) ≡ true
  module_known m h =
      let ports = flat_map port_numbers m.ports in
      let nets = flat_map net_numbers m.nets in
      let instances = flat_map instance_numbers m.instances in
      let assigns = flat_map assign_numbers m.assigns in
      let first = and_parts (ltb m.name.0 (length names)) (below (ports ++ (nets ++ (instances ++ assigns)))) h in
      let second = split ports (nets ++ (instances ++ assigns)) first.1 in
      let third = split nets (instances ++ assigns) second.1 in
      let fourth = split instances assigns third.1 in
      let v = module_view names m in
      let port_texts = map (λ p. p.name) v.ports in
      let net_texts = map (λ n. n.name) v.nets in
      let others = flat_map instance_texts v.instances in
      and_from (has_text (text_at names m.name.0) names) (known (port_texts ++ (net_texts ++ others))) (here m.name.0 first.0)
      (join port_texts (net_texts ++ others) (ports_known m.ports second.0) (join net_texts others (nets_known m.nets third.0) (instances_known m.instances fourth.0)))

  modules_known : (ms : List Module) → below (flat_map module_numbers ms) ≡ true → known (flat_map module_texts (map (module_view names) ms)) ≡ true
  modules_known [] h = refl
  modules_known (m ∷ ms) h =
      let parts = split (module_numbers m) (flat_map module_numbers ms) h in
      join (module_texts (module_view names m)) (flat_map module_texts (map (module_view names) ms)) (module_known m parts.0) (modules_known ms parts.1)

pub numbered_table : (names : List (List ℕ)) (n : Netlist) → distinct names ≡ true → length names ≤ 4294967295 → numbers_below (length names) (netlist_numbers n) ≡ true → HasTable (netlist_view names n)
numbered_table names n apart few below = record { names = names; apart = apart; few = few; known = modules_known names n.modules below }
