-- The text of well-formed modules denotes these modules, over a table of their names.
use Rattle.std.proofs.Common.{◌≡◌, ℕ, suc, ◌≤◌, Bool, true, false, not, List, [], ◌∷◌, ◌++◌, map, length, Option, None, refl, sym, ap, ◌∙◌, subst, append_assoc, arith}
use Rattle.std.specs.Prelude.{codes, ◌&&◌, ◌||◌, flat_map, if◌then◌else◌}
use Rattle.std.specs.List.{list_all}
use Rattle.std.proofs.lemmas.Bool.{and_parts, and_from, not_from_false}
use Rattle.std.proofs.lemmas.List.{append-nil, map-append, length-append}
use Rattle.std.proofs.lemmas.List.Folds.{list_all-append}
use Rattle.lp_text.specs.Texts.{same_text, same_text-true, true-same_text, has_text, has_text-append, distinct}
use Rattle.lp_model.specs.declared.netlist.BitRange.{BitRange}
use Rattle.lp_model.specs.declared.netlist.Module.{Module}
use Rattle.lp_model.specs.NetlistView.{PortView, NetView, ConnectionView, ConnectionsView, ByName, ByPosition, InstanceView, AssignView, ModuleView, port_view, net_view, connection_view, connections_view, instance_view, assign_view, module_view}
use Rattle.lp_verilog_grammar.specs.Machine.{start}
use Rattle.lp_verilog.specs.Reading.{Outcome, Whole}
use Rattle.lp_verilog.specs.Reads.{Reads}
use Rattle.lp_vwrite.specs.Layout.{name_text, after_comma, declared, range_of, connection_text, connections_text, header_line, port_line, net_line, instance_line, assign_line, module_text, layout}
use Rattle.lp_vwrite.specs.WellFormed.{is_name, is_net, is_bit, is_connection, are_connections, is_instance, is_assign, is_module, is_filled, is_constant, names_of, IsWellFormed, module_texts, instance_texts, port_names_of, HasTable}
use Rattle.lp_vwrite.proofs.Onward.{end_onward}
use Rattle.lp_vwrite.proofs.Parts.{id}
use Rattle.lp_vwrite.proofs.Scope.{all_known, text_known, absent_before}
use Rattle.lp_vwrite.proofs.Instances.{connection_of}
use Rattle.lp_vwrite.proofs.ItemSteps.{connections_of, instance_of, assign_of}
use Rattle.lp_vwrite.proofs.Facts.{bits_back}
use Rattle.lp_vwrite.proofs.ModuleSteps.{port_names, Between}
use Rattle.lp_vwrite.proofs.Bodies.{port_of, net_of, module_of, net_names}
use Rattle.lp_vwrite.proofs.WholeText.{module_steps, declared_known}

-- ---- a table of names

-- each text once
abbrev gathered : List (List ℕ) → List (List ℕ)
gathered [] = []
gathered (t ∷ ts) = if has_text t (gathered ts) then gathered ts else t ∷ gathered ts

gathered_distinct : (ts : List (List ℕ)) → distinct (gathered ts) ≡ true
gathered_distinct [] = refl
gathered_distinct (t ∷ ts) = by (has_text t (gathered ts)) refl (gathered_distinct ts)
  where
    by : (b : Bool) → has_text t (gathered ts) ≡ b → distinct (gathered ts) ≡ true → distinct (if b then gathered ts else t ∷ gathered ts) ≡ true
    by true e h = h
    by false e h = and_from (not (has_text t (gathered ts))) (distinct (gathered ts)) (not_from_false (has_text t (gathered ts)) e) h

gathered_short : (ts : List (List ℕ)) → length (gathered ts) ≤ length ts
gathered_short [] = omega arith
gathered_short (t ∷ ts) = by (has_text t (gathered ts)) (gathered_short ts)
  where
    by : (b : Bool) → length (gathered ts) ≤ length ts → length (if b then gathered ts else t ∷ gathered ts) ≤ suc (length ts)
    by true h = omega arith
    by false h = omega arith

gathered_has : (u : List ℕ) (ts : List (List ℕ)) → has_text u ts ≡ true → has_text u (gathered ts) ≡ true
gathered_has u [] h = absurd cc
gathered_has u (t ∷ ts) h = by (same_text u t) refl (has_text t (gathered ts)) refl (λ k. gathered_has u ts k)
  where
    by : (a : Bool) → same_text u t ≡ a → (b : Bool) → has_text t (gathered ts) ≡ b → (has_text u ts ≡ true → has_text u (gathered ts) ≡ true) → has_text u (if b then gathered ts else t ∷ gathered ts) ≡ true
    by true e true f later = let same = same_text-true u t e in subst (λ x. has_text x (gathered ts) ≡ true) (sym same) f
    by true e false f later = rw e refl
    by false e true f later = let there : has_text u ts ≡ true = rw e at h in later there
    by false e false f later = let there : has_text u ts ≡ true = rw e at h in rw e (later there)

or_true : (a b c : Bool) → b ≡ true → (a || (b || c)) ≡ true
or_true true b c h = refl
or_true false true c h = refl
or_true false false c h = absurd cc

known_tail : (xs ys : List (List ℕ)) → all_known (gathered (xs ++ ys)) ys ≡ true
known_tail xs [] = refl
known_tail xs (y ∷ ys) =
    let here : has_text y (xs ++ y ∷ ys) ≡ true = has_text-append y xs (y ∷ ys) ∙ or_true (has_text y xs) (same_text y y) (has_text y ys) (true-same_text y y refl) in
    let more : all_known (gathered (xs ++ y ∷ ys)) ys ≡ true = ap (λ z. all_known (gathered z) ys) (sym (append_assoc xs (y ∷ []) ys)) ∙ known_tail (xs ++ y ∷ []) ys in
    and_from (has_text y (gathered (xs ++ y ∷ ys))) (all_known (gathered (xs ++ y ∷ ys)) ys) (gathered_has y (xs ++ y ∷ ys) here) more

-- ---- a name takes a byte at least

flat_map_length : {A : Type 0} (f : A → List (List ℕ)) (g : A → List ℕ) → ((x : A) → length (f x) ≤ length (g x)) → (xs : List A) → length (flat_map f xs) ≤ length (flat_map g xs)
flat_map_length f g h [] = omega arith
flat_map_length f g h (x ∷ xs) =
    let more = flat_map_length f g h xs in
    let here = h x in
    let left = length-append (f x) (flat_map f xs) in
    let right = length-append (g x) (flat_map g xs) in
    omega (arith, more, here, left, right)

one_each : {A : Type 0} (f : A → List ℕ) (g : A → List ℕ) → ((x : A) → 1 ≤ length (g x)) → (xs : List A) → length (map f xs) ≤ length (flat_map g xs)
one_each f g h [] = omega arith
one_each f g h (x ∷ xs) =
    let more = one_each f g h xs in
    let here = h x in
    let right = length-append (g x) (flat_map g xs) in
    omega (arith, more, here, right)

connections_long : (ranges : List ℕ → Option BitRange) (cs : ConnectionsView) → length (port_names_of cs) ≤ length (connections_text ranges cs)
connections_long ranges (ByPosition values) = omega arith
connections_long ranges (ByName []) = omega arith
connections_long ranges (ByName (c ∷ cs)) =
    let more = one_each (λ x. x.port) (after_comma (connection_text ranges)) (λ x. omega arith) cs in
    let all = length-append (connection_text ranges c) (flat_map (after_comma (connection_text ranges)) cs) in
    omega (arith, more, all)

behind_long : (a b : List ℕ) → length b ≤ length (a ++ b)
behind_long a b = let all = length-append a b in omega (arith, all)

front_long : (a b : List ℕ) → length a ≤ length (a ++ b)
front_long a b = let all = length-append a b in omega (arith, all)

instance_long : (ranges : List ℕ → Option BitRange) (i : InstanceView) → length (instance_texts i) ≤ length (instance_line ranges i)
instance_long ranges i =
    let conns = connections_long ranges i.connections in
    let a = front_long (connections_text ranges i.connections) (codes ");\n") in
    let b = behind_long (name_text i.name) (32 ∷ 40 ∷ (connections_text ranges i.connections ++ codes ");\n")) in
    let d = behind_long (name_text i.target) (32 ∷ (name_text i.name ++ (32 ∷ 40 ∷ (connections_text ranges i.connections ++ codes ");\n")))) in
    omega (arith, conns, a, b, d)

module_long : (m : ModuleView) → length (module_texts m) ≤ length (module_text m)
module_long m =
    let end = codes "endmodule\n" in
    let a = flat_map (assign_line (range_of m)) m.assigns in
    let i = flat_map (instance_line (range_of m)) m.instances in
    let n = flat_map net_line m.nets in
    let p = flat_map port_line m.ports in
    let ports = one_each (λ x. x.name) port_line (λ x. omega arith) m.ports in
    let nets = one_each (λ x. x.name) net_line (λ x. omega arith) m.nets in
    let instances = flat_map_length instance_texts (instance_line (range_of m)) (instance_long (range_of m)) m.instances in
    let t1 = length-append (port_names m.ports) (net_names m.nets ++ flat_map instance_texts m.instances) in
    let t2 = length-append (net_names m.nets) (flat_map instance_texts m.instances) in
    let l1 = length-append (header_line m) (p ++ (n ++ (i ++ (a ++ end)))) in
    let l2 = length-append p (n ++ (i ++ (a ++ end))) in
    let l3 = length-append n (i ++ (a ++ end)) in
    let l4 = length-append i (a ++ end) in
    omega (arith, ports, nets, instances, t1, t2, l1, l2, l3, l4)

-- ---- modules are seen as they were

module _ (names : List (List ℕ)) where
  ports_back : (ps : List PortView) → all_known names (port_names ps) ≡ true → map (port_view names) (map (port_of names) ps) ≡ ps
  ports_back [] h = refl
  ports_back (p ∷ ps) h =
      let parts = and_parts (has_text p.name names) (all_known names (port_names ps)) h in
      let name = text_known names p.name parts.0 in
      let more = ports_back ps parts.1 in
      λ j. record { name = name j; direction = p.direction; range = p.range } ∷ more j

  nets_back : (ns : List NetView) → all_known names (net_names ns) ≡ true → map (net_view names) (map (net_of names) ns) ≡ ns
  nets_back [] h = refl
  nets_back (n ∷ ns) h =
      let parts = and_parts (has_text n.name names) (all_known names (net_names ns)) h in
      let name = text_known names n.name parts.0 in
      let more = nets_back ns parts.1 in
      λ j. record { name = name j; range = n.range } ∷ more j

  module _ (m : ModuleView) (good : list_all is_net (declared m) ≡ true) (known : list_all (λ n. has_text n.0 names) (declared m) ≡ true) where
    connected_back : (cs : List ConnectionView) → list_all (is_connection (declared m)) cs ≡ true → all_known names (map (λ c. c.port) cs) ≡ true → map (connection_view names) (map (connection_of names) cs) ≡ cs
    connected_back [] h k = refl
    connected_back (c ∷ cs) h k =
        let parts = and_parts (is_connection (declared m) c) (list_all (is_connection (declared m)) cs) h in
        let here = and_parts (is_name c.port) (list_all (is_bit (declared m)) c.bits) parts.0 in
        let numbers = and_parts (has_text c.port names) (all_known names (map (λ x. x.port) cs)) k in
        let port = text_known names c.port numbers.0 in
        let bits = bits_back names (declared m) good known c.bits here.1 in
        let more = connected_back cs parts.1 numbers.1 in
        λ j. record { port = port j; bits = bits j } ∷ more j

    connections_back : (cs : ConnectionsView) → are_connections (declared m) cs ≡ true → all_known names (port_names_of cs) ≡ true → connections_view names (connections_of names cs) ≡ cs
    connections_back (ByPosition values) h k = absurd cc
    connections_back (ByName cs) h k = ap (λ x. ByName x) (connected_back cs (and_parts (distinct (map (λ c. c.port) cs)) (list_all (is_connection (declared m)) cs) h).1 k)

    instances_back : (is : List InstanceView) → list_all (is_instance (declared m)) is ≡ true → all_known names (flat_map instance_texts is) ≡ true → map (instance_view names) (map (instance_of names) is) ≡ is
    instances_back [] h k = refl
    instances_back (i ∷ is) h k =
        let g = and_parts (is_instance (declared m) i) (list_all (is_instance (declared m)) is) h in
        let g1 = and_parts (is_name i.name) (is_name i.target && are_connections (declared m) i.connections) g.0 in
        let g2 = and_parts (is_name i.target) (are_connections (declared m) i.connections) g1.1 in
        let ks = and_parts (all_known names (instance_texts i)) (all_known names (flat_map instance_texts is)) (sym (list_all-append (λ t. has_text t names) (instance_texts i) (flat_map instance_texts is)) ∙ k) in
        let k1 = and_parts (has_text i.name names) (has_text i.target names && all_known names (port_names_of i.connections)) ks.0 in
        let k2 = and_parts (has_text i.target names) (all_known names (port_names_of i.connections)) k1.1 in
        let name = text_known names i.name k1.0 in
        let target = text_known names i.target k2.0 in
        let connections = connections_back i.connections g2.1 k2.1 in
        let more = instances_back is g.1 ks.1 in
        λ j. record { name = name j; target = target j; connections = connections j } ∷ more j

    assigns_back : (xs : List AssignView) → list_all (is_assign (declared m)) xs ≡ true → map (assign_view names) (map (assign_of names) xs) ≡ xs
    assigns_back [] h = refl
    assigns_back (a ∷ xs) h =
        let g = and_parts (is_assign (declared m) a) (list_all (is_assign (declared m)) xs) h in
        let g1 = and_parts (is_filled a.left) (is_filled a.right && (list_all (is_bit (declared m)) a.left && (list_all (is_bit (declared m)) a.right && list_all (λ b. not (is_constant b)) a.left))) g.0 in
        let g2 = and_parts (is_filled a.right) (list_all (is_bit (declared m)) a.left && (list_all (is_bit (declared m)) a.right && list_all (λ b. not (is_constant b)) a.left)) g1.1 in
        let g3 = and_parts (list_all (is_bit (declared m)) a.left) (list_all (is_bit (declared m)) a.right && list_all (λ b. not (is_constant b)) a.left) g2.1 in
        let g4 = and_parts (list_all (is_bit (declared m)) a.right) (list_all (λ b. not (is_constant b)) a.left) g3.1 in
        let left = bits_back names (declared m) good known a.left g3.0 in
        let right = bits_back names (declared m) good known a.right g4.0 in
        let more = assigns_back xs g.1 in
        λ j. record { left = left j; right = right j } ∷ more j

  module_back : (m : ModuleView) → is_module m ≡ true → all_known names (module_texts m) ≡ true → module_view names (module_of names m) ≡ m
  module_back m h k =
      let g0 = and_parts (is_name m.name) (list_all is_net (declared m) && (distinct (names_of m) && (list_all (is_instance (declared m)) m.instances && list_all (is_assign (declared m)) m.assigns))) h in
      let g1 = and_parts (list_all is_net (declared m)) (distinct (names_of m) && (list_all (is_instance (declared m)) m.instances && list_all (is_assign (declared m)) m.assigns)) g0.1 in
      let g2 = and_parts (distinct (names_of m)) (list_all (is_instance (declared m)) m.instances && list_all (is_assign (declared m)) m.assigns) g1.1 in
      let g3 = and_parts (list_all (is_instance (declared m)) m.instances) (list_all (is_assign (declared m)) m.assigns) g2.1 in
      let k0 = and_parts (has_text m.name names) (all_known names (port_names m.ports ++ (net_names m.nets ++ flat_map instance_texts m.instances))) k in
      let k1 = and_parts (all_known names (port_names m.ports)) (all_known names (net_names m.nets ++ flat_map instance_texts m.instances)) (sym (list_all-append (λ t. has_text t names) (port_names m.ports) (net_names m.nets ++ flat_map instance_texts m.instances)) ∙ k0.1) in
      let k2 = and_parts (all_known names (net_names m.nets)) (all_known names (flat_map instance_texts m.instances)) (sym (list_all-append (λ t. has_text t names) (net_names m.nets) (flat_map instance_texts m.instances)) ∙ k1.1) in
      let known = declared_known names 0 (Whole []) m k in
      let name = text_known names m.name k0.0 in
      let ports = ports_back m.ports k1.0 in
      let nets = nets_back m.nets k2.0 in
      let instances = instances_back m g1.0 known m.instances g3.0 k2.1 in
      let assigns = assigns_back m g1.0 known m.assigns g3.1 in
      λ j. record { name = name j; ports = ports j; nets = nets j; instances = instances j; assigns = assigns j }

  modules_back : (ms : List ModuleView) → list_all is_module ms ≡ true → all_known names (flat_map module_texts ms) ≡ true → map (module_view names) (map (module_of names) ms) ≡ ms
  modules_back [] h k = refl
  modules_back (m ∷ ms) h k =
      let g = and_parts (is_module m) (list_all is_module ms) h in
      let ks = and_parts (all_known names (module_texts m)) (all_known names (flat_map module_texts ms)) (sym (list_all-append (λ t. has_text t names) (module_texts m) (flat_map module_texts ms)) ∙ k) in
      let here = module_back m g.0 ks.0 in
      let more = modules_back ms g.1 ks.1 in
      λ j. here j ∷ more j

  -- ---- one module after another

  abbrev numbers : List (List ℕ) → List ℕ
  numbers ts = map (λ x. (id names x).0) ts

  abbrev no_ranges : List ℕ → Option BitRange
  no_ranges t = None

  modules_steps : (size : ℕ) (o : Outcome) (ms : List ModuleView) (modules : List Module) (done : List (List ℕ)) → list_all is_module ms ≡ true → all_known names (flat_map module_texts ms) ≡ true → all_known names done ≡ true → distinct (done ++ map (λ m. m.name) ms) ≡ true
      → Between names size o no_ranges [] (modules ++ map (module_of names) ms) (numbers (done ++ map (λ m. m.name) ms)) → Between names size o no_ranges (flat_map module_text ms) modules (numbers done)
  modules_steps size o [] modules done h k known apart next =
      subst (λ x. Between names size o no_ranges [] x (numbers done)) (append-nil modules) (subst (λ x. Between names size o no_ranges [] (modules ++ []) (numbers x)) (append-nil done) next)
  modules_steps size o (m ∷ ms) modules done h k known apart next =
      let g = and_parts (is_module m) (list_all is_module ms) h in
      let ks = and_parts (all_known names (module_texts m)) (all_known names (flat_map module_texts ms)) (sym (list_all-append (λ t. has_text t names) (module_texts m) (flat_map module_texts ms)) ∙ k) in
      let named = (and_parts (has_text m.name names) (all_known names (port_names m.ports ++ (net_names m.nets ++ flat_map instance_texts m.instances))) ks.0).0 in
      let later = map (λ x. x.name) ms in
      let pushed = done ++ m.name ∷ [] in
      let known_pushed : all_known names pushed ≡ true = list_all-append (λ t. has_text t names) done (m.name ∷ []) ∙ and_from (all_known names done) (all_known names (m.name ∷ [])) known (and_from (has_text m.name names) true named refl) in
      let all_names : pushed ++ later ≡ done ++ m.name ∷ later = append_assoc done (m.name ∷ []) later in
      let all_modules : (modules ++ module_of names m ∷ []) ++ map (module_of names) ms ≡ modules ++ map (module_of names) (m ∷ ms) = append_assoc modules (module_of names m ∷ []) (map (module_of names) ms) in
      let next_after = subst (λ x. Between names size o no_ranges [] x (numbers (pushed ++ later))) (sym all_modules) (subst (λ x. Between names size o no_ranges [] (modules ++ map (module_of names) (m ∷ ms)) (numbers x)) (sym all_names) next) in
      let others = modules_steps size o ms (modules ++ module_of names m ∷ []) pushed g.1 ks.1 known_pushed (ap distinct all_names ∙ apart) next_after in
      let taken : numbers pushed ≡ numbers done ++ (id names m.name).0 ∷ [] = map-append (λ x. (id names x).0) done (m.name ∷ []) in
      module_steps names size o m (flat_map module_text ms) modules done g.0 ks.0 known (absent_before done m.name later apart) (subst (λ x. Between names size o no_ranges (flat_map module_text ms) (modules ++ module_of names m ∷ []) x) taken others)

-- what is written reads back, over a table that has its names
pub read_back : (v : List ModuleView) → IsWellFormed v → HasTable v → Reads (layout v) v
unfolding layout
read_back v h t =
    let parts = and_parts (distinct (map (λ m. m.name) v)) (list_all is_module v) h in
    let names = t.names in
    let modules = map (module_of names) v in
    let size = length (flat_map module_text v) in
    let steps = modules_steps names size (Whole modules) v [] [] parts.1 t.known refl parts.0 (λ d declaring target n p positional side s q i. end_onward names size (Whole modules) _ refl) in
    let led = steps start.draft start.declaring start.joint.target start.joint.name start.joint.port start.joint.positional start.value.side start.value.subject start.value.range start.value.index true [] refl in
    record {
      names = names;
      modules = modules;
      apart = t.apart;
      few = t.few;
      denotes = record { tokens = led.0; leads = led.1 };
      seen = sym (modules_back names v parts.1 t.known);
    }

-- the names of a text that is not too long are few enough for a table
pub short_table : (v : List ModuleView) → length (layout v) ≤ 67108864 → HasTable v
unfolding layout
short_table v short =
    let texts = flat_map module_texts v in
    record {
      names = gathered texts;
      apart = gathered_distinct texts;
      few = let a = gathered_short texts in let b = flat_map_length module_texts module_text module_long v in omega (arith, a, b);
      known = known_tail [] texts;
    }
