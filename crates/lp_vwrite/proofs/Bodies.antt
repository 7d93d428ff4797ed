-- Steps over whole modules, one after another.
use Rattle.std.proofs.Common.{◌≡◌, ℕ, true, false, List, [], ◌∷◌, ◌++◌, map, Option, None, refl, sym, ap, ◌∙◌, subst, append_assoc}
use Rattle.std.specs.Prelude.{codes, ◌&&◌, not, flat_map}
use Rattle.std.specs.List.{list_all}
use Rattle.std.proofs.lemmas.Bool.{and_parts, and_from}
use Rattle.std.proofs.lemmas.List.{append-nil, map-append}
use Rattle.std.proofs.lemmas.List.Folds.{list_all-append}
use Rattle.lp_text.specs.Texts.{has_text, distinct}
use Rattle.lp_text.specs.declared.names.NameId.{NameId}
use Rattle.lp_model.specs.declared.netlist.BitRange.{BitRange}
use Rattle.lp_model.specs.declared.netlist.Port.{Port}
use Rattle.lp_model.specs.declared.netlist.NetDecl.{NetDecl}
use Rattle.lp_model.specs.declared.netlist.Instance.{Instance}
use Rattle.lp_model.specs.declared.netlist.Assign.{Assign}
use Rattle.lp_model.specs.declared.netlist.Module.{Module}
use Rattle.lp_model.specs.NetlistView.{PortView, NetView, ConnectionsView, ByName, ByPosition, InstanceView, AssignView, ModuleView}
use Rattle.lp_verilog_grammar.specs.declared.reader.Reader.{Reader}
use Rattle.lp_verilog_draft.specs.Scopes.{Entries, ports_of, nets_of, lacking_of}
use Rattle.lp_verilog_draft.specs.Steps as draft
use Rattle.lp_verilog_draft.specs.Verdicts.{Goes, and_then}
use Rattle.lp_verilog_grammar.specs.declared.symbol.Symbol.TheVariants as symbols
use Rattle.lp_verilog_grammar.specs.Machine.{finish_module}
use Rattle.lp_verilog.specs.Reading.{Outcome}
use Rattle.lp_vwrite.specs.Layout.{declared, range_of, port_line, net_line, instance_line, assign_line}
use Rattle.lp_vwrite.specs.WellFormed.{is_name, is_range, is_net, is_bit, is_connection, are_connections, is_instance, is_assign, is_filled, is_constant, port_names_of, instance_texts}
use Rattle.lp_vwrite.proofs.Onward.{Then, Onward}
use Rattle.lp_vwrite.proofs.Parts.{id, line_onward, endmodule_onward}
use Rattle.lp_vwrite.proofs.Scope.{Declared, port_entry, listed_entry, wire_entry, instance_entry, names_in, plain, keyed, all_known, is_net_entry, absent_before, ports-plain, nets-plain, lacking-plain}
use Rattle.lp_vwrite.proofs.ItemSteps.{Ready, at_items, instance_of, assign_of, port_onward, net_onward, instance_onward, assign_onward_line}
use Rattle.lp_vwrite.proofs.Facts.{Nets, bits_fact, connections_fact, left_allowed}
use Rattle.lp_vwrite.proofs.ModuleSteps.{listed_ports, port_names, Between}

-- ---- what is read of a module

abbrev pub port_of : List (List ℕ) → PortView → Port
port_of names p = record { name = id names p.name; range = p.range; direction = p.direction }

abbrev pub net_of : List (List ℕ) → NetView → NetDecl
net_of names n = record { name = id names n.name; range = n.range }

abbrev pub module_of : List (List ℕ) → ModuleView → Module
module_of names m = record {
  name = id names m.name;
  ports = map (port_of names) m.ports;
  nets = map (net_of names) m.nets;
  instances = map (instance_of names) m.instances;
  assigns = map (assign_of names) m.assigns;
}

-- ---- what a module declares

abbrev pub declared_ports : List PortView → Declared
declared_ports ps = map (λ p. (p.name, port_entry p)) ps

abbrev pub declared_nets : List NetView → Declared
declared_nets ns = map (λ n. (n.name, wire_entry n)) ns

abbrev pub declared_instances : List InstanceView → Declared
declared_instances is = map (λ i. (i.name, instance_entry)) is

abbrev pub net_names : List NetView → List (List ℕ)
net_names ns = map (λ n. n.name) ns

abbrev pub instance_names : List InstanceView → List (List ℕ)
instance_names is = map (λ i. i.name) is

names_of_listed : (ps : List PortView) → names_in (listed_ports ps) ≡ port_names ps
names_of_listed [] = refl
names_of_listed (p ∷ ps) = ap (λ (t : List (List ℕ)). p.name ∷ t) (names_of_listed ps)

pub names_of_ports : (ps : List PortView) → names_in (declared_ports ps) ≡ port_names ps
names_of_ports [] = refl
names_of_ports (p ∷ ps) = ap (λ (t : List (List ℕ)). p.name ∷ t) (names_of_ports ps)

pub names_of_nets : (ns : List NetView) → names_in (declared_nets ns) ≡ net_names ns
names_of_nets [] = refl
names_of_nets (n ∷ ns) = ap (λ (t : List (List ℕ)). n.name ∷ t) (names_of_nets ns)

pub names_of_instances : (is : List InstanceView) → names_in (declared_instances is) ≡ instance_names is
names_of_instances [] = refl
names_of_instances (i ∷ is) = ap (λ (t : List (List ℕ)). i.name ∷ t) (names_of_instances is)

-- the names of a list with one more, whatever it stands for
names_push : (d x : Declared) (rest : List (List ℕ)) → names_in (d ++ x) ++ rest ≡ names_in d ++ (names_in x ++ rest)
names_push d x rest = ap (λ t. t ++ rest) (map-append (λ e. e.0) d x) ∙ append_assoc (names_in d) (names_in x) rest

names_known : (names : List (List ℕ)) (d x : Declared) → all_known names (names_in d) ≡ true → all_known names (names_in x) ≡ true → all_known names (names_in (d ++ x)) ≡ true
names_known names d x h k = ap (all_known names) (map-append (λ e. e.0) d x) ∙ list_all-append (λ t. has_text t names) (names_in d) (names_in x) ∙ and_from (all_known names (names_in d)) (all_known names (names_in x)) h k

pub port_names_good : (ps : List PortView) → list_all is_net (map (λ p. (p.name, p.range)) ps) ≡ true → list_all is_name (port_names ps) ≡ true
port_names_good [] h = refl
port_names_good (p ∷ ps) h =
    let parts = and_parts (is_net (p.name, p.range)) (list_all is_net (map (λ x. (x.name, x.range)) ps)) h in
    and_from (is_name p.name) (list_all is_name (port_names ps)) (and_parts (is_name p.name) (is_range p.range) parts.0).0 (port_names_good ps parts.1)

-- ---- the scope at the end of a module

ports_at_end : (names : List (List ℕ)) (ps : List PortView) (rest : Entries) → ports_of (keyed names (declared_ports ps) ++ rest) ≡ map (port_of names) ps ++ ports_of rest
ports_at_end names [] rest = refl
ports_at_end names (p ∷ ps) rest = ap (λ (t : List Port). port_of names p ∷ t) (ports_at_end names ps rest)

ports_of_nets : (names : List (List ℕ)) (ns : List NetView) (rest : Entries) → ports_of (keyed names (declared_nets ns) ++ rest) ≡ ports_of rest
ports_of_nets names [] rest = refl
ports_of_nets names (n ∷ ns) rest = ports_of_nets names ns rest

ports_of_instances : (names : List (List ℕ)) (is : List InstanceView) → ports_of (keyed names (declared_instances is)) ≡ []
ports_of_instances names [] = refl
ports_of_instances names (i ∷ is) = ports_of_instances names is

nets_of_ports : (names : List (List ℕ)) (ps : List PortView) (rest : Entries) → nets_of (keyed names (declared_ports ps) ++ rest) ≡ nets_of rest
nets_of_ports names [] rest = refl
nets_of_ports names (p ∷ ps) rest = nets_of_ports names ps rest

nets_at_end : (names : List (List ℕ)) (ns : List NetView) (rest : Entries) → nets_of (keyed names (declared_nets ns) ++ rest) ≡ map (net_of names) ns ++ nets_of rest
nets_at_end names [] rest = refl
nets_at_end names (n ∷ ns) rest = ap (λ (t : List NetDecl). net_of names n ∷ t) (nets_at_end names ns rest)

nets_of_instances : (names : List (List ℕ)) (is : List InstanceView) → nets_of (keyed names (declared_instances is)) ≡ []
nets_of_instances names [] = refl
nets_of_instances names (i ∷ is) = nets_of_instances names is

lacking_ports : (names : List (List ℕ)) (ps : List PortView) (rest : Entries) → lacking_of (keyed names (declared_ports ps) ++ rest) ≡ lacking_of rest
lacking_ports names [] rest = refl
lacking_ports names (p ∷ ps) rest = lacking_ports names ps rest

lacking_nets : (names : List (List ℕ)) (ns : List NetView) (rest : Entries) → lacking_of (keyed names (declared_nets ns) ++ rest) ≡ lacking_of rest
lacking_nets names [] rest = refl
lacking_nets names (n ∷ ns) rest = lacking_nets names ns rest

lacking_instances : (names : List (List ℕ)) (is : List InstanceView) → lacking_of (keyed names (declared_instances is)) ≡ None
lacking_instances names [] = refl
lacking_instances names (i ∷ is) = lacking_instances names is

abbrev all_declared : List PortView → List NetView → List InstanceView → Declared
all_declared ps ns is = (declared_ports ps ++ declared_nets ns) ++ declared_instances is

keyed_all : (names : List (List ℕ)) (ps : List PortView) (ns : List NetView) (is : List InstanceView) → keyed names (all_declared ps ns is) ≡ keyed names (declared_ports ps) ++ (keyed names (declared_nets ns) ++ keyed names (declared_instances is))
keyed_all names ps ns is =
    map-append (λ e. ((id names e.0).0, e.1)) (declared_ports ps ++ declared_nets ns) (declared_instances is)
    ∙ ap (λ t. t ++ keyed names (declared_instances is)) (map-append (λ e. ((id names e.0).0, e.1)) (declared_ports ps) (declared_nets ns))
    ∙ append_assoc (keyed names (declared_ports ps)) (keyed names (declared_nets ns)) (keyed names (declared_instances is))

finish_read : (m : Reader) (x : Module) → lacking_of m.draft.scope ≡ None → draft.module_of m.draft ≡ x → finish_module m ≡ Goes (record m { modules = m.modules ++ x ∷ []; draft = draft.module_named m.draft.name })
finish_read m x h e = ap (λ r. and_then (draft.end_by m.draft r) (λ module_. Goes (record m { modules = m.modules ++ module_ ∷ []; draft = draft.module_named m.draft.name }))) h ∙ ap (λ y. Goes (record m { modules = m.modules ++ y ∷ []; draft = draft.module_named m.draft.name })) e

module _ (names : List (List ℕ)) (size : ℕ) (o : Outcome) where
  module _ (ranges : List ℕ → Option BitRange) (modules : List Module) (taken : List ℕ) (name : NameId) where
    abbrev Go : List ℕ → Declared → List Instance → List Assign → Type 0
    Go rest d insts assigns = Ready names size o ranges modules taken name rest d insts assigns

    pub ports_lines : (ps : List PortView) (rest : List ℕ) (done : Declared) → list_all is_net (map (λ p. (p.name, p.range)) ps) ≡ true → all_known names (port_names ps) ≡ true → all_known names (names_in done) ≡ true → distinct (names_in done ++ port_names ps) ≡ true → Go rest (done ++ declared_ports ps) [] [] → Go (flat_map port_line ps ++ rest) (done ++ listed_ports ps) [] []
    ports_lines [] rest done good known known_done apart next = next
    ports_lines (p ∷ ps) rest done good known known_done apart next =
        let g = and_parts (is_net (p.name, p.range)) (list_all is_net (map (λ x. (x.name, x.range)) ps)) good in
        let h = and_parts (is_name p.name) (is_range p.range) g.0 in
        let k = and_parts (has_text p.name names) (all_known names (port_names ps)) known in
        let here : Declared = (p.name, port_entry p) ∷ [] in
        let behind = flat_map port_line ps ++ rest in
        let known_listed : all_known names (names_in (done ++ (p.name, listed_entry) ∷ listed_ports ps)) ≡ true = names_known names done ((p.name, listed_entry) ∷ listed_ports ps) known_done (and_from (has_text p.name names) (all_known names (names_in (listed_ports ps))) k.0 (ap (all_known names) (names_of_listed ps) ∙ k.1)) in
        let all : (done ++ here) ++ declared_ports ps ≡ done ++ declared_ports (p ∷ ps) = append_assoc done here (declared_ports ps) in
        let others = ports_lines ps rest (done ++ here) g.1 k.1 (names_known names done here known_done (and_from (has_text p.name names) true k.0 refl)) (ap distinct (names_push done here (port_names ps)) ∙ apart) (subst (λ d. Go rest d [] []) (sym all) next) in
        let one = port_onward names size o ranges modules taken name p behind done (listed_ports ps) [] [] (h.0, k.0) h.1 known_listed known_done (absent_before (names_in done) p.name (port_names ps) apart) (subst (λ d. Go behind d [] []) (append_assoc done here (listed_ports ps)) others) in
        subst (λ t. Go t (done ++ listed_ports (p ∷ ps)) [] []) (sym (append_assoc (port_line p) (flat_map port_line ps) rest)) one

    pub nets_lines : (ns : List NetView) (rest : List ℕ) (done : Declared) → list_all is_net (map (λ n. (n.name, n.range)) ns) ≡ true → all_known names (net_names ns) ≡ true → all_known names (names_in done) ≡ true → distinct (names_in done ++ net_names ns) ≡ true → Go rest (done ++ declared_nets ns) [] [] → Go (flat_map net_line ns ++ rest) done [] []
    nets_lines [] rest done good known known_done apart next = subst (λ d. Go rest d [] []) (append-nil done) next
    nets_lines (n ∷ ns) rest done good known known_done apart next =
        let g = and_parts (is_net (n.name, n.range)) (list_all is_net (map (λ x. (x.name, x.range)) ns)) good in
        let h = and_parts (is_name n.name) (is_range n.range) g.0 in
        let k = and_parts (has_text n.name names) (all_known names (net_names ns)) known in
        let here : Declared = (n.name, wire_entry n) ∷ [] in
        let behind = flat_map net_line ns ++ rest in
        let all : (done ++ here) ++ declared_nets ns ≡ done ++ declared_nets (n ∷ ns) = append_assoc done here (declared_nets ns) in
        let others = nets_lines ns rest (done ++ here) g.1 k.1 (names_known names done here known_done (and_from (has_text n.name names) true k.0 refl)) (ap distinct (names_push done here (net_names ns)) ∙ apart) (subst (λ d. Go rest d [] []) (sym all) next) in
        let one = net_onward names size o ranges modules taken name n behind done [] [] (h.0, k.0) h.1 known_done (absent_before (names_in done) n.name (net_names ns) apart) others in
        subst (λ t. Go t done [] []) (sym (append_assoc (net_line n) (flat_map net_line ns) rest)) one

    -- the end of a module
    pub ended_module : (ps : List PortView) (ns : List NetView) (is : List InstanceView) (insts : List Instance) (assigns : List Assign) (rest : List ℕ) → Between names size o ranges rest (modules ++ record { name = name; ports = map (port_of names) ps; nets = map (net_of names) ns; instances = insts; assigns = assigns } ∷ []) taken → Go (codes "endmodule\n" ++ rest) (all_declared ps ns is) insts assigns
    ended_module ps ns is insts assigns rest next = λ scope e declaring t n p positional side s q i.
        let x : Module = record { name = name; ports = map (port_of names) ps; nets = map (net_of names) ns; instances = insts; assigns = assigns } in
        let seen : plain scope ≡ keyed names (declared_ports ps) ++ (keyed names (declared_nets ns) ++ keyed names (declared_instances is)) = e ∙ keyed_all names ps ns is in
        let ports : ports_of scope ≡ map (port_of names) ps =
        sym (ports-plain scope) ∙ ap ports_of seen ∙ ports_at_end names ps (keyed names (declared_nets ns) ++ keyed names (declared_instances is))
        ∙ ap (λ t. map (port_of names) ps ++ t) (ports_of_nets names ns (keyed names (declared_instances is)) ∙ ports_of_instances names is) ∙ append-nil (map (port_of names) ps)
        in
        let nets : nets_of scope ≡ map (net_of names) ns =
        sym (nets-plain scope) ∙ ap nets_of seen ∙ nets_of_ports names ps (keyed names (declared_nets ns) ++ keyed names (declared_instances is))
        ∙ nets_at_end names ns (keyed names (declared_instances is)) ∙ ap (λ t. map (net_of names) ns ++ t) (nets_of_instances names is) ∙ append-nil (map (net_of names) ns)
        in
        let none : lacking_of scope ≡ None =
        lacking-plain scope (ap lacking_of seen ∙ lacking_ports names ps (keyed names (declared_nets ns) ++ keyed names (declared_instances is)) ∙ lacking_nets names ns (keyed names (declared_instances is)) ∙ lacking_instances names is)
        in
        let m : Reader = record (at_items names size o ranges modules taken name scope insts assigns declaring t n p positional side s q i) { waiting = symbols.Source ∷ [] } in
        let made : draft.module_of m.draft ≡ x = (λ j. record { name = name; ports = ports j; nets = nets j; instances = insts; assigns = assigns }) in
        endmodule_onward names size o rest (at_items names size o ranges modules taken name scope insts assigns declaring t n p positional side s q i) (λ at.
        subst (Then (Onward names size o (10 ∷ rest))) (sym (finish_read m x none made))
        (line_onward names size o rest _ (next (draft.module_named name) declaring t n p positional side s q i)))

-- ---- instances and assigns

entries_of_ports : (names : List (List ℕ)) (ps : List PortView) (rest : Declared) → list_all (is_net_entry names) rest ≡ true → list_all (is_net_entry names) (declared_ports ps ++ rest) ≡ true
entries_of_ports names [] rest h = h
entries_of_ports names (p ∷ ps) rest h = entries_of_ports names ps rest h

entries_of_nets : (names : List (List ℕ)) (ns : List NetView) → list_all (is_net_entry names) (declared_nets ns) ≡ true
entries_of_nets names [] = refl
entries_of_nets names (n ∷ ns) = entries_of_nets names ns

abbrev ranges_in : Declared → Nets
ranges_in d = map (λ e. (e.0, e.1.range)) d

abbrev pub port_nets : List PortView → Nets
port_nets ps = map (λ p. (p.name, p.range)) ps

abbrev pub net_nets : List NetView → Nets
net_nets ns = map (λ n. (n.name, n.range)) ns

ranges_of_ports : (ps : List PortView) → ranges_in (declared_ports ps) ≡ port_nets ps
ranges_of_ports [] = refl
ranges_of_ports (p ∷ ps) = ap (λ (t : Nets). (p.name, p.range) ∷ t) (ranges_of_ports ps)

ranges_of_nets : (ns : List NetView) → ranges_in (declared_nets ns) ≡ net_nets ns
ranges_of_nets [] = refl
ranges_of_nets (n ∷ ns) = ap (λ (t : Nets). (n.name, n.range) ∷ t) (ranges_of_nets ns)

module _ (names : List (List ℕ)) (size : ℕ) (o : Outcome) (m : ModuleView)
    (good : list_all is_net (declared m) ≡ true) (known_nets : list_all (λ n. has_text n.0 names) (declared m) ≡ true)
    (modules : List Module) (taken : List ℕ) (name : NameId) where
  abbrev Goes_on : List ℕ → Declared → List Instance → List Assign → Type 0
  Goes_on rest d insts assigns = Ready names size o (range_of m) modules taken name rest d insts assigns

  -- what the module declares as nets
  abbrev front : Declared
  front = declared_ports m.ports ++ declared_nets m.nets

  fixed : list_all (is_net_entry names) front ≡ true
  fixed = entries_of_ports names m.ports (declared_nets m.nets) (entries_of_nets names m.nets)

  ranged : ranges_in front ≡ declared m
  ranged = map-append (λ e. (e.0, e.1.range)) (declared_ports m.ports) (declared_nets m.nets) ∙ (λ j. ranges_of_ports m.ports j ++ ranges_of_nets m.nets j)

  instance_line_by : (i : InstanceView) (cs : ConnectionsView) → i.connections ≡ cs → (rest : List ℕ) (more : Declared) (insts : List Instance) → is_name i.name ≡ true → is_name i.target ≡ true → are_connections (declared m) cs ≡ true → has_text i.name names ≡ true → has_text i.target names ≡ true → all_known names (port_names_of cs) ≡ true → all_known names (names_in (front ++ more)) ≡ true → has_text i.name (names_in (front ++ more)) ≡ false
      → Goes_on rest (front ++ (more ++ (i.name, instance_entry) ∷ [])) (insts ++ instance_of names (record { name = i.name; target = i.target; connections = cs }) ∷ []) []
      → Goes_on (instance_line (range_of m) (record { name = i.name; target = i.target; connections = cs }) ++ rest) (front ++ more) insts []
  instance_line_by i (ByPosition values) e rest more insts n t c kn kt kp known absent next = absurd cc
  instance_line_by i (ByName cs) e rest more insts n t c kn kt kp known absent next =
      let parts = and_parts (distinct (map (λ x. x.port) cs)) (list_all (is_connection (declared m)) cs) c in
      let here : Declared = (i.name, instance_entry) ∷ [] in
      let joined : (front ++ more) ++ here ≡ front ++ (more ++ here) = append_assoc front more here in
      let all : all_known names (names_in (front ++ (more ++ here))) ≡ true = ap (λ d. all_known names (names_in d)) (sym joined) ∙ names_known names (front ++ more) here known (and_from (has_text i.name names) true kn refl) in
      instance_onward names size o (range_of m) modules taken name i.target i.name cs rest (front ++ more) insts [] (t, kt) (n, kn) known absent
      (λ es is. connections_fact names (declared m) good known_nets size o front (more ++ here) fixed ranged all es (is ∙ ap (keyed names) joined) cs parts.1 kp)
      (subst (λ d. Goes_on rest d (insts ++ instance_of names (record { name = i.name; target = i.target; connections = ByName cs }) ∷ []) []) (sym joined) next)

  pub instances_lines : (is : List InstanceView) (rest : List ℕ) (more : Declared) (insts : List Instance) → list_all (is_instance (declared m)) is ≡ true → all_known names (flat_map instance_texts is) ≡ true → all_known names (names_in (front ++ more)) ≡ true → distinct (names_in (front ++ more) ++ instance_names is) ≡ true
      → Goes_on rest (front ++ (more ++ declared_instances is)) (insts ++ map (instance_of names) is) [] → Goes_on (flat_map (instance_line (range_of m)) is ++ rest) (front ++ more) insts []
  instances_lines [] rest more insts h k known apart next =
      subst (λ d. Goes_on rest (front ++ d) insts []) (append-nil more) (subst (λ x. Goes_on rest (front ++ (more ++ [])) x []) (append-nil insts) next)
  instances_lines (i ∷ is) rest more insts h k known apart next =
      let g = and_parts (is_instance (declared m) i) (list_all (is_instance (declared m)) is) h in
      let g1 = and_parts (is_name i.name) (is_name i.target && are_connections (declared m) i.connections) g.0 in
      let g2 = and_parts (is_name i.target) (are_connections (declared m) i.connections) g1.1 in
      let ks = and_parts (all_known names (instance_texts i)) (all_known names (flat_map instance_texts is)) (sym (list_all-append (λ t. has_text t names) (instance_texts i) (flat_map instance_texts is)) ∙ k) in
      let k1 = and_parts (has_text i.name names) (has_text i.target names && all_known names (port_names_of i.connections)) ks.0 in
      let k2 = and_parts (has_text i.target names) (all_known names (port_names_of i.connections)) k1.1 in
      let here : Declared = (i.name, instance_entry) ∷ [] in
      let behind = flat_map (instance_line (range_of m)) is ++ rest in
      let joined : (front ++ more) ++ here ≡ front ++ (more ++ here) = append_assoc front more here in
      let known_next : all_known names (names_in (front ++ (more ++ here))) ≡ true = ap (λ d. all_known names (names_in d)) (sym joined) ∙ names_known names (front ++ more) here known (and_from (has_text i.name names) true k1.0 refl) in
      let apart_next : distinct (names_in (front ++ (more ++ here)) ++ instance_names is) ≡ true = ap (λ d. distinct (names_in d ++ instance_names is)) (sym joined) ∙ ap distinct (names_push (front ++ more) here (instance_names is)) ∙ apart in
      let all : (more ++ here) ++ declared_instances is ≡ more ++ declared_instances (i ∷ is) = append_assoc more here (declared_instances is) in
      let insts_all : (insts ++ instance_of names i ∷ []) ++ map (instance_of names) is ≡ insts ++ map (instance_of names) (i ∷ is) = append_assoc insts (instance_of names i ∷ []) (map (instance_of names) is) in
      let others = instances_lines is rest (more ++ here) (insts ++ instance_of names i ∷ []) g.1 ks.1 known_next apart_next (subst (λ d. Goes_on rest (front ++ d) ((insts ++ instance_of names i ∷ []) ++ map (instance_of names) is) []) (sym all) (subst (λ x. Goes_on rest (front ++ (more ++ declared_instances (i ∷ is))) x []) (sym insts_all) next)) in
      let one = instance_line_by i i.connections refl behind more insts g1.0 g2.0 g2.1 k1.0 k2.0 k2.1 known (absent_before (names_in (front ++ more)) i.name (instance_names is) apart) others in
      subst (λ t. Goes_on t (front ++ more) insts []) (sym (append_assoc (instance_line (range_of m) i) (flat_map (instance_line (range_of m)) is) rest)) one

  pub assigns_lines : (xs : List AssignView) (rest : List ℕ) (more : Declared) (insts : List Instance) (assigns : List Assign) → list_all (is_assign (declared m)) xs ≡ true → all_known names (names_in (front ++ more)) ≡ true → Goes_on rest (front ++ more) insts (assigns ++ map (assign_of names) xs) → Goes_on (flat_map (assign_line (range_of m)) xs ++ rest) (front ++ more) insts assigns
  assigns_lines [] rest more insts assigns h known next = subst (λ x. Goes_on rest (front ++ more) insts x) (append-nil assigns) next
  assigns_lines (a ∷ xs) rest more insts assigns h known next =
      let g = and_parts (is_assign (declared m) a) (list_all (is_assign (declared m)) xs) h in
      let g1 = and_parts (is_filled a.left) (is_filled a.right && (list_all (is_bit (declared m)) a.left && (list_all (is_bit (declared m)) a.right && list_all (λ b. not (is_constant b)) a.left))) g.0 in
      let g2 = and_parts (is_filled a.right) (list_all (is_bit (declared m)) a.left && (list_all (is_bit (declared m)) a.right && list_all (λ b. not (is_constant b)) a.left)) g1.1 in
      let g3 = and_parts (list_all (is_bit (declared m)) a.left) (list_all (is_bit (declared m)) a.right && list_all (λ b. not (is_constant b)) a.left) g2.1 in
      let g4 = and_parts (list_all (is_bit (declared m)) a.right) (list_all (λ b. not (is_constant b)) a.left) g3.1 in
      let behind = flat_map (assign_line (range_of m)) xs ++ rest in
      let all : (assigns ++ assign_of names a ∷ []) ++ map (assign_of names) xs ≡ assigns ++ map (assign_of names) (a ∷ xs) = append_assoc assigns (assign_of names a ∷ []) (map (assign_of names) xs) in
      let others = assigns_lines xs rest more insts (assigns ++ assign_of names a ∷ []) g.1 known (subst (λ x. Goes_on rest (front ++ more) insts x) (sym all) next) in
      let one = assign_onward_line names size o (range_of m) modules taken name a behind (front ++ more) insts assigns g1.0 g2.0 (left_allowed a.left g4.1)
      (λ es is. (bits_fact names (declared m) good known_nets size o front more fixed ranged known es is a.left g3.0, bits_fact names (declared m) good known_nets size o front more fixed ranged known es is a.right g4.0)) others
      in
      subst (λ t. Goes_on t (front ++ more) insts assigns) (sym (append_assoc (assign_line (range_of m) a) (flat_map (assign_line (range_of m)) xs) rest)) one
