-- The netlist of a module that fits its cells, and its tests.
use Rattle.std.proofs.Common.{◌≡◌, ℕ, Bool, true, false, not, ◌&&◌, cond, List, [], ◌∷◌, ◌++◌, map, Option, Some, None, refl, sym, ◌∙◌, ap, append_assoc}
use Rattle.std.specs.Prelude.{bytes_eq, is_some}
use Rattle.std.specs.List.{list_all}
use Rattle.std.specs.Map.{lookup}
use Rattle.std.proofs.lemmas.Bool.{false≢true, and_parts, and_from, or_parts}
use Rattle.std.proofs.lemmas.List.{map-append}
use Rattle.lp_text.specs.Texts.{same_text, same_text_comm, true-same_text, has_text, has_text-append, distinct}
use Rattle.lp_model.specs.declared.netlist.BitRange.{BitRange}
use Rattle.lp_model.specs.NetlistView.{BitView, NetBit, SelectBit, ConstBit, PortView, NetView, ConnectionView, ConnectionsView, ByName, ByPosition, InstanceView, ModuleView}
use Rattle.lp_model.specs.LibraryView.{PinView, PgPinView, CellView}
use Rattle.lp_spec_design.specs.Keys.{Name}
use Rattle.lp_spec_pins.specs.Pins.{is_power}
use Rattle.lp_spec_plain_module.specs.Designs.{Flat}
use Rattle.lp_spec_plain_module.specs.Netlists.{power_port, ground_port, supply_port, supply_input, port_of_pin, joined, with_joins, joins_of, powered_instance, powered}
use Rattle.lp_spec_plain_module.specs.Tests.{is_pg_name, are_distinct, has_names_apart}
use Rattle.lp_spec_plain_module.proofs.Lists.{all-weaker, turned}
use Rattle.lp_verilog_tokens.specs.Lexical.{is_visible}
use Rattle.lp_vwrite.specs.Layout.{declared}
use Rattle.lp_vwrite.specs.WellFormed.{is_name, declaration, is_scalar, has_index, is_bit, is_connection, are_connections, is_instance, is_assign, is_net, is_module, names_of}
use Rattle.lp_spec_plain_netlist.specs.Single.{is_single_module}
use Rattle.lp_spec_plain_netlist.specs.Fits.{cell_named, has_pg_names, are_read, connected_names, pin_names, names_pins, is_joined, is_fit}
use Rattle.lp_spec_plain_netlist.specs.Flats.{flat_of}
use Rattle.lp_spec_plain_netlist.proofs.Names.{is_free, port-reserved, ports-apart, free-port, lookup-passes, has-pg, pgs_apart}
use Rattle.lp_spec_plain_netlist.proofs.Fitting.{no_assign, names_free, declared_free, scalar_is, index_is, pin_apart, has_target_names, fit_parts, written_parts, joined_pins}
use Rattle.lp_plain_joins.proofs.Middle.{all-two, all-both, distinct-two, distinct-both, absent-fails, lookup-two, lookup-behind}

-- ---- power and ground pins

abbrev pg_names : List PgPinView → List Name
pg_names gs = map (λ (g : PgPinView). g.name) gs

joined-names : (f : Flat) (gs : List PgPinView) → map (λ (c : ConnectionView). c.port) (map (joined f) gs) ≡ pg_names gs
joined-names f [] = refl
joined-names f (g ∷ gs) = ap (λ ns. g.name ∷ ns) (joined-names f gs)

module _ (cells : List CellView) (m : ModuleView) (power gnd : Name) (margin : ℕ) where
  abbrev f : Flat
  f = flat_of cells m power gnd margin

  abbrev Entries : Type 0
  Entries = List (Name × Option BitRange)

  abbrev ports_declared : Entries
  ports_declared = map (λ (p : PortView). (p.name, p.range)) m.ports

  abbrev nets_declared : Entries
  nets_declared = map (λ (n : NetView). (n.name, n.range)) m.nets

  -- the declarations of the netlist
  abbrev more_declared : Entries
  more_declared = ports_declared ++ (power_port f, None) ∷ (ground_port f, None) ∷ nets_declared

  declared_is : declared (powered f) ≡ more_declared
  declared_is =
      ap (λ xs. xs ++ nets_declared) (map-append (λ (p : PortView). (p.name, p.range)) m.ports (supply_input (power_port f) ∷ supply_input (ground_port f) ∷ []))
      ∙ append_assoc ports_declared ((power_port f, None) ∷ (ground_port f, None) ∷ []) nets_declared

  abbrev first_names : List Name
  first_names = map (λ n. n.0) ports_declared

  abbrev last_names : List Name
  last_names = map (λ n. n.0) nets_declared ++ map (λ (i : InstanceView). i.name) m.instances

  names_are : names_of m ≡ first_names ++ last_names
  names_are =
      ap (λ xs. xs ++ map (λ (i : InstanceView). i.name) m.instances) (map-append (λ n. n.0) ports_declared nets_declared)
      ∙ append_assoc first_names (map (λ n. n.0) nets_declared) (map (λ (i : InstanceView). i.name) m.instances)

  instance_names : (xs : List InstanceView) → map (λ (i : InstanceView). i.name) (map (powered_instance f) xs) ≡ map (λ (i : InstanceView). i.name) xs
  instance_names [] = refl
  instance_names (x ∷ xs) = ap (λ ns. x.name ∷ ns) (instance_names xs)

  more_names : names_of (powered f) ≡ first_names ++ power_port f ∷ ground_port f ∷ last_names
  more_names =
      ap (λ d. map (λ n. n.0) d ++ map (λ (i : InstanceView). i.name) (map (powered_instance f) m.instances)) declared_is
      ∙ (ap (λ ns. map (λ n. n.0) more_declared ++ ns) (instance_names m.instances)
      ∙ (ap (λ ns. ns ++ map (λ (i : InstanceView). i.name) m.instances) (map-append (λ n. n.0) ports_declared ((power_port f, None) ∷ (ground_port f, None) ∷ nets_declared))
      ∙ append_assoc first_names (power_port f ∷ ground_port f ∷ map (λ n. n.0) nets_declared) (map (λ (i : InstanceView). i.name) m.instances)))

  module _ (single : is_single_module m ≡ true) (apart : bytes_eq power gnd ≡ false) where
    -- ---- names

    port_absent : (p : Name) → has_text (supply_port p) (first_names ++ last_names) ≡ false
    port_absent p = ap (has_text (supply_port p)) (sym names_are) ∙ absent-fails is_free (supply_port p) (names_of m) (names_free m single) (ap not (port-reserved p))

    names_apart : distinct (names_of m) ≡ true → distinct (names_of (powered f)) ≡ true
    names_apart e =
        ap distinct more_names
        ∙ distinct-two first_names last_names (power_port f) (ground_port f) (ap distinct (sym names_are) ∙ e) (port_absent power) (port_absent gnd) (ports-apart power gnd apart)

    -- ---- bits

    other_name : (p n : Name) → is_free n ≡ true → same_text n (supply_port p) ≡ false
    other_name p n e = turned (supply_port p) n (free-port p n e)

    same_declaration : (n : Name) → is_some (declaration (declared m) n) ≡ true → declaration more_declared n ≡ declaration (declared m) n
    same_declaration n e =
        let free = lookup-passes is_free n (declared m) (declared_free m single) e in
        lookup-two n ports_declared nets_declared (power_port f, None) (ground_port f, None) (other_name power n free) (other_name gnd n free)

    more_bit : (b : BitView) → is_bit (declared m) b ≡ true → is_bit more_declared b ≡ true
    more_bit (NetBit n) e = ap is_scalar (same_declaration n (scalar_is (declaration (declared m) n) e)) ∙ e
    more_bit (SelectBit n i) e = ap (λ o. has_index o i) (same_declaration n (index_is (declaration (declared m) n) i e)) ∙ e
    more_bit (ConstBit b) e = refl

    port_behind : (p : Name) → declaration more_declared (supply_port p) ≡ lookup (same_text (supply_port p)) ((power_port f, None) ∷ (ground_port f, None) ∷ nets_declared)
    port_behind p =
        lookup-behind (supply_port p) ports_declared ((power_port f, None) ∷ (ground_port f, None) ∷ nets_declared)
        (or_parts _ _ (sym (has_text-append (supply_port p) first_names last_names) ∙ port_absent p)).0

    port_declared : (on : Bool) → is_scalar (declaration more_declared (cond on (power_port f) (ground_port f))) ≡ true
    port_declared true = ap is_scalar (port_behind power) ∙ rw (true-same_text (power_port f) (power_port f) refl) refl
    port_declared false =
        ap is_scalar (port_behind gnd)
        ∙ rw (turned (power_port f) (ground_port f) (ports-apart power gnd apart), true-same_text (ground_port f) (ground_port f) refl) refl

    -- ---- connections

    more_connection : (k : ConnectionView) → is_connection (declared m) k ≡ true → is_connection more_declared k ≡ true
    more_connection k e =
        let parts = and_parts (is_name k.port) (list_all (is_bit (declared m)) k.bits) e in
        and_from (is_name k.port) _ parts.0 (all-weaker (is_bit (declared m)) (is_bit more_declared) more_bit k.bits parts.1)

    joins_written : (gs : List PgPinView) → list_all (λ (g : PgPinView). is_name g.name) gs ≡ true → list_all (is_connection more_declared) (map (joined f) gs) ≡ true
    joins_written [] e = refl
    joins_written (g ∷ gs) e =
        let parts = and_parts (is_name g.name) (list_all (λ (k : PgPinView). is_name k.name) gs) e in
        and_from (is_connection more_declared (joined f g)) _
        (and_from (is_name g.name) _ parts.0 (and_from (is_bit more_declared (NetBit (port_of_pin f g))) _ (port_declared (is_power g.kind)) refl))
        (joins_written gs parts.1)

    module _ (c : CellView) (names : has_pg_names c ≡ true) where
      cell_apart : has_names_apart c ≡ true
      cell_apart = (and_parts (has_names_apart c) _ names).0

      no_pg : (n : Name) → has_text n (pin_names c) ≡ true → not (has_text n (pg_names c.pgs)) ≡ true
      no_pg n e = ap not (has-pg n c.pgs) ∙ pin_apart c cell_apart n e

      connections_written : (cs : ConnectionsView) → names_pins (connected_names cs) (pin_names c) ≡ true → are_connections (declared m) cs ≡ true → are_connections more_declared (with_joins (map (joined f) c.pgs) cs) ≡ true
      connections_written (ByPosition values) pins bits = bits
      connections_written (ByName cs) pins bits =
          let known = and_parts (list_all (λ n. has_text n (pin_names c)) (map (λ (k : ConnectionView). k.port) cs)) _ pins in
          let parts = and_parts (distinct (map (λ (k : ConnectionView). k.port) cs)) (list_all (is_connection (declared m)) cs) bits in
          let apart_too = and_parts (list_all (λ (q : PinView). not (is_pg_name c.pgs q.name)) c.pins) (are_distinct c.pgs) cell_apart in
          let joins = (and_parts (has_names_apart c) (list_all (λ (g : PgPinView). is_name g.name) c.pgs) names).1 in
          and_from (distinct (map (λ (k : ConnectionView). k.port) (cs ++ map (joined f) c.pgs))) _
          (ap distinct (map-append (λ (k : ConnectionView). k.port) cs (map (joined f) c.pgs) ∙ ap (λ ns. map (λ (k : ConnectionView). k.port) cs ++ ns) (joined-names f c.pgs))
          ∙ distinct-both (map (λ (k : ConnectionView). k.port) cs) (pg_names c.pgs) parts.0 (pgs_apart c.pgs ∙ apart_too.1)
          (all-weaker (λ n. has_text n (pin_names c)) (λ n. not (has_text n (pg_names c.pgs))) no_pg (map (λ (k : ConnectionView). k.port) cs) known.0))
          (all-both (is_connection more_declared) cs (map (joined f) c.pgs)
          (all-weaker (is_connection (declared m)) (is_connection more_declared) more_connection cs parts.1)
          (joins_written c.pgs joins))

    -- ---- instances

    instance_by : (x : InstanceView) (o : Option CellView) → is_joined x o ≡ true → has_target_names o ≡ true → is_instance (declared m) x ≡ true → are_connections more_declared (with_joins (joins_of f o) x.connections) ≡ true
    instance_by x None joined names written = absurd (false≢true joined)
    instance_by x (Some c) joined names written =
        let named = and_parts (is_name x.name) _ written in
        connections_written c names x.connections (joined_pins x c joined) (and_parts (is_name x.target) _ named.1).1

    instances_written : (xs : List InstanceView) → list_all (λ (x : InstanceView). is_joined x (cell_named cells x.target)) xs ≡ true → list_all (λ (x : InstanceView). has_target_names (cell_named cells x.target)) xs ≡ true → list_all (is_instance (declared m)) xs ≡ true → list_all (is_instance more_declared) (map (powered_instance f) xs) ≡ true
    instances_written [] joined names written = refl
    instances_written (x ∷ xs) joined names written =
        let j = and_parts (is_joined x (cell_named cells x.target)) _ joined in
        let n = and_parts (has_target_names (cell_named cells x.target)) _ names in
        let w = and_parts (is_instance (declared m) x) _ written in
        let named = and_parts (is_name x.name) _ w.0 in
        let target = and_parts (is_name x.target) _ named.1 in
        and_from (is_instance more_declared (powered_instance f x)) _
        (and_from (is_name x.name) _ named.0 (and_from (is_name x.target) _ target.0 (instance_by x (cell_named cells x.target) j.0 n.0 w.0)))
        (instances_written xs j.1 n.1 w.1)

    -- ---- the module

    module_written : are_read cells m ≡ true → is_fit cells m ≡ true → list_all is_visible power ≡ true → list_all is_visible gnd ≡ true → is_module (powered f) ≡ true
    module_written read fit power_seen gnd_seen =
        let parts = fit_parts cells m single read fit in
        let written = written_parts m parts.written in
        and_from (is_name m.name) _ written.named
        (and_from (list_all is_net (declared (powered f))) _
        (ap (list_all is_net) declared_is ∙ all-two is_net ports_declared nets_declared (power_port f, None) (ground_port f, None) written.nets (and_from (is_name (power_port f)) _ power_seen refl) (and_from (is_name (ground_port f)) _ gnd_seen refl))
        (and_from (distinct (names_of (powered f))) _ (names_apart written.apart)
        (and_from (list_all (is_instance (declared (powered f))) (map (powered_instance f) m.instances)) _
        (ap (λ d. list_all (is_instance d) (map (powered_instance f) m.instances)) declared_is ∙ instances_written m.instances parts.joined parts.named written.instances)
        (ap (list_all (is_assign (declared (powered f)))) (no_assign m single)))))

    pub netlist_written : are_read cells m ≡ true → is_fit cells m ≡ true → list_all is_visible power ≡ true → list_all is_visible gnd ≡ true → (is_module (powered f) && true) ≡ true
    netlist_written read fit power_seen gnd_seen = and_from (is_module (powered f)) true (module_written read fit power_seen gnd_seen) refl
