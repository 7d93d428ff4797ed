-- The netlist of a flat design carries it.
use Rattle.std.proofs.Common.{◌≡◌, ℕ, Bool, true, false, not, ◌&&◌, cond, List, [], ◌∷◌, map, Option, Some, None, refl, sym, ◌∙◌, ap, subst}
use Rattle.std.specs.Prelude.{bytes_eq, filter, flat_map, option_map, option_and_then, IsTrue}
use Rattle.std.specs.List.{AllByRecursion, list_all}
use Rattle.std.proofs.lemmas.Bool.{and_parts, and_from, false≢true, not-true}
use Rattle.std.proofs.lemmas.List.Folds.{list_all-append}
use Rattle.std.proofs.lemmas.Slice.Eq.{bytes_eq-Decides}
use Rattle.lp_model.specs.NetlistView.{BitView, NetBit, PortView, ConnectionView, ConnectionsView, ByName, ByPosition, InstanceView, ModuleView}
use Rattle.lp_model.specs.LibraryView.{PgPinView, PinView, CellView}
use Rattle.lp_spec_design.specs.Keys.{Name, Path, Node, Outer, SwitchedPin, From}
use Rattle.lp_spec_design.specs.Netlists.{Structure, instance_named, cell_at, indices, node_of, connected, is_input}
use Rattle.lp_spec_design.specs.Graph.{pin_node}
use Rattle.lp_spec_design.specs.Settled.{pin_named, node_at_pin}
use Rattle.lp_spec_pins.specs.Pins.{is_power, supply_of_node}
use Rattle.lp_spec_pins.specs.Supplied.{is_single}
use Rattle.lp_spec_plain.specs.Cells.{is_plain_cell}
use Rattle.lp_spec_plain.specs.Designs.{IsPlain}
use Rattle.lp_spec_plain.specs.Carried.{IsJoined, Carries}
use Rattle.lp_spec_design.specs.Runs.{output_bits}
use Rattle.lp_spec_plain.proofs.Reading.{all-first}
use Rattle.lp_spec_plain_module.specs.Designs.{Flat, one_set, design_of}
use Rattle.lp_spec_plain_module.specs.Netlists.{power_port, ground_port, port_of_pin, joined, joins_of, with_joins, powered_instance, is_supply, netlist_of, is_own}
use Rattle.lp_spec_plain_module.specs.Tests.{is_pg_name, is_free_bit, is_free_connection, are_free, is_flat}
use Rattle.lp_spec_plain_module.proofs.Lists.{all-weaker, found-passes, joins-each}
use Rattle.lp_spec_plain_module.proofs.Graphs.{source, written, ports_apart, ports_free, power_is, ground_is, top, top_written, instance_written, same_cell, no_cell, CellInstance, at_cell, plain_is, free, pins_apart, pgs_distinct}
use Rattle.lp_spec_plain_module.proofs.Sources.{free-own, connected_same, connected_free}
use Rattle.lp_spec_plain_module.proofs.Supplies.{same_source, no_source, good_source, others, port_supply, net_supply, net_single}
use Rattle.lp_spec_plain_module.proofs.Plain.{no_operator, no_retention, no_switch, cells_supplied}

AllByRecursion-map : {A : Type 0} (P Q : A → Type 0) → ((x : A) → P x → Q x) → (xs : List A) → AllByRecursion P xs → AllByRecursion Q xs
AllByRecursion-map P Q h [] all = tt
AllByRecursion-map P Q h (x ∷ xs) all = (h x all.0, AllByRecursion-map P Q h xs all.1)

abbrev bit_node : List BitView → Option Node
bit_node [] = None
bit_node (b ∷ bits) = Some (node_of [] b)

pin_by : (v : Name) (cs : ConnectionsView) (bits : List BitView) → connected [] v cs ≡ bits → pin_node [] v cs ≡ bit_node bits
pin_by v cs [] e = rw (e) refl
pin_by v cs (b ∷ bits) e = rw (e) refl

module _ (f : Flat) (flat : is_flat f ≡ true) where
  abbrev s : Structure
  s = source f flat

  abbrev t : Structure
  t = written f flat

  -- ---- pins

  node_in : Option ModuleView → Name → Name → Option Node
  node_in o x v = option_and_then (λ (m : ModuleView). option_and_then (λ (i : InstanceView). pin_node [] v i.connections) (instance_named m x)) o

  module _ (x : Name) (c : CellView) (at : CellInstance f flat x c) where
    pin_of_source : (v : Name) → node_at_pin s [] x v ≡ pin_node [] v at.instance.connections
    pin_of_source v = ap (λ o. option_and_then (λ (m : ModuleView). option_and_then (λ (i : InstanceView). pin_node [] v i.connections) (instance_named m x)) o) (top f flat) ∙ ap (λ o. option_and_then (λ (i : InstanceView). pin_node [] v i.connections) o) at.named

    pin_of_written : (v : Name) → node_at_pin t [] x v ≡ pin_node [] v (powered_instance f at.instance).connections
    pin_of_written v =
        ap (λ o. option_and_then (λ (m : ModuleView). option_and_then (λ (i : InstanceView). pin_node [] v i.connections) (instance_named m x)) o) (top_written f flat)
        ∙ (ap (λ o. option_and_then (λ (i : InstanceView). pin_node [] v i.connections) o) (instance_written f flat x f.source.instances)
        ∙ ap (λ o. option_and_then (λ (i : InstanceView). pin_node [] v i.connections) (option_map (powered_instance f) o)) at.named)

    no_pg_name : (v : Name) (q : PinView) → pin_named c v ≡ Some q → is_pg_name c.pgs v ≡ false
    no_pg_name v q e =
        ap (is_pg_name c.pgs) (sym ((bytes_eq-Decides q.name v).0 (found-passes (λ (r : PinView). bytes_eq r.name v) c.pins q e)))
        ∙ not-true _ (all-first (λ (r : PinView). not (is_pg_name c.pgs r.name)) (λ (r : PinView). bytes_eq r.name v) c.pins q (pins_apart f flat at.instance at.fits c at.cell) e)

    same_pin_at : (v : Name) (q : PinView) → pin_named c v ≡ Some q → node_at_pin t [] x v ≡ node_at_pin s [] x v
    same_pin_at v q e =
        pin_of_written v
        ∙ (pin_by v (powered_instance f at.instance).connections (connected [] v at.instance.connections) (connected_same f flat at.instance at.fits c at.cell v (no_pg_name v q e))
        ∙ (sym (pin_by v at.instance.connections (connected [] v at.instance.connections) refl)
        ∙ sym (pin_of_source v)))

    own_bits : (bits : List BitView) (k : Node) → list_all (is_free_bit f) bits ≡ true → bit_node bits ≡ Some k → is_own f k ≡ true
    own_bits [] k all e = absurd cc
    own_bits (b ∷ bits) k all e =
        let same : node_of [] b ≡ k = cc in
        ap (is_own f) (sym same) ∙ free-own f flat b (and_parts _ _ all).0

    pin_own : (v : Name) (k : Node) → node_at_pin s [] x v ≡ Some k → is_own f k ≡ true
    pin_own v k e = own_bits (connected [] v at.instance.connections) k (connected_free f flat at.instance at.fits c at.cell v) (sym (pin_by v at.instance.connections (connected [] v at.instance.connections) refl) ∙ (sym (pin_of_source v) ∙ e))

    -- ---- power and ground pins

    port_is : (g : PgPinView) → is_supply f (port_of_pin f g) ≡ true
    port_is g = by (is_power g.kind)
      where
        by : (b : Bool) → is_supply f (cond b (power_port f) (ground_port f)) ≡ true
        by true = power_is f flat
        by false = ground_is f flat

    abbrev Has : ConnectionsView → PgPinView → Type 0
    Has cs g = connected [] g.name cs ≡ NetBit (port_of_pin f g) ∷ []

    joined_by : (g : PgPinView) → Has (powered_instance f at.instance).connections g → IsJoined (netlist_of f) [] x (power_port f) (ground_port f) g
    joined_by g has =
        let node = pin_of_written g.name ∙ pin_by g.name (powered_instance f at.instance).connections (NetBit (port_of_pin f g) ∷ []) has in (
          ap (λ o. option_and_then (supply_of_node (netlist_of f)) o) node ∙ net_supply f flat (port_of_pin f g) (port_is g),
          ap (is_single (netlist_of f)) node ∙ net_single f flat (port_of_pin f g) (port_is g),
        )

    has_joins : (cs : ConnectionsView) → are_free f c cs ≡ true → AllByRecursion (Has (with_joins (map (joined f) c.pgs) cs)) c.pgs
    has_joins (ByName cs) e =
        joins-each f c.pgs cs (pgs_distinct f flat at.instance at.fits c at.cell)
        (all-weaker (is_free_connection f c) (λ (k : ConnectionView). not (is_pg_name c.pgs k.port)) (λ k h. (and_parts _ _ h).0) cs e)
    has_joins (ByPosition values) e = absurd (false≢true e)

    joined_at_top : AllByRecursion (IsJoined (netlist_of f) [] x (power_port f) (ground_port f)) c.pgs
    joined_at_top =
        AllByRecursion-map (Has (powered_instance f at.instance).connections) (IsJoined (netlist_of f) [] x (power_port f) (ground_port f)) joined_by c.pgs
        (subst (λ o. AllByRecursion (Has (with_joins (joins_of f o) at.instance.connections)) c.pgs) (sym at.cell) (has_joins at.instance.connections (free f flat at.instance at.fits c at.cell)))

  none_below : (y : Name) (p : Path) (x : Name) (c : CellView) → cell_at s (y ∷ p) x ≡ Some c → ⊥
  none_below y p x c e = let gone : None ≡ Some c = sym (no_cell f flat y p x) ∙ e in absurd cc

  same_pin : (p : Path) (x : Name) (c : CellView) (v : Name) (q : PinView) → cell_at s p x ≡ Some c → pin_named c v ≡ Some q → node_at_pin t p x v ≡ node_at_pin s p x v
  same_pin [] x c v q cell e = same_pin_at x c (at_cell f flat x c cell) v q e
  same_pin (y ∷ p) x c v q cell e = absurd (none_below y p x c cell)

  pins_own : (p : Path) (x : Name) (c : CellView) (v : Name) (q : PinView) (k : Node) → cell_at s p x ≡ Some c → pin_named c v ≡ Some q → node_at_pin s p x v ≡ Some k → is_own f k ≡ true
  pins_own [] x c v q k cell e at = pin_own x c (at_cell f flat x c cell) v k at
  pins_own (y ∷ p) x c v q k cell e at = absurd (none_below y p x c cell)

  cells_joined : (p : Path) (x : Name) (c : CellView) → cell_at s p x ≡ Some c → AllByRecursion (IsJoined (netlist_of f) p x (power_port f) (ground_port f)) c.pgs
  cells_joined [] x c cell = joined_at_top x c (at_cell f flat x c cell)
  cells_joined (y ∷ p) x c cell = absurd (none_below y p x c cell)

  cells_plain : (p : Path) (x : Name) (c : CellView) → cell_at s p x ≡ Some c → IsTrue (is_plain_cell c)
  cells_plain [] x c cell = let at = at_cell f flat x c cell in plain_is f flat at.instance at.fits c at.cell
  cells_plain (y ∷ p) x c cell = absurd (none_below y p x c cell)

  -- ---- outputs

  abbrev own_output : Name × Option ℕ → Bool
  own_output b = is_own f (Outer b.0 b.1)

  bits_own : (n : Name) → not (is_supply f n) ≡ true → (is : List (Option ℕ)) → list_all own_output (map (λ i. (n, i)) is) ≡ true
  bits_own n e [] = refl
  bits_own n e (i ∷ is) = ap (λ b. b && list_all own_output (map (λ j. (n, j)) is)) e ∙ bits_own n e is

  ports_own : (ports : List PortView) → list_all (λ (p : PortView). not (is_supply f p.name)) ports ≡ true → list_all own_output (flat_map (λ (p : PortView). map (λ i. (p.name, i)) (indices p.range)) (filter (λ (p : PortView). not (is_input p)) ports)) ≡ true
  ports_own [] all = refl
  ports_own (p ∷ ports) all = by (not (is_input p)) (ports_own ports (and_parts _ _ all).1)
    where
      later : List PortView
      later = filter (λ (q : PortView). not (is_input q)) ports

      by : (b : Bool) → list_all own_output (flat_map (λ (q : PortView). map (λ i. (q.name, i)) (indices q.range)) later) ≡ true → list_all own_output (flat_map (λ (q : PortView). map (λ i. (q.name, i)) (indices q.range)) (cond b (p ∷ later) later)) ≡ true
      by true more = list_all-append own_output (map (λ i. (p.name, i)) (indices p.range)) (flat_map (λ (q : PortView). map (λ i. (q.name, i)) (indices q.range)) later) ∙ and_from _ _ (bits_own p.name (and_parts _ _ all).0 (indices p.range)) more
      by false more = more

  outputs_are : output_bits s ≡ flat_map (λ (p : PortView). map (λ i. (p.name, i)) (indices p.range)) (filter (λ (p : PortView). not (is_input p)) f.source.ports)
  outputs_are = rw (top f flat) refl

  -- ---- all together

  pub plain : IsPlain (design_of f) one_set
  plain = record {
    no_operator = no_operator f;
    no_retention = no_retention f;
    no_switch = no_switch f;
    no_switched_pin = λ k p x g e. good_source f flat k (SwitchedPin p x g) e;
    cells_supplied = cells_supplied f;
    drivers_supplied = λ n. refl;
    receivers_supplied = λ n. refl;
    power_port = refl;
    ground_port = refl;
    cells_plain = cells_plain;
  }

  pub carries : Carries (design_of f) (netlist_of f) (is_own f) (power_port f) (ground_port f)
  carries = record {
    constants_own = λ b. refl;
    same_source = same_source f flat;
    from_own = λ k j way e is. good_source f flat k (From way j) is;
    no_other = no_source f flat;
    others_supply = others f flat;
    same_cell = same_cell f flat;
    same_pin = same_pin;
    pins_own = pins_own;
    ports_own = λ n j e. not-true _ e;
    outputs_own = subst (λ bits. list_all own_output bits ≡ true) (sym outputs_are) (ports_own f.source.ports (ports_free f flat));
    cells_joined = cells_joined;
    drivers_joined = λ n. (port_supply f flat (power_port f) (power_is f flat), port_supply f flat (ground_port f) (ground_is f flat));
    receivers_joined = λ n. (port_supply f flat (power_port f) (power_is f flat), port_supply f flat (ground_port f) (ground_is f flat));
    apart = ports_apart f flat;
  }
