-- The nodes of a flat design have the same sources in its netlist, and the other nodes come from the supply ports.
use Rattle.std.proofs.Common.{◌≡◌, ℕ, Bool, true, false, not, ◌||◌, ◌&&◌, cond, List, [], ◌∷◌, ◌++◌, map, Option, Some, None, refl, sym, ◌∙◌, ap, subst}
use Rattle.std.specs.Prelude.{bytes_eq, filter, flat_map, is_some, is_none}
use Rattle.std.specs.List.{AllByRecursion, list_all, list_any}
use Rattle.std.proofs.lemmas.Bool.{and_parts, or_parts, false≢true, not-true}
use Rattle.std.proofs.lemmas.List.{append-nil}
use Rattle.lp_model.specs.NetlistView.{BitView, NetBit, SelectBit, ConstBit, PortView, ConnectionView, ConnectionsView, ByName, ByPosition, InstanceView}
use Rattle.lp_model.specs.LibraryView.{SwitchedView, PgPinView, PinView, CellView}
use Rattle.lp_spec_design.specs.Keys.{Name, Inner, Outer, PortBit, Source, CellPin, SwitchedPin, Environment, From, same_node, same_index}
use Rattle.lp_spec_design.specs.Netlists.{Structure, module_named, indices, node_of, connected, is_input}
use Rattle.lp_spec_design.specs.Graph.{from_port, is_output_pin, touches, when, some_of, and_more, from_cell, from_one, in_module, outside, sources_of}
use Rattle.lp_spec_plain.proofs.Reading.{promises}
use Rattle.lp_spec_plain_module.specs.Designs.{Flat}
use Rattle.lp_spec_plain_module.specs.Netlists.{power_port, ground_port, supply_input, joined, joins_of, with_joins, cell_of, powered_instance, powered, is_supply, is_own}
use Rattle.lp_spec_plain_module.specs.Tests.{is_pg_name, is_free_bit, is_free_connection, are_free, fits_cell, is_flat_instance, is_flat}
use Rattle.lp_spec_plain_module.proofs.Lists.{filter-two, all-weaker, bits_named-more, bits_named-all, joins-none}
use Rattle.lp_spec_plain_module.proofs.Graphs.{source, written, ports_free, own_name, cell_fits, module_none, module_none_written, plain_is, free, pins_apart, top, top_written}

-- ---- what is connected

module _ (f : Flat) (c : CellView) where
  joins_behind : (n : Name) → is_pg_name c.pgs n ≡ false → (cs : ConnectionsView) → connected [] n (with_joins (map (joined f) c.pgs) cs) ≡ connected [] n cs
  joins_behind n e (ByName cs) = bits_named-more n cs (map (joined f) c.pgs) (joins-none f n c.pgs e)
  joins_behind n e (ByPosition values) = refl

  free_bits : (n : Name) (cs : ConnectionsView) → are_free f c cs ≡ true → list_all (is_free_bit f) (connected [] n cs) ≡ true
  free_bits n (ByName cs) e =
      bits_named-all (is_free_bit f) n cs
      (all-weaker (is_free_connection f c) (λ (k : ConnectionView). list_all (is_free_bit f) k.bits) (λ k h. (and_parts _ _ h).1) cs e)
  free_bits n (ByPosition values) e = absurd (false≢true e)

pub AllByRecursion-append : {A : Type 0} (P : A → Type 0) (xs ys : List A) → AllByRecursion P xs → AllByRecursion P ys → AllByRecursion P (xs ++ ys)
AllByRecursion-append P [] ys a b = b
AllByRecursion-append P (x ∷ xs) ys a b = (a.0, AllByRecursion-append P xs ys a.1 b)

module _ (f : Flat) (flat : is_flat f ≡ true) where
  abbrev s : Structure
  s = source f flat

  abbrev t : Structure
  t = written f flat

  pub free-own : (b : BitView) → is_free_bit f b ≡ true → is_own f (node_of [] b) ≡ true
  free-own (NetBit n) e = e
  free-own (SelectBit n i) e = e
  free-own (ConstBit b) e = refl

  -- none is switched, and ways come from nodes of the design
  abbrev pub IsGood : Source → Type 0
  IsGood (CellPin p y q) = Unit {0}
  IsGood (SwitchedPin p y g) = ⊥
  IsGood Environment = Unit {0}
  IsGood (From way j) = is_own f j ≡ true

  -- ---- one cell instance

  module _ (x : InstanceView) (fits : is_flat_instance f x ≡ true) (c : CellView) (cell : cell_of f x.target ≡ Some c) where
    pub connected_same : (n : Name) → is_pg_name c.pgs n ≡ false → connected [] n (powered_instance f x).connections ≡ connected [] n x.connections
    connected_same n e = ap (λ o. connected [] n (with_joins (joins_of f o) x.connections)) cell ∙ joins_behind f c n e x.connections

    pub connected_free : (n : Name) → list_all (is_free_bit f) (connected [] n x.connections) ≡ true
    connected_free n = free_bits f c n x.connections (free f flat x fits c cell)

    module _ (n : Name) (i : Option ℕ) where
      pin_source : InstanceView → PinView → Option Source
      pin_source y q = when (is_output_pin q && touches [] n i (connected [] q.name y.connections)) (CellPin [] y.name q.name)

      pg_source : InstanceView → PgPinView → Option Source
      pg_source y g = when (is_some g.switched && touches [] n i (connected [] g.name y.connections)) (SwitchedPin [] y.name g.name)

      pins_same : (qs : List PinView) → list_all (λ (q : PinView). not (is_pg_name c.pgs q.name)) qs ≡ true → some_of (pin_source (powered_instance f x)) qs ≡ some_of (pin_source x) qs
      unfolding pin_source
      pins_same [] all = refl
      pins_same (q ∷ qs) all = λ r.
          and_more (when (is_output_pin q && touches [] n i (connected_same q.name (not-true _ (and_parts _ _ all).0) r)) (CellPin [] x.name q.name))
          (pins_same qs (and_parts _ _ all).1 r)

      pgs_none : (y : InstanceView) (gs : List PgPinView) → list_all (λ (g : PgPinView). is_none g.switched) gs ≡ true → some_of (pg_source y) gs ≡ []
      unfolding pg_source
      pgs_none y [] all = refl
      pgs_none y (g ∷ gs) all = by g.switched (and_parts _ _ all).0 (pgs_none y gs (and_parts _ _ all).1)
        where
          by : (o : Option SwitchedView) → is_none o ≡ true → some_of (pg_source y) gs ≡ [] → and_more (when (is_some o && touches [] n i (connected [] g.name y.connections)) (SwitchedPin [] y.name g.name)) (some_of (pg_source y) gs) ≡ []
          by None e more = more
          by (Some z) e more = absurd (false≢true e)

      cell_source : (y : InstanceView) → from_cell [] n i y c ≡ some_of (pin_source y) c.pins
      unfolding pin_source pg_source
      cell_source y = ap (λ r. some_of (pin_source y) c.pins ++ r) (pgs_none y c.pgs (promises c (plain_is f flat x fits c cell)).no_switched) ∙ append-nil (some_of (pin_source y) c.pins)

      one_source : from_one s [] n i x ≡ some_of (pin_source x) c.pins
      one_source = rw (module_none f flat x fits, cell) (cell_source x)

      -- an instance of no module has the sources of its cell
      of_cell : (y : InstanceView) → module_named t y.target ≡ None → cell_of f y.target ≡ Some c → from_one t [] n i y ≡ from_cell [] n i y c
      of_cell y e g = rw (e, g) refl

      one_written : from_one t [] n i (powered_instance f x) ≡ some_of (pin_source (powered_instance f x)) c.pins
      one_written = of_cell (powered_instance f x) (module_none_written f flat x fits) cell ∙ cell_source (powered_instance f x)

      pub one_same : from_one t [] n i (powered_instance f x) ≡ from_one s [] n i x
      one_same = one_written ∙ (pins_same c.pins (pins_apart f flat x fits c cell) ∙ sym one_source)

      -- ---- all sources are good

      pub no_touch : is_supply f n ≡ true → (bits : List BitView) → list_all (is_free_bit f) bits ≡ true → touches [] n i bits ≡ false
      no_touch e [] all = refl
      no_touch e (b ∷ bits) all = by b (and_parts _ _ all).0 (no_touch e bits (and_parts _ _ all).1)
        where
          by : (z : BitView) → is_free_bit f z ≡ true → touches [] n i bits ≡ false → (same_node (node_of [] z) (Inner n i []) || touches [] n i bits) ≡ false
          by (NetBit k) h more = ap (λ a. (a && (same_index None i && true)) || touches [] n i bits) (own_name f flat k (not-true _ h) n e) ∙ more
          by (SelectBit k j) h more = ap (λ a. (a && (same_index (Some j) i && true)) || touches [] n i bits) (own_name f flat k (not-true _ h) n e) ∙ more
          by (ConstBit a) h more = more

      pins_none : is_supply f n ≡ true → (qs : List PinView) → some_of (pin_source x) qs ≡ []
      unfolding pin_source
      pins_none e [] = refl
      pins_none e (q ∷ qs) = by (is_output_pin q) (no_touch e (connected [] q.name x.connections) (connected_free q.name)) (pins_none e qs)
        where
          by : (o : Bool) → touches [] n i (connected [] q.name x.connections) ≡ false → some_of (pin_source x) qs ≡ [] → and_more (when (o && touches [] n i (connected [] q.name x.connections)) (CellPin [] x.name q.name)) (some_of (pin_source x) qs) ≡ []
          by true h more = ap (λ b. and_more (when b (CellPin [] x.name q.name)) (some_of (pin_source x) qs)) h ∙ more
          by false h more = more

      pub one_none : is_supply f n ≡ true → from_one s [] n i x ≡ []
      one_none e = one_source ∙ pins_none e c.pins

      pins_good : (qs : List PinView) → AllByRecursion IsGood (some_of (pin_source x) qs)
      unfolding pin_source
      pins_good [] = tt
      pins_good (q ∷ qs) = by (is_output_pin q && touches [] n i (connected [] q.name x.connections)) (pins_good qs)
        where
          by : (b : Bool) → AllByRecursion IsGood (some_of (pin_source x) qs) → AllByRecursion IsGood (and_more (when b (CellPin [] x.name q.name)) (some_of (pin_source x) qs))
          by true more = (tt, more)
          by false more = more

      pub one_good : AllByRecursion IsGood (from_one s [] n i x)
      one_good = subst (AllByRecursion IsGood) (sym one_source) (pins_good c.pins)

  -- ---- all instances

  -- an instance that fits has a cell
  with_cell : (P : InstanceView → Type 0) → ((x : InstanceView) (fits : is_flat_instance f x ≡ true) (c : CellView) → cell_of f x.target ≡ Some c → P x) → (x : InstanceView) → is_flat_instance f x ≡ true → P x
  with_cell P h x fits = by (cell_of f x.target) refl
    where
      by : (o : Option CellView) → cell_of f x.target ≡ o → P x
      by None e = absurd (false≢true (sym (ap (fits_cell f x.connections) e) ∙ cell_fits f flat x fits))
      by (Some c) e = h x fits c e

  module _ (n : Name) (i : Option ℕ) where
    pub instances_same : (xs : List InstanceView) → list_all (is_flat_instance f) xs ≡ true → flat_map (from_one t [] n i) (map (powered_instance f) xs) ≡ flat_map (from_one s [] n i) xs
    instances_same [] all = refl
    instances_same (x ∷ xs) all = λ r.
        with_cell (λ y. from_one t [] n i (powered_instance f y) ≡ from_one s [] n i y) (λ y h c e. one_same y h c e n i) x (and_parts _ _ all).0 r
        ++ instances_same xs (and_parts _ _ all).1 r

    pub instances_none : is_supply f n ≡ true → (xs : List InstanceView) → list_all (is_flat_instance f) xs ≡ true → flat_map (from_one s [] n i) xs ≡ []
    instances_none e [] all = refl
    instances_none e (x ∷ xs) all = λ r.
        with_cell (λ y. from_one s [] n i y ≡ []) (λ y h c g. one_none y h c g n i e) x (and_parts _ _ all).0 r
        ++ instances_none e xs (and_parts _ _ all).1 r

    pub instances_good : (xs : List InstanceView) → list_all (is_flat_instance f) xs ≡ true → AllByRecursion IsGood (flat_map (from_one s [] n i) xs)
    instances_good [] all = tt
    instances_good (x ∷ xs) all =
        AllByRecursion-append IsGood (from_one s [] n i x) (flat_map (from_one s [] n i) xs)
        (with_cell (λ y. AllByRecursion IsGood (from_one s [] n i y)) (λ y h c g. one_good y h c g n i) x (and_parts _ _ all).0)
        (instances_good xs (and_parts _ _ all).1)

    -- ---- ports

    pub not_named : (test : PortView → Bool) → is_supply f n ≡ true → list_all (λ (p : PortView). not (bytes_eq p.name n && test p)) f.source.ports ≡ true
    not_named test e = all-weaker (λ (p : PortView). not (is_supply f p.name)) (λ (p : PortView). not (bytes_eq p.name n && test p)) (λ p h. ap (λ b. not (b && test p)) (own_name f flat p.name (not-true _ h) n e)) f.source.ports (ports_free f flat)

    own_left : is_supply f n ≡ false → bytes_eq (power_port f) n ≡ false
    own_left e = (or_parts _ _ e).0

    own_right : is_supply f n ≡ false → bytes_eq (ground_port f) n ≡ false
    own_right e = (or_parts _ _ e).1

    pub ports_same : is_supply f n ≡ false → (test : PortView → Bool) → filter (λ (p : PortView). bytes_eq p.name n && test p) (powered f).ports ≡ filter (λ (p : PortView). bytes_eq p.name n && test p) f.source.ports
    ports_same e test =
        filter-two (λ (p : PortView). bytes_eq p.name n && test p) f.source.ports (supply_input (power_port f)) (supply_input (ground_port f))
        (ap (λ b. b && test (supply_input (power_port f))) (own_left e))
        (ap (λ b. b && test (supply_input (ground_port f))) (own_right e))

    pub ports_good : is_supply f n ≡ false → (ports : List PortView) → AllByRecursion IsGood (flat_map (from_port s [] n i) ports)
    ports_good e [] = tt
    ports_good e (p ∷ ports) = by (list_any (same_index i) (indices p.range)) (ports_good e ports)
      where
        by : (b : Bool) → AllByRecursion IsGood (flat_map (from_port s [] n i) ports) → AllByRecursion IsGood (cond b (From (PortBit [] n i) (Outer n i) ∷ []) [] ++ flat_map (from_port s [] n i) ports)
        by true more = (ap not e, more)
        by false more = more

    pub outside_good : is_supply f n ≡ false → (ports : List PortView) → AllByRecursion IsGood (map (outside n i) ports)
    outside_good e [] = tt
    outside_good e (p ∷ ports) = (by (is_input p), outside_good e ports)
      where
        by : (b : Bool) → IsGood (cond b Environment (From (PortBit [] n i) (Inner n i [])))
        by true = tt
        by false = ap not e

    -- ---- nodes

    pub inner_is : sources_of s (Inner n i []) ≡ in_module s [] n i f.source
    inner_is = rw (top f flat) refl

    pub inner_written : sources_of t (Inner n i []) ≡ in_module t [] n i (powered f)
    inner_written = rw (top_written f flat) refl

    pub outer_is : sources_of s (Outer n i) ≡ map (outside n i) (filter (λ (p : PortView). bytes_eq p.name n && list_any (same_index i) (indices p.range)) f.source.ports)
    outer_is = rw (top f flat) refl

    pub outer_written : sources_of t (Outer n i) ≡ map (outside n i) (filter (λ (p : PortView). bytes_eq p.name n && list_any (same_index i) (indices p.range)) (powered f).ports)
    outer_written = rw (top_written f flat) refl
