-- What is noted of a net is what its source reads.
use Rattle.std.proofs.Common.{◌≡◌, ℕ, Bool, true, false, not, ◌||◌, ◌&&◌, cond, List, [], ◌∷◌, ◌++◌, Option, Some, None, refl, sym, ◌∙◌, ap, subst, inl, inr, append-nil}
use Rattle.std.specs.Prelude.{map, flat_map, filter, bytes_eq, is_none, is_some, option_map, option_and_then, option_to_list}
use Rattle.std.specs.List.{list_all, list_any, AllByRecursion}
use Rattle.std.proofs.lemmas.Bool.{false≢true, true≢false, and_parts, not-true}
use Rattle.std.proofs.lemmas.Slice.Eq.{bytes_eq-Decides}
use Rattle.lp_text.specs.Texts.{same_text, has_text, place_of, distinct}
use Rattle.lp_model.specs.NetlistView.{BitView, NetBit, SelectBit, ConstBit, PortView, ConnectionView, ConnectionsView, ByName, ByPosition, InstanceView, ModuleView}
use Rattle.lp_model.specs.LibraryView.{ExprView, PgPinView, PinView, CellView}
use Rattle.lp_spec_design.specs.Keys.{Name, Node, Inner, Outer, Fixed, PortBit, Source, CellPin, SwitchedPin, Environment, From, same_index}
use Rattle.lp_spec_design.specs.Netlists as nets_of
use Rattle.lp_spec_design.specs.Netlists.{Structure, first, instance_named, cell_at, bits_named, connected, is_input, indices}
use Rattle.lp_spec_design.specs.Graph.{from_port, is_output_pin, touches, when, some_of, and_more, from_one, from_assign, numbered, in_module, ports_in, sources_of, source_of, pin_node}
use Rattle.lp_spec_design.specs.Settled.{read_pin, function_of, node_at_pin}
use Rattle.lp_spec_plain_module.specs.Tests.{is_pg_name, are_distinct}
use Rattle.lp_spec_plain_module.proofs.Lists.{name-self, turned, all-weaker}
use Rattle.lp_spec_plain_netlist.specs.Single.{is_single_module}
use Rattle.lp_spec_plain_netlist.specs.Fits as fits
use Rattle.lp_spec_plain_netlist.specs.Fits.{connected_names, pin_names, names_pins, are_read, is_fit}
use Rattle.lp_spec_plain_netlist.proofs.Fitting.{no_assign}
use Rattle.lp_plain_loops.specs.Rows.{net_names, net_in, net_at, number_of, if_pin, function_row, output_row, net_entries, pin_entries, cell_entries, instance_entries, port_entries}
use Rattle.lp_plain_loops.proofs.Noting.{or_else, first_for, first_for-append}
use Rattle.lp_plain_loops.proofs.Shape.{PinBits, IsGood, AllGood, instances_good, instances_apart, ports_scalar, structure, top, no_module_named}

-- ---- what sources read, by numbers

abbrev pub node_row : List Name → Option Node → List ℕ
node_row nets None = []
node_row nets (Some (Inner n None p)) = option_to_list (place_of n nets)
node_row nets (Some (Inner n (Some i) p)) = []
node_row nets (Some (Outer n i)) = []
node_row nets (Some (Fixed b)) = []

abbrev pub pin_row : List Name → CellView → (Name → Option Node) → Name → List ℕ
pin_row nets c nodes v = if_pin (read_pin c v) (node_row nets (nodes v))

abbrev pub pins_row : List Name → CellView → (Name → Option Node) → Option ExprView → List ℕ
pins_row nets c nodes None = []
pins_row nets c nodes (Some e) = flat_map (pin_row nets c nodes) e.variables

abbrev pub cell_row : List Name → (Name → Option Node) → Name → Option CellView → List ℕ
cell_row nets nodes q None = []
cell_row nets nodes q (Some c) = pins_row nets c nodes (function_of c q)

abbrev pub source_row : Structure → List Name → Source → List ℕ
source_row s nets (CellPin p x q) = cell_row nets (λ v. node_at_pin s p x v) q (cell_at s p x)
source_row s nets (SwitchedPin p x g) = []
source_row s nets Environment = []
source_row s nets (From w j) = []

abbrev pub first_row : Structure → List Name → List Source → Option (List ℕ)
first_row s nets [] = None
first_row s nets (x ∷ xs) = Some (source_row s nets x)

first_row-append : (s : Structure) (nets : List Name) (xs ys : List Source) → first_row s nets (xs ++ ys) ≡ or_else (first_row s nets xs) (first_row s nets ys)
first_row-append s nets [] ys = refl
first_row-append s nets (x ∷ xs) ys = refl

abbrev pub first_of : List Source → Option Source
first_of [] = None
first_of (x ∷ xs) = Some x

pub source_is : (s : Structure) (k : Node) (xs : List Source) → sources_of s k ≡ xs → source_of s k ≡ first_of xs
source_is s k [] e = rw (e) refl
source_is s k (x ∷ xs) e = rw (e) refl

first_row-of : (s : Structure) (nets : List Name) (xs : List Source) → first_row s nets xs ≡ option_map (source_row s nets) (first_of xs)
first_row-of s nets [] = refl
first_row-of s nets (x ∷ xs) = refl

pub none_is : {A : Type 0} (o : Option A) → is_none o ≡ true → o ≡ None
none_is None e = refl
none_is (Some x) e = absurd (false≢true e)

-- ---- each instance is found by its name

abbrev IsFound : List InstanceView → InstanceView → Type 0
IsFound xs x = first (λ (i : InstanceView). bytes_eq i.name x.name) xs ≡ Some x

or_parts : (a b : Bool) → (a || b) ≡ false → (a ≡ false) × (b ≡ false)
or_parts true b e = absurd (true≢false e)
or_parts false b e = (refl, e)

skip : (y : InstanceView) (ys xs : List InstanceView) → has_text y.name (map (λ (i : InstanceView). i.name) xs) ≡ false → AllByRecursion (IsFound ys) xs → AllByRecursion (IsFound (y ∷ ys)) xs
skip y ys [] h each = tt
skip y ys (x ∷ xs) h each =
    let parts = or_parts (same_text y.name x.name) (has_text y.name (map (λ (i : InstanceView). i.name) xs)) h in
    (ap (λ b. cond b (Some y) (first (λ (i : InstanceView). bytes_eq i.name x.name) ys)) parts.0 ∙ each.0, skip y ys xs parts.1 each.1)

pub all_found : (xs : List InstanceView) → distinct (map (λ (i : InstanceView). i.name) xs) ≡ true → AllByRecursion (IsFound xs) xs
all_found [] h = tt
all_found (x ∷ xs) h =
    let parts = and_parts (not (has_text x.name (map (λ (i : InstanceView). i.name) xs))) (distinct (map (λ (i : InstanceView). i.name) xs)) h in
    (ap (λ b. cond b (Some x) (first (λ (i : InstanceView). bytes_eq i.name x.name) xs)) (name-self x.name), skip x xs xs (not-true (has_text x.name (map (λ (i : InstanceView). i.name) xs)) parts.0) (all_found xs parts.1))

-- ---- power and ground pins are not connected

-- a name of a signal pin is none of a power or ground pin
not_pg : (gs : List PgPinView) (pins : List PinView) (n : Name) → list_all (λ (q : PinView). not (is_pg_name gs q.name)) pins ≡ true → has_text n (map (λ (q : PinView). q.name) pins) ≡ true → not (is_pg_name gs n) ≡ true
not_pg gs [] n all h = absurd (false≢true h)
not_pg gs (q ∷ pins) n all h =
    let parts = and_parts (not (is_pg_name gs q.name)) (list_all (λ (z : PinView). not (is_pg_name gs z.name)) pins) all in
    elim (same_text n q.name) as (λ b. same_text n q.name ≡ b → (b || has_text n (map (λ (z : PinView). z.name) pins)) ≡ true → not (is_pg_name gs n) ≡ true) [
      | true ↦ λ e g. subst (λ k. not (is_pg_name gs k) ≡ true) (sym ((bytes_eq-Decides n q.name).0 e)) parts.0
      | false ↦ λ e g. not_pg gs pins n parts.1 g
    ] refl h

none_named : (n : Name) (cs : List ConnectionView) → list_all (λ (k : ConnectionView). not (bytes_eq k.port n)) cs ≡ true → bits_named n cs ≡ []
none_named n [] all = refl
none_named n (k ∷ cs) all =
    let parts = and_parts (not (bytes_eq k.port n)) (list_all (λ (z : ConnectionView). not (bytes_eq z.port n)) cs) all in
    ap (λ b. cond b k.bits (bits_named n cs)) (not-true (bytes_eq k.port n) parts.0) ∙ none_named n cs parts.1

avoided : (c : CellView) (cs : List ConnectionView) → list_all (λ (q : PinView). not (is_pg_name c.pgs q.name)) c.pins ≡ true → list_all (λ n. has_text n (pin_names c)) (map (λ (k : ConnectionView). k.port) cs) ≡ true → list_all (λ (k : ConnectionView). not (is_pg_name c.pgs k.port)) cs ≡ true
avoided c [] pins h = refl
avoided c (k ∷ cs) pins h =
    let parts = and_parts (has_text k.port (pin_names c)) (list_all (λ n. has_text n (pin_names c)) (map (λ (z : ConnectionView). z.port) cs)) h in
    ap (λ b. b && list_all (λ (z : ConnectionView). not (is_pg_name c.pgs z.port)) cs) (not_pg c.pgs c.pins k.port pins parts.0) ∙ avoided c cs pins parts.1

no_source : (b : Bool) (y : Source) (more : List Source) → and_more (when (b && false) y) more ≡ more
no_source true y more = refl
no_source false y more = refl

module _ (x : InstanceView) (n : Name) (i : Option ℕ) where
  abbrev pg_source : PgPinView → Option Source
  pg_source g = when (is_some g.switched && touches [] n i (connected [] g.name x.connections)) (SwitchedPin [] x.name g.name)

  pgs_none : (cs : List ConnectionView) → x.connections ≡ ByName cs → (gs : List PgPinView) → list_all (λ (k : ConnectionView). not (is_pg_name gs k.port)) cs ≡ true → some_of pg_source gs ≡ []
  pgs_none cs is [] all = refl
  pgs_none cs is (g ∷ gs) all =
      let open_pin : bits_named g.name cs ≡ [] = none_named g.name cs (all-weaker (λ (k : ConnectionView). not (is_pg_name (g ∷ gs) k.port)) (λ (k : ConnectionView). not (bytes_eq k.port g.name)) (λ k e. ap not (turned g.name k.port (or_parts (bytes_eq g.name k.port) (is_pg_name gs k.port) (not-true (is_pg_name (g ∷ gs) k.port) e)).0)) cs all) in
      let bits : connected [] g.name x.connections ≡ [] = ap (connected [] g.name) is ∙ open_pin in
      let behind = all-weaker (λ (k : ConnectionView). not (is_pg_name (g ∷ gs) k.port)) (λ (k : ConnectionView). not (is_pg_name gs k.port)) (λ k e. ap not (or_parts (bytes_eq g.name k.port) (is_pg_name gs k.port) (not-true (is_pg_name (g ∷ gs) k.port) e)).1) cs all in
      ap (λ z. and_more (when (is_some g.switched && touches [] n i z) (SwitchedPin [] x.name g.name)) (some_of pg_source gs)) bits
      ∙ no_source (is_some g.switched) (SwitchedPin [] x.name g.name) (some_of pg_source gs)
      ∙ pgs_none cs is gs behind

  by_position : (values : List (List BitView)) → x.connections ≡ ByPosition values → (gs : List PgPinView) → some_of pg_source gs ≡ []
  by_position values is [] = refl
  by_position values is (g ∷ gs) =
      ap (λ o. and_more (when (is_some g.switched && touches [] n i (connected [] g.name o)) (SwitchedPin [] x.name g.name)) (some_of pg_source gs)) is
      ∙ no_source (is_some g.switched) (SwitchedPin [] x.name g.name) (some_of pg_source gs)
      ∙ by_position values is gs

-- ---- one instance

module _ (cells : List CellView) (m : ModuleView) (single : is_single_module m ≡ true) (read : are_read cells m ≡ true) (fit : is_fit cells m ≡ true) where
  abbrev s : Structure
  s = structure cells m single read fit

  abbrev nets : List Name
  nets = net_names m

  module _ (x : InstanceView) (g : IsGood cells m x) where
    abbrev pub pin_source : Name → Option ℕ → PinView → Option Source
    pin_source n i q = when (is_output_pin q && touches [] n i (connected [] q.name x.connections)) (CellPin [] x.name q.name)

    pgs_open : (n : Name) (i : Option ℕ) → some_of (pg_source x n i) g.cell.pgs ≡ []
    pgs_open n i = by x.connections refl g.pins
      where
        apart : list_all (λ (q : PinView). not (is_pg_name g.cell.pgs q.name)) g.cell.pins ≡ true
        apart = (and_parts (list_all (λ (q : PinView). not (is_pg_name g.cell.pgs q.name)) g.cell.pins) (are_distinct g.cell.pgs) g.apart).0

        by : (o : ConnectionsView) → x.connections ≡ o → names_pins (connected_names o) (pin_names g.cell) ≡ true → some_of (pg_source x n i) g.cell.pgs ≡ []
        by (ByName cs) e h = pgs_none x n i cs e g.cell.pgs (avoided g.cell cs apart (and_parts (list_all (λ k. has_text k (pin_names g.cell)) (connected_names (ByName cs))) (distinct (connected_names (ByName cs)) && list_all (λ k. has_text k (connected_names (ByName cs))) (pin_names g.cell)) h).0)
        by (ByPosition values) e h = by_position x n i values e g.cell.pgs

    pub one_source : (n : Name) (i : Option ℕ) → from_one s [] n i x ≡ some_of (pin_source n i) g.cell.pins
    one_source n i = rw (no_module_named cells m single read fit x g, g.is) (ap (λ r. some_of (pin_source n i) g.cell.pins ++ r) (pgs_open n i) ∙ append-nil (some_of (pin_source n i) g.cell.pins))

    module _ (found : IsFound m.instances x) where
      node_is : (v : Name) → node_at_pin s [] x.name v ≡ pin_node [] v x.connections
      node_is v =
          ap (λ o. option_and_then (λ (k : ModuleView). option_and_then (λ (i : InstanceView). pin_node [] v i.connections) (instance_named k x.name)) o) (top cells m single read fit)
          ∙ ap (λ o. option_and_then (λ (i : InstanceView). pin_node [] v i.connections) o) found

      cell_is : cell_at s [] x.name ≡ Some g.cell
      cell_is =
          ap (λ o. option_and_then (λ (k : ModuleView). option_and_then (λ (i : InstanceView). nets_of.cell_named s i.target) (instance_named k x.name)) o) (top cells m single read fit)
          ∙ ap (λ o. option_and_then (λ (i : InstanceView). nets_of.cell_named s i.target) o) found
          ∙ ap (λ o. cond (is_some o) None (fits.cell_named cells x.target)) (no_module_named cells m single read fit x g)
          ∙ g.is

      row_at : (v : Name) (bits : List BitView) → connected [] v x.connections ≡ bits → node_row nets (pin_node [] v x.connections) ≡ number_of nets (net_at x.connections v)
      row_at v [] e = rw (e) refl
      row_at v (NetBit y ∷ more) e = rw (e) refl
      row_at v (SelectBit y j ∷ more) e = rw (e) refl
      row_at v (ConstBit b ∷ more) e = rw (e) refl

      pins_same : (e : Option ExprView) → pins_row nets g.cell (λ v. node_at_pin s [] x.name v) e ≡ function_row nets g.cell x.connections e
      pins_same None = refl
      pins_same (Some e) = ap (λ f. flat_map f e.variables) (λ r v. if_pin (read_pin g.cell v) ((ap (node_row nets) (node_is v) ∙ row_at v (connected [] v x.connections) refl) r))

      row_is : (q : Name) → output_row nets g.cell x.connections q ≡ source_row s nets (CellPin [] x.name q)
      row_is q = sym (ap (cell_row nets (λ v. node_at_pin s [] x.name v) q) cell_is ∙ pins_same (function_of g.cell q))

      module _ (n : Name) where
        one_pin : (bits : List BitView) (row : List ℕ) (y : Source) (rest : Option (List ℕ)) (more : List Source) → PinBits nets bits → row ≡ source_row s nets y → rest ≡ first_row s nets more
            → or_else (first_for n (net_entries (net_in bits) row)) rest ≡ first_row s nets (and_more (when (touches [] n None bits) y) more)
        one_pin bits row y rest more (inl e) r t = subst (λ b. or_else (first_for n (net_entries (net_in b) row)) rest ≡ first_row s nets (and_more (when (touches [] n None b) y) more)) (sym e) t
        one_pin bits row y rest more (inr known) r t =
            subst (λ b. or_else (first_for n (net_entries (net_in b) row)) rest ≡ first_row s nets (and_more (when (touches [] n None b) y) more)) (sym known.1)
            (elim (bytes_eq known.0 n) as (λ b. or_else (or_else (cond b (Some row) None) None) rest ≡ first_row s nets (and_more (when ((b && true) || false) y) more)) [
              | true ↦ ap (λ z. Some z) r
              | false ↦ t
            ])

        pins_first : (qs : List PinView) → first_for n (flat_map (pin_entries nets g.cell x.connections) qs) ≡ first_row s nets (some_of (pin_source n None) qs)
        pins_first [] = refl
        pins_first (q ∷ qs) =
            first_for-append n (pin_entries nets g.cell x.connections q) (flat_map (pin_entries nets g.cell x.connections) qs)
            ∙ elim (is_output_pin q) as (λ b. or_else (first_for n (cond b (net_entries (net_at x.connections q.name) (output_row nets g.cell x.connections q.name)) [])) (first_for n (flat_map (pin_entries nets g.cell x.connections) qs)) ≡ first_row s nets (and_more (when (b && touches [] n None (connected [] q.name x.connections)) (CellPin [] x.name q.name)) (some_of (pin_source n None) qs))) [
              | true ↦ one_pin (connected [] q.name x.connections) (output_row nets g.cell x.connections q.name) (CellPin [] x.name q.name) (first_for n (flat_map (pin_entries nets g.cell x.connections) qs)) (some_of (pin_source n None) qs) (g.bits q.name) (row_is q.name) (pins_first qs)
              | false ↦ pins_first qs
            ]

        pub instance_first : first_for n (instance_entries cells nets x) ≡ first_row s nets (from_one s [] n None x)
        instance_first = ap (λ o. first_for n (cell_entries nets x.connections o)) g.is ∙ pins_first g.cell.pins ∙ ap (first_row s nets) (sym (one_source n None))

  -- ---- all of the module

  module _ (n : Name) where
    instances_first : (xs : List InstanceView) → AllGood cells m single read fit xs → AllByRecursion (IsFound m.instances) xs → first_for n (flat_map (instance_entries cells nets) xs) ≡ first_row s nets (flat_map (from_one s [] n None) xs)
    instances_first [] good found = refl
    instances_first (x ∷ xs) good found =
        first_for-append n (instance_entries cells nets x) (flat_map (instance_entries cells nets) xs)
        ∙ (λ r. or_else (instance_first x good.0 found.0 n r) (instances_first xs good.1 found.1 r))
        ∙ sym (first_row-append s nets (from_one s [] n None x) (flat_map (from_one s [] n None) xs))

    abbrev named_input : PortView → Bool
    named_input p = bytes_eq p.name n && is_input p

    -- a scalar input port is a source of its net
    port_source : (p : PortView) → is_none p.range ≡ true → from_port s [] n None p ≡ From (PortBit [] n None) (Outer n None) ∷ []
    port_source p e = ap (λ r. cond (list_any (same_index None) (indices r)) (From (PortBit [] n None) (Outer n None) ∷ []) []) (none_is p.range e)

    ports_first : (ports : List PortView) → list_all (λ (p : PortView). is_none p.range) ports ≡ true → first_for n (flat_map port_entries ports) ≡ first_row s nets (flat_map (from_port s [] n None) (filter named_input ports))
    ports_first [] h = refl
    ports_first (p ∷ ports) h =
        let parts = and_parts (is_none p.range) (list_all (λ (z : PortView). is_none z.range) ports) h in
        let rest = ports_first ports parts.1 in
        elim (is_input p) as (λ b. first_for n (cond b ((p.name, []) ∷ []) [] ++ flat_map port_entries ports) ≡ first_row s nets (flat_map (from_port s [] n None) (cond (bytes_eq p.name n && b) (p ∷ filter named_input ports) (filter named_input ports)))) [
          | true ↦ elim (bytes_eq p.name n) as (λ b. or_else (cond b (Some []) None) (first_for n (flat_map port_entries ports)) ≡ first_row s nets (flat_map (from_port s [] n None) (cond (b && true) (p ∷ filter named_input ports) (filter named_input ports)))) [
            | true ↦ ap (λ z. first_row s nets (z ++ flat_map (from_port s [] n None) (filter named_input ports))) (sym (port_source p parts.0))
            | false ↦ rest
          ]
          | false ↦ elim (bytes_eq p.name n) as (λ b. first_for n (flat_map port_entries ports) ≡ first_row s nets (flat_map (from_port s [] n None) (cond (b && false) (p ∷ filter named_input ports) (filter named_input ports)))) [ true ↦ rest | false ↦ rest ]
        ]

    -- there are no assigns
    pub module_is : (i : Option ℕ) → in_module s [] n i m ≡ (ports_in s [] n i m ++ flat_map (from_one s [] n i) m.instances)
    module_is i =
        ap (λ r. ports_in s [] n i m ++ (flat_map (from_one s [] n i) m.instances ++ flat_map (from_assign [] n i) (numbered 0 r))) (no_assign m single)
        ∙ ap (λ r. ports_in s [] n i m ++ r) (append-nil (flat_map (from_one s [] n i) m.instances))

    pub inner_is : (i : Option ℕ) → sources_of s (Inner n i []) ≡ (ports_in s [] n i m ++ flat_map (from_one s [] n i) m.instances)
    inner_is i = rw (top cells m single read fit) (module_is i)

    -- what is noted of a net is what its source reads
    pub net_first : first_for n (flat_map port_entries m.ports ++ flat_map (instance_entries cells nets) m.instances) ≡ option_map (source_row s nets) (source_of s (Inner n None []))
    net_first =
        first_for-append n (flat_map port_entries m.ports) (flat_map (instance_entries cells nets) m.instances)
        ∙ (λ r. or_else (ports_first m.ports (ports_scalar cells m single read fit) r) (instances_first m.instances (instances_good cells m single read fit) (all_found m.instances (instances_apart cells m single read fit)) r))
        ∙ sym (first_row-append s nets (ports_in s [] n None m) (flat_map (from_one s [] n None) m.instances))
        ∙ first_row-of s nets (ports_in s [] n None m ++ flat_map (from_one s [] n None) m.instances)
        ∙ ap (option_map (source_row s nets)) (sym (source_is s (Inner n None []) (ports_in s [] n None m ++ flat_map (from_one s [] n None) m.instances) (inner_is None)))
