-- A module that has ended is sound by the texts of its names.
use Rattle.std.proofs.Common.{◌≡◌, ℕ, ◌<◌, Bool, true, false, cond, List, [], ◌∷◌, ◌++◌, length, map, Option, Some, None, refl, sym, ap, ◌∙◌, arith, append_assoc}
use Rattle.std.specs.Prelude.{nat_eq, nat_lt, not, ◌&&◌, ◌||◌, if◌then◌else◌}
use Rattle.std.specs.List.{list_all, list_any, flat_map}
use Rattle.std.specs.Map.{lookup}
use Rattle.std.proofs.lemmas.Bool.{true≢false, and_parts, and_from, eqb-true, eq-eqb}
use Rattle.std.proofs.lemmas.Bool.Decides.{nat_tests}
use Rattle.std.proofs.lemmas.List.{map-append}
use Rattle.std.proofs.lemmas.List.Folds.{list_all-append, list_any-append}
use Rattle.lp_text.specs.Texts.{same_text, same_text-true, true-same_text, has_text, place_of, place_of-distinct, text_at, distinct}
use Rattle.lp_model.specs.declared.bits.Bit.{Bit}
use Rattle.lp_model.specs.declared.bits.Bit.TheVariants as bits
use Rattle.lp_model.specs.declared.netlist.BitRange.{BitRange}
use Rattle.lp_model.specs.declared.netlist.Direction.{Direction}
use Rattle.lp_model.specs.declared.netlist.Port.{Port}
use Rattle.lp_model.specs.declared.netlist.NetDecl.{NetDecl}
use Rattle.lp_model.specs.declared.netlist.Connection.{Connection}
use Rattle.lp_model.specs.declared.netlist.Connections.{Connections}
use Rattle.lp_model.specs.declared.netlist.Connections.TheVariants as connections
use Rattle.lp_model.specs.declared.netlist.Instance.{Instance}
use Rattle.lp_model.specs.declared.netlist.Assign.{Assign}
use Rattle.lp_model.specs.declared.netlist.Module.{Module}
use Rattle.lp_model.specs.NetlistView.{bit_view, bits_view, port_view, net_view, connection_view, connections_view, instance_view, assign_view, module_view, module_numbers, port_numbers, net_numbers, instance_numbers, assign_numbers, connection_numbers, connections_numbers}
use Rattle.lp_verilog_draft.specs.declared.scope.Kind.{Kind}
use Rattle.lp_verilog_draft.specs.declared.scope.Kind.TheVariants as kinds
use Rattle.lp_verilog_draft.specs.Scopes.{Entries, lacking_of, lacks_direction, ports_of, nets_of, port_with, net_with, with_some}
use Rattle.lp_verilog.proofs.Shapes.{eq_sym, entry_ok, has, uniq, small}
use Rattle.lp_vwrite.specs.Layout.{declared}
use Rattle.lp_vwrite.specs.WellFormed.{is_name, is_range, is_net, declaration, is_scalar, has_index, is_bit, is_constant, is_filled, is_connection, is_assign, names_of}
use Rattle.lp_vwrite.specs.Sound.{is_read_connections, is_read_instance, is_read_module}
use Rattle.lp_vwrite.proofs.Ranges.{or_else, lookup-append}
use Rattle.lp_vwrite.proofs.Nets.{ranged, net_range, settled_range, bit_in, with_instance, instances_of, is_net_bit}
use Rattle.lp_vwrite.proofs.Formed.{connection_in, connections_in, instance_in, assign_in, assign_shape, instance_names, unique, Ended, or_false, all_both}

-- a number below the count, whose text is a name
abbrev pub is_good : List (List ℕ) → ℕ → Bool
is_good names k = nat_lt k (length names) && is_name (text_at names k)

-- ---- what the entries declare

abbrev pub port_pairs : List Port → List (ℕ × Option BitRange)
port_pairs ps = map (λ p. (p.name.0, p.range)) ps

abbrev pub net_pairs : List NetDecl → List (ℕ × Option BitRange)
net_pairs ns = map (λ n. (n.name.0, n.range)) ns

-- the ports and wires of a module with their ranges
abbrev pub pairs : Module → List (ℕ × Option BitRange)
pairs m = port_pairs m.ports ++ net_pairs m.nets

abbrev pub keys : List (ℕ × Option BitRange) → List ℕ
keys xs = map (λ x. x.0) xs

absent_ports : (k : ℕ) (es : Entries) → has k es ≡ false → list_any (nat_eq k) (keys (port_pairs (ports_of es))) ≡ false
absent_ports k [] h = refl
absent_ports k (e ∷ es) h = let parts = or_false (nat_eq k e.0) (has k es) h in by e.1.kind e.1.direction parts.0 (absent_ports k es parts.1)
  where
    by : (kind : Kind) (d : Option Direction) → nat_eq k e.0 ≡ false → list_any (nat_eq k) (keys (port_pairs (ports_of es))) ≡ false → list_any (nat_eq k) (keys (port_pairs (with_some (port_with e.0 e.1 kind d) (ports_of es)))) ≡ false
    by kinds.Port (Some d) x y = rw x y
    by kinds.Port None x y = y
    by kinds.Wire d x y = y
    by kinds.Instance d x y = y

absent_nets : (k : ℕ) (es : Entries) → has k es ≡ false → list_any (nat_eq k) (keys (net_pairs (nets_of es))) ≡ false
absent_nets k [] h = refl
absent_nets k (e ∷ es) h = let parts = or_false (nat_eq k e.0) (has k es) h in by e.1.kind parts.0 (absent_nets k es parts.1)
  where
    by : (kind : Kind) → nat_eq k e.0 ≡ false → list_any (nat_eq k) (keys (net_pairs (nets_of es))) ≡ false → list_any (nat_eq k) (keys (net_pairs (with_some (net_with e.0 e.1 kind) (nets_of es)))) ≡ false
    by kinds.Port x y = y
    by kinds.Wire x y = rw x y
    by kinds.Instance x y = y

absent_instances : (k : ℕ) (es : Entries) → has k es ≡ false → list_any (nat_eq k) (instances_of es) ≡ false
absent_instances k [] h = refl
absent_instances k (e ∷ es) h = let parts = or_false (nat_eq k e.0) (has k es) h in by e.1.kind parts.0 (absent_instances k es parts.1)
  where
    by : (kind : Kind) → nat_eq k e.0 ≡ false → list_any (nat_eq k) (instances_of es) ≡ false → list_any (nat_eq k) (with_instance kind e.0 (instances_of es)) ≡ false
    by kinds.Port x y = y
    by kinds.Wire x y = y
    by kinds.Instance x y = rw x y

unique_middle : (xs ys : List ℕ) (k : ℕ) → list_any (nat_eq k) (xs ++ ys) ≡ false → unique (xs ++ ys) ≡ true → unique (xs ++ k ∷ ys) ≡ true
unique_middle [] ys k absent h = and_from (not (list_any (nat_eq k) ys)) (unique ys) (ap not absent) h
unique_middle (x ∷ xs) ys k absent h =
    let parts = and_parts (not (list_any (nat_eq x) (xs ++ ys))) (unique (xs ++ ys)) h in
    let other = or_false (nat_eq k x) (list_any (nat_eq k) (xs ++ ys)) absent in
    and_from (not (list_any (nat_eq x) (xs ++ k ∷ ys))) (unique (xs ++ k ∷ ys)) (ap not (still xs (eq_sym k x other.0)) ∙ parts.0) (unique_middle xs ys k other.1 parts.1)
  where
    still : (zs : List ℕ) → nat_eq x k ≡ false → list_any (nat_eq x) (zs ++ k ∷ ys) ≡ list_any (nat_eq x) (zs ++ ys)
    still [] e = ap (λ b. b || list_any (nat_eq x) ys) e
    still (z ∷ zs) e = ap (λ b. nat_eq x z || b) (still zs e)

-- the names of ports, wires and instances
abbrev pub kinds_of : Entries → List ℕ
kinds_of es = keys (port_pairs (ports_of es)) ++ (keys (net_pairs (nets_of es)) ++ instances_of es)

absent_kinds : (k : ℕ) (es : Entries) → has k es ≡ false → list_any (nat_eq k) (kinds_of es) ≡ false
absent_kinds k es h =
    let ps = keys (port_pairs (ports_of es)) in
    let ns = keys (net_pairs (nets_of es)) in
    list_any-append (nat_eq k) ps (ns ++ instances_of es) ∙ none (list_any (nat_eq k) ps) (list_any (nat_eq k) (ns ++ instances_of es)) (absent_ports k es h)
    (list_any-append (nat_eq k) ns (instances_of es) ∙ none (list_any (nat_eq k) ns) (list_any (nat_eq k) (instances_of es)) (absent_nets k es h) (absent_instances k es h))
  where
    none : (a b : Bool) → a ≡ false → b ≡ false → (a || b) ≡ false
    none a b x y = rw (x, y) refl

not_true : (b : Bool) → not b ≡ true → b ≡ false
not_true true h = absurd (true≢false (sym h))
not_true false h = refl

unique_kinds : (es : Entries) → uniq es ≡ true → unique (kinds_of es) ≡ true
unique_kinds [] h = refl
unique_kinds (e ∷ es) h =
    let parts = and_parts (not (has e.0 es)) (uniq es) h in
    by e.1.kind e.1.direction (absent_kinds e.0 es (not_true (has e.0 es) parts.0)) (unique_kinds es parts.1)
  where
    by : (kind : Kind) (d : Option Direction) → list_any (nat_eq e.0) (kinds_of es) ≡ false → unique (kinds_of es) ≡ true
        → unique (keys (port_pairs (with_some (port_with e.0 e.1 kind d) (ports_of es))) ++ (keys (net_pairs (with_some (net_with e.0 e.1 kind) (nets_of es))) ++ with_instance kind e.0 (instances_of es))) ≡ true
    by kinds.Port (Some d) x y = unique_middle [] (kinds_of es) e.0 x y
    by kinds.Port None x y = y
    by kinds.Wire d x y = unique_middle (keys (port_pairs (ports_of es))) (keys (net_pairs (nets_of es)) ++ instances_of es) e.0 x y
    by kinds.Instance d x y =
        let front = keys (port_pairs (ports_of es)) in
        let mid = keys (net_pairs (nets_of es)) in
        let rest = instances_of es in
        let joined : (front ++ mid) ++ rest ≡ front ++ (mid ++ rest) = append_assoc front mid rest in
        ap unique (sym (append_assoc front mid (e.0 ∷ rest))) ∙ unique_middle (front ++ mid) rest e.0 (ap (list_any (nat_eq e.0)) joined ∙ x) (ap unique joined ∙ y)

-- a key that is missing is not found
absent_pair : (k : ℕ) (xs : List (ℕ × Option BitRange)) → list_any (nat_eq k) (keys xs) ≡ false → lookup (nat_eq k) xs ≡ None
absent_pair k [] h = refl
absent_pair k (x ∷ xs) h = let parts = or_false (nat_eq k x.0) (list_any (nat_eq k) (keys xs)) h in rw (parts.0) (absent_pair k xs parts.1)

same_key : (k j : ℕ) (es : Entries) → nat_eq k j ≡ true → has j es ≡ false → has k es ≡ false
same_key k j es e h = ap (λ x. has x es) (eqb-true k j e) ∙ h

-- a settled net is found among what is declared
module _ (k : ℕ) (r : Option BitRange) where
  abbrev Ports : Entries → Option (Option BitRange)
  Ports es = lookup (nat_eq k) (port_pairs (ports_of es))

  abbrev Wires : Entries → Option (Option BitRange)
  Wires es = lookup (nat_eq k) (net_pairs (nets_of es))

  found_pair : (es : Entries) → uniq es ≡ true → lacking_of es ≡ None → settled_range es k ≡ Some r → or_else (Ports es) (Wires es) ≡ Some r
  found_pair [] u l h = absurd cc
  found_pair (e ∷ es) u l h =
      let parts = and_parts (not (has e.0 es)) (uniq es) u in
      by e.1.kind refl e.1.direction refl (nat_eq k e.0) refl (lacks_direction e.1) refl l h parts.0 (λ x y. found_pair es parts.1 x y)
    where
      gone : has k es ≡ false → (Ports es ≡ None) × (Wires es ≡ None)
      gone a = (absent_pair k (port_pairs (ports_of es)) (absent_ports k es a), absent_pair k (net_pairs (nets_of es)) (absent_nets k es a))

      port_range : (fixed : Bool) (s : Option BitRange) → ranged kinds.Port fixed s ≡ Some r → s ≡ r
      port_range true s x = cc
      port_range false s x = absurd cc

      wire_range : (fixed : Bool) (s : Option BitRange) → ranged kinds.Wire fixed s ≡ Some r → s ≡ r
      wire_range true s x = cc
      wire_range false s x = absurd cc

      no_instance : (fixed : Bool) (s : Option BitRange) → ranged kinds.Instance fixed s ≡ Some r → ⊥
      no_instance fixed s x = absurd cc

      by : (kind : Kind) → e.1.kind ≡ kind → (d : Option Direction) → e.1.direction ≡ d → (b : Bool) → nat_eq k e.0 ≡ b → (c : Bool) → lacks_direction e.1 ≡ c → (if c then Some e.1.at else lacking_of es) ≡ None
          → net_range (cond b (Some e.1) (lookup (nat_eq k) es)) ≡ Some r → not (has e.0 es) ≡ true → (lacking_of es ≡ None → settled_range es k ≡ Some r → or_else (Ports es) (Wires es) ≡ Some r)
          → or_else (lookup (nat_eq k) (port_pairs (with_some (port_with e.0 e.1 kind d) (ports_of es)))) (lookup (nat_eq k) (net_pairs (with_some (net_with e.0 e.1 kind) (nets_of es)))) ≡ Some r
      by kind kk d dd b bb true cc_ ll hh a more = absurd (none_some ll)
        where
          none_some : Some e.1.at ≡ None → ⊥
          none_some x = absurd cc
      by kinds.Port kk (Some d) dd true bb false c ll hh a more = rw bb (ap Some (port_range e.1.fixed e.1.range (ap (λ x. ranged x e.1.fixed e.1.range) (sym kk) ∙ hh)))
      by kinds.Port kk None dd true bb false c ll hh a more = absurd (true≢false (sym (lacks kk dd) ∙ c))
        where
          lacks : e.1.kind ≡ kinds.Port → e.1.direction ≡ None → lacks_direction e.1 ≡ true
          lacks x y = rw (x, y) refl
      by kinds.Wire kk d dd true bb false c ll hh a more =
          let none = gone (same_key k e.0 es bb (not_true (has e.0 es) a)) in
          rw (none.0, bb) (ap Some (wire_range e.1.fixed e.1.range (ap (λ x. ranged x e.1.fixed e.1.range) (sym kk) ∙ hh)))
      by kinds.Instance kk d dd true bb false c ll hh a more = absurd (no_instance e.1.fixed e.1.range (ap (λ x. ranged x e.1.fixed e.1.range) (sym kk) ∙ hh))
      by kinds.Port kk (Some d) dd false bb false c ll hh a more = rw bb (more ll hh)
      by kinds.Port kk None dd false bb false c ll hh a more = more ll hh
      by kinds.Wire kk d dd false bb false c ll hh a more = rw bb (more ll hh)
      by kinds.Instance kk d dd false bb false c ll hh a more = more ll hh

-- ---- ranges

range_small : (r : Option BitRange) → small r ≡ true → is_range r ≡ true
range_small None h = refl
range_small (Some r) h = h

abbrev pub pair_small : ℕ × Option BitRange → Bool
pair_small x = small x.1

ports_small : (n : ℕ) (es : Entries) → list_all (entry_ok n) es ≡ true → list_all pair_small (port_pairs (ports_of es)) ≡ true
ports_small n [] h = refl
ports_small n (e ∷ es) h =
    let parts = and_parts (entry_ok n e) (list_all (entry_ok n) es) h in
    by e.1.kind e.1.direction (and_parts (nat_lt e.0 n) (small e.1.range) parts.0).1 (ports_small n es parts.1)
  where
    by : (kind : Kind) (d : Option Direction) → small e.1.range ≡ true → list_all pair_small (port_pairs (ports_of es)) ≡ true → list_all pair_small (port_pairs (with_some (port_with e.0 e.1 kind d) (ports_of es))) ≡ true
    by kinds.Port (Some d) x y = and_from (small e.1.range) (list_all pair_small (port_pairs (ports_of es))) x y
    by kinds.Port None x y = y
    by kinds.Wire d x y = y
    by kinds.Instance d x y = y

nets_small : (n : ℕ) (es : Entries) → list_all (entry_ok n) es ≡ true → list_all pair_small (net_pairs (nets_of es)) ≡ true
nets_small n [] h = refl
nets_small n (e ∷ es) h =
    let parts = and_parts (entry_ok n e) (list_all (entry_ok n) es) h in
    by e.1.kind (and_parts (nat_lt e.0 n) (small e.1.range) parts.0).1 (nets_small n es parts.1)
  where
    by : (kind : Kind) → small e.1.range ≡ true → list_all pair_small (net_pairs (nets_of es)) ≡ true → list_all pair_small (net_pairs (with_some (net_with e.0 e.1 kind) (nets_of es))) ≡ true
    by kinds.Port x y = y
    by kinds.Wire x y = and_from (small e.1.range) (list_all pair_small (net_pairs (nets_of es))) x y
    by kinds.Instance x y = y

all_parts : {A : Type 0} (p : A → Bool) (xs ys : List A) → list_all p (xs ++ ys) ≡ true → (list_all p xs ≡ true) × (list_all p ys ≡ true)
all_parts p xs ys h = and_parts (list_all p xs) (list_all p ys) (sym (list_all-append p xs ys) ∙ h)

-- ---- numbers and texts

module _ (names : List (List ℕ)) (apart : distinct names ≡ true) where
  abbrev pub good : List ℕ → Bool
  good ks = list_all (is_good names) ks

  below : (k : ℕ) → is_good names k ≡ true → k < length names
  below k h = let parts = and_parts (nat_lt k (length names)) (is_name (text_at names k)) h in less k (length names) parts.0
    where
      less : (a b : ℕ) → nat_lt a b ≡ true → a < b
      less a b e = grind (arith, nat_tests)

  named : (k : ℕ) → is_good names k ≡ true → is_name (text_at names k) ≡ true
  named k h = (and_parts (nat_lt k (length names)) (is_name (text_at names k)) h).1

  -- numbers are the same exactly where their texts are
  text_same : (j k : ℕ) → is_good names j ≡ true → is_good names k ≡ true → same_text (text_at names j) (text_at names k) ≡ nat_eq j k
  text_same j k h g = by (nat_eq j k) refl (same_text (text_at names j) (text_at names k)) refl
    where
      some : (a b : ℕ) → Some a ≡ Some b → a ≡ b
      some a b e = cc

      by : (b : Bool) → nat_eq j k ≡ b → (c : Bool) → same_text (text_at names j) (text_at names k) ≡ c → same_text (text_at names j) (text_at names k) ≡ nat_eq j k
      by true e c f = true-same_text (text_at names j) (text_at names k) (ap (text_at names) (eqb-true j k e)) ∙ sym e
      by false e false f = f ∙ sym e
      by false e true f =
          let places : Some j ≡ Some k = sym (place_of-distinct names j apart (below j h)) ∙ ap (λ t. place_of t names) (same_text-true (text_at names j) (text_at names k) f) ∙ place_of-distinct names k apart (below k g) in
          absurd (true≢false (sym (eq-eqb j k (some j k places)) ∙ e))

  has_same : (k : ℕ) (ks : List ℕ) → is_good names k ≡ true → good ks ≡ true → has_text (text_at names k) (map (text_at names) ks) ≡ list_any (nat_eq k) ks
  has_same k [] h g = refl
  has_same k (j ∷ ks) h g = let parts = and_parts (is_good names j) (good ks) g in rw (text_same k j h parts.0, has_same k ks h parts.1) refl

  pub distinct_texts : (ks : List ℕ) → good ks ≡ true → unique ks ≡ true → distinct (map (text_at names) ks) ≡ true
  distinct_texts [] g h = refl
  distinct_texts (k ∷ ks) g h =
      let parts = and_parts (is_good names k) (good ks) g in
      let others = and_parts (not (list_any (nat_eq k) ks)) (unique ks) h in
      and_from (not (has_text (text_at names k) (map (text_at names) ks))) (distinct (map (text_at names) ks)) (ap not (has_same k ks parts.0 parts.1) ∙ others.0) (distinct_texts ks parts.1 others.1)

  abbrev pub seen_pairs : List (ℕ × Option BitRange) → List (List ℕ × Option BitRange)
  seen_pairs xs = map (λ x. (text_at names x.0, x.1)) xs

  lookup_same : (k : ℕ) (xs : List (ℕ × Option BitRange)) → is_good names k ≡ true → good (keys xs) ≡ true → lookup (same_text (text_at names k)) (seen_pairs xs) ≡ lookup (nat_eq k) xs
  lookup_same k [] h g = refl
  lookup_same k (x ∷ xs) h g = let parts = and_parts (is_good names x.0) (good (keys xs)) g in rw (text_same k x.0 h parts.0, lookup_same k xs h parts.1) refl

  seen_ports : (ps : List Port) → map (λ p. (p.name, p.range)) (map (port_view names) ps) ≡ seen_pairs (port_pairs ps)
  seen_ports [] = refl
  seen_ports (p ∷ ps) = ap (λ xs. (text_at names p.name.0, p.range) ∷ xs) (seen_ports ps)

  seen_nets : (ns : List NetDecl) → map (λ n. (n.name, n.range)) (map (net_view names) ns) ≡ seen_pairs (net_pairs ns)
  seen_nets [] = refl
  seen_nets (n ∷ ns) = ap (λ xs. (text_at names n.name.0, n.range) ∷ xs) (seen_nets ns)

  seen_declared : (m : Module) → declared (module_view names m) ≡ seen_pairs (pairs m)
  seen_declared m = rw (seen_ports m.ports, seen_nets m.nets) (sym (map-append (λ x. (text_at names x.0, x.1)) (port_pairs m.ports) (net_pairs m.nets)))

  seen_keys : (xs : List (ℕ × Option BitRange)) → map (λ x. x.0) (seen_pairs xs) ≡ map (text_at names) (keys xs)
  seen_keys [] = refl
  seen_keys (x ∷ xs) = ap (λ ys. text_at names x.0 ∷ ys) (seen_keys xs)

  seen_instances : (is : List Instance) → map (λ i. i.name) (map (instance_view names) is) ≡ map (text_at names) (instance_names is)
  seen_instances [] = refl
  seen_instances (i ∷ is) = ap (λ ys. text_at names i.name.0 ∷ ys) (seen_instances is)

  -- ---- the numbers of a module

  ports_good : (ps : List Port) → good (flat_map port_numbers ps) ≡ true → good (keys (port_pairs ps)) ≡ true
  ports_good [] h = refl
  ports_good (p ∷ ps) h = let parts = and_parts (is_good names p.name.0) (good (flat_map port_numbers ps)) h in and_from (is_good names p.name.0) (good (keys (port_pairs ps))) parts.0 (ports_good ps parts.1)

  nets_good : (ns : List NetDecl) → good (flat_map net_numbers ns) ≡ true → good (keys (net_pairs ns)) ≡ true
  nets_good [] h = refl
  nets_good (n ∷ ns) h = let parts = and_parts (is_good names n.name.0) (good (flat_map net_numbers ns)) h in and_from (is_good names n.name.0) (good (keys (net_pairs ns))) parts.0 (nets_good ns parts.1)

  instances_good : (is : List Instance) → good (flat_map instance_numbers is) ≡ true → good (instance_names is) ≡ true
  instances_good [] h = refl
  instances_good (i ∷ is) h =
      let parts = all_parts (is_good names) (instance_numbers i) (flat_map instance_numbers is) h in
      let here = and_parts (is_good names i.name.0) (is_good names i.target.0 && good (connections_numbers i.connections)) parts.0 in
      and_from (is_good names i.name.0) (good (instance_names is)) here.0 (instances_good is parts.1)

  pairs_nets : (xs : List (ℕ × Option BitRange)) → good (keys xs) ≡ true → list_all pair_small xs ≡ true → list_all is_net (seen_pairs xs) ≡ true
  pairs_nets [] g s = refl
  pairs_nets (x ∷ xs) g s =
      let goods = and_parts (is_good names x.0) (good (keys xs)) g in
      let smalls = and_parts (small x.1) (list_all pair_small xs) s in
      and_from (is_name (text_at names x.0) && is_range x.1) (list_all is_net (seen_pairs xs)) (and_from (is_name (text_at names x.0)) (is_range x.1) (named x.0 goods.0) (range_small x.1 smalls.0)) (pairs_nets xs goods.1 smalls.1)

  -- ---- bits

  entry_good : (xs : List (ℕ × Option BitRange)) (k : ℕ) (r : Option BitRange) → good (keys xs) ≡ true → lookup (nat_eq k) xs ≡ Some r → is_good names k ≡ true
  entry_good [] k r g h = absurd cc
  entry_good (x ∷ xs) k r g h = let parts = and_parts (is_good names x.0) (good (keys xs)) g in by (nat_eq k x.0) refl h parts.0 (λ y. entry_good xs k r parts.1 y)
    where
      by : (b : Bool) → nat_eq k x.0 ≡ b → cond b (Some x.1) (lookup (nat_eq k) xs) ≡ Some r → is_good names x.0 ≡ true → (lookup (nat_eq k) xs ≡ Some r → is_good names k ≡ true) → is_good names k ≡ true
      by true e y z more = ap (is_good names) (eqb-true k x.0 e) ∙ z
      by false e y z more = more y

  module _ (m : Module) (e : Ended (length names) m) (numbers : good (module_numbers m) ≡ true) where
    parts_good : (is_good names m.name.0 ≡ true) × (good (flat_map port_numbers m.ports) ≡ true) × (good (flat_map net_numbers m.nets) ≡ true) × (good (flat_map instance_numbers m.instances) ≡ true) × (good (flat_map assign_numbers m.assigns) ≡ true)
    parts_good =
        let ps = flat_map port_numbers m.ports in
        let ns = flat_map net_numbers m.nets in
        let is = flat_map instance_numbers m.instances in
        let as_ = flat_map assign_numbers m.assigns in
        let a = and_parts (is_good names m.name.0) (good (ps ++ (ns ++ (is ++ as_)))) numbers in
        let b = all_parts (is_good names) ps (ns ++ (is ++ as_)) a.1 in
        let c = all_parts (is_good names) ns (is ++ as_) b.1 in
        let d = all_parts (is_good names) is as_ c.1 in
        (a.0, b.0, c.0, d.0, d.1)

    keys_good : good (keys (pairs m)) ≡ true
    keys_good =
        let ps = port_pairs m.ports in
        let ns = net_pairs m.nets in
        ap good (map-append (λ x. x.0) ps ns) ∙ all_both (is_good names) (keys ps) (keys ns) (ports_good m.ports parts_good.1) (nets_good m.nets parts_good.2)

    -- a settled net is declared with its range
    net_declared : (k : ℕ) (r : Option BitRange) → settled_range e.scope k ≡ Some r → declaration (declared (module_view names m)) (text_at names k) ≡ Some r
    net_declared k r h =
        let there : or_else (lookup (nat_eq k) (port_pairs (ports_of e.scope))) (lookup (nat_eq k) (net_pairs (nets_of e.scope))) ≡ Some r = found_pair k r e.scope e.good.0 e.complete h in
        let same : or_else (lookup (nat_eq k) (port_pairs m.ports)) (lookup (nat_eq k) (net_pairs m.nets)) ≡ Some r = ap (λ ps. or_else (lookup (nat_eq k) (port_pairs ps)) (lookup (nat_eq k) (net_pairs m.nets))) e.ports ∙ ap (λ ns. or_else (lookup (nat_eq k) (port_pairs (ports_of e.scope))) (lookup (nat_eq k) (net_pairs ns))) e.nets ∙ there in
        let found : lookup (nat_eq k) (pairs m) ≡ Some r = lookup-append (nat_eq k) (port_pairs m.ports) (net_pairs m.nets) ∙ same in
        ap (λ xs. declaration xs (text_at names k)) (seen_declared m) ∙ lookup_same k (pairs m) (entry_good (pairs m) k r keys_good found) keys_good ∙ found

    bit_seen : (b : Bit) → bit_in e.scope b ≡ true → is_bit (declared (module_view names m)) (bit_view names b) ≡ true
    bit_seen (bits.Net n) h = by (settled_range e.scope n.0) refl h
      where
        by : (o : Option (Option BitRange)) → settled_range e.scope n.0 ≡ o → is_scalar o ≡ true → is_scalar (declaration (declared (module_view names m)) (text_at names n.0)) ≡ true
        by None is k = absurd (true≢false (sym k))
        by (Some None) is k = ap is_scalar (net_declared n.0 None is)
        by (Some (Some r)) is k = absurd (true≢false (sym k))
    bit_seen (bits.Select n i) h = by (settled_range e.scope n.0) refl h
      where
        by : (o : Option (Option BitRange)) → settled_range e.scope n.0 ≡ o → has_index o i ≡ true → has_index (declaration (declared (module_view names m)) (text_at names n.0)) i ≡ true
        by None is k = absurd (true≢false (sym k))
        by (Some None) is k = absurd (true≢false (sym k))
        by (Some (Some r)) is k = ap (λ o. has_index o i) (net_declared n.0 (Some r) is) ∙ k
    bit_seen (bits.Const value) h = refl

    bits_seen : (bs : List Bit) → list_all (bit_in e.scope) bs ≡ true → list_all (is_bit (declared (module_view names m))) (bits_view names bs) ≡ true
    bits_seen [] h = refl
    bits_seen (b ∷ bs) h =
        let parts = and_parts (bit_in e.scope b) (list_all (bit_in e.scope) bs) h in
        and_from (is_bit (declared (module_view names m)) (bit_view names b)) (list_all (is_bit (declared (module_view names m))) (bits_view names bs)) (bit_seen b parts.0) (bits_seen bs parts.1)

    values_seen : (vs : List (List Bit)) → list_all (list_all (bit_in e.scope)) vs ≡ true → list_all (list_all (is_bit (declared (module_view names m)))) (map (bits_view names) vs) ≡ true
    values_seen [] h = refl
    values_seen (v ∷ vs) h =
        let parts = and_parts (list_all (bit_in e.scope) v) (list_all (list_all (bit_in e.scope)) vs) h in
        and_from (list_all (is_bit (declared (module_view names m))) (bits_view names v)) (list_all (list_all (is_bit (declared (module_view names m)))) (map (bits_view names) vs)) (bits_seen v parts.0) (values_seen vs parts.1)

    named_seen : (cs : List Connection) → good (flat_map connection_numbers cs) ≡ true → list_all (connection_in e.scope) cs ≡ true → list_all (is_connection (declared (module_view names m))) (map (connection_view names) cs) ≡ true
    named_seen [] g h = refl
    named_seen (c ∷ cs) g h =
        let goods = all_parts (is_good names) (connection_numbers c) (flat_map connection_numbers cs) g in
        let port = and_parts (is_good names c.port.0) _ goods.0 in
        let parts = and_parts (connection_in e.scope c) (list_all (connection_in e.scope) cs) h in
        and_from (is_connection (declared (module_view names m)) (connection_view names c)) (list_all (is_connection (declared (module_view names m))) (map (connection_view names) cs))
        (and_from (is_name (text_at names c.port.0)) (list_all (is_bit (declared (module_view names m))) (bits_view names c.bits)) (named c.port.0 port.0) (bits_seen c.bits parts.0)) (named_seen cs goods.1 parts.1)

    connections_seen : (cs : Connections) → good (connections_numbers cs) ≡ true → connections_in e.scope cs ≡ true → is_read_connections (declared (module_view names m)) (connections_view names cs) ≡ true
    connections_seen (connections.Named cs) g h = named_seen cs g h
    connections_seen (connections.Ordered vs) g h = values_seen vs h

    instances_seen : (is : List Instance) → good (flat_map instance_numbers is) ≡ true → list_all (instance_in e.scope) is ≡ true → list_all (is_read_instance (declared (module_view names m))) (map (instance_view names) is) ≡ true
    instances_seen [] g h = refl
    instances_seen (i ∷ is) g h =
        let goods = all_parts (is_good names) (instance_numbers i) (flat_map instance_numbers is) g in
        let name = and_parts (is_good names i.name.0) (is_good names i.target.0 && good (connections_numbers i.connections)) goods.0 in
        let target = and_parts (is_good names i.target.0) (good (connections_numbers i.connections)) name.1 in
        let parts = and_parts (instance_in e.scope i) (list_all (instance_in e.scope) is) h in
        let read = is_read_connections (declared (module_view names m)) (connections_view names i.connections) in
        and_from (is_read_instance (declared (module_view names m)) (instance_view names i)) (list_all (is_read_instance (declared (module_view names m))) (map (instance_view names) is))
        (and_from (is_name (text_at names i.name.0)) (is_name (text_at names i.target.0) && read) (named i.name.0 name.0) (and_from (is_name (text_at names i.target.0)) read (named i.target.0 target.0) (connections_seen i.connections target.1 parts.0)))
        (instances_seen is goods.1 parts.1)

    filled_seen : (bs : List Bit) → is_filled bs ≡ true → is_filled (bits_view names bs) ≡ true
    filled_seen [] h = h
    filled_seen (b ∷ bs) h = refl

    plain_seen : (bs : List Bit) → list_all is_net_bit bs ≡ true → list_all (λ b. not (is_constant b)) (bits_view names bs) ≡ true
    plain_seen [] h = refl
    plain_seen (bits.Net n ∷ bs) h = plain_seen bs h
    plain_seen (bits.Select n i ∷ bs) h = plain_seen bs h
    plain_seen (bits.Const value ∷ bs) h = absurd (true≢false (sym h))

    assign_seen : (a : Assign) → assign_in e.scope a ≡ true → assign_shape a ≡ true → is_assign (declared (module_view names m)) (assign_view names a) ≡ true
    assign_seen a h s =
        let inside = and_parts (list_all (bit_in e.scope) a.left) (list_all (bit_in e.scope) a.right) h in
        let left = and_parts (is_filled a.left) (is_filled a.right && list_all is_net_bit a.left) s in
        let right = and_parts (is_filled a.right) (list_all is_net_bit a.left) left.1 in
        let ns = declared (module_view names m) in
        let l = bits_view names a.left in
        let r = bits_view names a.right in
        let all_left = list_all (is_bit ns) l in
        let all_right = list_all (is_bit ns) r in
        let plain = list_all (λ b. not (is_constant b)) l in
        and_from (is_filled l) (is_filled r && (all_left && (all_right && plain))) (filled_seen a.left left.0)
        (and_from (is_filled r) (all_left && (all_right && plain)) (filled_seen a.right right.0)
        (and_from all_left (all_right && plain) (bits_seen a.left inside.0) (and_from all_right plain (bits_seen a.right inside.1) (plain_seen a.left right.1))))

    assigns_seen : (xs : List Assign) → list_all (assign_in e.scope) xs ≡ true → list_all assign_shape xs ≡ true → list_all (is_assign (declared (module_view names m))) (map (assign_view names) xs) ≡ true
    assigns_seen [] h s = refl
    assigns_seen (a ∷ xs) h s =
        let inside = and_parts (assign_in e.scope a) (list_all (assign_in e.scope) xs) h in
        let shapes = and_parts (assign_shape a) (list_all assign_shape xs) s in
        and_from (is_assign (declared (module_view names m)) (assign_view names a)) (list_all (is_assign (declared (module_view names m))) (map (assign_view names) xs)) (assign_seen a inside.0 shapes.0) (assigns_seen xs inside.1 shapes.1)

    nets_seen : list_all is_net (declared (module_view names m)) ≡ true
    nets_seen =
        let ps = ap (λ xs. list_all pair_small (port_pairs xs)) e.ports ∙ ports_small (length names) e.scope e.good.1 in
        let ns = ap (λ xs. list_all pair_small (net_pairs xs)) e.nets ∙ nets_small (length names) e.scope e.good.1 in
        ap (list_all is_net) (seen_declared m) ∙ pairs_nets (pairs m) keys_good (all_both pair_small (port_pairs m.ports) (net_pairs m.nets) ps ns)

    names_seen : distinct (names_of (module_view names m)) ≡ true
    names_seen =
        let ps = keys (port_pairs m.ports) in
        let ns = keys (net_pairs m.nets) in
        let is = instance_names m.instances in
        let ks = keys (pairs m) ++ is in
        let texts : names_of (module_view names m) ≡ map (text_at names) ks =
        ap (λ xs. map (λ x. x.0) xs ++ map (λ i. i.name) (map (instance_view names) m.instances)) (seen_declared m)
        ∙ ap (λ xs. xs ++ map (λ i. i.name) (map (instance_view names) m.instances)) (seen_keys (pairs m))
        ∙ ap (λ xs. map (text_at names) (keys (pairs m)) ++ xs) (seen_instances m.instances)
        ∙ sym (map-append (text_at names) (keys (pairs m)) is) in
        let parted : ks ≡ ps ++ (ns ++ is) = ap (λ xs. xs ++ is) (map-append (λ x. x.0) (port_pairs m.ports) (net_pairs m.nets)) ∙ append_assoc ps ns is in
        let kinds_same : ps ++ (ns ++ is) ≡ kinds_of e.scope =
        ap (λ xs. keys (port_pairs xs) ++ (ns ++ is)) e.ports
        ∙ ap (λ xs. keys (port_pairs (ports_of e.scope)) ++ (keys (net_pairs xs) ++ is)) e.nets
        ∙ ap (λ xs. keys (port_pairs (ports_of e.scope)) ++ (keys (net_pairs (nets_of e.scope)) ++ xs)) (sym e.names) in
        let differ : unique ks ≡ true = ap unique (parted ∙ kinds_same) ∙ unique_kinds e.scope e.good.0 in
        let goods : good ks ≡ true = all_both (is_good names) (keys (pairs m)) is keys_good (instances_good m.instances parts_good.3) in
        ap distinct texts ∙ distinct_texts ks goods differ

    pub module_seen : is_read_module (module_view names m) ≡ true
    module_seen =
        let v = module_view names m in
        let ns = declared v in
        let all_nets = list_all is_net ns in
        let differ = distinct (names_of v) in
        let instances = list_all (is_read_instance ns) v.instances in
        let assigns = list_all (is_assign ns) v.assigns in
        and_from (is_name v.name) (all_nets && (differ && (instances && assigns))) (named m.name.0 parts_good.0)
        (and_from all_nets (differ && (instances && assigns)) nets_seen
        (and_from differ (instances && assigns) names_seen (and_from instances assigns (instances_seen m.instances parts_good.3 e.instances) (assigns_seen m.assigns e.assigns e.shapes))))
