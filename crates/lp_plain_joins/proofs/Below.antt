-- The numbers of names in a netlist with supplies lie below the count of names.
use Rattle.std.proofs.Common.{◌≡◌, ℕ, ◌<◌, ◌==◌, Bool, true, false, List, [], ◌∷◌, ◌++◌, map, length, Option, Some, None, refl, sym, ◌∙◌, ap, arith, length-append}
use Rattle.std.specs.Prelude.{ltb, if◌then◌else◌, ◌&&◌}
use Rattle.std.specs.List.{flat_map}
use Rattle.std.proofs.lemmas.Bool.{and_parts, and_from, lt-ltb}
use Rattle.std.proofs.lemmas.List.Folds.{list_all-append}
use Rattle.lp_text.specs.Texts.{Grown}
use Rattle.lp_model.specs.declared.library.PgPin.{PgPin}
use Rattle.lp_model.specs.declared.library.Cell.{Cell}
use Rattle.lp_model.specs.declared.netlist.Connection.{Connection}
use Rattle.lp_model.specs.declared.netlist.Connections.{Connections}
use Rattle.lp_model.specs.declared.netlist.Connections.TheVariants.{Named, Ordered}
use Rattle.lp_model.specs.declared.netlist.Instance.{Instance}
use Rattle.lp_model.specs.declared.netlist.Port.{Port}
use Rattle.lp_model.specs.declared.netlist.Module.{Module}
use Rattle.lp_model.specs.Agreement.{numbers_below, option_numbers}
use Rattle.lp_model.specs.NetlistView.{port_numbers, net_numbers, connection_numbers, connections_numbers, instance_numbers, assign_numbers, module_numbers}
use Rattle.lp_model.specs.LibraryView.{switched_numbers, pg_pin_numbers, pin_numbers, state_numbers, roles_numbers, cell_numbers}
use Rattle.lp_spec_pins.specs.Pins.{is_power}
use Rattle.lp_plain_index.specs.Cells.{cell_numbered}
use Rattle.lp_plain_index.proofs.Numbers.{below-left, below-right, below-head, below-tail}
use Rattle.lp_plain_joins.specs.declared.joins.Supplies.{Supplies}
use Rattle.lp_plain_joins.specs.Joins.{join_of, joins_for, with_more, joined_instance, port_in, joined_module}

-- what is below a count is below that of a table that has grown
pub below-grown : (old new : List (List ℕ)) → Grown old new → (ks : List ℕ) → numbers_below (length old) ks ≡ true → numbers_below (length new) ks ≡ true
below-grown old new grown [] h = refl
below-grown old new grown (n ∷ ks) h =
    let e = ap length grown.is ∙ length-append old grown.more in
    let here = below-head (length old) n ks h in
    and_from (ltb n (length new)) (numbers_below (length new) ks) (lt-ltb n (length new) (omega (arith, e, here))) (below-grown old new grown ks (below-tail (length old) n ks h))

module _ (k : ℕ) (s : Supplies) (power : s.power.0 < k) (gnd : s.gnd.0 < k) where
  abbrev Below : List ℕ → Type 0
  Below numbers = numbers_below k numbers ≡ true

  both : (xs ys : List ℕ) → Below xs → Below ys → Below (xs ++ ys)
  both xs ys h g = list_all-append (λ n. ltb n k) xs ys ∙ and_from (numbers_below k xs) (numbers_below k ys) h g

  one_more : (n : ℕ) (xs : List ℕ) → n < k → Below xs → Below (n ∷ xs)
  one_more n xs h g = and_from (ltb n k) (numbers_below k xs) (lt-ltb n k h) g

  port_below : (b : Bool) → (if b then s.power else s.gnd).0 < k
  port_below true = power
  port_below false = gnd

  joins_below : (gs : List PgPin) → Below (flat_map pg_pin_numbers gs) → Below (flat_map connection_numbers (map (join_of s) gs))
  joins_below [] h = refl
  joins_below (g ∷ gs) h =
      let here = below-left k (pg_pin_numbers g) (flat_map pg_pin_numbers gs) h in
      let others = below-right k (pg_pin_numbers g) (flat_map pg_pin_numbers gs) h in
      let port = (if is_power g.kind then s.power else s.gnd).0 in
      let rest = flat_map connection_numbers (map (join_of s) gs) in
      one_more g.name.0 (port ∷ rest) (below-head k g.name.0 (option_numbers switched_numbers g.switched) here) (one_more port rest (port_below (is_power g.kind)) (joins_below gs others))

  found_below : (n : ℕ) (cells : List Cell) → Below (flat_map cell_numbers cells) → Below (flat_map connection_numbers (joins_for s (cell_numbered cells n)))
  found_below n [] h = refl
  found_below n (c ∷ cells) h = by (n == c.name.0) (found_below n cells (below-right k (cell_numbers c) (flat_map cell_numbers cells) h))
    where
      here : Below (flat_map pg_pin_numbers c.pgs)
      here =
          let others = flat_map pin_numbers c.pins ++ (option_numbers state_numbers c.state ++ roles_numbers c.roles) in
          below-left k (flat_map pg_pin_numbers c.pgs) others (below-tail k c.name.0 (flat_map pg_pin_numbers c.pgs ++ others) (below-left k (cell_numbers c) (flat_map cell_numbers cells) h))

      by : (b : Bool) → Below (flat_map connection_numbers (joins_for s (cell_numbered cells n))) → Below (flat_map connection_numbers (joins_for s (if b then Some c else cell_numbered cells n)))
      by true rest = joins_below c.pgs here
      by false rest = rest

  connections_append : (xs ys : List Connection) → Below (flat_map connection_numbers xs) → Below (flat_map connection_numbers ys) → Below (flat_map connection_numbers (xs ++ ys))
  connections_append [] ys h g = g
  connections_append (x ∷ xs) ys h g =
      both (connection_numbers x) (flat_map connection_numbers (xs ++ ys)) (below-left k (connection_numbers x) (flat_map connection_numbers xs) h)
      (connections_append xs ys (below-right k (connection_numbers x) (flat_map connection_numbers xs) h) g)

  with_below : (more : List Connection) (cs : Connections) → Below (flat_map connection_numbers more) → Below (connections_numbers cs) → Below (connections_numbers (with_more more cs))
  with_below more (Named cs) h g = connections_append cs more g h
  with_below more (Ordered values) h g = g

  module _ (cells : List Cell) (known : Below (flat_map cell_numbers cells)) where
    instance_below : (x : Instance) → Below (instance_numbers x) → Below (instance_numbers (joined_instance cells s x))
    instance_below x h =
        let numbers = connections_numbers x.connections in
        let name = below-head k x.name.0 (x.target.0 ∷ numbers) h in
        let rest = below-tail k x.name.0 (x.target.0 ∷ numbers) h in
        let target = below-head k x.target.0 numbers rest in
        let more = joins_for s (cell_numbered cells x.target.0) in
        let joined = connections_numbers (with_more more x.connections) in
        one_more x.name.0 (x.target.0 ∷ joined) name (one_more x.target.0 joined target (with_below more x.connections (found_below x.target.0 cells known) (below-tail k x.target.0 numbers rest)))

    instances_below : (xs : List Instance) → Below (flat_map instance_numbers xs) → Below (flat_map instance_numbers (map (joined_instance cells s) xs))
    instances_below [] h = refl
    instances_below (x ∷ xs) h =
        both (instance_numbers (joined_instance cells s x)) (flat_map instance_numbers (map (joined_instance cells s) xs))
        (instance_below x (below-left k (instance_numbers x) (flat_map instance_numbers xs) h)) (instances_below xs (below-right k (instance_numbers x) (flat_map instance_numbers xs) h))

    ports_below : (ps : List Port) → Below (flat_map port_numbers ps) → Below (flat_map port_numbers (ps ++ port_in s.power ∷ port_in s.gnd ∷ []))
    ports_below [] h = one_more s.power.0 (s.gnd.0 ∷ []) power (one_more s.gnd.0 [] gnd refl)
    ports_below (p ∷ ps) h =
        one_more p.name.0 (flat_map port_numbers (ps ++ port_in s.power ∷ port_in s.gnd ∷ [])) (below-head k p.name.0 (flat_map port_numbers ps) h)
        (ports_below ps (below-tail k p.name.0 (flat_map port_numbers ps) h))

    pub joined-below : (m : Module) → Below (module_numbers m) → Below (module_numbers (joined_module cells s m))
    joined-below m h =
        let ports = flat_map port_numbers m.ports in
        let nets = flat_map net_numbers m.nets in
        let instances = flat_map instance_numbers m.instances in
        let assigns = flat_map assign_numbers m.assigns in
        let all = below-tail k m.name.0 (ports ++ (nets ++ (instances ++ assigns))) h in
        let rest = below-right k ports (nets ++ (instances ++ assigns)) all in
        let last = below-right k nets (instances ++ assigns) rest in
        let new_ports = flat_map port_numbers (m.ports ++ port_in s.power ∷ port_in s.gnd ∷ []) in
        let new_instances = flat_map instance_numbers (map (joined_instance cells s) m.instances) in
        one_more m.name.0 (new_ports ++ (nets ++ (new_instances ++ assigns))) (below-head k m.name.0 (ports ++ (nets ++ (instances ++ assigns))) h)
        (both new_ports (nets ++ (new_instances ++ assigns)) (ports_below m.ports (below-left k ports (nets ++ (instances ++ assigns)) all))
        (both nets (new_instances ++ assigns) (below-left k nets (instances ++ assigns) rest) (both new_instances assigns (instances_below m.instances (below-left k instances assigns last)) (below-right k instances assigns last))))
