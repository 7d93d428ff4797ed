-- What the joins over numbers of names say of the texts.
use Rattle.std.proofs.Common.{◌≡◌, ℕ, ◌+◌, ◌<◌, ◌≤◌, ◌==◌, Bool, true, false, List, [], ◌∷◌, ◌++◌, map, length, Option, Some, None, refl, ◌∙◌, ap, arith, length-append}
use Rattle.std.specs.Prelude.{bytes_eq, ltb, if◌then◌else◌}
use Rattle.std.specs.List.{flat_map}
use Rattle.std.specs.Option.{option_map}
use Rattle.std.proofs.lemmas.Bool.{ltb-true, lt-ltb}
use Rattle.std.proofs.lemmas.List.{map-append, append-nil}
use Rattle.lp_text.specs.Texts.{same_text_comm, text_at, distinct, place_of, place_of-Some, Grown}
use Rattle.lp_model.specs.declared.library.PgPin.{PgPin}
use Rattle.lp_model.specs.declared.library.Cell.{Cell}
use Rattle.lp_model.specs.declared.netlist.Connection.{Connection}
use Rattle.lp_model.specs.declared.netlist.Connections.{Connections}
use Rattle.lp_model.specs.declared.netlist.Connections.TheVariants.{Named, Ordered}
use Rattle.lp_model.specs.declared.netlist.Instance.{Instance}
use Rattle.lp_model.specs.declared.netlist.Module.{Module}
use Rattle.lp_model.specs.Agreement.{numbers_below}
use Rattle.lp_model.specs.NetlistView.{ByName, port_numbers, net_numbers, connection_view, connections_view, connections_numbers, instance_view, instance_numbers, port_view, assign_numbers, module_view, module_numbers, netlist_view-grown}
use Rattle.lp_model.specs.LibraryView.{pg_pin_view, cell_view, cell_numbers, library_view-grown}
use Rattle.lp_spec_design.specs.Keys.{Name}
use Rattle.lp_spec_pins.specs.Pins.{is_power}
use Rattle.lp_spec_plain_module.specs.Designs.{Flat}
use Rattle.lp_spec_plain_module.specs.Netlists.{supply_port, power_port, ground_port, joined, joins_of, with_joins, powered_instance, powered}
use Rattle.lp_spec_plain_module.proofs.Lists.{all-weaker}
use Rattle.lp_spec_plain_netlist.specs.Fits.{cell_named}
use Rattle.lp_spec_plain_netlist.specs.Flats.{flat_of}
use Rattle.lp_plain_index.specs.Cells.{cell_numbered}
use Rattle.lp_plain_index.proofs.Numbers.{below-left, below-right, below-head, below-tail, same_name}
use Rattle.lp_plain_joins.specs.declared.joins.Supplies.{Supplies}
use Rattle.lp_plain_joins.specs.Joins.{join_of, joins_for, with_more, joined_instance, port_in, joined_module}

module _ (texts : List (List ℕ)) (apart : distinct texts ≡ true) (cells : List Cell) (below : numbers_below (length texts) (flat_map cell_numbers cells) ≡ true) (s : Supplies) (m : Module) (power gnd : Name) (margin : ℕ) (power_is : text_at texts s.power.0 ≡ supply_port power) (gnd_is : text_at texts s.gnd.0 ≡ supply_port gnd) where
  abbrev f : Flat
  f = flat_of (map (cell_view texts) cells) (module_view texts m) power gnd margin

  -- a cell by its number is that of its name
  cell_seen : (n : ℕ) → n < length texts → (cs : List Cell) → numbers_below (length texts) (flat_map cell_numbers cs) ≡ true → option_map (cell_view texts) (cell_numbered cs n) ≡ cell_named (map (cell_view texts) cs) (text_at texts n)
  cell_seen n l [] b = refl
  cell_seen n l (c ∷ cs) b =
      by (n == c.name.0)
      (same_text_comm (text_at texts c.name.0) (text_at texts n) ∙ same_name texts apart n c.name.0 l (below-head (length texts) c.name.0 _ b))
      (cell_seen n l cs (below-right (length texts) (cell_numbers c) (flat_map cell_numbers cs) b))
    where
      by : (x : Bool) → bytes_eq (text_at texts c.name.0) (text_at texts n) ≡ x → option_map (cell_view texts) (cell_numbered cs n) ≡ cell_named (map (cell_view texts) cs) (text_at texts n) → option_map (cell_view texts) (if x then Some c else cell_numbered cs n) ≡ cell_named (map (cell_view texts) (c ∷ cs)) (text_at texts n)
      by true e rest = rw (e) refl
      by false e rest = rw (e) rest

  port_seen : (b : Bool) → text_at texts (if b then s.power else s.gnd).0 ≡ (if b then power_port f else ground_port f)
  port_seen true = power_is
  port_seen false = gnd_is

  joins_seen : (gs : List PgPin) → map (connection_view texts) (map (join_of s) gs) ≡ map (joined f) (map (pg_pin_view texts) gs)
  joins_seen [] = refl
  joins_seen (g ∷ gs) = rw (port_seen (is_power g.kind), joins_seen gs) refl

  joins_for_seen : (o : Option Cell) → map (connection_view texts) (joins_for s o) ≡ joins_of f (option_map (cell_view texts) o)
  joins_for_seen None = refl
  joins_for_seen (Some c) = joins_seen c.pgs

  more_seen : (more : List Connection) (cs : Connections) → connections_view texts (with_more more cs) ≡ with_joins (map (connection_view texts) more) (connections_view texts cs)
  more_seen more (Named cs) = ap (λ ks. ByName ks) (map-append (connection_view texts) cs more)
  more_seen more (Ordered values) = refl

  instance_seen : (x : Instance) → x.target.0 < length texts → instance_view texts (joined_instance cells s x) ≡ powered_instance f (instance_view texts x)
  instance_seen x l =
      let joins = joins_for_seen (cell_numbered cells x.target.0) ∙ ap (joins_of f) (cell_seen x.target.0 l cells below) in
      rw (more_seen (joins_for s (cell_numbered cells x.target.0)) x.connections, joins) refl

  instances_seen : (xs : List Instance) → numbers_below (length texts) (flat_map instance_numbers xs) ≡ true → map (instance_view texts) (map (joined_instance cells s) xs) ≡ map (powered_instance f) (map (instance_view texts) xs)
  instances_seen [] b = refl
  instances_seen (x ∷ xs) b =
      let behind = connections_numbers x.connections ++ flat_map instance_numbers xs in
      let target = below-head (length texts) x.target.0 behind (below-tail (length texts) x.name.0 (x.target.0 ∷ behind) b) in
      let others = instances_seen xs (below-right (length texts) (instance_numbers x) (flat_map instance_numbers xs) b) in
      λ i. instance_seen x target i ∷ others i

  pub module_seen : numbers_below (length texts) (module_numbers m) ≡ true → module_view texts (joined_module cells s m) ≡ powered f
  module_seen b =
      let behind_ports = below-right (length texts) (flat_map port_numbers m.ports) _ (below-tail (length texts) m.name.0 _ b) in
      let behind_nets = below-right (length texts) (flat_map net_numbers m.nets) _ behind_ports in
      let instances = instances_seen m.instances (below-left (length texts) (flat_map instance_numbers m.instances) (flat_map assign_numbers m.assigns) behind_nets) in
      rw (map-append (port_view texts) m.ports (port_in s.power ∷ port_in s.gnd ∷ []), power_is, gnd_is, instances) refl

module _ (old new : List (List ℕ)) (grown : Grown old new) where
  longer : length old ≤ length new
  longer = let parts : length new ≡ length old + length grown.more = ap length grown.is ∙ length-append old grown.more in omega (arith, parts)

  below_more : (numbers : List ℕ) → numbers_below (length old) numbers ≡ true → numbers_below (length new) numbers ≡ true
  below_more numbers e = all-weaker (λ n. ltb n (length old)) (λ n. ltb n (length new)) (λ n l. let here = ltb-true n (length old) l in lt-ltb n (length new) (omega (arith, here, longer))) numbers e

  module_same : (m : Module) → numbers_below (length old) (module_numbers m) ≡ true → module_view new m ≡ module_view old m
  module_same m b =
      let same = netlist_view-grown old new (record { modules = m ∷ [] }) grown (ap (numbers_below (length old)) (append-nil (module_numbers m)) ∙ b) in
      cc

  -- the netlist by the texts of a table that has grown
  pub module_joined : distinct new ≡ true → (cells : List Cell) (s : Supplies) (m : Module) (power gnd : Name)
      → numbers_below (length old) (flat_map cell_numbers cells) ≡ true → numbers_below (length old) (module_numbers m) ≡ true
      → place_of (supply_port power) new ≡ Some s.power.0 → place_of (supply_port gnd) new ≡ Some s.gnd.0
      → (margin : ℕ) → module_view new (joined_module cells s m) ≡ powered (flat_of (map (cell_view old) cells) (module_view old m) power gnd margin)
  module_joined apart cells s m power gnd below_cells below_module power_at gnd_at margin =
      let cells_same = library_view-grown old new (record { cells = cells }) grown below_cells in
      let source_same = module_same m below_module in
      module_seen new apart cells (below_more (flat_map cell_numbers cells) below_cells) s m power gnd margin
      (place_of-Some (supply_port power) new s.power.0 power_at).1 (place_of-Some (supply_port gnd) new s.gnd.0 gnd_at).1
      (below_more (module_numbers m) below_module)
      ∙ (λ i. powered (flat_of (cells_same i) (source_same i) power gnd margin))
