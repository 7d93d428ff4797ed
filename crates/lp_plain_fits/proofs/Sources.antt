-- The sources of nets by the numbers of names.
use Rattle.std.proofs.Common.{◌≡◌, ℕ, ◌<◌, Bool, true, false, ◌&&◌, ◌||◌, cond, List, [], ◌∷◌, ◌++◌, length, Option, Some, None, refl, sym, ap, ◌∙◌}
use Rattle.std.specs.Prelude.{map, filter, bytes_eq}
use Rattle.std.specs.List.{flat_map, list_any}
use Rattle.std.specs.Option.{option_map}
use Rattle.std.proofs.lemmas.List.{map-append}
use Rattle.lp_text.specs.Texts.{text_at, distinct}
use Rattle.lp_model.specs.declared.bits.Bit.{Bit}
use Rattle.lp_model.specs.declared.bits.Bit.TheVariants.{Net, Select, Const}
use Rattle.lp_model.specs.declared.library.Cell.{Cell}
use Rattle.lp_model.specs.declared.library.Pin.{Pin}
use Rattle.lp_model.specs.declared.netlist.Direction.{Direction}
use Rattle.lp_model.specs.declared.netlist.Direction.TheVariants.{Input, Output}
use Rattle.lp_model.specs.declared.netlist.Port.{Port}
use Rattle.lp_model.specs.declared.netlist.Connection.{Connection}
use Rattle.lp_model.specs.declared.netlist.Connections.{Connections}
use Rattle.lp_model.specs.declared.netlist.Connections.TheVariants.{Named, Ordered}
use Rattle.lp_model.specs.declared.netlist.Instance.{Instance}
use Rattle.lp_model.specs.declared.netlist.Module.{Module}
use Rattle.lp_model.specs.LibraryView.{PinView, pin_view, pin_numbers, cell_view, cell_numbers}
use Rattle.lp_model.specs.NetlistView.{PortView, InstanceView, bits_view, bits_numbers, port_view, port_numbers, connection_view, connection_numbers, connections_view, connections_numbers, instance_view, instance_numbers, module_view}
use Rattle.lp_spec_design.specs.Netlists.{is_input}
use Rattle.lp_spec_design.specs.Graph.{is_output_pin}
use Rattle.lp_spec_plain_netlist.specs.Fits as fits
use Rattle.lp_plain_index.specs.Cells.{cell_numbered}
use Rattle.lp_plain_index.proofs.Numbers.{below-left, below-right, below-head, below-tail, same_name}
use Rattle.lp_plain_fits.specs.Numbered as numbered
use Rattle.lp_plain_fits.proofs.Lists.{map_if, below-append}
use Rattle.lp_plain_fits.proofs.Cells.{Below, pins_below, named_below, connections_below, target_below, cell_same, found_below}

module _ (texts : List (List ℕ)) where
  input_same : (p : Port) (d : Direction) → p.direction ≡ d → is_input (port_view texts p) ≡ numbered.is_input d
  input_same p Input e = rw (e) refl
  input_same p Output e = rw (e) refl

  inputs_same : (ports : List Port) → map (λ (p : PortView). p.name) (filter is_input (map (port_view texts) ports)) ≡ map (text_at texts) (numbered.inputs ports)
  inputs_same [] = refl
  inputs_same (p ∷ ports) =
      (λ i. map (λ (q : PortView). q.name) (cond (input_same p p.direction refl i) (port_view texts p ∷ filter is_input (map (port_view texts) ports)) (filter is_input (map (port_view texts) ports))))
      ∙ by (numbered.is_input p.direction) (inputs_same ports)
    where
      by : (b : Bool) → map (λ (q : PortView). q.name) (filter is_input (map (port_view texts) ports)) ≡ map (text_at texts) (numbered.inputs ports) → map (λ (q : PortView). q.name) (cond b (port_view texts p ∷ filter is_input (map (port_view texts) ports)) (filter is_input (map (port_view texts) ports))) ≡ map (text_at texts) (map (λ (q : Port). q.name.0) (cond b (p ∷ filter (λ (q : Port). numbered.is_input q.direction) ports) (filter (λ (q : Port). numbered.is_input q.direction) ports)))
      by true e = ap (λ names. text_at texts p.name.0 ∷ names) e
      by false e = e

  inputs_below : (ports : List Port) → Below texts (flat_map port_numbers ports) → Below texts (numbered.inputs ports)
  inputs_below [] below = refl
  inputs_below (p ∷ ports) below = by (numbered.is_input p.direction) (inputs_below ports (below-right (length texts) (port_numbers p) (flat_map port_numbers ports) below))
    where
      by : (b : Bool) → Below texts (numbered.inputs ports) → Below texts (map (λ (q : Port). q.name.0) (cond b (p ∷ filter (λ (q : Port). numbered.is_input q.direction) ports) (filter (λ (q : Port). numbered.is_input q.direction) ports)))
      by true behind = below-append (length texts) (p.name.0 ∷ []) (numbered.inputs ports) (below-left (length texts) (port_numbers p) (flat_map port_numbers ports) below) behind
      by false behind = behind

  net_same : (bits : List Bit) → fits.net_names (bits_view texts bits) ≡ map (text_at texts) (numbered.net_of bits)
  net_same [] = refl
  net_same (Net n ∷ []) = refl
  net_same (Select n i ∷ []) = refl
  net_same (Const b ∷ []) = refl
  net_same (Net n ∷ b ∷ bits) = refl
  net_same (Select n i ∷ b ∷ bits) = refl
  net_same (Const c ∷ b ∷ bits) = refl

  net_below : (bits : List Bit) → Below texts (bits_numbers bits) → Below texts (numbered.net_of bits)
  net_below [] below = refl
  net_below (Net n ∷ []) below = below
  net_below (Select n i ∷ []) below = refl
  net_below (Const b ∷ []) below = refl
  net_below (Net n ∷ b ∷ bits) below = refl
  net_below (Select n i ∷ b ∷ bits) below = refl
  net_below (Const c ∷ b ∷ bits) below = refl

  at_below : (pins : List Pin) (k : Connection) (b : Bool) → Below texts (connection_numbers k) → Below texts (cond b (numbered.net_of k.bits) [])
  at_below pins k true below = net_below k.bits (below-tail (length texts) k.port.0 (bits_numbers k.bits) below)
  at_below pins k false below = refl

  driven_below : (pins : List Pin) (cs : List Connection) → Below texts (flat_map connection_numbers cs) → Below texts (flat_map (numbered.driven_at pins) cs)
  driven_below pins [] below = refl
  driven_below pins (k ∷ cs) below =
      below-append (length texts) (numbered.driven_at pins k) (flat_map (numbered.driven_at pins) cs)
      (at_below pins k (numbered.is_output_of pins k.port.0) (below-left (length texts) (connection_numbers k) (flat_map connection_numbers cs) below))
      (driven_below pins cs (below-right (length texts) (connection_numbers k) (flat_map connection_numbers cs) below))

  by_below : (cs : List Connection) (o : Option Cell) → Below texts (flat_map connection_numbers cs) → Below texts (numbered.driven_by cs o)
  by_below cs None below = refl
  by_below cs (Some c) below = driven_below c.pins cs below

  output_test : (q : Pin) (d : Direction) → q.direction ≡ d → is_output_pin (pin_view texts q) ≡ numbered.is_output d
  output_test q Input e = rw (e) refl
  output_test q Output e = rw (e) refl

module _ (texts : List (List ℕ)) (apart : distinct texts ≡ true) where
  output_same : (pins : List Pin) (n : ℕ) → n < length texts → Below texts (flat_map pin_numbers pins) → list_any (λ (q : PinView). is_output_pin q && bytes_eq q.name (text_at texts n)) (map (pin_view texts) pins) ≡ numbered.is_output_of pins n
  output_same [] n l below = refl
  output_same (q ∷ pins) n l below =
      let here = below-left (length texts) (pin_numbers q) (flat_map pin_numbers pins) below in
      let behind = below-right (length texts) (pin_numbers q) (flat_map pin_numbers pins) below in
      λ i. (output_test texts q q.direction refl i && same_name texts apart q.name.0 n (below-head (length texts) q.name.0 _ here) l i) || output_same pins n l behind i

  at_same : (c : Cell) (k : Connection) → Below texts (cell_numbers c) → Below texts (connection_numbers k) → fits.driven_at (cell_view texts c) (connection_view texts k) ≡ map (text_at texts) (numbered.driven_at c.pins k)
  at_same c k of_cell below =
      (λ i. cond (output_same c.pins k.port.0 (below-head (length texts) k.port.0 (bits_numbers k.bits) below) (pins_below texts apart c of_cell) i) (net_same texts k.bits i) [])
      ∙ map_if (text_at texts) (numbered.is_output_of c.pins k.port.0) (numbered.net_of k.bits)

  all_at_same : (c : Cell) (cs : List Connection) → Below texts (cell_numbers c) → Below texts (flat_map connection_numbers cs) → flat_map (fits.driven_at (cell_view texts c)) (map (connection_view texts) cs) ≡ map (text_at texts) (flat_map (numbered.driven_at c.pins) cs)
  all_at_same c [] of_cell below = refl
  all_at_same c (k ∷ cs) of_cell below =
      let here = below-left (length texts) (connection_numbers k) (flat_map connection_numbers cs) below in
      let behind = below-right (length texts) (connection_numbers k) (flat_map connection_numbers cs) below in
      (λ i. at_same c k of_cell here i ++ all_at_same c cs of_cell behind i)
      ∙ sym (map-append (text_at texts) (numbered.driven_at c.pins k) (flat_map (numbered.driven_at c.pins) cs))

  by_same : (cs : Connections) (o : Option Cell) → Below texts (connections_numbers cs) → ((c : Cell) → o ≡ Some c → Below texts (cell_numbers c)) → fits.driven_by (connections_view texts cs) (option_map (cell_view texts) o) ≡ map (text_at texts) (numbered.driven_by (numbered.named cs) o)
  by_same (Named cs) None below found = refl
  by_same (Ordered values) None below found = refl
  by_same (Named cs) (Some c) below found = all_at_same c cs (found c refl) below
  by_same (Ordered values) (Some c) below found = refl

  instances_same : (cells : List Cell) (xs : List Instance) → Below texts (flat_map cell_numbers cells) → Below texts (flat_map instance_numbers xs) → flat_map (λ (x : InstanceView). fits.driven_by x.connections (fits.cell_named (map (cell_view texts) cells) x.target)) (map (instance_view texts) xs) ≡ map (text_at texts) (numbered.driven cells xs)
  instances_same cells [] of_cells below = refl
  instances_same cells (x ∷ xs) of_cells below =
      let here = below-left (length texts) (instance_numbers x) (flat_map instance_numbers xs) below in
      let behind = below-right (length texts) (instance_numbers x) (flat_map instance_numbers xs) below in
      let first = ap (fits.driven_by (connections_view texts x.connections)) (cell_same texts apart cells x.target.0 (target_below texts apart x here) of_cells) ∙ by_same x.connections (cell_numbered cells x.target.0) (connections_below texts apart x here) (λ c e. found_below texts apart cells x.target.0 c of_cells e) in
      (λ i. first i ++ instances_same cells xs of_cells behind i)
      ∙ sym (map-append (text_at texts) (numbered.driven_by (numbered.named x.connections) (cell_numbered cells x.target.0)) (numbered.driven cells xs))

  instances_below : (cells : List Cell) (xs : List Instance) → Below texts (flat_map instance_numbers xs) → Below texts (numbered.driven cells xs)
  instances_below cells [] below = refl
  instances_below cells (x ∷ xs) below =
      let here = below-left (length texts) (instance_numbers x) (flat_map instance_numbers xs) below in
      below-append (length texts) (numbered.driven_by (numbered.named x.connections) (cell_numbered cells x.target.0)) (numbered.driven cells xs)
      (by_below texts (numbered.named x.connections) (cell_numbered cells x.target.0) (named_below texts apart x.connections (connections_below texts apart x here)))
      (instances_below cells xs (below-right (length texts) (instance_numbers x) (flat_map instance_numbers xs) below))

  -- the driven nets are those of the numbers
  pub driven_same : (cells : List Cell) (m : Module) → Below texts (flat_map cell_numbers cells) → Below texts (flat_map instance_numbers m.instances) → fits.driven_nets (map (cell_view texts) cells) (module_view texts m) ≡ map (text_at texts) (numbered.inputs m.ports ++ numbered.driven cells m.instances)
  driven_same cells m of_cells below =
      (λ i. inputs_same texts m.ports i ++ instances_same cells m.instances of_cells below i)
      ∙ sym (map-append (text_at texts) (numbered.inputs m.ports) (numbered.driven cells m.instances))

  pub sources_below : (cells : List Cell) (m : Module) → Below texts (flat_map port_numbers m.ports) → Below texts (flat_map instance_numbers m.instances) → Below texts (numbered.inputs m.ports ++ numbered.driven cells m.instances)
  sources_below cells m of_ports below =
      below-append (length texts) (numbered.inputs m.ports) (numbered.driven cells m.instances) (inputs_below texts m.ports of_ports) (instances_below cells m.instances below)
