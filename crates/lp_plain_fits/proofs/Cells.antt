-- Cells and connections by the numbers of names.
use Rattle.std.proofs.Common.{◌≡◌, ℕ, ◌<◌, ◌==◌, Bool, true, false, not, ◌&&◌, ◌||◌, cond, List, [], ◌∷◌, ◌++◌, length, Option, Some, None, refl, ap, ◌∙◌, subst}
use Rattle.std.specs.Prelude.{map, is_none, bytes_eq}
use Rattle.std.specs.List.{flat_map, list_all}
use Rattle.std.specs.Option.{option_map}
use Rattle.std.proofs.lemmas.List.Folds.{list_all-map}
use Rattle.lp_text.specs.Texts.{text_at, distinct, has_text}
use Rattle.lp_model.specs.Agreement.{numbers_below, option_numbers}
use Rattle.lp_model.specs.declared.library.Cell.{Cell}
use Rattle.lp_model.specs.declared.library.Pin.{Pin}
use Rattle.lp_model.specs.declared.library.PgPin.{PgPin}
use Rattle.lp_model.specs.declared.netlist.Connection.{Connection}
use Rattle.lp_model.specs.declared.netlist.Connections.{Connections}
use Rattle.lp_model.specs.declared.netlist.Connections.TheVariants.{Named, Ordered}
use Rattle.lp_model.specs.declared.netlist.Instance.{Instance}
use Rattle.lp_model.specs.LibraryView.{PgPinView, PinView, pg_pin_view, pg_pin_numbers, pin_view, pin_numbers, state_numbers, roles_numbers, expr_view, cell_view, cell_numbers}
use Rattle.lp_model.specs.NetlistView.{ConnectionView, InstanceView, connection_view, connection_numbers, connections_view, connections_numbers, instance_view, instance_numbers}
use Rattle.lp_spec_plain_netlist.specs.Fits as fits
use Rattle.lp_plain_index.specs.Cells.{cell_numbered}
use Rattle.lp_plain_index.proofs.Numbers.{below-left, below-right, below-head, below-tail, same_name}
use Rattle.lp_plain_fits.specs.Numbered as numbered
use Rattle.lp_plain_fits.proofs.Growing.{eq_comm}
use Rattle.lp_plain_fits.proofs.Lists.{none_same, some_if}

abbrev pub port_names : List (List ℕ) → List Connection → List (List ℕ)
port_names texts cs = map (λ (c : ConnectionView). c.port) (map (connection_view texts) cs)

abbrev pub pin_names : List (List ℕ) → List Pin → List (List ℕ)
pin_names texts pins = map (λ (q : PinView). q.name) (map (pin_view texts) pins)

abbrev pub Below : List (List ℕ) → List ℕ → Type 0
Below texts ns = numbers_below (length texts) ns ≡ true

module _ (texts : List (List ℕ)) (apart : distinct texts ≡ true) where
  pub pins_below : (c : Cell) → Below texts (cell_numbers c) → Below texts (flat_map pin_numbers c.pins)
  pins_below c below =
      let pgs = flat_map pg_pin_numbers c.pgs in
      let pins = flat_map pin_numbers c.pins in
      let rest = option_numbers state_numbers c.state ++ roles_numbers c.roles in
      below-left (length texts) pins rest (below-right (length texts) pgs (pins ++ rest) (below-tail (length texts) c.name.0 (pgs ++ (pins ++ rest)) below))

  taken : (c : Cell) → fits.is_taken (cell_view texts c) ≡ numbered.is_taken c
  taken c =
      λ i. is_none c.unusable
      && (is_none c.roles.shifter
      && (none_same (expr_view texts) c.roles.retention i
      && (not c.roles.switch
      && list_all-map (λ (g : PgPinView). not (fits.is_extra g.kind)) (pg_pin_view texts) c.pgs i)))

  -- ---- connections

  pin_same : (pins : List Pin) (n : ℕ) → n < length texts → Below texts (flat_map pin_numbers pins) → has_text (text_at texts n) (pin_names texts pins) ≡ numbered.has_pin n pins
  pin_same [] n l below = refl
  pin_same (q ∷ pins) n l below =
      let here = below-left (length texts) (pin_numbers q) (flat_map pin_numbers pins) below in
      let behind = below-right (length texts) (pin_numbers q) (flat_map pin_numbers pins) below in
      λ i. same_name texts apart n q.name.0 l (below-head (length texts) q.name.0 _ here) i || pin_same pins n l behind i

  port_same : (cs : List Connection) (n : ℕ) → n < length texts → Below texts (flat_map connection_numbers cs) → has_text (text_at texts n) (port_names texts cs) ≡ numbered.connects n cs
  port_same [] n l below = refl
  port_same (c ∷ cs) n l below =
      let here = below-left (length texts) (connection_numbers c) (flat_map connection_numbers cs) below in
      let behind = below-right (length texts) (connection_numbers c) (flat_map connection_numbers cs) below in
      λ i. same_name texts apart n c.port.0 l (below-head (length texts) c.port.0 _ here) i || port_same cs n l behind i

  pub once_same : (cs : List Connection) → Below texts (flat_map connection_numbers cs) → distinct (port_names texts cs) ≡ numbered.connects_once cs
  once_same [] below = refl
  once_same (c ∷ cs) below =
      let here = below-left (length texts) (connection_numbers c) (flat_map connection_numbers cs) below in
      let behind = below-right (length texts) (connection_numbers c) (flat_map connection_numbers cs) below in
      λ i. not (port_same cs c.port.0 (below-head (length texts) c.port.0 _ here) behind i) && once_same cs behind i

  alone_same : (cs : List Connection) (pins : List Pin) → Below texts (flat_map connection_numbers cs) → Below texts (flat_map pin_numbers pins) → list_all (λ n. has_text n (pin_names texts pins)) (port_names texts cs) ≡ list_all (λ (c : Connection). numbered.has_pin c.port.0 pins) cs
  alone_same [] pins below of_pins = refl
  alone_same (c ∷ cs) pins below of_pins =
      let here = below-left (length texts) (connection_numbers c) (flat_map connection_numbers cs) below in
      let behind = below-right (length texts) (connection_numbers c) (flat_map connection_numbers cs) below in
      λ i. pin_same pins c.port.0 (below-head (length texts) c.port.0 _ here) of_pins i && alone_same cs pins behind of_pins i

  all_same : (pins : List Pin) (cs : List Connection) → Below texts (flat_map pin_numbers pins) → Below texts (flat_map connection_numbers cs) → list_all (λ n. has_text n (port_names texts cs)) (pin_names texts pins) ≡ list_all (λ (q : Pin). numbered.connects q.name.0 cs) pins
  all_same [] cs below of_cs = refl
  all_same (q ∷ pins) cs below of_cs =
      let here = below-left (length texts) (pin_numbers q) (flat_map pin_numbers pins) below in
      let behind = below-right (length texts) (pin_numbers q) (flat_map pin_numbers pins) below in
      λ i. port_same cs q.name.0 (below-head (length texts) q.name.0 _ here) of_cs i && all_same pins cs behind of_cs i

  connected_same : (cs : Connections) → fits.connected_names (connections_view texts cs) ≡ port_names texts (numbered.named cs)
  connected_same (Named cs) = refl
  connected_same (Ordered values) = refl

  pub named_below : (cs : Connections) → Below texts (connections_numbers cs) → Below texts (flat_map connection_numbers (numbered.named cs))
  named_below (Named cs) below = below
  named_below (Ordered values) below = refl

  pub connections_below : (x : Instance) → Below texts (instance_numbers x) → Below texts (connections_numbers x.connections)
  connections_below x below = below-tail (length texts) x.target.0 (connections_numbers x.connections) (below-tail (length texts) x.name.0 (x.target.0 ∷ connections_numbers x.connections) below)

  pub target_below : (x : Instance) → Below texts (instance_numbers x) → x.target.0 < length texts
  target_below x below = below-head (length texts) x.target.0 (connections_numbers x.connections) (below-tail (length texts) x.name.0 (x.target.0 ∷ connections_numbers x.connections) below)

  each_once : (cs : Connections) (pins : List Pin) → Below texts (connections_numbers cs) → Below texts (flat_map pin_numbers pins) → fits.names_pins (fits.connected_names (connections_view texts cs)) (pin_names texts pins) ≡ numbered.connects_each_once (numbered.named cs) pins
  each_once cs pins below of_pins =
      let of_cs = named_below cs below in
      ap (λ ports. fits.names_pins ports (pin_names texts pins)) (connected_same cs)
      ∙ (λ i. alone_same (numbered.named cs) pins of_cs of_pins i && (once_same (numbered.named cs) of_cs i && all_same pins (numbered.named cs) of_pins of_cs i))

  joined : (x : Instance) (o : Option Cell) → Below texts (instance_numbers x) → ((c : Cell) → o ≡ Some c → Below texts (cell_numbers c)) → fits.is_joined (instance_view texts x) (option_map (cell_view texts) o) ≡ numbered.is_joined x o
  joined x None below found = refl
  joined x (Some c) below found = λ i. taken c i && each_once x.connections c.pins (connections_below x below) (pins_below c (found c refl)) i

  -- ---- cells

  pub cell_same : (cells : List Cell) (n : ℕ) → n < length texts → Below texts (flat_map cell_numbers cells) → fits.cell_named (map (cell_view texts) cells) (text_at texts n) ≡ option_map (cell_view texts) (cell_numbered cells n)
  cell_same [] n l below = refl
  cell_same (c ∷ cells) n l below =
      let here = below-left (length texts) (cell_numbers c) (flat_map cell_numbers cells) below in
      let behind = below-right (length texts) (cell_numbers c) (flat_map cell_numbers cells) below in
      let name : bytes_eq (text_at texts c.name.0) (text_at texts n) ≡ (n == c.name.0) = same_name texts apart c.name.0 n (below-head (length texts) c.name.0 _ here) l ∙ eq_comm c.name.0 n in
      (λ i. cond (name i) (Some (cell_view texts c)) (cell_same cells n l behind i)) ∙ some_if (cell_view texts) (n == c.name.0) c (cell_numbered cells n)

  pub found_below : (cells : List Cell) (n : ℕ) (c : Cell) → Below texts (flat_map cell_numbers cells) → cell_numbered cells n ≡ Some c → Below texts (cell_numbers c)
  found_below [] n c below e = cc
  found_below (d ∷ cells) n c below e = by (n == d.name.0) refl (found_below cells n c behind)
    where
      behind : Below texts (flat_map cell_numbers cells)
      behind = below-right (length texts) (cell_numbers d) (flat_map cell_numbers cells) below

      by : (b : Bool) → (n == d.name.0) ≡ b → (cell_numbered cells n ≡ Some c → Below texts (cell_numbers c)) → Below texts (cell_numbers c)
      by true s rest =
          let here : Some d ≡ Some c = rw s at e in
          let same : d ≡ c = cc in
          subst (λ x. Below texts (cell_numbers x)) same (below-left (length texts) (cell_numbers d) (flat_map cell_numbers cells) below)
      by false s rest = let there : cell_numbered cells n ≡ Some c = rw s at e in rest there

  pub all_joined : (cells : List Cell) (xs : List Instance) → Below texts (flat_map cell_numbers cells) → Below texts (flat_map instance_numbers xs) → list_all (λ (x : InstanceView). fits.is_joined x (fits.cell_named (map (cell_view texts) cells) x.target)) (map (instance_view texts) xs) ≡ numbered.are_joined cells xs
  all_joined cells [] of_cells below = refl
  all_joined cells (x ∷ xs) of_cells below =
      let here = below-left (length texts) (instance_numbers x) (flat_map instance_numbers xs) below in
      let behind = below-right (length texts) (instance_numbers x) (flat_map instance_numbers xs) below in
      let first = ap (fits.is_joined (instance_view texts x)) (cell_same cells x.target.0 (target_below x here) of_cells) ∙ joined x (cell_numbered cells x.target.0) here (λ c e. found_below cells x.target.0 c of_cells e) in
      λ i. first i && all_joined cells xs of_cells behind i
