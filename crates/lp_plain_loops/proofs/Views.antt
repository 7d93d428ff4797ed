-- The rows by the numbers of names are those by their texts.
use Rattle.std.proofs.Common.{◌≡◌, ℕ, ◌<◌, ◌==◌, true, false, ◌&&◌, cond, List, [], ◌∷◌, ◌++◌, length, Option, Some, None, refl, sym, ap, ◌∙◌, subst}
use Rattle.std.specs.Prelude.{map, flat_map, replicate, bytes_eq, slice_get, option_to_list, ltb}
use Rattle.std.specs.Option.{option_map, option_and_then}
use Rattle.std.proofs.lemmas.Bool.{and_parts}
use Rattle.std.proofs.lemmas.List.{length-map, map-append}
use Rattle.lp_text.specs.Texts.{text_at, distinct, place_of}
use Rattle.lp_text.specs.declared.names.NameId.{NameId}
use Rattle.lp_expr.specs.Formula.{Formula}
use Rattle.lp_model.specs.Agreement.{numbers_below, option_numbers, name_numbers, name_texts}
use Rattle.lp_model.specs.declared.bits.Bit.{Bit}
use Rattle.lp_model.specs.declared.bits.Bit.TheVariants.{Net, Select, Const}
use Rattle.lp_model.specs.declared.netlist.Direction.{Direction}
use Rattle.lp_model.specs.declared.netlist.Direction.TheVariants.{Input, Output}
use Rattle.lp_model.specs.declared.netlist.Port.{Port}
use Rattle.lp_model.specs.declared.netlist.NetDecl.{NetDecl}
use Rattle.lp_model.specs.declared.netlist.Connection.{Connection}
use Rattle.lp_model.specs.declared.netlist.Connections.{Connections}
use Rattle.lp_model.specs.declared.netlist.Connections.TheVariants.{Named, Ordered}
use Rattle.lp_model.specs.declared.netlist.Instance.{Instance}
use Rattle.lp_model.specs.declared.netlist.Module.{Module}
use Rattle.lp_model.specs.declared.library.Pin.{Pin}
use Rattle.lp_model.specs.declared.library.Cell.{Cell}
use Rattle.lp_model.specs.NetlistView.{bits_view, bits_numbers, port_view, port_numbers, net_view, net_numbers, connection_view, connection_numbers, connections_view, connections_numbers, instance_view, instance_numbers, assign_numbers, PortView, NetView, module_view, module_numbers}
use Rattle.lp_model.specs.LibraryView.{PinView, expr_view, expr_numbers, pg_pin_numbers, pin_view, pin_numbers, state_numbers, roles_numbers, cell_view, cell_numbers}
use Rattle.lp_behaviour.specs.Signals as signals
use Rattle.lp_spec_design.specs.Netlists.{first, bits_named, is_input}
use Rattle.lp_spec_design.specs.Graph.{is_output_pin}
use Rattle.std.specs.List.{AllByRecursion}
use Rattle.lp_spec_plain_module.proofs.Sources.{AllByRecursion-append}
use Rattle.lp_spec_plain_netlist.specs.Fits.{cell_named}
use Rattle.lp_plain_index.specs.Cells.{cell_numbered}
use Rattle.lp_plain_index.proofs.Numbers.{below-left, below-right, below-head, below-tail, same_name, place_of_text, map_map, cell_at, cell_at_number}
use Rattle.lp_plain_loops.specs.Rows as texted
use Rattle.lp_plain_loops.specs.Rows.{note_at, row_of, net_names}
use Rattle.lp_plain_loops.specs.Numbered as numbered
use Rattle.lp_plain_loops.specs.Numbered.{Entry, named, is_in, is_out}

abbrev Below : List (List ℕ) → List ℕ → Type 0
Below texts ns = numbers_below (length texts) ns ≡ true

-- the first of numbers below a bound
ltb-of : (texts : List (List ℕ)) (n : ℕ) (ns : List ℕ) → Below texts (n ∷ ns) → ltb n (length texts) ≡ true
ltb-of texts n ns e = (and_parts (ltb n (length texts)) (numbers_below (length texts) ns) e).0

module _ (texts : List (List ℕ)) (apart : distinct texts ≡ true) where
  abbrev text_of : NameId → List ℕ
  text_of n = text_at texts n.0

  -- ---- pins

  bits_same : (cs : List Connection) (n : ℕ) → n < length texts → Below texts (flat_map connection_numbers cs) → bits_named (text_at texts n) (map (connection_view texts) cs) ≡ bits_view texts (numbered.bits_at cs n)
  bits_same [] n l below = refl
  bits_same (c ∷ cs) n l below =
      let here = below-left (length texts) (connection_numbers c) (flat_map connection_numbers cs) below in
      let behind = below-right (length texts) (connection_numbers c) (flat_map connection_numbers cs) below in
      let t = text_at texts n in
      ap (λ b. cond b (bits_view texts c.bits) (bits_named t (map (connection_view texts) cs))) (same_name texts apart c.port.0 n (below-head (length texts) c.port.0 (bits_numbers c.bits) here) l)
      ∙ elim (c.port.0 == n) as (λ b. cond b (bits_view texts c.bits) (bits_named t (map (connection_view texts) cs)) ≡ bits_view texts (cond b c.bits (numbered.bits_at cs n))) [ true ↦ refl | false ↦ bits_same cs n l behind ]

  net_same : (bits : List Bit) → texted.net_in (bits_view texts bits) ≡ option_map text_of (numbered.net_in bits)
  net_same [] = refl
  net_same (Net n ∷ bits) = refl
  net_same (Select n i ∷ bits) = refl
  net_same (Const b ∷ bits) = refl

  at_same : (cs : Connections) (n : ℕ) → n < length texts → Below texts (connections_numbers cs) → texted.net_at (connections_view texts cs) (text_at texts n) ≡ option_map text_of (numbered.net_at (named cs) n)
  at_same (Named cs) n l below = ap texted.net_in (bits_same cs n l below) ∙ net_same (numbered.bits_at cs n)
  at_same (Ordered values) n l below = refl

  -- the number of a name, where there is one
  abbrev NameBelow : Option NameId → Type 0
  NameBelow None = Unit {0}
  NameBelow (Some n) = n.0 < length texts

  in_below : (bits : List Bit) → Below texts (bits_numbers bits) → NameBelow (numbered.net_in bits)
  in_below [] below = tt
  in_below (Net n ∷ bits) below = below-head (length texts) n.0 (bits_numbers bits) below
  in_below (Select n i ∷ bits) below = tt
  in_below (Const b ∷ bits) below = tt

  list_below : (cs : List Connection) (n : ℕ) → Below texts (flat_map connection_numbers cs) → NameBelow (numbered.net_at cs n)
  list_below [] n below = tt
  list_below (c ∷ cs) n below =
      let here = below-left (length texts) (connection_numbers c) (flat_map connection_numbers cs) below in
      let behind = below-right (length texts) (connection_numbers c) (flat_map connection_numbers cs) below in
      elim (c.port.0 == n) as (λ b. NameBelow (numbered.net_in (cond b c.bits (numbered.bits_at cs n)))) [ true ↦ in_below c.bits (below-tail (length texts) c.port.0 (bits_numbers c.bits) here) | false ↦ list_below cs n behind ]

  at_below : (cs : Connections) (n : ℕ) → Below texts (connections_numbers cs) → NameBelow (numbered.net_at (named cs) n)
  at_below (Named cs) n below = list_below cs n below
  at_below (Ordered values) n below = tt

  pin_same : (pins : List Pin) (n : ℕ) → n < length texts → Below texts (flat_map pin_numbers pins) → first (λ (q : PinView). bytes_eq q.name (text_at texts n)) (map (pin_view texts) pins) ≡ option_map (pin_view texts) (numbered.pin_at pins n)
  pin_same [] n l below = refl
  pin_same (q ∷ pins) n l below =
      let here = below-left (length texts) (pin_numbers q) (flat_map pin_numbers pins) below in
      let behind = below-right (length texts) (pin_numbers q) (flat_map pin_numbers pins) below in
      let rest = first (λ (z : PinView). bytes_eq z.name (text_at texts n)) (map (pin_view texts) pins) in
      ap (λ b. cond b (Some (pin_view texts q)) rest) (same_name texts apart q.name.0 n (below-head (length texts) q.name.0 _ here) l)
      ∙ elim (q.name.0 == n) as (λ b. cond b (Some (pin_view texts q)) rest ≡ option_map (pin_view texts) (cond b (Some q) (numbered.pin_at pins n))) [ true ↦ refl | false ↦ pin_same pins n l behind ]

  read_same : (pins : List Pin) (n : ℕ) → n < length texts → Below texts (flat_map pin_numbers pins) → first (λ (q : PinView). signals.is_input q.direction && bytes_eq q.name (text_at texts n)) (map (pin_view texts) pins) ≡ option_map (pin_view texts) (numbered.input_at pins n)
  read_same [] n l below = refl
  read_same (q ∷ pins) n l below =
      let here = below-left (length texts) (pin_numbers q) (flat_map pin_numbers pins) below in
      let behind = below-right (length texts) (pin_numbers q) (flat_map pin_numbers pins) below in
      let rest = first (λ (z : PinView). signals.is_input z.direction && bytes_eq z.name (text_at texts n)) (map (pin_view texts) pins) in
      ap (λ b. cond (signals.is_input q.direction && b) (Some (pin_view texts q)) rest) (same_name texts apart q.name.0 n (below-head (length texts) q.name.0 _ here) l)
      ∙ elim (signals.is_input q.direction && (q.name.0 == n)) as (λ b. cond b (Some (pin_view texts q)) rest ≡ option_map (pin_view texts) (cond b (Some q) (numbered.input_at pins n))) [ true ↦ refl | false ↦ read_same pins n l behind ]

  function_below : (pins : List Pin) (n : ℕ) → Below texts (flat_map pin_numbers pins) → Below texts (option_numbers expr_numbers (numbered.function_at pins n))
  function_below [] n below = refl
  function_below (q ∷ pins) n below =
      let here = below-left (length texts) (pin_numbers q) (flat_map pin_numbers pins) below in
      let behind = below-right (length texts) (pin_numbers q) (flat_map pin_numbers pins) below in
      let own = below-tail (length texts) q.name.0 (option_numbers expr_numbers q.function ++ option_numbers expr_numbers q.power_down) here in
      elim (q.name.0 == n) as (λ b. Below texts (option_numbers expr_numbers (option_and_then (λ (x : Pin). x.function) (cond b (Some q) (numbered.pin_at pins n))))) [
        | true ↦ below-left (length texts) (option_numbers expr_numbers q.function) (option_numbers expr_numbers q.power_down) own
        | false ↦ function_below pins n behind
      ]

  function_view : (q : Option Pin) → option_and_then (λ (x : PinView). x.function) (option_map (pin_view texts) q) ≡ option_map (expr_view texts) (option_and_then (λ (x : Pin). x.function) q)
  function_view None = refl
  function_view (Some q) = refl

  out_same : (q : Pin) (d : Direction) → q.direction ≡ d → is_output_pin (pin_view texts q) ≡ is_out q.direction
  out_same q Input e = rw (e) refl
  out_same q Output e = rw (e) refl

  input_same : (p : Port) (d : Direction) → p.direction ≡ d → is_input (port_view texts p) ≡ is_in p.direction
  input_same p Input e = rw (e) refl
  input_same p Output e = rw (e) refl

  -- ---- entries

  abbrev text_entry : Entry → texted.Entry
  text_entry e = (text_at texts e.0, e.1)

  -- entries by texts and by numbers
  abbrev Same : List texted.Entry → List Entry → Type 0
  Same es fs = (es ≡ map text_entry fs) × AllByRecursion (λ (e : Entry). e.0 < length texts) fs

  Same-append : (xs ys : List texted.Entry) (zs ws : List Entry) → Same xs zs → Same ys ws → Same (xs ++ ys) (zs ++ ws)
  Same-append xs ys zs ws a b = ((λ i. a.0 i ++ b.0 i) ∙ sym (map-append text_entry zs ws), AllByRecursion-append (λ (e : Entry). e.0 < length texts) zs ws a.1 b.1)

  net_entries : (o : Option NameId) (row line : List ℕ) → NameBelow o → row ≡ line → Same (texted.net_entries (option_map text_of o) row) (numbered.net_entries o line)
  net_entries None row line l e = (refl, tt)
  net_entries (Some n) row line l e = (ap (λ r. (text_of n, r) ∷ []) e, (l, tt))

  module _ (nets : List ℕ) (known : Below texts nets) where
    abbrev names : List (List ℕ)
    names = map (text_at texts) nets

    number_same : (o : Option NameId) → NameBelow o → texted.number_of names (option_map text_of o) ≡ option_to_list (numbered.number_of nets o)
    number_same None l = refl
    number_same (Some n) l = ap option_to_list (place_of_text texts apart n.0 nets l known)

    pin_only : (q : Option Pin) (r : Option ℕ) → texted.if_pin (option_map (pin_view texts) q) (option_to_list r) ≡ option_to_list (numbered.if_pin q r)
    pin_only None r = refl
    pin_only (Some q) r = refl

    module _ (c : Cell) (pins : Below texts (flat_map pin_numbers c.pins)) (cs : Connections) (joined : Below texts (connections_numbers cs)) where
      name_same : (v : NameId) → v.0 < length texts → texted.name_row names (cell_view texts c) (connections_view texts cs) (text_of v) ≡ numbered.name_row nets c.pins (named cs) v
      name_same v l =
          (λ i. texted.if_pin (read_same c.pins v.0 l pins i) ((ap (texted.number_of names) (at_same cs v.0 l joined) ∙ number_same (numbered.net_at (named cs) v.0) (at_below cs v.0 joined)) i))
          ∙ pin_only (numbered.input_at c.pins v.0) (numbered.number_of nets (numbered.net_at (named cs) v.0))

      names_same : (vs : List NameId) → Below texts (name_numbers vs) → flat_map (texted.name_row names (cell_view texts c) (connections_view texts cs)) (name_texts texts vs) ≡ flat_map (numbered.name_row nets c.pins (named cs)) vs
      names_same [] below = refl
      names_same (v ∷ vs) below = λ i. name_same v (below-head (length texts) v.0 (name_numbers vs) below) i ++ names_same vs (below-tail (length texts) v.0 (name_numbers vs) below) i

      function_same : (e : Option Formula) → Below texts (option_numbers expr_numbers e) → texted.function_row names (cell_view texts c) (connections_view texts cs) (option_map (expr_view texts) e) ≡ numbered.function_row nets c.pins (named cs) e
      function_same None below = refl
      function_same (Some e) below = names_same e.variables below

      output_same : (q : ℕ) → q < length texts → texted.output_row names (cell_view texts c) (connections_view texts cs) (text_at texts q) ≡ numbered.output_row nets c.pins (named cs) q
      output_same q l =
          ap (texted.function_row names (cell_view texts c) (connections_view texts cs)) (ap (option_and_then (λ (x : PinView). x.function)) (pin_same c.pins q l pins) ∙ function_view (numbered.pin_at c.pins q))
          ∙ function_same (numbered.function_at c.pins q) (function_below c.pins q pins)

      pin_entries : (q : Pin) → q.name.0 < length texts → Same (texted.pin_entries names (cell_view texts c) (connections_view texts cs) (pin_view texts q)) (numbered.pin_entries nets c.pins (named cs) q)
      pin_entries q l =
          let t = text_of q.name in
          subst (λ b. Same (cond b (texted.net_entries (texted.net_at (connections_view texts cs) t) (texted.output_row names (cell_view texts c) (connections_view texts cs) t)) []) (numbered.pin_entries nets c.pins (named cs) q)) (sym (out_same q q.direction refl))
          (elim (is_out q.direction) as (λ b. Same (cond b (texted.net_entries (texted.net_at (connections_view texts cs) t) (texted.output_row names (cell_view texts c) (connections_view texts cs) t)) []) (cond b (numbered.net_entries (numbered.net_at (named cs) q.name.0) (numbered.output_row nets c.pins (named cs) q.name.0)) [])) [
            | true ↦ subst (λ o. Same (texted.net_entries o (texted.output_row names (cell_view texts c) (connections_view texts cs) t)) (numbered.net_entries (numbered.net_at (named cs) q.name.0) (numbered.output_row nets c.pins (named cs) q.name.0))) (sym (at_same cs q.name.0 l joined))
                (net_entries (numbered.net_at (named cs) q.name.0) (texted.output_row names (cell_view texts c) (connections_view texts cs) t) (numbered.output_row nets c.pins (named cs) q.name.0) (at_below cs q.name.0 joined) (output_same q.name.0 l))
            | false ↦ (refl, tt)
          ])

      pins_entries : (qs : List Pin) → Below texts (flat_map pin_numbers qs) → Same (flat_map (texted.pin_entries names (cell_view texts c) (connections_view texts cs)) (map (pin_view texts) qs)) (flat_map (numbered.pin_entries nets c.pins (named cs)) qs)
      pins_entries [] below = (refl, tt)
      pins_entries (q ∷ qs) below =
          let here = below-left (length texts) (pin_numbers q) (flat_map pin_numbers qs) below in
          let behind = below-right (length texts) (pin_numbers q) (flat_map pin_numbers qs) below in
          Same-append (texted.pin_entries names (cell_view texts c) (connections_view texts cs) (pin_view texts q)) (flat_map (texted.pin_entries names (cell_view texts c) (connections_view texts cs)) (map (pin_view texts) qs)) (numbered.pin_entries nets c.pins (named cs) q) (flat_map (numbered.pin_entries nets c.pins (named cs)) qs)
          (pin_entries q (below-head (length texts) q.name.0 _ here)) (pins_entries qs behind)

    cell_pins : (c : Cell) → Below texts (cell_numbers c) → Below texts (flat_map pin_numbers c.pins)
    cell_pins c below =
        let pgs = flat_map pg_pin_numbers c.pgs in
        let pins = flat_map pin_numbers c.pins in
        let rest = option_numbers state_numbers c.state ++ roles_numbers c.roles in
        below-left (length texts) pins rest (below-right (length texts) pgs (pins ++ rest) (below-tail (length texts) c.name.0 (pgs ++ (pins ++ rest)) below))

    cell_entries : (cs : Connections) → Below texts (connections_numbers cs) → (o : Option Cell) → Below texts (option_numbers cell_numbers o) → Same (texted.cell_entries names (connections_view texts cs) (option_map (cell_view texts) o)) (numbered.cell_entries nets (named cs) o)
    cell_entries cs joined None below = (refl, tt)
    cell_entries cs joined (Some c) below = pins_entries c (cell_pins c below) cs joined c.pins (cell_pins c below)

    module _ (cells : List Cell) (of_cells : Below texts (flat_map cell_numbers cells)) where
      found_below : (n : ℕ) (xs : List Cell) → Below texts (flat_map cell_numbers xs) → Below texts (option_numbers cell_numbers (cell_numbered xs n))
      found_below n [] below = refl
      found_below n (c ∷ xs) below =
          elim (n == c.name.0) as (λ b. Below texts (option_numbers cell_numbers (cond b (Some c) (cell_numbered xs n)))) [
            | true ↦ below-left (length texts) (cell_numbers c) (flat_map cell_numbers xs) below
            | false ↦ found_below n xs (below-right (length texts) (cell_numbers c) (flat_map cell_numbers xs) below)
          ]

      cell_names : (xs : List Cell) → Below texts (flat_map cell_numbers xs) → Below texts (map (λ (c : Cell). c.name.0) xs)
      cell_names [] below = refl
      cell_names (c ∷ xs) below =
          let here = below-left (length texts) (cell_numbers c) (flat_map cell_numbers xs) below in
          rw (ltb-of texts c.name.0 (flat_map pg_pin_numbers c.pgs ++ (flat_map pin_numbers c.pins ++ (option_numbers state_numbers c.state ++ roles_numbers c.roles))) here) (cell_names xs (below-right (length texts) (cell_numbers c) (flat_map cell_numbers xs) below))

      cell_same : (n : ℕ) → n < length texts → cell_named (map (cell_view texts) cells) (text_at texts n) ≡ option_map (cell_view texts) (cell_numbered cells n)
      cell_same n l =
          sym (cell_at texts cells (text_at texts n))
          ∙ ap (λ r. option_map (cell_view texts) (option_and_then (slice_get cells) r)) (ap (place_of (text_at texts n)) (sym (map_map (text_at texts) (λ (c : Cell). c.name.0) cells)) ∙ place_of_text texts apart n (map (λ (c : Cell). c.name.0) cells) l (cell_names cells of_cells))
          ∙ ap (option_map (cell_view texts)) (cell_at_number cells n)

      instance_entries : (x : Instance) → Below texts (instance_numbers x) → Same (texted.instance_entries (map (cell_view texts) cells) names (instance_view texts x)) (numbered.instance_entries cells nets x)
      instance_entries x below =
          let behind = below-tail (length texts) x.name.0 (x.target.0 ∷ connections_numbers x.connections) below in
          let target = below-head (length texts) x.target.0 (connections_numbers x.connections) behind in
          subst (λ o. Same (texted.cell_entries names (connections_view texts x.connections) o) (numbered.instance_entries cells nets x)) (sym (cell_same x.target.0 target))
          (cell_entries x.connections (below-tail (length texts) x.target.0 (connections_numbers x.connections) behind) (cell_numbered cells x.target.0) (found_below x.target.0 cells of_cells))

      instances_entries : (xs : List Instance) → Below texts (flat_map instance_numbers xs) → Same (flat_map (texted.instance_entries (map (cell_view texts) cells) names) (map (instance_view texts) xs)) (flat_map (numbered.instance_entries cells nets) xs)
      instances_entries [] below = (refl, tt)
      instances_entries (x ∷ xs) below =
          Same-append (texted.instance_entries (map (cell_view texts) cells) names (instance_view texts x)) (flat_map (texted.instance_entries (map (cell_view texts) cells) names) (map (instance_view texts) xs)) (numbered.instance_entries cells nets x) (flat_map (numbered.instance_entries cells nets) xs)
          (instance_entries x (below-left (length texts) (instance_numbers x) (flat_map instance_numbers xs) below)) (instances_entries xs (below-right (length texts) (instance_numbers x) (flat_map instance_numbers xs) below))

    ports_entries : (ports : List Port) → Below texts (flat_map port_numbers ports) → Same (flat_map texted.port_entries (map (port_view texts) ports)) (flat_map numbered.port_entries ports)
    ports_entries [] below = (refl, tt)
    ports_entries (p ∷ ports) below =
        Same-append (texted.port_entries (port_view texts p)) (flat_map texted.port_entries (map (port_view texts) ports)) (numbered.port_entries p) (flat_map numbered.port_entries ports)
        (subst (λ b. Same (cond b ((text_of p.name, []) ∷ []) []) (numbered.port_entries p)) (sym (input_same p p.direction refl))
        (elim (is_in p.direction) as (λ b. Same (cond b ((text_of p.name, []) ∷ []) []) (cond b ((p.name.0, []) ∷ []) [])) [ true ↦ (refl, (below-head (length texts) p.name.0 (flat_map port_numbers ports) below, tt)) | false ↦ (refl, tt) ]))
        (ports_entries ports (below-tail (length texts) p.name.0 (flat_map port_numbers ports) below))

    noted_same : (found : List (Option (List ℕ))) (es : List Entry) → AllByRecursion (λ (e : Entry). e.0 < length texts) es → texted.note_all names found (map text_entry es) ≡ numbered.note_all nets found es
    noted_same found [] l = refl
    noted_same found (e ∷ es) l =
        ap (λ p. texted.note_all names (note_at found p e.1) (map text_entry es)) (place_of_text texts apart e.0 nets l.0 known)
        ∙ noted_same (numbered.note nets found e) es l.1

    all_same : (found : List (Option (List ℕ))) (es : List texted.Entry) (fs : List Entry) → Same es fs → texted.note_all names found es ≡ numbered.note_all nets found fs
    all_same found es fs s = ap (texted.note_all names found) s.0 ∙ noted_same found fs s.1

  -- ---- the module

  port_names : (ports : List Port) → map (λ (p : PortView). p.name) (map (port_view texts) ports) ≡ map (text_at texts) (map (λ (p : Port). p.name.0) ports)
  port_names [] = refl
  port_names (p ∷ ports) = ap (λ r. text_of p.name ∷ r) (port_names ports)

  decl_names : (nets : List NetDecl) → map (λ (n : NetView). n.name) (map (net_view texts) nets) ≡ map (text_at texts) (map (λ (n : NetDecl). n.name.0) nets)
  decl_names [] = refl
  decl_names (n ∷ nets) = ap (λ r. text_of n.name ∷ r) (decl_names nets)

  names_are : (m : Module) → net_names (module_view texts m) ≡ map (text_at texts) (numbered.net_numbers m)
  names_are m = (λ i. port_names m.ports i ++ decl_names m.nets i) ∙ sym (map-append (text_at texts) (map (λ (p : Port). p.name.0) m.ports) (map (λ (n : NetDecl). n.name.0) m.nets))

  below-both : (xs ys : List ℕ) → Below texts xs → Below texts ys → Below texts (xs ++ ys)
  below-both [] ys a b = b
  below-both (x ∷ xs) ys a b = rw (ltb-of texts x xs a) (below-both xs ys (below-tail (length texts) x xs a) b)

  ports_below : (ports : List Port) → Below texts (flat_map port_numbers ports) → Below texts (map (λ (p : Port). p.name.0) ports)
  ports_below [] a = refl
  ports_below (p ∷ ports) a = rw (ltb-of texts p.name.0 (flat_map port_numbers ports) a) (ports_below ports (below-tail (length texts) p.name.0 (flat_map port_numbers ports) a))

  decls_below : (nets : List NetDecl) → Below texts (flat_map net_numbers nets) → Below texts (map (λ (n : NetDecl). n.name.0) nets)
  decls_below [] a = refl
  decls_below (n ∷ nets) a = rw (ltb-of texts n.name.0 (flat_map net_numbers nets) a) (decls_below nets (below-tail (length texts) n.name.0 (flat_map net_numbers nets) a))

  pub rows_same : (cells : List Cell) (m : Module) → Below texts (flat_map cell_numbers cells) → Below texts (module_numbers m) → numbered.rows cells m ≡ texted.rows (map (cell_view texts) cells) (module_view texts m)
  rows_same cells m of_cells of_module =
      let ports = flat_map port_numbers m.ports in
      let decls = flat_map net_numbers m.nets in
      let instances = flat_map instance_numbers m.instances in
      let assigns = flat_map assign_numbers m.assigns in
      let nets = numbered.net_numbers m in
      let behind = below-tail (length texts) m.name.0 (ports ++ (decls ++ (instances ++ assigns))) of_module in
      let of_ports = below-left (length texts) ports (decls ++ (instances ++ assigns)) behind in
      let behind_ports = below-right (length texts) ports (decls ++ (instances ++ assigns)) behind in
      let of_decls = below-left (length texts) decls (instances ++ assigns) behind_ports in
      let of_instances = below-left (length texts) instances assigns (below-right (length texts) decls (instances ++ assigns) behind_ports) in
      let known = below-both (map (λ (p : Port). p.name.0) m.ports) (map (λ (n : NetDecl). n.name.0) m.nets) (ports_below m.ports of_ports) (decls_below m.nets of_decls) in
      let blank = replicate {A = Option (List ℕ)} (length nets) None in
      let inputs = flat_map texted.port_entries (map (port_view texts) m.ports) in
      let outputs = flat_map (texted.instance_entries (map (cell_view texts) cells) (map (text_at texts) nets)) (map (instance_view texts) m.instances) in
      sym (ap (λ ns. map row_of (texted.noted (map (cell_view texts) cells) ns (module_view texts m))) (names_are m)
      ∙ ap (λ n. map row_of (texted.note_all (map (text_at texts) nets) (texted.note_all (map (text_at texts) nets) (replicate n None) inputs) outputs)) (length-map nets (text_at texts))
      ∙ ap (λ f. map row_of (texted.note_all (map (text_at texts) nets) f outputs)) (all_same nets known blank inputs (flat_map numbered.port_entries m.ports) (ports_entries nets known m.ports of_ports))
      ∙ ap (map row_of) (all_same nets known (numbered.note_all nets blank (flat_map numbered.port_entries m.ports)) outputs (flat_map (numbered.instance_entries cells nets) m.instances) (instances_entries nets known cells of_cells m.instances of_instances)))
