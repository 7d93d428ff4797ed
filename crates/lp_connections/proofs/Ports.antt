-- The ports of a module and the pins of a cell of a netlist by the texts of their names.
use Rattle.std.proofs.Common.{◌≡◌, ℕ, ◌<◌, true, false, ◌||◌, List, [], ◌++◌, length, map, Some, None, refl, sym, ap, ◌∙◌}
use Rattle.std.specs.Prelude.{slice_get, bytes_eq}
use Rattle.std.specs.List.{flat_map}
use Rattle.std.specs.Option.{option_map, option_and_then, option_map_or}
use Rattle.std.proofs.lemmas.Option.{slice_get-map}
use Rattle.lp_text.specs.Texts.{text_at, distinct}
use Rattle.lp_model.specs.Agreement.{numbers_below, option_numbers}
use Rattle.lp_model.specs.declared.library.Cell.{Cell}
use Rattle.lp_model.specs.declared.library.Library.{Library}
use Rattle.lp_model.specs.declared.library.PgPin.{PgPin}
use Rattle.lp_model.specs.declared.library.Pin.{Pin}
use Rattle.lp_model.specs.declared.netlist.Module.{Module}
use Rattle.lp_model.specs.declared.netlist.Netlist.{Netlist}
use Rattle.lp_model.specs.declared.netlist.Port.{Port}
use Rattle.lp_model.specs.NetlistView as nets
use Rattle.lp_model.specs.NetlistView.{PortView, ModuleView, port_view, module_view, port_numbers, net_numbers, instance_numbers, assign_numbers}
use Rattle.lp_model.specs.LibraryView as cells
use Rattle.lp_model.specs.LibraryView.{PgPinView, PinView, CellView, pin_view, pg_pin_view, cell_view, expr_numbers, switched_numbers, pg_pin_numbers, pin_numbers, state_numbers, roles_numbers}
use Rattle.lp_spec_design.specs.Netlists.{Structure, first}
use Rattle.lp_spec_faults.specs.Wires as wires
use Rattle.lp_places.specs.Places.{place_of_number, has_number}
use Rattle.lp_places.proofs.Numbers.{below-left, below-right, below-tail}
use Rattle.lp_targets.specs.Structures.{structure_of, AreNamed}
use Rattle.lp_connections.specs.Parts.{Parts, port_names, pin_names, pg_names, output_names, parts_of, port_placed, port_named, has_pin, has_output, has_pg}
use Rattle.lp_connections.proofs.Named.{below-first, below-at, first_same, any_same, output_same}

module _ (texts : List (List ℕ)) (apart : distinct texts ≡ true) (n : Netlist) (l : Library) (are_named : AreNamed texts n l) where
  abbrev Below : List ℕ → Type 0
  Below ks = numbers_below (length texts) ks ≡ true

  abbrev s : Structure
  s = structure_of texts n l

  abbrev d : Parts
  d = parts_of n.modules l.cells

  module _ (k : ℕ) (m : Module) (is : slice_get n.modules k ≡ Some m) where
    pub module-there : slice_get s.modules k ≡ Some (module_view texts m)
    module-there = slice_get-map (module_view texts) n.modules k ∙ ap (option_map (module_view texts)) is

    ports-below : Below (port_names m.ports)
    ports-below =
        let ports = flat_map port_numbers m.ports in
        let rest = flat_map net_numbers m.nets ++ (flat_map instance_numbers m.instances ++ flat_map assign_numbers m.assigns) in
        let all = below-at (length texts) nets.module_numbers n.modules k m is are_named.netlist in
        below-first (length texts) (λ (p : Port). p.name.0) (λ p. []) m.ports (below-left (length texts) ports rest (below-tail (length texts) m.name.0 (ports ++ rest) all))

    pub port-placed : (j : ℕ) → port_placed d k j ≡ slice_get m.ports j
    port-placed j = ap (option_and_then (λ (y : Module). slice_get y.ports j)) is

    port-by : (j : ℕ) → port_named d k j ≡ option_and_then (slice_get m.ports) (place_of_number j (port_names m.ports))
    port-by j = ap (λ o. option_and_then (λ i. option_and_then (λ (y : Module). slice_get y.ports i) o) (option_and_then (λ (y : Module). place_of_number j (port_names y.ports)) o)) is

    pub port-named : (j : ℕ) → j < length texts → first (λ (p : PortView). bytes_eq p.name (text_at texts j)) (map (port_view texts) m.ports) ≡ option_map (port_view texts) (port_named d k j)
    port-named j h =
        first_same texts apart (port_view texts) (λ (p : PortView). p.name) (λ (p : Port). p.name.0) (λ p. refl) j m.ports h ports-below
        ∙ ap (option_map (port_view texts)) (sym (port-by j))

  module _ (k : ℕ) (c : Cell) (is : slice_get l.cells k ≡ Some c) where
    pub cell-there : slice_get s.cells k ≡ Some (cell_view texts c)
    cell-there = slice_get-map (cell_view texts) l.cells k ∙ ap (option_map (cell_view texts)) is

    numbers-below : Below (cells.cell_numbers c)
    numbers-below = below-at (length texts) cells.cell_numbers l.cells k c is are_named.library

    abbrev pgs : List ℕ
    pgs = flat_map pg_pin_numbers c.pgs

    abbrev behind : List ℕ
    behind = option_numbers state_numbers c.state ++ roles_numbers c.roles

    pgs-below : Below (pg_names c.pgs)
    pgs-below =
        below-first (length texts) (λ (g : PgPin). g.name.0) (λ (g : PgPin). option_numbers switched_numbers g.switched) c.pgs
        (below-left (length texts) pgs (flat_map pin_numbers c.pins ++ behind) (below-tail (length texts) c.name.0 (pgs ++ (flat_map pin_numbers c.pins ++ behind)) numbers-below))

    pins-below : Below (pin_names c.pins)
    pins-below =
        below-first (length texts) (λ (q : Pin). q.name.0) (λ (q : Pin). option_numbers expr_numbers q.function ++ option_numbers expr_numbers q.power_down) c.pins
        (below-left (length texts) (flat_map pin_numbers c.pins) behind
        (below-right (length texts) pgs (flat_map pin_numbers c.pins ++ behind) (below-tail (length texts) c.name.0 (pgs ++ (flat_map pin_numbers c.pins ++ behind)) numbers-below)))

    module _ (j : ℕ) (h : j < length texts) where
      pub pg-same : wires.has_pg (cell_view texts c) (text_at texts j) ≡ has_pg d k j
      pg-same =
          any_same texts apart (pg_pin_view texts) (λ (g : PgPinView). g.name) (λ (g : PgPin). g.name.0) (λ g. refl) j c.pgs h pgs-below
          ∙ sym (ap (λ o. option_map_or (λ (y : Cell). has_number j (pg_names y.pgs)) o false) is)

      pub pin-same : wires.has_pin (cell_view texts c) (text_at texts j) ≡ has_pin d k j
      pin-same =
          (λ i. any_same texts apart (pin_view texts) (λ (q : PinView). q.name) (λ (q : Pin). q.name.0) (λ q. refl) j c.pins h pins-below i
          || any_same texts apart (pg_pin_view texts) (λ (g : PgPinView). g.name) (λ (g : PgPin). g.name.0) (λ g. refl) j c.pgs h pgs-below i)
          ∙ sym (ap (λ o. option_map_or (λ (y : Cell). has_number j (pin_names y.pins) || has_number j (pg_names y.pgs)) o false) is)

      pub output-same : wires.has_output (cell_view texts c) (text_at texts j) ≡ has_output d k j
      output-same =
          output_same texts apart j c.pins h pins-below
          ∙ sym (ap (λ o. option_map_or (λ (y : Cell). has_number j (output_names y.pins)) o false) is)

  -- where nothing stands
  pub no-module : (k : ℕ) → slice_get n.modules k ≡ None → slice_get s.modules k ≡ None
  no-module k is = slice_get-map (module_view texts) n.modules k ∙ ap (option_map (module_view texts)) is

  pub no-cell : (k : ℕ) → slice_get l.cells k ≡ None → slice_get s.cells k ≡ None
  no-cell k is = slice_get-map (cell_view texts) l.cells k ∙ ap (option_map (cell_view texts)) is
