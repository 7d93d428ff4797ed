-- The template of each module by the numbers of names is that of the module.
use Rattle.std.proofs.Common.{◌≡◌, ℕ, suc, ◌+◌, ◌<◌, true, List, [], ◌∷◌, ◌++◌, map, length, Some, None, inl, inr, refl, sym, ap, ◌∙◌, subst, arith}
use Rattle.std.specs.Prelude.{flat_map, ltb, slice_get}
use Rattle.std.proofs.lemmas.Bool.{and_from}
use Rattle.std.proofs.lemmas.List.Folds.{list_all-append}
use Rattle.lp_model.specs.Agreement.{numbers_below, option_numbers}
use Rattle.lp_model.specs.declared.bits.Bit.{Bit}
use Rattle.lp_model.specs.declared.library.Cell.{Cell}
use Rattle.lp_model.specs.declared.library.Library.{Library}
use Rattle.lp_model.specs.declared.library.PgPin.{PgPin}
use Rattle.lp_model.specs.declared.library.Pin.{Pin}
use Rattle.lp_model.specs.declared.netlist.Assign.{Assign}
use Rattle.lp_model.specs.declared.netlist.Instance.{Instance}
use Rattle.lp_model.specs.declared.netlist.Module.{Module}
use Rattle.lp_model.specs.declared.netlist.NetDecl.{NetDecl}
use Rattle.lp_model.specs.declared.netlist.Netlist.{Netlist}
use Rattle.lp_model.specs.declared.netlist.Port.{Port}
use Rattle.lp_model.specs.NetlistView.{BitView, PortView, NetView, InstanceView, AssignView, ModuleView, bit_view, bits_view, instance_view, assign_view, module_view, bit_numbers, bits_numbers, port_numbers, net_numbers, connections_numbers, instance_numbers, assign_numbers, module_numbers}
use Rattle.lp_model.specs.LibraryView.{cell_view, cell_numbers, pin_numbers, pg_pin_numbers, state_numbers, roles_numbers, expr_numbers, switched_numbers}
use Rattle.lp_spec_design.specs.Netlists.{Structure, module_named, cell_named}
use Rattle.lp_spec_design.specs.Graph.{pairs}
use Rattle.lp_spec_design.specs.Nodes.{connected_bits}
use Rattle.lp_spec_design.specs.Winners.{IsIn}
use Rattle.lp_spec_design.proofs.Members.{in-map}
use Rattle.lp_spec_bridge.specs.Keyed.{IsApart}
use Rattle.lp_spec_bridge.specs.Names.{net_names}
use Rattle.lp_spec_bridge.specs.Templates.{bits_in}
use Rattle.lp_spec_bridge.proofs.Distinct.{apart-left}
use Rattle.lp_spec_layout.specs.Parts as parts
use Rattle.lp_spec_layout.specs.Parts.{BitPair, assign_pairs, IsJoined, IsChild, IsCell, IsStatement, AreStatements, IsTemplate, AreTemplates}
use Rattle.lp_spec_layout.proofs.Lists.{get-in, get-map, Has, has-all, has-head, has-tail}
use Rattle.lp_places.proofs.Numbers.{below-left, below-right, below-tail}
use Rattle.lp_targets.specs.declared.size.Size.{Size}
use Rattle.lp_targets.specs.declared.target.Target.{Target}
use Rattle.lp_targets.specs.declared.target.Target.TheVariants.{OfModule, OfCell}
use Rattle.lp_targets.specs.Structures.{structure_of}
use Rattle.lp_targets.proofs.Looping.{stands}
use Rattle.lp_templates.specs.Connected.{assign_joints, inputs_from, outputs_from, cell_row}
use Rattle.lp_templates.specs.Modules.{module_statement, cell_statement, statement_of, placed_statement, size_placed, statements_from, own_bits, template_of, templates_from, templates_numbered}
use Rattle.lp_templates.specs.Numbered.{declared_in}
use Rattle.lp_templates.specs.Pieces.{joints_of}
use Rattle.lp_templates.specs.Sizes.{own_of}
use Rattle.lp_templates.specs.Stocks.{Stock, stock_of}
use Rattle.lp_templates.specs.Values.{places_of}
use Rattle.lp_templates.specs.Views.{size_view}
use Rattle.lp_spec_numbered.specs.Laws.{IsChecked}
use Rattle.lp_spec_numbered.specs.Read.{IsBitOf}
use Rattle.lp_spec_numbered.proofs.Bound.{IsBound, IsRow, bound-row}
use Rattle.lp_spec_numbered.proofs.Connected.{below-first, below-in}
use Rattle.lp_spec_numbered.proofs.Faults.{output-clean, drive-clean, power-open}
use Rattle.lp_spec_numbered.proofs.Joined.{none-joined, more-joined, lists-joined}
use Rattle.lp_spec_numbered.proofs.Places.{nets_of, numbers, names-declared, entry-or, length-map}
use Rattle.lp_spec_numbered.proofs.Ports.{all-inputs, all-outputs}
use Rattle.lp_spec_numbered.proofs.Rows.{row-resolved, row-drives}
use Rattle.lp_spec_numbered.proofs.Values.{IsKnown, IsNet, all-placed, all-driven}

abbrev Below : List (List ℕ) → List ℕ → Type 0
Below texts ks = numbers_below (length texts) ks ≡ true

-- ---- the numbers of a module and of a cell

module _ (texts : List (List ℕ)) (m : Module) (below : Below texts (module_numbers m)) where
  abbrev ports : List ℕ
  ports = flat_map port_numbers m.ports

  abbrev nets : List ℕ
  nets = flat_map net_numbers m.nets

  abbrev insts : List ℕ
  insts = flat_map instance_numbers m.instances

  abbrev assigns : List ℕ
  assigns = flat_map assign_numbers m.assigns

  parts-below : Below texts (ports ++ (nets ++ (insts ++ assigns)))
  parts-below = below-tail (length texts) m.name.0 (ports ++ (nets ++ (insts ++ assigns))) below

  port-names-below : Below texts (map (λ (p : Port). p.name.0) m.ports)
  port-names-below = below-first (length texts) (λ (p : Port). p.name.0) (λ (p : Port). []) m.ports (below-left (length texts) ports (nets ++ (insts ++ assigns)) parts-below)

  after-ports : Below texts (nets ++ (insts ++ assigns))
  after-ports = below-right (length texts) ports (nets ++ (insts ++ assigns)) parts-below

  net-names-below : Below texts (map (λ (x : NetDecl). x.name.0) m.nets)
  net-names-below = below-first (length texts) (λ (x : NetDecl). x.name.0) (λ (x : NetDecl). []) m.nets (below-left (length texts) nets (insts ++ assigns) after-ports)

  names-below : Below texts (numbers (nets_of m))
  names-below =
      ap (numbers_below (length texts)) (names-declared m)
      ∙ list_all-append (λ k. ltb k (length texts)) (map (λ (p : Port). p.name.0) m.ports) (map (λ (x : NetDecl). x.name.0) m.nets)
      ∙ and_from (numbers_below (length texts) (map (λ (p : Port). p.name.0) m.ports)) (numbers_below (length texts) (map (λ (x : NetDecl). x.name.0) m.nets)) port-names-below net-names-below

  instances-below : Below texts insts
  instances-below = below-left (length texts) insts assigns (below-right (length texts) nets (insts ++ assigns) after-ports)

  assigns-below : Below texts assigns
  assigns-below = below-right (length texts) insts assigns (below-right (length texts) nets (insts ++ assigns) after-ports)

  connections-below : (y : Instance) → IsIn y m.instances → Below texts (connections_numbers y.connections)
  connections-below y h =
      below-tail (length texts) y.target.0 (connections_numbers y.connections)
      (below-tail (length texts) y.name.0 (y.target.0 ∷ connections_numbers y.connections) (below-in (length texts) instance_numbers m.instances y h instances-below))

module _ (texts : List (List ℕ)) (c : Cell) (below : Below texts (cell_numbers c)) where
  abbrev pgs : List ℕ
  pgs = flat_map pg_pin_numbers c.pgs

  abbrev pins : List ℕ
  pins = flat_map pin_numbers c.pins

  abbrev rest : List ℕ
  rest = option_numbers state_numbers c.state ++ roles_numbers c.roles

  cell-below : Below texts (pgs ++ (pins ++ rest))
  cell-below = below-tail (length texts) c.name.0 (pgs ++ (pins ++ rest)) below

  pgs-below : Below texts (map (λ (g : PgPin). g.name.0) c.pgs)
  pgs-below = below-first (length texts) (λ (g : PgPin). g.name.0) (λ (g : PgPin). option_numbers switched_numbers g.switched) c.pgs (below-left (length texts) pgs (pins ++ rest) cell-below)

  pins-below : Below texts (map (λ (q : Pin). q.name.0) c.pins)
  pins-below =
      below-first (length texts) (λ (q : Pin). q.name.0) (λ (q : Pin). option_numbers expr_numbers q.function ++ option_numbers expr_numbers q.power_down) c.pins
      (below-left (length texts) pins rest (below-right (length texts) pgs (pins ++ rest) cell-below))

-- ---- a module of a netlist that is checked

module _ (texts : List (List ℕ)) (n : Netlist) (l : Library) (rows : List (List Target)) (ok : IsChecked texts n l rows) where
  abbrev s : Structure
  s = structure_of texts n l

  -- what a module has by its place in the netlist
  inner-below : (k : ℕ) (m : Module) → slice_get n.modules k ≡ Some m → Below texts (module_numbers m)
  inner-below k m at = below-in (length texts) module_numbers n.modules m (get-in n.modules k m at) ok.named.netlist

  view-at : (k : ℕ) (m : Module) → slice_get n.modules k ≡ Some m → slice_get s.modules k ≡ Some (module_view texts m)
  view-at k m at = get-map (module_view texts) n.modules k m at

  view-in : (k : ℕ) (m : Module) → slice_get n.modules k ≡ Some m → IsIn (module_view texts m) s.modules
  view-in k m at = get-in s.modules k (module_view texts m) (view-at k m at)

  names-apart : (k : ℕ) (m : Module) → slice_get n.modules k ≡ Some m → IsApart (net_names (module_view texts m))
  names-apart k m at = ok.names.nets (module_view texts m) (view-in k m at)

  module _ (a : ℕ) (m : Module) (at : slice_get n.modules a ≡ Some m) where
    abbrev v : ModuleView
    v = module_view texts m

    m-below : Below texts (module_numbers m)
    m-below = inner-below a m at

    nets-below : Below texts (numbers (nets_of m))
    nets-below = names-below texts m m-below

    -- ---- assigns

    all-known : (bits : List Bit) → Below texts (bits_numbers bits) → ((b : BitView) → IsIn b (bits_view texts bits) → IsBitOf v b) → (b : Bit) → IsIn b bits → IsKnown texts m b
    all-known bits low each b h = (below-in (length texts) bit_numbers bits b h low, each (bit_view texts b) (in-map (bit_view texts) b bits h))

    all-nets : (bits : List Bit) → Below texts (bits_numbers bits) → ((b : BitView) → IsIn b (bits_view texts bits) → IsIn b (bits_in v)) → (b : Bit) → IsIn b bits → IsNet texts m b
    all-nets bits low each b h = (below-in (length texts) bit_numbers bits b h low, each (bit_view texts b) (in-map (bit_view texts) b bits h))

    assigns-joined : (xs : List Assign) → ((x : Assign) → IsIn x xs → IsIn x m.assigns) → IsJoined v v (flat_map (λ (x : AssignView). pairs x.left x.right) (map (assign_view texts) xs)) (assign_joints (declared_in m) xs)
    assigns-joined [] each = none-joined v v
    assigns-joined (x ∷ xs) each =
        let here : IsIn x m.assigns = each x (inl refl) in
        let low : Below texts (assign_numbers x) = below-in (length texts) assign_numbers m.assigns x here (assigns-below texts m m-below) in
        let view : IsIn (assign_view texts x) v.assigns = in-map (assign_view texts) x m.assigns here in
        let left = all-driven texts ok.apart m nets-below (names-apart a m at) x.left
        (all-nets x.left (below-left (length texts) (bits_numbers x.left) (bits_numbers x.right) low) (λ b h. (ok.declared v (view-in a m at)).driven (assign_view texts x) b view h)) in
        let right = all-placed texts ok.apart m nets-below (names-apart a m at) x.right
        (all-known x.right (below-right (length texts) (bits_numbers x.left) (bits_numbers x.right) low) (λ b h. (ok.declared v (view-in a m at)).assigned (assign_view texts x) b view h)) in
        more-joined v v (pairs (bits_view texts x.left) (bits_view texts x.right)) (flat_map (λ (z : AssignView). pairs z.left z.right) (map (assign_view texts) xs))
        (joints_of (places_of (declared_in m) x.left) (places_of (declared_in m) x.right)) (assign_joints (declared_in m) xs)
        (lists-joined v v (bits_view texts x.left) (bits_view texts x.right) (places_of (declared_in m) x.left) (places_of (declared_in m) x.right) left right)
        (assigns-joined xs (λ z h. each z (inr h)))

    -- ---- statements

    module _ (y : Instance) (yi : IsIn y m.instances) where
      abbrev yv : InstanceView
      yv = instance_view texts y

      in-view : IsIn yv v.instances
      in-view = in-map (instance_view texts) y m.instances yi

      y-below : Below texts (connections_numbers y.connections)
      y-below = connections-below texts m m-below y yi

      bits-declared : (b : BitView) → IsIn b (connected_bits yv.connections) → IsBitOf v b
      bits-declared b h = (ok.declared v (view-in a m at)).connected yv b in-view h

      child : (k : ℕ) (before : Size) (inner : Module) → slice_get n.modules k ≡ Some inner → module_named s yv.target ≡ Some (module_view texts inner)
          → IsChild s v yv (record { of = k; before = size_view before; inputs = inputs_from (declared_in m) y.connections 0 0 inner.ports; outputs = outputs_from (declared_in m) y.connections 0 0 inner.ports })
      child k before inner there named =
          let names = names-apart k inner there in
          let low = port-names-below texts inner (inner-below k inner there) in
          let iv : ModuleView = module_view texts inner in
          let ports-apart : IsApart (map (λ (q : PortView). q.name) iv.ports) = apart-left (map (λ (q : PortView). q.name) iv.ports) (map (λ (x : NetView). x.name) iv.nets) names in
          record {
            inner = iv;
            is_inner = named;
            has_inner = view-at k inner there;
            inputs = all-inputs texts ok.apart m nets-below (names-apart a m at) inner low names y y-below bits-declared;
            outputs = all-outputs texts ok.apart m nets-below (names-apart a m at) inner low names y y-below bits-declared
                (λ j p e out. output-clean s v (view-in a m at) yv in-view ok.pins iv named ports-apart j p e out);
          }

      leaf : (k before : ℕ) (c : Cell) → slice_get l.cells k ≡ Some c → module_named s yv.target ≡ None → cell_named s yv.target ≡ Some (cell_view texts c)
          → IsCell s v yv (record { of = k; before = before; row = cell_row (declared_in m) y.connections c })
      leaf k before c there none named =
          let low : Below texts (cell_numbers c) = below-in (length texts) cell_numbers l.cells c (get-in l.cells k c there) ok.named.library in
          let low-pins = pins-below texts c low in
          let low-pgs = pgs-below texts c low in
          record {
            cell = cell_view texts c;
            is_cell = named;
            has_cell = get-map (cell_view texts) l.cells k c there;
            resolved = row-resolved texts ok.apart m nets-below (names-apart a m at) y y-below bits-declared c low-pins low-pgs;
            drives = row-drives texts ok.apart m nets-below (names-apart a m at) y y-below bits-declared c low-pins low-pgs
                (λ q h out. drive-clean s v (view-in a m at) yv in-view ok.pins (cell_view texts c) none named q h out)
                (λ g h. power-open s v (view-in a m at) yv in-view ok.powers (cell_view texts c) named g h);
          }

    module _ (sizes : List Size) (row : List Target) where
      abbrev x : Stock
      x = stock_of n l sizes

      one : (y : Instance) → IsIn y m.instances → (before : Size) (t : Target) → IsBound s (instance_view texts y) t → (z : parts.Statement) × (statement_of x (declared_in m) before t y ≡ z ∷ []) × IsStatement s v (instance_view texts y) z
      one y yi before (OfModule k) b =
          let many : length s.modules ≡ length n.modules = length-map (module_view texts) n.modules in
          let inner = stands n.modules k (subst (λ z. k < z) many (b.modules k refl)) in
          let made : parts.Child = record { of = k; before = size_view before; inputs = inputs_from (declared_in m) y.connections 0 0 inner.0.ports; outputs = outputs_from (declared_in m) y.connections 0 0 inner.0.ports } in (
            parts.OfModule made,
            ap (module_statement (declared_in m) before k y) inner.1,
            child y yi k before inner.0 inner.1 (sym b.of_module ∙ view-at k inner.0 inner.1),
          )
      one y yi before (OfCell k) b =
          let many : length s.cells ≡ length l.cells = length-map (cell_view texts) l.cells in
          let c = stands l.cells k (subst (λ z. k < z) many (b.cells k refl)) in (
            parts.OfCell (record { of = k; before = before.cells; row = cell_row (declared_in m) y.connections c.0 }),
            ap (cell_statement (declared_in m) before k y) c.1,
            leaf y yi k before.cells c.0 c.1 (sym b.of_module) (sym b.of_cell ∙ get-map (cell_view texts) l.cells k c.0 c.1),
          )

      abbrev IsAt : ℕ → Instance → Type 0
      IsAt j y = (t : Target) × (slice_get row j ≡ Some t) × IsBound s (instance_view texts y) t

      statements : (before : Size) (j : ℕ) (ys : List Instance) → ((y : Instance) → IsIn y ys → IsIn y m.instances) → ((i : ℕ) (y : Instance) → slice_get ys i ≡ Some y → IsAt (j + i) y)
          → AreStatements s v (map (instance_view texts) ys) (statements_from x (declared_in m) row before j ys)
      statements before j [] inside each = tt
      statements before j (y ∷ ys) inside each =
          let start : j + 0 ≡ j = omega arith in
          let here : IsAt j y = subst (λ z. IsAt z y) start (each 0 y refl) in
          let it = one y (inside y (inl refl)) before here.0 here.2 in
          let next : (i : ℕ) → j + suc i ≡ j + 1 + i = λ i. omega arith in
          let rest = statements (size_placed x before (slice_get row j)) (j + 1) ys (λ z h. inside z (inr h)) (λ i z e. subst (λ p. IsAt p z) (next i) (each (suc i) z e)) in
          let is : placed_statement x (declared_in m) before (slice_get row j) y ≡ it.0 ∷ [] = ap (λ o. placed_statement x (declared_in m) before o y) here.1 ∙ it.1 in
          subst (λ zs. AreStatements s v (map (instance_view texts) (y ∷ ys)) (zs ++ statements_from x (declared_in m) row (size_placed x before (slice_get row j)) (j + 1) ys)) (sym is) (it.2, rest)

      template : IsRow s v row → IsTemplate s v (template_of x row m)
      template r = record {
        statements = statements (own_of (own_bits m)) 0 m.instances (λ y h. h)
            (λ i y e. let start : 0 + i ≡ i = omega arith in subst (λ z. IsAt z y) (sym start) (r.each i (instance_view texts y) (get-map (instance_view texts) m.instances i y e)));
        assigns = assigns-joined m.assigns (λ y h. h);
      }

  module _ (sizes : List Size) where
    templates : (j : ℕ) (ms : List Module) → Has n.modules j ms → AreTemplates s (map (module_view texts) ms) (templates_from (stock_of n l sizes) rows j ms)
    templates j [] h = tt
    templates j (m ∷ ms) h =
        let at : slice_get n.modules j ≡ Some m = has-head n.modules j m ms h in
        let row = bound-row s rows ok.targets j (module_view texts m) (view-at j m at) in (
          subst (λ r. IsTemplate s (module_view texts m) (template_of (stock_of n l sizes) r m)) (sym (entry-or rows j row.0 [] row.1)) (template j m at sizes row.0 row.2),
          templates (j + 1) ms (has-tail n.modules j m ms h),
        )

    pub those : AreTemplates s s.modules (templates_numbered (stock_of n l sizes) rows)
    those = templates 0 n.modules (has-all n.modules)
