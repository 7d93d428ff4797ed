-- The first connection or assign that joins different numbers of bits, by numbers and by the texts.
use Rattle.std.proofs.Common.{◌≡◌, ℕ, suc, ◌+◌, ◌<◌, ◌==◌, Bool, true, false, not, ◌&&◌, ◌||◌, cond, List, [], ◌∷◌, length, map, Option, Some, None, refl, sym, ap, ◌∙◌, arith, ne_eqb}
use Rattle.std.specs.Prelude.{slice_get, codes}
use Rattle.std.specs.Option.{option_map, option_and_then, option_map_or}
use Rattle.std.proofs.lemmas.List.{length-map}
use Rattle.lp_text.specs.Texts.{text_at, distinct}
use Rattle.lp_text.specs.declared.names.NameId.{NameId}
use Rattle.lp_model.specs.Agreement.{numbers_below}
use Rattle.lp_model.specs.declared.bits.Bit.{Bit}
use Rattle.lp_model.specs.declared.fault.netlist.JoinRef.TheVariants as joins
use Rattle.lp_model.specs.declared.fault.netlist.NetlistFault.TheVariants as faults
use Rattle.lp_model.specs.declared.library.Cell.{Cell}
use Rattle.lp_model.specs.declared.library.Library.{Library}
use Rattle.lp_model.specs.declared.netlist.Assign.{Assign}
use Rattle.lp_model.specs.declared.netlist.Connection.{Connection}
use Rattle.lp_model.specs.declared.netlist.Connections.{Connections}
use Rattle.lp_model.specs.declared.netlist.Connections.TheVariants.{Named, Ordered}
use Rattle.lp_model.specs.declared.netlist.Instance.{Instance}
use Rattle.lp_model.specs.declared.netlist.Module.{Module}
use Rattle.lp_model.specs.declared.netlist.Netlist.{Netlist}
use Rattle.lp_model.specs.declared.netlist.Port.{Port}
use Rattle.lp_model.specs.NetlistView.{AssignView, PortView, InstanceView, ModuleView, bit_view, bits_view, port_view, instance_view, module_view, assign_view, connections_numbers}
use Rattle.lp_model.specs.LibraryView.{CellView, cell_view}
use Rattle.lp_spec_design.specs.Keys.{Name}
use Rattle.lp_spec_design.specs.Graph.{numbered, when}
use Rattle.lp_spec_design.specs.Netlists.{Structure, first, module_named, cell_named}
use Rattle.lp_spec_faults.specs.Modules.{bit_count}
use Rattle.lp_spec_faults.specs.Wires as wires
use Rattle.lp_spec_faults.specs.Wires.{ConnectionAt, Join, AtConnection, AtAssign, connections_of, port_of, width_at, has_other_width, joined_name, join_fields}
use Rattle.lp_places.specs.Places.{place_of_number, has_number}
use Rattle.lp_places.proofs.Numbers.{below-tail}
use Rattle.lp_targets.specs.Reports.{Report, report_of, or_else}
use Rattle.lp_targets.specs.Structures.{structure_of, AreNamed}
use Rattle.lp_targets.specs.declared.target.Target.{Target}
use Rattle.lp_targets.specs.declared.target.Target.TheVariants.{OfModule, OfCell}
use Rattle.lp_connections.specs.Parts.{Parts, parts_of, port_names, pin_names, pg_names, port_placed, port_named}
use Rattle.lp_connections.specs.Numbered.{found_at, is_uneven, width_named, uneven_named, uneven_port, uneven_placed, uneven_pin_of, uneven_assign, join_of, width_fault, assign_fault}
use Rattle.lp_connections.proofs.Lists.{map_map_some}
use Rattle.lp_connections.proofs.Parallel.{IsOf}
use Rattle.lp_connections.proofs.Ports.{module-there, cell-there, no-module, no-cell, port-placed, port-named, pin-same}
use Rattle.lp_connections.proofs.SamePins.{named_at, placed_at, instance_with, port-at}
use Rattle.lp_connections.proofs.SamePowered.{all_within}
use Rattle.lp_connections.proofs.Each.{named_each, placed_each}

-- ---- the width that a connection is to have

by-module : (s : Structure) (c : ConnectionAt) (m : ModuleView) → module_named s c.instance.target ≡ Some m → width_at s c ≡ option_map (λ (p : PortView). bit_count p.range) (port_of m c)
by-module s c m e = rw e refl

by-cell : (s : Structure) (c : ConnectionAt) (k : CellView) → module_named s c.instance.target ≡ None → cell_named s c.instance.target ≡ Some k → width_at s c ≡ option_and_then (λ n. when (wires.has_pin k n) 1) c.name
by-cell s c k e f = rw (f, e) refl

by-nothing : (s : Structure) (c : ConnectionAt) → module_named s c.instance.target ≡ None → cell_named s c.instance.target ≡ None → width_at s c ≡ None
by-nothing s c e f = rw (f, e) refl

-- the name of the port at its position
port-name : (texts : List (List ℕ)) (s : Structure) (parent : ModuleView) (x : InstanceView) (k : ℕ) (v : List Bit) (m : ModuleView) (p : PortView) → module_named s x.target ≡ Some m → port_of m (placed_at texts parent x k v) ≡ Some p → joined_name s (placed_at texts parent x k v) ≡ p.name
port-name texts s parent x k v m p f g = rw (f, g) refl

not-zero : (k : ℕ) → (suc k == 0) ≡ false
not-zero k = ne_eqb (suc k) 0 (λ e. omega (arith, e))

-- widths of bits and of their texts
other-same : (texts : List (List ℕ)) (w : Option ℕ) (bits : List Bit) → has_other_width w (bits_view texts bits) ≡ is_uneven w bits
other-same texts None bits = refl
other-same texts (Some w) [] = refl
other-same texts (Some w) (b ∷ bits) =
    ap (λ k. not (k == w)) (length-map (b ∷ bits) (bit_view texts))
    ∙ sym (ap (λ z. not z && not (length (b ∷ bits) == w)) (not-zero (length bits)))

-- the line of its fault
abbrev pub told_width : Structure → Join → Report
told_width s j = (codes "F15 Width", join_fields s j)

module _ (texts : List (List ℕ)) (apart : distinct texts ≡ true) (n : Netlist) (l : Library) (are_named : AreNamed texts n l) where
  abbrev Below : List ℕ → Type 0
  Below ks = numbers_below (length texts) ks ≡ true

  abbrev s : Structure
  s = structure_of texts n l

  abbrev d : Parts
  d = parts_of n.modules l.cells

  abbrev Within : Connection → Type 0
  Within c = c.port.0 < length texts

  abbrev is_other : ConnectionAt → Bool
  is_other c = has_other_width (width_at s c) c.bits

  abbrev told_connection : ConnectionAt → Report
  told_connection c = told_width s (AtConnection c)

  module _ (m : Module) (x : Instance) where
    abbrev parent : ModuleView
    parent = module_view texts m

    -- ---- named connections

    module _ (all : Connections) (k : ℕ) (before : List Name) (c : Connection) (h : c.port.0 < length texts) where
      abbrev named : ConnectionAt
      named = named_at texts parent (instance_with texts x all) k before c

      width-in-module : (a : ℕ) → IsOf texts s (OfModule a) x → (o : Option Module) → slice_get n.modules a ≡ o → width_at s named ≡ width_named d (OfModule a) c.port.0
      width-in-module a is (Some y) e =
          by-module s named (module_view texts y) (is.of_module ∙ module-there texts apart n l are_named a y e)
          ∙ ap (option_map (λ (p : PortView). bit_count p.range)) (port-named texts apart n l are_named a y e c.port.0 h)
          ∙ map_map_some (λ (p : PortView). bit_count p.range) (port_view texts) (port_named d a c.port.0)
      width-in-module a is None e =
          by-nothing s named (is.of_module ∙ no-module texts apart n l are_named a e) is.of_cell
          ∙ sym (ap (λ o. option_map (λ (p : Port). bit_count p.range) (option_and_then (port_placed d a) (option_and_then (λ (y : Module). place_of_number c.port.0 (port_names y.ports)) o))) e)

      width-in-cell : (a : ℕ) → IsOf texts s (OfCell a) x → (o : Option Cell) → slice_get l.cells a ≡ o → width_at s named ≡ width_named d (OfCell a) c.port.0
      width-in-cell a is (Some y) e =
          by-cell s named (cell_view texts y) is.of_module (is.of_cell ∙ cell-there texts apart n l are_named a y e)
          ∙ ap (λ b. cond b (Some 1) None) (pin-same texts apart n l are_named a y e c.port.0 h)
      width-in-cell a is None e =
          by-nothing s named is.of_module (is.of_cell ∙ no-cell texts apart n l are_named a e)
          ∙ sym (ap (λ o. cond (option_map_or (λ (y : Cell). has_number c.port.0 (pin_names y.pins) || has_number c.port.0 (pg_names y.pgs)) o false) (Some 1) None) e)

      named-width : (t : Target) → IsOf texts s t x → width_at s named ≡ width_named d t c.port.0
      named-width (OfModule a) is = width-in-module a is (slice_get n.modules a) refl
      named-width (OfCell a) is = width-in-cell a is (slice_get l.cells a) refl

      named-other : (t : Target) → IsOf texts s t x → is_other named ≡ uneven_named d t c
      named-other t is = ap (λ w. has_other_width w (bits_view texts c.bits)) (named-width t is) ∙ other-same texts (width_named d t c.port.0) c.bits

    -- ---- connections by position

    abbrev told_name : NameId → Report
    told_name port = (codes "F15 Width", parent.name ∷ text_at texts x.name.0 ∷ text_at texts port.0 ∷ [])

    module _ (all : Connections) (j : ℕ) (v : List Bit) where
      abbrev placed : ConnectionAt
      placed = placed_at texts parent (instance_with texts x all) (j + 1) v

      none-told : width_at s placed ≡ None → option_map told_connection (cond (is_other placed) (Some placed) None) ≡ None
      none-told e = ap (λ w. option_map told_connection (cond (has_other_width w (bits_view texts v)) (Some placed) None)) e

      port-told : (y : ModuleView) (o : Option Port) → module_named s (text_at texts x.target.0) ≡ Some y → port_of y placed ≡ option_map (port_view texts) o → option_map told_connection (cond (is_other placed) (Some placed) None) ≡ option_map told_name (uneven_port o v)
      port-told y None e f = none-told (by-module s placed y e ∙ ap (option_map (λ (p : PortView). bit_count p.range)) f)
      port-told y (Some p) e f =
          let w : width_at s placed ≡ Some (bit_count p.range) = by-module s placed y e ∙ ap (option_map (λ (q : PortView). bit_count q.range)) f in
          ap (λ b. option_map told_connection (cond b (Some placed) None)) (ap (λ o. has_other_width o (bits_view texts v)) w ∙ other-same texts (Some (bit_count p.range)) v)
          ∙ by (is_uneven (Some (bit_count p.range)) v)
        where
          name : joined_name s placed ≡ text_at texts p.name.0
          name = port-name texts s parent (instance_with texts x all) (j + 1) v y (port_view texts p) e f

          by : (b : Bool) → option_map told_connection (cond b (Some placed) None) ≡ option_map told_name (cond b (Some p.name) None)
          by true = ap (λ t. Some (codes "F15 Width", parent.name ∷ text_at texts x.name.0 ∷ t ∷ [])) name
          by false = refl

      told-in-module : (a : ℕ) → IsOf texts s (OfModule a) x → (o : Option Module) → slice_get n.modules a ≡ o → option_map told_connection (cond (is_other placed) (Some placed) None) ≡ option_map told_name (uneven_placed d (OfModule a) j v)
      told-in-module a is (Some y) e =
          port-told (module_view texts y) (port_placed d a j) (is.of_module ∙ module-there texts apart n l are_named a y e) (port-at texts y j ∙ ap (option_map (port_view texts)) (sym (port-placed texts apart n l are_named a y e j)))
      told-in-module a is None e =
          none-told (by-nothing s placed (is.of_module ∙ no-module texts apart n l are_named a e) is.of_cell)
          ∙ sym (ap (λ o. option_map told_name (uneven_port (option_and_then (λ (y : Module). slice_get y.ports j) o) v)) e)

      told-in-cell : (a : ℕ) → IsOf texts s (OfCell a) x → (o : Option Cell) → slice_get l.cells a ≡ o → option_map told_connection (cond (is_other placed) (Some placed) None) ≡ None
      told-in-cell a is (Some y) e = none-told (by-cell s placed (cell_view texts y) is.of_module (is.of_cell ∙ cell-there texts apart n l are_named a y e))
      told-in-cell a is None e = none-told (by-nothing s placed is.of_module (is.of_cell ∙ no-cell texts apart n l are_named a e))

      placed-told : (t : Target) → IsOf texts s t x → option_map told_connection (cond (is_other placed) (Some placed) None) ≡ option_map told_name (uneven_placed d t j v)
      placed-told (OfModule a) is = told-in-module a is (slice_get n.modules a) refl
      placed-told (OfCell a) is = told-in-cell a is (slice_get l.cells a) refl

    -- ---- an instance

    abbrev say_join : NameId → Report
    say_join port = report_of texts (faults.Width m.name (join_of x port))

    by-target : (t : Target) → IsOf texts s t x → (cs : Connections) → Below (connections_numbers cs) → option_map told_connection (first is_other (connections_of parent (instance_with texts x cs))) ≡ option_map say_join (uneven_pin_of d t cs)
    by-target t is (Named cs) below =
        named_each texts parent (instance_with texts x (Named cs)) is_other told_connection (uneven_named d t) (λ (c : Connection). told_name c.port) Within
        (λ k before c h. named-other (Named cs) k before c h t is) (λ k before c. refl) cs 1 [] (all_within texts apart n l are_named cs below)
        ∙ sym (map_map_some say_join (λ (c : Connection). c.port) (first (uneven_named d t) cs))
    by-target t is (Ordered vs) below =
        placed_each texts parent (instance_with texts x (Ordered vs)) is_other told_connection (uneven_placed d t) told_name
        (λ j v. placed-told (Ordered vs) j v t is) vs 0

    pub width_same : (t : Target) → IsOf texts s t x → option_map told_connection (first is_other (connections_of parent (instance_view texts x))) ≡ option_map (report_of texts) (width_fault d m.name t x)
    width_same t is =
        by-target t is x.connections (below-tail (length texts) x.target.0 (connections_numbers x.connections) (below-tail (length texts) x.name.0 (x.target.0 ∷ connections_numbers x.connections) is.below))
        ∙ sym (map_map_some (report_of texts) (λ port. faults.Width m.name (join_of x port)) (uneven_pin_of d t x.connections))

  -- ---- assigns

  module _ (m : Module) where
    abbrev told_number : ℕ → Report
    told_number k = report_of texts (faults.Width m.name (joins.Assign k))

    abbrev assign_at : ℕ × AssignView → Join
    assign_at a = AtAssign (module_view texts m) a

    assign-list : (items : List Assign) (k : ℕ) → option_map (told_width s) (first (wires.is_uneven s) (map assign_at (numbered k (map (assign_view texts) items)))) ≡ option_map told_number (found_at uneven_assign k items)
    assign-list [] k = refl
    assign-list (a ∷ items) k =
        (λ i. option_map (told_width s) (cond (not (length-map a.left (bit_view texts) i == length-map a.right (bit_view texts) i)) (Some (assign_at (k, assign_view texts a))) (first (wires.is_uneven s) (map assign_at (numbered (k + 1) (map (assign_view texts) items))))))
        ∙ by (not (length a.left == length a.right)) (assign-list items (k + 1))
      where
        by : (b : Bool) → option_map (told_width s) (first (wires.is_uneven s) (map assign_at (numbered (k + 1) (map (assign_view texts) items)))) ≡ option_map told_number (found_at uneven_assign (k + 1) items) → option_map (told_width s) (cond b (Some (assign_at (k, assign_view texts a))) (first (wires.is_uneven s) (map assign_at (numbered (k + 1) (map (assign_view texts) items))))) ≡ option_map told_number (or_else (cond b (Some k) None) (found_at uneven_assign (k + 1) items))
        by true e = refl
        by false e = e

    pub assigns_same : option_map (told_width s) (first (wires.is_uneven s) (map assign_at (numbered 0 (map (assign_view texts) m.assigns)))) ≡ option_map (report_of texts) (assign_fault m.name m.assigns)
    assigns_same = assign-list m.assigns 0 ∙ sym (map_map_some (report_of texts) (λ k. faults.Width m.name (joins.Assign k)) (found_at uneven_assign 0 m.assigns))
