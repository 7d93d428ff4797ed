-- The row of a cell instance's pins by numbers is that of its pins by texts.
use Rattle.std.proofs.Common.{◌≡◌, ℕ, ◌<◌, Bool, true, false, List, [], ◌∷◌, ◌++◌, map, length, Some, inl, inr, refl, sym, ap, ◌∙◌, subst}
use Rattle.std.specs.Prelude.{is_some}
use Rattle.std.specs.List.{list_all}
use Rattle.std.proofs.lemmas.Bool.{and_from}
use Rattle.std.proofs.lemmas.List.{map-append}
use Rattle.std.proofs.lemmas.List.Folds.{list_all-append}
use Rattle.lp_text.specs.Texts.{text_at, distinct}
use Rattle.lp_model.specs.Agreement.{numbers_below}
use Rattle.lp_model.specs.declared.bits.Bit.{Bit}
use Rattle.lp_model.specs.declared.graph.EdgeFrom.{EdgeFrom}
use Rattle.lp_model.specs.declared.graph.EdgeFrom.TheVariants.{Node as FromNode, Const as FromConst}
use Rattle.lp_model.specs.declared.graph.PinNet.{PinNet}
use Rattle.lp_model.specs.declared.graph.PinNet.TheVariants.{Unconnected, Const as PinConst, Node as PinNode}
use Rattle.lp_model.specs.declared.library.Cell.{Cell}
use Rattle.lp_model.specs.declared.library.PgPin.{PgPin}
use Rattle.lp_model.specs.declared.library.Pin.{Pin}
use Rattle.lp_model.specs.declared.netlist.Instance.{Instance}
use Rattle.lp_model.specs.declared.netlist.Module.{Module}
use Rattle.lp_model.specs.NetlistView.{BitView, ModuleView, bits_view, bit_view, instance_view, connections_view, module_view, connections_numbers}
use Rattle.lp_model.specs.LibraryView.{PgPinView, PinView, pin_view, pg_pin_view, cell_view}
use Rattle.lp_spec_design.specs.Netlists.{connected}
use Rattle.lp_spec_design.specs.Nodes.{connected_bits}
use Rattle.lp_spec_design.specs.Graph.{pairs, is_output_pin}
use Rattle.lp_spec_design.specs.Winners.{IsIn}
use Rattle.lp_spec_design.proofs.Members.{in-map}
use Rattle.lp_spec_faults.specs.Wires.{has_constant}
use Rattle.lp_spec_bridge.specs.Keyed.{IsApart}
use Rattle.lp_spec_bridge.specs.Kept.{pin_bit, has_pin_place, first_bit, IsRowResolved}
use Rattle.lp_spec_bridge.specs.Names.{net_names}
use Rattle.lp_spec_bridge.specs.Templates.{place_bit, has_place}
use Rattle.lp_spec_bridge.proofs.Trails.{map-map}
use Rattle.lp_spec_layout.specs.Parts.{driving_pins, may_drive}
use Rattle.lp_places.proofs.Numbers.{below-head, below-tail}
use Rattle.lp_templates.specs.Numbered.{declared_in, place_of}
use Rattle.lp_templates.specs.Connected.{named_bits, pin_from, pin_of, cell_row}
use Rattle.lp_spec_numbered.specs.Read.{IsBitOf}
use Rattle.lp_spec_numbered.proofs.Places.{nets_of, numbers, bit-driven, bit-placed}
use Rattle.lp_spec_numbered.proofs.Connected.{pin-bit-connected, at-pin}
use Rattle.lp_spec_numbered.proofs.Values.{IsKnown, no-constants}

from-bit : (v : ModuleView) (f : EdgeFrom) → pin_bit v (pin_from f) ≡ Some (place_bit v f)
from-bit v (FromNode k) = refl
from-bit v (FromConst b) = refl

from-place : (v : ModuleView) (f : EdgeFrom) → has_pin_place v (pin_from f) ≡ has_place v f
from-place v (FromNode k) = refl
from-place v (FromConst b) = refl

idle : (net : PinNet) → may_drive (false, net) ≡ true
idle Unconnected = refl
idle (PinConst b) = refl
idle (PinNode k) = refl

open-pin : (b : Bool) → may_drive (b, Unconnected) ≡ true
open-pin b = refl

no-bits : (texts : List (List ℕ)) (bits : List Bit) → bits_view texts bits ≡ [] → bits ≡ []
no-bits texts [] e = refl
no-bits texts (b ∷ bits) e = cc

-- pins that may drive, before others
drives-before : {A : Type 0} (f : A → Bool) (g : A → PinNet) (xs : List A) (bs : List Bool) (row : List PinNet) → ((x : A) → IsIn x xs → may_drive (f x, g x) ≡ true) → list_all may_drive (pairs bs row) ≡ true
    → list_all may_drive (pairs (map f xs ++ bs) (map g xs ++ row)) ≡ true
drives-before f g [] bs row each rest = rest
drives-before f g (x ∷ xs) bs row each rest = and_from (may_drive (f x, g x)) (list_all may_drive (pairs (map f xs ++ bs) (map g xs ++ row))) (each x (inl refl)) (drives-before f g xs bs row (λ y h. each y (inr h)) rest)

drives-all : {A : Type 0} (f : A → Bool) (g : A → PinNet) (xs : List A) → ((x : A) → IsIn x xs → may_drive (f x, g x) ≡ true) → list_all may_drive (pairs (map f xs) (map g xs)) ≡ true
drives-all f g [] each = refl
drives-all f g (x ∷ xs) each = and_from (may_drive (f x, g x)) (list_all may_drive (pairs (map f xs) (map g xs))) (each x (inl refl)) (drives-all f g xs (λ y h. each y (inr h)))

-- a number of a member
number-below : {A : Type 0} {n : ℕ} (number : A → ℕ) (xs : List A) (x : A) → IsIn x xs → numbers_below n (map number xs) ≡ true → number x < n
number-below number [] x h low = absurd h
number-below {n = n} number (y ∷ xs) x (inl is) low = subst (λ z. number z < n) (sym is) (below-head n (number y) (map number xs) low)
number-below {n = n} number (y ∷ xs) x (inr h) low = number-below number xs x h (below-tail n (number y) (map number xs) low)

module _ (texts : List (List ℕ)) (apart : distinct texts ≡ true) (m : Module) (below : numbers_below (length texts) (numbers (nets_of m)) ≡ true) (names : IsApart (net_names (module_view texts m))) where
  abbrev v : ModuleView
  v = module_view texts m

  module _ (y : Instance) (y-below : numbers_below (length texts) (connections_numbers y.connections) ≡ true) (declared : (b : BitView) → IsIn b (connected_bits (connections_view texts y.connections)) → IsBitOf v b) where
    known : (name : ℕ) (b : Bit) → IsIn b (named_bits y.connections name) → IsKnown texts m b
    known name b h =
        let there = pin-bit-connected texts (length texts) y.connections name b h y-below in
        (there.0, declared (bit_view texts b) there.1)

    abbrev pin-at : ℕ → PinNet
    pin-at name = pin_of (declared_in m) (named_bits y.connections name)

    -- ---- one pin

    first-placed : (bits : List Bit) → ((b : Bit) → IsIn b bits → IsKnown texts m b) → (pin_bit v (pin_of (declared_in m) bits) ≡ first_bit (bits_view texts bits)) × (has_pin_place v (pin_of (declared_in m) bits) ≡ true)
    first-placed [] each = (refl, refl)
    first-placed (b ∷ bits) each =
        let here = each b (inl refl) in
        let placed = bit-placed texts m apart below names b here.0 here.1 in
        (from-bit v (place_of (declared_in m) b) ∙ ap (λ z. Some z) placed.bit, from-place v (place_of (declared_in m) b) ∙ placed.within)

    pin-bits : (name : ℕ) → name < length texts → pin_bit v (pin-at name) ≡ first_bit (connected [] (text_at texts name) (connections_view texts y.connections))
    pin-bits name low = (first-placed (named_bits y.connections name) (known name)).0 ∙ sym (ap first_bit (at-pin texts apart y.connections name low y-below))

    pin-within : (name : ℕ) → has_pin_place v (pin-at name) ≡ true
    pin-within name = (first-placed (named_bits y.connections name) (known name)).1

    first-driven : (drives : Bool) (bits : List Bit) → ((b : Bit) → IsIn b bits → IsKnown texts m b) → has_constant (bits_view texts bits) ≡ false → may_drive (drives, pin_of (declared_in m) bits) ≡ true
    first-driven drives [] each clean = refl
    first-driven drives (b ∷ bits) each clean =
        let here = each b (inl refl) in
        let net = no-constants v (bits_view texts (b ∷ bits)) clean (bit_view texts b) (inl refl) here.1 in
        let driven = bit-driven texts m apart below names b here.0 net in
        ap (λ f. may_drive (drives, pin_from f)) driven.is

    clean-drives : (drives : Bool) (name : ℕ) → name < length texts → has_constant (connected [] (text_at texts name) (connections_view texts y.connections)) ≡ false → may_drive (drives, pin-at name) ≡ true
    clean-drives drives name low clean = first-driven drives (named_bits y.connections name) (known name) (ap has_constant (sym (at-pin texts apart y.connections name low y-below)) ∙ clean)

    open-drives : (drives : Bool) (name : ℕ) → name < length texts → connected [] (text_at texts name) (connections_view texts y.connections) ≡ [] → may_drive (drives, pin-at name) ≡ true
    open-drives drives name low none =
        ap (λ bits. may_drive (drives, pin_of (declared_in m) bits)) (no-bits texts (named_bits y.connections name) (sym (at-pin texts apart y.connections name low y-below) ∙ none))

    -- ---- a row

    row-bits : {A : Type 0} (number : A → ℕ) (xs : List A) → numbers_below (length texts) (map number xs) ≡ true
        → map (pin_bit v) (map (λ x. pin-at (number x)) xs) ≡ map (λ x. first_bit (connected [] (text_at texts (number x)) (connections_view texts y.connections))) xs
    row-bits number [] low = refl
    row-bits number (x ∷ xs) low =
        λ i. pin-bits (number x) (below-head (length texts) (number x) (map number xs) low) i ∷ row-bits number xs (below-tail (length texts) (number x) (map number xs) low) i

    row-within : {A : Type 0} (number : A → ℕ) (xs : List A) → list_all (has_pin_place v) (map (λ x. pin-at (number x)) xs) ≡ true
    row-within number [] = refl
    row-within number (x ∷ xs) = and_from (has_pin_place v (pin-at (number x))) (list_all (has_pin_place v) (map (λ z. pin-at (number z)) xs)) (pin-within (number x)) (row-within number xs)

    module _ (c : Cell) (pins-below : numbers_below (length texts) (map (λ (q : Pin). q.name.0) c.pins) ≡ true) (pgs-below : numbers_below (length texts) (map (λ (g : PgPin). g.name.0) c.pgs) ≡ true) where
      abbrev pins-row : List PinNet
      pins-row = map (λ (q : Pin). pin-at q.name.0) c.pins

      abbrev pgs-row : List PinNet
      pgs-row = map (λ (g : PgPin). pin-at g.name.0) c.pgs

      pub row-resolved : IsRowResolved v (instance_view texts y) (cell_view texts c) (cell_row (declared_in m) y.connections c)
      row-resolved = record {
        same = map-append (pin_bit v) pins-row pgs-row
            ∙ (λ i. (row-bits (λ (q : Pin). q.name.0) c.pins pins-below ∙ sym (map-map (λ (q : PinView). first_bit (connected [] q.name (connections_view texts y.connections))) (pin_view texts) c.pins)) i
            ++ (row-bits (λ (g : PgPin). g.name.0) c.pgs pgs-below ∙ sym (map-map (λ (g : PgPinView). first_bit (connected [] g.name (connections_view texts y.connections))) (pg_pin_view texts) c.pgs)) i);
        within = list_all-append (has_pin_place v) pins-row pgs-row
            ∙ and_from (list_all (has_pin_place v) pins-row) (list_all (has_pin_place v) pgs-row) (row-within (λ (q : Pin). q.name.0) c.pins) (row-within (λ (g : PgPin). g.name.0) c.pgs);
      }

      module _ (clean : (q : PinView) → IsIn q (cell_view texts c).pins → is_output_pin q ≡ true → has_constant (connected [] q.name (connections_view texts y.connections)) ≡ false) (none : (g : PgPinView) → IsIn g (cell_view texts c).pgs → connected [] g.name (connections_view texts y.connections) ≡ []) where
        pin-drives : (q : Pin) → IsIn q c.pins → q.name.0 < length texts → may_drive (is_output_pin (pin_view texts q), pin-at q.name.0) ≡ true
        pin-drives q h low = by (is_output_pin (pin_view texts q)) refl
          where
            by : (b : Bool) → is_output_pin (pin_view texts q) ≡ b → may_drive (b, pin-at q.name.0) ≡ true
            by true e = clean-drives true q.name.0 low (clean (pin_view texts q) (in-map (pin_view texts) q c.pins h) e)
            by false e = idle (pin-at q.name.0)

        pub row-drives : list_all may_drive (pairs (driving_pins (Some (cell_view texts c))) (cell_row (declared_in m) y.connections c)) ≡ true
        row-drives =
            let signals : map is_output_pin (map (pin_view texts) c.pins) ≡ map (λ (q : Pin). is_output_pin (pin_view texts q)) c.pins = map-map is_output_pin (pin_view texts) c.pins in
            let powers : map (λ (g : PgPinView). is_some g.switched) (map (pg_pin_view texts) c.pgs) ≡ map (λ (g : PgPin). is_some (pg_pin_view texts g).switched) c.pgs = map-map (λ (g : PgPinView). is_some g.switched) (pg_pin_view texts) c.pgs in
            ap (λ bs. list_all may_drive (pairs (bs ++ map (λ (g : PgPinView). is_some g.switched) (map (pg_pin_view texts) c.pgs)) (pins-row ++ pgs-row))) signals
            ∙ ap (λ bs. list_all may_drive (pairs (map (λ (q : Pin). is_output_pin (pin_view texts q)) c.pins ++ bs) (pins-row ++ pgs-row))) powers
            ∙ drives-before (λ (q : Pin). is_output_pin (pin_view texts q)) (λ (q : Pin). pin-at q.name.0) c.pins (map (λ (g : PgPin). is_some (pg_pin_view texts g).switched) c.pgs) pgs-row
            (λ q h. pin-drives q h (number-below (λ (x : Pin). x.name.0) c.pins q h pins-below))
            (drives-all (λ (g : PgPin). is_some (pg_pin_view texts g).switched) (λ (g : PgPin). pin-at g.name.0) c.pgs
            (λ g h. open-drives (is_some (pg_pin_view texts g).switched) g.name.0 (number-below (λ (x : PgPin). x.name.0) c.pgs g h pgs-below) (none (pg_pin_view texts g) (in-map (pg_pin_view texts) g c.pgs h))))
