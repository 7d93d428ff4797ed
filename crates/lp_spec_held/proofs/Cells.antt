-- Which pins the cells of the netlist drive.
use Rattle.std.proofs.Common.{◌≡◌, ◌<◌, ℕ, Bool, true, false, ◌&&◌, cond, List, [], ◌∷◌, ◌++◌, map, length, get_or, Option, Some, None, refl, sym, ap, ◌∙◌, arith}
use Rattle.std.specs.Prelude.{is_some, filter, slice_get, option_and_then}
use Rattle.std.proofs.lemmas.Bool.{true≢false}
use Rattle.std.proofs.lemmas.Option.{slice_get_within, get_or_from_slice_get}
use Rattle.lp_model.specs.LibraryView.{CellView, PinView, PgPinView}
use Rattle.lp_model.specs.declared.graph.Leaf.{Leaf}
use Rattle.lp_model.specs.declared.netlist.Direction.{Direction}
use Rattle.lp_model.specs.declared.netlist.Direction.TheVariants.{Input, Output}
use Rattle.lp_spec_design.specs.Netlists.{Structure}
use Rattle.lp_spec_design.specs.Graph.{is_output_pin}
use Rattle.lp_spec_design.specs.Chains.{Operator, Clamp, Shift}
use Rattle.lp_spec_pins.specs.Pins.{is_input_pin, only, input_for, is_data}
use Rattle.lp_spec_fit.specs.Fits.{one_output}
use Rattle.lp_spec_realises.specs.Realises.{data_pin}
use Rattle.lp_spec_edits.specs.Net.{CellPins, Net, no_pins, cell_pins, pin_count, outputs_of, drives}
use Rattle.lp_spec_held.specs.Held.{Driving, driving, driving_of, AreCells, view_at}
use Rattle.lp_spec_held.proofs.Begun.{entry-of, map-front, map-at, one-size}
use Rattle.lp_spec_held.proofs.Flow.{no-some, one-some}

-- ---- by number

-- the pins that a cell drives, by its own row
all-driving : Driving → List Bool
all-driving x = x.0 ++ x.1

module _ (s : Structure) (cells : List CellPins) (library : AreCells s cells) (c : ℕ) (v : CellView) (is : slice_get s.cells c ≡ Some v) where
  found : (x : CellPins) × (slice_get cells c ≡ Some x) × (driving x ≡ driving_of v)
  found = entry-of driving driving_of cells s.cells c v library is

  pins-are : cell_pins cells c ≡ found.0
  pins-are = get_or_from_slice_get cells c found.0 no_pins found.1

  pub pin-drives : (q : ℕ) (pin : PinView) → slice_get v.pins q ≡ Some pin → get_or (outputs_of (cell_pins cells c)) q false ≡ is_output_pin pin
  pin-drives q pin there =
      ap (λ x. get_or (outputs_of x) q false) pins-are
      ∙ (ap (λ (x : Driving). get_or (x.0 ++ x.1) q false) found.2
      ∙ get_or_from_slice_get (map is_output_pin v.pins ++ map (λ (g : PgPinView). is_some g.switched) v.pgs) q (is_output_pin pin) false
      (map-front is_output_pin v.pins (map (λ (g : PgPinView). is_some g.switched) v.pgs) q pin there))

  pub pin-within : (q : ℕ) (pin : PinView) → slice_get v.pins q ≡ Some pin → q < pin_count (cell_pins cells c)
  pin-within q pin there =
      let low = slice_get_within v.pins q pin there in
      let size = ap pin_count pins-are ∙ one-size found.0 v found.2 in
      omega (arith, low, size)

-- the pins of a cell instance
pub leaf-drives : (s : Structure) (n : Net) → AreCells s n.cells → (l q : ℕ) (v : CellView) (pin : PinView) → view_at s n l ≡ Some v → slice_get v.pins q ≡ Some pin → drives n l q ≡ is_output_pin pin
leaf-drives s n library l q v pin view there = by (slice_get n.leaves l) refl view
  where
    by : (o : Option Leaf) → slice_get n.leaves l ≡ o → option_and_then (λ (x : Leaf). slice_get s.cells x.cell.0) o ≡ Some v → drives n l q ≡ is_output_pin pin
    by None e g = absurd (no-some v g)
    by (Some x) e g =
        ap (λ k. get_or (outputs_of (cell_pins n.cells k)) q false) (map-at (λ (y : Leaf). y.cell.0) n.leaves l x (length n.cells) e)
        ∙ pin-drives s n.cells library x.cell.0 v g q pin there

-- ---- data pins and outputs

first-passes : (test : PinView → Bool) (zs : List PinView) (z : PinView) (rest : List PinView) → filter test zs ≡ z ∷ rest → test z ≡ true
first-passes test [] z rest g = absurd (nil-cons z rest g)
  where
    nil-cons : (d : PinView) (ds : List PinView) → [] ≡ d ∷ ds → ⊥
    nil-cons d ds h = cc
first-passes test (u ∷ zs) z rest g = at (test u) refl g (λ h. first-passes test zs z rest h)
  where
    head-is : (a b : PinView) (us vs : List PinView) → a ∷ us ≡ b ∷ vs → a ≡ b
    head-is a b us vs h = cc

    at : (b : Bool) → test u ≡ b → cond (test u) (u ∷ filter test zs) (filter test zs) ≡ z ∷ rest → (filter test zs ≡ z ∷ rest → test z ≡ true) → test z ≡ true
    at true ok h more = ap test (sym (head-is u z (filter test zs) rest (sym (ap (λ b. cond b (u ∷ filter test zs) (filter test zs)) ok) ∙ h))) ∙ ok
    at false ok h more = more (sym (ap (λ b. cond b (u ∷ filter test zs) (filter test zs)) ok) ∙ h)

only-passes : (test : PinView → Bool) (xs : List PinView) (x : PinView) → only (filter test xs) ≡ Some x → test x ≡ true
only-passes test xs x e = in-rest (filter test xs) (first-passes test xs) e
  where
    in-rest : (zs : List PinView) → ((z : PinView) (rest : List PinView) → zs ≡ z ∷ rest → test z ≡ true) → only zs ≡ Some x → test x ≡ true
    in-rest [] each g = absurd (no-some x g)
    in-rest (z ∷ []) each g = ap test (sym (one-some z x g)) ∙ each z [] refl
    in-rest (z ∷ u ∷ rest) each g = absurd (no-some x g)

pub output-drives : (c : CellView) (x : PinView) → one_output c ≡ Some x → is_output_pin x ≡ true
output-drives c x e = only-passes is_output_pin c.pins x e

no-output : (x : PinView) → is_input_pin x ≡ true → is_output_pin x ≡ false
no-output x e = by x.direction refl
  where
    by : (d : Direction) → x.direction ≡ d → is_output_pin x ≡ false
    by Input g = ap (λ d. elim d as (λ _. Bool) [ Input ↦ false | Output ↦ true ]) g
    by Output g = absurd (true≢false (sym e ∙ ap (λ d. elim d as (λ _. Bool) [ Input ↦ true | Output ↦ false ]) g))

input-reads : (use_ : PinView → Bool) (c : CellView) (x : PinView) → input_for use_ c ≡ Some x → is_output_pin x ≡ false
input-reads use_ c x e = no-output x (first (is_input_pin x) (use_ x) (only-passes (λ q. is_input_pin q && use_ q) c.pins x e))
  where
    first : (a b : Bool) → (a && b) ≡ true → a ≡ true
    first true b g = refl
    first false b g = absurd (true≢false (sym g))

pub data-reads : (o : Operator) (c : CellView) (x : PinView) → data_pin o c ≡ Some x → is_output_pin x ≡ false
data-reads (Clamp t i) c x e = input-reads _ c x e
data-reads (Shift t a b) c x e = input-reads is_data c x e
