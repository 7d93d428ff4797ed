-- What the output of a cell that fits a clamp gives.
use Rattle.std.proofs.Common.{◌≡◌, Bool, true, false, not, ◌==◌, List, [], ◌∷◌, map, Option, Some, None, inl, inr, refl, sym, ap, ◌∙◌, subst}
use Rattle.std.specs.Prelude.{if◌then◌else◌, bytes_eq, is_some, flat_map, length}
use Rattle.std.specs.List.{list_all}
use Rattle.std.proofs.lemmas.Bool.{false≢true, and_parts}
use Rattle.lp_text.specs.Texts.{same_text-true, true-same_text}
use Rattle.lp_tern.specs.declared.tern.Tern.{Tern}
use Rattle.lp_tern.specs.declared.tern.Tern.TheVariants.{Zero, One, X}
use Rattle.lp_tern.specs.Values.{replacements, agreed, choose_of}
use Rattle.lp_expr.specs.Replaces.{Keeps}
use Rattle.lp_model.specs.declared.library.PinUse.{PinUse}
use Rattle.lp_model.specs.declared.library.PinUse.TheVariants as uses
use Rattle.lp_model.specs.LibraryView.{ExprView, PinView, CellView}
use Rattle.lp_behaviour.specs.Signals.{known}
use Rattle.lp_spec_design.specs.Keys.{Name}
use Rattle.lp_spec_design.specs.Winners.{IsIn}
use Rattle.lp_spec_design.specs.Graph.{is_output_pin}
use Rattle.lp_spec_design.specs.Settled.{sensed, output_by}
use Rattle.lp_spec_design.proofs.Members.{in-map, of-map, in-flat, of-flat}
use Rattle.lp_spec_pins.specs.Pins.{input_for}
use Rattle.lp_spec_fit.specs.Needs.{ClampNeed}
use Rattle.lp_spec_fit.specs.Joins.{relates_to, clamp_joins}
use Rattle.lp_spec_fit.specs.PowerDown.{power_down_equals}
use Rattle.lp_spec_fit.specs.Fits.{is_usable, is_iso_data, is_iso_enable, one_output, only_isolates, clamps, has_function, fits_with_pins, fits_clamp}
use Rattle.lp_spec_cells.specs.Sound.{passes_if_any, is_function_of, is_down_of, has_sound_functions, IsSound}
use Rattle.lp_spec_cells.proofs.Outcomes.{all-in, in-kept, of-kept}
use Rattle.lp_spec_cells.proofs.Functions.{some_bit, keeps-some}
use Rattle.lp_spec_cells.proofs.OverPins.{May, Given, LooksAt, value-over}
use Rattle.lp_spec_cells.proofs.Names.{IsInputFor, input-for, only-passes, same-named}

-- all that a clamp gives for what its data and its enable may be
abbrev clamped : Bool → Bool → Tern → Tern → List Bool
clamped clamp high d e = flat_map (λ x. map (λ y. clamps clamp high x y) (replacements e)) (replacements d)

clamp-table : (clamp high : Bool) (d e : Tern) → agreed (clamped clamp high d e) ≡ choose_of (sensed high e) (known clamp) d
clamp-table true true Zero Zero = refl
clamp-table true true Zero One = refl
clamp-table true true Zero X = refl
clamp-table true true One Zero = refl
clamp-table true true One One = refl
clamp-table true true One X = refl
clamp-table true true X Zero = refl
clamp-table true true X One = refl
clamp-table true true X X = refl
clamp-table true false Zero Zero = refl
clamp-table true false Zero One = refl
clamp-table true false Zero X = refl
clamp-table true false One Zero = refl
clamp-table true false One One = refl
clamp-table true false One X = refl
clamp-table true false X Zero = refl
clamp-table true false X One = refl
clamp-table true false X X = refl
clamp-table false true Zero Zero = refl
clamp-table false true Zero One = refl
clamp-table false true Zero X = refl
clamp-table false true One Zero = refl
clamp-table false true One One = refl
clamp-table false true One X = refl
clamp-table false true X Zero = refl
clamp-table false true X One = refl
clamp-table false true X X = refl
clamp-table false false Zero Zero = refl
clamp-table false false Zero One = refl
clamp-table false false Zero X = refl
clamp-table false false One Zero = refl
clamp-table false false One One = refl
clamp-table false false One X = refl
clamp-table false false X Zero = refl
clamp-table false false X One = refl
clamp-table false false X X = refl

-- no pin is for data and for the enable
two-uses : (q : PinView) (u : PinUse) → is_iso_data (record q { use_of = u }) ≡ true → is_iso_enable (record q { use_of = u }) ≡ true → ⊥
two-uses q uses.IsoData d e = false≢true e
two-uses q uses.Plain d e = false≢true d
two-uses q uses.IsoEnable d e = false≢true d
two-uses q uses.ShiftData d e = false≢true d
two-uses q uses.ShiftEnable d e = false≢true d
two-uses q uses.Switch d e = false≢true d
two-uses q (uses.Retain class save restore) d e = false≢true d

-- what a cell that fits has
pub record FitsClamp (n : ClampNeed) (c : CellView) (d e y : PinView) : Type 0 where
  pub alone : only_isolates c.roles ≡ true
  pub stateless : not (is_some c.state) ≡ true
  pub function : has_function (d.name ∷ e.name ∷ []) (λ v. clamps n.clamp n.high (v d.name) (v e.name)) y.function ≡ true
  pub down : power_down_equals c (clamp_joins n.supply n.place c) (n.supply ∷ []) y.power_down ≡ true

pub fits-clamp : (n : ClampNeed) (c : CellView) → fits_clamp n c ≡ true → (d e y : PinView) → input_for is_iso_data c ≡ Some d → input_for is_iso_enable c ≡ Some e → one_output c ≡ Some y → FitsClamp n c d e y
fits-clamp n c fits d e y at_d at_e at_y =
    let usable = and_parts (is_usable c) _ fits in
    let alone = and_parts (only_isolates c.roles) _ usable.1 in
    let stateless = and_parts (not (is_some c.state)) _ alone.1 in
    let three = and_parts (length c.pins == 3) _ stateless.1 in
    let pins : fits_with_pins n c (clamp_joins n.supply n.place c) (Some d) (Some e) (Some y) ≡ true = sym (λ i. fits_with_pins n c (clamp_joins n.supply n.place c) (at_d i) (at_e i) (at_y i)) ∙ three.1 in
    let function = and_parts (has_function (d.name ∷ e.name ∷ []) (λ v. clamps n.clamp n.high (v d.name) (v e.name)) y.function) _ pins in
    let related = and_parts (list_all (relates_to c (clamp_joins n.supply n.place c) n.supply) c.pins) _ function.1 in
    let down = and_parts (power_down_equals c (clamp_joins n.supply n.place c) (n.supply ∷ []) y.power_down) _ related.1 in
    record { alone = alone.0; stateless = stateless.0; function = function.0; down = down.0 }

pub none-there : {A : Type 0} (o : Option A) → not (is_some o) ≡ true → o ≡ None
none-there None e = refl
none-there (Some a) e = absurd (false≢true e)

-- the function of a pin of a sound cell, and its power-down function
pub sound-function : (c : CellView) (q : PinView) (f : ExprView) → IsSound c → IsIn q c.pins → q.function ≡ Some f → is_function_of c f ≡ true
sound-function c q f s m e = sym (ap (passes_if_any (is_function_of c)) e) ∙ (and_parts (passes_if_any (is_function_of c) q.function) (passes_if_any (is_down_of c) q.power_down) (all-in (has_sound_functions c) c.pins q s.pins m)).0

pub sound-down : (c : CellView) (q : PinView) (f : ExprView) → IsSound c → IsIn q c.pins → q.power_down ≡ Some f → is_down_of c f ≡ true
sound-down c q f s m e = sym (ap (passes_if_any (is_down_of c)) e) ∙ (and_parts (passes_if_any (is_function_of c) q.function) (passes_if_any (is_down_of c) q.power_down) (all-in (has_sound_functions c) c.pins q s.pins m)).1

module _ (c : CellView) (sound : IsSound c) (d e : PinView) (is_data : IsInputFor is_iso_data c d) (is_enable : IsInputFor is_iso_enable c e) where
  -- the data and the enable have two names
  pub two-names : bytes_eq e.name d.name ≡ false
  two-names = by (bytes_eq e.name d.name) refl
    where
      by : (b : Bool) → bytes_eq e.name d.name ≡ b → b ≡ false
      by false g = refl
      by true g =
          let same : e ≡ d = same-named (λ (q : PinView). q.name) c.pins e d sound.names_apart is_enable.is_in is_data.is_in (same_text-true e.name d.name g) in
          absurd (two-uses d d.use_of is_data.for (ap is_iso_enable (sym same) ∙ is_enable.for))

  module _ (clamp high : Bool) (pins : Name → Tern) where
    abbrev pub f : (Name → Bool) → Bool
    f u = clamps clamp high (u d.name) (u e.name)

    in-clamped : (x y : Bool) → Keeps (pins d.name) x → Keeps (pins e.name) y → IsIn (clamps clamp high x y) (clamped clamp high (pins d.name) (pins e.name))
    in-clamped x y k l =
        in-flat (λ a. map (λ b. clamps clamp high a b) (replacements (pins e.name))) x (clamps clamp high x y) (replacements (pins d.name)) (in-kept (pins d.name) x k)
        (in-map (λ b. clamps clamp high x b) y (replacements (pins e.name)) (in-kept (pins e.name) y l))

    -- these bits at the two pins
    with_bits : Bool → Bool → Name → Bool
    with_bits x y n = if bytes_eq n d.name then x else if bytes_eq n e.name then y else some_bit (pins n)

    bits-may : (x y : Bool) → Keeps (pins d.name) x → Keeps (pins e.name) y → May pins (with_bits x y)
    unfolding with_bits
    bits-may x y k l n = by (bytes_eq n d.name) refl (bytes_eq n e.name) refl
      where
        by : (p : Bool) → bytes_eq n d.name ≡ p → (q : Bool) → bytes_eq n e.name ≡ q → Keeps (pins n) (if p then x else if q then y else some_bit (pins n))
        by true g q h = subst (λ m. Keeps (pins m) x) (sym (same_text-true n d.name g)) k
        by false g true h = subst (λ m. Keeps (pins m) y) (sym (same_text-true n e.name h)) l
        by false g false h = keeps-some (pins n)

    bits-give : (x y : Bool) → f (with_bits x y) ≡ clamps clamp high x y
    unfolding with_bits
    bits-give x y = λ i. clamps clamp high
        (if true-same_text d.name d.name refl i then x else if bytes_eq d.name e.name then y else some_bit (pins d.name))
        (if two-names i then x else if true-same_text e.name e.name refl i then y else some_bit (pins e.name))

    of-clamped : (b : Bool) → IsIn b (clamped clamp high (pins d.name) (pins e.name)) → Given pins f b
    of-clamped b m =
        let first = of-flat (λ a. map (λ z. clamps clamp high a z) (replacements (pins e.name))) b (replacements (pins d.name)) m in
        let second = of-map (λ z. clamps clamp high first.0 z) b (replacements (pins e.name)) first.2 in
        let k = of-kept (pins d.name) first.0 first.1 in
        let l = of-kept (pins e.name) second.0 second.1 in
        record { by = with_bits first.0 second.0; may = bits-may first.0 second.0 k l; is = second.2 ∙ sym (bits-give first.0 second.0) }

    looks-at : LooksAt (d.name ∷ e.name ∷ []) f
    looks-at u v h = λ i. clamps clamp high (h d.name (inl refl) i) (h e.name (inr (inl refl)) i)

    pub clamp-value : (none : c.state ≡ None) (state : Tern) (o : Option ExprView) → ((g : ExprView) → o ≡ Some g → is_function_of c g ≡ true)
        → has_function (d.name ∷ e.name ∷ []) f o ≡ true → output_by c pins state o ≡ choose_of (sensed high (pins e.name)) (known clamp) (pins d.name)
    clamp-value none state None functions h = absurd (false≢true h)
    clamp-value none state (Some g) functions h =
        value-over c none pins state g (functions g refl) (d.name ∷ e.name ∷ []) f h looks-at (clamped clamp high (pins d.name) (pins e.name))
        (λ u may. in-clamped (u d.name) (u e.name) (may d.name) (may e.name)) of-clamped
        ∙ clamp-table clamp high (pins d.name) (pins e.name)

pub clamp-gives : (n : ClampNeed) (c : CellView) → fits_clamp n c ≡ true → IsSound c
    → (d e y : PinView) → input_for is_iso_data c ≡ Some d → input_for is_iso_enable c ≡ Some e → one_output c ≡ Some y
    → (pins : Name → Tern) (state : Tern)
    → output_by c pins state y.function ≡ choose_of (sensed n.high (pins e.name)) (known n.clamp) (pins d.name)
clamp-gives n c fits sound d e y at_d at_e at_y pins state =
    let parts = fits-clamp n c fits d e y at_d at_e at_y in
    let there = only-passes is_output_pin c.pins y at_y in
    clamp-value c sound d e (input-for is_iso_data c d at_d) (input-for is_iso_enable c e at_e) n.clamp n.high pins
    (none-there c.state parts.stateless) state y.function (λ g at. sound-function c y g sound there.0 at) parts.function
